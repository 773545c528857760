-- Answers held against one of ours, worked by hand and computed by the definitions alone.
use Rattle.std.specs.Prelude.{Bool, ◌&&◌, List, [], ◌∷◌, ◌++◌, ℕ, zero, suc, ◌+◌, eqb, length, take}
use Rattle.octets.specs.Numbers.{in24, in32}
use Rattle.message.specs.WritingTheAnswer.{avp_bytes}
use Rattle.message.specs.WorkedCases.{session, own_host, own_realm}
use Rattle.likeness.specs.TheSameAnswer.{Finding, answer_finding, same_answer}

-- An AVP without V whose flag byte and padding are said.
unfoldable pub avp_with : (flags code : ℕ) → (value padding : List ℕ) → List ℕ
avp_with flags code value padding = in32 code ++ (flags ∷ in24 (8 + length value) ++ (value ++ padding))

-- The header of an answer to a 265 with the identifiers 7 and 9, its AVPs behind it.
unfoldable pub answer_with : (flags : ℕ) → (avps : List ℕ) → List ℕ
answer_with flags avps = 1 ∷ in24 (20 + length avps) ++ (flags ∷ in24 265 ++ (in32 1 ++ (in32 7 ++ (in32 9 ++ avps))))

-- Session-Id "s;a" (12 bytes), Result-Code 2001 (12), the host "aaa" (12), the realm "r" (12), and two Proxy-Infos (12 each), which end at byte 92.
unfoldable pub first : List ℕ
first = avp_bytes 263 (session 97)

unfoldable pub result : List ℕ
result = avp_bytes 268 (in32 2001)

unfoldable pub names : List ℕ
names = avp_bytes 264 own_host ++ avp_bytes 296 own_realm

unfoldable pub proxy : ℕ → List ℕ
proxy n = avp_bytes 284 (in32 n)

unfoldable pub proxies : List ℕ
proxies = proxy 1 ++ proxy 2

unfoldable pub ours : List ℕ
ours = answer_with 64 (first ++ (result ++ (names ++ proxies)))

-- Failed-AVPs one inside another, the innermost with nothing in it.
unfoldable pub nested : ℕ → List ℕ
nested zero = []
nested (suc n) = avp_bytes 279 (nested n)

unfoldable pub tells : Finding → (number mismatch at : ℕ) → Bool
tells f number mismatch at = eqb f.number number && (eqb f.mismatch mismatch && eqb f.at at)

unfoldable pub accepted : (theirs : List ℕ) → Bool
accepted theirs = tells (answer_finding ours theirs) 0 0 0 && same_answer ours theirs

-- Itself; the names before the result; another padding of Origin-Realm; AVPs without M that ours lacks, one of them twice; Failed-AVPs, four one inside
-- another; and none where none is due.
unfoldable pub the_same : Bool
the_same =
    accepted ours
    && (accepted (answer_with 64 (first ++ (names ++ (proxies ++ result))))
    && (accepted (answer_with 64 (first ++ (result ++ (avp_bytes 264 own_host ++ (avp_with 64 296 own_realm (1 ∷ 2 ∷ 3 ∷ []) ++ proxies)))))
    && (accepted (answer_with 64 (first ++ (avp_with 0 33 [] [] ++ (avp_with 0 33 [] [] ++ (result ++ (names ++ proxies))))))
    && (accepted (answer_with 64 (first ++ (nested 4 ++ (result ++ (names ++ (proxies ++ nested 1))))))
    && tells (answer_finding [] []) 0 0 0))))

-- Another flag; a length that is not its own; fewer than 20 bytes; none where one is due; one where none is due.
unfoldable pub other_headers : Bool
other_headers =
    tells (answer_finding ours (answer_with 0 (first ++ (result ++ (names ++ proxies))))) 32 1 4
    && (tells (answer_finding ours (ours ++ avp_with 0 33 [] [])) 32 1 3
    && (tells (answer_finding ours (take 1 ours)) 32 1 1
    && (tells (answer_finding ours []) 32 1 0 && tells (answer_finding [] ours) 32 1 0)))

-- Four bytes behind the last AVP, and inside a group, told where they start; a fifth group inside four, which is told before another header;
-- an AVP that fails before such a group is all that the walk sees.
unfoldable pub other_walks : Bool
other_walks =
    tells (answer_finding ours (answer_with 64 (first ++ (result ++ (names ++ (proxies ++ in32 0)))))) 32 2 92
    && (tells (answer_finding ours (answer_with 64 (first ++ avp_bytes 279 (result ++ avp_with 64 268 (in32 1) [] ++ in32 0)))) 32 2 64
    && (tells (answer_finding ours (answer_with 0 (first ++ (result ++ (names ++ (proxies ++ nested 5)))))) 31 0 0
    && (tells (answer_finding ours (answer_with 64 (first ++ (avp_with 1 33 [] [] ++ nested 5)))) 32 2 32
    && tells (answer_finding ours (answer_with 0 (first ++ (avp_with 1 33 [] [] ++ nested 5)))) 32 1 4)))

-- Session-Id second; the Proxy-Infos changed round; a third; another code; the code without M; a second code without M; one that ours lacks with M; the first of
-- two that do not fit.
unfoldable pub other_places : Bool
other_places =
    tells (answer_finding ours (answer_with 64 (result ++ (first ++ (names ++ proxies))))) 32 3 20
    && (tells (answer_finding ours (answer_with 64 (first ++ (result ++ (names ++ (proxy 2 ++ proxy 1)))))) 32 3 68
    && (tells (answer_finding ours (answer_with 64 (first ++ (result ++ (names ++ (proxies ++ proxy 2)))))) 32 3 92
    && (tells (answer_finding ours (answer_with 64 (first ++ (avp_bytes 268 (in32 5012) ++ (names ++ proxies))))) 32 3 32
    && (tells (answer_finding ours (answer_with 64 (first ++ (avp_with 0 268 (in32 2001) [] ++ (names ++ proxies))))) 32 3 32
    && (tells (answer_finding ours (answer_with 64 (first ++ (result ++ (names ++ (proxies ++ avp_with 0 268 (in32 5012) [])))))) 32 3 92
    && (tells (answer_finding ours (answer_with 64 (first ++ (avp_with 64 33 [] [] ++ (result ++ (names ++ proxies)))))) 32 3 32
    && tells (answer_finding ours (answer_with 64 (first ++ (avp_with 64 33 [] [] ++ (avp_bytes 268 (in32 5012) ++ names))))) 32 3 32))))))

-- No code; one Proxy-Info; no AVP at all.
unfoldable pub missing_ones : Bool
missing_ones =
    tells (answer_finding ours (answer_with 64 (first ++ (names ++ proxies)))) 32 4 0
    && (tells (answer_finding ours (answer_with 64 (first ++ (result ++ (names ++ proxy 1))))) 32 4 0 && tells (answer_finding ours (answer_with 64 [])) 32 4 0)

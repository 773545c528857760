-- Writing the answer.
use Rattle.std.specs.Prelude.{Bool, ◌&&◌, not, List, [], ◌∷◌, ◌++◌, ℕ, ◌+◌, ◌-◌, ◌*◌, ◌/◌, ◌%◌, eqb, length, drop}
use Rattle.octets.specs.Choice.{pick, within}
use Rattle.octets.specs.Texts.{part, zeros}
use Rattle.octets.specs.Numbers.{in24, in32, up4}
use Rattle.message.specs.Codes.{Code, none, plain, experimental, number_of}
use Rattle.message.specs.ReadingAMessage.{Avp, flags, command, body, header_code, same_name, avp_code, avp_of, avps, walk_code, session_id, user_name, proxy_info, having, value_of}

-- An AVP of ours: V clear, M set (64), the length without the padding, and zeros as padding.
-- The length of a group counts the padding inside it, since that is part of its value.
unfoldable pub avp_bytes : ℕ → List ℕ → List ℕ
avp_bytes code value = in32 code ++ (64 ∷ in24 (8 + length value) ++ (value ++ zeros (up4 (length value) - length value)))

-- Session-Id: copied if the first AVP is Session-Id, passes the four tests of the walk and has 1 to 128 bytes.
-- It is looked at whatever else fails.
unfoldable pub session_avp : List ℕ → List ℕ
session_avp m =
    let first : Avp = avp_of (body m) in
    pick (eqb (avp_code (body m)) 0 && (same_name session_id first.name && within 1 128 (length first.value)))
    (avp_bytes 263 first.value) []

-- 3xxx: a code from 3000 to 3999.
unfoldable pub is3xxx : Code → Bool
is3xxx c = within 3000 3999 (number_of c)

-- For 265, unless the code is 3xxx: Auth-Application-Id 1 and Auth-Request-Type 2.
unfoldable pub auth_avps : List ℕ → Code → List ℕ
auth_avps m c = pick (eqb (command m) 265 && not (is3xxx c)) (avp_bytes 258 (in32 1) ++ avp_bytes 274 (in32 2)) []

-- Result-Code, or Experimental-Result with Vendor-Id 10415 and Experimental-Result-Code.
unfoldable pub result_avp : Code → List ℕ
result_avp (none n) = []
result_avp (plain n) = avp_bytes 268 (in32 n)
result_avp (experimental n) = avp_bytes 297 (avp_bytes 266 (in32 10415) ++ avp_bytes 298 (in32 n))

-- For a 265 that succeeds: Subscription-Id with type 1 (IMSI) and the name.
unfoldable pub subscription_avp : List ℕ → Code → List ℕ
subscription_avp m c =
    pick (eqb (command m) 265 && eqb (number_of c) 2001)
    (avp_bytes 443 (avp_bytes 450 (in32 1) ++ avp_bytes 444 (value_of user_name (avps m)))) []

-- Every Proxy-Info of a message whose header and walk are without fault, as it came, padding too, one behind the other.
unfoldable pub all_bytes : List Avp → List ℕ
all_bytes [] = []
all_bytes (a ∷ xs) = a.bytes ++ all_bytes xs

unfoldable pub proxy_avps : List ℕ → List ℕ
proxy_avps m = pick (eqb (header_code m) 0 && eqb (walk_code m) 0) (all_bytes (having proxy_info (avps m))) []

-- The AVPs of the answer, with the server's own host and realm, codes 264 and 296.
unfoldable pub answer_body : (m host realm : List ℕ) → Code → List ℕ
answer_body m host realm c =
    session_avp m
    ++ (auth_avps m c ++ (result_avp c ++ (avp_bytes 264 host ++ (avp_bytes 296 realm ++ (subscription_avp m c ++ proxy_avps m)))))

-- The flags: P (64) as received, E (32) exactly for 3xxx, the others clear.
unfoldable pub answer_flags : List ℕ → Code → ℕ
answer_flags m c = flags m / 64 % 2 * 64 + pick (is3xxx c) 32 0

-- The answer: version 1, its true length, the flags; command, Application-Id and both identifiers (bytes 5 to 19)
-- copied; then the AVPs.
unfoldable pub answer : (m host realm : List ℕ) → Code → List ℕ
answer m host realm c =
    let avps = answer_body m host realm c in
    1 ∷ in24 (20 + length avps) ++ (answer_flags m c ∷ part m 5 15 ++ avps)

-- The answer room afterwards: the answer, and behind it what stood there.
unfoldable pub answer_room : (m host realm : List ℕ) → Code → List ℕ → List ℕ
answer_room m host realm c room =
    let bytes = answer m host realm c in
    bytes ++ drop (length bytes) room

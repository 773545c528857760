-- The same answer (request W10 of document 02): what another server answered is held against what ours answers. `ours` and `theirs` are the two
-- answers as they are sent, no bytes for no answer.
use Rattle.std.specs.Prelude.{Bool, true, false, ◌&&◌, ◌||◌, not, List, [], ◌∷◌, ◌++◌, ℕ, zero, suc, ◌+◌, ◌-◌, ◌/◌, ◌%◌, eqb, leb, length, get_or, take, drop}
use Rattle.octets.specs.Choice.{pick}
use Rattle.octets.specs.Lists.{every}
use Rattle.octets.specs.Numbers.{up4}
use Rattle.octets.specs.Texts.{part, same}
use Rattle.message.specs.ReadingAMessage.{Name, base, same_name, session_id, Avp, avp_length, avp_code, avp_of, walk, body, having, present, starts_with}

-- WHAT IS TOLD

-- A finding: a number, 0 where there is nothing to tell; with 32 the kind of the mismatch, 1 header, 2 walk, 3 an AVP, 4 one is missing,
-- 5 notice, 6 row; and the byte at which it is, else 0.
pub record Finding : Type 0 where
  pub number : ℕ
  pub mismatch : ℕ
  pub at : ℕ

abbrev pub nothing : Finding
nothing = record { number = 0; mismatch = 0; at = 0 }

abbrev pub too_deep : Finding
too_deep = record { number = 31; mismatch = 0; at = 0 }

abbrev pub differs : (mismatch at : ℕ) → Finding
differs kind at = record { number = 32; mismatch = kind; at = at }

-- Of two findings the first that tells something.
unfoldable pub or_else : Finding → Finding → Finding
or_else f g = pick (eqb f.number 0) g f

-- Nothing to tell where a test passes.
unfoldable pub unless : Bool → Finding → Finding
unless b f = pick b nothing f

-- How many bytes agree from the start on. Where two texts differ this is the first byte that does; a byte that only one of them has differs.
unfoldable pub agreeing : List ℕ → List ℕ → ℕ
agreeing [] t = 0
agreeing (x ∷ s) [] = 0
agreeing (x ∷ s) (y ∷ t) = pick (eqb x y) (suc (agreeing s t)) 0

-- Two texts are the same, else the mismatch at the first byte that differs.
unfoldable pub compared : (mismatch : ℕ) → List ℕ → List ℕ → Finding
compared kind s t = unless (same s t) (differs kind (agreeing s t))

-- GROUPS

abbrev pub failed_avp : Name
failed_avp = base 279

-- Failed-AVP, Experimental-Result and Subscription-Id, none with V. Proxy-Info is none of them.
unfoldable pub is_group : Name → Bool
is_group n = same_name failed_avp n || (same_name (base 297) n || same_name (base 443) n)

-- One AVP after another, by the four tests of document 01. An AVP that fails ends the walk, and so does what is found inside a group, which
-- is walked as it comes: `inside` walks its value, `onward` the bytes behind the AVP; `at` is where the AVP starts in the answer.
unfoldable pub inside_of : (inside : ℕ → List ℕ → Finding) → (at : ℕ) → List ℕ → Finding
inside_of inside at s =
    let walked : Finding = inside (at + 8) (avp_of s).value in
    pick (is_group (avp_of s).name) walked nothing

unfoldable pub fault_one : (inside onward : ℕ → List ℕ → Finding) → (at : ℕ) → List ℕ → Finding
fault_one inside onward at s =
    let here : Finding = inside_of inside at s in
    let further : Finding = onward (at + up4 (avp_length s)) (drop (up4 (avp_length s)) s) in
    pick (eqb (length s) 0) nothing (pick (eqb (avp_code s) 0) (or_else here further) (differs 2 at))

-- No more than n AVPs; no bytes hold more AVPs than there are bytes, so that `fault_by` walks all (`fault-is` of proofs/Groups.antt).
unfoldable pub fault_up_to : (inside : ℕ → List ℕ → Finding) → ℕ → (at : ℕ) → List ℕ → Finding
fault_up_to inside zero at s = nothing
fault_up_to inside (suc n) at s = fault_one inside (λ p t. fault_up_to inside n p t) at s

unfoldable pub fault_by : (inside : ℕ → List ℕ → Finding) → (at : ℕ) → List ℕ → Finding
fault_by inside at s = fault_up_to inside (suc (length s)) at s

-- The first fault, where groups may still nest to this depth: a group where none may is too deep, whatever is in it.
unfoldable pub fault_in : (depth : ℕ) → (at : ℕ) → List ℕ → Finding
fault_in zero at s = fault_by (λ p v. too_deep) at s
fault_in (suc d) at s = fault_by (λ p v. fault_in d p v) at s

-- A group at the top has depth 1, and four may stand one inside another. The answer is walked from byte 20 to its end, whatever its header says.
unfoldable pub fault : (theirs : List ℕ) → Finding
fault theirs = fault_in 4 20 (body theirs)

-- THE HEADER

-- The three bytes of a true length. Of 2^24 bytes or more none can be written: the first is then no byte.
unfoldable pub true_length : ℕ → List ℕ
true_length n = n / 65536 ∷ n / 256 % 256 ∷ n % 256 ∷ []

-- The header that an answer of n bytes has to have: ours, but for the length, which is its own; none where ours is no answer.
unfoldable pub header_due : (ours : List ℕ) → ℕ → List ℕ
header_due ours n = pick (leb 20 (length ours)) (get_or ours 0 0 ∷ true_length n ++ part ours 4 16) []

-- An answer where none is due, none where one is due, and one of fewer than 20 bytes have another header than the one due.
unfoldable pub header_finding : (ours theirs : List ℕ) → Finding
header_finding ours theirs = compared 1 (take 20 theirs) (header_due ours (length theirs))

-- THE AVPS BY PLACE

-- Compared are the flag byte and the value. Padding is neither.
unfoldable pub flag_byte : Avp → ℕ
flag_byte a = get_or a.bytes 4 0

unfoldable pub same_avp : Avp → Avp → Bool
same_avp a b = eqb (flag_byte a) (flag_byte b) && same a.value b.value

unfoldable pub first_is : List Avp → Avp → Bool
first_is [] a = false
first_is (b ∷ bs) a = same_avp b a

-- An AVP of theirs is met by the first of its name in ours that none before it has met; `rest` begins with it, so that of its name
-- as many stand before it as all of theirs have more than `rest`.
unfoldable pub met : (ours theirs rest : List Avp) → Avp → Bool
met ours theirs rest a =
    let n : Name = a.name in
    first_is (drop (length (having n theirs) - length (having n rest)) (having n ours)) a

-- In its place: Failed-AVP may always stand there; a name that ours lacks, where M is clear; any other has to be met.
unfoldable pub fits : (ours theirs rest : List Avp) → Avp → Bool
fits ours theirs rest a =
    same_name failed_avp a.name || pick (present a.name ours) (met ours theirs rest a) (not a.mandatory)

-- Where the first starts that does not fit, 0 where all do; `at` is where `rest` starts.
unfoldable pub misplaced_from : (ours theirs : List Avp) → (at : ℕ) → (rest : List Avp) → ℕ
misplaced_from ours theirs at [] = 0
misplaced_from ours theirs at (a ∷ xs) =
    pick (fits ours theirs (a ∷ xs) a) (misplaced_from ours theirs (at + length a.bytes) xs) at

-- Where ours starts with Session-Id, the first place is that of theirs: nothing else may stand there.
unfoldable pub starts_like : (ours theirs : List Avp) → Bool
starts_like ours [] = true
starts_like ours (a ∷ xs) = not (starts_with session_id ours) || same_name session_id a.name

unfoldable pub misplaced : (ours theirs : List Avp) → ℕ
misplaced ours theirs = pick (starts_like ours theirs) (misplaced_from ours theirs 20 theirs) 20

unfoldable pub place_finding : (ours theirs : List Avp) → Finding
place_finding ours theirs = unless (eqb (misplaced ours theirs) 0) (differs 3 (misplaced ours theirs))

-- A MISSING ONE

-- Of each name of ours theirs has no fewer. Where all of theirs fit it has no more either.
unfoldable pub complete : (ours theirs : List Avp) → Bool
complete ours theirs = every (λ (a : Avp). leb (length (having a.name ours)) (length (having a.name theirs))) ours

unfoldable pub missing_finding : (ours theirs : List Avp) → Finding
missing_finding ours theirs = unless (complete ours theirs) (differs 4 0)

-- THE ANSWER AS A WHOLE

-- The AVPs of an answer, by the four tests alone.
unfoldable pub avps_of : (answer : List ℕ) → List Avp
avps_of answer = (walk (body answer)).avps

-- A group that is too deep is told before everything else; then the first of: another header, an AVP that fails, one out of place, a missing one.
unfoldable pub answer_finding : (ours theirs : List ℕ) → Finding
answer_finding ours theirs =
    let found : Finding = fault theirs in
    pick (eqb found.number 31) found
    (or_else (header_finding ours theirs)
    (or_else found (or_else (place_finding (avps_of ours) (avps_of theirs)) (missing_finding (avps_of ours) (avps_of theirs)))))

-- The same answer: its header is the one due, no AVP fails and no group is too deep, it starts as ours does, every AVP fits in its place, none is missing.
unfoldable pub same_answer : (ours theirs : List ℕ) → Bool
same_answer ours theirs =
    same (take 20 theirs) (header_due ours (length theirs))
    && (eqb (fault theirs).number 0
    && (eqb (misplaced (avps_of ours) (avps_of theirs)) 0 && complete (avps_of ours) (avps_of theirs)))

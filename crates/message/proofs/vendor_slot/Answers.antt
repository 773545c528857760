-- Vendor and code are looked up among the names: those of 3GPP that are asked for have their place, the one that is known besides comes
-- behind them, and then what is no known name.
use mathlib.Core.Path.{◌≡◌, refl, sym}
use mathlib.Core.Bool.{Bool, true, false, ◌&&◌}
use mathlib.Core.List.{List, [], ◌∷◌}
use Prim.Native.Nat.{ℕ}
use lib.Dec.{eqb}
use borrow.Author.Tests.{ne_eqb}
use Rattle.octets.specs.Choice.{pick}
use Rattle.octets.specs.Lists.{every, is_on}
use Rattle.message.specs.ReadingAMessage.{Name, base, vendor, same_name, named_in01, codes_of_aa_request, codes_of_termination, known_avps, is_one_of, known}
use Rattle.message.specs.Positions.{names, not_known, slot_in, slot_of}
use Rattle.message.proofs.Known.{not_known_lem}
use Rattle.message.proofs.vendor_slot.Goals as goal

codes : List ℕ
codes = 600 ∷ 311 ∷ 100 ∷ 312 ∷ 304 ∷ []

-- each known name with V is of 3GPP and has one of the codes
is_here : Name → Bool
is_here (base k) = true
is_here (vendor v k) = eqb 10415 v && is_on codes k

all_here : every is_here known_avps ≡ true
unfolding every is_on is_here codes known_avps named_in01 codes_of_aa_request codes_of_termination
all_here = refl

none_of : (k : ℕ) → (k ≡ 600 → ⊥) → (k ≡ 311 → ⊥) → (k ≡ 100 → ⊥) → (k ≡ 312 → ⊥) → (k ≡ 304 → ⊥) → is_on codes k ≡ false
unfolding is_on every codes
none_of k n0 n1 n2 n3 n4 = simp (ne_eqb 600 k (λ e. n0 (sym e)), ne_eqb 311 k (λ e. n1 (sym e)), ne_eqb 100 k (λ e. n2 (sym e)), ne_eqb 312 k (λ e. n3 (sym e)), ne_eqb 304 k (λ e. n4 (sym e)))

unknown : (v k : ℕ) → known (vendor v k) ≡ false → not_known ≡ slot_of (vendor v k)
unfolding slot_of pick
unknown v k e = rw e

pub returns-then-id-ne10415 : goal.returns-then-id-ne10415
unfolding is_here
returns-then-id-ne10415 c =
    let a = c.args in
    unknown a.id a.code (not_known_lem is_here (vendor a.id a.code) all_here (rw (ne_eqb 10415 a.id (λ e. c.if-id-ne10415.true (sym e)))))

pub returns-in-600 : goal.returns-in-600
unfolding names slot_in slot_of same_name pick known known_avps named_in01 codes_of_aa_request codes_of_termination is_one_of
returns-in-600 c = rw (c.if-id-ne10415.false, c.in-600.is)

pub returns-in-311 : goal.returns-in-311
unfolding names slot_in slot_of same_name pick known known_avps named_in01 codes_of_aa_request codes_of_termination is_one_of
returns-in-311 c = rw (c.if-id-ne10415.false, c.in-311.is)

pub returns-in-100 : goal.returns-in-100
unfolding names slot_in slot_of same_name pick known known_avps named_in01 codes_of_aa_request codes_of_termination is_one_of
returns-in-100 c = rw (c.if-id-ne10415.false, c.in-100.is)

pub returns-in-312 : goal.returns-in-312
unfolding names slot_in slot_of same_name pick known known_avps named_in01 codes_of_aa_request codes_of_termination is_one_of
returns-in-312 c = rw (c.if-id-ne10415.false, c.in-312.is)

pub returns-in-304 : goal.returns-in-304
unfolding names slot_in slot_of same_name pick known known_avps named_in01 codes_of_aa_request codes_of_termination is_one_of
returns-in-304 c = rw (c.if-id-ne10415.false, c.in-304.is)

pub returns-in_default : goal.returns-in_default
unfolding is_here
returns-in_default c =
    let n = c.in_default.in_default-own.rest in
    let a = c.args in
    unknown a.id a.code
    (not_known_lem is_here (vendor a.id a.code) all_here
    (rw (c.if-id-ne10415.false, none_of a.code n.0.0.0.0.1 n.0.0.0.1 n.0.0.1 n.0.1 n.1)))

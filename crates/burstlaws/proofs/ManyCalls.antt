-- Many calls equal one: the last two are one, then that one and the one before it. The second of two calls has the number of the one call, so that it
-- is not refused by 18 either.
use mathlib.Core.Path.{◌≡◌, refl, sym, ap, ◌∙◌}
use mathlib.Core.List.{[], ◌∷◌}
use Prim.Native.Nat.{ℕ}
use lib.Dec.{eqb}
use Rattle.burst.specs.TheBurst.{Burst, Bursted, burst, burst_number}
use Rattle.burst.specs.GoingOn.{rest, together}
use Rattle.burstlaws.specs.BurstsRules.{first_part}
use Rattle.burstlaws.specs.ManyCalls.{ManyCalls, in_calls}
use Rattle.burstlaws.proofs.ToldEach.{number_is}
use Rattle.burstlaws.proofs.TwoCalls.{two-calls}

number-last : (f : ℕ) (x y : Bursted) → (together f x y).taken.number ≡ y.taken.number
unfolding together
number-last f x y = refl

pub many-calls : ManyCalls
unfolding in_calls
many-calls t b [] not18 = refl
many-calls t b (p ∷ ps) not18 =
    let f : ℕ = t.form in
    let x : Bursted = burst t (first_part p b) in
    let left : Burst = rest f x.taken b in
    let two : together f x (burst x.table left) ≡ burst t b = two-calls t b p not18 in
    let number : burst_number x.table left ≡ burst_number t b =
    sym (number_is x.table left) ∙ sym (number-last f x (burst x.table left)) ∙ ap (λ (y : Bursted). y.taken.number) two ∙ number_is t b in
    ap (together f x) (many-calls x.table left ps (ap (λ (n : ℕ). eqb n 18) number ∙ not18)) ∙ two

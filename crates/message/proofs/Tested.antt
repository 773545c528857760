-- A field's tests, by how often its AVP is there. A field that may be there once has three cases: none, one, several.
use mathlib.Core.Path.{◌≡◌, refl, ◌∙◌}
use mathlib.Core.Bool.{Bool, true, not}
use mathlib.Core.List.{List, [], ◌∷◌}
use Prim.Native.Nat.{ℕ, ◌≤◌, ◌<◌}
use native.Mathlib.Omega.{arith}
use borrow.Author.Tests.{leb-true, eqb-true, le-leb, lt-leb}
use lib.Dec.{eqb, leb}
use lib.ListN.{length}
use Rattle.octets.specs.Choice.{pick, require, first_of, within}
use Rattle.octets.specs.Lists.{every}
use Rattle.octets.proofs.Lists.{by-test, both}
use Rattle.octets.proofs.Choice.{first_passes, others-pass, passed}
use Rattle.message.specs.ReadingAMessage.{Avp, Field, each_code, tested_as}

-- ONE

first-is : (n : ℕ) → first_of (n ∷ []) ≡ n
unfolding first_of pick
first-is n = by-test (eqb n 0) (λ e. rw (e, eqb-true n 0 e)) (λ e. rw e)

pub tested-none : (f : Field) → tested_as f [] ≡ require (not f.required) 5005
unfolding tested_as
tested-none f = refl

-- no more than there may be: each is tested
pub tested-each : (f : Field) (a : Avp) (xs : List Avp) → length (a ∷ xs) ≤ f.most → tested_as f (a ∷ xs) ≡ each_code f (a ∷ xs)
unfolding tested_as first_of pick require
tested-each f a xs h = rw (le-leb (length (a ∷ xs)) f.most h) (first-is (each_code f (a ∷ xs)))

pub each-one : (f : Field) (a : Avp)
    → each_code f (a ∷ []) ≡ first_of (require (within f.low f.high (length a.value)) 5014 ∷ require (f.allowed a.value) 5004 ∷ [])
unfolding each_code first_of pick
each-one f a = refl

pub tested-one : (f : Field) (a : Avp) → 1 ≤ f.most
    → tested_as f (a ∷ []) ≡ first_of (require (within f.low f.high (length a.value)) 5014 ∷ require (f.allowed a.value) 5004 ∷ [])
tested-one f a h = tested-each f a [] h ∙ each-one f a

-- MORE

pub tested-over : (f : Field) (a : Avp) (xs : List Avp) → f.most < length (a ∷ xs) → tested_as f (a ∷ xs) ≡ 5009
unfolding tested_as first_of pick require
tested-over f a xs h = rw (lt-leb (length (a ∷ xs)) f.most h)

pub tested-several : (f : Field) (a b : Avp) (xs : List Avp) → f.most ≡ 1 → tested_as f (a ∷ (b ∷ xs)) ≡ 5009
tested-several f a b xs h = tested-over f a (b ∷ xs) (omega arith)

-- WHAT PASSES

pub passes_count : (f : Field) (xs : List Avp) → tested_as f xs ≡ 0 → length xs ≤ f.most
unfolding tested_as
passes_count f [] e = omega arith
passes_count f (a ∷ xs) e =
    leb-true (length (a ∷ xs)) f.most
    (passed (leb (length (a ∷ xs)) f.most) 5009 (omega arith) (first_passes (require (leb (length (a ∷ xs)) f.most) 5009) _ e))

pub none-coded : (f : Field) → each_code f [] ≡ 0
unfolding each_code
none-coded f = refl

pub passes-each : (f : Field) (xs : List Avp) → tested_as f xs ≡ 0 → each_code f xs ≡ 0
unfolding tested_as
passes-each f [] e = none-coded f
passes-each f (a ∷ xs) e = first_passes (each_code f (a ∷ xs)) [] (others-pass (require (leb (length (a ∷ xs)) f.most) 5009) _ e)

-- the length of a value is one that the field may have
unfoldable pub fits_in : Field → Avp → Bool
fits_in f a = within f.low f.high (length a.value)

pub each_fits : (f : Field) (xs : List Avp) → each_code f xs ≡ 0 → every (fits_in f) xs ≡ true
unfolding each_code every fits_in
each_fits f [] e = refl
each_fits f (a ∷ xs) e =
    let w = require (within f.low f.high (length a.value)) 5014 in
    let v = require (f.allowed a.value) 5004 in
    let r = others-pass w _ e in
    both
    (passed (within f.low f.high (length a.value)) 5014 (omega arith) (first_passes w _ e))
    (each_fits f xs (first_passes (each_code f xs) [] (others-pass v _ r)))

-- one that must be there and passes is there
pub passes-there : (f : Field) (xs : List Avp) → f.required ≡ true → tested_as f xs ≡ 0 → 1 ≤ length xs
unfolding tested_as require
passes-there f [] r e = absurd (let g = rw r at e in omega arith)
passes-there f (a ∷ xs) r e = omega arith

-- the value of the first is one that the field may have
pub first-allowed : (f : Field) (a : Avp) (xs : List Avp) → each_code f (a ∷ xs) ≡ 0 → require (f.allowed a.value) 5004 ≡ 0
unfolding each_code
first-allowed f a xs e =
    first_passes (require (f.allowed a.value) 5004) _ (others-pass (require (within f.low f.high (length a.value)) 5014) _ e)

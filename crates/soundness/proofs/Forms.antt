-- What is asked of the blocks of a place: of one in form 1, of two in form 2.
use mathlib.Core.Path.{◌≡◌, refl, sym, ap, ◌∙◌}
use mathlib.Core.Bool.{Bool, true, false, ◌&&◌, and-false, and-true}
use mathlib.Core.List.{List, [], ◌∷◌}
use Prim.Native.Nat.{ℕ, ◌≤◌}
use native.Mathlib.Omega.{arith}
use borrow.Author.Tests.{eqb-true, eqb-false, eq-eqb, ne_eqb}
use lib.Dec.{eqb}
use lib.ListN.{length, get_or, take, drop, length-take, take-append-drop}
use Rattle.octets.specs.Choice.{pick}
use Rattle.octets.specs.Texts.{all_zero}
use Rattle.octets.specs.Lists.{every}
use Rattle.octets.proofs.Lists.{and_left, and_right, by-test}
use Rattle.octets.proofs.Texts.{zero-end}
use Rattle.row.proofs.Places.{row-sizes}
use Rattle.blocks.specs.RowTests.{place_sound}
use Rattle.blocks.proofs.Rooms.{zero-append}
use Rattle.table.specs.TheTable.{block_length, form_of, place, places}
use Rattle.table.specs.Soundness.{in_use, is_row, of_blocks, only_behind}
use Rattle.soundness.specs.Blocks.{first_sound, other_sound}

-- both hold, or the first alone in form 1
pub of-both : (f : ℕ) (x y : Bool) → of_blocks f x y ≡ true → (x ≡ true) × (f ≡ 2 → y ≡ true)
unfolding of_blocks pick
of-both f x y h =
    (and_left x _ h, λ e. let t : pick (eqb f 2) y true ≡ true = and_right x _ h in rw (eq-eqb f 2 e) at t)

pub both_of : (f : ℕ) (x y : Bool) → x ≡ true → (f ≡ 2 → y ≡ true) → of_blocks f x y ≡ true
unfolding of_blocks pick
both_of f x y a b = by-test (eqb f 2) (λ e. rw (a, e, b (eqb-true f 2 e))) (λ e. rw (a, e))

-- the ways out, as the code tests the blocks
pub first_out : (f : ℕ) (x y : Bool) → x ≡ false → false ≡ of_blocks f x y
unfolding of_blocks
first_out f x y e = rw e

pub one_block : (f : ℕ) (x y : Bool) → f ≡ 1 → x ≡ of_blocks f x y
unfolding of_blocks pick
one_block f x y e = rw (ne_eqb f 2 (omega arith)) (sym (and-true x))

pub two_blocks : (f : ℕ) (x y : Bool) → f ≡ 2 → x ≡ true → y ≡ of_blocks f x y
unfolding of_blocks pick
two_blocks f x y e a = rw (a, eq-eqb f 2 e)

-- the tests of two places, block by block
both-blocks : (f : ℕ) (a b x y : Bool) → of_blocks f a b && of_blocks f x y ≡ of_blocks f (a && x) (b && y)
unfolding of_blocks pick
both-blocks f true b true y = by-test (eqb f 2) (λ e. rw e) (λ e. rw e)
both-blocks f true b false y = and-false (pick (eqb f 2) b true)
both-blocks f false b x y = refl

no_blocks : (f : ℕ) → true ≡ of_blocks f true true
unfolding of_blocks pick
no_blocks f = by-test (eqb f 2) (λ e. rw e) (λ e. rw e)

every-blocks : (f : ℕ) (p q s : ℕ → Bool) → ((k : ℕ) → p k ≡ of_blocks f (q k) (s k)) → (xs : List ℕ)
    → every p xs ≡ of_blocks f (every q xs) (every s xs)
unfolding every
every-blocks f p q s h [] = no_blocks f
every-blocks f p q s h (x ∷ xs) = rw (h x, every-blocks f p q s h xs) (both-blocks f (q x) (s x) (every q xs) (every s xs))

-- a free place, block by block; in form 1 it has one
zero-cut : (f : ℕ) (p : List ℕ) → ((f ≡ 2 → ⊥) → length p ≤ block_length) → all_zero p ≡ of_blocks f (all_zero (take block_length p)) (all_zero (drop block_length p))
unfolding of_blocks pick
zero-cut f p s =
    let cut : all_zero p ≡ all_zero (take block_length p) && all_zero (drop block_length p) =
    ap all_zero (sym (take-append-drop block_length p)) ∙ zero-append (take block_length p) (drop block_length p) in
    by-test (eqb f 2)
    (λ e. rw e cut)
    (λ e. rw e (cut ∙ ap (λ (b : Bool). all_zero (take block_length p) && b) (zero-end p block_length (s (eqb-false f 2 e)))))

one-long : (r : List ℕ) (k : ℕ) → is_row r ≡ true → (form_of r ≡ 2 → ⊥) → length (place r k) ≤ block_length
unfolding place
one-long r k h e =
    let f : form_of r ≡ 1 = omega (arith, (row-sizes r h).1, (row-sizes r h).2) in
    rw length-take (omega (arith, f))

place-cut : (n : ℕ) (r : List ℕ) (k : ℕ) → is_row r ≡ true → place_sound n r k ≡ of_blocks (form_of r) (first_sound n r k) (other_sound r k)
unfolding place_sound first_sound other_sound pick
place-cut n r k h = by-test (in_use r k) (λ u. rw u) (λ u. rw u (zero-cut (form_of r) (place r k) (one-long r k h)))

-- the places are sound if their first blocks are, and in form 2 their second ones
pub places-cut : (n : ℕ) (r : List ℕ) → is_row r ≡ true
    → every (place_sound n r) places ≡ of_blocks (form_of r) (every (first_sound n r) places) (every (other_sound r) places)
places-cut n r h = every-blocks (form_of r) (place_sound n r) (first_sound n r) (other_sound r) (λ k. place-cut n r k h) places

-- a place that is zero is zero in each of its blocks
pub zero-first : (n : ℕ) (p : List ℕ) → all_zero p ≡ true → all_zero (take n p) ≡ true
zero-first n p h =
    and_left (all_zero (take n p)) _ (sym (zero-append (take n p) (drop n p)) ∙ ap all_zero (take-append-drop n p) ∙ h)

pub zero-second : (n : ℕ) (p : List ℕ) → all_zero p ≡ true → all_zero (drop n p) ≡ true
zero-second n p h =
    and_right (all_zero (take n p)) _ (sym (zero-append (take n p) (drop n p)) ∙ ap all_zero (take-append-drop n p) ∙ h)

-- a block of no bytes has no policy that stands behind another
pub nothing-at : (c : List ℕ) (i : ℕ) → length c ≡ 0 → get_or c i 0 ≡ 0
nothing-at [] i h = refl
nothing-at (x ∷ c) i h = absurd (omega arith)

pub nothing-behind : (n before : ℕ) → n ≡ 0 → only_behind n before ≡ true
unfolding only_behind pick
nothing-behind n before e = rw e

-- Searches along the order line: what is found from its i-th place on, and one step of each loop. A place is never 0, so that
-- 0 says that the line is over.
use mathlib.Core.Path.{◌≡◌, refl, sym, ap, ◌∙◌}
use mathlib.Core.Bool.{Bool, true, false, not}
use mathlib.Core.List.{List, [], ◌∷◌}
use Prim.Native.Nat.{ℕ, zero, suc, ◌+◌, ◌≤◌, ◌<◌}
use native.Mathlib.Numerals.{add-one}
use native.Mathlib.Omega.{arith}
use borrow.Author.Tests.{eqb-true, eqb-false, leb-true, leb-false, ne_eqb}
use lib.Dec.{eqb, leb}
use lib.ListN.{length, drop, get_or, length-take, drop_of_length-le, get_or-eq_default}
use lib.Seq.{drop-cons}
use Rattle.std.specs.Prelude.{Option, Some, None, is_some, unwrap_or}
use Rattle.octets.specs.Choice.{pick, within}
use Rattle.octets.specs.Lists.{every, keep, first_or, up_to0, is_on}
use Rattle.octets.specs.Texts.{all_zero}
use Rattle.octets.proofs.Lists.{by-test, and_left, and_right, within_low, on-first}
use Rattle.octets.proofs.Texts.{zero-cons}
use Rattle.table.specs.TheTable.{head, line_room, order_line}
use Rattle.table.specs.Soundness.{sound, zero_behind}
use Rattle.plans.specs.Plans.{found}
use Rattle.table.proofs.Form.{up-to-length}
use Rattle.table.proofs.Sound.{clauses, head_of, on-more}

-- THE LINE

pub all_in : (r : List ℕ) → sound r ≡ true → every (within 1 8) (order_line r) ≡ true
all_in r h = (clauses r h).line-in

pub short : (r : List ℕ) → length (order_line r) ≤ 8
unfolding order_line
short r = omega (arith, up-to-length (line_room r), length-take 8 (drop 20 (head r)))

zero-at : (l : List ℕ) (i : ℕ) → all_zero l ≡ true → get_or l i 0 ≡ 0
zero-at [] i z = refl
zero-at (x ∷ l) zero z = eqb-true x 0 (and_left (eqb x 0) (all_zero l) (sym (zero-cons x l) ∙ z))
zero-at (x ∷ l) (suc i) z = zero-at l i (and_right (eqb x 0) (all_zero l) (sym (zero-cons x l) ∙ z))

-- where zeros stand behind the line, its i-th byte is its i-th place, or 0
up-to-at : (l : List ℕ) (i : ℕ) → zero_behind (length (up_to0 l)) l ≡ true → get_or (up_to0 l) i 0 ≡ get_or l i 0
unfolding up_to0 zero_behind pick
up-to-at [] i z = refl
up-to-at (x ∷ l) zero z = by-test (eqb x 0) (λ e. rw e (sym (eqb-true x 0 e))) (λ e. rw e)
up-to-at (x ∷ l) (suc i) z = by-test (eqb x 0) (λ e. rw e (sym (zero-at (x ∷ l) (suc i) (rw e at z)))) (λ e. rw e (up-to-at l i (rw e at z)))

-- in a sound row the i-th byte of the line's room is the i-th place, or 0
pub line-byte : (r : List ℕ) (i : ℕ) → sound r ≡ true → get_or (order_line r) i 0 ≡ get_or (line_room r) i 0
unfolding order_line
line-byte r i h = up-to-at (line_room r) i (head_of (head r) (clauses r h).head-form).0.line-end

-- SEARCHING A LIST OF PLACES

-- the first from the i-th on that passes, 0 where none does
unfoldable pub hunt : (ℕ → Bool) → List ℕ → ℕ → ℕ
hunt p l i = first_or 0 (keep p (drop i l))

module _ (l : List ℕ) (i : ℕ) where
  -- a place stands there
  module _ (nz : get_or l i 0 ≡ 0 → ⊥) where
    pub below : i < length l
    below = by-test (leb (length l) i) (λ e. absurd (nz (get_or-eq_default l 0 (leb-true (length l) i e)))) (λ e. leb-false (length l) i e)

    there : drop i l ≡ get_or l i 0 ∷ drop (i + 1) l
    there = rw add-one (drop-cons l i 0 below)

    pub place_in : every (within 1 8) (drop i l) ≡ true → within 1 8 (get_or l i 0) ≡ true
    unfolding every
    place_in h = and_left _ (every (within 1 8) (drop (i + 1) l)) (rw there at h)

    pub rest_in : every (within 1 8) (drop i l) ≡ true → every (within 1 8) (drop (i + 1) l) ≡ true
    unfolding every
    rest_in h = and_right (within 1 8 (get_or l i 0)) _ (rw there at h)

    pub hit : (p : ℕ → Bool) → p (get_or l i 0) ≡ true → hunt p l i ≡ get_or l i 0
    unfolding hunt first_or keep pick
    hit p q = rw (there, q)

    pub on : (p : ℕ → Bool) → p (get_or l i 0) ≡ false → hunt p l i ≡ hunt p l (i + 1)
    unfolding hunt keep pick
    on p q = rw (there, q)

  -- the line is over
  module _ (z : get_or l i 0 ≡ 0) (h : every (within 1 8) (drop i l) ≡ true) where
    over : drop i l ≡ []
    unfolding every
    over =
        by-test (leb (length l) i)
        (λ e. drop_of_length-le l {i = i} (leb-true (length l) i e))
        (λ e. let d : drop i l ≡ get_or l i 0 ∷ drop (suc i) l = drop-cons l i 0 (leb-false (length l) i e) in
        absurd (omega (arith, within_low 1 8 (get_or l i 0) (and_left _ (every (within 1 8) (drop (suc i) l)) (rw d at h)))))

    pub hunt-over : (p : ℕ → Bool) → hunt p l i ≡ 0
    unfolding hunt keep first_or
    hunt-over p = rw over

-- past the end of the line nothing is found
pub hunt-end : (p : ℕ → Bool) (l : List ℕ) (i : ℕ) → length l ≤ i → hunt p l i ≡ 0
unfolding hunt keep first_or
hunt-end p l i h = rw (drop_of_length-le l {i = i} h)

-- what is found stands on the list
pub hunt-on : (p : ℕ → Bool) (l : List ℕ) → (hunt p l 0 ≡ 0 → ⊥) → is_on l (hunt p l 0) ≡ true
unfolding hunt keep first_or pick
hunt-on p [] nz = absurd (nz refl)
hunt-on p (x ∷ l) nz =
    by-test (p x)
    (λ e. rw e (on-first x l x refl))
    (λ e. rw e (on-more x l _ (hunt-on p l (rw e at nz))))

-- a number that is not 0 is found
pub found-some : (k : ℕ) → (k ≡ 0 → ⊥) → Some k ≡ found k
unfolding found pick
found-some k nz = rw (ne_eqb k 0 nz)

pub found-none : (k : ℕ) → k ≡ 0 → None ≡ found k
unfolding found pick
found-none k z = rw z

-- what was found is the number, which is not 0; where nothing was found it is 0
pub found-is : (n k : ℕ) → found n ≡ Some k → (n ≡ k) × (n ≡ 0 → ⊥)
unfolding found pick
found-is n k h =
    by-test (eqb n 0)
    (λ e. let none : None ≡ Some k = rw e at h in let z : true ≡ false = ap (λ (o : Option ℕ). is_some o) (sym none) in cc)
    (λ e. let same : Some n ≡ Some k = rw e at h in (ap (λ (o : Option ℕ). unwrap_or o n) same, eqb-false n 0 e))

pub not-found : (n : ℕ) → ((k : ℕ) → found n ≡ Some k → ⊥) → n ≡ 0
unfolding found pick
not-found n h = by-test (eqb n 0) (λ e. eqb-true n 0 e) (λ e. absurd (h n (rw e refl)))

pub found-tests : (n : ℕ) → is_some (found n) ≡ not (eqb n 0)
unfolding found pick
found-tests n = by-test (eqb n 0) (λ e. rw e) (λ e. rw e)

pub found-none-is : (n : ℕ) → found n ≡ None → n ≡ 0
found-none-is n h = not-found n (λ k e. let z : true ≡ false = ap (λ (o : Option ℕ). is_some o) (sym e ∙ h) in cc)

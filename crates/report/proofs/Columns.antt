-- What one result adds to each column, by the tests that the code makes.
use mathlib.Core.Path.{◌≡◌, refl, ap, ◌∙◌}
use mathlib.Core.Bool.{Bool, true, false, not}
use mathlib.Core.List.{[], ◌∷◌}
use Prim.Native.Nat.{ℕ, zero, suc, ◌≤◌}
use native.Mathlib.Omega.{arith}
use borrow.Author.Tests.{eq-eqb, ne_eqb}
use lib.Dec.{eqb}
use lib.ListN.{get_or}
use Rattle.octets.specs.Choice.{pick}
use Rattle.octets.proofs.Lists.{by-test}
use Rattle.report.specs.TheReport.{Told, opened, cut_beside, ended, terminated, other, in_column}
use Rattle.report.specs.Code.{adds}

pub adds-most : (k : ℕ) (t : Told) → adds k t ≤ 1
unfolding adds pick
adds-most k t = by-test (in_column k t) (λ e. rw e (omega arith)) (λ e. rw e (omega arith))

counts : (k : ℕ) (t : Told) (b : Bool) → in_column k t ≡ b → adds k t ≡ pick b 1 0
unfolding adds
counts k t b e = ap (λ (x : Bool). pick x 1 0) e

-- AN OPENING: in column 0, and in column 1 if it made a cut
module _ (t : Told) (k : ℕ) (place : t.place ≡ 0 → ⊥) where
  of-opening : in_column k t ≡ get_or (true ∷ not (eqb t.cut 0) ∷ false ∷ false ∷ []) k false
  unfolding in_column opened cut_beside terminated other
  of-opening = rw (ne_eqb t.place 0 place)

  pub opening-counts : k ≡ 0 → adds k t ≡ 1
  unfolding pick
  opening-counts e = counts k t true (of-opening ∙ rw e)

  pub cut-counts : k ≡ 1 → (t.cut ≡ 0 → ⊥) → adds k t ≡ 1
  unfolding pick
  cut-counts e c = counts k t true (of-opening ∙ rw (e, ne_eqb t.cut 0 c))

  pub no-cut-counts : k ≡ 1 → t.cut ≡ 0 → adds k t ≡ 0
  unfolding pick
  no-cut-counts e c = counts k t false (of-opening ∙ rw (e, eq-eqb t.cut 0 c))

  behind-two : (b : Bool) (n : ℕ) → (n ≡ 0 → ⊥) → (n ≡ 1 → ⊥) → get_or (true ∷ b ∷ false ∷ false ∷ []) n false ≡ false
  behind-two b zero p q = absurd (p refl)
  behind-two b (suc zero) p q = absurd (q refl)
  behind-two b (suc (suc zero)) p q = refl
  behind-two b (suc (suc (suc zero))) p q = refl
  behind-two b (suc (suc (suc (suc n)))) p q = refl

  pub opening-else : (k ≡ 0 → ⊥) → (k ≡ 1 → ⊥) → adds k t ≡ 0
  unfolding pick
  opening-else p q = counts k t false (of-opening ∙ behind-two (not (eqb t.cut 0)) k p q)

-- NO OPENING: in column 2 if a termination succeeded, else in column 3
module _ (t : Told) (k : ℕ) (b : Bool) (place : t.place ≡ 0) (end : ended t ≡ b) where
  of_other : in_column k t ≡ get_or (false ∷ false ∷ b ∷ not b ∷ []) k false
  unfolding in_column opened cut_beside terminated other
  of_other = rw (eq-eqb t.place 0 place, end)

  only-2 : (n : ℕ) → (n ≡ 2 → ⊥) → get_or (false ∷ false ∷ true ∷ false ∷ []) n false ≡ false
  only-2 zero p = refl
  only-2 (suc zero) p = refl
  only-2 (suc (suc zero)) p = absurd (p refl)
  only-2 (suc (suc (suc zero))) p = refl
  only-2 (suc (suc (suc (suc n)))) p = refl

  only-3 : (n : ℕ) → (n ≡ 3 → ⊥) → get_or (false ∷ false ∷ false ∷ true ∷ []) n false ≡ false
  only-3 zero p = refl
  only-3 (suc zero) p = refl
  only-3 (suc (suc zero)) p = refl
  only-3 (suc (suc (suc zero))) p = absurd (p refl)
  only-3 (suc (suc (suc (suc n)))) p = refl

  pub ended-counts : b ≡ true → k ≡ 2 → adds k t ≡ 1
  unfolding pick
  ended-counts s e = counts k t true (of_other ∙ rw (s, e))

  pub ended-else : b ≡ true → (k ≡ 2 → ⊥) → adds k t ≡ 0
  unfolding pick
  ended-else s p = counts k t false (of_other ∙ rw s (only-2 k p))

  pub other-counts : b ≡ false → k ≡ 3 → adds k t ≡ 1
  unfolding pick
  other-counts s e = counts k t true (of_other ∙ rw (s, e))

  pub other-else : b ≡ false → (k ≡ 3 → ⊥) → adds k t ≡ 0
  unfolding pick
  other-else s p = counts k t false (of_other ∙ rw s (only-3 k p))

-- A row is told by its length alone.
use mathlib.Core.Path.{◌≡◌, refl, sym, ap, ◌∙◌}
use mathlib.Core.Bool.{Bool, true, false}
use mathlib.Core.List.{List}
use Prim.Native.Nat.{ℕ, ◌≤◌}
use native.Mathlib.Omega.{arith}
use lib.Dec.{eqb}
use lib.ListN.{length}
use borrow.Author.Tests.{eqb-true}
use Rattle.octets.specs.Choice.{within}
use Rattle.table.specs.Soundness.{is_row}
use Rattle.table.specs.TheTable.{block_length, form_of, is_form, row_length}
use Rattle.table.proofs.Form.{is-sized}
use Rattle.row.proofs.Places.{row-sizes}

pub row-of-1 : (r : List ℕ) → length r ≡ row_length 1 → (true ≡ is_row r) × (true ≡ true → block_length ≤ length r)
unfolding row_length is_form form_of within
row-of-1 r e =
    let f : form_of r ≡ 1 = omega (arith, e) in
    (sym (is-sized r (record { form = ap is_form f; size = e ∙ ap row_length (sym f) })), λ t. omega (arith, e))

pub row-of-2 : (r : List ℕ) → length r ≡ row_length 2 → (true ≡ is_row r) × (true ≡ true → block_length ≤ length r)
unfolding row_length is_form form_of within
row-of-2 r e =
    let f : form_of r ≡ 2 = omega (arith, e) in
    (sym (is-sized r (record { form = ap is_form f; size = e ∙ ap row_length (sym f) })), λ t. omega (arith, e))

false-true : {P : Type 0} → false ≡ true → P
false-true e = let y : ◌≡◌ {A = ℕ} 0 1 = cc in absurd (omega arith)

no : (b : Bool) → (b ≡ true → ⊥) → false ≡ b
no false h = refl
no true h = absurd (h refl)

pub no-row : (r : List ℕ) → (length r ≡ row_length 1 → ⊥) → (length r ≡ row_length 2 → ⊥) → (false ≡ is_row r) × (false ≡ true → block_length ≤ length r)
unfolding row_length
no-row r a b = (no (is_row r) (λ h. omega (arith, row-sizes r h, a, b)), λ t. false-true t)

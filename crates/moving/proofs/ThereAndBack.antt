-- The theorems on moving, of specs/ThereAndBack.
use mathlib.Core.Path.{◌≡◌, sym, ap, ◌∙◌}
use mathlib.Core.List.{List}
use Prim.Native.Nat.{ℕ}
use lib.ListN.{length, length-map}
use Rattle.octets.specs.Choice.{pick}
use Rattle.table.specs.Answers.{lent}
use Rattle.table.specs.TheTable.{row_at, rows, table_number}
use Rattle.moving.specs.Moving.{Moved, move, moved_row, other_form, source}
use Rattle.moving.specs.ThereAndBack.{BackAndThere, OneMove, RefusedUnchanged, SaysTheSame, StaysATable, ThereAndBack}
use Rattle.moving.proofs.Copies.{moved-says, moved-sound, moved-zero}
use Rattle.moving.proofs.Whole.{Passes, both-forms, move-is, out, out-number, out-row, out-rows, passes, row-ready, there_and_back}

passed : (to : ℕ) (bytes room : List ℕ) → (move to bytes room).number ≡ 0 → Passes to bytes room
unfolding move
passed to bytes room h = passes to bytes room h

pub forth : ThereAndBack
unfolding other_form
forth bytes room back h l = there_and_back 2 bytes room (passed 2 bytes room h) back l

pub back : BackAndThere
unfolding other_form
back bytes room b h l = there_and_back 1 bytes room (passed 1 bytes room h) b l

target_is : (to : ℕ) (bytes room : List ℕ) (p : Passes to bytes room) → (move to bytes room).target ≡ out to bytes room p
target_is to bytes room p = ap (λ (m : Moved). m.target) (move-is to bytes room p)

pub stays-a-table : StaysATable
stays-a-table to bytes room h =
    let p : Passes to bytes room = passed to bytes room h in
    let t : (move to bytes room).target ≡ out to bytes room p = target_is to bytes room p in (
      ap (λ (b : List ℕ). table_number (lent to b)) t ∙ out-number to bytes room p,
      ap (λ (b : List ℕ). length (rows (lent to b))) t ∙ ap length (out-rows to bytes room p) ∙ length-map (rows (source to bytes)) (moved_row to),
    )

pub says-the-same : SaysTheSame
says-the-same to bytes room i h l =
    let p : Passes to bytes room = passed to bytes room h in
    let r : List ℕ = row_at (source to bytes) i in
    let e : row_at (lent to (move to bytes room).target) i ≡ moved_row to r =
    ap (λ (b : List ℕ). row_at (lent to b) i) (target_is to bytes room p) ∙ out-row to bytes room p i l in
    let f = both-forms to bytes room p in
    let a = row-ready to bytes room p i l in
    rw e
    (record {
      zero-alike = moved-zero (other_form to) to f.from-form f.to-form r a;
      moved-sound = moved-sound (other_form to) to f.from-form f.to-form r a;
      says_same = moved-says (other_form to) to f.from-form f.to-form r a;
    })

pub refused-unchanged : RefusedUnchanged
unfolding move pick
refused-unchanged to bytes room h = rw h

pub one-move : OneMove
one-move form table target n m t u p q =
    let e : ◌≡◌ {A = Moved} (record { number = n; target = t }) (record { number = m; target = u }) = p ∙ sym q in
    (ap (λ (x : Moved). x.number) e, ap (λ (x : Moved). x.target) e)

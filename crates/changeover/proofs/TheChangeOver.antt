-- The table that was moved and the one that it was: their rows are pairs, and stay so.
use mathlib.Core.Path.{◌≡◌, sym, ap, ◌∙◌, subst}
use mathlib.Core.Bool.{true}
use mathlib.Core.List.{List, [], map}
use Prim.Native.Nat.{ℕ, ◌*◌, ◌/◌, ◌<◌}
use native.Mathlib.Omega.{arith}
use lib.ListN.{length, get_or}
use Rattle.octets.specs.Lists.{every}
use Rattle.octets.specs.Texts.{pieces}
use Rattle.octets.proofs.Pieces.{length-pieces}
use Rattle.table.specs.Answers.{lent}
use Rattle.table.specs.TheTable.{Table, row_at, row_length, rows, table_number, width}
use Rattle.table.proofs.Rows.{nth-row, whole-rows}
use Rattle.moving.specs.Moving.{Moved, move, moved_row, other_form, source}
use Rattle.moving.proofs.Copies.{ready}
use Rattle.moving.proofs.Whole.{Passes, all-ready, length-rows, move-is, out-number, out-rows, passes}
use Rattle.rules.specs.Calls.{Call, run}
use Rattle.order.proofs.Lists.{ran}
use Rattle.changeover.specs.TheChangeOver.{ChangeOver, SaysAlike, Unnoticed, one_policy, room_for_both, told_in_both}
use Rattle.changeover.proofs.Pairs.{Pairs, moved-pairs, pair-alike, pairs-at, pairs-length}
use Rattle.changeover.proofs.Calls.{answers-all, outs, runs, tables-all}

-- A LIST OF CALLS, by the rows

module _ (t : Table) (good : table_number t ≡ 0) (cs : List Call) where
  replies-by : (run t cs).replies ≡ outs t.form (rows t) cs
  unfolding rows
  replies-by = (ran t good cs).replies-are

  row_by : (i : ℕ) → i < length (rows t) → row_at (run t cs).table i ≡ get_or (runs t.form (rows t) cs) i []
  unfolding rows
  row_by i l =
      let u : Table = (run t cs).table in
      let n : ℕ = length t.bytes / width t in
      let f : u.form ≡ t.form = (ran t good cs).form-is in
      let size : length u.bytes ≡ width u * n = (ran t good cs).size ∙ whole-rows t good ∙ ap (λ (g : ℕ). row_length g * n) (sym f) in
      sym (nth-row n u size i (omega (arith, l, length-rows t)))
      ∙ ap (λ (g : ℕ). get_or (pieces (row_length g) n u.bytes) i []) f
      ∙ ap (λ (rs : List (List ℕ)). get_or rs i []) (ran t good cs).rows_are

  length_runs : length (runs t.form (rows t) cs) ≡ length (rows t)
  unfolding rows
  length_runs =
      ap length (sym (ran t good cs).rows_are)
      ∙ length-pieces (width t) (length t.bytes / width t) (run t cs).table.bytes
      ∙ sym (length-pieces (width t) (length t.bytes / width t) t.bytes)

-- THE ROWS OF THE TWO

module _ (bytes room : List ℕ) (h : (move 2 bytes room).number ≡ 0) where
  passed : Passes 2 bytes room
  unfolding move
  passed = passes 2 bytes room h

  abbrev new : Table
  new = lent 2 (move 2 bytes room).target

  old-right : table_number (lent 1 bytes) ≡ 0
  unfolding source other_form
  old-right = passed.table-right

  new-right : table_number new ≡ 0
  new-right = ap (λ (m : Moved). table_number (lent 2 m.target)) (move-is 2 bytes room passed) ∙ out-number 2 bytes room passed

  new-rows : rows new ≡ map (moved_row 2) (rows (lent 1 bytes))
  unfolding source other_form
  new-rows = ap (λ (m : Moved). rows (lent 2 m.target)) (move-is 2 bytes room passed) ∙ out-rows 2 bytes room passed

  old-ready : every (ready 1) (rows (lent 1 bytes)) ≡ true
  unfolding source other_form
  old-ready = all-ready 2 bytes room passed

  pairs : Pairs (rows (lent 1 bytes)) (rows new)
  pairs = subst (Pairs (rows (lent 1 bytes))) (sym new-rows) (moved-pairs (rows (lent 1 bytes)) old-ready)

  module _ (cs : List Call) (few : every one_policy cs ≡ true) (large : every room_for_both cs ≡ true) where
    abbrev then-old : List (List ℕ)
    then-old = runs 1 (rows (lent 1 bytes)) cs

    abbrev then-new : List (List ℕ)
    then-new = runs 2 (rows new) cs

    pairs-then : Pairs then-old then-new
    pairs-then = tables-all cs few large (rows (lent 1 bytes)) (rows new) pairs

    row-alike : (i : ℕ) → i < length (rows (lent 1 bytes)) → SaysAlike (row_at (run (lent 1 bytes) cs).table i) (row_at (run new cs).table i)
    row-alike i l =
        let p : row_at (run (lent 1 bytes) cs).table i ≡ get_or then-old i [] = row_by (lent 1 bytes) old-right cs i l in
        let q : row_at (run new cs).table i ≡ get_or then-new i [] = row_by new new-right cs i (omega (arith, l, pairs-length (rows (lent 1 bytes)) (rows new) pairs)) in
        rw (p, q) (pair-alike (pairs-at then-old then-new i pairs-then (omega (arith, l, length_runs (lent 1 bytes) old-right cs))))

    unnoticed : Unnoticed (lent 1 bytes) new cs
    unnoticed =
        record {
          replies-same =
              ap (map told_in_both) (replies-by new new-right cs)
              ∙ answers-all cs few large (rows (lent 1 bytes)) (rows new) pairs
              ∙ ap (map told_in_both) (sym (replies-by (lent 1 bytes) old-right cs));
          rows_alike = row-alike;
        }

pub change-over : ChangeOver
change-over bytes room cs h few large = unnoticed bytes room h cs few large

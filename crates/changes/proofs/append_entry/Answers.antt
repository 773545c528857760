-- Block 0 is all that differs: `entry-law` of Rows.
use mathlib.Core.Path.{ap, ◌∙◌}
use mathlib.Core.List.{List, ◌++◌}
use Prim.Native.Nat.{ℕ}
use native.Mathlib.Omega.{arith}
use lib.Seq.{length-take-le}
use lib.ListN.{drop}
use Rattle.changes.proofs.Rows.{count_of, entry-law, row-size}
use Rattle.table.specs.TheTable.{block_length}
use Rattle.changes.proofs.append_entry.Goals as goal

pub bounds-row-18 : goal.bounds-row-18
bounds-row-18 c =
    omega (arith, row-size c.args.row.now c.requires.0)

pub slice_bounds-write_more-end : goal.slice_bounds-write_more-end
slice_bounds-write_more-end c =
    omega (arith, row-size c.args.row.now c.requires.0)

pub write_more-requires : goal.write_more-requires
write_more-requires c = let r = c.args.row.now in
    (length-take-le block_length r (omega (arith, row-size r c.requires.0)), omega (arith, count_of r c.requires.0, c.requires.1), c.requires.2)

pub returns : goal.returns
returns c = let r = c.args.row.now in
    ap (λ (t : List ℕ). t ++ drop block_length r) c.write_more.ensures
    ∙ entry-law r (record { label = c.args.label.now; flags = c.args.flags; limit = c.args.limit }) c.requires.0 c.requires.1

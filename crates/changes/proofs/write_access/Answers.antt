-- One block, or both: `opened_one` and `opened-two` of Rows.
use mathlib.Core.Path.{◌≡◌}
use Prim.Native.Nat.{◌/◌}
use native.Mathlib.Omega.{arith}
use lib.ListN.{length}
use Rattle.changes.proofs.Rows.{opened_one, opened-two}
use Rattle.table.specs.TheTable.{place_length, block_length}
use Rattle.changes.proofs.write_access.Goals as goal

pub slice_bounds-write_first-end : goal.slice_bounds-write_first-end
slice_bounds-write_first-end c = omega arith

pub returns-then-place-eq-BLOCK_LENGTH : goal.returns-then-place-eq-BLOCK_LENGTH
returns-then-place-eq-BLOCK_LENGTH c =
    let first = c.write_first in
    let p = c.args.place.now in
    let size : length p ≡ block_length = omega (arith, c.if-place-eq-BLOCK_LENGTH.true, first.auto.block) in
    opened_one (length p / block_length) c.args.entry c.args.session.now c.args.host.now c.args.realm.now p first.new.block (omega arith) size first.ensures

pub slice_bounds-write_second-end : goal.slice_bounds-write_second-end
slice_bounds-write_second-end c =
    let first = c.write_first in
    omega (arith, first.auto.block, c.if-place-eq-BLOCK_LENGTH.false)

pub returns : goal.returns
returns c =
    let first = c.write_first in
    let second = c.write_second in
    let p = c.args.place.now in
    let size : length p ≡ place_length 2 = omega (arith, c.if-place-eq-BLOCK_LENGTH.false, first.auto.block) in
    opened-two (length p / block_length) c.args.entry c.args.session.now c.args.host.now c.args.realm.now p first.new.block second.new.block (omega arith) size first.ensures second.ensures

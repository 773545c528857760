-- One block, or both: `routed-short` and `routed-long` of Rows.
use mathlib.Core.Path.{◌≡◌, ◌∙◌}
use native.Mathlib.Omega.{arith}
use lib.ListN.{length}
use lib.Seq.{length-take-le}
use Rattle.table.specs.TheTable.{place_length, block_length, Policies}
use Rattle.changes.proofs.Rows.{routed-long, routed-short}
use Rattle.changes.proofs.write_policies.Goals as goal

pub slice_bounds-write_policy-end : goal.slice_bounds-write_policy-end
slice_bounds-write_policy-end c = omega arith

pub returns-then-place-eq-BLOCK_LENGTH : goal.returns-then-place-eq-BLOCK_LENGTH
returns-then-place-eq-BLOCK_LENGTH c =
    let one = c.write_policy in
    let p = c.args.place.now in
    let size : length p ≡ block_length = omega (arith, c.if-place-eq-BLOCK_LENGTH.true, one.auto.block) in
    let policies : Policies = record { first = c.args.first.now; second = c.args.second.now; third = c.args.third.now } in
    routed-short p one.new.block policies size one.ensures

pub slice_bounds-write_others-end : goal.slice_bounds-write_others-end
slice_bounds-write_others-end c =
    let one = c.write_policy in
    omega (arith, one.auto.block, c.if-place-eq-BLOCK_LENGTH.false)

pub returns : goal.returns
returns c =
    let one = c.write_policy in
    let two = c.write_others in
    let p = c.args.place.now in
    let size : length p ≡ place_length 2 = omega (arith, c.if-place-eq-BLOCK_LENGTH.false, one.auto.block) in
    let policies : Policies = record { first = c.args.first.now; second = c.args.second.now; third = c.args.third.now } in
    routed-long p one.new.block two.new.block policies size (one.auto.block ∙ length-take-le block_length p (omega arith)) one.ensures two.ensures

-- The shares read, at most 17, are lent.
use mathlib.Core.Path.{sym}
use native.Mathlib.Omega.{arith}
use Rattle.replay_calls.proofs.enter_named.Goals as goal

pub slice_bounds-all-end : goal.slice_bounds-all-end
slice_bounds-all-end c =
    let read-shares-was = c.read_shares in
    sym read-shares-was.ensures

pub slice_bounds-enter-end : goal.slice_bounds-enter-end
slice_bounds-enter-end c =
    let pre-was = c.requires in
    let read-shares-was = c.read_shares in
    omega (arith, pre-was.0, read-shares-was.ensures)

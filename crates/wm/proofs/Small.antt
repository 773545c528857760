-- A request to a gateway has at most 712 bytes, so that its length fits 32 bits.
use mathlib.Core.List.{List}
use Prim.Native.Nat.{ℕ, ◌≤◌}
use native.Mathlib.Omega.{arith}
use borrow.Author.Tests.{eqb-true}
use lib.Dec.{eqb}
use Rattle.octets.specs.Choice.{pick}
use Rattle.octets.proofs.Lists.{by-test}
use Rattle.abort.specs.TheDisconnection.{Cut, abort_number, write_abort}
use Rattle.abort.proofs.TheDisconnectionsRules.{true-length}

pub abort-small : (host realm : List ℕ) (c : Cut) (hop end : ℕ) (room : List ℕ) → (write_abort host realm c hop end room).size ≤ 712
unfolding write_abort pick
abort-small host realm c hop end room =
    by-test (eqb (abort_number host realm c room) 0)
    (λ e. (true-length host realm c hop end room (eqb-true (abort_number host realm c room) 0 e)).3)
    (λ e. rw e (omega arith))

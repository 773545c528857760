-- The invariant: the test of what is left has the answer of the whole test.
use mathlib.Core.Path.{◌≡◌}
use lib.ListN.{drop}
use Rattle.octets.specs.Lists.{every}
use Rattle.table.specs.Soundness.{is_digit}
use Rattle.blocks.proofs.digits.Given as goal

abbrev pub invariant-loop-x : goal.invariant-loop-x
invariant-loop-x l = every is_digit (drop l.x-index l.s) ≡ every is_digit l.s

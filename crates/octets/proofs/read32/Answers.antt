-- Four bytes as a number, by the definition.
use native.Mathlib.Omega.{arith}
use Rattle.octets.specs.Numbers.{net32}
use Rattle.octets.proofs.read32.Goals as goal

pub returns : goal.returns
unfolding net32
returns c = omega arith

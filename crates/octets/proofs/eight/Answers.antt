-- Eight bytes as a number, by the definition, each of them a byte.
use mathlib.Core.Path.{◌≡◌}
use Prim.Native.Nat.{◌+◌}
use native.Mathlib.Omega.{arith}
use borrow.Author.Rules.{rules}
use Rattle.octets.specs.Numbers.{low32, low64}
use Rattle.octets.proofs.eight.Goals as goal

pub returns : goal.returns
unfolding low32 low64
returns c =
    let at = c.args.at in
    let five : at + 4 + 1 ≡ at + 5 = omega arith in
    let six : at + 4 + 2 ≡ at + 6 = omega arith in
    let seven : at + 4 + 3 ≡ at + 7 = omega arith in (
      rw (five, six, seven) (omega arith),
      record { byte0 = search rules; byte1 = search rules; byte2 = search rules; byte3 = search rules },
      record { byte0 = search rules; byte1 = search rules; byte2 = search rules; byte3 = search rules },
    )

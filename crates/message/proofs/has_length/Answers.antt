-- With a first byte the length is past 4,096; without one it is what the other two say.
use mathlib.Core.Path.{◌≡◌, sym, ap}
use Prim.Native.Nat.{ℕ, ◌+◌, ◌*◌}
use native.Mathlib.Omega.{arith}
use lib.Dec.{eqb}
use lib.ListN.{get_or}
use borrow.Author.Tests.{ne_eqb}
use Rattle.octets.specs.Numbers.{net24}
use Rattle.message.proofs.has_length.Goals as goal

pub returns-then-m-ne0 : goal.returns-then-m-ne0
unfolding net24
returns-then-m-ne0 c =
    let m = c.args.m.now in
    sym (ne_eqb (net24 m 1) c.args.n (λ e. let t : get_or m 1 0 * 65536 + get_or m 2 0 * 256 + get_or m 3 0 ≡ c.args.n = e in omega (arith, t, c.if-m-ne0.true, c.requires.1)))

pub returns : goal.returns
unfolding net24
returns c =
    let m = c.args.m.now in
    let two : c.from.result * 256 + c.from-2.result ≡ get_or m 1 0 * 65536 + get_or m 2 0 * 256 + get_or m 3 0 =
    omega (arith, c.from.ensures, c.from-2.ensures, c.if-m-ne0.false) in
    ap (λ (x : ℕ). eqb x c.args.n) two

-- The twenty bytes are those of the definition, the first of the length zero.
use mathlib.Core.Path.{◌≡◌}
use Prim.Native.Nat.{◌/◌, ◌%◌}
use native.Mathlib.Omega.{arith}
use Rattle.octets.specs.Numbers.{in24, in32}
use Rattle.gateway.specs.Code.{request_head}
use Rattle.gateway.proofs.put_request_head.Goals as goal

pub returns : goal.returns
unfolding request_head in24 in32
returns c =
    let first : c.args.n / 65536 % 256 ≡ 0 = omega (arith, c.requires.1) in
    rw first (rw (c.to_be_bytes.ensures, c.to_be_bytes-2.ensures, c.to_be_bytes-3.ensures) at c.put_bytes.ensures)

-- The twenty bytes are those of the definition, the first of the length zero.
use mathlib.Core.Path.{◌≡◌}
use Prim.Native.Nat.{◌/◌, ◌%◌}
use native.Mathlib.Omega.{arith}
use Rattle.octets.specs.Numbers.{in24, in32}
use Rattle.abort.specs.TheDisconnection.{header}
use Rattle.abort.proofs.put_header.Goals as goal

pub returns : goal.returns
unfolding header in24 in32
returns c =
    let given = c.args in
    let pre-was = c.requires in
    let put-bytes-was = c.put_bytes in
    let first : given.n / 65536 % 256 ≡ 0 = omega (arith, pre-was.1) in
    rw first (rw (c.to_be_bytes.ensures, c.to_be_bytes-2.ensures, c.to_be_bytes-3.ensures) at put-bytes-was.ensures)

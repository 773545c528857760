-- The twelve bytes are those of the definition: four of the value, of which the first two are zero, and no padding.
use mathlib.Core.Path.{◌≡◌, refl}
use Prim.Native.Nat.{◌/◌, ◌%◌}
use native.Mathlib.Omega.{arith}
use Rattle.octets.specs.Texts.{zeros}
use Rattle.octets.specs.Numbers.{in24, in32, up4}
use Rattle.message.specs.WritingTheAnswer.{avp_bytes}
use Rattle.answers.proofs.put_number.Goals as goal

pub returns : goal.returns
unfolding avp_bytes in24 in32 up4 zeros
returns c =
    let n = c.args.n in
    let first : n / 16777216 % 256 ≡ 0 = omega (arith, c.requires.1) in
    let second : n / 65536 % 256 ≡ 0 = omega (arith, c.requires.1) in
    record { place = refl; bytes-put = rw (first, second) (rw (c.to_be_bytes.ensures, c.to_be_bytes-2.ensures) at c.put_bytes.ensures) }

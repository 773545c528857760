-- One copy, or none where the stretch is empty.
use mathlib.Core.Path.{◌≡◌}
use Prim.Native.Nat.{◌-◌}
use native.Mathlib.Omega.{arith}
use Rattle.octets.proofs.Texts.{length_part}
use Rattle.answers.proofs.Writing.{written-nothing}
use Rattle.answers.proofs.put_stretch.Goals as goal

pub returns-then-start-end : goal.returns-then-start-end
returns-then-start-end c =
    let a = c.args in
    let z : a.end - a.start ≡ 0 = omega (arith, c.if-start-end.true) in
    rw z (written-nothing a.room.now a.to)

pub returns : goal.returns
returns c =
    let a = c.args in
    let k = length_part a.m.now a.start (a.end - a.start) (omega (arith, c.requires.0, c.requires.1)) in
    record { place = omega (arith, k); bytes-put = c.put_text.ensures }

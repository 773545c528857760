-- A word read whole, then written.
use mathlib.Core.Path.{◌≡◌, sym, ◌∙◌}
use Prim.Native.Nat.{◌+◌, ◌-◌}
use native.Mathlib.Omega.{arith}
use Rattle.octets.specs.Texts.{part}
use Rattle.octets.proofs.Texts.{back-put, length_part}
use Rattle.texts.proofs.put_word.Goals as goal

pub returns : goal.returns
returns g c =
    let a = c.args in
    let n = g.row.N in
    let s = c.args.src.now in
    let k : a.at + n - a.at ≡ n = omega arith in
    let j : a.from + n - a.from ≡ n = omega arith in
    back-put a.room.now a.at (a.at + n) c.copy_from_slice-2.new.self (part s a.from n)
    (length_part s a.from n c.requires.0 ∙ sym k)
    (c.copy_from_slice-2.ensures.after ∙ (rw j at c.copy_from_slice.ensures.after))

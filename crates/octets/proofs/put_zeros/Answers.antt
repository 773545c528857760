-- A part of the room is lent and comes back as zeros.
use Rattle.octets.specs.Texts.{zeros}
use Rattle.octets.proofs.Texts.{length-zeros, length_part, back-put}
use mathlib.Core.Path.{◌≡◌, sym, ap, ◌∙◌}
use Prim.Native.Nat.{◌+◌, ◌-◌}
use native.Mathlib.Omega.{arith}
use borrow.Author.Rules.{rules}
use Rattle.octets.proofs.put_zeros.Goals as goal

pub returns : goal.returns
returns c =
    let room = c.args.room.now in
    let at = c.args.at in
    let n = c.args.n in
    let k : at + n - at ≡ n = omega arith in
    let e : c.clear.new.s ≡ zeros n = c.clear.ensures ∙ ap zeros (rw k (length_part room at n (omega arith))) in
    back-put room at (at + n) c.clear.new.s (zeros n) (length-zeros n ∙ sym k) e

-- Two words, or four, from both ends.
use mathlib.Core.Path.{◌≡◌, ◌∙◌}
use Prim.Native.Nat.{◌-◌}
use native.Mathlib.Omega.{arith}
use lib.ListN.{length, drop}
use borrow.Author.Rules.{rules}
use Rattle.octets.specs.Texts.{part}
use Rattle.texts.proofs.Words.{put_last, tail-part, four-words}
use Rattle.texts.proofs.put_medium.Goals as goal

pub returns-then-n-le32 : goal.returns-then-n-le32
returns-then-n-le32 c =
    let a = c.args in
    let s = c.args.src.now in
    let n = length s in
    let p = c.requires in
    let t : part s (n - 16) 16 ≡ drop (n - 16) s = tail-part s (n - 16) 16 (omega (arith, p.0)) in
    c.put_word-then-n-le32.ensures
    ∙ rw (c.put_word.ensures, t)
    (put_last a.room.now a.at s (n - 16) 16 p.2 (omega (arith, c.if-n-le32.true)) p.0)

pub returns : goal.returns
returns c =
    let a = c.args in
    let p = c.requires in
    c.put_word-5.ensures
    ∙ rw (c.put_word-4.ensures, c.put_word-3.ensures, c.put_word-2.ensures)
    (four-words a.room.now a.at a.src.now p.2 c.if-n-le32.false p.1)

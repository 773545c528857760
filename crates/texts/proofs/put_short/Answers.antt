-- Two words: the first, and the last over its end.
use mathlib.Core.Path.{◌≡◌, ◌∙◌}
use Prim.Native.Nat.{◌-◌}
use native.Mathlib.Omega.{arith}
use lib.ListN.{length, drop}
use borrow.Author.Rules.{rules}
use Rattle.octets.specs.Texts.{part}
use Rattle.texts.proofs.Words.{put_last, tail-part}
use Rattle.texts.proofs.put_short.Goals as goal

pub returns-then-n-ge8 : goal.returns-then-n-ge8
returns-then-n-ge8 c =
    let a = c.args in
    let s = c.args.src.now in
    let n = length s in
    let p = c.requires in
    let t : part s (n - 8) 8 ≡ drop (n - 8) s = tail-part s (n - 8) 8 (omega arith) in
    c.put_word-then-n-ge8.ensures
    ∙ rw (c.put_word.ensures, t)
    (put_last a.room.now a.at s (n - 8) 8 p.1 (omega (arith, p.0)) (omega arith))

pub returns-then-n-ge4 : goal.returns-then-n-ge4
returns-then-n-ge4 c =
    let a = c.args in
    let s = c.args.src.now in
    let n = length s in
    let p = c.requires in
    let t : part s (n - 4) 4 ≡ drop (n - 4) s = tail-part s (n - 4) 4 (omega arith) in
    c.put_word-then-n-ge4-2.ensures
    ∙ rw (c.put_word-then-n-ge4.ensures, t)
    (put_last a.room.now a.at s (n - 4) 4 p.1 (omega (arith, p.0)) (omega arith))

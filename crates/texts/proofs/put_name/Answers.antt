-- The first 64 bytes, and over their end the last 64.
use mathlib.Core.Path.{◌≡◌, ap, ◌∙◌}
use mathlib.Core.List.{List}
use Prim.Native.Nat.{ℕ, ◌+◌, ◌-◌}
use native.Mathlib.Omega.{arith}
use lib.ListN.{length, drop}
use borrow.Author.Rules.{rules}
use Rattle.octets.specs.Texts.{part, put}
use Rattle.texts.proofs.Words.{put_last, tail-part}
use Rattle.texts.proofs.put_name.Goals as goal

pub returns : goal.returns
returns c =
    let a = c.args in
    let p = c.requires in
    let s = c.args.src.now in
    let n = length s in
    let more = c.if-n-le64.false in
    let t : part s (n - 64) 64 ≡ drop (n - 64) s = tail-part s (n - 64) 64 (omega (arith, more)) in
    c.put_64-2.ensures
    ∙ ap (λ (r : List ℕ). put r (a.at + (n - 64)) (part s (n - 64) 64)) c.put_64.ensures
    ∙ rw t (put_last a.room.now a.at s (n - 64) 64 p.1 (omega (arith, p.0)) (omega (arith, more)))

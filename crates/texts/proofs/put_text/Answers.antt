use mathlib.Core.Path.{◌≡◌, sym, ◌∙◌}
use Prim.Native.Nat.{ℕ, ◌+◌, ◌-◌, ◌≤◌}
use native.Mathlib.Omega.{arith}
use lib.ListN.{length, take, drop}
use borrow.Author.Rules.{rules}
use Rattle.octets.specs.Texts.{part, put}
use Rattle.octets.proofs.Texts.{put-nothing}
use Rattle.texts.proofs.Words.{put_next, put_last, tail-part}
use Rattle.texts.proofs.put_text.Goals as goal
use Rattle.texts.proofs.put_text.Goals.{else-loop-j-test, then-loop-j-test+else-last-j-gt16}

pub loop-j-init : goal.loop-j-init
loop-j-init c =
    let a = c.args in
    (search rules, search rules, sym (put-nothing a.room.now a.at))

pub loop-j-preserved : goal.loop-j-preserved
loop-j-preserved c =
    let l = c.loop-j in
    let a = c.args in
    let s = c.args.src.now in
    let e = c.put_word.ensures in (
      omega arith,
      c.put_word.auto.room ∙ l.invariant.1,
      e ∙ rw l.invariant.2 (put_next a.room.now a.at s l.j 16 c.requires (omega arith)),
    )

pub returns : goal.returns
returns c =
    let l = c.loop-j in
    let a = c.args in
    let s = c.args.src.now in
    let n = length s in
    let t : part s (n - 16) 16 ≡ drop (n - 16) s = tail-part s (n - 16) 16 (omega arith) in
    let end : (j : ℕ) → n - 16 ≤ j → j ≤ n → c.loop-j-test.room ≡ put a.room.now a.at (take j s) → c.put_word-2.new.room ≡ put a.room.now a.at s =
    λ j h m e. c.put_word-2.ensures ∙ rw (e, t) (put_last a.room.now a.at s (n - 16) j c.requires h m) in
    elim c.loop-j-test.branch [
      | else-loop-j-test w ↦ end l.j (omega arith) l.invariant.0 (w.room-is ∙ l.invariant.2)
      | then-loop-j-test+else-last-j-gt16 w ↦
          end (l.j + 16) (omega arith) (omega arith)
          (w.room-is ∙ w.put_word.ensures ∙ rw l.invariant.2 (put_next a.room.now a.at s l.j 16 c.requires (omega arith)))
    ]

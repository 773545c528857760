use lib.Seq.{paste, paste-zero, paste-suc}
use Rattle.octets.proofs.Texts.{put_all}
use mathlib.Core.Path.{◌≡◌, ◌∙◌}
use Prim.Native.Nat.{◌-◌, ◌≤◌}
use native.Mathlib.Omega.{arith}
use native.Mathlib.Numerals.{add-one}
use lib.ListN.{length, length-set}
use borrow.Author.Rules.{rules}
use Rattle.octets.proofs.put_bytes.Goals as goal

pub loop-j-init : goal.loop-j-init
loop-j-init c = (search rules, paste-zero c.args.room.now c.args.at c.args.src.now)

pub loop-j-preserved : goal.loop-j-preserved
loop-j-preserved c =
    let room = c.args.room.now in
    let src = c.args.src.now in (
      simp length-set c.loop-j.invariant.0,
      rw (c.loop-j.invariant.1, add-one) (paste-suc room c.args.at src c.loop-j.j 0 (omega arith) (omega arith)),
    )

pub returns : goal.returns
returns c =
    c.loop-j.invariant.1 ∙ put_all c.args.room.now c.args.at c.args.src.now c.loop-j.j (omega arith) (omega arith)

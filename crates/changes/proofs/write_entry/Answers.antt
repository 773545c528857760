-- A store and two writes into a zero room: `entry-put` of Blocks.
use mathlib.Core.Path.{◌≡◌, ap, ◌∙◌}
use mathlib.Core.List.{List, [], ◌∷◌}
use Prim.Native.Nat.{ℕ}
use native.Mathlib.Omega.{arith}
use lib.ListN.{length, set, length-set}
use Rattle.octets.specs.Texts.{put, zeros}
use Rattle.changes.proofs.Blocks.{entry-put}
use Rattle.changes.proofs.write_entry.Goals as goal

pub put_bytes-requires : goal.put_bytes-requires
put_bytes-requires c = simp length-set (omega arith)

pub put_bytes-requires-2 : goal.put_bytes-requires-2
put_bytes-requires-2 c = omega (arith, simp length-set at c.put_bytes.auto.room, c.clear.auto.s)

pub shape_of-room : goal.shape_of-room
shape_of-room c = c.put_bytes-2.auto.room ∙ c.put_bytes.auto.room ∙ simp length-set c.clear.auto.s

pub returns : goal.returns
returns c = let label = c.args.label.now in
    let cleared : c.clear.new.s ≡ zeros 104 = c.clear.ensures ∙ ap zeros c.requires.0 in
    c.put_bytes-2.ensures
    ∙ ap (λ (t : List ℕ). put t 101 (c.args.flags ∷ c.args.limit ∷ []))
    (c.put_bytes.ensures ∙ ap (λ (t : List ℕ). put (set t 0 (length label)) 1 label) cleared)
    ∙ entry-put label c.args.flags c.args.limit c.requires.1

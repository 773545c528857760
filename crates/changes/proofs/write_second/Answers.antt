-- Two writes into a zero block and the sums: `second-put` of Blocks.
use mathlib.Core.Path.{◌≡◌, ap, ◌∙◌}
use mathlib.Core.List.{List, [], ◌∷◌}
use Prim.Native.Nat.{ℕ}
use lib.ListN.{length, take}
use Rattle.octets.specs.Texts.{put, zeros}
use Rattle.table.specs.TheTable.{block_length, sealed}
use Rattle.changes.proofs.Blocks.{second-put}
use Rattle.changes.proofs.write_second.Goals as goal

pub returns : goal.returns
returns c =
    let r = c.args.realm.now in
    let head : List ℕ = 3 ∷ length r ∷ [] in
    let cleared : c.clear.new.s ≡ zeros block_length = c.clear.ensures ∙ ap zeros c.requires.0 in
    c.seal.ensures
    ∙ ap (λ (t : List ℕ). sealed (take 510 t))
    (c.put_text.ensures ∙ ap (λ (t : List ℕ). put t 8 r) (c.put_bytes.ensures ∙ ap (λ (t : List ℕ). put t 0 head) cleared))
    ∙ second-put r c.requires.1

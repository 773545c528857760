-- Three writes into a zero block and the sums: `first-put` of Blocks.
use mathlib.Core.Path.{◌≡◌, ap, ◌∙◌}
use mathlib.Core.List.{List, [], ◌∷◌}
use Prim.Native.Nat.{ℕ}
use lib.ListN.{length, take}
use Rattle.octets.specs.Texts.{put, zeros}
use Rattle.table.specs.TheTable.{block_length, sealed}
use Rattle.changes.proofs.Blocks.{first-put}
use Rattle.changes.proofs.write_first.Goals as goal

pub returns : goal.returns
returns c = let s = c.args.session.now in
    let h = c.args.host.now in
    let head : List ℕ = 2 ∷ c.args.entry ∷ length s ∷ length h ∷ [] in
    let cleared : c.clear.new.s ≡ zeros block_length = c.clear.ensures ∙ ap zeros c.requires.0 in
    c.seal.ensures
    ∙ ap (λ (t : List ℕ). sealed (take 510 t))
    (c.put_text-2.ensures
    ∙ ap (λ (t : List ℕ). put t 136 h) (c.put_text.ensures ∙ ap (λ (t : List ℕ). put t 8 s) (c.put_bytes.ensures ∙ ap (λ (t : List ℕ). put t 0 head) cleared)))
    ∙ first-put c.args.entry s h c.requires.1 c.requires.2

-- A store, the entry's room come back, and the sums: `more-put` of Blocks.
use mathlib.Core.Path.{◌≡◌, ap, ◌∙◌}
use mathlib.Core.List.{List}
use Prim.Native.Nat.{ℕ, ◌+◌, ◌-◌, ◌*◌}
use native.Mathlib.Omega.{arith}
use lib.ListN.{length, take, set, length-set}
use borrow.Rule.Slice.PartMut.{same_len_mid}
use Rattle.octets.specs.Texts.{put}
use Rattle.octets.proofs.Texts.{back-put}
use Rattle.table.specs.TheTable.{block_length, Entry, entry_bytes, sealed}
use Rattle.table.proofs.Bytes.{length-entry}
use Rattle.changes.proofs.Blocks.{more-put}
use Rattle.changes.proofs.write_more.Goals as goal

pub slice_bounds-write_entry-end : goal.slice_bounds-write_entry-end
slice_bounds-write_entry-end c = simp length-set (omega arith)

pub seal-requires : goal.seal-requires
seal-requires c = let n = c.long.result in
    let at : ℕ = 32 + 104 * n in
    let room : List ℕ = set c.args.block.now 18 (c.args.n + 1) in
    let size : length room ≡ block_length = length-set c.args.block.now 18 (c.args.n + 1) ∙ c.requires.0 in
    same_len_mid at (at + 104 - at) room c.write_entry.new.room c.write_entry.auto.room ∙ size

pub shape_of-block : goal.shape_of-block
shape_of-block c = let n = c.long.result in
    let at : ℕ = 32 + 104 * n in
    let room : List ℕ = set c.args.block.now 18 (c.args.n + 1) in
    let size : length room ≡ length c.args.block.now = length-set c.args.block.now 18 (c.args.n + 1) in
    c.seal.auto.block ∙ same_len_mid at (at + 104 - at) room c.write_entry.new.room c.write_entry.auto.room ∙ size

pub returns : goal.returns
returns c = let block = c.args.block.now in
    let n = c.args.n in
    let m = c.long.result in
    let same-n : m ≡ n = c.long.ensures.0 in
    let e : Entry = record { label = c.args.label.now; flags = c.args.flags; limit = c.args.limit } in
    let at : ℕ = 32 + 104 * m in
    let size : length (entry_bytes e) ≡ at + 104 - at = length-entry e ∙ omega arith in
    c.seal.ensures
    ∙ ap (λ (t : List ℕ). sealed (take 510 t)) (back-put (set block 18 (n + 1)) at (at + 104) c.write_entry.new.room (entry_bytes e) size c.write_entry.ensures)
    ∙ ap (λ (i : ℕ). sealed (take 510 (put (set block 18 (n + 1)) (32 + 104 * i) (entry_bytes e)))) same-n
    ∙ more-put block n e c.requires.0 c.requires.1

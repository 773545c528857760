-- Bytes 8 to 263 of the first block.
use mathlib.Core.Path.{refl, sym, ap, ◌∙◌}
use Prim.Native.Nat.{ℕ, ◌+◌}
use native.Mathlib.Omega.{arith}
use Rattle.octets.specs.Texts.{part}
use Rattle.row.proofs.Places.{block-part}
use Rattle.table.proofs.Rows.{lent-part}
use Rattle.row.proofs.notice_rooms.Goals as goal

pub returns : goal.returns
returns c =
    let given = c.args in
    let start-was = c.start-at in
    let pre-was = c.requires in
    lent-part given.r.now (start-was.result + 8) 256 256 refl ∙ ap (λ (x : ℕ). part given.r.now (x + 8) 256) start-was.ensures.0 ∙ sym (block-part given.r.now given.k 8 256 pre-was.0 (omega arith))

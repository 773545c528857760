use mathlib.Core.Path.{◌≡◌, sym, ap, ◌∙◌}
use mathlib.Core.List.{List}
use Prim.Native.Nat.{ℕ, ◌+◌}
use native.Mathlib.Omega.{arith}
use native.Mathlib.Numerals.{add-one}
use lib.ListN.{length, get_or, set, take, length-set}
use lib.Seq.{paste, paste-suc, paste-zero}
use borrow.Author.Rules.{rules}
use Rattle.octets.specs.Texts.{put}
use Rattle.octets.proofs.Texts.{put_all}
use Rattle.table.specs.TheTable.{sealed}
use Rattle.changes.proofs.Sums.{body_of, marked-long, relined, sealed-agrees, sealed-long, sealed-set}
use Rattle.changes.proofs.write_line.Goals as goal

pub loop-i-init : goal.loop-i-init
loop-i-init c =
    let u = c.put_byte in
    let d : List ℕ = take 510 u.new.block in
    let line = c.args.line in
    let marked = marked-long c.args.block.now c.requires.0 c.args.bits in
    let size : length d ≡ 510 = ap (λ (t : List ℕ). length (take 510 t)) u.ensures ∙ ap length (body_of _ marked) ∙ marked in (
      search rules,
      ap length (sym (paste-zero d 20 line)) ∙ size,
      sealed-agrees _ marked u.new.block u.ensures ∙ ap sealed (paste-zero d 20 line),
    )

pub put_byte-requires-in-loop-i : goal.put_byte-requires-in-loop-i
put_byte-requires-in-loop-i c =
    let l = c.loop-i in
    (sealed-long _ l.invariant.1 l.block l.invariant.2, sealed-agrees _ l.invariant.1 l.block l.invariant.2, omega arith)

pub loop-i-preserved : goal.loop-i-preserved
loop-i-preserved c =
    let l = c.loop-i in
    let d : List ℕ = take 510 c.put_byte.new.block in
    let line = c.args.line in
    let eight : length line ≡ 8 = search rules in
    let v = c.put_byte-in-loop-i in
    let marked = marked-long c.args.block.now c.requires.0 c.args.bits in
    let size : length d ≡ 510 = ap (λ (t : List ℕ). length (take 510 t)) c.put_byte.ensures ∙ ap length (body_of _ marked) ∙ marked in
    let step : set (paste d 20 line l.i) (20 + l.i) (get_or line l.i 0) ≡ paste d 20 line (l.i + 1) =
    rw add-one (paste-suc d 20 line l.i 0 (omega (arith, size)) (omega arith)) in (
      omega arith,
      ap length (sym step) ∙ length-set (paste d 20 line l.i) (20 + l.i) (get_or line l.i 0) ∙ l.invariant.1,
      sealed-set _ l.invariant.1 l.block v.new.block (20 + l.i) (get_or line l.i 0) l.invariant.2 v.ensures ∙ ap sealed step,
    )

pub shape_of-block : goal.shape_of-block
shape_of-block c = let l = c.loop-i in
    sealed-long _ l.invariant.1 l.block l.invariant.2 ∙ sym c.requires.0

pub returns : goal.returns
returns c =
    let l = c.loop-i in
    let u = c.put_byte in
    let b = c.args.block.now in
    let line = c.args.line in
    let eight : length line ≡ 8 = search rules in
    let marked = marked-long b c.requires.0 c.args.bits in
    l.invariant.2
    ∙ ap sealed (put_all (take 510 u.new.block) 20 line l.i (omega arith) (omega arith))
    ∙ ap (λ (t : List ℕ). sealed (put t 20 line)) (ap (take 510) u.ensures ∙ body_of _ marked)
    ∙ relined b c.requires.0 c.args.bits line eight

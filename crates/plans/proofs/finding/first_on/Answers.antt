-- One place of the line after another, and the search goes on behind it.
use mathlib.Core.Bool.{true, false}
use Rattle.octets.specs.Choice.{within}
use Rattle.octets.proofs.Lists.{within-high, within_low}
use Rattle.table.specs.TheTable.{order_line}
use Rattle.row.proofs.Entries.{least-of, row_of}
use Rattle.plans.proofs.Search.{short, all_in, place_in, rest_in, hit, on, hunt-over, hunt-end, line-byte, found-some, found-none}
use Rattle.plans.proofs.Found.{entry_is, first-is}
use Rattle.plans.specs.Plans.{found}
use mathlib.Core.Path.{◌≡◌, refl, sym, ap, ◌∙◌}
use native.Mathlib.Omega.{arith}
use lib.ListN.{get_or}
use borrow.Author.Rules.{rules}
use Rattle.plans.proofs.finding.first_on.Goals as goal

pub loop-i-init : goal.loop-i-init
loop-i-init c = (all_in c.args.row.now c.requires, refl)

pub line_place-first-requires : goal.line_place-first-requires
line_place-first-requires c = (least-of c.args.row.now c.requires, omega arith)

pub on_entry-requires : goal.on_entry-requires
on_entry-requires c =
    let row = c.args.row.now in
    let at : c.line_place-first.result ≡ get_or (order_line row) c.loop-i.i 0 = c.line_place-first.ensures.0 ∙ sym (line-byte row c.loop-i.i c.requires) in
    let nz : get_or (order_line row) c.loop-i.i 0 ≡ 0 → ⊥ = λ z. c.if-first-eq0.false (at ∙ z) in
    let placed : within 1 8 (get_or (order_line row) c.loop-i.i 0) ≡ true = place_in (order_line row) c.loop-i.i nz c.loop-i.invariant.0 in
    (row_of row c.requires, omega (arith, at, within_low 1 8 _ placed), omega (arith, at, within-high 1 8 _ placed))

pub loop-i-preserved : goal.loop-i-preserved
loop-i-preserved c =
    let a = c.args in
    let row = c.args.row.now in
    let at : c.line_place-first.result ≡ get_or (order_line row) c.loop-i.i 0 = c.line_place-first.ensures.0 ∙ sym (line-byte row c.loop-i.i c.requires) in
    let nz : get_or (order_line row) c.loop-i.i 0 ≡ 0 → ⊥ = λ z. c.if-first-eq0.false (at ∙ z) in
    let test : entry_is row a.entry (get_or (order_line row) c.loop-i.i 0) ≡ false = rw at at (sym c.on_entry.ensures ∙ c.if-on_entry.false) in (
      rest_in (order_line row) c.loop-i.i nz c.loop-i.invariant.0,
      sym (on (order_line row) c.loop-i.i nz (entry_is row a.entry) test) ∙ c.loop-i.invariant.1,
    )

pub returns-then-first-eq0 : goal.returns-then-first-eq0
returns-then-first-eq0 c =
    let a = c.args in
    let row = c.args.row.now in
    let z : get_or (order_line row) c.loop-i.i 0 ≡ 0 = line-byte row c.loop-i.i c.requires ∙ sym c.line_place-first.ensures.0 ∙ c.if-first-eq0.true in
    (found-none _ (first-is row a.entry ∙ sym c.loop-i.invariant.1 ∙ hunt-over (order_line row) c.loop-i.i z c.loop-i.invariant.0 (entry_is row a.entry)), search rules)

pub returns-then-on_entry : goal.returns-then-on_entry
returns-then-on_entry c =
    let a = c.args in
    let row = c.args.row.now in
    let at : c.line_place-first.result ≡ get_or (order_line row) c.loop-i.i 0 = c.line_place-first.ensures.0 ∙ sym (line-byte row c.loop-i.i c.requires) in
    let nz : get_or (order_line row) c.loop-i.i 0 ≡ 0 → ⊥ = λ z. c.if-first-eq0.false (at ∙ z) in
    let test : entry_is row a.entry (get_or (order_line row) c.loop-i.i 0) ≡ true = rw at at (sym c.on_entry.ensures ∙ c.if-on_entry.true) in (
      found-some _ c.if-first-eq0.false ∙ ap found (at ∙ sym (hit (order_line row) c.loop-i.i nz (entry_is row a.entry) test) ∙ c.loop-i.invariant.1 ∙ sym (first-is row a.entry)),
      omega (arith, at, within-high 1 8 _ (place_in (order_line row) c.loop-i.i nz c.loop-i.invariant.0)),
    )

pub returns-after-loop-i : goal.returns-after-loop-i
returns-after-loop-i c =
    let a = c.args in
    let row = c.args.row.now in
    (found-none _ (first-is row a.entry ∙ sym c.loop-i.invariant.1 ∙ hunt-end (entry_is row a.entry) (order_line row) c.loop-i.i (omega (arith, short row, c.loop-i-test.false))), search rules)

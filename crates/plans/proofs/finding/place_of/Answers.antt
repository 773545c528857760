-- One place of the line after another, and the search goes on behind it.
use mathlib.Core.Bool.{true, false}
use Rattle.octets.specs.Choice.{within}
use Rattle.octets.proofs.Lists.{within-high, within_low}
use Rattle.table.specs.TheTable.{order_line}
use Rattle.row.proofs.Entries.{least-of, row_of}
use Rattle.plans.proofs.Search.{short, all_in, place_in, rest_in, hit, on, hunt-over, hunt-end, line-byte, found-some, found-none}
use Rattle.plans.proofs.Found.{session_is, session-is}
use Rattle.plans.specs.Plans.{found}
use mathlib.Core.Path.{◌≡◌, refl, sym, ap, ◌∙◌}
use native.Mathlib.Omega.{arith}
use lib.ListN.{get_or}
use borrow.Author.Rules.{rules}
use Rattle.plans.proofs.finding.place_of.Goals as goal

pub loop-i-init : goal.loop-i-init
loop-i-init c = (all_in c.args.row.now c.requires, refl)

pub line_place-place-requires : goal.line_place-place-requires
line_place-place-requires c = (least-of c.args.row.now c.requires, omega arith)

pub has_session-requires : goal.has_session-requires
has_session-requires c =
    let row = c.args.row.now in
    let at : c.line_place-place.result ≡ get_or (order_line row) c.loop-i.i 0 = c.line_place-place.ensures.0 ∙ sym (line-byte row c.loop-i.i c.requires) in
    let nz : get_or (order_line row) c.loop-i.i 0 ≡ 0 → ⊥ = λ z. c.if-place-eq0.false (at ∙ z) in
    let placed : within 1 8 (get_or (order_line row) c.loop-i.i 0) ≡ true = place_in (order_line row) c.loop-i.i nz c.loop-i.invariant.0 in
    (row_of row c.requires, omega (arith, at, within_low 1 8 _ placed), omega (arith, at, within-high 1 8 _ placed))

pub loop-i-preserved : goal.loop-i-preserved
loop-i-preserved c =
    let a = c.args in
    let row = c.args.row.now in
    let at : c.line_place-place.result ≡ get_or (order_line row) c.loop-i.i 0 = c.line_place-place.ensures.0 ∙ sym (line-byte row c.loop-i.i c.requires) in
    let nz : get_or (order_line row) c.loop-i.i 0 ≡ 0 → ⊥ = λ z. c.if-place-eq0.false (at ∙ z) in
    let test : session_is row a.session.now (get_or (order_line row) c.loop-i.i 0) ≡ false = rw at at (sym c.has_session.ensures ∙ c.if-has_session.false) in (
      rest_in (order_line row) c.loop-i.i nz c.loop-i.invariant.0,
      sym (on (order_line row) c.loop-i.i nz (session_is row a.session.now) test) ∙ c.loop-i.invariant.1,
    )

pub returns-then-place-eq0 : goal.returns-then-place-eq0
returns-then-place-eq0 c =
    let a = c.args in
    let row = c.args.row.now in
    let z : get_or (order_line row) c.loop-i.i 0 ≡ 0 = line-byte row c.loop-i.i c.requires ∙ sym c.line_place-place.ensures.0 ∙ c.if-place-eq0.true in
    (found-none _ (session-is row a.session.now ∙ sym c.loop-i.invariant.1 ∙ hunt-over (order_line row) c.loop-i.i z c.loop-i.invariant.0 (session_is row a.session.now)), search rules)

pub returns-then-has_session : goal.returns-then-has_session
returns-then-has_session c =
    let a = c.args in
    let row = c.args.row.now in
    let at : c.line_place-place.result ≡ get_or (order_line row) c.loop-i.i 0 = c.line_place-place.ensures.0 ∙ sym (line-byte row c.loop-i.i c.requires) in
    let nz : get_or (order_line row) c.loop-i.i 0 ≡ 0 → ⊥ = λ z. c.if-place-eq0.false (at ∙ z) in
    let test : session_is row a.session.now (get_or (order_line row) c.loop-i.i 0) ≡ true = rw at at (sym c.has_session.ensures ∙ c.if-has_session.true) in (
      found-some _ c.if-place-eq0.false ∙ ap found (at ∙ sym (hit (order_line row) c.loop-i.i nz (session_is row a.session.now) test) ∙ c.loop-i.invariant.1 ∙ sym (session-is row a.session.now)),
      omega (arith, at, within-high 1 8 _ (place_in (order_line row) c.loop-i.i nz c.loop-i.invariant.0)),
    )

pub returns : goal.returns
returns c =
    let a = c.args in
    let row = c.args.row.now in
    (found-none _ (session-is row a.session.now ∙ sym c.loop-i.invariant.1 ∙ hunt-end (session_is row a.session.now) (order_line row) c.loop-i.i (omega (arith, short row, c.loop-i-test.false))), search rules)

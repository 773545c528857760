use mathlib.Core.Path.{◌∙◌, sym}
use native.Mathlib.Omega.{arith}
use Rattle.table.specs.Soundness.{place_form}
use Rattle.table.proofs.Tests.{fails, passes_on}
use Rattle.soundness.proofs.Line.{places-all, places-end, places-turn}
use Rattle.clauses.proofs.places_form.Goals as goal

pub loop-k-init : goal.loop-k-init
loop-k-init c = (omega arith, omega arith, places-all (place_form c.args.r.now))

pub returns-then-not-place_form : goal.returns-then-not-place_form
returns-then-not-place_form c =
    let f = place_form c.args.r.now in
    let l = c.loop-k in
    sym (places-turn f l.k (omega arith) ∙ rw (fails c.place_form.ensures c.if-not-place_form.true)) ∙ l.invariant.2

pub loop-k-preserved : goal.loop-k-preserved
loop-k-preserved c =
    let f = place_form c.args.r.now in
    let l = c.loop-k in
    (omega arith, omega arith, sym (places-turn f l.k (omega arith) ∙ rw (passes_on c.place_form.ensures c.if-not-place_form.false)) ∙ l.invariant.2)

pub returns : goal.returns
returns c =
    let l = c.loop-k in
    sym (places-end (place_form c.args.r.now) l.k (omega arith)) ∙ l.invariant.2

use mathlib.Core.Path.{◌∙◌, sym}
use native.Mathlib.Omega.{arith}
use Rattle.soundness.specs.Blocks.{first_sound}
use Rattle.table.proofs.Tests.{fails, passes_on}
use Rattle.soundness.proofs.Line.{places-all, places-end, places-turn}
use Rattle.soundness.proofs.firsts_sound.Goals as goal

pub loop-k-init : goal.loop-k-init
loop-k-init c =
    let given = c.args in
    (places-all (first_sound given.n given.r.now))

pub returns-then-not-first_sound : goal.returns-then-not-first_sound
returns-then-not-first_sound c =
    let given = c.args in
    let loop-was = c.loop-k in
    let first-sound-was = c.first_sound in
    let test1 = c.if-not-first_sound in
    sym (places-turn (first_sound given.n given.r.now) loop-was.k (omega arith) ∙ rw (fails first-sound-was.ensures test1.true)) ∙ loop-was.invariant

pub loop-k-preserved : goal.loop-k-preserved
loop-k-preserved c =
    let given = c.args in
    let loop-was = c.loop-k in
    let first-sound-was = c.first_sound in
    let test1 = c.if-not-first_sound in
    (sym (places-turn (first_sound given.n given.r.now) loop-was.k (omega arith) ∙ rw (passes_on first-sound-was.ensures test1.false)) ∙ loop-was.invariant)

pub returns : goal.returns
returns c =
    let given = c.args in
    let loop-was = c.loop-k in
    sym (places-end (first_sound given.n given.r.now) loop-was.k (omega arith)) ∙ loop-was.invariant

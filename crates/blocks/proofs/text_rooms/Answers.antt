-- The three rooms and the rest in order; each way out is the first that fails.
use native.Mathlib.Omega.{arith}
use mathlib.Core.Path.{◌∙◌}
use Rattle.octets.specs.Texts.{part}
use Rattle.octets.proofs.Texts.{length_part}
use Rattle.table.proofs.Tests.{behind-said, fails, passes_on}
use Rattle.blocks.proofs.Rooms.{last-room}
use Rattle.blocks.proofs.text_rooms.Goals as goal

pub zero_behind-requires : goal.zero_behind-requires
zero_behind-requires c = omega (arith, length_part c.args.b.now 8 128 (omega arith), c.from.ensures)

pub returns-then-not-zero_behind : goal.returns-then-not-zero_behind
returns-then-not-zero_behind c =
    let given = c.args in
    rw (fails (behind-said (part given.b.now 8 128) c.from.result given.first c.from.ensures c.zero_behind.ensures) c.if-not-zero_behind.true)

pub zero_behind-requires-2 : goal.zero_behind-requires-2
zero_behind-requires-2 c = omega (arith, length_part c.args.b.now 136 128 (omega arith), c.from-2.ensures)

pub returns-then-not-zero_behind-2 : goal.returns-then-not-zero_behind-2
returns-then-not-zero_behind-2 c =
    let given = c.args in
    rw (passes_on (behind-said (part given.b.now 8 128) c.from.result given.first c.from.ensures c.zero_behind.ensures) c.if-not-zero_behind.false, fails (behind-said (part given.b.now 136 128) c.from-2.result given.second c.from-2.ensures c.zero_behind-2.ensures) c.if-not-zero_behind-2.true)

pub returns : goal.returns
returns c =
    let given = c.args in
    rw (passes_on (behind-said (part given.b.now 8 128) c.from.result given.first c.from.ensures c.zero_behind.ensures) c.if-not-zero_behind.false, passes_on (behind-said (part given.b.now 136 128) c.from-2.result given.second c.from-2.ensures c.zero_behind-2.ensures) c.if-not-zero_behind-2.false)
    (c.all_zero.ensures ∙ last-room given.b.now c.from-rest.result given.third c.from-rest.ensures c.requires.3)

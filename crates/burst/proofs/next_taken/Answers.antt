-- The tests of the rooms, and then the boundary.
use mathlib.Core.Path.{sym, ◌∙◌}
use lib.ListN.{drop}
use Rattle.burst.specs.TheBurst.{next_length}
use Rattle.burst.proofs.Turns.{no-answer-room, no-notice-room, room-for-both}
use Rattle.burst.proofs.next_taken.Goals as goal

pub returns-then-answers-lt-ANSWER_LEAST : goal.returns-then-answers-lt-ANSWER_LEAST
returns-then-answers-lt-ANSWER_LEAST c =
    let a = c.args in
    sym (no-answer-room a.answers a.notices a.room (next_length (drop a.at a.messages.now)) c.if-answers-lt-ANSWER_LEAST.true)

pub returns-then-notices-room : goal.returns-then-notices-room
returns-then-notices-room c =
    let a = c.args in
    sym (no-notice-room a.answers a.notices a.room (next_length (drop a.at a.messages.now)) c.if-notices-room.true)

pub returns : goal.returns
returns c =
    let a = c.args in
    c.next_length.ensures ∙ sym (room-for-both a.answers a.notices a.room (next_length (drop a.at a.messages.now)) c.if-answers-lt-ANSWER_LEAST.false c.if-notices-room.false)

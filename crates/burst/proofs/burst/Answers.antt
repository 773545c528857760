-- The number, and where there is none all of the messages.
use mathlib.Core.Path.{refl, sym, ◌∙◌}
use mathlib.Core.List.{map}
use lib.ListN.{length-map}
use Rattle.table.specs.Answers.{lent}
use Rattle.burst.specs.TheBurst.{refused_burst}
use Rattle.burst.specs.Code.{burst_of, leaves, result_in}
use Rattle.burst.proofs.Loop.{burst-refused}
use Rattle.burst.proofs.burst.Goals as goal

pub returns-then-n-ne0 : goal.returns-then-n-ne0
unfolding leaves refused_burst burst_of
returns-then-n-ne0 c =
    let a = c.args in
    let number = c.burst_number-n in
    burst-refused (lent a.form a.table.now) (burst_of a.op a.host.now a.realm.now a.messages.now a.wags.now a.answers.now a.notices.now (map result_in a.results.now)) number.result (number.ensures a.wags.now a.answers.now a.notices.now (map result_in a.results.now) refl (length-map a.results.now result_in)) c.if-n-ne0.true

pub take_all-requires : goal.take_all-requires
take_all-requires c =
    let a = c.args in
    sym (c.burst_number-n.ensures a.wags.now a.answers.now a.notices.now (map result_in a.results.now) refl (length-map a.results.now result_in)) ∙ c.if-n-ne0.false

-- What the call leaves; the numbers of its result fit 32 bits, by `small` of `numbers`.
use mathlib.Core.Path.{ap, subst, sym}
use Rattle.table.specs.Answers.{lent}
use Rattle.rules.specs.Calls.{Left}
use Rattle.decision.specs.Outcomes.{leaves}
use Rattle.numbers.specs.InNumbers.{In32}
use Rattle.numbers.proofs.Small.{small}
use Rattle.burst.proofs.take_one.Goals as goal

pub put_result-requires : goal.put_result-requires
unfolding leaves
put_result-requires c =
    let given = c.args in
    (c.requires, subst In32 (sym (ap (λ (l : Left). l.reply.result) c.handle-o.ensures)) (small (lent given.form given.table.now) given.op given.message.now given.host.now given.realm.now given.answer.now given.notice.now given.wag))

pub returns : goal.returns
returns c = (c.handle-o.ensures, c.put_result.ensures)

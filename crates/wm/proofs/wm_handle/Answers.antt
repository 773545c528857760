-- What the request leaves; its numbers fit 32 bits, by `small` of `numbers`.
use Rattle.table.specs.Answers.{lent}
use mathlib.Core.Path.{ap, subst, sym}
use Rattle.decision.specs.Outcomes.{leaves}
use Rattle.numbers.specs.InNumbers.{In32}
use Rattle.numbers.proofs.Small.{small}
use Rattle.wm.specs.InC.{leaves_in_c}
use Rattle.rules.specs.Calls.{Left}
use Rattle.wm.proofs.wm_handle.Goals as goal

pub numbers_of-requires : goal.numbers_of-requires
unfolding leaves
numbers_of-requires c =
    let given = c.args in
    subst In32 (sym (ap (λ (l : Left). l.reply.result) c.handle.ensures)) (small (lent given.form given.table.now) given.op given.message.now given.host.now given.realm.now given.answer.now given.notice.now given.wag)

pub returns : goal.returns
unfolding leaves_in_c leaves
returns c =
    rw c.numbers_of.ensures c.handle.ensures

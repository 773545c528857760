-- The part lent is the text from byte 264 on, of the length in byte 5.
use mathlib.Core.Path.{sym, ◌∙◌}
use native.Mathlib.Omega.{arith}
use Rattle.row.proofs.Places.{byte_at, text-lent}
use Rattle.table.specs.TheTable.{access_at, read_access}
use Rattle.row.proofs.policy.Goals as goal

pub returns : goal.returns
unfolding access_at read_access
returns c =
    let given = c.args in
    let start-was = c.start-at in
    let policy-length-was = c.policy_length in
    let pre-was = c.requires in
    text-lent given.r.now given.k start-was.result 264 5 policy-length-was.result pre-was.0 start-was.ensures.0 (policy-length-was.ensures.0 ∙ sym (byte_at given.r.now given.k start-was.result 5 pre-was.0 start-was.ensures.0 (omega arith))) (omega arith) (omega (arith, policy-length-was.ensures.0, pre-was.3))

-- In a message whose walk passed, the AVP at byte 20 is the first of the walk.
use mathlib.Core.Path.{sym, ◌∙◌}
use lib.ListN.{drop}
use lib.Seq.{get_or-drop}
use Rattle.message.specs.ReadingAMessage.{same_name, session_id}
use Rattle.octets.specs.Numbers.{net32}
use Rattle.octets.proofs.Lists.{eqb_comm}
use Rattle.message.proofs.Heads.{name-v, name-base, net32-drop}
use Rattle.message.proofs.Listing.{starts-few, starts-one}
use Rattle.request.proofs.starts.Goals as goal

pub returns-then-m-lt28 : goal.returns-then-m-lt28
returns-then-m-lt28 c = sym (starts-few c.args.m.now c.if-m-lt28.true)

pub returns-then-m-ge128 : goal.returns-then-m-ge128
unfolding same_name
returns-then-m-ge128 c =
    let m = c.args.m.now in
    sym (starts-one m session_id c.if-m-lt28.false c.requires.1 ∙ rw (name-v (drop 20 m) (rw get_or-drop c.if-m-ge128.true)))

pub returns : goal.returns
unfolding same_name
returns c =
    let m = c.args.m.now in
    rw c.read32.ensures
    (eqb_comm (net32 m 20) 263
    ∙ sym (starts-one m session_id c.if-m-lt28.false c.requires.1
    ∙ rw (name-base (drop 20 m) (rw get_or-drop c.if-m-ge128.false), net32-drop 20 0 m)))

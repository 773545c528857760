-- One of three names.
use mathlib.Core.Path.{◌≡◌, sym, ◌∙◌}
use mathlib.Core.Bool.{true, false}
use Rattle.message.specs.ReadingAMessage.{base, same_name}
use Rattle.likeness.specs.TheSameAnswer.{failed_avp, is_group}
use Rattle.likeness.specs.Code.{avp_at}
use Rattle.likeness.proofs.is_group.Goals as goal

pub returns-then-is_base : goal.returns-then-is_base
unfolding is_group
returns-then-is_base c =
    let given = c.args in
    let is-base-was = c.is_base in
    let test1 = c.if-is_base in
    let e : same_name failed_avp (avp_at given.m.now given.at).name ≡ true = sym is-base-was.ensures ∙ test1.true in
    rw e

pub returns-then-is_base-2 : goal.returns-then-is_base-2
unfolding is_group
returns-then-is_base-2 c =
    let given = c.args in
    let is-base-was = c.is_base in
    let test1 = c.if-is_base in
    let is-base2-was = c.is_base-2 in
    let test2 = c.if-is_base-2 in
    let e : same_name failed_avp (avp_at given.m.now given.at).name ≡ false = sym is-base-was.ensures ∙ test1.false in
    let f : same_name (base 297) (avp_at given.m.now given.at).name ≡ true = sym is-base2-was.ensures ∙ test2.true in
    rw (e, f)

pub returns : goal.returns
unfolding is_group
returns c =
    let given = c.args in
    let is-base-was = c.is_base in
    let test1 = c.if-is_base in
    let is-base2-was = c.is_base-2 in
    let test2 = c.if-is_base-2 in
    let is-base3-was = c.is_base-3 in
    let e : same_name failed_avp (avp_at given.m.now given.at).name ≡ false = sym is-base-was.ensures ∙ test1.false in
    let f : same_name (base 297) (avp_at given.m.now given.at).name ≡ false = sym is-base2-was.ensures ∙ test2.false in
    rw (e, f) is-base3-was.ensures

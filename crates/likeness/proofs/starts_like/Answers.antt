-- An answer without AVPs starts as any; of two others the first names decide.
use mathlib.Core.Path.{◌≡◌, sym, ◌∙◌}
use mathlib.Core.Bool.{true, false}
use Rattle.likeness.specs.Code.{avp_at}
use Rattle.likeness.proofs.Places.{stands, passes-here}
use Rattle.likeness.proofs.Fitting.{starts_none, starts-free, starts-here}
use Rattle.message.specs.ReadingAMessage.{session_id, same_name}
use Rattle.likeness.proofs.starts_like.Goals as goal

pub returns-then-next_at-eq0 : goal.returns-then-next_at-eq0
returns-then-next_at-eq0 c =
    let given = c.args in
    let next-at-was = c.next_at in
    let test1 = c.if-next_at-eq0 in
    sym (starts_none given.ours.now given.theirs.now (sym next-at-was.ensures ∙ test1.true))

pub returns-then-next_at-eq0-2 : goal.returns-then-next_at-eq0-2
returns-then-next_at-eq0-2 c =
    let given = c.args in
    let next-at2-was = c.next_at-2 in
    let test2 = c.if-next_at-eq0-2 in
    sym (starts-free given.ours.now given.theirs.now (sym next-at2-was.ensures ∙ test2.true))

pub is_base-requires : goal.is_base-requires
is_base-requires c =
    let given = c.args in
    let test2 = c.if-next_at-eq0-2 in
    let next-at2-was = c.next_at-2 in
    stands given.ours.now 20 (passes-here given.ours.now 20 (λ z. test2.false (next-at2-was.ensures ∙ z)))

pub is_base-requires-then-is_base : goal.is_base-requires-then-is_base
is_base-requires-then-is_base c =
    let given = c.args in
    let test1 = c.if-next_at-eq0 in
    let next-at-was = c.next_at in
    stands given.theirs.now 20 (passes-here given.theirs.now 20 (λ z. test1.false (next-at-was.ensures ∙ z)))

pub returns-then-is_base : goal.returns-then-is_base
returns-then-is_base c =
    let given = c.args in
    let is-base-was = c.is_base in
    let test3 = c.if-is_base in
    let is-base2-was = c.is_base-then-is_base in
    let next-at2-was = c.next_at-2 in
    let next-at-was = c.next_at in
    let test2 = c.if-next_at-eq0-2 in
    let test1 = c.if-next_at-eq0 in
    let e : same_name session_id (avp_at given.ours.now 20).name ≡ true = sym is-base-was.ensures ∙ test3.true in
    is-base2-was.ensures ∙ sym (starts-here given.ours.now given.theirs.now next-at2-was.result next-at-was.result (sym next-at2-was.ensures) test2.false (sym next-at-was.ensures) test1.false ∙ rw e)

pub returns : goal.returns
returns c =
    let given = c.args in
    let is-base-was = c.is_base in
    let test3 = c.if-is_base in
    let next-at2-was = c.next_at-2 in
    let next-at-was = c.next_at in
    let test2 = c.if-next_at-eq0-2 in
    let test1 = c.if-next_at-eq0 in
    let e : same_name session_id (avp_at given.ours.now 20).name ≡ false = sym is-base-was.ensures ∙ test3.false in
    sym (starts-here given.ours.now given.theirs.now next-at2-was.result next-at-was.result (sym next-at2-was.ensures) test2.false (sym next-at-was.ensures) test1.false ∙ rw e)

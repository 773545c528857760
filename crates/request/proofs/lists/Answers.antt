-- The five fields of both requests, then those of the command: each way out is a law of Listing.
use mathlib.Core.Path.{◌≡◌, refl, sym, ◌∙◌}
use Rattle.std.specs.Prelude.{Ok}
use Rattle.message.specs.ReadingAMessage.{command}
use Rattle.message.specs.Failures.{failed_with}
use Rattle.message.proofs.Listing.{lists-read, listed-refused, lists-failed, lists-rest, other-command}
use Rattle.request.proofs.lists.Goals as goal

pub returns-in_err-from : goal.returns-in_err-from
unfolding failed_with
returns-in_err-from c =
    let m = c.args.m.now in
    let p = c.requires in
    lists-read c.args.most m _ (listed-refused _ c.from_residual.ensures.1 (lists-failed c.args.most m c.in_err-from.field-0.0 p.1 p.2 c.in_err-from.ensures.code))

pub list_265-requires : goal.list_265-requires
list_265-requires c =
    let r = c.in_ok-from.ensures in
    let s = c.in_ok-from.from in
    let p = c.requires in
    (p.3, r.session s refl, r.host s refl, r.realm s refl, p.0, p.2, p.4, p.5)

pub returns-then-read24-eq265 : goal.returns-then-read24-eq265
unfolding failed_with
returns-then-read24-eq265 c =
    let m = c.args.m.now in
    let k : command m ≡ 265 = sym c.read24.ensures.0 ∙ c.if-read24-eq265.true in
    lists-read c.args.most m _ (rw (lists-rest c.args.most m c.requires.1 c.requires.2 c.in_ok-from.ensures.code, k) c.list_265.ensures)

pub list_275-requires : goal.list_275-requires
list_275-requires c = (c.requires.3, c.in_ok-from.ensures.session c.in_ok-from.from refl)

pub returns : goal.returns
unfolding failed_with
returns c =
    let m = c.args.m.now in
    let k : command m ≡ 275 = other-command m c.requires.1 (λ q. c.if-read24-eq265.false (c.read24.ensures.0 ∙ q)) in
    lists-read c.args.most m _ (rw (lists-rest c.args.most m c.requires.1 c.requires.2 c.in_ok-from.ensures.code, k) (c.list_275.ensures c.args.most))

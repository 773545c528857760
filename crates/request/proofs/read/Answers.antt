-- The header, the walk, then both lists.
use mathlib.Core.Path.{refl, sym}
use Rattle.octets.specs.Texts.{zeros}
use Rattle.message.specs.Failures.{failed_with}
use Rattle.message.proofs.Listing.{heard-header, heard-walk}
use Rattle.request.proofs.read.Goals as goal

pub returns-in-Err : goal.returns-in-Err
unfolding failed_with
returns-in-Err c = rw c.refused.ensures (heard-header c.args.most c.args.m.now c.in-Err.f (sym c.in-Err.ensures))

pub gather-requires : goal.gather-requires
unfolding zeros
gather-requires c = (c.requires.0, refl)

pub returns-in-Err-gather : goal.returns-in-Err-gather
unfolding failed_with
returns-in-Err-gather c =
    rw c.refused-in-Err-gather.ensures
    (heard-walk c.args.most c.args.m.now c.in-Err-gather.f (sym c.in_default.ensures) (sym c.in-Err-gather.ensures.0))

pub lists-requires : goal.lists-requires
unfolding failed_with
lists-requires c =
    let g = c.in_default-gather.ensures in
    let p = c.requires in
    (p.0, sym c.in_default.ensures, sym g.0, g.1, p.1, p.2)

pub proxies_seen-requires : goal.proxies_seen-requires
unfolding failed_with
proxies_seen-requires c =
    let g = c.in_default-gather.ensures in
    (sym c.in_default.ensures, sym g.0, g.1)

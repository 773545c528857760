-- The header, the walk, then list and Session-Id.
use mathlib.Core.Path.{refl, sym}
use Rattle.octets.specs.Texts.{zeros}
use Rattle.message.specs.Failures.{failed_with}
use Rattle.gateway.proofs.Reading.{copying-is, heard-header, heard-walk, reading-is}
use Rattle.gateway.proofs.read.Goals as goal

pub returns-in-Err : goal.returns-in-Err
unfolding failed_with
returns-in-Err c =
    let a = c.args in
    rw c.refused.ensures (heard-header a.own.now a.m.now c.in-Err.f (sym (c.in-Err.ensures)))

pub gather-requires : goal.gather-requires
unfolding zeros
gather-requires c = (c.requires, refl)

pub returns-in-Err-gather : goal.returns-in-Err-gather
unfolding failed_with
returns-in-Err-gather c =
    let a = c.args in
    rw c.refused-in-Err-gather.ensures (heard-walk a.own.now a.m.now (sym (c.in_default.ensures)) c.in-Err-gather.f (sym (c.in-Err-gather.ensures).0))

pub fields-fields-requires : goal.fields-fields-requires
unfolding failed_with
fields-fields-requires c =
    let g = c.in_default-gather.ensures in
    (c.requires, sym g.0, g.1)

pub returns : goal.returns
unfolding failed_with
returns c =
    let a = c.args in
    let h = sym (c.in_default.ensures) in
    let g = c.in_default-gather.ensures in
    record {
      reading = rw (reading-is a.own.now a.m.now h (sym g.0)) c.fields-fields.ensures;
      copying = copying-is a.own.now a.m.now h (sym g.0) c.proxies_seen-proxies.result c.proxies_seen-proxies.ensures;
    }

-- Failure by failure: `header-entry` of Laws.
use mathlib.Core.Path.{◌≡◌, sym, ap, ◌∙◌}
use Rattle.octets.specs.Choice.{pick}
use Rattle.message.specs.ReadingAMessage.{header_code}
use Rattle.message.specs.Failures.{failure_code, failed_with}
use Rattle.reasons.specs.Reasons.{check_named}
use Rattle.reasons.proofs.Laws.{header_entry, header-entry, header-last}
use Rattle.reasons.proofs.header_failed.Goals as goal

pub returns-in-Ok : goal.returns-in-Ok
unfolding failed_with check_named header_entry pick
returns-in-Ok c =
    let m = c.args.m.now in
    let e : header_code m ≡ 0 = sym c.in-Ok.ensures in
    rw e at (header-entry m)

pub returns-in-InvalidBitInHeader : goal.returns-in-InvalidBitInHeader
unfolding failed_with failure_code check_named header_entry pick
returns-in-InvalidBitInHeader c =
    let m = c.args.m.now in
    let e : header_code m ≡ 5013 = sym c.in-Err.ensures ∙ ap failure_code c.in-InvalidBitInHeader.is in
    rw e at (header-entry m)

pub returns-in-InvalidHeaderBits : goal.returns-in-InvalidHeaderBits
unfolding failed_with failure_code check_named header_entry pick
returns-in-InvalidHeaderBits c =
    let m = c.args.m.now in
    let e : header_code m ≡ 3008 = sym c.in-Err.ensures ∙ ap failure_code c.in-InvalidHeaderBits.is in
    rw e at (header-entry m)

pub returns-in-CommandUnsupported : goal.returns-in-CommandUnsupported
unfolding failed_with failure_code check_named header_entry pick
returns-in-CommandUnsupported c =
    let m = c.args.m.now in
    let e : header_code m ≡ 3001 = sym c.in-Err.ensures ∙ ap failure_code c.in-CommandUnsupported.is in
    rw e at (header-entry m)

pub returns-in_default : goal.returns-in_default
unfolding failed_with check_named
returns-in_default c =
    let d = c.in_default in
    sym (header-last c.in-Err.f d.not-InvalidBitInHeader d.not-InvalidHeaderBits d.not-CommandUnsupported)
    ∙ ap header_entry c.in-Err.ensures
    ∙ header-entry c.args.m.now

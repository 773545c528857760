-- One law for each arm.
use Rattle.std.proofs.Common.{sym, arith}
use Rattle.report.specs.Code.{told_of}
use Rattle.report.proofs.Columns.{opening-counts, opening-else, cut-counts, no-cut-counts}
use Rattle.report.proofs.opening_adds.Goals as goal

pub returns-in-0 : goal.returns-in-0
unfolding told_of
returns-in-0 c = sym (opening-counts (told_of c.args.t) c.args.k c.requires c.in-0.is)

pub returns-in-1 : goal.returns-in-1
unfolding told_of
returns-in-1 c = sym (cut-counts (told_of c.args.t) c.args.k c.requires c.in-1.is c.if-t-ne0.true)

pub returns-in_default : goal.returns-in_default
unfolding told_of
returns-in_default c = sym (no-cut-counts (told_of c.args.t) c.args.k c.requires c.in-1.is c.if-t-ne0.false)

pub returns-in_default-2 : goal.returns-in_default-2
unfolding told_of
returns-in_default-2 c = sym (opening-else (told_of c.args.t) c.args.k c.requires (omega arith) (omega arith))

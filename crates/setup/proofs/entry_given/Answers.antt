-- A test that fails refuses, the last one decides: `not-given` and `given-last` of SetUps.
use native.Mathlib.Omega.{arith}
use lib.ListN.{length}
use Rattle.setup.proofs.SetUps.{given-last, not-given}
use Rattle.setup.proofs.entry_given.Goals as goal

pub returns-then-label-lt1 : goal.returns-then-label-lt1
returns-then-label-lt1 c =
    not-given (length c.args.label.now) c.args.flags c.args.limit (λ a b f l m. omega arith)

pub returns-then-label-gt-LABEL_MOST : goal.returns-then-label-gt-LABEL_MOST
returns-then-label-gt-LABEL_MOST c =
    not-given (length c.args.label.now) c.args.flags c.args.limit (λ a b f l m. omega arith)

pub returns-then-flags-gt3 : goal.returns-then-flags-gt3
returns-then-flags-gt3 c =
    not-given (length c.args.label.now) c.args.flags c.args.limit (λ a b f l m. omega arith)

pub returns-then-limit-lt1 : goal.returns-then-limit-lt1
returns-then-limit-lt1 c =
    not-given (length c.args.label.now) c.args.flags c.args.limit (λ a b f l m. omega arith)

pub returns : goal.returns
returns c =
    given-last (length c.args.label.now) c.args.flags c.args.limit (omega arith) (omega arith) (omega arith) (omega arith)

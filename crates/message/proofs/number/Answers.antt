-- The tests in their order: each way out is a law of Heads.
use mathlib.Core.Path.{◌≡◌, sym, ◌∙◌}
use native.Mathlib.Omega.{arith}
use lib.ListN.{length}
use borrow.Author.Tests.{eqb-false, eqb-true}
use Rattle.octets.specs.Numbers.{net24}
use Rattle.message.proofs.Heads.{number_short, number-long, number-version, number-length, number-four, number-answer, number-none}
use Rattle.message.proofs.number.Goals as goal

pub returns-then-n-lt-HEADER_LENGTH : goal.returns-then-n-lt-HEADER_LENGTH
returns-then-n-lt-HEADER_LENGTH c = sym (number_short c.args.m.now (omega arith))

pub returns-then-n-gt-LENGTH_MOST : goal.returns-then-n-gt-LENGTH_MOST
returns-then-n-gt-LENGTH_MOST c = sym (number-long c.args.m.now (omega arith) (omega arith))

pub returns-then-m-ne1 : goal.returns-then-m-ne1
returns-then-m-ne1 c =
    sym (number-version c.args.m.now (omega arith) (omega arith) c.if-m-ne1.true)

pub returns-then-not-has_length : goal.returns-then-not-has_length
returns-then-not-has_length c =
    let m = c.args.m.now in
    sym (number-length m (omega arith) (omega arith) c.if-m-ne1.false
    (eqb-false (net24 m 1) (length m) (sym c.has_length.ensures ∙ c.if-not-has_length.true)))

pub returns-then-n-ne0 : goal.returns-then-n-ne0
returns-then-n-ne0 c =
    let m = c.args.m.now in
    let long : net24 m 1 ≡ length m = eqb-true (net24 m 1) (length m) (sym c.has_length.ensures ∙ c.if-not-has_length.false) in
    sym (number-four m (omega arith) (omega arith) c.if-m-ne1.false long c.if-n-ne0.true)

pub returns-then-m-lt128 : goal.returns-then-m-lt128
returns-then-m-lt128 c =
    let m = c.args.m.now in
    let long : net24 m 1 ≡ length m = eqb-true (net24 m 1) (length m) (sym c.has_length.ensures ∙ c.if-not-has_length.false) in
    sym (number-answer m (omega arith) (omega arith) c.if-m-ne1.false long
    c.if-n-ne0.false (omega arith))

pub returns : goal.returns
returns c =
    let m = c.args.m.now in
    let long : net24 m 1 ≡ length m = eqb-true (net24 m 1) (length m) (sym c.has_length.ensures ∙ c.if-not-has_length.false) in
    sym (number-none m (omega arith) (omega arith) c.if-m-ne1.false long
    c.if-n-ne0.false (omega arith))

-- The ground of a call explains what it is answered: the code, and success.
use mathlib.Core.Path.{◌≡◌, refl, ◌∙◌}
use mathlib.Core.List.{List, [], ◌∷◌}
use borrow.Author.Tests.{eqb-true}
use lib.Dec.{eqb}
use Rattle.octets.specs.Choice.{pick}
use Rattle.octets.proofs.Lists.{by-test}
use Rattle.message.specs.Codes.{number_of}
use Rattle.rules.specs.Calls.{call_number, silent}
use Rattle.order.specs.ChecksInOrder.{Check, pass, fail, first_failed, first_failing, none_fails}
use Rattle.order.specs.Demand2.{checks, succeeds}
use Rattle.order.proofs.Checks.{first-failing-check, success-exactly, unanswered-leaves}
use Rattle.reasons.specs.Reasons.{checked, ground_of, code_for, GroundGivesTheCode, nothing_fails, NothingFailsOnSuccess}

pub ground-gives-the-code : GroundGivesTheCode
unfolding ground_of code_for first_failing silent number_of pick
ground-gives-the-code t c =
    by-test (eqb (call_number t c) 0)
    (λ e. rw e (first-failing-check t c (eqb-true (call_number t c) 0 e)))
    (λ e. rw (e, unanswered-leaves t c e) (record { number = refl; kind = refl }))

none_is : (cs : List Check) → none_fails cs ≡ nothing_fails (checked (first_failed cs))
unfolding none_fails first_failed nothing_fails
none_is [] = refl
none_is (pass ∷ cs) = none_is cs
none_is (fail what code ∷ cs) = refl

pub nothing-fails-on-success : NothingFailsOnSuccess
unfolding ground_of nothing_fails succeeds pick
nothing-fails-on-success t c =
    success-exactly t c ∙ by-test (eqb (call_number t c) 0) (λ e. rw e (none_is (checks t c))) (λ e. rw e)

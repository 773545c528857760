-- No second answer: all that was given back can be read back from all that was left, so that what is equal there was equal before.
use mathlib.Core.Path.{◌≡◌, sym, ap, ◌∙◌}
use mathlib.Core.List.{List}
use Prim.Native.Nat.{ℕ}
use Rattle.setup.specs.SetUp.{SetUp, left}
use Rattle.table.specs.Answers.{lent}
use Rattle.rules.specs.Calls.{Left}
use Rattle.decision.specs.Outcomes.{leaves}
use Rattle.decision.proofs.Apart.{outcome_back, outcome-back}
use Rattle.order.specs.NoSecondAnswer.{Given, OneClearing, OneEntering, OneAdding, OneAnswer}

-- A REQUEST

given_back : Left → Given
given_back l =
    record { outcome = outcome_back l.reply.result; table = l.table.bytes; answer = l.reply.answer; notice = l.reply.notice }

given_back_lem : (form : ℕ) (g : Given) → given_back (leaves g.outcome (lent form g.table) g.answer g.notice) ≡ g
unfolding given_back leaves
given_back_lem form g = λ i. record { outcome = outcome-back g.outcome i; table = g.table; answer = g.answer; notice = g.notice }

one-given : (form : ℕ) (g h : Given) → leaves g.outcome (lent form g.table) g.answer g.notice ≡ leaves h.outcome (lent form h.table) h.answer h.notice → g ≡ h
one-given form g h e = sym (given_back_lem form g) ∙ ap given_back e ∙ given_back_lem form h

pub one_answer : OneAnswer
one_answer form table operator host realm message wag answer notice g h p q = one-given form g h (p ∙ sym q)

-- SET-UP

one_left : (form n m : ℕ) (t u : List ℕ) → left n (lent form t) ≡ left m (lent form u) → (n ≡ m) × (t ≡ u)
one_left form n m t u e = (ap (λ (s : SetUp). s.number) e, ap (λ (s : SetUp). s.table.bytes) e)

pub one-clearing : OneClearing
one-clearing form table n m t u p q = one_left form n m t u (p ∙ sym q)

pub one-entering : OneEntering
one-entering form table shares a n m t u p q = one_left form n m t u (p ∙ sym q)

pub one-adding : OneAdding
one-adding form table a label limit flags n m t u p q = one_left form n m t u (p ∙ sym q)

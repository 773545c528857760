-- No second answer in C: what `wm_handle` promises for the same inputs is met by one outcome only, in the struct that it returns and
-- in every byte that it was lent. The equation is the one that `wm_handle` ensures; `proofs/Ensured` holds it to that, and shows that `wm_clear`,
-- `wm_enter` and `wm_add` ensure what the operations of `setup` do.
use Rattle.std.specs.Prelude.{◌≡◌, Bool, List, ℕ}
use Rattle.table.specs.Answers.{lent}
use Rattle.rules.specs.Calls.{handle}
use Rattle.decision.specs.Outcomes.{call_of}
use Rattle.numbers.specs.declared.Numbers.{Numbers}
use Rattle.wm.specs.InC.{leaves_in_c}

-- All that `wm_handle` gives back: the struct that it returns, and the full contents of table, answer room and notice room.
pub record GivenInC : Type 0 where
  pub outcome : Numbers
  pub table : List ℕ
  pub answer : List ℕ
  pub notice : List ℕ

-- What `wm_handle` ensures of that.
abbrev pub PromisedInC : (form : ℕ) → (table : List ℕ) → (operator : ℕ) → (host realm message : List ℕ) → (wag : Bool) → (answer notice : List ℕ) → GivenInC → Type 0
PromisedInC form table operator host realm message wag answer notice g =
    leaves_in_c g.outcome (lent form g.table) g.answer g.notice ≡ handle (lent form table) (call_of operator message host realm answer notice wag)

abbrev pub OneAnswerInC : Type 0
OneAnswerInC =
    (form : ℕ) (table : List ℕ) (operator : ℕ) (host realm message : List ℕ) (wag : Bool) (answer notice : List ℕ) (g h : GivenInC)
    → PromisedInC form table operator host realm message wag answer notice g
    → PromisedInC form table operator host realm message wag answer notice h
    → g ≡ h

-- No second answer: what an operation promises for the same inputs is met by one outcome only, in what it returns and in every
-- byte that it was lent. The form of the table is lent beside its bytes, any number; it is not given back. Each equation here is the one
-- that the operation ensures, of any outcome that might be given back; `proofs/Ensured` holds them to the operations' own.
use Rattle.std.specs.Prelude.{◌≡◌, Bool, List, ℕ}
use Rattle.setup.specs.SetUp.{left, clear, enter, add}
use Rattle.table.specs.TheTable.{Account}
use Rattle.table.specs.Answers.{lent}
use Rattle.rules.specs.Calls.{handle}
use Rattle.decision.specs.declared.Outcome.{Outcome}
use Rattle.decision.specs.Outcomes.{call_of, leaves}

-- A REQUEST

-- All that `decision::handle` gives back: the struct that it returns, and the full contents of table, answer room and notice room.
pub record Given : Type 0 where
  pub outcome : Outcome
  pub table : List ℕ
  pub answer : List ℕ
  pub notice : List ℕ

-- What `decision::handle` ensures of that.
abbrev pub Promised : (form : ℕ) → (table : List ℕ) → (operator : ℕ) → (host realm message : List ℕ) → (wag : Bool) → (answer notice : List ℕ) → Given → Type 0
Promised form table operator host realm message wag answer notice g =
    leaves g.outcome (lent form g.table) g.answer g.notice ≡ handle (lent form table) (call_of operator message host realm answer notice wag)

abbrev pub OneAnswer : Type 0
OneAnswer =
    (form : ℕ) (table : List ℕ) (operator : ℕ) (host realm message : List ℕ) (wag : Bool) (answer notice : List ℕ) (g h : Given)
    → Promised form table operator host realm message wag answer notice g
    → Promised form table operator host realm message wag answer notice h
    → g ≡ h

-- SET-UP: the number that is returned, and the table as it stands then. `wm_clear`, `wm_enter` and `wm_add` ensure the same.

abbrev pub OneClearing : Type 0
OneClearing =
    (form : ℕ) (table : List ℕ) (n m : ℕ) (t u : List ℕ)
    → left n (lent form t) ≡ clear (lent form table)
    → left m (lent form u) ≡ clear (lent form table)
    → (n ≡ m) × (t ≡ u)

abbrev pub OneEntering : Type 0
OneEntering =
    (form : ℕ) (table shares : List ℕ) (a : Account) (n m : ℕ) (t u : List ℕ)
    → left n (lent form t) ≡ enter (lent form table) shares a
    → left m (lent form u) ≡ enter (lent form table) shares a
    → (n ≡ m) × (t ≡ u)

abbrev pub OneAdding : Type 0
OneAdding =
    (form : ℕ) (table : List ℕ) (a : Account) (label : List ℕ) (limit flags n m : ℕ) (t u : List ℕ)
    → left n (lent form t) ≡ add (lent form table) a (record { label = label; flags = flags; limit = limit })
    → left m (lent form u) ≡ add (lent form table) a (record { label = label; flags = flags; limit = limit })
    → (n ≡ m) × (t ≡ u)

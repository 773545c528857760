-- Operators on one table where requests come in bursts too (W2): what one operator is told still depends on nothing of the others. The histories,
-- what is told and what is the same are those of crate `isolation`, with one thing more that an operator may do.
use Rattle.std.specs.Prelude.{◌≡◌, Bool, false, List, [], ◌∷◌, map, ℕ, ◌≤◌, eqb, length}
use Rattle.octets.specs.Choice.{pick}
use Rattle.octets.specs.Lists.{keep}
use Rattle.table.specs.TheTable.{Account, Table, own_rows}
use Rattle.setup.specs.SetUp.{enter, share}
use Rattle.rules.specs.Calls.{Result}
use Rattle.isolation.specs.Isolation.{Alike, Done, Operation, Past, Word, done, operator_of, past, zero_table}
use Rattle.burst.specs.TheBurst.{Burst, Bursted, Taken, burst}

-- HISTORIES

-- What an operator does: one operation, or a burst, all messages of which are one operator's.
pub data Action : Type 0 where
  single : Operation → Action
  bursting : Burst → Action

unfoldable pub actor_of : Action → ℕ
actor_of (single x) = operator_of x
actor_of (bursting b) = b.operator

-- What it is told: the word of one operation; of a burst everything that it leaves but the table.
pub record Written : Type 0 where
  pub taken : Taken
  pub answers : List ℕ
  pub notices : List ℕ
  pub results : List Result

pub data Said : Type 0 where
  word : Word → Said
  written : Written → Said

-- An action on a table: what is said, and the table afterwards. Every entering brings the same shares, whoever enters.
pub record Acted : Type 0 where
  pub said : Said
  pub table : Table

unfoldable pub singly : Done → Acted
singly d = record { said = word d.told; table = d.table }

unfoldable pub at_once : Bursted → Acted
at_once x =
    record {
      said = written (record { taken = x.taken; answers = x.answers; notices = x.notices; results = x.results });
      table = x.table;
    }

unfoldable pub acted : (shares : List ℕ) → (t : Table) → Action → Acted
acted shares t (single x) = singly (done shares t x)
acted shares t (bursting b) = at_once (burst t b)

-- A history, one action after another: what was said of each, and the table in the end.
pub record History : Type 0 where
  pub saids : List Said
  pub table : Table

unfoldable pub acted_first : Acted → History → History
acted_first d rest = record { saids = d.said ∷ rest.saids; table = rest.table }

unfoldable pub history : (shares : List ℕ) → (t : Table) → List Action → History
history shares t [] = record { saids = []; table = t }
history shares t (x ∷ xs) = acted_first (acted shares t x) (history shares (acted shares t x).table xs)

-- The actions of one operator, and what was said to it, in order. `ss` holds what was said of each action.
unfoldable pub acts_for : ℕ → Action → Bool
acts_for o x = eqb (actor_of x) o

unfoldable pub actions_of : ℕ → List Action → List Action
actions_of o xs = keep (acts_for o) xs

unfoldable pub said_to : ℕ → (xs : List Action) → (ss : List Said) → List Said
said_to o [] ss = []
said_to o (x ∷ xs) [] = []
said_to o (x ∷ xs) (s ∷ ss) = pick (acts_for o x) (s ∷ said_to o xs ss) (said_to o xs ss)

-- Without bursts these are the histories of crate `isolation`.
unfoldable pub in_words : Past → History
in_words p = record { saids = map word p.words; table = p.table }

abbrev pub WithoutBursts : Type 0
WithoutBursts = (shares : List ℕ) (t : Table) (xs : List Operation) → history shares t (map single xs) ≡ in_words (past shares t xs)

-- ISOLATION

-- No action changes the form of a table.
abbrev pub FormStaysWithBursts : Type 0
FormStaysWithBursts = (shares : List ℕ) (t : Table) (xs : List Action) → (history shares t xs).table.form ≡ t.form

-- One operator is told the same, and has the same rows in the same order; and the tables are of one form.
pub record SameWithBursts (o : ℕ) (xs ys : List Action) (p q : History) : Type 0 where
  pub told : said_to o xs p.saids ≡ said_to o ys q.saids
  pub rows : own_rows o p.table ≡ own_rows o q.table
  pub form : p.table.form ≡ q.table.form

-- On cleared tables of one form and one length, whatever the others do, one by one or in bursts.
abbrev pub IsolatedWithBursts : Type 0
IsolatedWithBursts =
    (form size o : ℕ) (shares others : List ℕ) (xs ys : List Action) → Alike o shares others → actions_of o xs ≡ actions_of o ys
    → SameWithBursts o xs ys (history shares (zero_table form size) xs) (history others (zero_table form size) ys)

-- WHAT FOLLOWS FOR TABLES REACHED FROM A CLEARED ONE

-- Number 11, no row is wholly zero, never comes.
abbrev pub NeverElevenWithBursts : Type 0
NeverElevenWithBursts =
    (form size : ℕ) (shares : List ℕ) (xs : List Action) (a : Account)
    → eqb (enter (history shares (zero_table form size) xs).table shares a).number 11 ≡ false

-- No operator has more rows than its share.
abbrev pub WithinShareWithBursts : Type 0
WithinShareWithBursts =
    (form size o : ℕ) (shares : List ℕ) (xs : List Action)
    → length (own_rows o (history shares (zero_table form size) xs).table) ≤ share o shares

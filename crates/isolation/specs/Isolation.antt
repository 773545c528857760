-- Operators on one table: what one operator is told depends on its own rows, its own share, the sum of the shares and the table's length, and on
-- nothing else of the others. Stated as non-interference: two histories in which one operator does the same tell it the same, whatever the others do.
-- It holds of tables of either form (W5); the form is the table's, all operators have the same, and no operation changes it.
use Rattle.std.specs.Prelude.{◌≡◌, Bool, true, false, List, [], ◌∷◌, ℕ, ◌≤◌, eqb, length, get_or}
use Rattle.octets.specs.Choice.{pick}
use Rattle.octets.specs.Lists.{every, keep, sum_of}
use Rattle.octets.specs.Texts.{zeros}
use Rattle.table.specs.TheTable.{Account, Entry, Table, own_rows, has_name, lookup, first_row, rows}
use Rattle.message.specs.Codes.{user_unknown}
use Rattle.message.specs.ReadingAMessage.{Request, request, read}
use Rattle.setup.specs.SetUp.{SetUp, add, enter, share}
use Rattle.rules.specs.Calls.{Call, Left, Reply, call_number, handle, most_policies, refusal}

-- HISTORIES

-- What an operator does: it enters a subscriber, adds a W-APN, or sends a request.
pub data Operation : Type 0 where
  entering : Account → Operation
  adding : Account → Entry → Operation
  asking : Call → Operation

unfoldable pub operator_of : Operation → ℕ
operator_of (entering a) = a.operator
operator_of (adding a e) = a.operator
operator_of (asking c) = c.operator

-- What it is told: the number of a set-up operation; of a request the whole reply, result, answer and notice.
pub data Word : Type 0 where
  number : ℕ → Word
  answer : Reply → Word

-- An operation on a table: what is told, and the table afterwards. Every entering brings the same shares, whoever enters.
pub record Done : Type 0 where
  pub told : Word
  pub table : Table

unfoldable pub set_up : SetUp → Done
set_up s = record { told = number s.number; table = s.table }

unfoldable pub answered : Left → Done
answered l = record { told = answer l.reply; table = l.table }

unfoldable pub done : (shares : List ℕ) → (t : Table) → Operation → Done
done shares t (entering a) = set_up (enter t shares a)
done shares t (adding a e) = set_up (add t a e)
done shares t (asking c) = answered (handle t c)

-- A history, one operation after another: what each was told, and the table in the end.
pub record Past : Type 0 where
  pub words : List Word
  pub table : Table

unfoldable pub done_first : Done → Past → Past
done_first d rest = record { words = d.told ∷ rest.words; table = rest.table }

unfoldable pub past : (shares : List ℕ) → (t : Table) → List Operation → Past
past shares t [] = record { words = []; table = t }
past shares t (x ∷ xs) = done_first (done shares t x) (past shares (done shares t x).table xs)

-- The operations of one operator, and what it was told, in order. `ws` holds a word for each operation.
unfoldable pub is_by : ℕ → Operation → Bool
is_by o x = eqb (operator_of x) o

unfoldable pub operations_of : ℕ → List Operation → List Operation
operations_of o xs = keep (is_by o) xs

unfoldable pub told_to : ℕ → (xs : List Operation) → (ws : List Word) → List Word
told_to o [] ws = []
told_to o (x ∷ xs) [] = []
told_to o (x ∷ xs) (w ∷ ws) = pick (is_by o x) (w ∷ told_to o xs ws) (told_to o xs ws)

-- ISOLATION

-- Two lists of shares that one operator can not tell apart: as many, its own the same, and the same sum. The other shares may differ.
pub record Alike (o : ℕ) (shares others : List ℕ) : Type 0 where
  pub count : length shares ≡ length others
  pub own : share o shares ≡ share o others
  pub sum : sum_of shares ≡ sum_of others

-- A cleared table, of a form and of a number of bytes.
abbrev pub zero_table : (form size : ℕ) → Table
zero_table f n = record { form = f; bytes = zeros n }

-- No operation changes the form of a table.
abbrev pub FormStays : Type 0
FormStays = (shares : List ℕ) (t : Table) (xs : List Operation) → (past shares t xs).table.form ≡ t.form

-- One operator is told the same, and has the same rows in the same order; and the tables are of one form.
pub record SameFor (o : ℕ) (xs ys : List Operation) (p q : Past) : Type 0 where
  pub told : told_to o xs p.words ≡ told_to o ys q.words
  pub rows : own_rows o p.table ≡ own_rows o q.table
  pub form : p.table.form ≡ q.table.form

-- On cleared tables of one form and one length, whatever the others do.
abbrev pub Isolated : Type 0
Isolated =
    (form size o : ℕ) (shares others : List ℕ) (xs ys : List Operation) → Alike o shares others → operations_of o xs ≡ operations_of o ys
    → SameFor o xs ys (past shares (zero_table form size) xs) (past others (zero_table form size) ys)

-- WHAT FOLLOWS FOR TABLES REACHED FROM A CLEARED ONE

-- Number 11, no row is wholly zero, never comes: an operator whose share is not full finds one.
abbrev pub NeverEleven : Type 0
NeverEleven =
    (form size : ℕ) (shares : List ℕ) (xs : List Operation) (a : Account)
    → eqb (enter (past shares (zero_table form size) xs).table shares a).number 11 ≡ false

-- No operator has more rows than its share.
abbrev pub WithinShare : Type 0
WithinShare =
    (form size o : ℕ) (shares : List ℕ) (xs : List Operation) → length (own_rows o (past shares (zero_table form size) xs).table) ≤ share o shares

-- TABLES OF BEFORE: where byte 19 of every row is zero, all accounts are operator 0's.

-- Operator 0 finds what is found by the name alone, so that its requests and addings are answered as before there were operators.
abbrev pub NameAlone : Type 0
NameAlone =
    (t : Table) (name : List ℕ) → every (λ r. eqb (get_or r 19 0) 0) (rows t) ≡ true
    → lookup t (record { operator = 0; name = name }) ≡ first_row (has_name name) (rows t)

-- To any other operator a request that passes the reading is answered USER_UNKNOWN, and changes nothing.
abbrev pub UnknownToOthers : Type 0
UnknownToOthers =
    (t : Table) (c : Call) (q : Request) → every (λ r. eqb (get_or r 19 0) 0) (rows t) ≡ true → eqb c.operator 0 ≡ false
    → call_number t c ≡ 0 → read (most_policies t.form) c.message ≡ request q → handle t c ≡ refusal t c user_unknown

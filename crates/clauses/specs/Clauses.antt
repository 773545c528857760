-- Which clause of soundness a row breaks: the number of the first that fails, in the paper's order, 0 where none does.
use Rattle.std.specs.Prelude.{◌&&◌, List, [], ◌∷◌, ℕ, leb, length, get_or}
use Rattle.octets.specs.Choice.{require, first_of, within}
use Rattle.octets.specs.Lists.{every, distinct, sum_of}
use Rattle.octets.specs.Texts.{part, same}
use Rattle.table.specs.TheTable.{Access, places, head, order_line, read_row}
use Rattle.table.specs.Soundness.{is_row, head_form, entries_form, place_form, sums_agree, place_sums, line_exact, same_label, labels, limits, sessions, under_limits, policy_marked, policies_in_order}
use Rattle.clauses.specs.declared.Clause.{Clause}
use Rattle.clauses.specs.declared.Clause.TheVariants.{NoClause, HeadForm, EntryForm, PlaceForm, Sums, Line, Labels, Limits, Sessions, NoEntry, OverLimit, PolicyMark, PolicyOrder}

-- The number of each clause.
unfoldable pub clause_number : Clause → ℕ
clause_number NoClause = 0
clause_number HeadForm = 1
clause_number EntryForm = 2
clause_number PlaceForm = 3
clause_number Sums = 4
clause_number Line = 5
clause_number Labels = 6
clause_number Limits = 7
clause_number Sessions = 8
clause_number NoEntry = 9
clause_number OverLimit = 10
clause_number PolicyMark = 11
clause_number PolicyOrder = 12

-- 1: a row has its length, and block 0 its form. 2: so have the entries. 3: so has each place, in each of its blocks. 4: the
-- sums of all blocks agree.
unfoldable pub broken_form : List ℕ → ℕ
broken_form r =
    first_of
    (require (is_row r && head_form (head r)) 1
    ∷ require (entries_form (get_or (head r) 18 0) (part (head r) 32 416)) 2
    ∷ require (every (place_form r) places) 3
    ∷ require (sums_agree (head r) && every (place_sums r) places) 4
    ∷ [])

-- 5: the line is the places in use. 6: no two labels are the same. 7: the limits come to 8 or less. 8: no two accesses have one
-- Session-Id. 9: the entry of each access is there. 10: no entry has more accesses than it may. 11: a policy is marked where it has
-- bytes. 12: none stands behind one that is not there.
unfoldable pub broken_contents : List ℕ → ℕ
broken_contents r =
    first_of
    (require (line_exact r) 5
    ∷ require (distinct same_label (labels (read_row r).entries)) 6
    ∷ require (leb (sum_of (limits (read_row r).entries)) 8) 7
    ∷ require (distinct same (sessions (read_row r).accesses)) 8
    ∷ require (every (λ (x : Access). within 1 (length (read_row r).entries) x.entry) (read_row r).accesses) 9
    ∷ require (under_limits 1 (limits (read_row r).entries) (read_row r).accesses) 10
    ∷ require (every (policy_marked r) (order_line r)) 11
    ∷ require (every (policies_in_order r) (order_line r)) 12
    ∷ [])

-- It is 0 exactly for a sound row: `unbroken` of proofs/Laws.antt.
unfoldable pub broken_clause : List ℕ → ℕ
broken_clause r = first_of (broken_form r ∷ broken_contents r ∷ [])

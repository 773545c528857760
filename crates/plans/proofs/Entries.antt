-- The entries of a sound row, one by one, and one step of the search by label.
use mathlib.Core.Path.{◌≡◌, ap, ◌∙◌}
use mathlib.Core.Bool.{true, false}
use mathlib.Core.List.{List, ◌∷◌}
use Prim.Native.Nat.{ℕ, suc, ◌+◌, ◌-◌, ◌*◌, ◌≤◌, ◌<◌}
use native.Mathlib.Omega.{arith}
use lib.ListN.{length, drop, get_or, drop_of_length-le}
use lib.Seq.{drop-cons}
use Rattle.octets.specs.Choice.{pick}
use Rattle.octets.specs.Texts.{part}
use Rattle.table.specs.TheTable.{Entry, entries_room, head, read_entry, read_row}
use Rattle.table.specs.Soundness.{sound, same_label}
use Rattle.table.proofs.Entries.{entry-at, label-size}
use Rattle.table.proofs.Sound.{clauses}
use Rattle.row.proofs.Entries.{count-is}
use Rattle.rules.specs.Deciding.{entry_from, no_entry, entry_at}

-- the search by label

module _ (l : List ℕ) (es : List Entry) (n : ℕ) (one : 1 ≤ n) where
  pub name-over : length es < n → entry_from n l (drop (n - 1) es) ≡ 0
  unfolding entry_from
  name-over h = rw (drop_of_length-le es {i = n - 1} (omega arith))

  -- an entry more
  module _ (h : n ≤ length es) where
    there : drop (n - 1) es ≡ get_or es (n - 1) no_entry ∷ drop (n + 1 - 1) es
    there = let q : suc (n - 1) ≡ n + 1 - 1 = omega arith in drop-cons es (n - 1) no_entry (omega arith) ∙ ap (λ (k : ℕ). get_or es (n - 1) no_entry ∷ drop k es) q

    pub name-hit : same_label l (get_or es (n - 1) no_entry).label ≡ true → entry_from n l (drop (n - 1) es) ≡ n
    unfolding entry_from pick
    name-hit q = rw (there, q)

    pub name-on : same_label l (get_or es (n - 1) no_entry).label ≡ false → entry_from n l (drop (n - 1) es) ≡ entry_from (n + 1) l (drop (n + 1 - 1) es)
    unfolding entry_from pick
    name-on q = let p : suc n ≡ n + 1 = omega arith in rw (there, q, p)

-- entry n of a sound row, counted from 1
module _ (r : List ℕ) (h : sound r ≡ true) where
  module _ (n : ℕ) (one : 1 ≤ n) (le : n ≤ length (read_row r).entries) where
    inside : n - 1 < get_or (head r) 18 0
    inside = omega (arith, count-is r)

    pub entry-is : entry_at n (read_row r) ≡ read_entry (part (entries_room r) (104 * (n - 1)) 104)
    unfolding entry_at read_row
    entry-is = entry-at (get_or (head r) 18 0) (n - 1) (entries_room r) no_entry inside

    pub label-short : get_or (entries_room r) (104 * (n - 1)) 0 ≤ 100
    label-short = label-size (get_or (head r) 18 0) (n - 1) (entries_room r) inside (clauses r h).entries-form

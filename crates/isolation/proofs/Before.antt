-- A table on which byte 19 of every row is zero.
use mathlib.Core.Path.{◌≡◌, refl, sym, ◌∙◌}
use mathlib.Core.Bool.{true, false, not}
use mathlib.Core.List.{List, [], ◌∷◌}
use Prim.Native.Nat.{ℕ}
use borrow.Author.Tests.{eqb-true, eqb-false, ne_eqb}
use lib.Dec.{eqb}
use lib.ListN.{get_or}
use Rattle.octets.specs.Lists.{every}
use Rattle.octets.proofs.Lists.{and_left, and_right, every-imp}
use Rattle.table.specs.TheTable.{Account, first_row, has_name, is_row_of, lookup, nothing, rows}
use Rattle.rules.specs.Calls.{account, on_reading, on_row}
use Rattle.decision.proofs.Numbers.{handled}
use Rattle.isolation.specs.Isolation.{NameAlone, UnknownToOthers}
use Rattle.isolation.proofs.Firsts.{first-none}

by_name : (name : List ℕ) (rs : List (List ℕ)) → every (λ r. eqb (get_or r 19 0) 0) rs ≡ true
    → first_row (is_row_of (record { operator = 0; name = name })) rs ≡ first_row (has_name name) rs
unfolding first_row is_row_of every
by_name name [] h = refl
by_name name (r ∷ rs) h = rw (and_left (eqb (get_or r 19 0) 0) _ h, by_name name rs (and_right (eqb (get_or r 19 0) 0) _ h))

pub name-alone : NameAlone
unfolding lookup
name-alone t name h = by_name name (rows t) h

nobody's : (a : Account) → eqb a.operator 0 ≡ false → (r : List ℕ) → eqb (get_or r 19 0) 0 ≡ true → not (is_row_of a r) ≡ true
unfolding is_row_of
nobody's a d r z = rw (eqb-true (get_or r 19 0) 0 z, ne_eqb 0 a.operator (λ e. eqb-false a.operator 0 d (sym e)))

pub unknown-to-others : UnknownToOthers
unfolding on_reading on_row lookup account
unknown-to-others t c q h d z g =
    let none : first_row (is_row_of (account c q)) (rows t) ≡ nothing = first-none (is_row_of (account c q)) (rows t) (every-imp (λ r. eqb (get_or r 19 0) 0) _ (nobody's (account c q) d) (rows t) h) in
    handled t c z ∙ rw (g, none)

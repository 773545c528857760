-- Whose a row is: no row is found by two accounts, and a row whose `found_by` stays is found as before.
use mathlib.Core.Path.{◌≡◌, refl, sym, ap, ◌∙◌}
use mathlib.Core.Bool.{Bool, true, false}
use mathlib.Core.List.{List}
use Prim.Native.Nat.{ℕ}
use borrow.Author.Tests.{eqb-true, eq-eqb}
use lib.Dec.{eqb}
use lib.ListN.{length, get_or}
use Rattle.octets.specs.Choice.{within}
use Rattle.octets.specs.Texts.{part}
use Rattle.octets.proofs.Lists.{and_left, and_right, both, same-eq, same_refl}
use Rattle.table.specs.TheTable.{Account, found_by, has_name, is_row_of, row}
use Rattle.table.proofs.Rows.{found_alike}
use Rattle.order.specs.Demand3.{Subject, nobody, subscriber, same_account, same_subject}

-- SUBJECTS

account-eq : (a b : Account) → same_account a b ≡ true → a ≡ b
unfolding same_account
account-eq a b e =
    let o : a.operator ≡ b.operator = eqb-true a.operator b.operator (and_left (eqb a.operator b.operator) _ e) in
    let n : a.name ≡ b.name = same-eq a.name b.name (and_right (eqb a.operator b.operator) _ e) in
    λ i. record { operator = o i; name = n i }

pub subject-eq : (a b : Subject) → same_subject a b ≡ true → a ≡ b
unfolding same_subject
subject-eq nobody nobody e = refl
subject-eq nobody (subscriber n) e = cc
subject-eq (subscriber m) nobody e = cc
subject-eq (subscriber m) (subscriber n) e = ap subscriber (account-eq m n e)

pub subject-refl : (a : Subject) → same_subject a a ≡ true
unfolding same_subject same_account
subject-refl nobody = refl
subject-refl (subscriber n) = both (eq-eqb n.operator n.operator refl) (same_refl n.name)

-- ROWS

-- the row is found by the subject's account
unfoldable pub finds : Subject → List ℕ → Bool
finds nobody r = false
finds (subscriber n) r = is_row_of n r

-- the one account by which a row may be found
unfoldable pub owner_of : List ℕ → Subject
owner_of r = subscriber (record { operator = get_or r 19 0; name = part r 2 (get_or r 1 0) })

pub finds-owner : (k : Subject) (r : List ℕ) → finds k r ≡ true → k ≡ owner_of r
unfolding finds owner_of is_row_of has_name
finds-owner nobody r e = cc
finds-owner (subscriber n) r e =
    let o : get_or r 19 0 ≡ n.operator = eqb-true (get_or r 19 0) n.operator (and_left (eqb (get_or r 19 0) n.operator) _ e) in
    let e0 = and_right (eqb (get_or r 19 0) n.operator) _ e in
    let e1 = and_right (eqb (get_or r 0 0) 1) _ e0 in
    let e2 = and_right (within 1 15 (get_or r 1 0)) _ e1 in
    let l : get_or r 1 0 ≡ length n.name = eqb-true (get_or r 1 0) (length n.name) (and_left (eqb (get_or r 1 0) (length n.name)) _ e2) in
    let s : part r 2 (length n.name) ≡ n.name = same-eq (part r 2 (length n.name)) n.name (and_right (eqb (get_or r 1 0) (length n.name)) _ e2) in
    let p : n.name ≡ part r 2 (get_or r 1 0) = sym s ∙ ap (λ (i : ℕ). part r 2 i) (sym l) in
    λ i. subscriber (record { operator = sym o i; name = p i })

-- the lookup tells rows apart by `found_by` alone
pub finds-alike : (k : Subject) (q r : List ℕ) → found_by q ≡ found_by r → finds k q ≡ finds k r
unfolding finds
finds-alike nobody q r e = refl
finds-alike (subscriber n) q r e = found_alike n q r e

pub same_row : (i j : ℕ) → row i ≡ row j → i ≡ j
same_row i j e = cc

-- An account has one row at most: entering refuses an account that has one, and nothing else changes by whom a row is found.
use mathlib.Core.Path.{◌≡◌, refl, sym, ap, ◌∙◌, subst}
use mathlib.Core.Bool.{Bool, false}
use mathlib.Core.List.{List, [], ◌∷◌}
use Prim.Native.Nat.{ℕ, zero, suc, ◌/◌, ◌≤◌}
use native.Mathlib.Omega.{arith}
use borrow.Author.Tests.{eqb-true}
use lib.Dec.{eqb}
use lib.ListN.{length, get_or, set}
use Rattle.octets.specs.Choice.{pick}
use Rattle.octets.specs.Lists.{keep}
use Rattle.octets.specs.Texts.{all_zero, pieces}
use Rattle.octets.proofs.Lists.{by-test}
use Rattle.table.specs.TheTable.{Account, Entry, Found, Table, first_row, is_row_of, later, lookup, nothing, row, row_at, row_bytes, rows, table_number, width}
use Rattle.table.proofs.Bytes.{length-row}
use Rattle.changes.specs.Changes.{named}
use Rattle.setup.specs.SetUp.{add, clear, enter}
use Rattle.rules.specs.Calls.{Call, Left, handle, silent}
use Rattle.order.specs.Demand3.{subject, subscriber}
use Rattle.order.proofs.Alone as A
use Rattle.order.proofs.Finding.{finds}
use Rattle.order.proofs.Handling.{Agrees, act, handle-bad, one-call, rows_of, stable, tab}
use Rattle.order.proofs.Opening.{found_at, one-owner, same-account}
use Rattle.order.proofs.Rest.{in_table}
use Rattle.order.proofs.Setting.{add-first, entered-found, not-held}
use Rattle.table.proofs.Rows.{first-table}
use Rattle.history.proofs.SettingUp.{AddWent, EnterWent, add-went, after, after_is, cleared-nothing, enter-went, found-as-before, good, inside, more, none-failed, not_found, row_before, row_new, rows-after, stayed-add, stayed-enter, then_is, was-zero, wrote-add, wrote-enter, zero-unfound}

-- how many rows are an account's
abbrev pub rows_for : Account → Table → ℕ
rows_for a t = length (keep (is_row_of a) (rows t))

-- ROWS THAT PASS A TEST

later-none : (F : Found) → later F ≡ nothing → F ≡ nothing
unfolding later
later-none nothing e = refl
later-none (row i) e = cc

module _ (f : List ℕ → Bool) where
  none_kept : (rs : List (List ℕ)) → first_row f rs ≡ nothing → length (keep f rs) ≡ 0
  unfolding first_row keep pick
  none_kept [] h = refl
  none_kept (r ∷ rs) h =
      by-test (f r)
      (λ e. let z : row 0 ≡ nothing = rw e at h in let y : ◌≡◌ {A = ℕ} 0 1 = cc in absurd (omega arith))
      (λ e. rw e (none_kept rs (later-none (first_row f rs) (rw e at h))))

  kept_set : (rs : List (List ℕ)) (i : ℕ) (r : List ℕ) → f r ≡ f (get_or rs i []) → length (keep f (set rs i r)) ≡ length (keep f rs)
  unfolding keep pick
  kept_set [] i r e = refl
  kept_set (x ∷ rs) zero r e = by-test (f x) (λ k. rw (e ∙ k, k)) (λ k. rw (e ∙ k, k))
  kept_set (x ∷ rs) (suc i) r e = by-test (f x) (λ k. rw (k, kept_set rs i r e)) (λ k. rw (k, kept_set rs i r e))

  kept-most : (rs : List (List ℕ)) (i : ℕ) (r : List ℕ) → length (keep f (set rs i r)) ≤ suc (length (keep f rs))
  unfolding keep pick
  kept-most [] i r = omega arith
  kept-most (x ∷ rs) zero r =
      by-test (f r)
      (λ e. by-test (f x) (λ k. rw (e, k) (omega arith)) (λ k. rw (e, k) (omega arith)))
      (λ e. by-test (f x) (λ k. rw (e, k) (omega arith)) (λ k. rw (e, k) (omega arith)))
  kept-most (x ∷ rs) (suc i) r =
      by-test (f x) (λ k. rw k (omega (arith, kept-most rs i r))) (λ k. rw k (kept-most rs i r))

-- A REQUEST changes no row's account.

account-stays : (fm : ℕ) (a : Account) (c : Call) (r : List ℕ) → is_row_of a (act fm c r) ≡ is_row_of a r
unfolding finds
account-stays fm a c r = stable fm (subscriber a) c r

kept-tab : (fm : ℕ) (a : Account) (c : Call) (rs : List (List ℕ)) → length (keep (is_row_of a) (tab fm rs c)) ≡ length (keep (is_row_of a) rs)
unfolding A.tab keep pick
kept-tab fm a c [] = refl
kept-tab fm a c (r ∷ rs) =
    by-test (is_row_of a r)
    (λ k. by-test (finds (subject fm c) r) (λ e. rw (e, account-stays fm a c r ∙ k, k)) (λ e. rw (e, k, kept-tab fm a c rs)))
    (λ k. by-test (finds (subject fm c) r) (λ e. rw (e, account-stays fm a c r ∙ k, k)) (λ e. rw (e, k) (kept-tab fm a c rs)))

pub rows-call : (a : Account) (t : Table) (c : Call) → rows_for a (handle t c).table ≡ rows_for a t
unfolding rows silent
rows-call a t c =
    by-test (eqb (table_number t) 0)
    (λ e. let g : Agrees (length t.bytes / width t) t c (handle t c) = one-call t (eqb-true (table_number t) 0 e) c in
    let u : Table = (handle t c).table in
    rw g.form-is
    (ap (λ (k : ℕ). length (keep (is_row_of a) (pieces (width t) (k / width t) u.bytes))) g.size
    ∙ ap (λ (rs : List (List ℕ)). length (keep (is_row_of a) rs)) g.rows_are ∙ kept-tab t.form a c (rows_of (length t.bytes / width t) t)))
    (λ e. ap (λ (l : Left). rows_for a l.table) (handle-bad t c e))

-- CLEARING leaves no account a row.
pub rows-cleared : (a : Account) (t : Table) → (clear t).number ≡ 0 → rows_for a (clear t).table ≡ 0
unfolding lookup
rows-cleared a t z = none_kept (is_row_of a) (rows (clear t).table) (cleared-nothing t z a)

-- ENTERING
module _ (b : Account) (t : Table) (shares : List ℕ) (a : Account) where
  entered-rows : rows_for b t ≤ 1 → EnterWent t shares a → rows_for b (enter t shares a).table ≤ 1
  entered-rows h (stayed-enter e) = subst (λ (u : Table). rows_for b u ≤ 1) (sym e) h
  entered-rows h (wrote-enter i z e) =
      let r : List ℕ = row_bytes t.form (named a) in
      let is : rows_for b (after t shares a i z e) ≡ length (keep (is_row_of b) (set (rows t) i r)) =
      ap (rows_for b) (after_is t shares a i z e)
      ∙ ap (λ (rs : List (List ℕ)). length (keep (is_row_of b) rs)) (rows-after t (good t shares a i z e) i (inside t shares a i z e) r (length-row t.form (named a))) in
      by-test (is_row_of b (row_at (after t shares a i z e) i))
      (λ o. let q : b ≡ a = same-account b a (one-owner b a (row_at (after t shares a i z e) i) o (found_at (after t shares a i z e) a i (entered-found t shares a i z e))) in
      let zero-before : rows_for b t ≡ 0 = ap (λ (c : Account). rows_for c t) q ∙ unheld i z e in
      omega (arith, is, zero-before, kept-most (is_row_of b) (rows t) i r))
      (λ o. let new : is_row_of b r ≡ false = ap (is_row_of b) (sym (row_new t shares a i z e)) ∙ o in
      let old : is_row_of b (get_or (rows t) i []) ≡ false = ap (is_row_of b) (row_before t (good t shares a i z e) i (inside t shares a i z e) r (length-row t.form (named a))) ∙ zero-unfound b (row_at t i) (was-zero t shares a i z e) in
      omega (arith, h, is, kept_set (is_row_of b) (rows t) i r (new ∙ sym old)))
    where
      unheld : (i : ℕ) (z : (enter t shares a).number ≡ 0) (e : first_row all_zero (rows t) ≡ row i) → rows_for a t ≡ 0
      unheld i z e = unfold lookup in none_kept (is_row_of a) (rows t) (not_found (lookup t a) (not-held t shares a (none-failed t shares a i z e)))

  pub rows-enter : rows_for b t ≤ 1 → rows_for b (enter t shares a).table ≤ 1
  rows-enter h = entered-rows h (enter-went t shares a)

-- ADDING
module _ (b : Account) (t : Table) (a : Account) (e : Entry) where
  added-rows : AddWent t a e → rows_for b (add t a e).table ≡ rows_for b t
  unfolding lookup
  added-rows (stayed-add s) = ap (rows_for b) s
  added-rows (wrote-add i z l) =
      let fine : table_number t ≡ 0 = first-table t a.operator (add-first t a e z) in
      let there = in_table (is_row_of a) t i l in
      let full : length (more t a e i z l) ≡ width t = length-row t.form _ in
      ap (rows_for b) (then_is t a e i z l)
      ∙ ap (λ (rs : List (List ℕ)). length (keep (is_row_of b) rs)) (rows-after t fine i there (more t a e i z l) full)
      ∙ kept_set (is_row_of b) (rows t) i (more t a e i z l) (found-as-before t a e i z l b ∙ ap (is_row_of b) (sym (row_before t fine i there (more t a e i z l) full)))

  pub rows-add : rows_for b (add t a e).table ≡ rows_for b t
  rows-add = added-rows (add-went t a e)

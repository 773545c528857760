-- A history by its operations of one operator alone: both histories of the statement are the same model.
use mathlib.Core.Path.{◌≡◌, refl, sym, ap, ◌∙◌, subst}
use mathlib.Core.Bool.{Bool, true, false, ◌&&◌, not}
use mathlib.Core.List.{List, [], ◌∷◌, map}
use Prim.Native.Nat.{ℕ, ◌*◌, ◌/◌}
use native.Mathlib.Omega.{arith}
use borrow.Author.Tests.{eqb-true, eqb-false, ne_eqb, not-true}
use lib.Dec.{eqb, leb}
use lib.ListN.{length}
use Rattle.octets.specs.Choice.{first_of, pick, require, within}
use Rattle.octets.specs.Lists.{every, keep, sum_of}
use Rattle.octets.specs.Texts.{all_zero, zeros}
use Rattle.octets.proofs.Choice.{by-pick}
use Rattle.octets.proofs.Lists.{and_left, and_right, both, by-test}
use Rattle.octets.proofs.Texts.{length-zeros}
use Rattle.table.specs.Answers.{lent}
use Rattle.table.specs.TheTable.{most_rows, Account, Entry, Found, Table, first_number, first_row, is_form, is_own, lookup, nothing, own_rows, row, row_bytes, row_length, rows, table_number}
use Rattle.table.proofs.Rows.{first-table, form_in, form-with, rows-count, whole-rows}
use Rattle.table.proofs.Widths.{split}
use Rattle.changes.specs.Changes.{named}
use Rattle.setup.specs.SetUp.{SetUp, add, add_at, enter, leaving, left, share, with_row_at}
use Rattle.setup.specs.Parts.{share_number}
use Rattle.setup.proofs.SetUps.{enter-early, add-first, share-first, share-passed}
use Rattle.rules.specs.Calls.{Left, call_number, handle, ran_first, run, silent}
use Rattle.decision.proofs.Numbers.{unanswered}
use Rattle.order.proofs.Handling.{number-bad}
use Rattle.order.proofs.Lists as L
use Rattle.isolation.specs.Isolation.{FormStays, Isolated, NeverEleven, Operation, WithinShare, Word, adding, answer, answered, asking, done, done_first, entering, is_by, number, operations_of, operator_of, past, set_up, told_to, zero_table}
use Rattle.isolation.proofs.Reached.{Reached, blank-keep, cleared, own_of, zero-rows}
use Rattle.isolation.proofs.Steps.{Stepped, enter-is, rows_for, step, word_for}

-- THE FORM STAYS

pub as_lent : (fm : ℕ) (u : Table) → u.form ≡ fm → u ≡ lent fm u.bytes
as_lent fm u e = λ i. record { form = e i; bytes = u.bytes }

leaving-form : (n : ℕ) (t after : Table) → after.form ≡ t.form → (leaving n t after).table.form ≡ t.form
unfolding leaving
leaving-form n t after e = by-pick (λ (u : Table). u.form ≡ t.form) (eqb n 0) (λ z. e) (λ z. refl)

row-at-form : (F : Found) (t : Table) (r : List ℕ) → (with_row_at F t r).form ≡ t.form
unfolding with_row_at
row-at-form nothing t r = refl
row-at-form (row i) t r = form-with t i r

add-at-form : (F : Found) (t : Table) (e : Entry) → (add_at F t e).table.form ≡ t.form
unfolding add_at
add-at-form nothing t e = leaving-form 12 t t refl
add-at-form (row i) t e = leaving-form _ t _ (form-with t i _)

done-form : (shares : List ℕ) (t : Table) (x : Operation) → (done shares t x).table.form ≡ t.form
unfolding done set_up answered enter add run ran_first
done-form shares t (entering a) = leaving-form _ t _ (row-at-form (first_row all_zero (rows t)) t (row_bytes t.form (named a)))
done-form shares t (adding a e) =
    by-pick (λ (s : SetUp). s.table.form ≡ t.form) (eqb (first_number t a.operator) 0)
    (λ z. add-at-form (lookup t a) t e)
    (λ z. leaving-form _ t t refl)
done-form shares t (asking c) = L.form-stays t (c ∷ [])

pub form-stays : FormStays
unfolding past done_first
form-stays shares t [] = refl
form-stays shares t (x ∷ xs) = form-stays shares (done shares t x).table xs ∙ done-form shares t x

-- THE MODEL OF A HISTORY

module _ (fm n count total mine : ℕ) where
  unfoldable pub words_for : List Operation → List (List ℕ) → List Word
  words_for [] own = []
  words_for (x ∷ xs) own = word_for fm n count total mine x own ∷ words_for xs (rows_for fm n count total mine x own)

  unfoldable pub rows_after : List Operation → List (List ℕ) → List (List ℕ)
  rows_after [] own = own
  rows_after (x ∷ xs) own = rows_after xs (rows_for fm n count total mine x own)

-- A TABLE OF 1 TO 1,024 ROWS

module _ (fm n : ℕ) (some : is_form fm && within 1 most_rows n ≡ true) (o : ℕ) (shares : List ℕ) where
  pub record Modelled (xs : List Operation) (own : List (List ℕ)) (t : Table) : Type 0 where
    pub reached : Reached fm n shares (past shares t xs).table.bytes
    pub told : told_to o xs (past shares t xs).words ≡ words_for fm n (length shares) (sum_of shares) (share o shares) (operations_of o xs) own
    pub rows : keep (is_own o) reached.used ≡ rows_after fm n (length shares) (sum_of shares) (share o shares) (operations_of o xs) own

  pub modelled : (xs : List Operation) (t : List ℕ) (R : Reached fm n shares t) (own : List (List ℕ)) → keep (is_own o) R.used ≡ own → Modelled xs own (lent fm t)
  unfolding past done_first told_to operations_of keep is_by words_for rows_after pick
  modelled [] t R own e = record { reached = R; told = refl; rows = e }
  modelled (x ∷ xs) t R own e =
      let s : Stepped fm n shares t R x = step fm n some shares t R x in
      let u : Table = (done shares (lent fm t) x).table in
      let is : lent fm u.bytes ≡ u = sym (as_lent fm u (done-form shares (lent fm t) x)) in
      by-test (eqb (operator_of x) o)
      (λ b.
      let p : operator_of x ≡ o = eqb-true (operator_of x) o b in
      let q : keep (is_own (operator_of x)) R.used ≡ own = ap (λ (i : ℕ). keep (is_own i) R.used) p ∙ e in
      let w : (done shares (lent fm t) x).told ≡ word_for fm n (length shares) (sum_of shares) (share o shares) x own =
      s.word ∙ (λ j. word_for fm n (length shares) (sum_of shares) (share (p j) shares) x (q j)) in
      let next : keep (is_own o) s.next.used ≡ rows_for fm n (length shares) (sum_of shares) (share o shares) x own =
      ap (λ (i : ℕ). keep (is_own i) s.next.used) (sym p) ∙ s.own ∙ (λ j. rows_for fm n (length shares) (sum_of shares) (share (p j) shares) x (q j)) in
      let m : Modelled xs (rows_for fm n (length shares) (sum_of shares) (share o shares) x own) u = subst (λ (v : Table). Modelled xs (rows_for fm n (length shares) (sum_of shares) (share o shares) x own) v) is (modelled xs u.bytes s.next _ next) in
      record {
        reached = m.reached;
        told = rw b (λ j. w j ∷ m.told j);
        rows = m.rows ∙ sym (rw b);
      })
      (λ b.
      let m : Modelled xs own u = subst (λ (v : Table). Modelled xs own v) is (modelled xs u.bytes s.next own (s.others o b ∙ e)) in
      record {
        reached = m.reached;
        told = rw b m.told;
        rows = m.rows ∙ sym (rw b);
      })

-- ANY OTHER TABLE: every operation is told number 1 (or what comes before all else), and nothing changes.

unfoldable word_on_bad : Table → Operation → Word
word_on_bad t (entering a) = number (first_number t a.operator)
word_on_bad t (adding a e) = number (first_number t a.operator)
word_on_bad t (asking c) = answer (silent t c (call_number t c)).reply

module _ (t : Table) (bad : table_number t ≡ 0 → ⊥) where
  first-bad : (i : ℕ) → first_number t i ≡ 0 → ⊥
  first-bad i z = bad (first-table t i z)

  record Refused (shares : List ℕ) (x : Operation) : Type 0 where
    word : (done shares t x).told ≡ word_on_bad t x
    table : (done shares t x).table ≡ t

  refused : (shares : List ℕ) (x : Operation) → Refused shares x
  unfolding done set_up answered word_on_bad silent
  refused shares (entering a) =
      let first : first_number t a.operator ≡ share_number t shares a = share-first t shares a (first_number t a.operator) refl (first-bad a.operator) in
      let is : enter t shares a ≡ left (first_number t a.operator) t = sym (enter-early t shares a (first_number t a.operator) first (first-bad a.operator)) in
      record { word = ap (λ (s : SetUp). number s.number) is; table = ap (λ (s : SetUp). s.table) is }
  refused shares (adding a e) =
      let is : add t a e ≡ left (first_number t a.operator) t = sym (add-first t a e (first_number t a.operator) refl (first-bad a.operator)) in
      record { word = ap (λ (s : SetUp). number s.number) is; table = ap (λ (s : SetUp). s.table) is }
  refused shares (asking c) =
      let n : call_number t c ≡ table_number t = number-bad t c (ne_eqb (table_number t) 0 bad) in
      let is : silent t c (call_number t c) ≡ handle t c = unanswered t c (call_number t c) refl (λ z. bad (sym n ∙ z)) in
      record { word = ap (λ (l : Left). answer l.reply) (sym is); table = ap (λ (l : Left). l.table) (sym is) }

  bad-table : (shares : List ℕ) (xs : List Operation) → (past shares t xs).table ≡ t
  unfolding past done_first
  bad-table shares [] = refl
  bad-table shares (x ∷ xs) = rw (refused shares x).table (bad-table shares xs)

  bad-words : (o : ℕ) (shares : List ℕ) (xs : List Operation) → told_to o xs (past shares t xs).words ≡ map (word_on_bad t) (operations_of o xs)
  unfolding past done_first told_to operations_of keep pick
  bad-words o shares [] = refl
  bad-words o shares (x ∷ xs) =
      by-test (is_by o x)
      (λ b. rw (b, (refused shares x).table, (refused shares x).word, bad-words o shares xs))
      (λ b. rw (b, (refused shares x).table) (bad-words o shares xs))

-- TABLES OF ZEROS

-- a good one is 1 to 1,024 rows of its form
module _ (fm size : ℕ) (good : table_number (zero_table fm size) ≡ 0) where
  whole : size ≡ row_length fm * (size / row_length fm)
  whole = sym (length-zeros size) ∙ whole-rows (zero_table fm size) good ∙ ap (λ (k : ℕ). row_length fm * (k / row_length fm)) (length-zeros size)

  some : is_form fm && within 1 most_rows (size / row_length fm) ≡ true
  some =
      both (form_in (zero_table fm size) good)
      (ap (λ (k : ℕ). within 1 most_rows (k / row_length fm)) (sym (length-zeros size)) ∙ rows-count (zero_table fm size) good)

  start : (shares : List ℕ) → Reached fm (size / row_length fm) shares (zeros size)
  start shares = subst (λ (k : ℕ). Reached fm (size / row_length fm) shares (zeros k)) (sym whole) (cleared fm (size / row_length fm) shares)

own-zeros : (fm o size : ℕ) → own_rows o (zero_table fm size) ≡ []
unfolding own_rows rows
own-zeros fm o size =
    rw (length-zeros size, zero-rows fm (size / row_length fm) size (omega (arith, split (row_length fm) size))) (blank-keep fm o (size / row_length fm))

-- ISOLATION

module _ (fm size o : ℕ) (good : table_number (zero_table fm size) ≡ 0) (shares : List ℕ) where
  start-own : keep (is_own o) (start fm size good shares).used ≡ []
  start-own = sym (own_of fm (size / row_length fm) (some fm size good) shares (zeros size) (start fm size good shares) o) ∙ own-zeros fm o size

  model : (xs : List Operation) → Modelled fm (size / row_length fm) (some fm size good) o shares xs [] (zero_table fm size)
  model xs = modelled fm (size / row_length fm) (some fm size good) o shares xs (zeros size) (start fm size good shares) [] start-own

  end_is : (xs : List Operation) → (past shares (zero_table fm size) xs).table ≡ lent fm (past shares (zero_table fm size) xs).table.bytes
  end_is xs = as_lent fm (past shares (zero_table fm size) xs).table (form-stays shares (zero_table fm size) xs)

  end-rows : (xs : List Operation) → own_rows o (past shares (zero_table fm size) xs).table ≡ keep (is_own o) (model xs).reached.used
  end-rows xs =
      ap (own_rows o) (end_is xs)
      ∙ own_of fm (size / row_length fm) (some fm size good) shares (past shares (zero_table fm size) xs).table.bytes (model xs).reached o

pub isolated : Isolated
isolated fm size o shares others xs ys a e =
    let same-form : (past shares (zero_table fm size) xs).table.form ≡ (past others (zero_table fm size) ys).table.form =
    form-stays shares (zero_table fm size) xs ∙ sym (form-stays others (zero_table fm size) ys) in
    by-test (eqb (table_number (zero_table fm size)) 0)
    (λ g. let good : table_number (zero_table fm size) ≡ 0 = eqb-true (table_number (zero_table fm size)) 0 g in
    let n : ℕ = size / row_length fm in
    record {
      told =
          (model fm size o good shares xs).told
          ∙ (λ i. words_for fm n (a.count i) (a.sum i) (a.own i) (e i) [])
          ∙ sym (model fm size o good others ys).told;
      rows =
          end-rows fm size o good shares xs ∙ (model fm size o good shares xs).rows
          ∙ (λ i. rows_after fm n (a.count i) (a.sum i) (a.own i) (e i) [])
          ∙ sym (end-rows fm size o good others ys ∙ (model fm size o good others ys).rows);
      form = same-form;
    })
    (λ g. let bad : table_number (zero_table fm size) ≡ 0 → ⊥ = eqb-false (table_number (zero_table fm size)) 0 g in
    record {
      told = bad-words (zero_table fm size) bad o shares xs ∙ ap (map (word_on_bad (zero_table fm size))) e ∙ sym (bad-words (zero_table fm size) bad o others ys);
      rows = ap (own_rows o) (bad-table (zero_table fm size) bad shares xs ∙ sym (bad-table (zero_table fm size) bad others ys));
      form = same-form;
    })

-- WHAT FOLLOWS

pub within-share : WithinShare
within-share fm size o shares xs =
    by-test (eqb (table_number (zero_table fm size)) 0)
    (λ g. let good : table_number (zero_table fm size) ≡ 0 = eqb-true (table_number (zero_table fm size)) 0 g in
    omega (arith, ap length (end-rows fm size o good shares xs), (model fm size o good shares xs).reached.in-share o))
    (λ g. let bad : table_number (zero_table fm size) ≡ 0 → ⊥ = eqb-false (table_number (zero_table fm size)) 0 g in
    omega (arith, ap length (ap (own_rows o) (bad-table (zero_table fm size) bad shares xs) ∙ own-zeros fm o size)))

-- no number before 11 is 11
first-other : (cs : List ℕ) → every (λ c. not (eqb c 11)) cs ≡ true → eqb (first_of cs) 11 ≡ false
unfolding first_of every pick
first-other [] h = refl
first-other (c ∷ cs) h =
    by-test (eqb c 0)
    (λ e. rw e (first-other cs (and_right (not (eqb c 11)) _ h)))
    (λ e. rw e (not-true (eqb c 11) (and_left (not (eqb c 11)) _ h)))

required : (b : Bool) (c : ℕ) → not (eqb c 11) ≡ true → not (eqb (require b c) 11) ≡ true
unfolding require
required true c h = refl
required false c h = h

first-not : (t : Table) (o : ℕ) → not (eqb (first_number t o) 11) ≡ true
unfolding first_number table_number every
first-not t o = rw (first-other _ (both (required _ 1 refl) (both (required (leb o 15) 33 refl) refl)))

share-not : (t : Table) (shares : List ℕ) (a : Account) → eqb (share_number t shares a) 11 ≡ false
unfolding share_number every
share-not t shares a =
    first-other _ (both (first-not t a.operator) (both (required _ 26 refl) (both (required _ 9 refl) (both (required _ 10 refl) (both (required _ 27 refl) refl)))))

early : (t : Table) (shares : List ℕ) (a : Account) → (share_number t shares a ≡ 0 → ⊥) → eqb (enter t shares a).number 11 ≡ false
early t shares a nz =
    ap (λ (s : SetUp). eqb s.number 11) (sym (enter-early t shares a (share_number t shares a) refl nz)) ∙ share-not t shares a

pub never-eleven : NeverEleven
never-eleven fm size shares xs a =
    let t : Table = (past shares (zero_table fm size) xs).table in
    by-test (eqb (share_number t shares a) 0)
    (λ h. let z : share_number t shares a ≡ 0 = eqb-true (share_number t shares a) 0 h in
    by-test (eqb (table_number (zero_table fm size)) 0)
    (λ g. let good : table_number (zero_table fm size) ≡ 0 = eqb-true (table_number (zero_table fm size)) 0 g in
    let is : t ≡ lent fm t.bytes = end_is fm size 0 good shares xs in
    let there : share_number (lent fm t.bytes) shares a ≡ 0 = ap (λ (u : Table). share_number u shares a) (sym is) ∙ z in
    ap (λ (u : Table). eqb (enter u shares a).number 11) is
    ∙ ap (λ (s : SetUp). eqb s.number 11) (enter-is fm (size / row_length fm) (some fm size good) shares t.bytes (model fm size 0 good shares xs).reached a there))
    (λ g. let bad : table_number (zero_table fm size) ≡ 0 → ⊥ = eqb-false (table_number (zero_table fm size)) 0 g in
    absurd (bad (ap table_number (sym (bad-table (zero_table fm size) bad shares xs)) ∙ first-table t a.operator (share-passed t shares a z).first))))
    (λ h. early t shares a (eqb-false (share_number t shares a) 0 h))

-- One operation on a table that was reached: what is told and what becomes of the operator's rows depend on these rows alone, and the rows of
-- the others stay.
use mathlib.Core.Path.{◌≡◌, refl, sym, ap, ◌∙◌, subst}
use mathlib.Core.Bool.{Bool, true, false, ◌&&◌, not}
use mathlib.Core.List.{List, [], ◌∷◌, ◌++◌, append-nil}
use Prim.Native.Nat.{ℕ, zero, suc, ◌-◌, ◌/◌, ◌≤◌, ◌<◌}
use native.Mathlib.Omega.{arith}
use borrow.Author.Tests.{eqb-true, eqb-false, eq-eqb, leb-true}
use lib.Dec.{eqb, leb, ltb}
use lib.ListN.{length, get_or, set, drop, length-append}
use lib.Seq.{get_or-take}
use Rattle.octets.specs.Choice.{first_of, pick, require, within}
use Rattle.octets.specs.Lists.{every, keep, sum_of}
use Rattle.octets.specs.Texts.{all_zero, pieces}
use Rattle.octets.proofs.Choice.{by-pick}
use Rattle.octets.proofs.Lists.{and_left, and_right, both, by-test, every_append, every-imp, every_one, keep_snoc}
use Rattle.octets.proofs.Pieces.{length-pieces}
use Rattle.message.specs.ReadingAMessage.{Reading, refused, request, read}
use Rattle.table.specs.Answers.{lent}
use Rattle.table.specs.Soundness.{is_name}
use Rattle.table.specs.TheTable.{most_rows, Account, Entry, Found, Subscriber, Table, first_number, first_row, found_by, has_name, is_form, is_found, is_own, is_row_of, lookup, nothing, own_rows, read_row, row, row_at, row_bytes, row_length, rows, with_row}
use Rattle.table.proofs.Bytes.{length-row}
use Rattle.table.proofs.Rows.{first-operator, length-row_at, length-with_row, not-zero, nth-row, row_same, rows-with}
use Rattle.changes.specs.Changes.{named, with_entry}
use Rattle.changes.proofs.Steps.{row-account}
use Rattle.setup.specs.SetUp.{SetUp, add, add_at, enter, entry_number, leaving, left, share, shares_fit}
use Rattle.setup.specs.Parts.{share_number}
use Rattle.setup.proofs.SetUps.{MayEnterRow, enter-done, enter-early, entry-passed, share-passed, shares-sixteen}
use Rattle.rules.specs.Calls.{Call, handle, most_policies}
use Rattle.order.specs.Demand3.{Subject, nobody, subscriber, own_number, sent_by, subject}
use Rattle.order.proofs.Finding.{finds}
use Rattle.order.proofs.Handling.{Agrees, Kept, There, act, ans, kept, lost, one-call, says, self, tab, there, written}
use Rattle.order.proofs.Alone as A
use Rattle.isolation.specs.Isolation.{Operation, Word, adding, answer, answered, asking, done, entering, number, operator_of, set_up}
use Rattle.isolation.proofs.Firsts.{asked, asked-found, asked-keep, at_found, changed, changed-before, changed-found, count-changed, every-changed, first-behind, found-asked, keep-changed, keep-other, set-behind, with_found}
use Rattle.isolation.proofs.Reached.{Reached, all_of, blank, count-is, few, good-table, is_used, keep-used, length-blank, own_of, rows_of, zero-first, zero-zero, zero_row}

-- WHOSE A ROW IS, by what it is found by

own-by : (o : ℕ) (r f : List ℕ) → found_by r ≡ f → is_own o r ≡ eqb (get_or (drop 1 f) 0 0) 1 && eqb (get_or f 0 0) o
unfolding is_own found_by
own-by o r f e = rw (← e, get_or-take 17 r 0 0 (omega arith))

used-by : (r f : List ℕ) → found_by r ≡ f → is_used r ≡ eqb (get_or (drop 1 f) 0 0) 1 && leb (get_or f 0 0) 15
unfolding is_used found_by
used-by r f e = rw (← e, get_or-take 17 r 0 0 (omega arith))

pub own-alike : (o : ℕ) (q r : List ℕ) → found_by q ≡ found_by r → is_own o q ≡ is_own o r
own-alike o q r e = own-by o q (found_by r) e ∙ sym (own-by o r (found_by r) refl)

pub used-alike : (q r : List ℕ) → found_by q ≡ found_by r → is_used q ≡ is_used r
used-alike q r e = used-by q (found_by r) e ∙ sym (used-by r (found_by r) refl)

-- a row that an account finds is its operator's, and no other's
row-own : (a : Account) (r : List ℕ) → is_row_of a r ≡ true → is_own a.operator r ≡ true
unfolding is_row_of is_own has_name
row-own a r h =
    let n = and_right (eqb (get_or r 19 0) a.operator) _ h in
    both (and_left (eqb (get_or r 0 0) 1) _ n) (and_left (eqb (get_or r 19 0) a.operator) _ h)

own-one : (o p : ℕ) (r : List ℕ) → eqb o p ≡ false → is_own o r ≡ true → is_own p r ≡ false
unfolding is_own
own-one o p r d h =
    let e : get_or r 19 0 ≡ o = eqb-true (get_or r 19 0) o (and_right (eqb (get_or r 0 0) 1) _ h) in
    rw (and_left (eqb (get_or r 0 0) 1) _ h, e, d)

zero_row_lem : (fm : ℕ) (a : Account) → is_row_of a (zero_row fm) ≡ false
unfolding is_row_of has_name
zero_row_lem fm a = rw (zero-first fm) (by-test (eqb (get_or (zero_row fm) 19 0) a.operator) (λ e. rw e) (λ e. rw e))

-- the same of a call
finds-zero : (fm : ℕ) (k : Subject) → finds k (zero_row fm) ≡ false
unfolding finds
finds-zero fm nobody = refl
finds-zero fm (subscriber a) = zero_row_lem fm a

sent-own : (o : ℕ) (g : Reading) (r : List ℕ) → finds (sent_by o g) r ≡ true → is_own o r ≡ true
unfolding finds sent_by
sent-own o (refused code) r h = cc
sent-own o (request q) r h = row-own (record { operator = o; name = q.user }) r h

finds-own : (fm : ℕ) (c : Call) (r : List ℕ) → finds (subject fm c) r ≡ true → is_own c.operator r ≡ true
unfolding subject pick
finds-own fm c r h =
    by-test (eqb (own_number fm c) 0)
    (λ e. sent-own c.operator (read (most_policies fm) c.message) r (rw e at h))
    (λ e. none r (rw e at h))
  where
    none : (r : List ℕ) → finds nobody r ≡ true → is_own c.operator r ≡ true
    none r h = unfold finds in cc

-- A CHANGE OF THE FIRST ROW THAT IS FOUND

pub blank-passes : (fm : ℕ) (p : List ℕ → Bool) → p (zero_row fm) ≡ false → (k : ℕ) → every (λ r. not (p r)) (blank fm k) ≡ true
unfolding every blank
blank-passes fm p h zero = refl
blank-passes fm p h (suc k) = rw h (blank-passes fm p h k)

module _ (fm n : ℕ) (shares t : List ℕ) (R : Reached fm n shares t) (o : ℕ) (p : List ℕ → Bool) (f : List ℕ → List ℕ) where
  pub record Change (after : List ℕ) : Type 0 where
    pub size : length after ≡ length t
    pub rows_are : pieces (row_length fm) n after ≡ changed p f (pieces (row_length fm) n t)

  module _ (zero_left : p (zero_row fm) ≡ false) (mine : (r : List ℕ) → p r ≡ true → is_own o r ≡ true) (stays : (r : List ℕ) → found_by (f r) ≡ found_by r) (after : List ℕ) (c : Change after) where
    abbrev pub next : Reached fm n shares after
    next =
        record {
          size = c.size ∙ R.size;
          used = changed p f R.used;
          free = R.free;
          rows_are = c.rows_are ∙ ap (changed p f) R.rows_are ∙ changed-before p f R.used (blank fm R.free) (blank-passes fm p zero_left R.free);
          in_use = every-changed p f is_used (λ r. used-alike (f r) r (stays r)) R.used ∙ R.in_use;
          in-share = λ i. omega (arith, count-changed p f (is_own i) (λ r. own-alike i (f r) r (stays r)) R.used, R.in-share i);
        }

    pub own-next : keep (is_own o) next.used ≡ changed p f (keep (is_own o) R.used)
    own-next = keep-changed p f (is_own o) (λ r. own-alike o (f r) r (stays r)) mine R.used

    pub others-next : (i : ℕ) → eqb o i ≡ false → keep (is_own i) next.used ≡ keep (is_own i) R.used
    others-next i d = keep-other p f (is_own i) (λ r. own-alike i (f r) r (stays r)) (λ r e. own-one o i r d (mine r e)) R.used

  -- what is asked of the first row that is found
  pub asked-own : {A : Type 0} (d : A) (g : List ℕ → A) → ((r : List ℕ) → p r ≡ true → is_own o r ≡ true) → asked p d g (pieces (row_length fm) n t) ≡ asked p d g (keep (is_own o) R.used)
  asked-own d g mine =
      asked-keep p d g (is_own o) mine (pieces (row_length fm) n t)
      ∙ ap (λ (rs : List (List ℕ)). asked p d g (keep (is_own o) rs)) R.rows_are
      ∙ ap (asked p d g) (keep-used fm o R.used R.free)

-- THE MODEL: an operation on the rows of its operator alone. `n` rows, `count` shares that come to `total`, of which `mine` are the operator's.

abbrev pub room : ℕ → ℕ → ℕ → ℕ → Account → List (List ℕ) → ℕ
room n count total mine a own =
    first_of
    (require (leb a.operator 15) 33
    ∷ require (eqb count 16 && leb total n) 26
    ∷ require (is_name a.name) 9
    ∷ require (not (asked (is_row_of a) false (λ r. true) own)) 10
    ∷ require (ltb (length own) mine) 27
    ∷ [])

-- the row with one entry more, if it may be added
unfoldable pub entry_row : (form : ℕ) → Entry → List ℕ → List ℕ
entry_row fm e r = pick (eqb (entry_number r e) 0) (row_bytes fm (with_entry e (read_row r))) r

unfoldable pub word_for : (form n count total mine : ℕ) → Operation → List (List ℕ) → Word
word_for fm n count total mine (entering a) own = number (room n count total mine a own)
word_for fm n count total mine (adding a e) own = number (pick (leb a.operator 15) (asked (is_row_of a) 12 (λ r. entry_number r e) own) 33)
word_for fm n count total mine (asking c) own = answer (asked (finds (subject fm c)) (lost fm c) (says fm c) own)

unfoldable pub rows_for : (form n count total mine : ℕ) → Operation → List (List ℕ) → List (List ℕ)
rows_for fm n count total mine (entering a) own = pick (eqb (room n count total mine a own) 0) (own ++ (row_bytes fm (named a) ∷ [])) own
rows_for fm n count total mine (adding a e) own = pick (leb a.operator 15) (changed (is_row_of a) (entry_row fm e) own) own
rows_for fm n count total mine (asking c) own = changed (finds (subject fm c)) (act fm c) own

-- what an operation leaves
pub record Stepped (fm n : ℕ) (shares t : List ℕ) (R : Reached fm n shares t) (x : Operation) : Type 0 where
  pub next : Reached fm n shares (done shares (lent fm t) x).table.bytes
  pub word : (done shares (lent fm t) x).told ≡ word_for fm n (length shares) (sum_of shares) (share (operator_of x) shares) x (keep (is_own (operator_of x)) R.used)
  pub own : keep (is_own (operator_of x)) next.used ≡ rows_for fm n (length shares) (sum_of shares) (share (operator_of x) shares) x (keep (is_own (operator_of x)) R.used)
  pub others : (i : ℕ) → eqb (operator_of x) i ≡ false → keep (is_own i) next.used ≡ keep (is_own i) R.used

-- A REQUEST

tab-is : (fm : ℕ) (c : Call) (rs : List (List ℕ)) → tab fm rs c ≡ changed (finds (subject fm c)) (act fm c) rs
unfolding A.tab changed pick
tab-is fm c [] = refl
tab-is fm c (r ∷ rs) = by-test (finds (subject fm c) r) (λ e. rw e) (λ e. rw (e, tab-is fm c rs))

ans-is : (fm : ℕ) (c : Call) (rs : List (List ℕ)) → ans fm rs c ≡ asked (finds (subject fm c)) (lost fm c) (says fm c) rs
unfolding A.ans asked pick
ans-is fm c [] = refl
ans-is fm c (r ∷ rs) = by-test (finds (subject fm c) r) (λ e. rw e) (λ e. rw e (ans-is fm c rs))

module _ (fm n : ℕ) (some : is_form fm && within 1 most_rows n ≡ true) (shares t : List ℕ) (R : Reached fm n shares t) where
  pub asking-step : (c : Call) → Stepped fm n shares t R (asking c)
  unfolding done answered operator_of word_for rows_for
  asking-step c =
      let g : Agrees n (lent fm t) c (handle (lent fm t) c) = subst (λ (k : ℕ). Agrees k (lent fm t) c (handle (lent fm t) c)) (count-is fm n some shares t R) (one-call (lent fm t) (good-table fm n some shares t R) c) in
      let moved : Change fm n shares t R c.operator (finds (subject fm c)) (act fm c) (handle (lent fm t) c).table.bytes = record {
        size = g.size;
        rows_are = g.rows_are ∙ tab-is fm c (pieces (row_length fm) n t);
      } in
      let stays : (r : List ℕ) → found_by (act fm c r) ≡ found_by r = λ r. (kept fm c r).bearer in
      record {
        next = next fm n shares t R c.operator (finds (subject fm c)) (act fm c) (finds-zero fm (subject fm c)) (finds-own fm c) stays (handle (lent fm t) c).table.bytes moved;
        word =
            ap answer (g.reply-is ∙ ans-is fm c (pieces (row_length fm) n t)
            ∙ asked-own fm n shares t R c.operator (finds (subject fm c)) (act fm c) (lost fm c) (says fm c) (finds-own fm c));
        own = own-next fm n shares t R c.operator (finds (subject fm c)) (act fm c) (finds-zero fm (subject fm c)) (finds-own fm c) stays (handle (lent fm t) c).table.bytes moved;
        others = others-next fm n shares t R c.operator (finds (subject fm c)) (act fm c) (finds-zero fm (subject fm c)) (finds-own fm c) stays (handle (lent fm t) c).table.bytes moved;
      }

  -- AN OPERATION THAT IS REFUSED leaves everything.

  abbrev pub still : (after : List ℕ) → after ≡ t → Reached fm n shares after
  still after e =
      record {
        size = ap length e ∙ R.size;
        used = R.used;
        free = R.free;
        rows_are = ap (pieces (row_length fm) n) e ∙ R.rows_are;
        in_use = R.in_use;
        in-share = R.in-share;
      }

-- ADDING

entry_kept : (fm : ℕ) (e : Entry) (r : List ℕ) → Kept fm r (entry_row fm e r)
unfolding entry_row with_entry
entry_kept fm e r =
    by-pick (Kept fm r) (eqb (entry_number r e) 0)
    (λ z. written fm r (with_entry e (read_row r)) (entry-passed r e (eqb-true (entry_number r e) 0 z)).is-sound refl)
    (λ z. self fm r)

module _ (fm n : ℕ) (some : is_form fm && within 1 most_rows n ≡ true) (shares t : List ℕ) (R : Reached fm n shares t) where
  first-is : (o : ℕ) → first_number (lent fm t) o ≡ require (leb o 15) 33
  unfolding first_number first_of pick require
  first-is o = rw (good-table fm n some shares t R) (by-test (leb o 15) (λ e. rw e) (λ e. rw e))

  -- what stands at the row that is found, if one is
  module _ (p : List ℕ → Bool) where
    add-number : (e : Entry) (F : Found) → There F n → (add_at F (lent fm t) e).number ≡ at_found p 12 (λ r. entry_number r e) F (pieces (row_length fm) n t)
    unfolding add_at at_found leaving There
    add-number e nothing l = refl
    add-number e (row i) l = ap (λ (r : List ℕ). entry_number r e) (sym (nth-row n (lent fm t) R.size i l))

    record Added (e : Entry) (F : Found) : Type 0 where
      size : length (add_at F (lent fm t) e).table.bytes ≡ length t
      rows_are : pieces (row_length fm) n (add_at F (lent fm t) e).table.bytes ≡ with_found p (entry_row fm e) F (pieces (row_length fm) n t)

    added : (e : Entry) (F : Found) → There F n → Added e F
    unfolding add_at with_found leaving There entry_row pick
    added e nothing l = record { size = refl; rows_are = refl }
    added e (row i) l =
        let d : get_or (pieces (row_length fm) n t) i [] ≡ row_at (lent fm t) i = nth-row n (lent fm t) R.size i l in
        let s : Subscriber = with_entry e (read_row (row_at (lent fm t) i)) in
        by-test (eqb (entry_number (row_at (lent fm t) i) e) 0)
        (λ z. record {
          size = rw z (length-with_row n (lent fm t) R.size i l (row_bytes fm s) (length-row fm s));
          rows_are = rw (z, d, z) (rows-with n (lent fm t) R.size i l (row_bytes fm s) (length-row fm s));
        })
        (λ z. record {
          size = rw z;
          rows_are = rw (z, d, z) (ap (λ (u : Table). pieces (row_length fm) n u.bytes) (sym (row_same n (lent fm t) R.size i l)) ∙ rows-with n (lent fm t) R.size i l (row_at (lent fm t) i) (length-row_at n (lent fm t) R.size i l));
        })

  add_row : (a : Account) (e : Entry) → leb a.operator 15 ≡ true → add (lent fm t) a e ≡ add_at (first_row (is_row_of a) (pieces (row_length fm) n t)) (lent fm t) e
  unfolding add lookup rows pick require
  add_row a e w =
      let c : length t / row_length fm ≡ n = count-is fm n some shares t R in
      rw (first-is a.operator, w, c)

  add-33 : (a : Account) (e : Entry) → leb a.operator 15 ≡ false → add (lent fm t) a e ≡ left 33 (lent fm t)
  unfolding add leaving pick require
  add-33 a e w = rw (first-is a.operator, w)

  pub adding-step : (a : Account) (e : Entry) → Stepped fm n shares t R (adding a e)
  unfolding done set_up operator_of word_for rows_for pick
  adding-step a e =
      by-test (leb a.operator 15)
      (λ w.
      let F : Found = first_row (is_row_of a) (pieces (row_length fm) n t) in
      let is : add (lent fm t) a e ≡ add_at F (lent fm t) e = add_row a e w in
      let l : There F n = subst (There F) (length-pieces (row_length fm) n t) (there (is_row_of a) (pieces (row_length fm) n t)) in
      let g : Added (is_row_of a) e F = added (is_row_of a) e F l in
      let moved : Change fm n shares t R a.operator (is_row_of a) (entry_row fm e) (add (lent fm t) a e).table.bytes = record {
        size = ap (λ (s : SetUp). length s.table.bytes) is ∙ g.size;
        rows_are = ap (λ (s : SetUp). pieces (row_length fm) n s.table.bytes) is ∙ g.rows_are ∙ changed-found (is_row_of a) (entry_row fm e) (pieces (row_length fm) n t);
      } in
      let stays : (r : List ℕ) → found_by (entry_row fm e r) ≡ found_by r = λ r. (entry_kept fm e r).bearer in
      record {
        next = next fm n shares t R a.operator (is_row_of a) (entry_row fm e) (zero_row_lem fm a) (row-own a) stays (add (lent fm t) a e).table.bytes moved;
        word =
            ap (λ (s : SetUp). number s.number) is
            ∙ ap number (add-number (is_row_of a) e F l ∙ asked-found (is_row_of a) 12 (λ r. entry_number r e) (pieces (row_length fm) n t)
            ∙ asked-own fm n shares t R a.operator (is_row_of a) (entry_row fm e) 12 (λ r. entry_number r e) (row-own a) ∙ sym (rw w));
        own = own-next fm n shares t R a.operator (is_row_of a) (entry_row fm e) (zero_row_lem fm a) (row-own a) stays (add (lent fm t) a e).table.bytes moved ∙ sym (rw w);
        others = others-next fm n shares t R a.operator (is_row_of a) (entry_row fm e) (zero_row_lem fm a) (row-own a) stays (add (lent fm t) a e).table.bytes moved;
      })
      (λ w. let is : add (lent fm t) a e ≡ left 33 (lent fm t) = add-33 a e w in
      record {
        next = still fm n some shares t R (add (lent fm t) a e).table.bytes (ap (λ (s : SetUp). s.table.bytes) is);
        word = ap (λ (s : SetUp). number s.number) is ∙ sym (rw w);
        own = sym (rw w);
        others = λ i d. refl;
      })

-- ENTERING

-- the row of a new subscriber
new-own : (fm : ℕ) (a : Account) (o : ℕ) → is_own o (row_bytes fm (named a)) ≡ eqb a.operator o
unfolding named
new-own fm a o = own-by o (row_bytes fm (named a)) _ (row-account fm (named a))

new-used : (fm : ℕ) (a : Account) → leb a.operator 15 ≡ true → is_used (row_bytes fm (named a)) ≡ true
unfolding named
new-used fm a h = used-by (row_bytes fm (named a)) _ (row-account fm (named a)) ∙ h

used-not-zero : (u : List ℕ) → is_used u ≡ true → not (all_zero u) ≡ true
unfolding is_used
used-not-zero [] h = cc
used-not-zero (x ∷ u) h =
    let one : x ≡ 1 = eqb-true x 1 (and_left (eqb x 1) _ h) in
    rw (sym (not-zero (x ∷ u) (omega arith) (λ z. omega (arith, one, z))))

blank-next : (fm k : ℕ) → 1 ≤ k → blank fm k ≡ (zero_row fm) ∷ blank fm (k - 1)
unfolding blank
blank-next fm zero h = absurd (omega arith)
blank-next fm (suc k) h = let q : suc k - 1 ≡ k = omega arith in rw q

module _ (fm n : ℕ) (some : is_form fm && within 1 most_rows n ≡ true) (shares t : List ℕ) (R : Reached fm n shares t) (a : Account) where
  abbrev mine_now : List (List ℕ)
  mine_now = keep (is_own a.operator) R.used

  -- the number before 11 by the operator's own rows
  rows-now : rows (lent fm t) ≡ R.used ++ blank fm R.free
  rows-now = rows_of fm n some shares t R

  fits-is : shares_fit (lent fm t) shares ≡ eqb (length shares) 16 && leb (sum_of shares) n
  unfolding shares_fit
  fits-is = ap (λ (k : ℕ). eqb (length shares) 16 && leb (sum_of shares) k) (ap length rows-now ∙ length-append R.used (blank fm R.free) ∙ omega (arith, all_of fm n some shares t R, length-blank fm R.free))

  held-is : is_found (lookup (lent fm t) a) ≡ asked (is_row_of a) false (λ r. true) mine_now
  unfolding lookup own_rows
  held-is =
      found-asked (is_row_of a) (rows (lent fm t))
      ∙ asked-keep (is_row_of a) false (λ r. true) (is_own a.operator) (row-own a) (rows (lent fm t))
      ∙ ap (asked (is_row_of a) false (λ r. true)) (own_of fm n some shares t R a.operator)

  room-is : share_number (lent fm t) shares a ≡ room n (length shares) (sum_of shares) (share a.operator shares) a mine_now
  unfolding share_number
  room-is = rw (first-is fm n some shares t R a.operator, fits-is, held-is, own_of fm n some shares t R a.operator)

  -- where it is 0, a row is free: with the new row no operator has more than its share, and together they are no more than the shares come to
  module _ (z : share_number (lent fm t) shares a ≡ 0) where
    abbrev new : List ℕ
    new = row_bytes fm (named a)

    may : MayEnterRow (lent fm t) shares a
    may = share-passed (lent fm t) shares a z

    fits-now : eqb (length shares) 16 && leb (sum_of shares) n ≡ true
    fits-now = sym fits-is ∙ may.shares-fit

    used-then : every is_used (R.used ++ (new ∷ [])) ≡ true
    used-then = every_append is_used R.used (new ∷ []) R.in_use (every_one is_used new (new-used fm a (first-operator (lent fm t) a.operator may.first)))

    pub in-share-then : (o : ℕ) → length (keep (is_own o) (R.used ++ (new ∷ []))) ≤ share o shares
    unfolding pick
    in-share-then o =
        by-test (eqb a.operator o)
        (λ e. let p : a.operator ≡ o = eqb-true a.operator o e in
        let less : length (keep (is_own o) R.used) < share o shares =
        subst (λ (i : ℕ). length (keep (is_own i) R.used) < share i shares) p
        (subst (λ (rs : List (List ℕ)). length rs < share a.operator shares) (own_of fm n some shares t R a.operator) may.room-left) in
        rw (keep_snoc (is_own o) R.used new, new-own fm a o, e) (omega (arith, length-append (keep (is_own o) R.used) (new ∷ []), less)))
        (λ e. rw (keep_snoc (is_own o) R.used new, new-own fm a o, e) (omega (arith, length-append (keep (is_own o) R.used) [], R.in-share o)))

    pub row-free : 1 ≤ R.free
    row-free =
        omega (
          arith,
          few shares (R.used ++ (new ∷ [])) (shares-sixteen (lent fm t) shares may.shares-fit) used-then in-share-then,
          length-append R.used (new ∷ []),
          leb-true (sum_of shares) n (and_right (eqb (length shares) 16) _ fits-now),
          all_of fm n some shares t R,
        )

    -- it is the first behind the rows in use
    abbrev place : ℕ
    place = length R.used

    pub first-free : first_row all_zero (rows (lent fm t)) ≡ row place
    first-free =
        ap (first_row all_zero) (rows-now ∙ ap (λ (zs : List (List ℕ)). R.used ++ zs) (blank-next fm R.free row-free))
        ∙ first-behind all_zero R.used (zero_row fm) (blank fm (R.free - 1)) (every-imp is_used _ used-not-zero R.used R.in_use) (zero-zero fm)

    inside : place < n
    inside = omega (arith, row-free, all_of fm n some shares t R)

    pub enter-is : enter (lent fm t) shares a ≡ left 0 (with_row (lent fm t) place new)
    enter-is = sym (enter-done (lent fm t) shares a place (with_row (lent fm t) place new) z first-free refl)

    abbrev entered-next : Reached fm n shares (with_row (lent fm t) place new).bytes
    entered-next =
        record {
          size = length-with_row n (lent fm t) R.size place inside new (length-row fm (named a)) ∙ R.size;
          used = R.used ++ (new ∷ []);
          free = R.free - 1;
          rows_are =
              rows-with n (lent fm t) R.size place inside new (length-row fm (named a))
              ∙ ap (λ (rs : List (List ℕ)). set rs place new) (R.rows_are ∙ ap (λ (zs : List (List ℕ)). R.used ++ zs) (blank-next fm R.free row-free))
              ∙ set-behind R.used (zero_row fm) new (blank fm (R.free - 1));
          in_use = used-then;
          in-share = in-share-then;
        }

  -- a table that is the same is reached as well
  abbrev moved_on : (after then : List ℕ) → after ≡ then → Reached fm n shares then → Reached fm n shares after
  moved_on after then e Q =
      record {
        size = ap length e ∙ Q.size;
        used = Q.used;
        free = Q.free;
        rows_are = ap (pieces (row_length fm) n) e ∙ Q.rows_are;
        in_use = Q.in_use;
        in-share = Q.in-share;
      }

  pub entering-step : Stepped fm n shares t R (entering a)
  unfolding done set_up operator_of word_for rows_for pick
  entering-step =
      by-test (eqb (share_number (lent fm t) shares a) 0)
      (λ h.
      let z : share_number (lent fm t) shares a ≡ 0 = eqb-true (share_number (lent fm t) shares a) 0 h in
      let is : enter (lent fm t) shares a ≡ left 0 (with_row (lent fm t) (length R.used) (row_bytes fm (named a))) = enter-is z in
      let m : room n (length shares) (sum_of shares) (share a.operator shares) a mine_now ≡ 0 = sym room-is ∙ z in
      record {
        next = moved_on (enter (lent fm t) shares a).table.bytes (with_row (lent fm t) (length R.used) (row_bytes fm (named a))).bytes (ap (λ (s : SetUp). s.table.bytes) is) (entered-next z);
        word = ap (λ (s : SetUp). number s.number) is ∙ ap number (sym m);
        own =
            keep_snoc (is_own a.operator) R.used (row_bytes fm (named a))
            ∙ rw (new-own fm a a.operator, eq-eqb a.operator a.operator refl, m);
        others = λ i d. keep_snoc (is_own i) R.used (row_bytes fm (named a)) ∙ rw (new-own fm a i, d) (append-nil (keep (is_own i) R.used));
      })
      (λ h.
      let nz : share_number (lent fm t) shares a ≡ 0 → ⊥ = eqb-false (share_number (lent fm t) shares a) 0 h in
      let is : enter (lent fm t) shares a ≡ left (share_number (lent fm t) shares a) (lent fm t) = sym (enter-early (lent fm t) shares a (share_number (lent fm t) shares a) refl nz) in
      let m : eqb (room n (length shares) (sum_of shares) (share a.operator shares) a mine_now) 0 ≡ false = ap (λ (k : ℕ). eqb k 0) (sym room-is) ∙ h in
      record {
        next = moved_on (enter (lent fm t) shares a).table.bytes t (ap (λ (s : SetUp). s.table.bytes) is) R;
        word = ap (λ (s : SetUp). number s.number) is ∙ ap number room-is;
        own = sym (rw m);
        others = λ i d. refl;
      })

-- ANY OPERATION

pub step : (fm n : ℕ) → is_form fm && within 1 most_rows n ≡ true → (shares t : List ℕ) (R : Reached fm n shares t) (x : Operation) → Stepped fm n shares t R x
step fm n some shares t R (entering a) = entering-step fm n some shares t R a
step fm n some shares t R (adding a e) = adding-step fm n some shares t R a e
step fm n some shares t R (asking c) = asking-step fm n some shares t R c

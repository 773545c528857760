-- One call on the bytes of a table is one call on its rows.
use mathlib.Core.Path.{◌≡◌, refl, sym, ap, ◌∙◌, subst}
use mathlib.Core.Bool.{Bool, true, false}
use mathlib.Core.List.{List, [], ◌∷◌}
use Prim.Native.Nat.{ℕ, suc, ◌*◌, ◌/◌, ◌<◌, zero-le, suc-le-suc}
use lib.Dec.{eqb}
use lib.ListN.{length, get_or, set}
use Rattle.octets.specs.Choice.{pick, first_of}
use Rattle.octets.specs.Texts.{filled, pieces}
use Rattle.octets.proofs.Choice.{by-pick}
use Rattle.octets.proofs.Lists.{by-test}
use Rattle.octets.proofs.Pieces.{length-pieces}
use Rattle.message.specs.Codes.{plain, user_unknown, number_of}
use Rattle.message.specs.ReadingAMessage.{Ask, tunnel, policy, termination, Request, Reading, refused, request, read}
use Rattle.table.specs.TheTable.{Account, Policies, Subscriber, Table, Found, found_by, row, nothing, later, first_row, lookup, rows, row_at, width, with_row, row_length, table_number, read_row, row_bytes, is_row_of}
use Rattle.table.specs.Soundness.{sound}
use Rattle.table.proofs.Bytes.{length-row}
use Rattle.table.proofs.Rows.{form-with, length-row_at, length-with_row, nth-row, row_same, rows-with, whole-rows}
use Rattle.table.proofs.Sound.{row_is}
use Rattle.changes.specs.Changes.{Opening, freed, opened, routed}
use Rattle.changes.proofs.Steps.{row-account}
use Rattle.rules.specs.Deciding.{Verdict, decide, type0, type1, terminate, admit, open_on, refuse, grant, held_already}
use Rattle.rules.specs.Calls.{account, Call, Reply, Left, call_number, silent, reply, refusal, table_after, settled, most_policies, on_row, on_reading, handle}
use Rattle.order.specs.Demand3.{Subject, nobody, subscriber, subject, sent_by, own_number}
use Rattle.order.proofs.Finding.{finds, finds-alike}
use Rattle.order.proofs.Alone as A

-- WHAT IS DECIDED KEEPS THE ACCOUNT

abbrev pub account_of : Subscriber → Account
account_of s = record { operator = s.operator; name = s.name }

abbrev Named : Subscriber → Verdict → Type 0
Named s v = account_of v.after ≡ account_of s

module _ (s : Subscriber) where
  named-admit : (n : ℕ) (o : Opening) → Named s (admit n o s)
  unfolding admit open_on opened freed
  named-admit n o = by-pick (Named s) _ (λ e. refl) (λ e. refl)

  named-type0 : (o : Opening) (label : List ℕ) (visited : Bool) → Named s (type0 o label visited s)
  unfolding type0 refuse grant held_already
  named-type0 o label visited =
      by-pick (Named s) _ (λ e. refl)
      (λ e. by-pick (Named s) _ (λ e. refl)
      (λ e. by-pick (Named s) _ (λ e. refl)
      (λ e. by-pick (Named s) _ (λ e. by-pick (Named s) _ (λ k. refl) (λ k. refl)) (λ e. named-admit _ o))))

  named-type1 : (session : List ℕ) (p : Policies) (wag : Bool) → Named s (type1 session p wag s)
  unfolding type1 refuse grant routed
  named-type1 session p wag = by-pick (Named s) _ (λ e. refl) (λ e. by-pick (Named s) _ (λ e. refl) (λ e. refl))

  named-terminate : (session label : List ℕ) → Named s (terminate session label s)
  unfolding terminate refuse grant freed
  named-terminate session label = by-pick (Named s) _ (λ e. refl) (λ e. refl)

  pub name-kept : (fm : ℕ) (q : Ask) (wag : Bool) → account_of (decide fm q wag s).after ≡ account_of s
  unfolding decide
  name-kept fm (tunnel session host realm label visited) wag = named-type0 _ label visited
  name-kept fm (policy session first second third) wag = named-type1 session _ wag
  name-kept fm (termination session label) wag = named-terminate session label

-- A CALL ON ONE ROW, of a table of the form

-- the row that a verdict leaves
unfoldable pub settled_row : (fm : ℕ) → List ℕ → Verdict → List ℕ
settled_row fm r v = pick (eqb (number_of v.code) 2001) (row_bytes fm v.after) r

unfoldable pub row_after : (fm : ℕ) → Call → Request → List ℕ → List ℕ
row_after fm c q r = pick (sound r) (settled_row fm r (decide fm q.ask c.wag (read_row r))) r

unfoldable pub reply_on : (fm : ℕ) → Call → Request → List ℕ → Reply
reply_on fm c q r =
    let v : Verdict = decide fm q.ask c.wag (read_row r) in
    pick (sound r) (reply fm c v.code v.place v.cut) (reply fm c (plain 5012) 0 [])

-- by what was read
unfoldable pub act_on : (fm : ℕ) → Call → Reading → List ℕ → List ℕ
act_on fm c (refused code) r = r
act_on fm c (request q) r = row_after fm c q r

unfoldable pub say_on : (fm : ℕ) → Call → Reading → List ℕ → Reply
say_on fm c (refused code) r = reply fm c (plain code) 0 []
say_on fm c (request q) r = reply_on fm c q r

unfoldable pub lost_on : (fm : ℕ) → Call → Reading → Reply
lost_on fm c (refused code) = reply fm c (plain code) 0 []
lost_on fm c (request q) = reply fm c user_unknown 0 []

unfoldable pub silence : Call → ℕ → Reply
silence c n = (silent (record { form = 1; bytes = [] }) c n).reply

-- the message as it is read for a table of the form
abbrev pub read_in : (fm : ℕ) → Call → Reading
read_in fm c = read (most_policies fm) c.message

unfoldable pub act : (fm : ℕ) → Call → List ℕ → List ℕ
act fm c r = pick (eqb (own_number fm c) 0) (act_on fm c (read_in fm c) r) r

unfoldable pub says : (fm : ℕ) → Call → List ℕ → Reply
says fm c r = pick (eqb (own_number fm c) 0) (say_on fm c (read_in fm c) r) (silence c (own_number fm c))

unfoldable pub lost : (fm : ℕ) → Call → Reply
lost fm c = pick (eqb (own_number fm c) 0) (lost_on fm c (read_in fm c)) (silence c (own_number fm c))

-- WHAT STAYS OF A ROW: its length, if it is one of the form, and what it is found by

pub record Kept (fm : ℕ) (r q : List ℕ) : Type 0 where
  pub size : length r ≡ row_length fm → length q ≡ length r
  pub bearer : found_by q ≡ found_by r

pub self : (fm : ℕ) (r : List ℕ) → Kept fm r r
self fm r = record { size = λ h. refl; bearer = refl }

pub written : (fm : ℕ) (r : List ℕ) (s : Subscriber) → sound r ≡ true → account_of s ≡ account_of (read_row r) → Kept fm r (row_bytes fm s)
written fm r s h n =
    record {
      size = λ full. length-row fm s ∙ sym full;
      bearer =
          row-account fm s ∙ ap (λ (a : Account). a.operator ∷ 1 ∷ length a.name ∷ filled a.name 15) n ∙ sym (row-account _ (read_row r)) ∙ ap found_by (sym (row_is r h));
    }

kept-after : (fm : ℕ) (c : Call) (q : Request) (r : List ℕ) → Kept fm r (row_after fm c q r)
unfolding row_after settled_row
kept-after fm c q r =
    by-pick (Kept fm r) (sound r)
    (λ h. by-pick (Kept fm r) _ (λ e. written fm r _ h (name-kept (read_row r) fm q.ask c.wag)) (λ e. self fm r))
    (λ h. self fm r)

kept_on : (fm : ℕ) (c : Call) (g : Reading) (r : List ℕ) → Kept fm r (act_on fm c g r)
unfolding act_on
kept_on fm c (refused code) r = self fm r
kept_on fm c (request q) r = kept-after fm c q r

pub kept : (fm : ℕ) (c : Call) (r : List ℕ) → Kept fm r (act fm c r)
unfolding act
kept fm c r = by-pick (Kept fm r) _ (λ e. kept_on fm c (read_in fm c) r) (λ e. self fm r)

pub length-after : (fm : ℕ) (c : Call) (q : Request) (r : List ℕ) → length r ≡ row_length fm → length (row_after fm c q r) ≡ length r
length-after fm c q r full = (kept-after fm c q r).size full

-- no change to a row changes by whom it is found
pub stable : (fm : ℕ) (k : Subject) (c : Call) (r : List ℕ) → finds k (act fm c r) ≡ finds k r
stable fm k c r = finds-alike k (act fm c r) r (kept fm c r).bearer

-- THE NUMBER OF A CALL

first-pass : (c : ℕ) (cs : List ℕ) → c ≡ 0 → first_of (c ∷ cs) ≡ first_of cs
unfolding first_of pick
first-pass c cs h = rw h

first-fail : (c : ℕ) (cs : List ℕ) → eqb c 0 ≡ false → first_of (c ∷ cs) ≡ c
unfolding first_of pick
first-fail c cs h = rw h

module _ (t : Table) (c : Call) where
  pub number-good : table_number t ≡ 0 → call_number t c ≡ own_number t.form c
  unfolding call_number own_number
  number-good h = first-pass (table_number t) _ h

  pub number-bad : eqb (table_number t) 0 ≡ false → call_number t c ≡ table_number t
  unfolding call_number
  number-bad h = first-fail (table_number t) _ h

  pub handle-good : table_number t ≡ 0 → handle t c ≡ pick (eqb (own_number t.form c) 0) (on_reading t c (read_in t.form c)) (silent t c (own_number t.form c))
  unfolding handle
  handle-good h = rw (number-good h)

  pub handle-bad : eqb (table_number t) 0 ≡ false → handle t c ≡ silent t c (table_number t)
  unfolding handle pick
  handle-bad h = rw (number-bad h, h)

-- WHOSE A CALL IS

module _ (fm : ℕ) (c : Call) where
  pub not-answered : eqb (own_number fm c) 0 ≡ false → subject fm c ≡ nobody
  unfolding subject pick
  not-answered e = rw e

  pub was-refused : (code : ℕ) → eqb (own_number fm c) 0 ≡ true → read_in fm c ≡ refused code → subject fm c ≡ nobody
  unfolding subject sent_by account pick
  was-refused code e g = rw (e, g)

  pub was_read : (q : Request) → eqb (own_number fm c) 0 ≡ true → read_in fm c ≡ request q → subject fm c ≡ subscriber (account c q)
  unfolding subject sent_by account pick
  was_read q e g = rw (e, g)

-- THE ROW THAT IS FOUND

abbrev pub tab : (fm : ℕ) → List (List ℕ) → Call → List (List ℕ)
tab fm = A.tab fm (act fm) (says fm) (lost fm)

abbrev pub ans : (fm : ℕ) → List (List ℕ) → Call → Reply
ans fm = A.ans fm (act fm) (says fm) (lost fm)

tab-nobody : (fm : ℕ) (c : Call) (rs : List (List ℕ)) → subject fm c ≡ nobody → tab fm rs c ≡ rs
unfolding A.tab finds pick
tab-nobody fm c [] h = refl
tab-nobody fm c (r ∷ rs) h = rw (h, tab-nobody fm c rs h)

ans-nobody : (fm : ℕ) (c : Call) (rs : List (List ℕ)) → subject fm c ≡ nobody → ans fm rs c ≡ lost fm c
unfolding A.ans finds pick
ans-nobody fm c [] h = refl
ans-nobody fm c (r ∷ rs) h = rw h (ans-nobody fm c rs h)

replaced : Found → List (List ℕ) → (List ℕ → List ℕ) → List (List ℕ)
replaced nothing rs f = rs
replaced (row i) rs f = set rs i (f (get_or rs i []))

chosen : Found → List (List ℕ) → Reply → (List ℕ → Reply) → Reply
chosen nothing rs d f = d
chosen (row i) rs d f = f (get_or rs i [])

replaced-later : (F : Found) (r : List ℕ) (rs : List (List ℕ)) (f : List ℕ → List ℕ) → replaced (later F) (r ∷ rs) f ≡ r ∷ replaced F rs f
unfolding replaced later
replaced-later nothing r rs f = refl
replaced-later (row i) r rs f = refl

chosen-later : (F : Found) (r : List ℕ) (rs : List (List ℕ)) (d : Reply) (f : List ℕ → Reply) → chosen (later F) (r ∷ rs) d f ≡ chosen F rs d f
unfolding chosen later
chosen-later nothing r rs d f = refl
chosen-later (row i) r rs d f = refl

module _ (fm : ℕ) (c : Call) (who : Account) (of : subject fm c ≡ subscriber who) where
  tab-found : (rs : List (List ℕ)) → tab fm rs c ≡ replaced (first_row (is_row_of who) rs) rs (act fm c)
  unfolding A.tab finds first_row replaced pick
  tab-found [] = refl
  tab-found (r ∷ rs) =
      by-test (is_row_of who r)
      (λ e. rw (of, e))
      (λ e. rw (of, e, replaced-later (first_row (is_row_of who) rs) r rs (act fm c), tab-found rs))

  ans-found : (rs : List (List ℕ)) → ans fm rs c ≡ chosen (first_row (is_row_of who) rs) rs (lost fm c) (says fm c)
  unfolding A.ans finds first_row chosen pick
  ans-found [] = refl
  ans-found (r ∷ rs) =
      by-test (is_row_of who r)
      (λ e. rw (of, e))
      (λ e. rw (of, e, chosen-later (first_row (is_row_of who) rs) r rs (lost fm c) (says fm c)) (ans-found rs))

-- a row that is found is there
unfoldable pub There : Found → ℕ → Type 0
There nothing n = Unit {0}
There (row i) n = i < n

there-later : (F : Found) (n : ℕ) → There F n → There (later F) (suc n)
unfolding There later
there-later nothing n h = tt
there-later (row i) n h = suc-le-suc h

pub there : (p : List ℕ → Bool) (rs : List (List ℕ)) → There (first_row p rs) (length rs)
unfolding There first_row pick
there p [] = tt
there p (r ∷ rs) = by-test (p r) (λ e. rw e (suc-le-suc zero-le)) (λ e. rw e (there-later (first_row p rs) (length rs) (there p rs)))

-- ONE CALL

lost-refused : (fm : ℕ) (c : Call) (code : ℕ) → eqb (own_number fm c) 0 ≡ true → read_in fm c ≡ refused code → lost fm c ≡ reply fm c (plain code) 0 []
unfolding lost lost_on pick
lost-refused fm c code own g = rw (own, g)

lost-silent : (fm : ℕ) (c : Call) → eqb (own_number fm c) 0 ≡ false → lost fm c ≡ silence c (own_number fm c)
unfolding lost pick
lost-silent fm c own = rw own

-- the first n rows of a table
abbrev pub rows_of : ℕ → Table → List (List ℕ)
rows_of n t = pieces (width t) n t.bytes

pub record Agrees (n : ℕ) (t : Table) (c : Call) (l : Left) : Type 0 where
  pub form-is : l.table.form ≡ t.form
  pub size : length l.table.bytes ≡ length t.bytes
  pub rows_are : pieces (width t) n l.table.bytes ≡ tab t.form (rows_of n t) c
  pub reply-is : l.reply ≡ ans t.form (rows_of n t) c

-- a call of nobody
module _ (n : ℕ) (t : Table) (c : Call) (of : subject t.form c ≡ nobody) where
  unmoved : (l : Left) → l.table ≡ t → l.reply ≡ lost t.form c → Agrees n t c l
  unmoved l e f =
      record {
        form-is = ap (λ (u : Table). u.form) e;
        size = ap (λ (u : Table). length u.bytes) e;
        rows_are = ap (λ (u : Table). pieces (width t) n u.bytes) e ∙ sym (tab-nobody t.form c (rows_of n t) of);
        reply-is = f ∙ sym (ans-nobody t.form c (rows_of n t) of);
      }

-- a call of a subscriber, whose row is replaced by what it says then
module _ (n : ℕ) (t : Table) (size : length t.bytes ≡ width t * n) (c : Call) (q : Request) (own : eqb (own_number t.form c) 0 ≡ true) (g : read_in t.form c ≡ request q) where
  act-is : (r : List ℕ) → act t.form c r ≡ row_after t.form c q r
  unfolding act act_on pick
  act-is r = rw (own, g)

  says_is : (r : List ℕ) → says t.form c r ≡ reply_on t.form c q r
  unfolding says say_on pick
  says_is r = rw (own, g)

  lost-is : lost t.form c ≡ reply t.form c user_unknown 0 []
  unfolding lost lost_on pick
  lost-is = rw (own, g)

  table_is : (i : ℕ) → i < n → (on_row t c q (row i)).table ≡ with_row t i (row_after t.form c q (row_at t i))
  unfolding on_row table_after settled refusal row_after settled_row pick
  table_is i l =
      by-test (sound (row_at t i))
      (λ h. by-test (eqb (number_of (decide t.form q.ask c.wag (read_row (row_at t i))).code) 2001)
      (λ e. rw (h, e))
      (λ e. rw (h, e) (sym (row_same n t size i l))))
      (λ h. rw h (sym (row_same n t size i l)))

  row-reply : (i : ℕ) → (on_row t c q (row i)).reply ≡ reply_on t.form c q (row_at t i)
  unfolding on_row settled refusal reply_on pick
  row-reply i = by-test (sound (row_at t i)) (λ h. rw h) (λ h. rw h)

  on-found : (F : Found) → F ≡ first_row (is_row_of (account c q)) (rows_of n t) → There F n → Agrees n t c (on_row t c q F)
  unfolding There on_row refusal replaced chosen
  on-found nothing e l =
      let of : subject t.form c ≡ subscriber (account c q) = was_read t.form c q own g in
      record {
        form-is = refl;
        size = refl;
        rows_are = sym (tab-found t.form c (account c q) of (rows_of n t) ∙ ap (λ (G : Found). replaced G (rows_of n t) (act t.form c)) (sym e));
        reply-is = sym (ans-found t.form c (account c q) of (rows_of n t) ∙ ap (λ (G : Found). chosen G (rows_of n t) (lost t.form c) (says t.form c)) (sym e) ∙ lost-is);
      }
  on-found (row i) e l =
      let of : subject t.form c ≡ subscriber (account c q) = was_read t.form c q own g in
      let full : length (row_at t i) ≡ width t = length-row_at n t size i l in
      let r : List ℕ = row_after t.form c q (row_at t i) in
      let k : length r ≡ width t = length-after t.form c q (row_at t i) full ∙ full in
      let d : get_or (rows_of n t) i [] ≡ row_at t i = nth-row n t size i l in
      record {
        form-is = ap (λ (u : Table). u.form) (table_is i l) ∙ form-with t i r;
        size = ap (λ (u : Table). length u.bytes) (table_is i l) ∙ length-with_row n t size i l r k;
        rows_are =
            ap (λ (u : Table). pieces (width t) n u.bytes) (table_is i l)
            ∙ rows-with n t size i l r k
            ∙ ap (λ (r : List ℕ). set (rows_of n t) i r) (sym (act-is (row_at t i)) ∙ ap (act t.form c) (sym d))
            ∙ sym (tab-found t.form c (account c q) of (rows_of n t) ∙ ap (λ (G : Found). replaced G (rows_of n t) (act t.form c)) (sym e));
        reply-is =
            row-reply i ∙ sym (says_is (row_at t i)) ∙ ap (says t.form c) (sym d)
            ∙ sym (ans-found t.form c (account c q) of (rows_of n t) ∙ ap (λ (G : Found). chosen G (rows_of n t) (lost t.form c) (says t.form c)) (sym e));
      }

module _ (t : Table) (good : table_number t ≡ 0) where
  abbrev count : ℕ
  count = length t.bytes / width t

  by-reading : (c : Call) (g : Reading) → eqb (own_number t.form c) 0 ≡ true → read_in t.form c ≡ g → Agrees count t c (on_reading t c g)
  unfolding on_reading refusal lookup rows
  by-reading c (refused code) own e = unmoved count t c (was-refused t.form c code own e) (refusal t c (plain code)) refl (sym (lost-refused t.form c code own e))
  by-reading c (request q) own e = on-found count t (whole-rows t good) c q own e (lookup t (account c q)) refl (subst (There (lookup t (account c q))) (length-pieces (width t) count t.bytes) (there (is_row_of (account c q)) (rows t)))

  pub one-call : (c : Call) → Agrees count t c (handle t c)
  unfolding silent silence
  one-call c =
      rw (handle-good t c good)
      (by-pick (Agrees count t c) (eqb (own_number t.form c) 0)
      (λ own. by-reading c (read_in t.form c) own refl)
      (λ own. unmoved count t c (not-answered t.form c own) (silent t c (own_number t.form c)) refl (sym (lost-silent t.form c own))))

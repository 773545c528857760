-- The order line through a list of calls: each call of its subscriber that succeeds changes it as its reply shows, and no other
-- call does.
use mathlib.Core.Path.{◌≡◌, refl, sym, ap, ◌∙◌}
use mathlib.Core.Bool.{Bool, true, false, ◌&&◌}
use mathlib.Core.List.{List, [], ◌∷◌}
use Prim.Native.Nat.{ℕ, ◌/◌}
use native.Mathlib.Omega.{arith}
use borrow.Author.Tests.{eq-eqb, eqb-true, eqb-false}
use lib.Dec.{eqb}
use lib.ListN.{get_or, length, take}
use Rattle.octets.specs.Choice.{pick}
use Rattle.octets.proofs.Lists.{and_left, and_right, by-test}
use Rattle.octets.proofs.Pieces.{pieces-at}
use Rattle.message.specs.ReadingAMessage.{Ask, command, avps, request_of}
use Rattle.table.specs.TheTable.{Account, Entry, Subscriber, Table, Found, row, nothing, later, first_row, lookup, rows, is_row_of, row_at, width, read_row}
use Rattle.table.specs.Soundness.{sound}
use Rattle.rules.specs.Calls.{account, Call, handle, most_policies, run, ran_first, call_number}
use Rattle.order.specs.Demand2.{request_in, found, said, succeeds, exceeds, place_taken}
use Rattle.order.specs.Demand3.{subscriber, is_of, subject, own_number}
use Rattle.order.specs.OpenedFirst.{line_after, history, line_of, entries_of, label_in, label_asked, on_label, tunnel_cut}
use Rattle.order.specs.OpenedFirst.{LineIsHistory, EntriesStay, CutOpenedFirst, SecondRowStays, UnsoundRowStays}
use Rattle.order.proofs.Finding.{finds, finds-owner, subject-eq, subject-refl, same_row}
use Rattle.order.proofs.Read.{read_is}
use Rattle.order.proofs.Handling.{was_read, number-good}
use Rattle.order.proofs.Lists.{form-stays, lookup-stays}
use Rattle.order.proofs.Checks.{cut-exactly, success-exactly, success-reply, refused-changes-nothing, Won, won, won-went}
use Rattle.order.proofs.Answered.{OnRow, went}
use Rattle.order.proofs.Rest.{success-replaces-row, other-rows-stay, after-good, row-good, rows-there, in_table}
use Rattle.order.proofs.History.{line_after_lem, cut-named, placed, same_entries}

-- ONE NAME TO A ROW

Passes : (List ℕ → Bool) → List (List ℕ) → Found → Type 0
Passes f rs nothing = Unit {0}
Passes f rs (row i) = f (get_or rs i []) ≡ true

passes-later : (f : List ℕ → Bool) (r : List ℕ) (rs : List (List ℕ)) (F : Found) → Passes f rs F → Passes f (r ∷ rs) (later F)
unfolding Passes later
passes-later f r rs nothing h = tt
passes-later f r rs (row i) h = h

passes : (f : List ℕ → Bool) (rs : List (List ℕ)) → Passes f rs (first_row f rs)
unfolding Passes first_row pick
passes f [] = tt
passes f (r ∷ rs) = by-test (f r) (λ e. rw e e) (λ e. rw e (passes-later f r rs (first_row f rs) (passes f rs)))

found-row : (t : Table) (who : Account) (i : ℕ) → lookup t who ≡ row i → is_row_of who (get_or (rows t) i []) ≡ true
unfolding lookup Passes
found-row t who i e = rw e at (passes (is_row_of who) (rows t))

-- a row that is the first to pass a test passes it
pub passes_at : (f : List ℕ → Bool) (t : Table) (i : ℕ) → first_row f (rows t) ≡ row i → f (row_at t i) ≡ true
unfolding rows row_at Passes
passes_at f t i e =
    let r : get_or (rows t) i [] ≡ row_at t i = pieces-at (width t) (length t.bytes / width t) t.bytes i (in_table f t i e) in
    rw r at (rw e at (passes f (rows t)))

pub found_at : (t : Table) (who : Account) (i : ℕ) → lookup t who ≡ row i → is_row_of who (row_at t i) ≡ true
unfolding lookup
found_at t who i e = passes_at (is_row_of who) t i e

pub one-owner : (a b : Account) (r : List ℕ) → is_row_of a r ≡ true → is_row_of b r ≡ true → subscriber a ≡ subscriber b
unfolding finds
one-owner a b r p q = finds-owner (subscriber a) r p ∙ sym (finds-owner (subscriber b) r q)

not-nothing : (i : ℕ) → nothing ≡ row i → ⊥
not-nothing i e = let y : ◌≡◌ {A = ℕ} 0 1 = cc in omega arith

-- A CALL THAT SUCCEEDS

pub subject-won : (t : Table) (c : Call) (j : ℕ) → OnRow t c j → call_number t c ≡ 0 → subject t.form c ≡ subscriber (account c (request_in c))
unfolding request_in
subject-won t c j o a =
    let own : eqb (own_number t.form c) 0 ≡ true = eq-eqb (own_number t.form c) 0 (sym (number-good t c (rows-there t c a)) ∙ a) in
    was_read t.form c (request_of (command c.message) (avps c.message)) own (read_is (most_policies t.form) c.message o.was_read)

pub same-account : (a b : Account) → subscriber a ≡ subscriber b → a ≡ b
same-account a b e = cc

-- it is on the row that its subscriber finds
pub own-found : (t : Table) (who : Account) (c : Call) → subject t.form c ≡ subscriber who → Won t c → found t c ≡ lookup t who
unfolding found
own-found t who c of (won j o n h) = ap (lookup t) (same-account _ _ (sym (subject-won t c j o n) ∙ of))

module _ (t : Table) (who : Account) (i : ℕ) (here : lookup t who ≡ row i) (c : Call) where
  -- one on this row is its subscriber's, and one of its subscriber is on this row
  own-call : found t c ≡ row i → Won t c → is_of t.form (subscriber who) c ≡ true
  unfolding is_of found
  own-call e (won j o a h) =
      let s : subject t.form c ≡ subscriber who = subject-won t c j o a ∙ one-owner _ _ _ (found-row t _ i e) (found-row t who i here) in
      rw s (subject-refl (subscriber who))

  own_row : subject t.form c ≡ subscriber who → Won t c → found t c ≡ row i
  own_row of w = own-found t who c of w ∙ here

-- what its reply shows of the row that it is on
module _ (t : Table) (c : Call) (i : ℕ) (e : found t c ≡ row i) where
  abbrev asks : Ask
  asks = (request_in c).ask

  shows : succeeds t c ≡ true → Won t c → line_of (handle t c).table i ≡ line_after t.form (entries_of t i) asks (handle t c).reply (line_of t i)
  shows s (won j o a h) =
      let q : j ≡ i = same_row j i (sym o.at ∙ e) in
      rw ((success-replaces-row t c i s e).says, success-reply t c s, o.before, q)
      (line_after_lem t.form c (place_taken asks (read_row (row_at t i))) asks c.wag (read_row (row_at t i)) (rw q at (row-good t c j (rows-there t c a) o)) (rw q at (sym o.none ∙ h))
      (placed t.form asks (read_row (row_at t i)) (rw q at (after-good t c j o (rows-there t c a) h))))

-- ANY CALL

not-both : {P : Type 0} (b : Bool) → b ≡ true → b ≡ false → P
not-both b p q = let z : ◌≡◌ {A = ℕ} 0 1 = cc in absurd (omega arith)

pub won-success : (t : Table) (c : Call) → succeeds t c ≡ true → Won t c
won-success t c s = won-went t c s (went t c)

-- a row is the one that a call which succeeds is on, or it stays
module _ (t : Table) (c : Call) (i : ℕ) where
  data Touched : Type 0 where
    on : succeeds t c ≡ true → found t c ≡ row i → Touched
    stays : row_at (handle t c).table i ≡ row_at t i → Touched

  by-found : succeeds t c ≡ true → (F : Found) → found t c ≡ F → Touched
  by-found h nothing e = stays (other-rows-stay t c i (λ f. not-nothing i (sym e ∙ f)))
  by-found h (row j) e =
      by-test (eqb j i)
      (λ s. on h (e ∙ ap row (eqb-true j i s)))
      (λ s. stays (other-rows-stay t c i (λ f. eqb-false j i s (same_row j i (sym e ∙ f)))))

  touched : Touched
  touched =
      by-test (succeeds t c)
      (λ h. by-found h (found t c) refl)
      (λ h. stays (ap (λ (u : Table). row_at u i) (refused-changes-nothing t c (success-exactly t c ∙ h)).table))

  entries-one : Touched → entries_of (handle t c).table i ≡ entries_of t i
  entries-one (on h e) = ap (λ (s : Subscriber). s.entries) (success-replaces-row t c i h e).says ∙ same_entries _ _ _
  entries-one (stays e) = ap (λ (r : List ℕ). (read_row r).entries) e

  unsound-one : sound (row_at t i) ≡ false → Touched → row_at (handle t c).table i ≡ row_at t i
  unsound-one u (on h e) = not-both _ (success-replaces-row t c i h e).was-sound u
  unsound-one u (stays e) = e

module _ (t : Table) (who : Account) (i : ℕ) (here : lookup t who ≡ row i) (c : Call) where
  abbrev granted : Bool
  granted = is_of t.form (subscriber who) c && eqb (handle t c).reply.result.code 2001

  line_stays : granted ≡ false → Touched t c i → line_of (handle t c).table i ≡ line_of t i
  line_stays b (on h e) = not-both granted (rw (own-call t who i here c e (won-success t c h), success-exactly t c ∙ h)) b
  line_stays b (stays e) = rw e

  one-call : line_of (handle t c).table i ≡ pick granted (line_after t.form (entries_of t i) (request_in c).ask (handle t c).reply (line_of t i)) (line_of t i)
  unfolding is_of pick
  one-call =
      by-test granted
      (λ b. let h : succeeds t c ≡ true = sym (success-exactly t c) ∙ and_right (is_of t.form (subscriber who) c) _ b in
      let of : subject t.form c ≡ subscriber who = subject-eq (subject t.form c) (subscriber who) (and_left (is_of t.form (subscriber who) c) _ b) in
      rw b (shows t c i (own_row t who i here c of (won-success t c h)) h (won-success t c h)))
      (λ b. rw b (line_stays b (touched t c i)))

  -- a second row of the name is on no call's way
  second-found : (j : ℕ) → is_row_of who (row_at t j) ≡ true → found t c ≡ row j → Won t c → row j ≡ row i
  unfolding found
  second-found j of e (won k o a h) =
      sym e ∙ ap (lookup t) (same-account _ _ (one-owner _ _ _ (found_at t _ j e) of)) ∙ here

  second-one : (j : ℕ) → (j ≡ i → ⊥) → is_row_of who (row_at t j) ≡ true → Touched t c j → row_at (handle t c).table j ≡ row_at t j
  second-one j ne of (on h e) = absurd (ne (same_row j i (second-found j of e (won-success t c h))))
  second-one j ne of (stays e) = e

-- A LIST OF CALLS

pub entries-stay : EntriesStay
unfolding run ran_first
entries-stay t [] i = refl
entries-stay t (c ∷ cs) i = entries-stay (handle t c).table cs i ∙ entries-one t c i (touched t c i)

pub unsound-row-stays : UnsoundRowStays
unfolding run ran_first
unsound-row-stays t [] j u = refl
unsound-row-stays t (c ∷ cs) j u =
    let e : row_at (handle t c).table j ≡ row_at t j = unsound-one t c j u (touched t c j) in
    unsound-row-stays (handle t c).table cs j (ap sound e ∙ u) ∙ e

pub second-row-stays : SecondRowStays
unfolding run ran_first
second-row-stays t [] who i j here ne of = refl
second-row-stays t (c ∷ cs) who i j here ne of =
    let e : row_at (handle t c).table j ≡ row_at t j = second-one t who i here c j ne of (touched t c j) in
    second-row-stays (handle t c).table cs who i j (lookup-stays t (c ∷ []) who ∙ here) ne (ap (is_row_of who) e ∙ of) ∙ e

pub line-is-history : LineIsHistory
unfolding run ran_first history
line-is-history t [] who i here = refl
line-is-history t (c ∷ cs) who i here =
    let u : Table = (handle t c).table in
    line-is-history u cs who i (lookup-stays t (c ∷ []) who ∙ here)
    ∙ ap (λ (f : ℕ). history f who (entries_of u i) cs (run u cs).replies (line_of u i)) (form-stays t (c ∷ []))
    ∙ ap (λ (es : List Entry). history t.form who es cs (run u cs).replies (line_of u i)) (entries-one t c i (touched t c i))
    ∙ ap (history t.form who (entries_of t i) cs (run u cs).replies) (one-call t who i here c)

-- THE CUT

cuts : (b : Bool) → ◌≡◌ {A = ℕ} (pick b 1 0) 1 → b ≡ true
unfolding pick
cuts true e = refl
cuts false e = absurd (omega arith)

module _ (t : Table) (c : Call) (i : ℕ) (e : found t c ≡ row i) where
  abbrev label_here : List ℕ
  label_here = label_in (entries_of t i) (label_asked (request_in c).ask)

  names-first : succeeds t c ≡ true → exceeds (request_in c).ask (said t c) ≡ true → Won t c
      → take 1 (on_label label_here (line_of t i)) ≡ tunnel_cut label_here (handle t c).reply ∷ []
  names-first s x (won j o a h) =
      let q : j ≡ i = same_row j i (sym o.at ∙ e) in
      let full : exceeds (request_in c).ask (read_row (row_at t i)) ≡ true = rw (o.before, q) at x in
      rw (success-reply t c s, o.before, q)
      (cut-named t.form c (place_taken (request_in c).ask (read_row (row_at t i))) (request_in c).ask c.wag (read_row (row_at t i)) (rw q at (row-good t c j (rows-there t c a) o)) (rw q at (sym o.none ∙ h)) full)

pub cut-opened-first : CutOpenedFirst
cut-opened-first t before c who i here of cut =
    let u : Table = (run t before).table in
    let both : succeeds u c && exceeds (request_in c).ask (said u c) ≡ true = cuts _ (sym (cut-exactly u c) ∙ cut) in
    let h : succeeds u c ≡ true = and_left (succeeds u c) _ both in
    let e : found u c ≡ row i = own_row u who i (lookup-stays t before who ∙ here) c (ap (λ (f : ℕ). subject f c) (form-stays t before) ∙ of) (won-success u c h) in
    let line : line_of u i ≡ history t.form who (entries_of t i) before (run t before).replies (line_of t i) = line-is-history t before who i here in
    let entries : entries_of u i ≡ entries_of t i = entries-stay t before i in
    rw (← line, ← entries) (names-first u c i e h (and_right (succeeds u c) _ both) (won-success u c h))

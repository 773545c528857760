-- A request: what it makes of its subscriber's line is what it is told, and it makes nothing of the others'.
use mathlib.Core.Path.{◌≡◌, refl, sym, ap, ◌∙◌, subst}
use mathlib.Core.Bool.{Bool, true, false, ◌&&◌, not}
use mathlib.Core.List.{List, [], ◌∷◌, ◌++◌, map, map-append}
use Prim.Native.Nat.{ℕ}
use native.Mathlib.Omega.{arith}
use borrow.Author.Tests.{eqb-true, eq-eqb, ne_eqb, not-true}
use lib.Dec.{eqb}
use lib.ListN.{take}
use Rattle.octets.specs.Choice.{pick}
use Rattle.octets.specs.Lists.{distinct, keep}
use Rattle.octets.specs.Texts.{same}
use Rattle.octets.proofs.Lists.{and_left, and_right, by-test, same-eq, within_low}
use Rattle.message.specs.Codes.{plain}
use Rattle.message.specs.ReadingAMessage.{Ask, tunnel, policy, termination}
use Rattle.table.specs.TheTable.{Access, Account, Subscriber, Table, is_form, lookup, read_row, row, row_at}
use Rattle.table.specs.Soundness.{on_entry, sessions}
use Rattle.table.proofs.Good.{Good}
use Rattle.table.proofs.Rows.{form_in}
use Rattle.changes.specs.Changes.{kept_in}
use Rattle.rules.specs.Deciding.{entry_at, entry_named, with_session}
use Rattle.rules.specs.Calls.{Call, Reply, call_number, handle, ran_first, reply, result_of, run}
use Rattle.order.specs.ChecksInOrder.{deciding_checks, none_fails}
use Rattle.order.specs.Demand2.{Unchanged, afterwards, checks, cut_for, exceeds, found, place_taken, request_in, said, succeeds}
use Rattle.order.specs.Demand3.{Told, is_of, subject, subscriber, told}
use Rattle.order.specs.OpenedFirst.{Tunnel, entries_of, label_asked, label_in, line_of, tunnel_of, tunnels, without}
use Rattle.order.specs.Demand2 as O2
use Rattle.order.specs.OpenedFirst as O
use Rattle.order.proofs.Answered.{OnRow}
use Rattle.order.proofs.Checks.{Won, won, cut-exactly, refused-changes-nothing, success-exactly, success-reply}
use Rattle.order.proofs.Cuts.{entry-there}
use Rattle.order.proofs.Finding.{subject-eq}
use Rattle.order.proofs.History.{First, first, ended-one, fitting, place-told, placed}
use Rattle.order.proofs.Labels.{label_is}
use Rattle.order.proofs.Lists.{lookup-stays}
use Rattle.order.proofs.Opening.{cut-opened-first, line-is-history, own-found, won-success}
use Rattle.order.proofs.Rest.{after-good, row-good, rows-there}
use Rattle.order.proofs.Taken.{keep-twice, kept-first}
use Rattle.history.specs.OrderOfOpening.{compared, line_after, line_at, listed, on_name, on_success, standing, tunnel_cut}
use Rattle.history.specs.EachCounted.{cuts, ends, opens}
use Rattle.history.proofs.Labels.{named-same, on-name, same-compared}
use Rattle.history.proofs.SettingUp.{impossible, same-standing}
use Rattle.history.proofs.Taking.{Among, Leads, first-leads, kept-among, leads, map-among, sids}
use Rattle.history.proofs.Telling.{Bounded, bounded, cut-told}

-- WHAT BECOMES OF A LINE

-- nothing is opened, cut or ended; one is opened; one is opened and one on its name is cut; one is ended
pub data Changed (f : ℕ) (q : Ask) (x : Told) (line : List Tunnel) : Type 0 where
  stays : opens q x ≡ false → cuts q x ≡ false → ends q x ≡ false → line_after f q x line ≡ line → Changed f q x line
  opening : (y : Tunnel) → opens q x ≡ true → cuts q x ≡ false → ends q x ≡ false → y.label ≡ compared (label_asked q)
      → line_after f q x line ≡ line ++ (y ∷ []) → Changed f q x line
  cutting : (z y : Tunnel) → opens q x ≡ true → cuts q x ≡ true → ends q x ≡ false → z.label ≡ compared (label_asked q) → y.label ≡ compared (label_asked q)
      → distinct same (sids line) ≡ true → Among z line → line_after f q x line ≡ without z.session line ++ (y ∷ []) → Changed f q x line
  ending : (z : Tunnel) → opens q x ≡ false → cuts q x ≡ false → ends q x ≡ true → z.label ≡ compared (label_asked q)
      → distinct same (sids line) ≡ true → Among z line → line_after f q x line ≡ without z.session line → Changed f q x line

-- a refusal
refused-line : (f : ℕ) (q : Ask) (x : Told) (line : List Tunnel) → eqb x.result.code 2001 ≡ false → line_after f q x line ≡ line
unfolding line_after pick
refused-line f q x line e = rw e

refused-stays : (f : ℕ) (q : Ask) (x : Told) (line : List Tunnel) → x.result.place ≡ 0 → x.result.cut ≡ 0 → eqb x.result.code 2001 ≡ false → Changed f q x line
unfolding opens cuts ends
refused-stays f (tunnel session host realm label visited) x line p c e = stays (rw p) (rw c) refl (refused-line f _ x line e)
refused-stays f (policy session one two three) x line p c e = stays (rw p) (rw c) refl (refused-line f _ x line e)
refused-stays f (termination session label) x line p c e = stays (rw p) (rw c) e (refused-line f _ x line e)

success-line : (f : ℕ) (q : Ask) (x : Told) (line : List Tunnel) → eqb x.result.code 2001 ≡ true → line_after f q x line ≡ on_success f q x line
unfolding line_after pick
success-line f q x line e = rw e

-- LISTED

without-listed : (session : List ℕ) (line : List Tunnel) → map listed (without session line) ≡ without session (map listed line)
unfolding without listed keep pick
without-listed session [] = refl
without-listed session (x ∷ line) =
    by-test (same x.session session)
    (λ e. rw e (without-listed session line))
    (λ e. rw e (ap (λ (l : List Tunnel). listed x ∷ l) (without-listed session line)))

take-listed : (line : List Tunnel) → take 1 (map listed line) ≡ map listed (take 1 line)
take-listed [] = refl
take-listed (x ∷ line) = refl

sids-listed : (s : Subscriber) (xs : List Access) → sids (map listed (map (tunnel_of s) xs)) ≡ sessions xs
unfolding sessions listed tunnel_of
sids-listed s [] = refl
sids-listed s (x ∷ xs) = ap (λ (l : List (List ℕ)). x.session ∷ l) (sids-listed s xs)

pub once-listed : {fm : ℕ} (s : Subscriber) → Good fm s → distinct same (sids (map listed (tunnels s))) ≡ true
unfolding tunnels
once-listed s g = ap (distinct same) (sids-listed s s.accesses) ∙ g.accesses-good.sids-once

-- A REQUEST THAT SUCCEEDS ON A GOOD ROW

module _ (f : ℕ) (is : is_form f ≡ true) (c : Call) (wag : Bool) (s : Subscriber) (g : Good f s) (r : Reply) (b : Bounded f r) (won2001 : eqb r.result.code 2001 ≡ true) where
  abbrev told_of : Told
  told_of = told f r

  abbrev line : List Tunnel
  line = map listed (tunnels s)

  module _ (session host realm label : List ℕ) (visited : Bool) (h : none_fails (deciding_checks (tunnel session host realm label visited) wag s) ≡ true) where
    abbrev wanted : Ask
    wanted = tunnel session host realm label visited

    abbrev new : Tunnel
    new = record { session = session; host = host; realm = kept_in f realm; label = compared label }

    new-listed : listed (record { session = session; host = host; realm = kept_in f realm; label = label_in s.entries label }) ≡ new
    unfolding listed
    new-listed =
        let q : compared (label_in s.entries label) ≡ compared label = sym (same-compared label (label_in s.entries label) (named-same label s (entry-there session host realm label visited wag s h))) in
        λ i. record { session = session; host = host; realm = kept_in f realm; label = q i }

    left-listed : map listed (pick (eqb r.result.cut 1) (without (O.session_cut r) (tunnels s)) (tunnels s))
        ≡ pick (eqb r.result.cut 1) (without (tunnel_cut label told_of).session line) line
    unfolding pick
    left-listed =
        by-test (eqb r.result.cut 1)
        (λ e. rw e (without-listed (O.session_cut r) (tunnels s) ∙ ap (λ (k : List ℕ). without k line) (named e)))
        (λ e. rw e)
      where
        named : eqb r.result.cut 1 ≡ true → O.session_cut r ≡ (tunnel_cut label told_of).session
        named e = unfold listed O.tunnel_cut in ap (λ (y : Tunnel). y.session) (cut-told f is r b e label label refl)

    listed-tunnel : map listed (O.line_after f s.entries wanted r (tunnels s)) ≡ on_success f wanted told_of line
    unfolding O.line_after on_success told pick
    listed-tunnel =
        by-test (eqb r.result.place 0)
        (λ p. rw p)
        (λ p. rw p
        (map-append listed (pick (eqb r.result.cut 1) (without (O.session_cut r) (tunnels s)) (tunnels s)) _
        ∙ (λ i. left-listed i ++ (new-listed i ∷ []))))

    became-tunnel : (eqb r.result.place 0 ≡ true → r.result.cut ≡ 0) → (r.result.cut ≡ 1 → take 1 (on_name label line) ≡ tunnel_cut label told_of ∷ []) → Changed f wanted told_of line
    unfolding opens cuts ends label_asked line_after on_success told pick
    became-tunnel n t =
        by-test (eqb r.result.place 0)
        (λ p. stays (rw p) (rw (n p)) refl (rw (won2001, p)))
        (λ p. by-test (eqb r.result.cut 1)
        (λ e. cutting (tunnel_cut label told_of) new (rw p) e refl (unfold tunnel_cut in refl) refl (once-listed s g)
        (first-among (t (eqb-true _ 1 e))) (rw (won2001, p, e)))
        (λ e. opening new (rw p) e refl refl (rw (won2001, p, e))))
      where
        led : Leads (tunnel_cut label told_of) (on_name label line) → Among (tunnel_cut label told_of) line
        led (leads others e) = unfold on_name in kept-among _ line (tunnel_cut label told_of) others e

        first-among : take 1 (on_name label line) ≡ tunnel_cut label told_of ∷ [] → Among (tunnel_cut label told_of) line
        first-among e = led (first-leads (tunnel_cut label told_of) (on_name label line) e)

  module _ (session label : List ℕ) (h : none_fails (deciding_checks (termination session label) wag s) ≡ true) where
    abbrev finishing : Ask
    finishing = termination session label

    listed-ended : map listed (O.line_after f s.entries finishing r (tunnels s)) ≡ on_success f finishing told_of line
    unfolding O.line_after on_success
    listed-ended = without-listed session (tunnels s)

    module _ (a : Access) (others : List Access) (e : with_session session (on_entry (entry_named label s) s.accesses) ≡ a ∷ others) where
      -- it has the Session-Id, and is on the entry that is named
      both-tests : keep (λ x. eqb x.entry (entry_named label s) && same x.session session) s.accesses ≡ a ∷ others
      unfolding with_session on_entry
      both-tests = sym (keep-twice _ _ s.accesses) ∙ e

      on-it : eqb a.entry (entry_named label s) && same a.session session ≡ true
      on-it = kept-first _ s.accesses a others both-tests

      own-session : a.session ≡ session
      own-session = same-eq a.session session (and_right (eqb a.entry (entry_named label s)) _ on-it)

      own-entry : a.entry ≡ entry_named label s
      own-entry = eqb-true _ _ (and_left _ (same a.session session) on-it)

      there : eqb (entry_named label s) 0 ≡ false
      there = ne_eqb (entry_named label s) 0 (λ z. omega (arith, z, own-entry, within_low 1 _ _ (fitting s g _ a others both-tests).entry_in))

      own-label : compared (entry_at a.entry s).label ≡ compared label
      own-label =
          ap (λ (n : ℕ). compared (entry_at n s).label) own-entry ∙ ap compared (sym (label_is label s there))
          ∙ sym (same-compared label (label_in s.entries label) (named-same label s there))

      among-them : Among (listed (tunnel_of s a)) line
      unfolding tunnels
      among-them = map-among listed _ _ (map-among (tunnel_of s) a s.accesses (kept-among _ s.accesses a others both-tests))

      ended_by : r.result.place ≡ 0 → r.result.cut ≡ 0 → Changed f finishing told_of line
      unfolding opens cuts ends label_asked line_after on_success told listed tunnel_of pick
      ended_by p k =
          ending (listed (tunnel_of s a)) (rw p) (rw k) won2001 own-label (once-listed s g) among-them
          (rw won2001 (ap (λ (x : List ℕ). without x line) (sym own-session)))

    by_first : r.result.place ≡ 0 → r.result.cut ≡ 0 → First (with_session session (on_entry (entry_named label s) s.accesses)) → Changed f finishing told_of line
    by_first p k (first a others e) = ended_by a others e p k

    became-ended : r.result.place ≡ 0 → r.result.cut ≡ 0 → Changed f finishing told_of line
    became-ended p k = by_first p k (ended-one f c 0 s g session label wag h)

  module _ (session one two three : List ℕ) where
    became-routed : r.result.place ≡ 0 → r.result.cut ≡ 0 → Changed f (policy session one two three) told_of line
    unfolding opens cuts ends line_after on_success told pick
    became-routed p k = stays (rw p) (rw k) refl (rw won2001)

-- BY WHAT IS REPLIED

-- where nothing is opened nothing is cut
none-cut : (q : Ask) (s : Subscriber) → O2.opens q s ≡ false → cut_for q s ≡ []
unfolding cut_for exceeds pick
none-cut (tunnel session host realm label visited) s e = rw e
none-cut (policy session one two three) s e = refl
none-cut (termination session label) s e = refl

module _ (f : ℕ) (c : Call) where
  unplaced : (q : Ask) (s : Subscriber) (r : Reply) → r ≡ reply f c (plain 2001) (place_taken q s) (cut_for q s) → Good f (afterwards f q s) → eqb r.result.place 0 ≡ true → r.result.cut ≡ 0
  unfolding reply result_of
  unplaced q s r e g p =
      let at : r.result.place ≡ place_taken q s = ap (λ (x : Reply). x.result.place) e ∙ place-told f c (plain 2001) (place_taken q s) (cut_for q s) in
      let unopened : not (O2.opens q s) ≡ true = sym (placed f q s g) ∙ ap (λ (k : ℕ). eqb k 0) (sym at) ∙ p in
      ap (λ (x : Reply). x.result.cut) (e ∙ ap (reply f c (plain 2001) (place_taken q s)) (none-cut q s (not-true (O2.opens q s) unopened)))

  routed-none : (session one two three : List ℕ) (s : Subscriber) (r : Reply) → r ≡ reply f c (plain 2001) (place_taken (policy session one two three) s) (cut_for (policy session one two three) s)
      → (r.result.place ≡ 0) × (r.result.cut ≡ 0)
  unfolding place_taken cut_for exceeds O2.opens reply result_of pick
  routed-none session one two three s r e = (ap (λ (x : Reply). x.result.place) e, ap (λ (x : Reply). x.result.cut) e)

  ended-none : (session label : List ℕ) (s : Subscriber) (r : Reply) → r ≡ reply f c (plain 2001) (place_taken (termination session label) s) (cut_for (termination session label) s)
      → (r.result.place ≡ 0) × (r.result.cut ≡ 0)
  unfolding place_taken cut_for exceeds O2.opens reply result_of pick
  ended-none session label s r e = (ap (λ (x : Reply). x.result.place) e, ap (λ (x : Reply). x.result.cut) e)

module _ (f : ℕ) (is : is_form f ≡ true) (c : Call) (wag : Bool) (s : Subscriber) (g : Good f s) (r : Reply) (b : Bounded f r) (won2001 : eqb r.result.code 2001 ≡ true) where
  abbrev Replied : Ask → Type 0
  Replied q = r ≡ reply f c (plain 2001) (place_taken q s) (cut_for q s)

  line-won : (q : Ask) → none_fails (deciding_checks q wag s) ≡ true → map listed (O.line_after f s.entries q r (tunnels s)) ≡ on_success f q (told f r) (map listed (tunnels s))
  unfolding O.line_after on_success
  line-won (tunnel session host realm label visited) h = listed-tunnel f is c wag s g r b won2001 session host realm label visited h
  line-won (policy session one two three) h = refl
  line-won (termination session label) h = listed-ended f is c wag s g r b won2001 session label h

  line-became : (q : Ask) → none_fails (deciding_checks q wag s) ≡ true → map listed (O.line_after f s.entries q r (tunnels s)) ≡ line_after f q (told f r) (map listed (tunnels s))
  unfolding told
  line-became q h = line-won q h ∙ sym (success-line f q (told f r) (map listed (tunnels s)) won2001)

  became : (q : Ask) → none_fails (deciding_checks q wag s) ≡ true → Replied q → Good f (afterwards f q s)
      → (r.result.cut ≡ 1 → take 1 (on_name (label_asked q) (map listed (tunnels s))) ≡ tunnel_cut (label_asked q) (told f r) ∷ [])
      → Changed f q (told f r) (map listed (tunnels s))
  became (tunnel session host realm label visited) h e after t =
      became-tunnel f is c wag s g r b won2001 session host realm label visited h (unplaced f c (tunnel session host realm label visited) s r e after) (unfold label_asked in t)
  became (policy session one two three) h e after t =
      let z = routed-none f c session one two three s r e in
      became-routed f is c wag s g r b won2001 session one two three z.0 z.1
  became (termination session label) h e after t =
      let z = ended-none f c session label s r e in
      became-ended f is c wag s g r b won2001 session label h z.0 z.1

-- a request that cuts names an entry
one-if : (b : Bool) → ◌≡◌ {A = ℕ} (pick b 1 0) 1 → b ≡ true
unfolding pick
one-if true e = refl
one-if false e = absurd (omega arith)

pub asked-there : (q : Ask) (wag : Bool) (s : Subscriber) → none_fails (deciding_checks q wag s) ≡ true → exceeds q s ≡ true → eqb (entry_named (label_asked q) s) 0 ≡ false
unfolding exceeds label_asked
asked-there (tunnel session host realm label visited) wag s h e = entry-there session host realm label visited wag s h
asked-there (policy session one two three) wag s h e = impossible (sym e)
asked-there (termination session label) wag s h e = impossible (sym e)

pub succeeded : (t : Table) (c : Call) → (handle t c).reply.result.cut ≡ 1 → succeeds t c ≡ true
succeeded t c k = and_left (succeeds t c) _ (one-if _ (sym (cut-exactly t c) ∙ k))

-- ONE THAT WON, on the row of the account

abbrev pub asks : Call → Ask
asks c = (request_in c).ask

module _ (t : Table) (c : Call) (s : succeeds t c ≡ true) (j : ℕ) (o : OnRow t c j) (n : call_number t c ≡ 0) (h : none_fails (checks t c) ≡ true) where
  abbrev pub says : Subscriber
  says = read_row (row_at t j)

  abbrev pub replied : Reply
  replied = (handle t c).reply

  pub good : Good t.form says
  good = row-good t c j (rows-there t c n) o

  is-form : is_form t.form ≡ true
  is-form = form_in t (rows-there t c n)

  pub passes : none_fails (deciding_checks (asks c) c.wag says) ≡ true
  passes = sym o.none ∙ h

  reply-is : replied ≡ reply t.form c (plain 2001) (place_taken (asks c) says) (cut_for (asks c) says)
  reply-is =
      success-reply t c s ∙ ap (λ (r : List ℕ). reply t.form c (plain 2001) (place_taken (asks c) (read_row r)) (cut_for (asks c) (read_row r))) o.before

  bounds : Bounded t.form replied
  bounds = subst (Bounded t.form) (sym reply-is) (bounded t.form c (plain 2001) (place_taken (asks c) says) (asks c) says good)

  code_is : eqb replied.result.code 2001 ≡ true
  code_is = success-exactly t c ∙ s

  pub full-there : replied.result.cut ≡ 1 → exceeds (asks c) says ≡ true
  full-there k =
      let both : succeeds t c && exceeds (asks c) (said t c) ≡ true = one-if _ (sym (cut-exactly t c) ∙ k) in
      rw o.before at (and_right (succeeds t c) _ both)

  module _ (a : Account) (here : lookup t a ≡ row j) (of : subject t.form c ≡ subscriber a) where
    abbrev label : List ℕ
    label = label_asked (asks c)

    abbrev entered : List ℕ
    entered = label_in (entries_of t j) label

    cut-first : replied.result.cut ≡ 1 → take 1 (on_name label (map listed (line_of t j))) ≡ tunnel_cut label (told t.form replied) ∷ []
    unfolding run O.history
    cut-first k =
        let there : eqb (entry_named label says) 0 ≡ false = asked-there (asks c) c.wag says passes (full-there k) in
        let e : take 1 (O.on_label entered (line_of t j)) ≡ O.tunnel_cut entered replied ∷ [] = cut-opened-first t [] c a j here of k in
        ap (take 1) (on-name says good label there) ∙ take-listed (O.on_label entered (tunnels says)) ∙ ap (map listed) e
        ∙ ap (λ (y : Tunnel). y ∷ []) (cut-told t.form is-form replied bounds (eq-eqb _ 1 k) label entered (sym (same-compared label entered (named-same label says there))))

    won-changed : Changed t.form (asks c) (told t.form replied) (map listed (line_of t j))
    won-changed = became t.form is-form c c.wag says good replied bounds code_is (asks c) passes reply-is (after-good t c j o (rows-there t c n) h) cut-first

    won-line : map listed (O.line_after t.form (entries_of t j) (asks c) replied (line_of t j)) ≡ line_after t.form (asks c) (told t.form replied) (map listed (line_of t j))
    won-line = line-became t.form is-form c c.wag says good replied bounds code_is (asks c) passes

-- ANY REQUEST

pub stands_at : (t : Table) (a : Account) (j : ℕ) → lookup t a ≡ row j → standing t a ≡ map listed (line_of t j)
unfolding line_at
stands_at t a j e = ap (line_at t) e

module _ (t : Table) (c : Call) (a : Account) where
  abbrev then : Table
  then = (handle t c).table

  abbrev pub seen : Told
  seen = told t.form (handle t c).reply

  abbrev pub own : Bool
  own = is_of t.form (subscriber a) c

  one_line : (j : ℕ) → lookup t a ≡ row j
      → line_of then j ≡ pick (own && eqb (handle t c).reply.result.code 2001) (O.line_after t.form (entries_of t j) (asks c) (handle t c).reply (line_of t j)) (line_of t j)
  unfolding run ran_first O.history
  one_line j l = line-is-history t (c ∷ []) a j l

  finds-same : lookup then a ≡ lookup t a
  unfolding run ran_first
  finds-same = lookup-stays t (c ∷ []) a

  pub record Asked : Type 0 where
    pub line-is : standing then a ≡ pick own (line_after t.form (asks c) seen (standing t a)) (standing t a)
    pub first-cut : own ≡ true → seen.result.cut ≡ 1 → take 1 (on_name (label_asked (asks c)) (standing t a)) ≡ tunnel_cut (label_asked (asks c)) seen ∷ []
    pub changed-so : own ≡ true → Changed t.form (asks c) seen (standing t a)

  -- another's
  others : own ≡ false → Asked
  unfolding pick
  others n =
      record {
        line-is = same-standing t then a finds-same (λ j l. let same_line : line_of then j ≡ line_of t j = one_line j l ∙ rw n in ap (map listed) same_line) ∙ sym (rw n);
        first-cut = λ o. impossible (sym o ∙ n);
        changed-so = λ o. impossible (sym o ∙ n);
      }

  -- its own that is refused
  refused-own : own ≡ true → succeeds t c ≡ false → Asked
  unfolding told pick
  refused-own mine f =
      let code : eqb (handle t c).reply.result.code 2001 ≡ false = success-exactly t c ∙ f in
      let u : Unchanged t c (handle t c) = refused-changes-nothing t c code in
      record {
        line-is = ap (λ (v : Table). standing v a) u.table ∙ sym (rw mine (refused-line t.form (asks c) seen (standing t a) code));
        first-cut = λ o k. let z : ◌≡◌ {A = ℕ} 0 1 = sym u.cut ∙ k in absurd (omega arith);
        changed-so = λ o. refused-stays t.form (asks c) seen (standing t a) u.place u.cut code;
      }

  -- its own that succeeds
  pub own-subject : own ≡ true → subject t.form c ≡ subscriber a
  unfolding is_of
  own-subject mine = subject-eq (subject t.form c) (subscriber a) mine

  won-own : own ≡ true → succeeds t c ≡ true → Won t c → Asked
  unfolding told pick
  won-own mine s (won j o n h) =
      let of : subject t.form c ≡ subscriber a = own-subject mine in
      let here : lookup t a ≡ row j = sym (own-found t a c of (won j o n h)) ∙ o.at in
      let code : eqb (handle t c).reply.result.code 2001 ≡ true = success-exactly t c ∙ s in
      let stood : standing t a ≡ map listed (line_of t j) = stands_at t a j here in
      let step : line_of then j ≡ O.line_after t.form (entries_of t j) (asks c) (handle t c).reply (line_of t j) = one_line j here ∙ rw (mine, code) in
      record {
        line-is =
            stands_at then a j (finds-same ∙ here) ∙ ap (map listed) step ∙ won-line t c s j o n h a here of
            ∙ ap (line_after t.form (asks c) seen) (sym stood) ∙ sym (rw mine);
        first-cut = λ y k. ap (λ (l : List Tunnel). take 1 (on_name (label_asked (asks c)) l)) stood ∙ cut-first t c s j o n h a here of k;
        changed-so = λ y. subst (Changed t.form (asks c) seen) (sym stood) (won-changed t c s j o n h a here of);
      }

  pub asked : Asked
  asked =
      by-test own
      (λ mine. by-test (succeeds t c) (λ s. won-own mine s (won-success t c s)) (λ s. refused-own mine s))
      (λ n. others n)

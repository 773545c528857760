-- Both statements: where it stands, by the tests of a type 0 in their order; and only there, since every other success opens a tunnel, which the row
-- then has and had not before.
use mathlib.Core.Path.{◌≡◌, refl, sym, ap, ◌∙◌}
use mathlib.Core.Bool.{Bool, true, false, ◌&&◌, ◌||◌, not}
use mathlib.Core.List.{List, [], ◌∷◌, ◌++◌}
use Prim.Native.Nat.{ℕ, ◌/◌, ◌<◌, suc}
use native.Mathlib.Omega.{arith}
use borrow.Author.Tests.{eq-eqb, ne_eqb, not-true}
use lib.Dec.{eqb}
use lib.ListN.{length}
use Rattle.octets.specs.Choice.{pick}
use Rattle.octets.specs.Lists.{keep}
use Rattle.octets.specs.Texts.{same}
use Rattle.octets.proofs.Lists.{and_left, and_right, both, by-test, same_refl}
use Rattle.message.specs.Codes.{number_of, plain}
use Rattle.message.specs.ReadingAMessage.{Request, read, request as request-of, tunnel}
use Rattle.message.proofs.Lengths.{passing}
use Rattle.table.specs.TheTable.{Access as Tunnel, Found, Subscriber, Table, barred, is_row_of, lookup, may_roam, nothing, read_row, row, row_at, row_bytes, table_number, width, with_row}
use Rattle.table.specs.Soundness.{sound}
use Rattle.table.proofs.Rows.{row_same, row_at-form, whole-rows}
use Rattle.table.proofs.Sound.{row_is}
use Rattle.changes.specs.Changes.{Opening, new_access, opened}
use Rattle.rules.specs.Deciding.{decide, entry_at, entry_named, grant, held_already, none, stands_on, type0, with_session}
use Rattle.rules.specs.Calls.{Call, account, call_number, handle, most_policies, on_reading, on_row, reply, settled, table_after}
use Rattle.order.specs.ChecksInOrder.{deciding_checks, none_fails}
use Rattle.order.specs.Demand2.{afterwards, found, opens, request_in, spared, succeeds}
use Rattle.order.proofs.Answered.{went}
use Rattle.order.proofs.Checks.{Won, success-exactly, won, won-went}
use Rattle.order.proofs.Decided.{four-pass, not-standing, storing}
use Rattle.order.proofs.Rest.{in_table, rows-there, success-replaces-row}
use Rattle.gateway.specs.TheGateway.{Access}
use Rattle.gatewaylaws.proofs.TheServerReads.{server-reads}
use Rattle.renewal.specs.TheAccessGoesOn.{GoesOnThere, OnlyThere, Renews, gone_on, maintained_in, maintains, still_stands}

not-nothing : (i : ℕ) → nothing ≡ row i → ⊥
not-nothing i e = let y : ◌≡◌ {A = ℕ} 0 1 = cc in omega arith

false-true : {P : Type 0} → false ≡ true → P
false-true e = let y : ◌≡◌ {A = ℕ} 0 1 = cc in absurd (omega arith)

-- a visited network that is not there, or may be named
roams : (v m : Bool) → v || m ≡ true → not v && not m ≡ false
roams true m h = refl
roams false true h = refl
roams false false h = sym h ∙ refl

roamed : (v m : Bool) → not (not v && not m) ≡ true → v || m ≡ true
roamed true m h = refl
roamed false true h = refl
roamed false false h = h

-- one of two holds, and it is not the second
first-of : (a b : Bool) → a || b ≡ true → b ≡ false → a ≡ true
first-of true b h e = refl
first-of false b h e = false-true (sym e ∙ h)

-- a list to which an access with the Session-Id was added has one
some-last : (session : List ℕ) (x : Tunnel) (xs : List Tunnel) → x.session ≡ session → none (with_session session (xs ++ (x ∷ []))) ≡ false
unfolding none with_session keep pick
some-last session x [] e = rw (e, same_refl session)
some-last session x (y ∷ xs) e =
    by-test (same y.session session)
    (λ t. rw t (ne_eqb (suc (length (keep (λ (z : Tunnel). same z.session session) (xs ++ (x ∷ []))))) 0 (λ z. omega (arith, z))))
    (λ t. rw t (some-last session x xs e))

module _ (t : Table) (c : Call) (a : Access) (r : Renews t c a) where
  abbrev visiting : Bool
  visiting = not (eqb (length a.visited) 0)

  abbrev asked : Request
  asked = record { user = a.user; ask = tunnel a.session r.host r.realm a.label visiting }

  was_read : read (most_policies t.form) c.message ≡ request-of asked
  was_read = ap (read (most_policies t.form)) r.message ∙ server-reads (most_policies t.form) r.host r.realm r.from a r.hop r.end r.fits

  abbrev mine : Found
  mine = lookup t (record { operator = c.operator; name = a.user })

  on_row_lem : handle t c ≡ on_row t c asked mine
  unfolding handle on_reading account pick
  on_row_lem = rw (eq-eqb (call_number t c) 0 r.answered, was_read)

  asked_is : request_in c ≡ asked
  unfolding request_in
  asked_is = sym (passing (most_policies t.form) c.message asked was_read).asked

  found-is : found t c ≡ mine
  unfolding found account
  found-is = ap (λ (q : Request). lookup t (record { operator = c.operator; name = q.user })) asked_is

  good : table_number t ≡ 0
  good = rows-there t c r.answered

  -- WHERE IT STANDS

  module _ (i : ℕ) (e : mine ≡ row i) where
    abbrev s : Subscriber
    s = read_row (row_at t i)

    abbrev n : ℕ
    n = entry_named a.label s

    there : i < length t.bytes / width t
    unfolding lookup
    there = in_table (is_row_of (record { operator = c.operator; name = a.user })) t i e

    stays : sound (row_at t i) ≡ true → table_after t i (grant s) ≡ t
    unfolding table_after grant number_of pick
    stays u =
        let reads : row_bytes t.form s ≡ row_at t i = ap (λ (f : ℕ). row_bytes f s) (sym (row_at-form t i good there)) ∙ sym (row_is (row_at t i) u) in
        ap (with_row t i) reads ∙ row_same (length t.bytes / width t) t (whole-rows t good) i there

    granted : (o : Opening) → o.session ≡ a.session → maintains a s ≡ true → type0 o a.label visiting s ≡ grant s
    unfolding maintains type0 held_already pick
    granted o same-one m =
        let entered : eqb n 0 ≡ false = not-true (eqb n 0) (and_left (not (eqb n 0)) _ m) in
        let m1 : stands_on n a.session s && (not (barred (entry_at n s)) && (eqb (length a.visited) 0 || may_roam (entry_at n s))) ≡ true = and_right (not (eqb n 0)) _ m in
        let stands : stands_on n a.session s ≡ true = and_left (stands_on n a.session s) _ m1 in
        let m2 : not (barred (entry_at n s)) && (eqb (length a.visited) 0 || may_roam (entry_at n s)) ≡ true = and_right (stands_on n a.session s) _ m1 in
        let free : barred (entry_at n s) ≡ false = not-true (barred (entry_at n s)) (and_left (not (barred (entry_at n s))) _ m2) in
        let home : not (eqb (length a.visited) 0) && not (may_roam (entry_at n s)) ≡ false = roams (eqb (length a.visited) 0) (may_roam (entry_at n s)) (and_right (not (barred (entry_at n s))) _ m2) in
        let held : none (with_session a.session s.accesses) ≡ false =
        by-test (none (with_session a.session s.accesses)) (λ z. false-true (sym (not-standing a.session n s z) ∙ stands)) (λ z. z) in
        rw (same-one, entered, free, home, held, stands)

    settled-there : sound (row_at t i) ≡ true → settled t c i (grant s) ≡ gone_on t c
    unfolding settled gone_on grant
    settled-there u = λ j. record { reply = reply t.form c (plain 2001) 0 []; table = stays u j }

    goes_on : sound (row_at t i) ≡ true → maintains a s ≡ true → handle t c ≡ gone_on t c
    unfolding on_row decide pick
    goes_on u m =
        on_row_lem ∙ rw (e, u, granted (storing t.form a.session r.host r.realm) refl m) (settled-there u)

  by-found : (F : Found) → mine ≡ F → maintained_in t a F ≡ true → handle t c ≡ gone_on t c
  unfolding maintained_in
  by-found nothing e m = false-true m
  by-found (row i) e m = goes_on i e (and_left (sound (row_at t i)) _ m) (and_right (sound (row_at t i)) _ m)

  -- AND ONLY THERE

  module _ (done : succeeds t c ≡ true) (same-table : (handle t c).table ≡ t) (i : ℕ) (at : found t c ≡ row i)
      (passes : none_fails (deciding_checks (request_in c).ask c.wag (read_row (row_at t i))) ≡ true) where
    abbrev said : Subscriber
    said = read_row (row_at t i)

    abbrev entry : ℕ
    entry = entry_named a.label said

    four : (not (eqb entry 0) ≡ true) × (not (barred (entry_at entry said)) ≡ true) × (not (visiting && not (may_roam (entry_at entry said))) ≡ true)
        × (none (with_session a.session said.accesses) || stands_on entry a.session said ≡ true)
    unfolding deciding_checks
    four = four-pass _ _ _ _ _ _ _ _ _ _ _ _ (rw asked_is at passes)

    -- one that is opened was not in the row, and then it would be
    module _ (new : stands_on entry a.session said ≡ false) where
      before : none (with_session a.session said.accesses) ≡ true
      before = first-of _ _ four.3 new

      stays-so : said ≡ opened entry (storing t.form a.session r.host r.realm) (spared asked.ask said)
      unfolding afterwards opens pick
      stays-so =
          let says : read_row (row_at (handle t c).table i) ≡ afterwards t.form (request_in c).ask said = (success-replaces-row t c i done at).says in
          let here : said ≡ afterwards t.form asked.ask said = rw (same-table, asked_is) at says in
          here ∙ rw new

      after : none (with_session a.session said.accesses) ≡ false
      unfolding opened new_access
      after = ap (λ (u : Subscriber). none (with_session a.session u.accesses)) stays-so ∙ some-last a.session _ (spared asked.ask said).accesses refl

    standing : stands_on entry a.session said ≡ true
    standing = by-test (stands_on entry a.session said) (λ k. k) (λ k. false-true (sym (after k) ∙ before k))

    maintained : maintains a said ≡ true
    unfolding maintains
    maintained = both four.0 (both standing (both four.1 (roamed (eqb (length a.visited) 0) (may_roam (entry_at entry said)) four.2)))

  only-won : succeeds t c ≡ true → (handle t c).table ≡ t → Won t c → still_stands t c.operator a ≡ true
  unfolding still_stands maintained_in
  only-won done same-table (won i o z h) =
      let there : mine ≡ row i = sym found-is ∙ o.at in
      rw there (both o.was-sound (maintained done same-table i o.at (sym o.none ∙ h)))

pub goes-on-there : GoesOnThere
unfolding still_stands
goes-on-there t c a r h = by-found t c a r (mine t c a r) refl h

pub only-there : OnlyThere
only-there t c a r code same-table =
    let done : succeeds t c ≡ true = sym (success-exactly t c) ∙ eq-eqb _ 2001 code in
    only-won t c a r done same-table (won-went t c done (went t c))

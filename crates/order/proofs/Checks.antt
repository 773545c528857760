-- Demand 2: code, success, cut, and what stays; case by case of how a call goes.
use mathlib.Core.Path.{◌≡◌, refl, sym, ap, ◌∙◌}
use mathlib.Core.Bool.{true, false}
use mathlib.Core.List.{List, [], ◌∷◌}
use Prim.Native.Nat.{ℕ}
use native.Mathlib.Omega.{arith}
use borrow.Author.Tests.{eqb-true, eqb-false, not-true}
use lib.Dec.{eqb}
use lib.ListN.{length}
use Rattle.octets.specs.Choice.{pick}
use Rattle.octets.proofs.Lists.{by-test, and_left, and_right}
use Rattle.message.specs.Codes.{Code, plain, number_of, kind_of}
use Rattle.message.specs.ReadingAMessage.{Ask}
use Rattle.table.specs.TheTable.{Access, Subscriber, Table, is_found, row_at, with_row, read_row, row_bytes}
use Rattle.table.proofs.Sound.{says-good}
use Rattle.rules.specs.Deciding.{Verdict, refuse}
use Rattle.rules.specs.Calls.{Call, Left, call_number, silent, reply, refusal, table_after, settled, result_of, notice_room, handle}
use Rattle.order.specs.ChecksInOrder.{Check, first_failing, none_fails}
use Rattle.order.specs.Demand2.{request_in, found, said, checks, succeeds, exceeds, on_asked, cut_for, place_taken, afterwards, CodeOf, Unchanged}
use Rattle.order.specs.Demand2.{FirstFailingCheck, SuccessExactly, RefusedChangesNothing, UnansweredLeaves, RefusedLeaves, CutExactly, OneToCut, SuccessReply, SuccessFindsRow}
use Rattle.order.proofs.Read.{other, call-other}
use Rattle.order.proofs.Decided.{Decided, refuses, grants, granting, cut_by, decided}
use Rattle.order.proofs.Cuts.{FirstCut, cut-first, cut-none}
use Rattle.order.proofs.Answered.{Went, OnRow, unanswered, stopped, reached, went, no_answer, verdict, decisive}

false-true : {P : Type 0} → false ≡ true → P
false-true e = let y : ◌≡◌ {A = ℕ} 0 1 = cc in absurd (omega arith)

-- A RESULT'S FIELDS

module _ (n place : ℕ) (code : Code) where
  result-code : (cut : List Access) → (result_of n place code cut).code ≡ number_of code
  unfolding result_of
  result-code [] = refl
  result-code (a ∷ as') = refl

  result-kind : (cut : List Access) → (result_of n place code cut).kind ≡ kind_of code
  unfolding result_of
  result-kind [] = refl
  result-kind (a ∷ as') = refl

  one-cut : (cut : List Access) → length cut ≡ 1 → (result_of n place code cut).cut ≡ 1
  unfolding result_of
  one-cut [] h = absurd (omega arith)
  one-cut (a ∷ as') h = refl

  no_cut : (cut : List Access) → cut ≡ [] → (result_of n place code cut).cut ≡ 0
  unfolding result_of
  no_cut cut h = rw h

module _ (t : Table) (c : Call) (i : ℕ) (v : Verdict) where
  settled-code : (settled t c i v).reply.result.code ≡ number_of v.code
  unfolding settled reply
  settled-code = result-code _ _ _ v.cut

  settled-kind : (settled t c i v).reply.result.kind ≡ kind_of v.code
  unfolding settled reply
  settled-kind = result-kind _ _ _ v.cut

  settled-one : length v.cut ≡ 1 → (settled t c i v).reply.result.cut ≡ 1
  unfolding settled reply
  settled-one h = one-cut _ _ _ v.cut h

  settled-none : v.cut ≡ [] → (settled t c i v).reply.result.cut ≡ 0
  unfolding settled reply
  settled-none h = no_cut _ _ _ v.cut h

  -- a refusal on the row
  settled-refused : eqb (number_of v.code) 2001 ≡ false → v.cut ≡ [] → v.place ≡ 0 → Unchanged t c (settled t c i v)
  unfolding table_after settled reply result_of notice_room pick
  settled-refused e cut place =
      record {
        table = rw e;
        notice = rw cut;
        place = rw cut place;
        cut = rw cut;
        cut-session = rw cut;
        cut-host = rw cut;
        cut-realm = rw cut;
      }

-- WHAT IS DECIDED

module _ (cs : List Check) (won : Verdict) (s : Subscriber) (v : Verdict) where
  decided-first : Decided cs won s v → first_failing cs ≡ v.code
  decided-first (refuses f n o e) = f
  decided-first (grants f n k) = f

  decided-none : won.code ≡ plain 2001 → Decided cs won s v → eqb (number_of v.code) 2001 ≡ none_fails cs
  unfolding number_of
  decided-none w (refuses f n o e) = o ∙ sym n
  decided-none w (grants f n k) = ap (λ (x : Code). eqb (number_of x) 2001) (ap (λ (x : Verdict). x.code) k ∙ w) ∙ sym n

  refused-cut : Decided cs won s v → none_fails cs ≡ false → (v.cut ≡ []) × (v.place ≡ 0)
  unfolding refuse
  refused-cut (refuses f n o e) h = (ap (λ (x : Verdict). x.cut) e, ap (λ (x : Verdict). x.place) e)
  refused-cut (grants f n k) h = false-true (sym h ∙ n)

  granted-is : Decided cs won s v → none_fails cs ≡ true → v ≡ won
  granted-is (refuses f n o e) h = false-true (sym n ∙ h)
  granted-is (grants f n k) h = k

-- THE CODE

module _ (t : Table) (c : Call) where
  abbrev how : (i : ℕ) → Decided (decisive t c i) (granting t.form (request_in c).ask (read_row (row_at t i))) (read_row (row_at t i)) (verdict t c i)
  how i = decided t.form (request_in c).ask c.wag (read_row (row_at t i))

  grants-2001 : (i : ℕ) → (granting t.form (request_in c).ask (read_row (row_at t i))).code ≡ plain 2001
  unfolding granting
  grants-2001 i = refl

  code-went : call_number t c ≡ 0 → Went t c → CodeOf (first_failing (checks t c)) (handle t c)
  unfolding refusal reply result_of
  code-went h (unanswered a l) = absurd (eqb-false (call_number t c) 0 a h)
  code-went h (stopped code a s l) = rw (l, s.first) (record { number = refl; kind = refl })
  code-went h (reached i a o) =
      let f : first_failing (checks t c) ≡ (verdict t c i).code = o.first ∙ decided-first _ _ _ _ (how i) in
      rw (o.leaves, f) (record { number = settled-code t c i (verdict t c i); kind = settled-kind t c i (verdict t c i) })

  success-went : Went t c → eqb (handle t c).reply.result.code 2001 ≡ succeeds t c
  unfolding succeeds silent refusal reply result_of other
  success-went (unanswered a l) = rw (l, a) (not-true (eqb (call_number t c) 2001) (call-other t c))
  success-went (stopped code a s l) = rw (l, a, s.none) s.other-code
  success-went (reached i a o) =
      rw (o.leaves, a, o.none) (ap (λ (n : ℕ). eqb n 2001) (settled-code t c i (verdict t c i)) ∙ decided-none _ _ _ _ (grants-2001 i) (how i))

pub first-failing-check : FirstFailingCheck
first-failing-check t c h = code-went t c h (went t c)

pub success-exactly : SuccessExactly
success-exactly t c = success-went t c (went t c)

-- A REFUSAL

module _ (t : Table) (c : Call) where
  refused-went : succeeds t c ≡ false → Went t c → Unchanged t c (handle t c)
  unfolding succeeds silent refusal reply result_of notice_room
  refused-went h (unanswered a l) =
      rw l (record { table = refl; notice = refl; place = refl; cut = refl; cut-session = refl; cut-host = refl; cut-realm = refl })
  refused-went h (stopped code a s l) =
      rw l (record { table = refl; notice = refl; place = refl; cut = refl; cut-session = refl; cut-host = refl; cut-realm = refl })
  refused-went h (reached i a o) =
      let n : none_fails (decisive t c i) ≡ false = sym o.none ∙ (rw a at h) in
      let r : ((verdict t c i).cut ≡ []) × ((verdict t c i).place ≡ 0) = refused-cut _ _ _ _ (how t c i) n in
      rw o.leaves (settled-refused t c i (verdict t c i) (decided-none _ _ _ _ (grants-2001 t c i) (how t c i) ∙ n) r.0 r.1)

  settled-refusal : (i : ℕ) → none_fails (decisive t c i) ≡ false → settled t c i (verdict t c i) ≡ refusal t c (verdict t c i).code
  unfolding table_after settled refusal pick
  settled-refusal i n =
      let r : ((verdict t c i).cut ≡ []) × ((verdict t c i).place ≡ 0) = refused-cut _ _ _ _ (how t c i) n in
      rw (decided-none _ _ _ _ (grants-2001 t c i) (how t c i) ∙ n, r.0, r.1)

  leaves-went : call_number t c ≡ 0 → succeeds t c ≡ false → Went t c → handle t c ≡ refusal t c (first_failing (checks t c))
  unfolding succeeds
  leaves-went z h (unanswered a l) = absurd (eqb-false (call_number t c) 0 a z)
  leaves-went z h (stopped code a s l) = l ∙ ap (refusal t c) (sym s.first)
  leaves-went z h (reached i a o) =
      let n : none_fails (decisive t c i) ≡ false = sym o.none ∙ (rw a at h) in
      o.leaves ∙ settled-refusal i n ∙ ap (refusal t c) (sym (o.first ∙ decided-first _ _ _ _ (how t c i)))

pub unanswered-leaves : UnansweredLeaves
unanswered-leaves t c h = no_answer t c h

pub refused-leaves : RefusedLeaves
refused-leaves t c z h = leaves-went t c z h (went t c)

pub refused-changes-nothing : RefusedChangesNothing
refused-changes-nothing t c h = refused-went t c (sym (success-exactly t c) ∙ h) (went t c)

-- THE CUT

module _ (t : Table) (c : Call) where
  abbrev pub asked : Ask
  asked = (request_in c).ask

  module _ (i : ℕ) (o : OnRow t c i) (h : none_fails (checks t c) ≡ true) where
    pub granted : verdict t c i ≡ granting t.form asked (read_row (row_at t i))
    granted = granted-is _ _ _ _ (how t c i) (sym o.none ∙ h)

    cut-is : (verdict t c i).cut ≡ cut_by asked (read_row (row_at t i))
    unfolding granting
    cut-is = ap (λ (v : Verdict). v.cut) granted

    first_one : exceeds asked (read_row (row_at t i)) ≡ true → FirstCut (cut_by asked (read_row (row_at t i))) (on_asked asked (read_row (row_at t i)))
    first_one e = cut-first asked c.wag (read_row (row_at t i)) (says-good (row_at t i) o.was-sound) (sym o.none ∙ h) e

    cut-count : (handle t c).reply.result.cut ≡ pick (exceeds asked (read_row (row_at t i))) 1 0
    unfolding pick
    cut-count =
        by-test (exceeds asked (read_row (row_at t i)))
        (λ e. let f : FirstCut (cut_by asked (read_row (row_at t i))) (on_asked asked (read_row (row_at t i))) = first_one e in
        rw (o.leaves, e) (settled-one t c i (verdict t c i) (ap length (cut-is ∙ f.first) ∙ f.some)))
        (λ e. rw (o.leaves, e) (settled-none t c i (verdict t c i) (cut-is ∙ cut-none asked (read_row (row_at t i)) e)))

    pub written : (settled t c i (verdict t c i)).table ≡ with_row t i (row_bytes t.form (afterwards t.form asked (read_row (row_at t i))))
    unfolding table_after settled granting number_of pick
    written = rw granted

    cut-for : cut_by asked (read_row (row_at t i)) ≡ cut_for asked (read_row (row_at t i))
    unfolding cut_for pick
    cut-for = by-test (exceeds asked (read_row (row_at t i))) (λ e. rw e (first_one e).first) (λ e. rw e (cut-none asked (read_row (row_at t i)) e))

    one-for : exceeds asked (read_row (row_at t i)) ≡ true → length (cut_for asked (read_row (row_at t i))) ≡ 1
    unfolding cut_for pick
    one-for e = rw e (first_one e).some

    reply-is : (handle t c).reply ≡ reply t.form c (plain 2001) (place_taken asked (read_row (row_at t i))) (cut_for asked (read_row (row_at t i)))
    unfolding settled granting
    reply-is =
        ap (λ (l : Left). l.reply) o.leaves
        ∙ ap (λ (v : Verdict). reply t.form c v.code v.place v.cut) granted
        ∙ ap (λ (l : List Access). reply t.form c (plain 2001) (place_taken asked (read_row (row_at t i))) l) cut-for

  -- a call that succeeds is decided on a sound row
  pub data Won : Type 0 where
    won : (i : ℕ) → OnRow t c i → call_number t c ≡ 0 → none_fails (checks t c) ≡ true → Won

  pub won-went : succeeds t c ≡ true → Went t c → Won
  unfolding succeeds
  won-went h (unanswered a l) = false-true (sym a ∙ and_left (eqb (call_number t c) 0) _ h)
  won-went h (stopped code a s l) = false-true (sym s.none ∙ and_right (eqb (call_number t c) 0) _ h)
  won-went h (reached i a o) = won i o (eqb-true (call_number t c) 0 a) (and_right (eqb (call_number t c) 0) _ h)

  cut-won : Won → (handle t c).reply.result.cut ≡ pick (exceeds asked (said t c)) 1 0
  cut-won (won i o a h) = rw o.before (cut-count i o h)

  one-won : exceeds asked (said t c) ≡ true → Won → length (cut_for asked (said t c)) ≡ 1
  one-won e (won i o a h) = rw o.before (one-for i o h (rw o.before at e))

  reply-won : Won → (handle t c).reply ≡ reply t.form c (plain 2001) (place_taken asked (said t c)) (cut_for asked (said t c))
  reply-won (won i o a h) = rw o.before (reply-is i o h)

pub cut-exactly : CutExactly
unfolding pick
cut-exactly t c =
    by-test (succeeds t c)
    (λ y. rw y (cut-won t c (won-went t c y (went t c))))
    (λ y. rw y (refused-went t c y (went t c)).cut)

pub one-to-cut : OneToCut
one-to-cut t c h = one-won t c (and_right (succeeds t c) _ h) (won-went t c (and_left (succeeds t c) _ h) (went t c))

pub success-reply : SuccessReply
success-reply t c h = reply-won t c (won-went t c h (went t c))

-- THE ROWS

module _ (t : Table) (c : Call) where
  finds-won : Won t c → is_found (found t c) ≡ true
  unfolding is_found
  finds-won (won i o a h) = rw o.at

pub success-finds-row : SuccessFindsRow
success-finds-row t c h = finds-won t c (won-went t c h (went t c))

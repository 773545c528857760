-- From what a request brings and what was carried out to the reply: lengths, codes, and the result in numbers.
use mathlib.Core.Path.{◌≡◌, refl, sym, ap, ◌∙◌}
use mathlib.Core.Bool.{Bool, true, false, ◌&&◌}
use mathlib.Core.List.{List, [], ◌∷◌}
use Prim.Native.Nat.{ℕ, ◌+◌, ◌*◌, ◌≤◌, ◌<◌}
use native.Mathlib.Omega.{arith}
use borrow.Author.Tests.{le-leb, leb-true}
use lib.Dec.{eqb, leb}
use lib.ListN.{length}
use Rattle.std.specs.Prelude.{Some, None}
use Rattle.octets.specs.Choice.{pick, within}
use Rattle.octets.proofs.Lists.{and_left, and_right, by-test, both, within-high, within_low}
use Rattle.octets.proofs.Texts.{length_part}
use Rattle.message.specs.Codes.{number_of}
use Rattle.message.specs.Kinds.{code_from}
use Rattle.message.specs.ReadingAMessage.{Ask, tunnel, policy, termination, Request, request, read, user_name, request_of}
use Rattle.message.specs.Spans.{Holds, asks, bytes_of, is_inside, spans_in}
use Rattle.octets.specs.Lists.{every}
use Rattle.message.specs.declared.Span.{Span}
use Rattle.message.specs.declared.Kind.{Kind}
use Rattle.message.specs.declared.Kind.TheVariants.{NoAnswer, Plain, Experimental}
use Rattle.message.specs.declared.Asked.{Asked}
use Rattle.message.specs.declared.Asked.TheVariants.{Tunnel, Policy, Termination}
use Rattle.message.proofs.Lengths.{passing, user-length, tunnel-lengths, policy-lengths, policy-order, policy-second, policy-third, termination-lengths}
use Rattle.octets.specs.Texts.{part}
use Rattle.table.specs.Soundness.{is_row, only_behind}
use Rattle.table.specs.TheTable.{Access, Subscriber, Table, form_of, is_form, row_at, row_length, table_number, width}
use Rattle.table.proofs.Form.{is-sized}
use Rattle.table.proofs.Good.{by_form}
use Rattle.table.proofs.Rows.{form_in, row-form}
use Rattle.plans.specs.declared.Plan.{Plan}
use Rattle.plans.specs.declared.Plan.TheVariants.{NotSubscribed, Barred, RoamingNotAllowed, UnableToComply, UnusedByUser, Stands, Open, Route, Free}
use Rattle.message.specs.WritingTheAnswer.{answer, answer_room}
use Rattle.effects.specs.declared.Done.{Done}
use Rattle.decision.specs.declared.Decided.{Decided}
use Rattle.decision.specs.declared.Texts.{Texts}
use Rattle.rules.specs.Deciding.{Verdict, refuse, grant, open_on}
use Rattle.plans.specs.Plans.{Brought, fit_policies, planned, plan_code, fitting}
use Rattle.rules.specs.Calls.{most_policies, result_of, notice_room, reply, table_after, settled}
use Rattle.effects.specs.Carrying.{cut_for, done_for}
use Rattle.decision.specs.Outcomes.{Named, answered_by, cut_made, cut_session, cut_host, cut_realm, no_text, result_said, leaves, call_of, spans_of, texts_of}

-- CODES

pub number-from : (k : Kind) (n : ℕ) → number_of (code_from k n) ≡ n
unfolding code_from number_of
number-from NoAnswer n = refl
number-from Plain n = refl
number-from Experimental n = refl

-- the result in numbers
pub result-is : (k : Kind) (n size place : ℕ) (cut : List Access)
    → result_said (record { code = n; kind = k; length = size; place = place; cut = cut_for cut }) ≡ result_of size place (code_from k n) cut
unfolding result_said result_of cut_for cut_made cut_session cut_host cut_realm
result-is k n size place [] = rw (number-from k n)
result-is k n size place (a ∷ others) = rw (number-from k n)

-- the code of a plan is that of its verdict
pub plan-code : (b : Brought) (p : Plan) (s : Subscriber) → (planned b p s).code ≡ plan_code p
unfolding planned plan_code refuse grant open_on pick
plan-code b NotSubscribed s = refl
plan-code b Barred s = refl
plan-code b RoamingNotAllowed s = refl
plan-code b UnableToComply s = refl
plan-code b UnusedByUser s = refl
plan-code b Stands s = refl
plan-code b (Open n None) s = refl
plan-code b (Open n (Some k)) s = refl
plan-code b (Route k) s = refl
plan-code b (Free k) s = refl

pub plan-small : (p : Plan) → number_of (plan_code p) < 65536
unfolding plan_code number_of
plan-small NotSubscribed = omega arith
plan-small Barred = omega arith
plan-small RoamingNotAllowed = omega arith
plan-small UnableToComply = omega arith
plan-small UnusedByUser = omega arith
plan-small Stands = omega arith
plan-small (Open n k) = omega arith
plan-small (Route k) = omega arith
plan-small (Free k) = omega arith

-- LENGTHS

-- a second and a third policy in a table of the form: none in form 1
others-fit : (fm : ℕ) (m : List ℕ) (q : Request) (s a b c : List ℕ) → is_form fm ≡ true → read (most_policies fm) m ≡ request q → q.ask ≡ policy s a b c
    → (leb (length b) (pick (eqb fm 2) 128 0) ≡ true) × (leb (length c) (pick (eqb fm 2) 128 0) ≡ true)
unfolding most_policies pick
others-fit fm m q s a b c f =
    by_form (λ g. read (pick (eqb g 2) 3 1) m ≡ request q → q.ask ≡ policy s a b c → (leb (length b) (pick (eqb g 2) 128 0) ≡ true) × (leb (length c) (pick (eqb g 2) 128 0) ≡ true)) fm f
    (λ e i. (rw (policy-second 1 m q s a b c e i (omega arith)) refl, rw (policy-third 1 m q s a b c e i (omega arith)) refl))
    (λ e i. let l = policy-lengths 3 m q s a b c e i in (le-leb _ 128 l.2, le-leb _ 128 l.3))

only-behind : (n before : ℕ) → (1 ≤ n → 1 ≤ before) → only_behind n before ≡ true
unfolding only_behind pick
only-behind n before h = by-test (leb 1 n) (λ e. rw e (le-leb 1 before (h (leb-true 1 n e)))) (λ e. rw e)

most-128 : (b : Bool) → pick b 128 0 ≤ 128
unfolding pick
most-128 true = omega arith
most-128 false = omega arith

-- policies that fit can be written
pub policies-fit : (fm : ℕ) (session first second third : List ℕ) → fitting fm (policy session first second third) ≡ true
    → fit_policies (record { first = first; second = second; third = third }) ≡ true
unfolding fitting fit_policies
policies-fit fm session first second third k =
    let m : ℕ = pick (eqb fm 2) 128 0 in
    let k1 : leb (length second) m && (leb (length third) m && (only_behind (length second) (length first) && only_behind (length third) (length second))) ≡ true = and_right (within 1 128 (length first)) _ k in
    let k2 : leb (length third) m && (only_behind (length second) (length first) && only_behind (length third) (length second)) ≡ true = and_right (leb (length second) m) _ k1 in
    both (and_left (within 1 128 (length first)) _ k)
    (both (le-leb (length second) 128 (omega (arith, most-128 (eqb fm 2), leb-true (length second) m (and_left (leb (length second) m) _ k1))))
    (le-leb (length third) 128 (omega (arith, most-128 (eqb fm 2), leb-true (length third) m (and_left (leb (length third) m) _ k2)))))

module _ (fm : ℕ) (f : is_form fm ≡ true) where
  ask-fits : (m : List ℕ) (q : Request) (a : Ask) → read (most_policies fm) m ≡ request q → q.ask ≡ a → fitting fm a ≡ true
  unfolding fitting
  ask-fits m q (tunnel s h r l v) e i = let t = tunnel-lengths (most_policies fm) m q s h r l v e i in both t.0 (both t.1 t.2)
  ask-fits m q (policy s a b c) e i =
      let l = policy-lengths (most_policies fm) m q s a b c e i in
      let o = others-fit fm m q s a b c f e i in
      both l.1 (both o.0 (both o.1 (both
      (only-behind (length b) (length a) (λ h. within_low 1 128 (length a) l.1))
      (only-behind (length c) (length b) (policy-order (most_policies fm) m q s a b c e i)))))
  ask-fits m q (termination s l) e i = refl

  pub request-fits : (m : List ℕ) (q : Request) → read (most_policies fm) m ≡ request q → fitting fm q.ask ≡ true
  request-fits m q e = ask-fits m q q.ask e refl

-- THE TEXTS OF A CHANGE

none-short : (m : List ℕ) → length (bytes_of m no_text) ≤ 128
unfolding bytes_of no_text
none-short m = omega arith

module _ (most : ℕ) (m u : List ℕ) where
  pub texts-short : (a : Asked) → read most m ≡ request (record { user = u; ask = asks m a })
      → (length (bytes_of m (texts_of a).session) ≤ 128) × (length (bytes_of m (texts_of a).host) ≤ 128) × (length (bytes_of m (texts_of a).realm) ≤ 128)
  unfolding asks texts_of
  texts-short (Tunnel s h r l v) e =
      let t = tunnel-lengths most m (record { user = u; ask = asks m (Tunnel s h r l v) }) (bytes_of m s) (bytes_of m h) (bytes_of m r) (bytes_of m l) v e refl in
      (within-high 1 128 _ t.0, within-high 1 128 _ t.1, within-high 1 128 _ t.2)
  texts-short (Policy s a b c) e =
      let t = policy-lengths most m (record { user = u; ask = asks m (Policy s a b c) }) (bytes_of m s) (bytes_of m a) (bytes_of m b) (bytes_of m c) e refl in
      (within-high 1 128 _ t.0, none-short m, none-short m)
  texts-short (Termination s l) e =
      let t = termination-lengths most m (record { user = u; ask = asks m (Termination s l) }) (bytes_of m s) (bytes_of m l) e refl in
      (within-high 1 128 _ t.0, none-short m, none-short m)

none_inside : (m : List ℕ) → is_inside m no_text ≡ true
unfolding is_inside no_text
none_inside m = le-leb 0 (length m) (omega arith)

pub texts-inside : (m : List ℕ) (a : Asked) → every (is_inside m) (spans_in a) ≡ true → every (is_inside m) (spans_of (texts_of a)) ≡ true
unfolding every spans_in spans_of texts_of
texts-inside m (Tunnel s h r l v) i =
    let i1 = and_right (is_inside m s) _ i in
    let i2 = and_right (is_inside m h) _ i1 in
    rw (and_left (is_inside m s) _ i, and_left (is_inside m h) _ i1, and_left (is_inside m r) _ i2, none_inside m)
texts-inside m (Policy s a b c) i =
    let i1 = and_right (is_inside m s) _ i in
    let i2 = and_right (is_inside m a) _ i1 in
    let i3 = and_right (is_inside m b) _ i2 in
    rw (and_left (is_inside m s) _ i, none_inside m, and_left (is_inside m a) _ i1, and_left (is_inside m b) _ i2, and_left (is_inside m c) _ i3)
texts-inside m (Termination s l) i = rw (and_left (is_inside m s) _ i, none_inside m)

-- each of them
module _ (m : List ℕ) (t : Texts) (i : every (is_inside m) (spans_of t) ≡ true) where
  pub inside-1 : is_inside m t.session ≡ true
  unfolding every spans_of
  inside-1 = and_left (is_inside m t.session) _ i

  i1 : is_inside m t.host && (is_inside m t.realm && (is_inside m t.first && (is_inside m t.second && (is_inside m t.third && true)))) ≡ true
  unfolding every spans_of
  i1 = and_right (is_inside m t.session) _ i

  pub inside-2 : is_inside m t.host ≡ true
  inside-2 = and_left (is_inside m t.host) _ i1

  i2 : is_inside m t.realm && (is_inside m t.first && (is_inside m t.second && (is_inside m t.third && true))) ≡ true
  i2 = and_right (is_inside m t.host) _ i1

  pub inside-3 : is_inside m t.realm ≡ true
  inside-3 = and_left (is_inside m t.realm) _ i2

  i3 : is_inside m t.first && (is_inside m t.second && (is_inside m t.third && true)) ≡ true
  i3 = and_right (is_inside m t.realm) _ i2

  pub inside-4 : is_inside m t.first ≡ true
  inside-4 = and_left (is_inside m t.first) _ i3

  i4 : is_inside m t.second && (is_inside m t.third && true) ≡ true
  i4 = and_right (is_inside m t.first) _ i3

  pub inside-5 : is_inside m t.second ≡ true
  inside-5 = and_left (is_inside m t.second) _ i4

  pub inside-6 : is_inside m t.third ≡ true
  inside-6 = and_left (is_inside m t.third) _ (and_right (is_inside m t.second) _ i4)

-- THE USER

module _ (most : ℕ) (m : List ℕ) (u : Span) (inside : is_inside m u ≡ true) (a : Ask) (e : read most m ≡ request (record { user = bytes_of m u; ask = a })) where
  fits : u.at + u.len ≤ length m
  unfolding is_inside
  fits = leb-true (u.at + u.len) (length m) inside

  pub user-holds : Holds m user_name u
  unfolding bytes_of request_of
  user-holds = record { inside = fits; value = ap (λ (q : Request). q.user) (passing most m _ e).asked }

  pub user-short : u.len ≤ 128
  unfolding bytes_of
  user-short = omega (arith, within-high 1 128 _ (user-length most m _ e), length_part m u.at u.len fits)

-- THE ROW

-- a row of a table of number 0 is a row
pub row-there : (t : Table) (i : ℕ) → table_number t ≡ 0 → width t * i + width t ≤ length t.bytes → is_row (row_at t i) ≡ true
unfolding row_at
row-there t i z h =
    let size : length (part t.bytes (width t * i) (width t)) ≡ width t = length_part t.bytes (width t * i) (width t) h in
    let f : form_of (part t.bytes (width t * i) (width t)) ≡ t.form = row-form (part t.bytes (width t * i) (width t)) t.form size in
    is-sized (part t.bytes (width t * i) (width t)) (record { form = ap is_form f ∙ form_in t z; size = size ∙ ap row_length (sym f) })

-- THE REPLY

-- a code other than 2001 names nobody
pub nobody-named : (m : List ℕ) (d : Decided) → (d.code ≡ 2001 → ⊥) → d.code < 65536 → Named m d
nobody-named m d h small = record { holds = λ e. absurd (h e); short = λ e. absurd (h e); small = small }

-- the outcome, from what was written
pub written_is : (d : Decided) (n : ℕ) (m host realm room : List ℕ) (t : Table) (a u : List ℕ)
    → n ≡ length (answer m host realm (code_from d.kind d.code))
    → a ≡ answer_room m host realm (code_from d.kind d.code) room
    → leaves (record { code = d.code; kind = d.kind; length = n; place = d.place; cut = d.cut }) t a u ≡ answered_by d m host realm room t u
unfolding answered_by
written_is d n m host realm room t a u en ea = λ j. leaves (record { code = d.code; kind = d.kind; length = en j; place = d.place; cut = d.cut }) t (ea j) u

-- what is decided and the notice room, answered
pub answered-is : (f : ℕ) (k : Kind) (n : ℕ) (user : Span) (o : ℕ) (m host realm room notice : List ℕ) (wag : Bool) (place : ℕ) (cut : List Access) (t : Table) (u : List ℕ)
    → u ≡ notice_room f cut notice
    → answered_by (record { code = n; kind = k; user = user; place = place; cut = cut_for cut }) m host realm room t u
    ≡ record { reply = reply f (call_of o m host realm room notice wag) (code_from k n) place cut; table = t }
unfolding answered_by leaves reply call_of
answered-is f k n user o m host realm room notice wag place cut t u eu =
    let c = code_from k n in
    λ i. record { reply = record { result = result-is k n (length (answer m host realm c)) place cut i; answer = answer_room m host realm c room; notice = eu i }; table = t }

pub settled_is : (t : Table) (i o : ℕ) (m host realm room notice : List ℕ) (wag : Bool) (v : Verdict) (k : Kind) (n : ℕ) (user : Span) (d : Done) (t' : Table) (u : List ℕ)
    → v.code ≡ code_from k n
    → t' ≡ table_after t i v
    → u ≡ notice_room t.form v.cut notice
    → d ≡ done_for v
    → answered_by (record { code = n; kind = k; user = user; place = d.place; cut = d.cut }) m host realm room t' u
    ≡ settled t (call_of o m host realm room notice wag) i v
unfolding settled done_for
settled_is t i o m host realm room notice wag v k n user d t' u ec et eu ed =
    ap (λ (x : Done). answered_by (record { code = n; kind = k; user = user; place = x.place; cut = x.cut }) m host realm room t' u) ed
    ∙ answered-is t.form k n user o m host realm room notice wag v.place v.cut t' u eu
    ∙ (λ j. record { reply = reply t.form (call_of o m host realm room notice wag) (sym ec j) v.place v.cut; table = et j })

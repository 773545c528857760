-- One screen through one call: it shows connected exactly where its Session-Id then stands.
use mathlib.Core.Path.{◌≡◌, refl, sym, ap, ◌∙◌}
use mathlib.Core.Bool.{Bool, true, false, and-false}
use mathlib.Core.List.{List, []}
use Prim.Native.Nat.{ℕ}
use borrow.Author.Tests.{eq-eqb}
use lib.Dec.{eqb, leb}
use Rattle.octets.specs.Choice.{pick, within}
use Rattle.octets.specs.Texts.{same}
use Rattle.octets.proofs.Choice.{by-pick}
use Rattle.octets.proofs.Lists.{by-test, same-eq, same_refl, same-comm}
use Rattle.message.specs.Codes.{plain}
use Rattle.message.specs.ReadingAMessage.{Ask, tunnel, policy, termination}
use Rattle.table.specs.TheTable.{Access, Subscriber, Table, form_of, row_at, read_row}
use Rattle.table.proofs.Good.{Good}
use Rattle.table.proofs.Sound.{says-good}
use Rattle.rules.specs.Calls.{Call, Reply, reply}
use Rattle.order.specs.Demand2.{afterwards, cut_for, exceeds, opens as is_new, place_taken}
use Rattle.order.specs.OpenedFirst.{session_cut}
use Rattle.order.proofs.History.{ended-one, place-told}
use Rattle.screen.specs.declared.Screen.{Screen}
use Rattle.screen.specs.TheBoard.{session_of, Event, nothing, asks, opens, ends, cuts, request_says, success, result_says, told}
use Rattle.agreement.specs.TheBoardAgrees.{some, stands_at, stands_once, connected_at, Truthful, kind_asked, session_asked, Way, result_first, notice_first, refused_left_out}
use Rattle.agreement.proofs.Some.{not-both, or-false, some_one}
use Rattle.agreement.proofs.Accesses.{Became, Opened, ended-left, goes_on, has, opens as opens_row, place-taken, routed-stays}
use Rattle.agreement.proofs.Tables.{New, Turned, new as new_in, turned}
use Rattle.agreement.proofs.Screens.{Alike, Dark, Lit, alike_self, quiet, session-stays, told_cuts, told-ends, told-opens, told-other, told-quiet}
use Rattle.agreement.proofs.Calls.{CutTold, Done, code-told, cut-is-told, kind-told, no_cut, no-cut-told, one-cut}

-- WHAT A SCREEN IS TOLD OF A CALL

abbrev pub requested : Ask → Screen → Screen
requested q s = told (session_asked q) (request_says (kind_asked q)) s

abbrev pub answered : Ask → Reply → Screen → Screen
answered q r s = told (session_asked q) (result_says (kind_asked q) r.result.code r.result.kind r.result.place) s

unfoldable pub noticed : Reply → Screen → Screen
noticed r s = pick (eqb r.result.cut 1) (told (session_cut r) cuts s) s

unfoldable pub through : Way → Ask → Reply → Screen → Screen
through result_first q r s = noticed r (answered q r (requested q s))
through notice_first q r s = answered q r (noticed r (requested q s))
through refused_left_out q r s = pick (eqb r.result.code 2001) (noticed r (answered q r (requested q s))) s

pub session-noticed : (r : Reply) (s : Screen) → session_of (noticed r s) ≡ session_of s
unfolding noticed
session-noticed r s = by-pick (λ (u : Screen). session_of u ≡ session_of s) _ (λ e. session-stays (session_cut r) cuts s) (λ e. refl)

pub session-through : (way : Way) (q : Ask) (r : Reply) (s : Screen) → session_of (through way q r s) ≡ session_of s
unfolding through
session-through result_first q r s = session-noticed r _ ∙ session-stays _ _ _ ∙ session-stays _ _ s
session-through notice_first q r s = session-stays _ _ _ ∙ session-noticed r _ ∙ session-stays _ _ s
session-through refused_left_out q r s =
    by-pick (λ (u : Screen). session_of u ≡ session_of s) _ (λ e. session-noticed r _ ∙ session-stays _ _ _ ∙ session-stays _ _ s) (λ e. refl)

-- NOTHING CONNECTS OR PARTS

alike_then : (s u v : Screen) → Alike s u → Alike u v → Alike s v
alike_then s u v a b = record { four = b.four; places = λ k. b.places k ∙ a.places k }

quiet-request : (which : ℕ) → quiet (request_says which) ≡ true
unfolding request_says quiet
quiet-request which = by-pick (λ (e : Event). quiet e ≡ true) _ (λ e. refl) (λ e. refl)

no-notice : (r : Reply) (s : Screen) → r.result.cut ≡ 0 → noticed r s ≡ s
unfolding noticed pick
no-notice r s e = rw e

module _ (q : Ask) (r : Reply) (no_cut : r.result.cut ≡ 0) (hushed : quiet (result_says (kind_asked q) r.result.code r.result.kind r.result.place) ≡ true) where
  in-turn : (s : Screen) → leb s.state 3 ≡ true → Alike s (answered q r (requested q s))
  in-turn s h =
      let a : Alike s (requested q s) = told-quiet (session_asked q) _ s (quiet-request (kind_asked q)) h in
      alike_then s (requested q s) _ a (told-quiet (session_asked q) _ (requested q s) hushed a.four)

  pub alike-through : (way : Way) (s : Screen) → leb s.state 3 ≡ true → Alike s (through way q r s)
  unfolding through
  alike-through result_first s h = rw (no-notice r (answered q r (requested q s)) no_cut) (in-turn s h)
  alike-through notice_first s h = rw (no-notice r (requested q s) no_cut) (in-turn s h)
  alike-through refused_left_out s h = by-pick (Alike s) _ (λ e. rw (no-notice r (answered q r (requested q s)) no_cut) (in-turn s h)) (λ e. alike_self s h)

-- TRUTHFUL AGAIN

module _ (t u : Table) (s v : Screen) (own : session_of v ≡ session_of s) where
  still-true : Truthful t s → Alike s v → ((k : ℕ) → stands_at u (session_of s) k ≡ stands_at t (session_of s) k) → Truthful u v
  still-true r a e =
      record {
        one-of-four = a.four;
        exactly = λ k. a.places k ∙ r.exactly k ∙ sym (e k) ∙ ap (λ (x : List ℕ). stands_at u x k) (sym own);
      }

  dark-true : Dark v → ((k : ℕ) → stands_at u (session_of s) k ≡ false) → Truthful u v
  dark-true d e = record { one-of-four = d.four; exactly = λ k. d.nowhere k ∙ sym (e k) ∙ ap (λ (x : List ℕ). stands_at u x k) (sym own) }

  lit-true : (place : ℕ) → Lit v place → ((k : ℕ) → stands_at u (session_of s) k ≡ eqb place k) → Truthful u v
  lit-true place l e = record { one-of-four = l.four; exactly = λ k. l.there k ∙ sym (e k) ∙ ap (λ (x : List ℕ). stands_at u x k) (sym own) }

-- A CALL THAT DOES NOT SUCCEED

quiet-failure : (which code kind place : ℕ) → eqb code 2001 ≡ false → quiet (result_says which code kind place) ≡ true
unfolding result_says success quiet pick
quiet-failure which code kind place h =
    by-test (eqb which 0)
    (λ e. rw (e, h, and-false (eqb kind 1)))
    (λ e. rw (e, h, and-false (eqb kind 1), and-false (eqb which 2)))

pub refused-true : (t : Table) (way : Way) (q : Ask) (r : Reply) (s : Screen) → eqb r.result.code 2001 ≡ false → r.result.cut ≡ 0 → Truthful t s → Truthful t (through way q r s)
refused-true t way q r s h none i =
    still-true t t s _ (session-through way q r s) i
    (alike-through q r none (quiet-failure (kind_asked q) _ _ _ h) way s i.one-of-four) (λ k. refl)

-- THE NOTICE

notice-one : (r : Reply) (x : List ℕ) (s : Screen) → r.result.cut ≡ 1 → session_cut r ≡ x → noticed r s ≡ told x cuts s
unfolding noticed pick
notice-one r x s e f = ap (λ (b : Bool). pick b (told (session_cut r) cuts s) s) (eq-eqb r.result.cut 1 e) ∙ ap (λ (y : List ℕ). told y cuts s) f

notice-other : (cut : List Access) (r : Reply) → CutTold cut r → (s : Screen) → some (has (session_of s)) cut ≡ false → noticed r s ≡ s
notice-other cut r (no_cut e n) s h = no-notice r s n
notice-other cut r (one-cut a e n f) s h =
    let ne : same a.session (session_of s) ≡ false = sym (some_one (has (session_of s)) a) ∙ ap (some (has (session_of s))) (sym e) ∙ h in
    notice-one r a.session s n f ∙ told-other a.session cuts s (same-comm (session_of s) a.session ∙ ne)

notice-own : (cut : List Access) (r : Reply) → CutTold cut r → (s : Screen) → leb s.state 3 ≡ true → some (has (session_of s)) cut ≡ true → Dark (noticed r s)
unfolding some
notice-own cut r (no_cut e n) s four h = not-both false (rw e at h) refl
notice-own cut r (one-cut a e n f) s four h =
    let eq : same a.session (session_of s) ≡ true = sym (or-false _) ∙ (rw e at h) in
    rw (notice-one r a.session s n f) (told_cuts a.session s four (same-comm (session_of s) a.session ∙ eq))

-- A CALL THAT SUCCEEDS

module _ (t u : Table) (c : Call) (q : Ask) (r : Reply) (d : Done t u c q r) where
  abbrev sub : Subscriber
  sub = read_row (row_at t d.i)

  code_is : r.result.code ≡ 2001
  code_is = ap (λ (x : Reply). x.result.code) d.replied ∙ code-told t.form c _ (cut_for q sub)

  kind-is : r.result.kind ≡ 1
  kind-is = ap (λ (x : Reply). x.result.kind) d.replied ∙ kind-told t.form c _ (cut_for q sub)

  place_is : r.result.place ≡ place_taken q sub
  place_is = ap (λ (x : Reply). x.result.place) d.replied ∙ place-told t.form c (plain 2001) _ (cut_for q sub)

  turned_by : (sid : List ℕ) (gone : Bool) → Became sid gone sub.accesses (afterwards t.form q sub).accesses → Turned t u sid gone
  turned_by sid gone b =
      turned t u d.i d.rows-changed d.was-sound d.is-sound sid gone
      (rw d.says b)

  -- a call that succeeds is not left out
  fed-success : (s : Screen) → through refused_left_out q r s ≡ through result_first q r s
  unfolding through pick
  fed-success s = rw code_is

-- a routing policy: nothing moves
pub policy-true : (t u : Table) (c : Call) (session one two three : List ℕ) (r : Reply) → Done t u c (policy session one two three) r
    → (way : Way) (s : Screen) → Truthful t s → Truthful u (through way (policy session one two three) r s)
unfolding kind_asked result_says quiet cut_for exceeds pick
policy-true t u c session one two three r d way s i =
    let uncut : r.result.cut ≡ 0 = ap (λ (x : Reply). x.result.cut) d.replied ∙ no-cut-told t.form c _ in
    still-true t u s _ (session-through way (policy session one two three) r s) i
    (alike-through (policy session one two three) r uncut refl way s i.one-of-four)
    ((turned_by t u c (policy session one two three) r d (session_of s) false (routed-stays t.form (session_of s) session one two three _)).rest refl)

-- a termination: its screen goes off
module _ (t u : Table) (c : Call) (session label : List ℕ) (r : Reply) (d : Done t u c (termination session label) r) where
  abbrev ending : Ask
  ending = termination session label

  ended-turned : (sid : List ℕ) → Turned t u sid (same session sid)
  ended-turned sid =
      let g : Good (form_of (row_at t d.i)) (read_row (row_at t d.i)) = says-good (row_at t d.i) d.was-sound in
      turned_by t u c ending r d sid (same session sid)
      (ended-left t.form sid session label _ g (ended-one _ c 0 _ g session label c.wag d.passes))

  uncut : r.result.cut ≡ 0
  unfolding cut_for exceeds pick
  uncut = ap (λ (x : Reply). x.result.cut) d.replied ∙ no-cut-told t.form c _

  ends_by : (s : Screen) → noticed r (answered ending r (requested ending s)) ≡ told session ends (told session nothing s)
  unfolding kind_asked session_asked request_says result_says success pick
  ends_by s = no-notice r _ uncut ∙ rw (code_is t u c ending r d, kind-is t u c ending r d)

  ends_through : (way : Way) (s : Screen) → through way ending r s ≡ told session ends (told session nothing s)
  unfolding through kind_asked session_asked request_says result_says success pick
  ends_through result_first s = ends_by s
  ends_through notice_first s = ap (answered ending r) (no-notice r _ uncut) ∙ rw (code_is t u c ending r d, kind-is t u c ending r d)
  ends_through refused_left_out s = fed-success t u c ending r d s ∙ ends_by s

  pub end-true : (way : Way) (s : Screen) → Truthful t s → stands_once t (session_of s) ≡ true → Truthful u (through way ending r s)
  unfolding quiet
  end-true way s i once =
      let first : Alike s (told session nothing s) = told-quiet session nothing s refl i.one-of-four in
      by-test (same (session_of s) session)
      (λ own. let then' : same (session_of (told session nothing s)) session ≡ true = ap (λ (x : List ℕ). same x session) (session-stays session nothing s) ∙ own in
      let dark : Dark (through way ending r s) = rw (ends_through way s) (told-ends session _ first.four then') in
      dark-true t u s _ (session-through way ending r s) dark
      ((ended-turned (session_of s)).left (same-comm session (session_of s) ∙ own) once))
      (λ other. let stays : through way ending r s ≡ s = ends_through way s ∙ ap (told session ends) (told-other session nothing s other) ∙ told-other session ends s other in
      rw stays (still-true t u s s refl i (alike_self s i.one-of-four) ((ended-turned (session_of s)).rest (same-comm session (session_of s) ∙ other))))

-- a tunnel that is asked for: it stands already, or it is opened
module _ (t u : Table) (c : Call) (session host realm label : List ℕ) (visited : Bool) (r : Reply) (d : Done t u c (tunnel session host realm label visited) r) where
  abbrev opening : Ask
  opening = tunnel session host realm label visited

  abbrev says-before : Subscriber
  says-before = read_row (row_at t d.i)

  good-before : Good (form_of (row_at t d.i)) says-before
  good-before = says-good (row_at t d.i) d.was-sound

  -- one that stands already goes on: nothing moves
  module _ (old : is_new opening says-before ≡ false) where
    uncut-yet : cut_for opening says-before ≡ []
    unfolding cut_for exceeds pick
    uncut-yet = rw old

    none-cut : r.result.cut ≡ 0
    none-cut = ap (λ (x : Reply). x.result.cut) d.replied ∙ ap (λ (l : List Access). (reply t.form c (plain 2001) (place_taken opening says-before) l).result.cut) uncut-yet ∙ no-cut-told t.form c _

    nowhere-new : r.result.place ≡ 0
    unfolding place_taken pick
    nowhere-new = place_is t u c opening r d ∙ rw old

    hushed : quiet (result_says (kind_asked opening) r.result.code r.result.kind r.result.place) ≡ true
    unfolding kind_asked result_says success quiet within pick
    hushed = rw (code_is t u c opening r d, kind-is t u c opening r d, nowhere-new)

    pub goes-on-true : (way : Way) (s : Screen) → Truthful t s → Truthful u (through way opening r s)
    goes-on-true way s i =
        still-true t u s _ (session-through way opening r s) i
        (alike-through opening r none-cut hushed way s i.one-of-four)
        ((turned_by t u c opening r d (session_of s) false (goes_on t.form says-before good-before session host realm label visited c.wag (session_of s) old)).rest refl)

  -- an opening: its screen is connected, and that of the cut is marked
  module _ (new : is_new opening says-before ≡ true) where
    place-fits : within 1 8 (place_taken opening says-before) ≡ true
    place-fits =
        place-taken t.form session host realm label visited says-before
        (rw (d.form-after, d.says) at (says-good (row_at u d.i) d.is-sound)) new

    row_opened : Opened session (place_taken opening says-before) (cut_for opening says-before) says-before.accesses (afterwards t.form opening says-before).accesses
    row_opened = opens_row t.form says-before good-before session host realm label visited c.wag new d.passes

    cut-told : CutTold (cut_for opening says-before) r
    cut-told = rw d.replied (cut-is-told t.form c _ session host realm label visited c.wag says-before good-before d.passes)

    -- what its screen is told
    asks-by : (s : Screen) → requested opening s ≡ told session asks s
    unfolding kind_asked session_asked request_says pick
    asks-by s = refl

    opens_by : (s : Screen) → answered opening r s ≡ told session (opens (place_taken opening says-before)) s
    unfolding kind_asked session_asked result_says success pick
    opens_by s = rw (code_is t u c opening r d, kind-is t u c opening r d, place_is t u c opening r d, place-fits)

    -- the screen of the Session-Id that is opened
    module _ (s : Screen) (own : session_of s ≡ session) where
      unnoticed : (v : Screen) → session_of v ≡ session_of s → noticed r v ≡ v
      unnoticed v e = notice-other (cut_for opening says-before) r cut-told v (ap (λ (x : List ℕ). some (has x) (cut_for opening says-before)) (e ∙ own) ∙ row_opened.spared-own)

      both_told : answered opening r (requested opening s) ≡ told session (opens (place_taken opening says-before)) (told session asks s)
      both_told = opens_by (requested opening s) ∙ ap (told session (opens (place_taken opening says-before))) (asks-by s)

      own-through : (way : Way) → through way opening r s ≡ told session (opens (place_taken opening says-before)) (told session asks s)
      unfolding through
      own-through result_first = unnoticed _ (session-stays _ _ _ ∙ session-stays _ _ s) ∙ both_told
      own-through notice_first = ap (answered opening r) (unnoticed _ (session-stays _ _ s)) ∙ both_told
      own-through refused_left_out = fed-success t u c opening r d s ∙ unnoticed _ (session-stays _ _ _ ∙ session-stays _ _ s) ∙ both_told

      own-true : (way : Way) → Truthful t s → stands_once u (session_of s) ≡ true → Truthful u (through way opening r s)
      own-true way i once =
          let n : New t u session (place_taken opening says-before) =
          new_in t u d.i d.rows-changed d.was-sound d.is-sound session _ (cut_for opening says-before) (rw d.says row_opened) (rw own at once) in
          let dark : connected_at s.place s ≡ false = i.exactly s.place ∙ ap (λ (x : List ℕ). stands_at t x s.place) own ∙ n.nowhere s.place in
          let lit : Lit (through way opening r s) (place_taken opening says-before) =
          rw (own-through way) (told-opens session _ s i.one-of-four (ap (λ (x : List ℕ). same x session) own ∙ same_refl session) dark) in
          lit-true t u s _ (session-through way opening r s) _ lit (λ k. ap (λ (x : List ℕ). stands_at u x k) own ∙ n.there k)

    -- any other screen
    module _ (s : Screen) (other : same (session_of s) session ≡ false) where
      not-asked : requested opening s ≡ s
      not-asked = asks-by s ∙ told-other session asks s other

      not-answered : (v : Screen) → session_of v ≡ session_of s → answered opening r v ≡ v
      not-answered v e = opens_by v ∙ told-other session _ v (ap (λ (x : List ℕ). same x session) e ∙ other)

      first_way : noticed r (answered opening r (requested opening s)) ≡ noticed r s
      first_way = ap (λ (v : Screen). noticed r (answered opening r v)) not-asked ∙ ap (noticed r) (not-answered s refl)

      other-through : (way : Way) → through way opening r s ≡ noticed r s
      unfolding through
      other-through result_first = first_way
      other-through notice_first = ap (λ (v : Screen). answered opening r (noticed r v)) not-asked ∙ not-answered (noticed r s) (session-noticed r s)
      other-through refused_left_out = fed-success t u c opening r d s ∙ first_way

      other-true : (way : Way) → Truthful t s → stands_once t (session_of s) ≡ true → Truthful u (through way opening r s)
      other-true way i once =
          let gone : Bool = some (has (session_of s)) (cut_for opening says-before) in
          let b : Turned t u (session_of s) gone = turned_by t u c opening r d (session_of s) gone (row_opened.others (session_of s) (same-comm session (session_of s) ∙ other)) in
          by-test gone
          (λ g. dark-true t u s _ (session-through way opening r s)
          (rw (other-through way) (notice-own (cut_for opening says-before) r cut-told s i.one-of-four g)) (b.left g once))
          (λ g. let stays : through way opening r s ≡ s = other-through way ∙ notice-other (cut_for opening says-before) r cut-told s g in
          rw stays (still-true t u s s refl i (alike_self s i.one-of-four) (b.rest g)))

    pub open-true : (way : Way) (s : Screen) → Truthful t s → stands_once t (session_of s) ≡ true → stands_once u (session_of s) ≡ true → Truthful u (through way opening r s)
    open-true way s i before now' =
        by-test (same (session_of s) session)
        (λ own. own-true s (same-eq (session_of s) session own) way i now')
        (λ other. other-true s other way i before)

-- any of them
pub done-true : (t u : Table) (c : Call) (q : Ask) (r : Reply) → Done t u c q r
    → (way : Way) (s : Screen) → Truthful t s → stands_once t (session_of s) ≡ true → stands_once u (session_of s) ≡ true → Truthful u (through way q r s)
done-true t u c (tunnel session host realm label visited) r d way s i before now' =
    by-test (is_new (tunnel session host realm label visited) (read_row (row_at t d.i)))
    (λ new. open-true t u c session host realm label visited r d new way s i before now')
    (λ old. goes-on-true t u c session host realm label visited r d old way s i)
done-true t u c (policy session one two three) r d way s i before now' = policy-true t u c session one two three r d way s i
done-true t u c (termination session label) r d way s i before now' = end-true t u c session label r d way s i before

-- Two calls equal one. Message by message both take the same, whatever rooms they have; where the first call stops, what the second goes on from is
-- what the one call goes on from.
use mathlib.Core.Path.{◌≡◌, refl, sym, ap, ap₂, ◌∙◌, subst}
use mathlib.Core.Bool.{true, false, ◌&&◌}
use mathlib.Core.List.{List, [], ◌∷◌, ◌++◌}
use Prim.Native.Nat.{ℕ, zero, suc, ◌+◌, ◌*◌, ◌≤◌, ◌<◌}
use native.Mathlib.Omega.{arith}
use borrow.Author.Tests.{eqb-false, eqb-true, le-leb, leb-false, leb-true}
use lib.Dec.{eqb, leb}
use lib.ListN.{length, take, drop, length-drop, length-take}
use lib.Seq.{get_or-take}
use Rattle.octets.specs.Choice.{require, first_of, within}
use Rattle.octets.proofs.Choice.{first_passes, others-pass, passed}
use Rattle.octets.proofs.Lists.{and_left, and_right, by-test}
use Rattle.message.specs.TheRooms.{answer_least, notice_length}
use Rattle.table.specs.TheTable.{Table, first_number, table_number}
use Rattle.rules.specs.Calls.{Call, Left, Result, handle, run}
use Rattle.order.specs.Demand3.{SameLeft, Told, brought, told}
use Rattle.order.proofs.Lists.{Runs, ran}
use Rattle.order.proofs.Rooms.{brought-decides, rooms-after}
use Rattle.burst.specs.TheBurst.{Burst, Bursted, Taken, burst, burst_number, bursted, next_length, refused_burst, whole_messages}
use Rattle.burst.specs.GoingOn.{rest, together}
use Rattle.burst.proofs.Boundaries.{next_fits, next-short, whole-next}
use Rattle.order.proofs.Handled.{fine, notice-length}
use Rattle.burst.proofs.Loop.{burst-goes, burst-refused, places-fit, words-fit}
use Rattle.burst.proofs.Refusals.{refused-not, refused-results, refused-wags}
use Rattle.burst.proofs.Steps.{after, call_in, form-after, go_on, put-take, step}
use Rattle.burst.proofs.Turns.{Taking, Within, next_taken, stop-end, stopped, taking, together-assoc}
use Rattle.burstlaws.specs.BurstsRules.{Part, TwoCalls, first_part}
use Rattle.burstlaws.proofs.Parts.{less_part, message-same, next-same, rest_all, rest_part, rest-rest, second-alone}

-- ONE MESSAGE

-- the notice that is told is what is written
notice-written : (t : Table) (c : Call) → notice_length t.form ≤ length c.notice
    → take ((handle t c).reply.result.cut * notice_length t.form) (handle t c).reply.notice ≡ (told t.form (handle t c).reply).notice
notice-written t c h =
    ap (take ((handle t c).reply.result.cut * notice_length t.form)) (rooms-after t c).notice
    ∙ put-take c.notice (told t.form (handle t c).reply).notice ((handle t c).reply.result.cut * notice_length t.form) (notice-length t c h)

-- no more is said to be written than there is
one-within : (t : Table) (d : Burst) → notice_length t.form ≤ length d.notices → Within t.form (after d (handle t (call_in d)))
unfolding after call_in
one-within t d h =
    let c : Call = call_in d in
    let n : ℕ = (handle t c).reply.result.cut * notice_length t.form in
    let notice : List ℕ = (handle t c).reply.notice in
    let all : length (take n notice) ≡ n = ap length (notice-written t c h) ∙ notice-length t c h in
    record { answers = (fine t c).answer-stands; notices = omega (arith, all, length-take n notice); results = omega arith }

-- WORDS AND PLACES

-- for each whole message that is left there is a word and a place
record Enough (b : Burst) : Type 0 where
  words : length (whole_messages b.messages) ≤ length b.wags
  places : length (whole_messages b.messages) ≤ length b.results

enough-after : (f : ℕ) (b : Burst) (l : Left) → (next_length b.messages ≡ 0 → ⊥) → Enough b → Enough (rest f (after b l).taken b)
unfolding rest after
enough-after f b l some e =
    let next : ℕ = next_length b.messages in
    let one : length (whole_messages b.messages) ≡ length (take next b.messages ∷ whole_messages (drop next b.messages)) = ap length (whole-next b.messages some) in
    record {
      words = omega (arith, one, e.words, length-drop 1 b.wags);
      places = omega (arith, one, e.places, length-drop 1 b.results);
    }

-- A FIRST CALL, whatever its rooms

-- what it leaves, and behind it what goes on from there, is what one call leaves
record Goes (f : ℕ) (t : Table) (b : Burst) (x : Bursted) : Type 0 where
  as_one : together f x (go_on x.table (rest f x.taken b)) ≡ go_on t b
  enough : Enough (rest f x.taken b)

goes_none : (t : Table) (d b : Burst) → Enough b → Goes t.form t b (refused_burst t d 0)
unfolding refused_burst
goes_none t d b e =
    let all : rest t.form (refused_burst t d 0).taken b ≡ b = rest_all t.form 0 t d b in
    record { as_one = second-alone t.form 0 t d _ ∙ ap (go_on t) all; enough = subst Enough (sym all) e }

table-last : (f : ℕ) (x z : Bursted) → (together f x z).table ≡ z.table
unfolding together
table-last f x z = refl

-- one message more
goes_one : (t : Table) (b c : Burst) (u : Table) (x z : Bursted) → Within t.form x → rest t.form x.taken b ≡ c
    → together t.form x (go_on u c) ≡ go_on t b → Goes t.form u c z → Goes t.form t b (together t.form x z)
goes_one t b c u x z w e one g =
    let f : ℕ = t.form in
    let left : rest f (together f x z).taken b ≡ rest f z.taken c = sym (rest-rest f x z b) ∙ ap (rest f z.taken) e in
    let table : (together f x z).table ≡ z.table = table-last f x z in
    record {
      as_one =
          ap₂ (λ (v : Table) (r : Burst). together f (together f x z) (go_on v r)) table left
          ∙ sym (together-assoc f x z w (go_on z.table (rest f z.taken c)))
          ∙ ap (together f x) g.as_one
          ∙ one;
      enough = subst Enough (sym left) g.enough;
    }

-- ONE MESSAGE, in the part and in the whole

module _ (t : Table) (b : Burst) (p : Part)
    (some : next_length (first_part p b).messages ≡ 0 → ⊥) (word : 0 < length (first_part p b).wags)
    (ha : answer_least ≤ length (first_part p b).answers) (hn : notice_length t.form ≤ length (first_part p b).notices) where
  abbrev d : Burst
  d = first_part p b

  abbrev l : Left
  l = handle t (call_in d)

  abbrev k : Left
  k = handle t (call_in b)

  abbrev x : Bursted
  x = after d l

  abbrev y : Bursted
  y = after b k

  some-whole : next_length b.messages ≡ 0 → ⊥
  unfolding first_part
  some-whole z = some (next-same p.messages b.messages some ∙ z)

  word-whole : 0 < length b.wags
  unfolding first_part
  word-whole = omega (arith, word, length-take p.wags b.wags)

  answers-whole : answer_least ≤ length b.answers
  unfolding first_part
  answers-whole = omega (arith, ha, length-take p.answers b.answers)

  notices-whole : notice_length t.form ≤ length b.notices
  unfolding first_part
  notices-whole = omega (arith, hn, length-take p.notices b.notices)

  same-brought : brought t.form (call_in d) ≡ brought t.form (call_in b)
  unfolding brought call_in first_part
  same-brought =
      let first : 0 < p.wags = omega (arith, word, length-take p.wags b.wags) in
      rw (
        message-same p.messages b.messages some,
        get_or-take p.wags b.wags 0 0 first,
        le-leb answer_least (length (take p.answers b.answers)) ha,
        le-leb (notice_length t.form) (length (take p.notices b.notices)) hn,
        le-leb answer_least (length b.answers) answers-whole,
        le-leb (notice_length t.form) (length b.notices) notices-whole,
      ) refl

  same_left : SameLeft t.form l k
  same_left = brought-decides t (call_in d) (call_in b) same-brought

  same-result : l.reply.result ≡ k.reply.result
  unfolding told
  same-result = ap (λ (z : Told). z.result) same_left.reply

  same_taken : x.taken ≡ y.taken
  unfolding after first_part
  same_taken i =
      let size : next_length (take p.messages b.messages) ≡ next_length b.messages = next-same p.messages b.messages some in
      record { number = 0; messages = 1; bytes = size i; answers = (same-result i).length; notices = (same-result i).cut }

  same-answers : take x.taken.answers x.answers ≡ take y.taken.answers y.answers
  unfolding after told
  same-answers = ap (λ (z : Told). z.answer) same_left.reply

  same-notices : take (x.taken.notices * notice_length t.form) x.notices ≡ take (y.taken.notices * notice_length t.form) y.notices
  unfolding after call_in
  same-notices = notice-written t (call_in d) hn ∙ ap (λ (z : Told). z.notice) same_left.reply ∙ sym (notice-written t (call_in b) notices-whole)

  same-results : take x.taken.messages x.results ≡ take y.taken.messages y.results
  unfolding after
  same-results = ap (λ (r : Result). r ∷ []) same-result

  same_first : (z : Bursted) → together t.form x z ≡ together t.form y z
  unfolding together
  same_first z i =
      record {
        taken = record {
          number = z.taken.number;
          messages = (same_taken i).messages + z.taken.messages;
          bytes = (same_taken i).bytes + z.taken.bytes;
          answers = (same_taken i).answers + z.taken.answers;
          notices = (same_taken i).notices + z.taken.notices;
        };
        table = z.table;
        answers = same-answers i ++ z.answers;
        notices = same-notices i ++ z.notices;
        results = same-results i ++ z.results;
      }

  -- what is left of the whole, and how much of it the part has
  abbrev left : Burst
  left = rest t.form y.taken b

  abbrev left_part : Part
  left_part = less_part t.form x.taken p

  left_is : rest t.form x.taken b ≡ left
  left_is = ap (λ (z : Taken). rest t.form z b) same_taken

  part-is : rest t.form x.taken d ≡ first_part left_part left
  part-is = rest_part t.form x.taken p b ∙ ap (first_part left_part) left_is

  fewer : length left.messages + 1 ≤ length b.messages
  unfolding rest after
  fewer = omega (arith, length-drop (next_length b.messages) b.messages, next_fits b.messages, some-whole)

  enough-part : Enough d → Enough (first_part left_part left)
  enough-part e = subst Enough part-is (enough-after t.form d l some e)

  enough-whole : Enough b → Enough left
  enough-whole e = enough-after t.form b k some-whole e

  step-whole : together t.form x (go_on l.table left) ≡ go_on t b
  step-whole =
      same_first (go_on l.table left)
      ∙ ap (λ (u : Table). together t.form y (go_on u left)) same_left.table
      ∙ sym (step t b some-whole word-whole answers-whole notices-whole)

  goes_on : Goes l.table.form l.table left (go_on l.table (first_part left_part left)) → Goes t.form t b (go_on t d)
  goes_on g =
      let z : Bursted = go_on l.table (first_part left_part left) in
      let form : l.table.form ≡ t.form = form-after t d some word ha hn in
      let go : go_on t d ≡ together t.form x z = step t d some word ha hn ∙ ap (λ (c : Burst). together t.form x (go_on l.table c)) part-is in
      subst (Goes t.form t b) (sym go)
      (goes_one t b left l.table x z (one-within t d hn) left_is step-whole (subst (λ (f : ℕ). Goes f l.table left z) form g))

-- the first call takes a message, or stops
goes : (n : ℕ) (t : Table) (b : Burst) (p : Part) → length b.messages ≤ n → Enough (first_part p b) → Enough b → Goes t.form t b (go_on t (first_part p b))
unfolding first_part
goes zero t b p h ed eb =
    let none : length (take p.messages b.messages) < 4 = omega (arith, h, length-take p.messages b.messages) in
    subst (Goes t.form t b) (sym (stop-end t (first_part p b) (next-short (take p.messages b.messages) none))) (goes_none t (first_part p b) b eb)
goes (suc n) t b p h ed eb =
    let d : Burst = first_part p b in
    let next : ℕ = next_taken (length d.answers) (length d.notices) (notice_length t.form) (next_length d.messages) in
    by-test (eqb next 0)
    (λ e. subst (Goes t.form t b) (sym (stopped t d (eqb-true next 0 e))) (goes_none t d b eb))
    (λ e.
    let tk : Taking (length d.answers) (length d.notices) (notice_length t.form) (next_length d.messages) next = taking _ _ _ _ next refl (eqb-false next 0 e) in
    let some : next_length d.messages ≡ 0 → ⊥ = λ z. eqb-false next 0 e (tk.next-is ∙ z) in
    let word : 0 < length d.wags = omega (arith, ed.words, ap length (whole-next d.messages some)) in
    let ha : answer_least ≤ length d.answers = tk.answers-fit in
    let hn : notice_length t.form ≤ length d.notices = tk.notices-fit in
    goes_on t b p some word ha hn
    (goes n _ (left t b p some word ha hn) (left_part t b p some word ha hn) (omega (arith, h, fewer t b p some word ha hn)) (enough-part t b p some word ha hn ed) (enough-whole t b p some word ha hn eb)))

-- NUMBERS

table_stays : (t : Table) (cs : List Call) → table_number t ≡ 0 → table_number (run t cs).table ≡ table_number t
unfolding table_number
table_stays t cs z = let r : Runs t.form _ t cs = ran t z cs in rw (r.form-is, r.size)

first-stays : (t : Table) (d : Burst) (o : ℕ) → first_number t o ≡ 0 → first_number (go_on t d).table o ≡ 0
unfolding first_number go_on bursted
first-stays t d o z = ap (λ (n : ℕ). first_of (n ∷ require (leb o 15) 33 ∷ [])) (table_stays t _ (first_passes (table_number t) _ z)) ∙ z

-- a burst that is not refused
module _ (t : Table) (b : Burst) (z : burst_number t b ≡ 0) where
  first-passed : first_number t b.operator ≡ 0
  unfolding burst_number
  first-passed = first_passes (first_number t b.operator) _ z

  names-fit : within 1 128 (length b.host) && within 1 128 (length b.realm) ≡ true
  unfolding burst_number
  names-fit = passed _ 2 (omega arith) (first_passes _ _ (others-pass (first_number t b.operator) _ z))

  host-fits : within 1 128 (length b.host) ≡ true
  host-fits = and_left _ (within 1 128 (length b.realm)) names-fit

  realm-fits : within 1 128 (length b.realm) ≡ true
  realm-fits = and_right (within 1 128 (length b.host)) _ names-fit

  is-enough : Enough b
  is-enough = record { words = words-fit t b z; places = places-fit t b z }

-- where the part is not refused the whole is not, but by 18
whole-passes : (t : Table) (b : Burst) (p : Part) → eqb (burst_number t b) 18 ≡ false → burst_number t (first_part p b) ≡ 0 → burst_number t b ≡ 0
unfolding first_part
whole-passes t b p not18 z =
    let d : Burst = first_part p b in
    let whole : ℕ = length (whole_messages b.messages) in
    let f : first_number t b.operator ≡ 0 = first-passed t d z in
    let hh : within 1 128 (length b.host) ≡ true = host-fits t d z in
    let hr : within 1 128 (length b.realm) ≡ true = realm-fits t d z in
    by-test (leb whole (length b.wags))
    (λ e.
    let hw : whole ≤ length b.wags = leb-true whole (length b.wags) e in
    by-test (leb whole (length b.results))
    (λ g. refused-not t b f hh hr hw (leb-true whole (length b.results) g))
    (λ g. absurd (eqb-false (burst_number t b) 18 not18 (refused-results t b f hh hr hw (leb-false whole (length b.results) g)))))
    (λ e. absurd (eqb-false (burst_number t b) 18 not18 (refused-wags t b f hh hr (leb-false whole (length b.wags) e))))

-- THE THEOREM

module _ (t : Table) (b : Burst) (p : Part) where
  abbrev then : Bursted → Bursted
  then x = together t.form x (burst x.table (rest t.form x.taken b))

  -- the first call is refused, and the second does everything
  first-refused : (burst_number t (first_part p b) ≡ 0 → ⊥) → then (burst t (first_part p b)) ≡ burst t b
  unfolding refused_burst
  first-refused some =
      let d : Burst = first_part p b in
      let n : ℕ = burst_number t d in
      ap then (sym (burst-refused t d n refl some))
      ∙ second-alone t.form n t d _
      ∙ ap (burst t) (rest_all t.form n t d b)

  -- neither is refused
  both_go : burst_number t (first_part p b) ≡ 0 → burst_number t b ≡ 0 → then (burst t (first_part p b)) ≡ burst t b
  unfolding rest
  both_go zd zb =
      let d : Burst = first_part p b in
      let x : Bursted = go_on t d in
      let left : Burst = rest t.form x.taken b in
      let g : Goes t.form t b x = goes (length b.messages) t b p (omega arith) (is-enough t d zd) (is-enough t b zb) in
      let passes : burst_number x.table left ≡ 0 =
      refused-not x.table left (first-stays t d b.operator (first-passed t b zb)) (host-fits t b zb) (realm-fits t b zb) g.enough.words g.enough.places in
      ap then (burst-goes t d zd) ∙ ap (together t.form x) (burst-goes x.table left passes) ∙ g.as_one ∙ sym (burst-goes t b zb)

pub two-calls : TwoCalls
two-calls t b p not18 =
    let n : ℕ = burst_number t (first_part p b) in
    by-test (eqb n 0)
    (λ e. let z : n ≡ 0 = eqb-true n 0 e in both_go t b p z (whole-passes t b p not18 z))
    (λ e. first-refused t b p (eqb-false n 0 e))

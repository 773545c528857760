-- One call, and a list of calls, on rows that are pairs.
use mathlib.Core.Path.{◌≡◌, refl, sym, ap, ap₂, ◌∙◌, subst}
use mathlib.Core.Bool.{true, false}
use mathlib.Core.List.{List, [], ◌∷◌, ◌++◌, append_assoc, map}
use Prim.Native.Nat.{ℕ}
use native.Mathlib.Omega.{arith}
use borrow.Author.Tests.{le-leb, leb-true}
use lib.Dec.{eqb, leb}
use lib.ListN.{length, take, drop, length-append}
use lib.Seq.{drop_at, drop-drop, take_at}
use Rattle.octets.specs.Choice.{pick}
use Rattle.octets.specs.Lists.{every}
use Rattle.octets.specs.Texts.{filled}
use Rattle.octets.proofs.Lists.{and_left, and_right, by-test}
use Rattle.octets.proofs.Pieces.{drop_past}
use Rattle.octets.proofs.Texts.{length-filled}
use Rattle.message.specs.TheRooms.{long_notice, short_notice, notice_length}
use Rattle.message.specs.Codes.{Code, plain, user_unknown, number_of, kind_of}
use Rattle.message.specs.ReadingAMessage.{Reading, Request, refused, request}
use Rattle.message.specs.WritingTheAnswer.{answer, answer_room}
use Rattle.table.specs.TheTable.{Access, read_row, row_bytes}
use Rattle.table.proofs.Bytes.{read-row}
use Rattle.table.proofs.Good.{Good}
use Rattle.table.proofs.Sound.{sound-row}
use Rattle.table.proofs.Tests.{clash}
use Rattle.rules.specs.Calls.{Call, Reply, most_policies, notice_bytes, notice_room, reply, result_of}
use Rattle.rules.specs.Deciding.{Verdict, decide}
use Rattle.plans.specs.Plans.{fitting}
use Rattle.plans.proofs.Stay.{stays}
use Rattle.decision.proofs.Answered.{request-fits}
use Rattle.order.specs.Demand3.{Subject, nobody, own_number, sent_by, subject}
use Rattle.order.proofs.Finding.{finds}
use Rattle.order.proofs.Handling.{act, act_on, ans, lost, lost_on, read_in, reply_on, row_after, say_on, says, settled_row, tab}
use Rattle.order.proofs.Rooms.{length_cut}
use Rattle.order.proofs.Alone as A
use Rattle.changeover.specs.TheChangeOver.{decided_without, one_policy, policies_in, room_for_both, told_in_both, without_realm, without_realms}
use Rattle.changeover.proofs.Reading.{read_alike}
use Rattle.changeover.proofs.Deciding.{decided-alike}
use Rattle.changeover.proofs.Pairs.{Pair, Pairs, Said, free, free-found, one_form, pair_found, said, two-form}

-- A REPLY says a realm only where a reply of form 1 says nothing

-- the two texts at the head of a notice, whatever stands behind them
both_first : (s h r x : List ℕ) → take short_notice ((filled s 128 ++ (filled h 128 ++ r)) ++ x) ≡ filled s 128 ++ filled h 128
both_first s h r x =
    ap (take short_notice) (append_assoc (filled s 128) (filled h 128 ++ r) x ∙ ap (λ (l : List ℕ). filled s 128 ++ l) (append_assoc (filled h 128) r x) ∙ sym (append_assoc (filled s 128) (filled h 128) (r ++ x)))
    ∙ take_at (filled s 128 ++ filled h 128) (r ++ x) short_notice (simp (length-append, length-filled))

module _ (a : Access) (room : List ℕ) where
  notice-first : take short_notice (notice_bytes 2 a ++ drop long_notice room) ≡ take short_notice (notice_bytes 1 (without_realm a) ++ drop short_notice room)
  unfolding notice_bytes without_realm pick
  notice-first = both_first a.session a.host (filled a.realm 128) (drop long_notice room) ∙ sym (both_first a.session a.host [] (drop short_notice room))

  notice-behind : drop long_notice (notice_bytes 2 a ++ drop long_notice room) ≡ drop long_notice (notice_bytes 1 (without_realm a) ++ drop short_notice room)
  unfolding notice_length pick
  notice-behind =
      drop_at (notice_bytes 2 a) (drop long_notice room) long_notice (length_cut 2 a)
      ∙ sym (drop_past short_notice 128 (notice_bytes 1 (without_realm a)) (drop short_notice room) (length_cut 1 (without_realm a)) ∙ drop-drop 128 short_notice room)

reply-alike : (c : Call) (code : Code) (place : ℕ) (cut : List Access) → told_in_both (reply 2 c code place cut) ≡ told_in_both (reply 1 c code place (map without_realm cut))
unfolding told_in_both reply result_of notice_room notice_length without_realm pick
reply-alike c code place [] = refl
reply-alike c code place (a ∷ others) =
    λ i. record {
      length = length (answer c.message c.host c.realm code);
      code = number_of code;
      kind = kind_of code;
      place = place;
      cut = 1;
      cut_session = length a.session;
      cut_host = length a.host;
      answer = answer_room c.message c.host c.realm code c.answer;
      notice = notice-first a c.notice i;
      behind = notice-behind a c.notice i;
    }

-- WHAT IS DECIDED on a pair

module _ (c : Call) (q : Request) (r s : List ℕ) (d : Said r s) where
  abbrev old : Verdict
  old = decide 1 q.ask c.wag (read_row r)

  abbrev new : Verdict
  new = decide 2 q.ask c.wag (read_row s)

  verdicts : old ≡ decided_without new
  verdicts = ap (decide 1 q.ask c.wag) (sym d.alike) ∙ decided-alike q.ask c.wag (read_row s)

  code_same : old.code ≡ new.code
  unfolding decided_without
  code_same = ap (λ (v : Verdict). v.code) verdicts

  after-alike : without_realms new.after ≡ old.after
  unfolding decided_without
  after-alike = sym (ap (λ (v : Verdict). v.after) verdicts)

  reply-same : told_in_both (reply 2 c new.code new.place new.cut) ≡ told_in_both (reply 1 c old.code old.place old.cut)
  unfolding decided_without
  reply-same = reply-alike c new.code new.place new.cut ∙ sym (ap (λ (v : Verdict). told_in_both (reply 1 c v.code v.place v.cut)) verdicts)

  pub replies-on : told_in_both (reply_on 2 c q s) ≡ told_in_both (reply_on 1 c q r)
  unfolding reply_on pick
  replies-on = rw (d.old-sound, d.new-sound) reply-same

  module _ (old-fits : fitting 1 q.ask ≡ true) (new-fits : fitting 2 q.ask ≡ true) where
    written : Said (row_bytes 1 old.after) (row_bytes 2 new.after)
    written =
        let g : Good 1 old.after = stays 1 q.ask c.wag (read_row r) old-fits d.old-good in
        let h : Good 2 new.after = stays 2 q.ask c.wag (read_row s) new-fits d.new-good in
        record {
          old-sound = sound-row 1 old.after g;
          new-sound = sound-row 2 new.after h;
          old-good = subst (Good 1) (sym (read-row 1 old.after g)) g;
          new-good = subst (Good 2) (sym (read-row 2 new.after h)) h;
          alike = ap without_realms (read-row 2 new.after h) ∙ after-alike ∙ sym (read-row 1 old.after g);
        }

    pub rows_on : Said (row_after 1 c q r) (row_after 2 c q s)
    unfolding row_after settled_row pick
    rows_on =
        by-test (eqb (number_of new.code) 2001)
        (λ e. let f : eqb (number_of old.code) 2001 ≡ true = ap (λ (k : Code). eqb (number_of k) 2001) code_same ∙ e in
        rw (d.old-sound, d.new-sound, e, f) written)
        (λ e. let f : eqb (number_of old.code) 2001 ≡ false = ap (λ (k : Code). eqb (number_of k) 2001) code_same ∙ e in
        rw (d.old-sound, d.new-sound, e, f) d)

-- ONE CALL

-- what is told where there is no row
lost-by : (c : Call) (g : Reading) → told_in_both (lost_on 2 c g) ≡ told_in_both (lost_on 1 c g)
unfolding lost_on
lost-by c (refused code) = reply-alike c (plain code) 0 []
lost-by c (request q) = reply-alike c user_unknown 0 []

module _ (c : Call) (few : one_policy c ≡ true) (large : room_for_both c ≡ true) where
  reads : read_in 2 c ≡ read_in 1 c
  unfolding most_policies pick one_policy
  reads = read_alike c.message (leb-true (policies_in c.message) 1 few)

  -- a room for a notice of form 2 is one for a notice of form 1
  numbers : own_number 2 c ≡ own_number 1 c
  unfolding own_number room_for_both notice_length pick
  numbers =
      let two : leb long_notice (length c.notice) ≡ true = large in
      let one : leb short_notice (length c.notice) ≡ true = le-leb short_notice (length c.notice) (omega (arith, leb-true long_notice (length c.notice) two)) in
      rw (two, one)

  pub subjects : subject 2 c ≡ subject 1 c
  unfolding subject
  subjects = ap₂ (λ (n : ℕ) (g : Reading). pick (eqb n 0) (sent_by c.operator g) nobody) numbers reads

  pub lost-same : told_in_both (lost 2 c) ≡ told_in_both (lost 1 c)
  unfolding lost pick
  lost-same =
      let l : told_in_both (lost_on 2 c (read_in 1 c)) ≡ told_in_both (lost_on 1 c (read_in 1 c)) = lost-by c (read_in 1 c) in
      by-test (eqb (own_number 1 c) 0)
      (λ e. rw (numbers, e, reads) l)
      (λ e. rw (numbers, e))

  module _ (r s : List ℕ) (d : Said r s) where
    rows-by : (g : Reading) → read_in 1 c ≡ g → Said (act_on 1 c g r) (act_on 2 c g s)
    unfolding act_on
    rows-by (refused code) e = d
    rows-by (request q) e = rows_on c q r s d (request-fits 1 one_form c.message q e) (request-fits 2 two-form c.message q (reads ∙ e))

    replies-by : (g : Reading) → told_in_both (say_on 2 c g s) ≡ told_in_both (say_on 1 c g r)
    unfolding say_on
    replies-by (refused code) = reply-alike c (plain code) 0 []
    replies-by (request q) = replies-on c q r s d

    acted : Said (act 1 c r) (act 2 c s)
    unfolding act pick
    acted =
        let b : Said (act_on 1 c (read_in 1 c) r) (act_on 2 c (read_in 1 c) s) = rows-by (read_in 1 c) refl in
        by-test (eqb (own_number 1 c) 0)
        (λ e. rw (numbers, e, reads) b)
        (λ e. rw (numbers, e) d)

    answered : told_in_both (says 2 c s) ≡ told_in_both (says 1 c r)
    unfolding says pick
    answered =
        let b : told_in_both (say_on 2 c (read_in 1 c) s) ≡ told_in_both (say_on 1 c (read_in 1 c) r) = replies-by (read_in 1 c) in
        by-test (eqb (own_number 1 c) 0)
        (λ e. rw (numbers, e, reads) b)
        (λ e. rw (numbers, e))

  -- a row that is found is said
  found-said : {r s : List ℕ} → Pair r s → finds (subject 1 c) r ≡ true → Said r s
  found-said (free f) e = absurd (clash e (free-found (subject 1 c) f))
  found-said (said d) e = d

  found-both : {r s : List ℕ} → Pair r s → finds (subject 2 c) s ≡ finds (subject 1 c) r
  found-both {r} {s} p = ap (λ (k : Subject). finds k s) subjects ∙ pair_found (subject 1 c) p

  pub tables : (rs ss : List (List ℕ)) → Pairs rs ss → Pairs (tab 1 rs c) (tab 2 ss c)
  unfolding A.tab Pairs pick
  tables [] [] p = tt
  tables [] (s ∷ ss) p = absurd p
  tables (r ∷ rs) [] p = absurd p
  tables (r ∷ rs) (s ∷ ss) p =
      by-test (finds (subject 1 c) r)
      (λ e. let f : finds (subject 2 c) s ≡ true = found-both p.0 ∙ e in
      rw (e, f) (said (acted r s (found-said p.0 e)), p.1))
      (λ e. let f : finds (subject 2 c) s ≡ false = found-both p.0 ∙ e in
      rw (e, f) (p.0, tables rs ss p.1))

  pub answers : (rs ss : List (List ℕ)) → Pairs rs ss → told_in_both (ans 2 ss c) ≡ told_in_both (ans 1 rs c)
  unfolding A.ans Pairs pick
  answers [] [] p = lost-same
  answers [] (s ∷ ss) p = absurd p
  answers (r ∷ rs) [] p = absurd p
  answers (r ∷ rs) (s ∷ ss) p =
      by-test (finds (subject 1 c) r)
      (λ e. let f : finds (subject 2 c) s ≡ true = found-both p.0 ∙ e in
      rw (e, f) (answered r s (found-said p.0 e)))
      (λ e. let f : finds (subject 2 c) s ≡ false = found-both p.0 ∙ e in
      rw (e, f) (answers rs ss p.1))

-- A LIST OF CALLS

abbrev pub runs : (fm : ℕ) → List (List ℕ) → List Call → List (List ℕ)
runs fm = A.runs fm (act fm) (says fm) (lost fm)

abbrev pub outs : (fm : ℕ) → List (List ℕ) → List Call → List Reply
outs fm = A.outs fm (act fm) (says fm) (lost fm)

pub tables-all : (cs : List Call) → every one_policy cs ≡ true → every room_for_both cs ≡ true → (rs ss : List (List ℕ)) → Pairs rs ss → Pairs (runs 1 rs cs) (runs 2 ss cs)
unfolding A.runs every
tables-all [] h k rs ss p = p
tables-all (c ∷ cs) h k rs ss p =
    tables-all cs (and_right (one_policy c) _ h) (and_right (room_for_both c) _ k) (tab 1 rs c) (tab 2 ss c)
    (tables c (and_left (one_policy c) _ h) (and_left (room_for_both c) _ k) rs ss p)

pub answers-all : (cs : List Call) → every one_policy cs ≡ true → every room_for_both cs ≡ true → (rs ss : List (List ℕ)) → Pairs rs ss
    → map told_in_both (outs 2 ss cs) ≡ map told_in_both (outs 1 rs cs)
unfolding A.outs every
answers-all [] h k rs ss p = refl
answers-all (c ∷ cs) h k rs ss p =
    let few : one_policy c ≡ true = and_left (one_policy c) _ h in
    let large : room_for_both c ≡ true = and_left (room_for_both c) _ k in
    let first : told_in_both (ans 2 ss c) ≡ told_in_both (ans 1 rs c) = answers c few large rs ss p in
    let rest : map told_in_both (outs 2 (tab 2 ss c) cs) ≡ map told_in_both (outs 1 (tab 1 rs c) cs) =
    answers-all cs (and_right (one_policy c) _ h) (and_right (room_for_both c) _ k) (tab 1 rs c) (tab 2 ss c) (tables c few large rs ss p) in
    λ i. first i ∷ rest i

-- What the loop over the messages keeps, and what a turn of it does, in the values of the code.
use mathlib.Core.Path.{◌≡◌, refl, sym, ap, ap₂, ◌∙◌, subst}
use mathlib.Core.Bool.{Bool, true, ◌&&◌, not}
use mathlib.Core.List.{List, [], ◌∷◌, ◌++◌, append-nil, map}
use Prim.Native.Nat.{ℕ, zero, suc, ◌+◌, ◌-◌, ◌*◌, ◌≤◌, ◌<◌}
use native.Mathlib.Nat.{add-mul, add-zero, sub-zero, zero-mul}
use native.Mathlib.Omega.{arith}
use borrow.Author.Tests.{eq-eqb, leb-true, ne_eqb}
use lib.Dec.{eqb, leb}
use lib.ListN.{length, take, drop, get_or, set, drop_of_length-le, length-append, length-drop, length-map, length-set}
use lib.Seq.{get_or-drop, length-take-le, take_all}
use Rattle.octets.specs.Choice.{pick}
use Rattle.octets.proofs.Choice.{by-pick, first_passes, others-pass, passed}
use Rattle.octets.proofs.Lists.{and_left, and_right}
use Rattle.message.specs.TheRooms.{answer_least, notice_length}
use Rattle.table.specs.Answers.{lent}
use Rattle.table.specs.TheTable.{Table, first_number}
use Rattle.rules.specs.Calls.{Call, Left, handle}
use Rattle.decision.specs.declared.Outcome.{Outcome}
use Rattle.decision.specs.Outcomes.{call_of, cut_made, leaves as call_leaves, result_said}
use Rattle.burst.specs.TheBurst.{Burst, Bursted, burst, burst_number, next_length, refused_burst, whole_messages}
use Rattle.burst.specs.GoingOn.{rest, together}
use Rattle.burst.specs.Code.{burst_of, leaves, result_in}
use Rattle.burst.proofs.Boundaries.{next-within, whole-count}
use Rattle.order.proofs.Handled.{Fine, fine}
use Rattle.burst.proofs.Places.{set_is}
use Rattle.burst.proofs.Steps.{after, call_in, go_on}
use Rattle.burst.proofs.Turns.{Taking, Within, at_first, at_last, in_the_end, left_of, next_taken, standing, stopped, taking, turn}

-- the next message that is taken ends within the messages
next-most : (m : List ℕ) (at : ℕ) → at ≤ length m → (a n room next : ℕ) → next ≡ next_taken a n room (next_length (drop at m)) → at + next ≤ length m
next-most m at h a n room next e =
    subst (λ (k : ℕ). at + k ≤ length m) (sym e)
    (by-pick (λ (k : ℕ). at + k ≤ length m) (leb answer_least a && leb room n) (λ y. next-within m at h) (λ y. omega (arith, h)))

once : (c k : ℕ) → c ≤ 1 → c * k ≤ k
once zero k h = omega (arith, zero-mul k)
once (suc zero) k h = omega arith
once (suc (suc c)) k h = absurd (omega (arith, h))

-- a burst that is refused
pub burst-refused : (t : Table) (b : Burst) (n : ℕ) → n ≡ burst_number t b → (n ≡ 0 → ⊥) → refused_burst t b n ≡ burst t b
unfolding burst pick
burst-refused t b n e some = rw (ne_eqb (burst_number t b) 0 (λ z. some (e ∙ z)), e)

-- a burst that is not refused
module _ (t : Table) (b : Burst) (z : burst_number t b ≡ 0) where
  abbrev whole : ℕ
  whole = length (whole_messages b.messages)

  pub burst-goes : burst t b ≡ go_on t b
  unfolding burst go_on pick
  burst-goes = rw (eq-eqb (burst_number t b) 0 z)

  both-fit : leb whole (length b.wags) && leb whole (length b.results) ≡ true
  unfolding burst_number
  both-fit = passed _ 18 (omega arith) (first_passes _ [] (others-pass _ _ (others-pass (first_number t b.operator) _ z)))

  pub words-fit : whole ≤ length b.wags
  words-fit = leb-true whole (length b.wags) (and_left _ (leb whole (length b.results)) both-fit)

  pub places-fit : whole ≤ length b.results
  places-fit = leb-true whole (length b.results) (and_right (leb whole (length b.wags)) _ both-fit)

module _ (form op : ℕ) (host realm messages wags table₀ answers₀ notices₀ : List ℕ) (results₀ : List (List ℕ)) where
  abbrev t₀ : Table
  t₀ = lent form table₀

  abbrev b₀ : Burst
  b₀ = burst_of op host realm messages wags answers₀ notices₀ (map result_in results₀)

  -- what is written so far
  abbrev written : (table answers notices : List ℕ) → (results : List (List ℕ)) → (taken at used cuts : ℕ) → Bursted
  written table answers notices results taken at used cuts =
      leaves (record { number = 0; messages = taken; bytes = at; answers = used; notices = cuts }) (lent form table) answers notices results

  pub record Going (table answers notices : List ℕ) (results : List (List ℕ)) (taken at used cuts from next : ℕ) : Type 0 where
    pub at-within : at + next ≤ length messages
    pub used-within : used ≤ length answers₀
    pub from_is : from ≡ cuts * notice_length form
    pub from-within : from ≤ length notices₀
    pub few-cuts : cuts ≤ taken
    pub few-taken : taken ≤ at
    pub same-table : length table ≡ length table₀
    pub same-answers : length answers ≡ length answers₀
    pub same-notices : length notices ≡ length notices₀
    pub same-results : length results ≡ length results₀
    pub next-is : next ≡ next_taken (length answers₀ - used) (length notices₀ - from) (notice_length form) (next_length (drop at messages))
    pub words : taken + length (whole_messages (drop at messages)) ≤ length wags
    pub places : taken + length (whole_messages (drop at messages)) ≤ length results₀
    pub ends : in_the_end b₀ (written table answers notices results taken at used cuts) ≡ go_on t₀ b₀

  module _ (z : burst_number t₀ b₀ ≡ 0) where
    pub going-first : (room next : ℕ) → room ≡ notice_length form → next ≡ next_taken (length answers₀) (length notices₀) room (next_length (drop 0 messages))
        → Going table₀ answers₀ notices₀ results₀ 0 0 0 0 0 next
    unfolding leaves burst_of refused_burst
    going-first room next e n =
        let same : next ≡ next_taken (length answers₀ - 0) (length notices₀ - 0) (notice_length form) (next_length (drop 0 messages)) =
        n
        ∙ ap (λ (r : ℕ). next_taken (length answers₀) (length notices₀) r (next_length (drop 0 messages))) e
        ∙ ap₂ (λ (a k : ℕ). next_taken a k (notice_length form) (next_length (drop 0 messages))) (sym (sub-zero (length answers₀))) (sym (sub-zero (length notices₀))) in
        record {
          at-within = next-most messages 0 (omega arith) (length answers₀ - 0) (length notices₀ - 0) (notice_length form) next same;
          used-within = omega arith;
          from_is = sym (zero-mul (notice_length form));
          from-within = omega arith;
          few-cuts = omega arith;
          few-taken = omega arith;
          same-table = refl;
          same-answers = refl;
          same-notices = refl;
          same-results = refl;
          next-is = same;
          words = omega (arith, words-fit t₀ b₀ z);
          places = omega (arith, places-fit t₀ b₀ z, length-map results₀ result_in);
          ends = at_first t₀ b₀;
        }

  module _ (table answers notices : List ℕ) (results : List (List ℕ)) (taken at used cuts from next : ℕ) (g : Going table answers notices results taken at used cuts from next) where
    abbrev x : Bursted
    x = written table answers notices results taken at used cuts

    abbrev left : Burst
    left = left_of b₀ x

    left-answers : length left.answers ≡ length answers₀ - used
    unfolding left_of rest standing leaves burst_of
    left-answers = length-drop used answers ∙ ap (λ (n : ℕ). n - used) g.same-answers

    left-notices : length left.notices ≡ length notices₀ - from
    unfolding left_of rest standing leaves burst_of
    left-notices =
        length-drop (cuts * notice_length form) notices
        ∙ ap₂ (λ (n k : ℕ). n - k) g.same-notices (sym g.from_is)

    left-messages : left.messages ≡ drop at messages
    unfolding left_of rest standing leaves burst_of
    left-messages = refl

    -- behind the loop
    pub going-last : next ≡ 0 → x ≡ go_on t₀ b₀
    unfolding leaves
    going-last e =
        let none : next_taken (length left.answers) (length left.notices) (notice_length form) (next_length left.messages) ≡ 0 =
        rw (left-answers, left-notices, left-messages) (sym g.next-is ∙ e) in
        sym (at_last b₀ x refl (stopped (lent form table) left none)) ∙ g.ends

    module _ (some : next ≡ 0 → ⊥) where
      tk : Taking (length answers₀ - used) (length notices₀ - from) (notice_length form) (next_length (drop at messages)) next
      tk = taking _ _ _ _ next g.next-is some

      -- a message, and so a word and a place, is left
      one_more : length (whole_messages (drop at messages)) ≡ 1 + length (whole_messages (drop (at + next) messages))
      one_more = whole-count messages at next tk.next-is some

      pub word-left : taken < length wags
      word-left = omega (arith, one_more, g.words)

      pub place-left : taken < length results
      place-left = omega (arith, one_more, g.places, g.same-results)

      module _ (wag : Bool) (is-wag : wag ≡ not (eqb (get_or wags taken 0) 0)) where
        -- the call that is made
        abbrev made : Call
        made =
            call_of op (take (at + next - at) (drop at messages)) host realm (take (length answers₀ - used) (drop used answers))
            (take (length notices₀ - from) (drop from notices)) wag

        call-is : made ≡ call_in left
        unfolding call_of call_in left_of rest standing leaves burst_of
        call-is i =
            let size : at + next - at ≡ next_length (drop at messages) = omega (arith, tk.next-is) in
            let message : take (at + next - at) (drop at messages) ≡ take (next_length (drop at messages)) (drop at messages) = ap (λ (n : ℕ). take n (drop at messages)) size in
            let answer : take (length answers₀ - used) (drop used answers) ≡ drop used answers =
            take_all (length answers₀ - used) (drop used answers) (omega (arith, length-drop used answers, g.same-answers)) in
            let notice : take (length notices₀ - from) (drop from notices) ≡ drop (cuts * notice_length form) notices =
            take_all (length notices₀ - from) (drop from notices) (omega (arith, length-drop from notices, g.same-notices)) ∙ ap (λ (k : ℕ). drop k notices) g.from_is in
            let word : wag ≡ not (eqb (get_or (drop taken wags) 0 0) 0) =
            is-wag ∙ ap (λ (w : ℕ). not (eqb w 0)) (sym (get_or-drop taken wags 0 0 ∙ ap (λ (k : ℕ). get_or wags k 0) (add-zero taken))) in
            record { operator = op; message = message i; host = host; realm = realm; answer = answer i; notice = notice i; wag = word i }

        module _ (o : Outcome) (table' answer' notice' : List ℕ) (results' : List (List ℕ))
            (handled : call_leaves o (lent form table') answer' notice' ≡ handle (lent form table) made)
            (long-answer : length answer' ≡ length (take (length answers₀ - used) (drop used answers)))
            (long-notice : length notice' ≡ length (take (length notices₀ - from) (drop from notices))) where
          fine-one : Fine (call_leaves o (lent form table') answer' notice').reply
          fine-one = subst (λ (l : Left). Fine l.reply) (sym handled) (fine (lent form table) made)

          pub one-cut : cut_made o.cut ≤ 1
          unfolding call_leaves result_said
          one-cut = fine-one.one-cut

          pub used-fits : used + o.length ≤ length answers₀
          unfolding call_leaves result_said
          used-fits =
              let stands : o.length ≤ length answer' = fine-one.answer-stands in
              let part : length (take (length answers₀ - used) (drop used answers)) ≡ length answers₀ - used =
              length-take-le (length answers₀ - used) (drop used answers) (omega (arith, length-drop used answers, g.same-answers)) in
              omega (arith, stands, part, long-answer, g.used-within)

          pub from-fits : (cut room : ℕ) → cut ≡ cut_made o.cut → room ≡ notice_length form → (cuts + cut) * room ≤ length notices₀
          from-fits cut room e r =
              let few : cut ≤ 1 = omega (arith, one-cut, e) in
              let once_more : cut * room ≤ room = once cut room few in
              let now : cuts * room ≡ from = ap (λ (k : ℕ). cuts * k) r ∙ sym g.from_is in
              omega (arith, add-mul cuts cut room, once_more, now, r, tk.notices-fit, g.from-within)

          module _ (answers' notices' : List ℕ)
              (is-answers : answers' ≡ take used answers ++ (answer' ++ drop (length answers₀ - used) (drop used answers)))
              (is-notices : notices' ≡ take from notices ++ (notice' ++ drop (length notices₀ - from) (drop from notices)))
              (long-table : length table' ≡ length table)
              (is-results : map result_in results' ≡ set (map result_in results) taken (result_said o))
              (cut : ℕ) (is_cut : cut ≡ cut_made o.cut) where
            answers-now : answers' ≡ take used answers ++ answer'
            answers-now =
                let none : drop (length answers₀ - used) (drop used answers) ≡ [] =
                drop_of_length-le (drop used answers) {i = length answers₀ - used} (omega (arith, length-drop used answers, g.same-answers)) in
                is-answers ∙ ap (λ (d : List ℕ). take used answers ++ (answer' ++ d)) none ∙ ap (λ (d : List ℕ). take used answers ++ d) (append-nil answer')

            notices-now : notices' ≡ take (cuts * notice_length form) notices ++ notice'
            notices-now =
                let none : drop (length notices₀ - from) (drop from notices) ≡ [] =
                drop_of_length-le (drop from notices) {i = length notices₀ - from} (omega (arith, length-drop from notices, g.same-notices)) in
                is-notices ∙ ap (λ (d : List ℕ). take from notices ++ (notice' ++ d)) none ∙ ap₂ (λ (k : ℕ) (d : List ℕ). take k notices ++ d) g.from_is (append-nil notice')

            results-now : map result_in results' ≡ take taken (map result_in results) ++ (result_said o ∷ drop 1 (drop taken (map result_in results)))
            results-now =
                let inside : taken < length (map result_in results) = omega (arith, place-left, length-map results result_in) in
                is-results ∙ set_is (map result_in results) taken (result_said o) inside

            new_is : written table' answers' notices' results' (taken + 1) (at + next) (used + o.length) (cuts + cut)
                ≡ together form x (after left (call_leaves o (lent form table') answer' notice'))
            unfolding leaves together after call_leaves result_said left_of rest standing burst_of
            new_is i =
                let size : next ≡ next_length (drop at messages) = tk.next-is in
                record {
                  taken = record { number = 0; messages = taken + 1; bytes = at + size i; answers = used + o.length; notices = cuts + is_cut i };
                  table = lent form table';
                  answers = answers-now i;
                  notices = notices-now i;
                  results = results-now i;
                }

            is_within : Within form x
            unfolding leaves
            is_within =
                record {
                  answers = omega (arith, g.used-within, g.same-answers);
                  notices = omega (arith, g.from-within, g.same-notices, g.from_is);
                  results = omega (arith, place-left, length-map results result_in);
                }

            ends-again : in_the_end b₀ (written table' answers' notices' results' (taken + 1) (at + next) (used + o.length) (cuts + cut)) ≡ go_on t₀ b₀
            unfolding leaves left_of rest standing burst_of
            ends-again =
                let one : call_leaves o (lent form table') answer' notice' ≡ handle (lent form table) (call_in left) = handled ∙ ap (handle (lent form table)) call-is in
                let word : 0 < length left.wags = omega (arith, length-drop taken wags, word-left) in
                let ha : answer_least ≤ length left.answers = omega (arith, left-answers, tk.answers-fit) in
                let hn : notice_length form ≤ length left.notices = omega (arith, left-notices, tk.notices-fit) in
                ap (in_the_end b₀) (new_is ∙ ap (λ (l : Left). together form x (after left l)) one)
                ∙ sym (turn b₀ x is_within (λ z. some (tk.next-is ∙ z)) word ha hn)
                ∙ g.ends

            pub going-again : (room next' : ℕ) → room ≡ notice_length form
                → next' ≡ next_taken (length answers₀ - (used + o.length)) (length notices₀ - (cuts + cut) * room) room (next_length (drop (at + next) messages))
                → Going table' answers' notices' results' (taken + 1) (at + next) (used + o.length) (cuts + cut) ((cuts + cut) * room) next'
            going-again room next' r n =
                let few : cut ≤ 1 = omega (arith, one-cut, is_cut) in
                let part-a : length (take (length answers₀ - used) (drop used answers)) ≡ length answers₀ - used =
                length-take-le (length answers₀ - used) (drop used answers) (omega (arith, length-drop used answers, g.same-answers)) in
                let part-n : length (take (length notices₀ - from) (drop from notices)) ≡ length notices₀ - from =
                length-take-le (length notices₀ - from) (drop from notices) (omega (arith, length-drop from notices, g.same-notices)) in
                let before-a : length (take used answers) ≡ used = length-take-le used answers (omega (arith, g.used-within, g.same-answers)) in
                let before-n : length (take (cuts * notice_length form) notices) ≡ cuts * notice_length form =
                length-take-le (cuts * notice_length form) notices (omega (arith, g.from-within, g.same-notices, g.from_is)) in
                let all-a : length answers' ≡ length (take used answers) + length answer' = ap length answers-now ∙ length-append (take used answers) answer' in
                let all-n : length notices' ≡ length (take (cuts * notice_length form) notices) + length notice' =
                ap length notices-now ∙ length-append (take (cuts * notice_length form) notices) notice' in
                let all-r : length results' ≡ length results =
                sym (length-map results' result_in) ∙ ap length is-results ∙ length-set (map result_in results) taken (result_said o) ∙ length-map results result_in in
                record {
                  at-within = next-most messages (at + next) g.at-within (length answers₀ - (used + o.length)) (length notices₀ - (cuts + cut) * room) room next' n;
                  used-within = used-fits;
                  from_is = ap (λ (k : ℕ). (cuts + cut) * k) r;
                  from-within = from-fits cut room is_cut r;
                  few-cuts = omega (arith, few, g.few-cuts);
                  few-taken = omega (arith, some, g.few-taken);
                  same-table = long-table ∙ g.same-table;
                  same-answers = omega (arith, all-a, before-a, long-answer, part-a, g.used-within);
                  same-notices = omega (arith, all-n, before-n, long-notice, part-n, g.from-within, g.from_is);
                  same-results = all-r ∙ g.same-results;
                  next-is = n ∙ ap (λ (k : ℕ). next_taken (length answers₀ - (used + o.length)) (length notices₀ - (cuts + cut) * room) k (next_length (drop (at + next) messages))) r;
                  words = omega (arith, one_more, g.words);
                  places = omega (arith, one_more, g.places);
                  ends = ends-again;
                }

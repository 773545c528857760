-- A burst of one whole message is one call.
use mathlib.Core.Path.{◌≡◌, sym, ap, ◌∙◌}
use mathlib.Core.Bool.{not}
use mathlib.Core.List.{List, [], ◌∷◌, ◌++◌}
use Prim.Native.Nat.{ℕ, ◌*◌, ◌≤◌, ◌<◌}
use native.Mathlib.Nat.{add-zero}
use native.Mathlib.Omega.{arith}
use borrow.Author.Tests.{eqb-false, eqb-true}
use lib.Dec.{eqb}
use lib.ListN.{length, take, drop, get_or, take-append-drop}
use lib.Seq.{length-take-le}
use Rattle.octets.proofs.Lists.{by-test}
use Rattle.message.specs.TheRooms.{answer_least, notice_length}
use Rattle.table.specs.TheTable.{Table}
use Rattle.rules.specs.Calls.{Call, Left, handle}
use Rattle.order.proofs.Rooms.{rooms-after}
use Rattle.burst.specs.TheBurst.{Burst, burst_number, next_length, refused_burst, whole_messages}
use Rattle.burst.specs.GoingOn.{rest, together}
use Rattle.burst.proofs.Boundaries.{next_fits, whole-next, whole-none}
use Rattle.order.proofs.Handled.{notice-length, told-length}
use Rattle.burst.proofs.Loop.{burst-goes, words-fit}
use Rattle.burst.proofs.Steps.{after, call_in, go_on, put-drop, step}
use Rattle.burst.proofs.Turns.{stop-end}
use Rattle.burstlaws.specs.BurstsRules.{OneMessage, left_by_one, the_call}
use Rattle.burstlaws.proofs.Written.{not-refused}

-- THE MESSAGE

module _ (s : List ℕ) (one : whole_messages s ≡ s ∷ []) where
  pub is_some : next_length s ≡ 0 → ⊥
  is_some z = absurd (omega (arith, ap length (sym one ∙ whole-none s z)))

  split : take (next_length s) s ∷ whole_messages (drop (next_length s) s) ≡ s ∷ []
  split = sym (whole-next s is_some) ∙ one

  pub is_all : take (next_length s) s ≡ s
  is_all = ap (λ (l : List (List ℕ)). get_or l 0 []) split

  pub all-bytes : next_length s ≡ length s
  all-bytes = sym (length-take-le (next_length s) s (next_fits s)) ∙ ap length is_all

  -- nothing is behind it
  pub none-behind : next_length (drop (next_length s) s) ≡ 0
  none-behind =
      let behind : List ℕ = drop (next_length s) s in
      let none : whole_messages behind ≡ [] = ap (drop 1) split in
      by-test (eqb (next_length behind) 0)
      (eqb-true (next_length behind) 0)
      (λ e. absurd (omega (arith, ap length (sym (whole-next behind (eqb-false (next_length behind) 0 e)) ∙ none))))

-- THE ROOMS: what a call leaves in them is what it tells, and behind it what stood there

module _ (t : Table) (c : Call) where
  abbrev l : Left
  l = handle t c

  answer-again : take l.reply.result.length l.reply.answer ++ drop l.reply.result.length c.answer ≡ l.reply.answer
  answer-again =
      let n : ℕ = l.reply.result.length in
      let stays : drop n l.reply.answer ≡ drop n c.answer = ap (drop n) (rooms-after t c).answer ∙ put-drop c.answer _ n (told-length t c) in
      ap (λ (d : List ℕ). take n l.reply.answer ++ d) (sym stays) ∙ take-append-drop n l.reply.answer

  notice-again : notice_length t.form ≤ length c.notice
      → take (l.reply.result.cut * notice_length t.form) l.reply.notice ++ drop (l.reply.result.cut * notice_length t.form) c.notice ≡ l.reply.notice
  notice-again h =
      let n : ℕ = l.reply.result.cut * notice_length t.form in
      let stays : drop n l.reply.notice ≡ drop n c.notice = ap (drop n) (rooms-after t c).notice ∙ put-drop c.notice _ n (notice-length t c h) in
      ap (λ (d : List ℕ). take n l.reply.notice ++ d) (sym stays) ∙ take-append-drop n l.reply.notice

-- THE BURST

module _ (t : Table) (b : Burst) (one : whole_messages b.messages ≡ b.messages ∷ []) where
  abbrev l₁ : Left
  l₁ = handle t (call_in b)

  abbrev b₁ : Burst
  b₁ = rest t.form (after b l₁).taken b

  call-is : call_in b ≡ the_call b
  unfolding call_in the_call
  call-is i =
      record {
        operator = b.operator;
        message = is_all b.messages one i;
        host = b.host;
        realm = b.realm;
        answer = b.answers;
        notice = b.notices;
        wag = not (eqb (get_or b.wags 0 0) 0);
      }

  after_is : (k : Left) → after b k ≡ left_by_one b k
  unfolding after left_by_one
  after_is k i =
      record {
        taken = record { number = 0; messages = 1; bytes = all-bytes b.messages one i; answers = k.reply.result.length; notices = k.reply.result.cut };
        table = k.table;
        answers = k.reply.answer;
        notices = k.reply.notice;
        results = k.reply.result ∷ drop 1 b.results;
      }

  stops : go_on l₁.table b₁ ≡ refused_burst l₁.table b₁ 0
  unfolding rest after
  stops = stop-end l₁.table b₁ (none-behind b.messages one)

  alone : notice_length t.form ≤ length b.notices → together t.form (after b l₁) (refused_burst l₁.table b₁ 0) ≡ after b l₁
  unfolding together refused_burst rest after call_in
  alone hn i =
      record {
        taken = record {
          number = 0;
          messages = 1;
          bytes = add-zero (next_length b.messages) i;
          answers = add-zero l₁.reply.result.length i;
          notices = add-zero l₁.reply.result.cut i;
        };
        table = l₁.table;
        answers = answer-again t (call_in b) i;
        notices = notice-again t (call_in b) hn i;
        results = l₁.reply.result ∷ drop 1 b.results;
      }

  goes_one : burst_number t b ≡ 0 → answer_least ≤ length b.answers → notice_length t.form ≤ length b.notices
      → go_on t b ≡ left_by_one b (handle t (the_call b))
  goes_one z ha hn =
      let word : 0 < length b.wags = omega (arith, words-fit t b z, ap length one) in
      step t b (is_some b.messages one) word ha hn
      ∙ ap (together t.form (after b l₁)) stops
      ∙ alone hn
      ∙ after_is l₁
      ∙ ap (λ (c : Call). left_by_one b (handle t c)) call-is

pub one-message : OneMessage
one-message t b z one ha hn =
    let goes : burst_number t b ≡ 0 = not-refused t b z in
    burst-goes t b goes ∙ goes_one t b one goes ha hn

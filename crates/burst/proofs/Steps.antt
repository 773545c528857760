-- A burst, message by message: what one message leaves, and behind it what the burst leaves of all that is not used.
use mathlib.Core.Path.{◌≡◌, refl, sym, ap, ap₂, ◌∙◌, subst}
use mathlib.Core.Bool.{not}
use mathlib.Core.List.{List, [], ◌∷◌, ◌++◌, append_assoc, map}
use Prim.Native.Nat.{ℕ, suc, ◌+◌, ◌-◌, ◌*◌, ◌≤◌, ◌<◌}
use native.Mathlib.Nat.{zero-add}
use native.Mathlib.Omega.{arith}
use borrow.Author.Tests.{le-leb}
use lib.Dec.{eqb}
use lib.ListN.{length, take, drop, get_or, length-append, length-drop}
use lib.Seq.{take_at, drop_at, drop-cons, drop-drop, length-take-le}
use Rattle.octets.specs.Choice.{pick}
use Rattle.octets.specs.Lists.{sum_of}
use Rattle.octets.specs.Texts.{put}
use Rattle.octets.proofs.Texts.{length-zeros}
use Rattle.message.specs.TheRooms.{answer_least, notice_length}
use Rattle.table.specs.TheTable.{Table}
use Rattle.rules.specs.Calls.{Call, Left, Result, handle, ran_first, run}
use Rattle.order.specs.Demand3.{SameLeft, Told, brought, told}
use Rattle.order.proofs.Lists.{form-stays}
use Rattle.order.proofs.Rooms.{brought-decides, rooms-after}
use Rattle.burst.specs.TheBurst.{Burst, Bursted, Taken, all_told, bursted, call_for, calls_for, calls_of, how_many, joined, next_length, whole_messages}
use Rattle.burst.specs.GoingOn.{rest, together}
use Rattle.burst.proofs.Boundaries.{next_fits, whole-next}
use Rattle.order.proofs.Handled.{notice-length, told-length}

-- What a burst that is not refused leaves.
unfoldable pub go_on : Table → Burst → Bursted
go_on t b = bursted t b (how_many t.form (all_told t b) (length b.answers) (length b.notices))

-- PUTS

module _ (room s : List ℕ) where
  pub put-take : (n : ℕ) → length s ≡ n → take n (put room 0 s) ≡ s
  unfolding put
  put-take n e = take_at s _ n e

  pub put-drop : (n : ℕ) → length s ≡ n → drop n (put room 0 s) ≡ drop n room
  unfolding put
  put-drop n e = drop_at s _ n e ∙ ap (λ (k : ℕ). drop k room) (zero-add (length s) ∙ e)

  -- two texts written one behind the other
  pub put_two : (n : ℕ) (r : List ℕ) → length s ≡ n → put room 0 (s ++ r) ≡ take n (put room 0 s) ++ put (drop n room) 0 r
  unfolding put
  put_two n r e =
      let all : length (s ++ r) ≡ n + length r = length-append s r ∙ ap (λ (k : ℕ). k + length r) e in
      let at : 0 + length (s ++ r) ≡ n + (0 + length r) = omega (arith, all) in
      let behind : drop (0 + length (s ++ r)) room ≡ drop (0 + length r) (drop n room) = ap (λ (k : ℕ). drop k room) at ∙ sym (drop-drop (0 + length r) n room) in
      append_assoc s r _
      ∙ ap (λ (d : List ℕ). s ++ (r ++ d)) behind
      ∙ ap (λ (d : List ℕ). d ++ (r ++ drop (0 + length r) (drop n room))) (sym (put-take n e))

-- THE CALLS AND THE MESSAGES AS LISTS

-- the first k of them, as `bursted` has it, in a form that is said
some_of : ℕ → Table → List Call → List (List ℕ) → (answers notices : List ℕ) → List Result → ℕ → Bursted
some_of f t cs ms a n r k =
    let tolds : List Told = map (told f) (run t (take k cs)).replies in
    let answers : List ℕ = joined (map (λ (x : Told). x.answer) tolds) in
    record {
      taken = record {
        number = 0;
        messages = k;
        bytes = sum_of (map length (take k ms));
        answers = length answers;
        notices = sum_of (map (λ (x : Told). x.result.cut) tolds);
      };
      table = (run t (take k cs)).table;
      answers = put a 0 answers;
      notices = put n 0 (joined (map (λ (x : Told). x.notice) tolds));
      results = map (λ (x : Told). x.result) tolds ++ drop k r;
    }

many_of : ℕ → Table → List Call → List (List ℕ) → (answers notices : List ℕ) → List Result → Bursted
many_of f t cs ms a n r = some_of f t cs ms a n r (how_many f (map (told f) (run t cs).replies) (length a) (length n))

on-is : (t : Table) (b : Burst) → go_on t b ≡ many_of t.form t (calls_of t.form b) (whole_messages b.messages) b.answers b.notices b.results
unfolding go_on bursted all_told some_of many_of
on-is t b = refl

-- what one message leaves, by what is told of it
one_of : Told → Table → (message answers notices : List ℕ) → List Result → Bursted
one_of x u m a n r =
    record {
      taken = record { number = 0; messages = 1; bytes = length m; answers = length x.answer; notices = x.result.cut };
      table = u;
      answers = put a 0 x.answer;
      notices = put n 0 x.notice;
      results = x.result ∷ drop 1 r;
    }

module _ (f : ℕ) (t : Table) (c : Call) (cs : List Call) (m : List ℕ) (ms : List (List ℕ)) (a n : List ℕ) (r : List Result) where
  abbrev x : Told
  x = told f (handle t c).reply

  abbrev u : Table
  u = (handle t c).table

  -- what is left of the rooms
  abbrev a' : List ℕ
  a' = drop (length x.answer) a

  abbrev n' : List ℕ
  n' = drop (x.result.cut * notice_length f) n

  module _ (whole : length x.notice ≡ x.result.cut * notice_length f) where
    some-step : (k : ℕ) → some_of f t (c ∷ cs) (m ∷ ms) a n r (suc k) ≡ together f (one_of x u m a n r) (some_of f u cs ms a' n' (drop 1 r) k)
    unfolding some_of one_of together run ran_first joined sum_of
    some-step k i =
        let tolds : List Told = map (told f) (run u (take k cs)).replies in
        let answers : List ℕ = joined (map (λ (y : Told). y.answer) tolds) in
        let notices : List ℕ = joined (map (λ (y : Told). y.notice) tolds) in
        let one : suc k ≡ 1 + k = omega arith in
        let sizes : length (x.answer ++ answers) ≡ length x.answer + length answers = length-append x.answer answers in
        let behind : drop (suc k) r ≡ drop k (drop 1 r) = ap (λ (j : ℕ). drop j r) one ∙ sym (drop-drop k 1 r) in
        record {
          taken = record {
            number = 0;
            messages = one i;
            bytes = length m + sum_of (map length (take k ms));
            answers = sizes i;
            notices = x.result.cut + sum_of (map (λ (y : Told). y.result.cut) tolds);
          };
          table = (run u (take k cs)).table;
          answers = put_two a x.answer (length x.answer) answers refl i;
          notices = put_two n x.notice (x.result.cut * notice_length f) notices whole i;
          results = x.result ∷ (map (λ (y : Told). y.result) tolds ++ behind i);
        }

    many-step : answer_least ≤ length a → notice_length f ≤ length n
        → many_of f t (c ∷ cs) (m ∷ ms) a n r ≡ together f (one_of x u m a n r) (many_of f u cs ms a' n' (drop 1 r))
    unfolding many_of how_many run ran_first pick
    many-step ha hn =
        let left : length a - length x.answer ≡ length a' = sym (length-drop (length x.answer) a) in
        let none : length n - length x.notice ≡ length n' = ap (λ (k : ℕ). length n - k) whole ∙ sym (length-drop (x.result.cut * notice_length f) n) in
        rw (le-leb answer_least (length a) ha, le-leb (notice_length f) (length n) hn, left, none) (some-step _)

-- ONE MESSAGE

-- the next message as a call of its own, in the rooms that are left
unfoldable pub call_in : Burst → Call
call_in b =
    record {
      operator = b.operator;
      message = take (next_length b.messages) b.messages;
      host = b.host;
      realm = b.realm;
      answer = b.answers;
      notice = b.notices;
      wag = not (eqb (get_or b.wags 0 0) 0);
    }

-- what it leaves
unfoldable pub after : Burst → Left → Bursted
after b l =
    record {
      taken = record { number = 0; messages = 1; bytes = next_length b.messages; answers = l.reply.result.length; notices = l.reply.result.cut };
      table = l.table;
      answers = l.reply.answer;
      notices = l.reply.notice;
      results = l.reply.result ∷ drop 1 b.results;
    }

calls_same : (f : ℕ) (x : Taken) (b : Burst) (ms : List (List ℕ)) (ws : List ℕ) → calls_for f b ms ws ≡ calls_for f (rest f x b) ms ws
unfolding calls_for call_for rest
calls_same f x b [] ws = refl
calls_same f x b (m ∷ ms) [] = refl
calls_same f x b (m ∷ ms) (w ∷ ws) = ap (λ (cs : List Call). call_for f b m w ∷ cs) (calls_same f x b ms ws)

module _ (t : Table) (b : Burst) (some : next_length b.messages ≡ 0 → ⊥) (word : 0 < length b.wags) where
  abbrev fm : ℕ
  fm = t.form

  abbrev m₁ : List ℕ
  m₁ = take (next_length b.messages) b.messages

  abbrev c₁ : Call
  c₁ = call_for fm b m₁ (get_or b.wags 0 0)

  abbrev l₁ : Left
  l₁ = handle t (call_in b)

  abbrev x₁ : Taken
  x₁ = (after b l₁).taken

  abbrev b₁ : Burst
  b₁ = rest fm x₁ b

  first-message : whole_messages b.messages ≡ m₁ ∷ whole_messages b₁.messages
  unfolding rest after
  first-message = whole-next b.messages some

  first-call : calls_of fm b ≡ c₁ ∷ calls_of fm b₁
  unfolding calls_of calls_for rest after
  first-call =
      let words : b.wags ≡ get_or b.wags 0 0 ∷ drop 1 b.wags = drop-cons b.wags 0 0 word in
      ap₂ (calls_for fm b) first-message words
      ∙ ap (λ (cs : List Call). c₁ ∷ cs) (calls_same fm x₁ b (whole_messages b₁.messages) (drop 1 b.wags))

  module _ (ha : answer_least ≤ length b.answers) (hn : notice_length fm ≤ length b.notices) where
    same-brought : brought fm c₁ ≡ brought fm (call_in b)
    unfolding brought call_for call_in
    same-brought =
        rw (
          length-zeros answer_least,
          length-zeros (notice_length fm),
          le-leb answer_least (length b.answers) ha,
          le-leb (notice_length fm) (length b.notices) hn,
          le-leb (notice_length fm) (notice_length fm) (omega arith),
        ) refl

    same_left : SameLeft fm (handle t c₁) l₁
    same_left = brought-decides t c₁ (call_in b) same-brought

    abbrev y₁ : Told
    y₁ = told fm l₁.reply

    whole-notice : length y₁.notice ≡ y₁.result.cut * notice_length fm
    unfolding told call_in
    whole-notice = notice-length t (call_in b) hn

    whole-first : length (told fm (handle t c₁).reply).notice ≡ (told fm (handle t c₁).reply).result.cut * notice_length fm
    whole-first = subst (λ (y : Told). length y.notice ≡ y.result.cut * notice_length fm) (sym same_left.reply) whole-notice

    one-is : one_of y₁ l₁.table m₁ b.answers b.notices b.results ≡ after b l₁
    unfolding one_of after told call_in
    one-is i =
        let size : length m₁ ≡ next_length b.messages = length-take-le (next_length b.messages) b.messages (next_fits b.messages) in
        record {
          taken = record { number = 0; messages = 1; bytes = size i; answers = told-length t (call_in b) i; notices = l₁.reply.result.cut };
          table = l₁.table;
          answers = sym (rooms-after t (call_in b)).answer i;
          notices = sym (rooms-after t (call_in b)).notice i;
          results = l₁.reply.result ∷ drop 1 b.results;
        }

    pub form-after : l₁.table.form ≡ fm
    unfolding run ran_first
    form-after = form-stays t (call_in b ∷ [])

    abbrev rest_of : Told → Table → Bursted
    rest_of y v = many_of fm v (calls_of fm b₁) (whole_messages b₁.messages) (drop (length y.answer) b.answers) (drop (y.result.cut * notice_length fm) b.notices) (drop 1 b.results)

    rest-is : rest_of y₁ l₁.table ≡ go_on l₁.table b₁
    unfolding rest after told
    rest-is =
        ap (λ (k : ℕ). many_of fm l₁.table (calls_of fm b₁) (whole_messages b₁.messages) (drop k b.answers) b₁.notices b₁.results) (told-length t (call_in b))
        ∙ ap (λ (g : ℕ). many_of g l₁.table (calls_of g b₁) (whole_messages b₁.messages) b₁.answers b₁.notices b₁.results) (sym form-after)
        ∙ sym (on-is l₁.table b₁)

    pub step : go_on t b ≡ together fm (after b l₁) (go_on l₁.table b₁)
    step =
        on-is t b
        ∙ ap₂ (λ (cs : List Call) (ms : List (List ℕ)). many_of fm t cs ms b.answers b.notices b.results) first-call first-message
        ∙ many-step fm t c₁ (calls_of fm b₁) m₁ (whole_messages b₁.messages) b.answers b.notices b.results whole-first ha hn
        ∙ ap₂ (λ (y : Told) (v : Table). together fm (one_of y v m₁ b.answers b.notices b.results) (rest_of y v)) same_left.reply same_left.table
        ∙ ap₂ (together fm) one-is rest-is

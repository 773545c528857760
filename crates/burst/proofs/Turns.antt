-- The turns of the loop: what is written so far, put before what the burst leaves of the rest, is always the same.
use mathlib.Core.Path.{◌≡◌, refl, sym, ap, ◌∙◌}
use mathlib.Core.Bool.{false, ◌&&◌}
use mathlib.Core.List.{List, [], ◌∷◌, ◌++◌, append_assoc}
use Prim.Native.Nat.{ℕ, ◌+◌, ◌*◌, ◌≤◌, ◌<◌}
use native.Mathlib.Nat.{add-mul, add-zero, zero-add, zero-mul}
use native.Mathlib.Omega.{arith}
use borrow.Author.Tests.{le-leb, leb-false, leb-true, lt-leb}
use lib.Dec.{leb}
use lib.ListN.{length, take, drop, take-append-drop}
use lib.Seq.{drop-append-add, drop-drop, length-take-le, take-append-add}
use Rattle.octets.specs.Choice.{pick}
use Rattle.octets.specs.Lists.{sum_of}
use Rattle.octets.proofs.Lists.{by-test}
use Rattle.octets.proofs.Texts.{put-nothing}
use Rattle.message.specs.TheRooms.{answer_least, notice_length}
use Rattle.table.specs.TheTable.{Table}
use Rattle.rules.specs.Calls.{Left, Result, handle, run}
use Rattle.order.specs.Demand3.{Told, told}
use Rattle.order.proofs.Rooms.{rooms-after}
use Rattle.burst.specs.TheBurst.{Burst, Bursted, all_told, bursted, calls_for, calls_of, how_many, joined, next_length, refused_burst}
use Rattle.burst.specs.GoingOn.{rest, together}
use Rattle.burst.proofs.Boundaries.{whole-none}
use Rattle.order.proofs.Handled.{notice-length, told-length}
use Rattle.burst.proofs.Steps.{after, call_in, form-after, go_on, put-drop, step}

-- WHERE IT STOPS

module _ (t : Table) (b : Burst) where
  none-taken : bursted t b 0 ≡ refused_burst t b 0
  unfolding bursted refused_burst run joined sum_of
  none-taken i =
      record {
        taken = record { number = 0; messages = 0; bytes = 0; answers = 0; notices = 0 };
        table = t;
        answers = put-nothing b.answers 0 i;
        notices = put-nothing b.notices 0 i;
        results = b.results;
      }

  -- no whole message is left
  pub stop-end : next_length b.messages ≡ 0 → go_on t b ≡ refused_burst t b 0
  unfolding go_on all_told calls_of calls_for run how_many
  stop-end e = rw (whole-none b.messages e) none-taken

  no_room : (f : ℕ) (xs : List Told) (a n : ℕ) → leb answer_least a && leb (notice_length f) n ≡ false → how_many f xs a n ≡ 0
  unfolding how_many pick
  no_room f [] a n e = refl
  no_room f (x ∷ xs) a n e = rw e

  -- there is too little room for an answer, or for a notice
  pub stop-answers : length b.answers < answer_least → go_on t b ≡ refused_burst t b 0
  unfolding go_on
  stop-answers h = rw (no_room t.form (all_told t b) (length b.answers) (length b.notices) (rw (lt-leb answer_least (length b.answers) h))) none-taken

  pub stop-notices : length b.notices < notice_length t.form → go_on t b ≡ refused_burst t b 0
  unfolding go_on
  stop-notices h =
      rw (no_room t.form (all_told t b) (length b.answers) (length b.notices)
      (rw (lt-leb (notice_length t.form) (length b.notices) h) (by-test (leb answer_least (length b.answers)) (λ e. rw e) (λ e. rw e)))) none-taken

-- the length of the next message that is taken, 0 where the burst stops
module _ (answers notices room next : ℕ) where
  abbrev pub next_taken : ℕ
  next_taken = pick (leb answer_least answers && leb room notices) next 0

  pub no-answer-room : answers < answer_least → next_taken ≡ 0
  unfolding pick
  no-answer-room h = rw (lt-leb answer_least answers h)

  pub no-notice-room : notices < room → next_taken ≡ 0
  unfolding pick
  no-notice-room h = by-test (leb answer_least answers) (λ e. rw (e, lt-leb room notices h)) (λ e. rw e)

  pub room-for-both : answer_least ≤ answers → room ≤ notices → next_taken ≡ next
  unfolding pick
  room-for-both h k = rw (le-leb answer_least answers h, le-leb room notices k)

  -- where it is not 0
  pub record Taking (n : ℕ) : Type 0 where
    pub answers-fit : answer_least ≤ answers
    pub notices-fit : room ≤ notices
    pub next-is : n ≡ next

  pub taking : (n : ℕ) → n ≡ next_taken → (n ≡ 0 → ⊥) → Taking n
  unfolding pick
  taking n e some =
      by-test (leb answer_least answers)
      (λ h.
      by-test (leb room notices)
      (λ k. record { answers-fit = leb-true answer_least answers h; notices-fit = leb-true room notices k; next-is = e ∙ rw (h, k) refl })
      (λ k. absurd (some (e ∙ rw (h, k) refl))))
      (λ h. absurd (some (e ∙ rw h refl)))

module _ (t : Table) (b : Burst) where
  pub stopped : next_taken (length b.answers) (length b.notices) (notice_length t.form) (next_length b.messages) ≡ 0 → go_on t b ≡ refused_burst t b 0
  unfolding pick
  stopped e =
      by-test (leb answer_least (length b.answers))
      (λ h.
      by-test (leb (notice_length t.form) (length b.notices))
      (λ k. stop-end t b (rw (h, k) at e))
      (λ k. stop-notices t b (leb-false (notice_length t.form) (length b.notices) k)))
      (λ h. stop-answers t b (leb-false answer_least (length b.answers) h))

-- ONE BEHIND ANOTHER

module _ {A : Type 0} (l s : List A) (k j : ℕ) (h : k ≤ length l) where
  take-both : take (k + j) (take k l ++ s) ≡ take k l ++ take j s
  take-both = ap (λ (n : ℕ). take (n + j) (take k l ++ s)) (sym (length-take-le k l h)) ∙ take-append-add (take k l) s j

  drop-both : drop (k + j) (take k l ++ s) ≡ drop j s
  drop-both = ap (λ (n : ℕ). drop (n + j) (take k l ++ s)) (sym (length-take-le k l h)) ∙ drop-append-add (take k l) s j

-- no more is said to be written than there is
pub record Within (f : ℕ) (x : Bursted) : Type 0 where
  pub answers : x.taken.answers ≤ length x.answers
  pub notices : x.taken.notices * notice_length f ≤ length x.notices
  pub results : x.taken.messages ≤ length x.results

module _ (f : ℕ) (x y : Bursted) (w : Within f x) where
  abbrev xy : Bursted
  xy = together f x y

  sums : (x.taken.notices + y.taken.notices) * notice_length f ≡ x.taken.notices * notice_length f + y.taken.notices * notice_length f
  sums = add-mul x.taken.notices y.taken.notices (notice_length f)

  written-answers : take xy.taken.answers xy.answers ≡ take x.taken.answers x.answers ++ take y.taken.answers y.answers
  unfolding together
  written-answers = take-both x.answers y.answers x.taken.answers y.taken.answers w.answers

  written-notices : take (xy.taken.notices * notice_length f) xy.notices
      ≡ take (x.taken.notices * notice_length f) x.notices ++ take (y.taken.notices * notice_length f) y.notices
  unfolding together
  written-notices =
      ap (λ (k : ℕ). take k (take (x.taken.notices * notice_length f) x.notices ++ y.notices)) sums
      ∙ take-both x.notices y.notices (x.taken.notices * notice_length f) (y.taken.notices * notice_length f) w.notices

  written-results : take xy.taken.messages xy.results ≡ take x.taken.messages x.results ++ take y.taken.messages y.results
  unfolding together
  written-results = take-both x.results y.results x.taken.messages y.taken.messages w.results

  pub together-assoc : (z : Bursted) → together f x (together f y z) ≡ together f xy z
  unfolding together
  together-assoc z i =
      let messages : x.taken.messages + (y.taken.messages + z.taken.messages) ≡ x.taken.messages + y.taken.messages + z.taken.messages = omega arith in
      let bytes : x.taken.bytes + (y.taken.bytes + z.taken.bytes) ≡ x.taken.bytes + y.taken.bytes + z.taken.bytes = omega arith in
      let answers : x.taken.answers + (y.taken.answers + z.taken.answers) ≡ x.taken.answers + y.taken.answers + z.taken.answers = omega arith in
      let notices : x.taken.notices + (y.taken.notices + z.taken.notices) ≡ x.taken.notices + y.taken.notices + z.taken.notices = omega arith in
      let a : take x.taken.answers x.answers ++ (take y.taken.answers y.answers ++ z.answers) ≡ take xy.taken.answers xy.answers ++ z.answers =
      sym (append_assoc (take x.taken.answers x.answers) (take y.taken.answers y.answers) z.answers) ∙ ap (λ (s : List ℕ). s ++ z.answers) (sym written-answers) in
      let n : take (x.taken.notices * notice_length f) x.notices ++ (take (y.taken.notices * notice_length f) y.notices ++ z.notices) ≡ take (xy.taken.notices * notice_length f) xy.notices ++ z.notices =
      sym (append_assoc (take (x.taken.notices * notice_length f) x.notices) (take (y.taken.notices * notice_length f) y.notices) z.notices) ∙ ap (λ (s : List ℕ). s ++ z.notices) (sym written-notices) in
      let r : take x.taken.messages x.results ++ (take y.taken.messages y.results ++ z.results) ≡ take xy.taken.messages xy.results ++ z.results =
      sym (append_assoc (take x.taken.messages x.results) (take y.taken.messages y.results) z.results) ∙ ap (λ (s : List Result). s ++ z.results) (sym written-results) in
      record {
        taken = record { number = z.taken.number; messages = messages i; bytes = bytes i; answers = answers i; notices = notices i };
        table = z.table;
        answers = a i;
        notices = n i;
        results = r i;
      }

-- THE TURNS

-- the burst with the rooms as they stand now
unfoldable pub standing : Burst → Bursted → Burst
standing b x =
    record {
      operator = b.operator;
      host = b.host;
      realm = b.realm;
      messages = b.messages;
      wags = b.wags;
      answers = x.answers;
      notices = x.notices;
      results = x.results;
    }

-- what is left of it, and what is left in the end
unfoldable pub left_of : Burst → Bursted → Burst
left_of b x = rest x.table.form x.taken (standing b x)

unfoldable pub in_the_end : Burst → Bursted → Bursted
in_the_end b x = together x.table.form x (go_on x.table (left_of b x))

together-first : (f : ℕ) (t : Table) (b : Burst) (y : Bursted) → together f (refused_burst t b 0) y ≡ y
unfolding together refused_burst
together-first f t b y i =
    let none : take (0 * notice_length f) b.notices ++ y.notices ≡ y.notices = ap (λ (k : ℕ). take k b.notices ++ y.notices) (zero-mul (notice_length f)) in
    record {
      taken = record {
        number = y.taken.number;
        messages = zero-add y.taken.messages i;
        bytes = zero-add y.taken.bytes i;
        answers = zero-add y.taken.answers i;
        notices = zero-add y.taken.notices i;
      };
      table = y.table;
      answers = y.answers;
      notices = none i;
      results = y.results;
    }

left-first : (t : Table) (b : Burst) → left_of b (refused_burst t b 0) ≡ b
unfolding left_of rest standing refused_burst
left-first t b i =
    let all : drop (0 * notice_length t.form) b.notices ≡ b.notices = ap (λ (k : ℕ). drop k b.notices) (zero-mul (notice_length t.form)) in
    record {
      operator = b.operator;
      host = b.host;
      realm = b.realm;
      messages = b.messages;
      wags = b.wags;
      answers = b.answers;
      notices = all i;
      results = b.results;
    }

pub at_first : (t : Table) (b : Burst) → in_the_end b (refused_burst t b 0) ≡ go_on t b
unfolding in_the_end refused_burst
at_first t b = together-first t.form t b (go_on t (left_of b (refused_burst t b 0))) ∙ ap (go_on t) (left-first t b)

-- where it stops, what is written is all
together-last : (b : Burst) (x : Bursted) → x.taken.number ≡ 0 → together x.table.form x (refused_burst x.table (left_of b x) 0) ≡ x
unfolding together refused_burst left_of rest standing
together-last b x z i =
    record {
      taken = record {
        number = sym z i;
        messages = add-zero x.taken.messages i;
        bytes = add-zero x.taken.bytes i;
        answers = add-zero x.taken.answers i;
        notices = add-zero x.taken.notices i;
      };
      table = x.table;
      answers = take-append-drop x.taken.answers x.answers i;
      notices = take-append-drop (x.taken.notices * notice_length x.table.form) x.notices i;
      results = take-append-drop x.taken.messages x.results i;
    }

pub at_last : (b : Burst) (x : Bursted) → x.taken.number ≡ 0 → go_on x.table (left_of b x) ≡ refused_burst x.table (left_of b x) 0 → in_the_end b x ≡ x
unfolding in_the_end
at_last b x z e = ap (together x.table.form x) e ∙ together-last b x z

-- one turn
module _ (b : Burst) (x : Bursted) (w : Within x.table.form x) (some : next_length (left_of b x).messages ≡ 0 → ⊥) (word : 0 < length (left_of b x).wags)
    (ha : answer_least ≤ length (left_of b x).answers) (hn : notice_length x.table.form ≤ length (left_of b x).notices) where
  abbrev b₁ : Burst
  b₁ = left_of b x

  abbrev l₁ : Left
  l₁ = handle x.table (call_in b₁)

  abbrev y₁ : Bursted
  y₁ = after b₁ l₁

  abbrev x₁ : Bursted
  x₁ = together x.table.form x y₁

  left-answers : drop x₁.taken.answers x₁.answers ≡ drop y₁.taken.answers b₁.answers
  unfolding together after told call_in
  left-answers =
      let s : List ℕ = (told x.table.form l₁.reply).answer in
      drop-both x.answers l₁.reply.answer x.taken.answers l₁.reply.result.length w.answers
      ∙ ap (drop l₁.reply.result.length) (rooms-after x.table (call_in b₁)).answer
      ∙ put-drop b₁.answers s l₁.reply.result.length (told-length x.table (call_in b₁))

  left-notices : drop (x₁.taken.notices * notice_length x.table.form) x₁.notices ≡ drop (y₁.taken.notices * notice_length x.table.form) b₁.notices
  unfolding together after told call_in
  left-notices =
      let s : List ℕ = (told x.table.form l₁.reply).notice in
      let k : ℕ = notice_length x.table.form in
      ap (λ (n : ℕ). drop n (take (x.taken.notices * k) x.notices ++ l₁.reply.notice)) (add-mul x.taken.notices l₁.reply.result.cut k)
      ∙ drop-both x.notices l₁.reply.notice (x.taken.notices * k) (l₁.reply.result.cut * k) w.notices
      ∙ ap (drop (l₁.reply.result.cut * k)) (rooms-after x.table (call_in b₁)).notice
      ∙ put-drop b₁.notices s (l₁.reply.result.cut * k) (notice-length x.table (call_in b₁) hn)

  left-results : drop x₁.taken.messages x₁.results ≡ drop 1 b₁.results
  unfolding together after
  left-results = drop-both x.results (l₁.reply.result ∷ drop 1 b₁.results) x.taken.messages 1 w.results

  left_is : rest x.table.form x₁.taken (standing b x₁) ≡ rest x.table.form y₁.taken b₁
  unfolding rest standing left_of together after
  left_is i =
      record {
        operator = b.operator;
        host = b.host;
        realm = b.realm;
        messages = sym (drop-drop y₁.taken.bytes x.taken.bytes b.messages) i;
        wags = sym (drop-drop 1 x.taken.messages b.wags) i;
        answers = left-answers i;
        notices = left-notices i;
        results = left-results i;
      }

  pub turn : in_the_end b x ≡ in_the_end b x₁
  unfolding in_the_end left_of together after
  turn =
      let f : ℕ = x.table.form in
      let go : go_on x.table b₁ ≡ together f y₁ (go_on l₁.table (rest f y₁.taken b₁)) = step x.table b₁ some word ha hn in
      let form : f ≡ l₁.table.form = sym (form-after x.table b₁ some word ha hn) in
      ap (together f x) go
      ∙ together-assoc f x y₁ w (go_on l₁.table (rest f y₁.taken b₁))
      ∙ ap (λ (d : Burst). together f x₁ (go_on l₁.table d)) (sym left_is)
      ∙ ap (λ (g : ℕ). together g x₁ (go_on l₁.table (rest g x₁.taken (standing b x₁)))) form

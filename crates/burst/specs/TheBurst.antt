-- A burst (W2): messages back to back in one call, each with its word from the WAG; answers, notices and results come the same way.
use Rattle.std.specs.Prelude.{◌&&◌, not, List, [], ◌∷◌, ◌++◌, map, ℕ, zero, suc, ◌-◌, eqb, leb, length, take, drop}
use Rattle.octets.specs.Choice.{pick, require, first_of, within}
use Rattle.octets.specs.Lists.{sum_of}
use Rattle.octets.specs.Numbers.{net24}
use Rattle.octets.specs.Texts.{put, zeros}
use Rattle.message.specs.TheRooms.{answer_least, notice_length}
use Rattle.table.specs.TheTable.{Table, first_number}
use Rattle.rules.specs.Calls.{Call, Result, Ran, run}
use Rattle.order.specs.Demand3.{Told, told}

-- WHAT IS LENT WITH THE TABLE

-- The operator that all messages come from; the own names; the messages, end to end; a byte for each as the word from the WAG, 0 for no; rooms for
-- answers and for notices, and places for results, each with what stands there.
pub record Burst : Type 0 where
  pub operator : ℕ
  pub host : List ℕ
  pub realm : List ℕ
  pub messages : List ℕ
  pub wags : List ℕ
  pub answers : List ℕ
  pub notices : List ℕ
  pub results : List Result

-- WHERE MESSAGES END

-- How long the next message is, by its header: 0 where fewer than 4 bytes are left, or its length is under 20 or runs past the end. Nothing else is
-- asked of it here.
unfoldable pub next_length : List ℕ → ℕ
next_length s = pick (leb 4 (length s) && within 20 (length s) (net24 s 1)) (net24 s 1) 0

-- The whole messages before the first bad boundary, or the end; a message has 20 bytes or more, so that there are no more than bytes.
unfoldable pub whole_up_to : ℕ → List ℕ → List (List ℕ)
whole_up_to zero s = []
whole_up_to (suc n) s = pick (eqb (next_length s) 0) [] (take (next_length s) s ∷ whole_up_to n (drop (next_length s) s))

unfoldable pub whole_messages : List ℕ → List (List ℕ)
whole_messages s = whole_up_to (length s) s

-- ONE BY ONE

-- Each message as a call of its own, with its word and with rooms that are large enough.
unfoldable pub call_for : (form : ℕ) → Burst → (message : List ℕ) → (wag : ℕ) → Call
call_for f b m w =
    record {
      operator = b.operator;
      message = m;
      host = b.host;
      realm = b.realm;
      answer = zeros answer_least;
      notice = zeros (notice_length f);
      wag = not (eqb w 0);
    }

unfoldable pub calls_for : (form : ℕ) → Burst → (messages : List (List ℕ)) → (wags : List ℕ) → List Call
calls_for f b [] ws = []
calls_for f b (m ∷ ms) [] = []
calls_for f b (m ∷ ms) (w ∷ ws) = call_for f b m w ∷ calls_for f b ms ws

unfoldable pub calls_of : (form : ℕ) → Burst → List Call
calls_of f b = calls_for f b (whole_messages b.messages) b.wags

-- What each would be told if all were taken.
unfoldable pub all_told : Table → Burst → List Told
all_told t b = map (told t.form) (run t (calls_of t.form b)).replies

-- How many are taken: the burst stops before a message for which fewer than 5,120 bytes are left for answers, or fewer than a notice has for notices.
-- What is told of a message is what it uses up of them.
unfoldable pub how_many : (form : ℕ) → List Told → (answers notices : ℕ) → ℕ
how_many f [] a n = 0
how_many f (x ∷ xs) a n =
    pick (leb answer_least a && leb (notice_length f) n) (suc (how_many f xs (a - length x.answer) (n - length x.notice))) 0

-- REFUSALS

-- In order: 1, no table; 33, the operator is over 15; 2, the own host or realm is not 1 to 128 bytes; 18, there are fewer words or fewer places for
-- results than whole messages, however many the rooms would let in.
unfoldable pub burst_number : Table → Burst → ℕ
burst_number t b =
    let whole : ℕ = length (whole_messages b.messages) in
    first_of
    (first_number t b.operator
    ∷ require (within 1 128 (length b.host) && within 1 128 (length b.realm)) 2
    ∷ require (leb whole (length b.wags) && leb whole (length b.results)) 18
    ∷ [])

-- WHAT A BURST LEAVES

-- What is returned: the number, 0 on success; how many messages were taken and how many bytes they have; how many bytes of answers and how many
-- notices were written.
pub record Taken : Type 0 where
  pub number : ℕ
  pub messages : ℕ
  pub bytes : ℕ
  pub answers : ℕ
  pub notices : ℕ

pub record Bursted : Type 0 where
  pub taken : Taken
  pub table : Table
  pub answers : List ℕ
  pub notices : List ℕ
  pub results : List Result

unfoldable pub joined : List (List ℕ) → List ℕ
joined [] = []
joined (s ∷ ss) = s ++ joined ss

-- The first k messages, one by one: their answers joined, their notices joined, a result for each, and the table in the end. Everything behind stays.
unfoldable pub bursted : Table → Burst → (k : ℕ) → Bursted
bursted t b k =
    let ran : Ran = run t (take k (calls_of t.form b)) in
    let tolds : List Told = map (told t.form) ran.replies in
    let answers : List ℕ = joined (map (λ (x : Told). x.answer) tolds) in
    record {
      taken = record {
        number = 0;
        messages = k;
        bytes = sum_of (map length (take k (whole_messages b.messages)));
        answers = length answers;
        notices = sum_of (map (λ (x : Told). x.result.cut) tolds);
      };
      table = ran.table;
      answers = put b.answers 0 answers;
      notices = put b.notices 0 (joined (map (λ (x : Told). x.notice) tolds));
      results = map (λ (x : Told). x.result) tolds ++ drop k b.results;
    }

-- A refusal: the number, zeros, and all that is lent as it was.
unfoldable pub refused_burst : Table → Burst → ℕ → Bursted
refused_burst t b n =
    record {
      taken = record { number = n; messages = 0; bytes = 0; answers = 0; notices = 0 };
      table = t;
      answers = b.answers;
      notices = b.notices;
      results = b.results;
    }

unfoldable pub burst : Table → Burst → Bursted
burst t b =
    let k : ℕ = how_many t.form (all_told t b) (length b.answers) (length b.notices) in
    pick (eqb (burst_number t b) 0) (bursted t b k) (refused_burst t b (burst_number t b))

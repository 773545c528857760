-- The numbers of a case, the order of its comparisons and one case as a whole, computed by the definitions alone. What a call of ours gives is worked in `rules`, and answers in `likeness`.
use Rattle.std.specs.Prelude.{Bool, true, ◌&&◌, List, [], ◌∷◌, ◌++◌, ℕ, suc, ◌+◌, eqb, length, get_or, take, drop}
use Rattle.octets.specs.Numbers.{in24}
use Rattle.octets.specs.Texts.{part, zeros}
use Rattle.message.specs.WorkedCases.{board, open_at, own_host, own_realm, session}
use Rattle.rules.specs.Calls.{Call, Left, handle}
use Rattle.rules.specs.WorkedCases.{ask, start}
use Rattle.order.specs.Demand3.{Told, told}
use Rattle.likeness.specs.TheSameAnswer.{Finding}
use Rattle.likeness.specs.WorkedCases.{ours, tells}
use Rattle.judge.specs.TheJudge.{case_number, judged}
use Rattle.judge.specs.Code.{between}

-- A case by lengths alone: of the row before and after, and of the names and the rooms of the call.
unfoldable pub lengths : (form before after operator host realm answer notice : ℕ) → ℕ
lengths f before after o host realm answer notice =
    case_number
    (record {
      form = f;
      before = zeros before;
      after = zeros after;
      call = record { operator = o; message = []; host = zeros host; realm = zeros realm; answer = zeros answer; notice = zeros notice; wag = true };
      answer = [];
      notice = [];
    })

-- One row each of form 1 and of form 2; a row of the other form, two rows, and a form that there is not; then each number before those behind it.
unfoldable pub the_numbers : Bool
the_numbers =
    eqb (lengths 1 4608 4608 15 1 128 5120 256) 0
    && (eqb (lengths 2 8704 8704 0 128 1 5120 384) 0
    && (eqb (lengths 2 4608 4608 0 1 1 5120 384) 1
    && (eqb (lengths 1 4608 9216 0 1 1 5120 256) 1
    && (eqb (lengths 3 12800 12800 16 0 0 0 0) 1
    && (eqb (lengths 1 4608 4608 16 0 1 5120 256) 33
    && (eqb (lengths 1 4608 4608 0 1 129 0 0) 2
    && (eqb (lengths 1 4608 4608 0 0 1 5120 256) 2
    && (eqb (lengths 1 4608 4608 0 1 1 5119 0) 3
    && (eqb (lengths 1 4608 4608 0 1 1 5120 255) 4 && eqb (lengths 2 8704 8704 0 1 1 5120 383) 4)))))))))

-- The answer before the notice, the notice before the row; a notice that is missing and one that is not due; the byte of the row.
unfoldable pub the_order : Bool
the_order =
    tells (between ours ours (1 ∷ 2 ∷ []) (1 ∷ 2 ∷ []) (3 ∷ 4 ∷ []) (3 ∷ 4 ∷ [])) 0 0 0
    && (tells (between ours [] (1 ∷ 2 ∷ []) (1 ∷ 3 ∷ []) (3 ∷ 4 ∷ []) (4 ∷ 4 ∷ [])) 32 1 0
    && (tells (between ours ours (1 ∷ 2 ∷ []) (1 ∷ 3 ∷ []) (3 ∷ 4 ∷ []) (4 ∷ 4 ∷ [])) 32 5 1
    && (tells (between ours ours (1 ∷ 2 ∷ []) [] (3 ∷ 4 ∷ []) (4 ∷ 4 ∷ [])) 32 5 0
    && (tells (between ours ours [] (1 ∷ 2 ∷ []) (3 ∷ 4 ∷ []) (4 ∷ 4 ∷ [])) 32 5 0
    && tells (between ours ours [] [] (3 ∷ 4 ∷ []) (3 ∷ 5 ∷ [])) 32 6 1))))

-- A WHOLE CASE: the third opening of the worked cases of `rules`, which cuts the first.

unfoldable pub row_of_two : List ℕ
row_of_two = let a : Left = ask start (open_at (session 97) board) in (ask a.table (open_at (session 98) board)).table.bytes

unfoldable pub third : Call
third = record { operator = 0; message = open_at (session 99) board; host = own_host; realm = own_realm; answer = zeros 5120; notice = zeros 256; wag = true }

unfoldable pub judged_as : (before answer notice after : List ℕ) → Finding
judged_as before answer notice after = judged (record { form = 1; before = before; after = after; call = third; answer = answer; notice = notice })

-- Session-Id ends at byte 32 of our answer, the two AVPs of authorization at 56, Result-Code at 68, and the answer at 136.
unfoldable pub auth_behind : List ℕ → List ℕ
auth_behind answer = take 32 answer ++ (drop 56 answer ++ part answer 32 24)

unfoldable pub result_twice : List ℕ → List ℕ
result_twice answer = 1 ∷ in24 (length answer + 12) ++ (drop 4 answer ++ part answer 56 12)

unfoldable pub byte_more : ℕ → List ℕ → List ℕ
byte_more i row = take i row ++ (suc (get_or row i 0) ∷ drop (suc i) row)

-- What our own server writes; the same in another order; Result-Code once more, behind the others; no notice; and a row with another byte.
unfoldable pub the_whole : Bool
the_whole =
    let before : List ℕ = row_of_two in
    let l : Left = handle (record { form = 1; bytes = before }) third in
    let own : Told = told 1 l.reply in
    let row : List ℕ = l.table.bytes in
    tells (judged_as before own.answer own.notice row) 0 0 0
    && (tells (judged_as before (auth_behind own.answer) own.notice row) 0 0 0
    && (tells (judged_as before (result_twice own.answer) own.notice row) 32 3 136
    && (tells (judged_as before own.answer [] row) 32 5 0 && tells (judged_as before own.answer own.notice (byte_more 515 row)) 32 6 515)))

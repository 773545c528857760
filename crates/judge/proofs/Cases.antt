-- The tests of a case, and the three comparisons: a law for each way out.
use mathlib.Core.Path.{◌≡◌, refl}
use mathlib.Core.Bool.{true, false, ◌&&◌}
use mathlib.Core.List.{List}
use Prim.Native.Nat.{ℕ, zero, suc, ◌≤◌, ◌<◌}
use native.Mathlib.Omega.{arith}
use borrow.Author.Tests.{eq-eqb, ne_eqb, le-leb, lt-leb, leb-true}
use lib.Dec.{eqb, leb}
use lib.ListN.{length}
use Rattle.octets.specs.Choice.{pick, require, first_of, within}
use Rattle.octets.proofs.Choice.{first_passes, others-pass, passed}
use Rattle.message.specs.TheRooms.{answer_least, notice_length}
use Rattle.table.specs.TheTable.{is_form, row_length}
use Rattle.likeness.specs.TheSameAnswer.{Finding, or_else, compared, answer_finding}
use Rattle.judge.specs.TheJudge.{Case, is_one_row, case_number}
use Rattle.judge.specs.Code.{between}

-- ONE ROW

module _ (f : ℕ) (row : List ℕ) where
  pub row-1 : f ≡ 1 → is_one_row f row ≡ eqb (length row) (row_length 1)
  unfolding is_one_row is_form within row_length
  row-1 e = rw e

  pub row-2 : f ≡ 2 → is_one_row f row ≡ eqb (length row) (row_length 2)
  unfolding is_one_row is_form within row_length
  row-2 e = rw e

other : (f : ℕ) → (f ≡ 1 → ⊥) → (f ≡ 2 → ⊥) → within 1 2 f ≡ false
unfolding within
other zero a b = refl
other (suc zero) a b = absurd (a (omega arith))
other (suc (suc zero)) a b = absurd (b (omega arith))
other (suc (suc (suc n))) a b = rw (lt-leb (suc (suc (suc n))) 2 (omega arith), le-leb 1 (suc (suc (suc n))) (omega arith))

pub row-none : (f : ℕ) (row : List ℕ) → (f ≡ 1 → ⊥) → (f ≡ 2 → ⊥) → is_one_row f row ≡ false
unfolding is_one_row is_form
row-none f row a b = rw (other f a b)

-- THE TESTS

module _ (j : Case) where
  pub case-before : is_one_row j.form j.before ≡ false → case_number j ≡ 1
  unfolding case_number first_of require pick
  case-before e = simp e

  module _ (b : is_one_row j.form j.before ≡ true) where
    pub case-after : is_one_row j.form j.after ≡ false → case_number j ≡ 1
    unfolding case_number first_of require pick
    case-after e = simp (b, e)

    module _ (a : is_one_row j.form j.after ≡ true) where
      pub case-operator : 15 < j.call.operator → case_number j ≡ 33
      unfolding case_number first_of require pick
      case-operator e = simp (b, a, lt-leb j.call.operator 15 e)

      module _ (o : j.call.operator ≤ 15) where
        pub case-host : within 1 128 (length j.call.host) ≡ false → case_number j ≡ 2
        unfolding case_number first_of require pick
        case-host e = simp (b, a, le-leb j.call.operator 15 o, e)

        module _ (h : within 1 128 (length j.call.host) ≡ true) where
          pub case-realm : within 1 128 (length j.call.realm) ≡ false → case_number j ≡ 2
          unfolding case_number first_of require pick
          case-realm e = simp (b, a, le-leb j.call.operator 15 o, h, e)

          module _ (r : within 1 128 (length j.call.realm) ≡ true) where
            pub case-answer : length j.call.answer < answer_least → case_number j ≡ 3
            unfolding case_number first_of require pick
            case-answer e = simp (b, a, le-leb j.call.operator 15 o, h, r, lt-leb answer_least (length j.call.answer) e)

            module _ (l : answer_least ≤ length j.call.answer) where
              pub case-notice : length j.call.notice < notice_length j.form → case_number j ≡ 4
              unfolding case_number first_of require pick
              case-notice e =
                  simp (b, a, le-leb j.call.operator 15 o, h, r, le-leb answer_least (length j.call.answer) l, lt-leb (notice_length j.form) (length j.call.notice) e)

              pub case-none : notice_length j.form ≤ length j.call.notice → case_number j ≡ 0
              unfolding case_number first_of require pick
              case-none e =
                  simp (b, a, le-leb j.call.operator 15 o, h, r, le-leb answer_least (length j.call.answer) l, le-leb (notice_length j.form) (length j.call.notice) e)

  -- where no test fails, a notice has room
  pub notice-fits : case_number j ≡ 0 → notice_length j.form ≤ length j.call.notice
  unfolding case_number
  notice-fits e =
      let e1 = others-pass (require (is_one_row j.form j.before && is_one_row j.form j.after) 1) _ e in
      let e2 = others-pass (require (leb j.call.operator 15) 33) _ e1 in
      let e3 = others-pass (require (within 1 128 (length j.call.host) && within 1 128 (length j.call.realm)) 2) _ e2 in
      let e4 = others-pass (require (leb answer_least (length j.call.answer)) 3) _ e3 in
      let e5 = first_passes (require (leb (notice_length j.form) (length j.call.notice)) 4) _ e4 in
      leb-true (notice_length j.form) (length j.call.notice) (passed (leb (notice_length j.form) (length j.call.notice)) 4 (omega arith) e5)

-- THE COMPARISONS

module _ (ours theirs our_notice their_notice row after : List ℕ) (a : Finding) (answer : a ≡ answer_finding ours theirs) where
  pub by_answer : (a.number ≡ 0 → ⊥) → between ours theirs our_notice their_notice row after ≡ a
  unfolding between or_else pick
  by_answer e = rw (← answer, ne_eqb a.number 0 e)

  module _ (z : a.number ≡ 0) (n : Finding) (notice : n ≡ compared 5 their_notice our_notice) where
    pub by-notice : (n.number ≡ 0 → ⊥) → between ours theirs our_notice their_notice row after ≡ n
    unfolding between or_else pick
    by-notice e = rw (← answer, eq-eqb a.number 0 z, ← notice, ne_eqb n.number 0 e)

    pub by_row : n.number ≡ 0 → between ours theirs our_notice their_notice row after ≡ compared 6 after row
    unfolding between or_else pick
    by_row e = rw (← answer, eq-eqb a.number 0 z, ← notice, eq-eqb n.number 0 e)

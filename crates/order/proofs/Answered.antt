-- How a call goes: it gets no answer, it is refused before a sound row is found, or it is decided on one.
use mathlib.Core.Path.{◌≡◌, refl, ap, ◌∙◌}
use mathlib.Core.Bool.{true, false}
use mathlib.Core.List.{List, ◌∷◌, ◌++◌}
use Prim.Native.Nat.{ℕ}
use borrow.Author.Tests.{eqb-true, eqb-false}
use lib.Dec.{eqb}
use Rattle.octets.specs.Choice.{pick}
use Rattle.octets.proofs.Lists.{by-test}
use Rattle.message.specs.Codes.{Code, plain, user_unknown, number_of}
use Rattle.message.specs.ReadingAMessage.{read, reading_code}
use Rattle.table.specs.TheTable.{Table, Found, row, nothing, is_found, row_at, read_row}
use Rattle.table.specs.Soundness.{sound}
use Rattle.rules.specs.Deciding.{Verdict, decide}
use Rattle.rules.specs.Calls.{Call, call_number, silent, refusal, settled, most_policies, on_row, on_reading, handle}
use Rattle.order.specs.ChecksInOrder.{Check, pass, no_row, unsound_row, check, first_failed, code_given, first_failing, none_fails, reading_checks, deciding_checks}
use Rattle.order.specs.Demand2.{request_in, found, row_found, row_before, said, checks}
use Rattle.order.proofs.Read.{first-of, none_of, Gives, passes, fails, reading-gives}

-- THE CHECKS OF READING

pub record Stops (code : Code) (cs : List Check) : Type 0 where
  pub first : first_failing cs ≡ code
  pub none : none_fails cs ≡ false
  pub other-code : eqb (number_of code) 2001 ≡ false

module _ (most : ℕ) (m : List ℕ) (cs : List Check) where
  stops_at : eqb (reading_code most m) 0 ≡ false → Gives (reading_code most m) (reading_checks most m) → Stops (plain (reading_code most m)) (reading_checks most m ++ cs)
  unfolding first_failed code_given first_failing none_fails number_of
  stops_at h (passes z p) = absurd (eqb-false (reading_code most m) 0 h z)
  stops_at h (fails what z o p) =
      record {
        first = ap code_given (first-of (reading_checks most m) cs) ∙ rw p;
        none = none_of (reading_checks most m) cs ∙ rw p;
        other-code = o;
      }

  all_pass : reading_code most m ≡ 0 → Gives (reading_code most m) (reading_checks most m) → first_failed (reading_checks most m) ≡ pass
  all_pass h (passes z p) = p
  all_pass h (fails what z o p) = absurd (eqb-false (reading_code most m) 0 z h)

  reading-stops : eqb (reading_code most m) 0 ≡ false → Stops (plain (reading_code most m)) (reading_checks most m ++ cs)
  reading-stops h = stops_at h (reading-gives most m)

  module _ (h : reading_code most m ≡ 0) where
    reading-first : first_failing (reading_checks most m ++ cs) ≡ first_failing cs
    unfolding first_failed first_failing
    reading-first = ap code_given (first-of (reading_checks most m) cs) ∙ rw (all_pass h (reading-gives most m))

    reading-none : none_fails (reading_checks most m ++ cs) ≡ none_fails cs
    unfolding none_fails
    reading-none = none_of (reading_checks most m) cs ∙ rw (all_pass h (reading-gives most m))

-- HOW A CALL GOES

module _ (t : Table) (c : Call) where
  -- how many policies its message may bring
  abbrev pub may : ℕ
  may = most_policies t.form

  abbrev pub verdict : ℕ → Verdict
  verdict i = decide t.form (request_in c).ask c.wag (read_row (row_at t i))

  abbrev pub decisive : ℕ → List Check
  decisive i = deciding_checks (request_in c).ask c.wag (read_row (row_at t i))

  pub record OnRow (i : ℕ) : Type 0 where
    pub was_read : reading_code may c.message ≡ 0
    pub at : found t c ≡ row i
    pub before : row_before t c ≡ row_at t i
    pub was-sound : sound (row_at t i) ≡ true
    pub first : first_failing (checks t c) ≡ first_failing (decisive i)
    pub none : none_fails (checks t c) ≡ none_fails (decisive i)
    pub leaves : handle t c ≡ settled t c i (verdict i)

  pub data Went : Type 0 where
    unanswered : eqb (call_number t c) 0 ≡ false → handle t c ≡ silent t c (call_number t c) → Went
    stopped : (code : Code) → eqb (call_number t c) 0 ≡ true → Stops code (checks t c) → handle t c ≡ refusal t c code → Went
    reached : (i : ℕ) → eqb (call_number t c) 0 ≡ true → OnRow i → Went

  abbrev behind : List Check
  behind =
      check no_row (is_found (found t c)) user_unknown
      ∷ check unsound_row (sound (row_before t c)) (plain 5012)
      ∷ deciding_checks (request_in c).ask c.wag (said t c)

  pub no_answer : eqb (call_number t c) 0 ≡ false → handle t c ≡ silent t c (call_number t c)
  unfolding handle pick
  no_answer e = rw e

  module _ (answered : eqb (call_number t c) 0 ≡ true) where
    unread : eqb (reading_code may c.message) 0 ≡ false → handle t c ≡ refusal t c (plain (reading_code may c.message))
    unfolding handle read on_reading pick
    unread h = rw (answered, h)

    module _ (h : reading_code may c.message ≡ 0) where
      on_row_lem : handle t c ≡ on_row t c (request_in c) (found t c)
      unfolding handle read on_reading request_in found pick
      on_row_lem = rw (answered, h)

      first-is : first_failing (checks t c) ≡ first_failing behind
      unfolding checks
      first-is = reading-first may c.message behind h

      none_is : none_fails (checks t c) ≡ none_fails behind
      unfolding checks
      none_is = reading-none may c.message behind h

      unknown : found t c ≡ nothing → Went
      unfolding on_row check is_found first_failed code_given first_failing none_fails number_of
      unknown e =
          stopped user_unknown answered (record { first = first-is ∙ rw e; none = none_is ∙ rw e; other-code = refl }) (on_row_lem ∙ rw e)

      module _ (i : ℕ) (e : found t c ≡ row i) where
        before-is : row_before t c ≡ row_at t i
        unfolding row_before row_found
        before-is = rw e

        unsound : sound (row_at t i) ≡ false → Went
        unfolding on_row check is_found first_failed code_given first_failing none_fails number_of pick
        unsound u =
            stopped (plain 5012) answered (record { first = first-is ∙ rw (e, before-is, u); none = none_is ∙ rw (e, before-is, u); other-code = refl }) (on_row_lem ∙ rw (e, u))

        on-sound : sound (row_at t i) ≡ true → Went
        unfolding on_row check is_found first_failed code_given first_failing none_fails pick
        on-sound u =
            reached i answered
            (record {
              was_read = h;
              at = e;
              before = before-is;
              was-sound = u;
              first = first-is ∙ rw (e, before-is, u);
              none = none_is ∙ rw (e, before-is, u);
              leaves = on_row_lem ∙ rw (e, u);
            })

      by-found : (F : Found) → found t c ≡ F → Went
      by-found nothing e = unknown e
      by-found (row i) e = by-test (sound (row_at t i)) (λ u. on-sound i e u) (λ u. unsound i e u)

  pub went : Went
  unfolding checks
  went =
      by-test (eqb (call_number t c) 0)
      (λ a. by-test (eqb (reading_code may c.message) 0)
      (λ r. by-found a (eqb-true (reading_code may c.message) 0 r) (found t c) refl)
      (λ r. stopped (plain (reading_code may c.message)) a (reading-stops may c.message behind r) (unread a r)))
      (λ a. unanswered a (no_answer a))

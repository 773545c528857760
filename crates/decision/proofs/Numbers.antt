-- The numbers of a call, test by test.
use mathlib.Core.Path.{◌≡◌, refl, sym, ◌∙◌}
use mathlib.Core.Bool.{Bool, true, false, ◌&&◌}
use mathlib.Core.List.{List, [], ◌∷◌}
use Prim.Native.Nat.{ℕ, ◌≤◌, ◌<◌}
use native.Mathlib.Omega.{arith}
use borrow.Author.Tests.{eq-eqb, ne_eqb, le-leb, lt-leb, leb-true, eqb-true}
use lib.Dec.{eqb, leb}
use lib.ListN.{length}
use Rattle.octets.specs.Choice.{pick, require, first_of, within}
use Rattle.octets.proofs.Lists.{and_left, and_right, by-test, within-high}
use Rattle.octets.proofs.Choice.{first_passes, others-pass, passed}
use Rattle.message.specs.TheRooms.{answer_least, notice_length}
use Rattle.message.specs.Codes.{kind_of}
use Rattle.message.specs.Kinds.{code_from}
use Rattle.message.specs.ReadingAMessage.{read}
use Rattle.message.specs.declared.Kind.TheVariants.{NoAnswer}
use Rattle.message.proofs.Callers.{message-length}
use Rattle.std.specs.Prelude.{None}
use Rattle.message.specs.CallsThatGetNoAnswer.{message_most, message_number}
use Rattle.table.specs.TheTable.{Table, first_number, table_number}
use Rattle.table.proofs.Rows.{first-operator, first-table}
use Rattle.rules.specs.Calls.{Call, call_number, handle, most_policies, on_reading, silent}
use Rattle.decision.specs.Outcomes.{call_of, cut_host, cut_made, cut_realm, cut_session, leaves, result_said}

module _ (t : Table) (c : Call) where
  pub number-first : (first_number t c.operator ≡ 0 → ⊥) → call_number t c ≡ first_number t c.operator
  unfolding call_number first_number first_of pick
  number-first h =
      by-test (eqb (table_number t) 0)
      (λ e. by-test (eqb (require (leb c.operator 15) 33) 0)
      (λ g. absurd (h (rw (e, g))))
      (λ g. rw (e, g)))
      (λ e. rw e)

  module _ (z : first_number t c.operator ≡ 0) where
    y : table_number t ≡ 0
    y = first-table t c.operator z

    o : leb c.operator 15 ≡ true
    o = first-operator t c.operator z

    pub number-host : within 1 128 (length c.host) ≡ false → call_number t c ≡ 2
    unfolding call_number first_of require pick
    number-host h = rw (y, o, h)

    module _ (hh : within 1 128 (length c.host) ≡ true) where
      pub number-realm : within 1 128 (length c.realm) ≡ false → call_number t c ≡ 2
      unfolding call_number first_of require pick
      number-realm h = rw (y, o, hh, h)

      module _ (hr : within 1 128 (length c.realm) ≡ true) where
        pub number-answer : length c.answer < answer_least → call_number t c ≡ 3
        unfolding call_number first_of require pick
        number-answer h = rw (y, o, hh, hr, lt-leb answer_least (length c.answer) h)

        module _ (ha : answer_least ≤ length c.answer) where
          pub number-notice : length c.notice < notice_length t.form → call_number t c ≡ 4
          unfolding call_number first_of require pick
          number-notice h = rw (y, o, hh, hr, le-leb answer_least (length c.answer) ha, lt-leb (notice_length t.form) (length c.notice) h)

          pub number-message : notice_length t.form ≤ length c.notice → call_number t c ≡ message_number c.message
          unfolding call_number first_of require pick
          number-message h =
              rw (y, o, hh, hr, le-leb answer_least (length c.answer) ha, le-leb (notice_length t.form) (length c.notice) h)
              (by-test (eqb (message_number c.message) 0)
              (λ e. rw e (sym (eqb-true (message_number c.message) 0 e)))
              (λ e. rw e))

-- A CALL THAT IS ANSWERED

-- A call that gets an answer: the message has 20 to 4,096 bytes, the own names at most 128, and the answer room 5,120 or more.
pub record Ready (m host realm room : List ℕ) : Type 0 where
  pub least : 20 ≤ length m
  pub most : length m ≤ message_most
  pub host-fits : length host ≤ 128
  pub realm-fits : length realm ≤ 128
  pub room_fits : answer_least ≤ length room

-- what lent things are like where no number is given
module _ (t : Table) (o : ℕ) (m host realm room notice : List ℕ) (wag : Bool) (z : call_number t (call_of o m host realm room notice wag) ≡ 0) where
  names : Bool
  names = within 1 128 (length host) && within 1 128 (length realm)

  others : List ℕ
  others = require (leb answer_least (length room)) 3 ∷ require (leb (notice_length t.form) (length notice)) 4 ∷ message_number m ∷ []

  pub table-right : table_number t ≡ 0
  unfolding call_number call_of
  table-right = first_passes (table_number t) _ z

  after_table : first_of (require names 2 ∷ others) ≡ 0
  unfolding call_number call_of names others
  after_table = others-pass (require (leb o 15) 33) _ (others-pass (table_number t) _ z)

  names-fit : names ≡ true
  names-fit = passed names 2 (omega arith) (first_passes (require names 2) others after_table)

  after-names : first_of others ≡ 0
  after-names = others-pass (require names 2) others after_table

  pub notice-fits : notice_length t.form ≤ length notice
  unfolding others
  notice-fits = leb-true (notice_length t.form) (length notice) (passed (leb (notice_length t.form) (length notice)) 4 (omega arith) (first_passes _ _ (others-pass (require (leb answer_least (length room)) 3) _ after-names)))

  pub message-right : message_number m ≡ 0
  unfolding others
  message-right = first_passes (message_number m) [] (others-pass (require (leb (notice_length t.form) (length notice)) 4) _ (others-pass (require (leb answer_least (length room)) 3) _ after-names))

  pub is-ready : Ready m host realm room
  unfolding names others
  is-ready =
      record {
        least = (message-length m message-right).0;
        most = (message-length m message-right).1;
        host-fits = within-high 1 128 (length host) (and_left (within 1 128 (length host)) (within 1 128 (length realm)) names-fit);
        realm-fits = within-high 1 128 (length realm) (and_right (within 1 128 (length host)) (within 1 128 (length realm)) names-fit);
        room_fits = leb-true answer_least (length room) (passed (leb answer_least (length room)) 3 (omega arith) (first_passes (require (leb answer_least (length room)) 3) _ after-names));
      }

module _ (t : Table) (c : Call) where
  pub handled : call_number t c ≡ 0 → handle t c ≡ on_reading t c (read (most_policies t.form) c.message)
  unfolding handle pick
  handled z = rw (eq-eqb (call_number t c) 0 z)

  pub unanswered : (n : ℕ) → n ≡ call_number t c → (n ≡ 0 → ⊥) → silent t c n ≡ handle t c
  unfolding handle pick
  unanswered n e nz = rw (ne_eqb (call_number t c) 0 (λ z. nz (e ∙ z)), e)

pub silent-is : (t : Table) (o : ℕ) (m host realm room notice : List ℕ) (wag : Bool) (n : ℕ)
    → leaves (record { code = n; kind = NoAnswer; length = 0; place = 0; cut = None }) t room notice ≡ silent t (call_of o m host realm room notice wag) n
unfolding leaves result_said silent call_of code_from kind_of cut_made cut_session cut_host cut_realm
silent-is t o m host realm room notice wag n = refl

-- What the code's structs and enums say in the paper's numbers.
use Rattle.std.specs.Prelude.{◌≡◌, Bool, List, [], ◌∷◌, ℕ, Option, Some, None, ◌≤◌, ◌<◌, length}
use Rattle.message.specs.Codes.{Code, kind_of}
use Rattle.message.specs.Kinds.{code_from}
use Rattle.message.specs.ReadingAMessage.{user_name}
use Rattle.message.specs.Spans.{Holds, bytes_of}
use Rattle.message.specs.WritingTheAnswer.{answer, answer_room}
use Rattle.message.specs.declared.Span.{Span}
use Rattle.message.specs.declared.Asked.{Asked}
use Rattle.message.specs.declared.Asked.TheVariants.{Tunnel, Policy, Termination}
use Rattle.effects.specs.declared.Cut.{Cut}
use Rattle.decision.specs.declared.Outcome.{Outcome}
use Rattle.decision.specs.declared.Decided.{Decided}
use Rattle.decision.specs.declared.Texts.{Texts}
use Rattle.table.specs.TheTable.{Policies, Table}
use Rattle.changes.specs.Changes.{kept_in}
use Rattle.plans.specs.Plans.{Brought}
use Rattle.rules.specs.Calls.{Call, Result, Left}

-- A cut: 1 with the lengths of its texts, or 0 and no lengths.
unfoldable pub cut_made : Option Cut → ℕ
cut_made None = 0
cut_made (Some c) = 1

unfoldable pub cut_session : Option Cut → ℕ
cut_session None = 0
cut_session (Some c) = c.session

unfoldable pub cut_host : Option Cut → ℕ
cut_host None = 0
cut_host (Some c) = c.host

unfoldable pub cut_realm : Option Cut → ℕ
cut_realm None = 0
cut_realm (Some c) = c.realm

-- The outcome of a call in the numbers that the paper has it return. `kind_of (code_from k c)` is 0, 1 or 2 for no answer,
-- Result-Code and Experimental-Result.
unfoldable pub result_said : Outcome → Result
result_said o =
    record {
      length = o.length;
      code = o.code;
      kind = kind_of (code_from o.kind o.code);
      place = o.place;
      cut = cut_made o.cut;
      cut_session = cut_session o.cut;
      cut_host = cut_host o.cut;
      cut_realm = cut_realm o.cut;
    }

-- All that a call leaves: its outcome, and every byte of the table and of both rooms.
unfoldable pub leaves : Outcome → (table : Table) → (answer notice : List ℕ) → Left
leaves o table answer notice = record { reply = record { result = result_said o; answer = answer; notice = notice }; table = table }

-- All that a call leaves once what is decided is answered.
unfoldable pub answered_by : Decided → (message host realm answer : List ℕ) → (table : Table) → (notice : List ℕ) → Left
answered_by d m host realm room table notice =
    let c : Code = code_from d.kind d.code in
    let n : ℕ = length (answer m host realm c) in
    leaves (record { code = d.code; kind = d.kind; length = n; place = d.place; cut = d.cut }) table (answer_room m host realm c room) notice

-- Where the code is 2001, the span is that of the User-Name, of at most 128 bytes. Every code is one that two bytes hold.
pub record Named (m : List ℕ) (d : Decided) : Type 0 where
  pub holds : d.code ≡ 2001 → Holds m user_name d.user
  pub short : d.code ≡ 2001 → d.user.len ≤ 128
  pub small : d.code < 65536

-- A call, from what is lent.
unfoldable pub call_of : (operator : ℕ) → (message host realm answer notice : List ℕ) → (wag : Bool) → Call
call_of o message host realm answer notice wag =
    record { operator = o; message = message; host = host; realm = realm; answer = answer; notice = notice; wag = wag }

-- Where the texts stand that a request brings for its change; an empty span where it brings none.
unfoldable pub no_text : Span
no_text = record { at = 0; len = 0 }

unfoldable pub texts_of : Asked → Texts
texts_of (Tunnel session host realm label visited) =
    record { session = session; host = host; realm = realm; first = no_text; second = no_text; third = no_text }
texts_of (Policy session first second third) =
    record { session = session; host = no_text; realm = no_text; first = first; second = second; third = third }
texts_of (Termination session label) =
    record { session = session; host = no_text; realm = no_text; first = no_text; second = no_text; third = no_text }

unfoldable pub spans_of : Texts → List Span
spans_of t = t.session ∷ t.host ∷ t.realm ∷ t.first ∷ t.second ∷ t.third ∷ []

-- The texts themselves, as a table of the form keeps them.
unfoldable pub policies_at : List ℕ → Texts → Policies
policies_at m t = record { first = bytes_of m t.first; second = bytes_of m t.second; third = bytes_of m t.third }

unfoldable pub brought : (form : ℕ) → List ℕ → Texts → Brought
brought f m t =
    record {
      opening = record { session = bytes_of m t.session; host = bytes_of m t.host; realm = kept_in f (bytes_of m t.realm) };
      policies = policies_at m t;
    }

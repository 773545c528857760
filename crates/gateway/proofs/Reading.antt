-- Reading a Re-Auth-Request: the header's ways out, the list in its two halves, the Session-Id, and a whole message.
use mathlib.Core.Path.{◌≡◌, refl, ap, ◌∙◌}
use mathlib.Core.Bool.{Bool, true, false, not}
use mathlib.Core.List.{List, [], ◌∷◌, map}
use Prim.Native.Nat.{ℕ, suc, ◌+◌, ◌-◌, ◌/◌, ◌%◌, ◌≤◌}
use native.Mathlib.Omega.{arith}
use borrow.Author.Tests.{eq-eqb, ne_eqb}
use lib.Dec.{eqb}
use lib.ListN.{length, get_or}
use Rattle.octets.specs.Choice.{pick, require, first_of, within}
use Rattle.octets.specs.Lists.{every}
use Rattle.octets.specs.Texts.{part, same}
use Rattle.octets.proofs.Lists.{by-test, and_left, within-high}
use Rattle.octets.proofs.Choice.{first_passes, others-pass}
use Rattle.message.specs.ReadingAMessage.{Avp, Field, Name, application, avps, command, destination_host, field_code, first_value, flags, for_both, having, number_field, origin_host, origin_realm, present, proxy_info, session_id, starts_with, tested_as, text_field, value_of, walk_code, re_auth_request_type}
use Rattle.message.specs.Positions.{names, name_at, how_often, slot_says, Gathered}
use Rattle.std.specs.Prelude.{Option, Some, None, Ok, Err}
use Rattle.message.specs.declared.Failure.{Failure}
use Rattle.message.specs.declared.Sender.{Sender}
use Rattle.message.specs.declared.Span.{Span}
use Rattle.message.specs.Failures.{failure_code, failed_with}
use Rattle.message.specs.Spans.{code_of, Holds, Reads, both_code}
use Rattle.message.proofs.Failures.{failure-least}
use Rattle.message.proofs.Listing.{first-append, first-go, first_one, first-stop}
use Rattle.message.proofs.Tested.{fits_in, each_fits, passes-each}
use Rattle.gateway.specs.TheGateway.{fields, header_code, list_code, reading_code}
use Rattle.gateway.specs.Code.{FieldsOf, HeardOf, fields_code, has_proxies, rest_code}

-- THE HEADER

module _ (m : List ℕ) where
  pub header-bits : (flags m % 16 ≡ 0 → ⊥) → header_code m ≡ 5013
  unfolding header_code first_of require pick
  header-bits h = rw (ne_eqb (flags m % 16) 0 h)

  module _ (b : flags m % 16 ≡ 0) where
    pub header-error : (flags m / 32 % 2 ≡ 0 → ⊥) → header_code m ≡ 3008
    unfolding header_code first_of require pick
    header-error h = rw (eq-eqb (flags m % 16) 0 b, ne_eqb (flags m / 32 % 2) 0 h)

    module _ (e : flags m / 32 % 2 ≡ 0) where
      pub header-command : (command m ≡ 258 → ⊥) → header_code m ≡ 3001
      unfolding header_code first_of require pick
      header-command h = rw (eq-eqb (flags m % 16) 0 b, eq-eqb (flags m / 32 % 2) 0 e, ne_eqb (command m) 258 h)

      module _ (c : command m ≡ 258) where
        pub header-application : (application m ≡ 1 → ⊥) → header_code m ≡ 3007
        unfolding header_code first_of require pick
        header-application h =
            rw (eq-eqb (flags m % 16) 0 b, eq-eqb (flags m / 32 % 2) 0 e, eq-eqb (command m) 258 c, ne_eqb (application m) 1 h)

        pub header-none : application m ≡ 1 → header_code m ≡ 0
        unfolding header_code first_of require pick
        header-none a = rw (eq-eqb (flags m % 16) 0 b, eq-eqb (flags m / 32 % 2) 0 e, eq-eqb (command m) 258 c, eq-eqb (application m) 1 a)

-- THE LIST

-- a field that must be there: where its reader gives a value it leaves the code to those behind it, else it gives the code
module _ {m : List ℕ} {f : Field} (cs : List ℕ) where
  pub field-goes : {o : Option Span} {s : Span} → Reads m f (Ok o) → o ≡ Some s → first_of (field_code (avps m) f ∷ cs) ≡ first_of cs
  unfolding code_of
  field-goes r e = first-go (field_code (avps m) f) cs (r.code ∙ ap (λ (x : Option Span). code_of f.required (Ok x)) e)

  pub field-fails : {e : Failure} → Reads m f (Err e) → first_of (field_code (avps m) f ∷ cs) ≡ failure_code e
  unfolding code_of
  field-fails {e} r = first-stop (field_code (avps m) f) (failure_code e) cs r.code (failure-least e)

  pub field-missing : {o : Option Span} → f.required ≡ true → Reads m f (Ok o) → o ≡ None → first_of (field_code (avps m) f ∷ cs) ≡ 5005
  unfolding code_of require
  field-missing q r e =
      let none : code_of {T = Span} f.required (Ok None) ≡ 5005 = ap (λ (b : Bool). require (not b) 5005) q in
      first-stop (field_code (avps m) f) 5005 cs (r.code ∙ ap (λ (x : Option Span). code_of f.required (Ok x)) e ∙ none) (omega arith)

pub rest-is : (xs : List Avp) → rest_code xs ≡ first_of (field_code xs (text_field destination_host true) ∷ field_code xs (number_field re_auth_request_type 0 0) ∷ [])
unfolding rest_code
rest-is xs = refl

list-split : (xs : List Avp) → list_code xs ≡ pick (eqb (both_code xs) 0) (rest_code xs) (both_code xs)
unfolding list_code fields both_code rest_code for_both
list-split xs =
    first-append (require (starts_with session_id xs) 5005 ∷ map (field_code xs) for_both)
    (map (field_code xs) (text_field destination_host true ∷ number_field re_auth_request_type 0 0 ∷ []))

-- the code of a failure is not that of a test that passes
some_code : (f : Failure) → eqb (failure_code f) 0 ≡ false
some_code f = ne_eqb (failure_code f) 0 (λ z. omega (arith, failure-least f))

pub list-failed : (xs : List Avp) (f : Failure) → both_code xs ≡ failure_code f → list_code xs ≡ failure_code f
unfolding pick
list-failed xs f b = list-split xs ∙ rw b (rw (some_code f))

pub list-rest : (xs : List Avp) → both_code xs ≡ 0 → list_code xs ≡ rest_code xs
unfolding pick
list-rest xs b = list-split xs ∙ rw (eq-eqb (both_code xs) 0 b)

pub fields-failed : (m : List ℕ) (code : ℕ) (f : Failure) → code ≡ failure_code f → FieldsOf m code (Err f)
unfolding failed_with
fields-failed m code f e = record { code_is = e; session = λ s w. absurd cc; host = λ s w. absurd cc; realm = λ s w. absurd cc }

pub fields-held : (m : List ℕ) (code : ℕ) (s : Sender) → code ≡ 0 → Holds m session_id s.session → Holds m origin_host s.host → Holds m origin_realm s.realm → FieldsOf m code (Ok s)
unfolding failed_with
fields-held m code s e p q o =
    record {
      code_is = e;
      session = λ a w. let z : s ≡ a = cc in rw (← z) p;
      host = λ a w. let z : s ≡ a = cc in rw (← z) q;
      realm = λ a w. let z : s ≡ a = cc in rw (← z) o;
    }

-- THE SESSION-ID

module _ (own : List ℕ) (xs : List Avp) where
  pub session-behind : (f : Failure) → list_code xs ≡ failure_code f → fields_code own xs ≡ failure_code f
  unfolding fields_code
  session-behind f e = first-stop (list_code xs) (failure_code f) _ e (failure-least f)

  module _ (e : list_code xs ≡ 0) where
    session-tested : fields_code own xs ≡ require (same (value_of session_id xs) own) 5002
    unfolding fields_code
    session-tested = first-go (list_code xs) _ e ∙ first_one (require (same (value_of session_id xs) own) 5002)

    pub session-other : same (value_of session_id xs) own ≡ false → fields_code own xs ≡ 5002
    unfolding require
    session-other t = session-tested ∙ rw t

    pub session-own : same (value_of session_id xs) own ≡ true → fields_code own xs ≡ 0
    unfolding require
    session-own t = session-tested ∙ rw t

-- a text that the code lends is the value that it holds
pub lent-text : (m : List ℕ) (n : Name) (s : Span) → Holds m n s → part m s.at (s.at + s.len - s.at) ≡ value_of n (avps m)
lent-text m n s h =
    let q : s.at + s.len - s.at ≡ s.len = omega arith in
    ap (part m s.at) q ∙ h.value

pub own_same : (m own : List ℕ) (s : Span) (b : Bool) → Holds m session_id s → b ≡ same (part m s.at (s.at + s.len - s.at)) own → b ≡ same (value_of session_id (avps m)) own
own_same m own s b h e = e ∙ ap (λ (v : List ℕ). same v own) (lent-text m session_id s h)

-- A WHOLE MESSAGE

often-there : (m : List ℕ) (v : ℕ) (xs : List Avp) → slot_says m v ≡ how_often xs → not (eqb v 0) ≡ not (eqb (length xs) 0)
unfolding slot_says how_often pick
often-there m v [] e =
    by-test (eqb v 0)
    (λ t. rw t)
    (λ t. by-test (eqb v 1) (λ u. let f = rw (t, u) at e in let z : ◌≡◌ {A = ℕ} 0 1 = cc in absurd (omega arith)) (λ u. let f = rw (t, u) at e in let z : ◌≡◌ {A = ℕ} 0 1 = cc in absurd (omega arith)))
often-there m v (a ∷ []) e =
    by-test (eqb v 0) (λ t. let f = rw t at e in let z : ◌≡◌ {A = ℕ} 0 1 = cc in absurd (omega arith)) (λ t. rw t)
often-there m v (a ∷ (b ∷ xs)) e =
    by-test (eqb v 0) (λ t. let f = rw t at e in let z : ◌≡◌ {A = ℕ} 0 1 = cc in absurd (omega arith)) (λ t. rw (t, ne_eqb (suc (suc (length xs))) 0 (λ z. omega arith)))

pub proxies-are : (m index : List ℕ) → Gathered m index → not (eqb (get_or index 9 0) 0) ≡ present proxy_info (avps m)
unfolding present name_at names
proxies-are m index g = often-there m (get_or index 9 0) (having proxy_info (avps m)) (g.says 9 (omega arith))

module _ (own m : List ℕ) where
  pub heard-header : (f : Failure) → header_code m ≡ failure_code f → HeardOf own m (record { fields = Err f; proxies = false })
  unfolding has_proxies reading_code
  heard-header f e =
      record {
        reading = fields-failed m (reading_code own m) f (first-stop (header_code m) (failure_code f) _ e (failure-least f));
        copying = rw e (rw (some_code f));
      }

  module _ (d : header_code m ≡ 0) where
    pub heard-walk : (f : Failure) → walk_code m ≡ failure_code f → HeardOf own m (record { fields = Err f; proxies = false })
    unfolding has_proxies reading_code
    heard-walk f e =
        record {
          reading = fields-failed m (reading_code own m) f (first-go (header_code m) _ d ∙ first-stop (walk_code m) (failure_code f) _ e (failure-least f));
          copying = rw e (rw (eq-eqb (header_code m) 0 d, some_code f));
        }

    module _ (w : walk_code m ≡ 0) where
      pub reading-is : reading_code own m ≡ fields_code own (avps m)
      unfolding reading_code fields_code
      reading-is = first-go (header_code m) _ d ∙ first-go (walk_code m) _ w

      pub copying-is : (p : Bool) → p ≡ present proxy_info (avps m) → p ≡ has_proxies m
      unfolding has_proxies
      copying-is p e = rw (eq-eqb (header_code m) 0 d, eq-eqb (walk_code m) 0 w) e

-- HOW LONG THE NAMES ARE

value-short : (n : Name) (ys : List Avp) → tested_as (text_field n true) ys ≡ 0 → length (first_value ys) ≤ 128
unfolding first_value every fits_in text_field
value-short n [] e = omega arith
value-short n (a ∷ ys) e =
    let f = each_fits (text_field n true) (a ∷ ys) (passes-each (text_field n true) (a ∷ ys) e) in
    within-high 1 128 (length a.value) (and_left (within 1 128 (length a.value)) (every (fits_in (text_field n true)) ys) f)

text-short : (n : Name) (xs : List Avp) → field_code xs (text_field n true) ≡ 0 → length (value_of n xs) ≤ 128
unfolding field_code text_field value_of
text-short n xs e = value-short n (having n xs) e

pub origins-short : (own m : List ℕ) → reading_code own m ≡ 0 → (length (value_of origin_host (avps m)) ≤ 128) × (length (value_of origin_realm (avps m)) ≤ 128)
unfolding reading_code list_code fields for_both
origins-short own m e =
    let xs = avps m in
    let l : list_code xs ≡ 0 = first_passes (list_code xs) _ (others-pass (walk_code m) _ (others-pass (header_code m) _ e)) in
    let e1 = others-pass (require (starts_with session_id xs) 5005) _ l in
    let e2 = others-pass (field_code xs (text_field session_id true)) _ e1 in
    let e3 = others-pass _ _ e2 in
    let e4 = others-pass (field_code xs (text_field origin_host true)) _ e3 in
    (text-short origin_host xs (first_passes (field_code xs (text_field origin_host true)) _ e3), text-short origin_realm xs (first_passes (field_code xs (text_field origin_realm true)) _ e4))

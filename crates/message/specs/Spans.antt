-- What a field's reader and the reading of a whole message answer, in the paper's terms: a span is a part of the message.
use Rattle.std.specs.Prelude.{Option, Some, None, Result, Ok, Err, ◌≡◌, Bool, true, false, ◌&&◌, ◌||◌, not, List, [], ◌∷◌, map, ℕ, ◌+◌, ◌-◌, ◌≤◌, eqb, leb, length, drop}
use Rattle.octets.specs.Choice.{pick, require, first_of, within}
use Rattle.octets.specs.Lists.{every}
use Rattle.octets.specs.Texts.{part}
use Rattle.message.specs.ReadingAMessage.{Name, Field, Avp, anything, label_field, texts_field, header_code, request_walk, avp_of, avps, walk_code, having, value_of, value_at, present, field_code, starts_with, for_both, for265, for275, session_id, origin_host, origin_realm, user_name, wlan_apn_id, routing_policy, proxy_info, Ask, tunnel, policy, termination, Request, Reading, refused, request, read}
use Rattle.message.specs.declared.Span.{Span}
use Rattle.message.specs.declared.Failure.{Failure}
use Rattle.message.specs.declared.Failure.TheVariants.{MissingAvp}
use Rattle.message.specs.Failures.{failure_code, failed_with}
use Rattle.message.specs.declared.Route.{Route}
use Rattle.message.specs.declared.Routes.{Routes}
use Rattle.message.specs.declared.Sender.{Sender}
use Rattle.message.specs.declared.Asked.{Asked}
use Rattle.message.specs.declared.Asked.TheVariants.{Tunnel, Policy, Termination}
use Rattle.message.specs.declared.UserRequest.{UserRequest}
use Rattle.message.specs.declared.Heard.{Heard}

-- ONE FIELD

-- A field whose value has low to high bytes of any kind.
unfoldable pub bytes_field : Name → Bool → ℕ → ℕ → Field
bytes_field n required low high = record { name = n; required = required; most = 1; low = low; high = high; allowed = anything }

-- The code of a field by what its reader answers.
unfoldable pub code_of : {T : Type 0} → Bool → Result (Option T) Failure → ℕ
code_of required (Ok (Some x)) = 0
code_of required (Ok None) = require (not required) 5005
code_of required (Err f) = failure_code f

-- What it answers for one that has to be there.
unfoldable pub required : {T : Type 0} → Result (Option T) Failure → Result T Failure
required (Ok (Some x)) = Ok x
required (Ok None) = Err MissingAvp
required (Err f) = Err f

-- A span is the value of the first AVP of a name.
pub record Holds (m : List ℕ) (n : Name) (s : Span) : Type 0 where
  pub inside : s.at + s.len ≤ length m
  pub value : part m s.at s.len ≡ value_of n (avps m)

-- A reader's answer for a field: found is no code, and the value of an AVP that is there; absent is that none is there.
pub record Reads (m : List ℕ) (f : Field) (g : Result (Option Span) Failure) : Type 0 where
  pub code : field_code (avps m) f ≡ code_of f.required g
  pub found : (s : Span) → g ≡ Ok (Some s) → Holds m f.name s
  pub sized : (s : Span) → g ≡ Ok (Some s) → (f.low ≤ s.len) × (s.len ≤ f.high)
  pub there : (s : Span) → g ≡ Ok (Some s) → present f.name (avps m) ≡ true
  pub absent : g ≡ Ok None → present f.name (avps m) ≡ false

unfoldable pub is_found : Result (Option Span) Failure → Bool
is_found (Ok (Some s)) = true
is_found (Ok None) = false
is_found (Err f) = false

-- THE FIELDS OF BOTH REQUESTS

-- Their code: that of the first field that fails, 0 where none does.
unfoldable pub both_code : List Avp → ℕ
both_code xs = first_of (require (starts_with session_id xs) 5005 ∷ map (field_code xs) for_both)

pub record BothRead (m : List ℕ) (b : Result Sender Failure) : Type 0 where
  pub code : both_code (avps m) ≡ failed_with b
  pub session : (s : Sender) → b ≡ Ok s → Holds m session_id s.session
  pub host : (s : Sender) → b ≡ Ok s → Holds m origin_host s.host
  pub realm : (s : Sender) → b ≡ Ok s → Holds m origin_realm s.realm

-- THE POLICIES

-- The Routing-Policies from a place of the message on.
unfoldable pub routes_from : List ℕ → ℕ → List Avp
routes_from m at = having routing_policy (request_walk (drop at m)).avps

-- The AVP whose value a span is: an AVP with V has a header of 12 bytes.
unfoldable pub avp_before : List ℕ → Span → Avp
avp_before m s = avp_of (drop (s.at - 12) m)

-- The first Routing-Policy from a place on: it is there, with its value and the place behind it; or there is none from there on,
-- and none from the place that it gives.
pub record RouteFrom (m : List ℕ) (from : ℕ) (r : Route) : Type 0 where
  pub least : 20 ≤ r.next
  pub most : r.next ≤ length m
  pub passes : (request_walk (drop r.next m)).code ≡ 0
  pub inside : (s : Span) → r.span ≡ Some s → s.at + s.len ≤ length m
  pub one : (s : Span) → r.span ≡ Some s → routes_from m from ≡ avp_before m s ∷ routes_from m r.next
  pub value : (s : Span) → r.span ≡ Some s → (avp_before m s).value ≡ part m s.at s.len
  pub none : r.span ≡ None → routes_from m from ≡ []
  pub ended : r.span ≡ None → routes_from m r.next ≡ []

-- How many there are, by whether there is a second, a third and a fourth beside the first; 4 stands for four or more.
unfoldable pub how_many : (second third fourth : Bool) → ℕ
how_many second third fourth = pick fourth 4 (pick third 3 (pick second 2 1))

-- One that is there has 1 to 128 bytes.
unfoldable pub is_fit : Option Span → Bool
is_fit None = true
is_fit (Some s) = within 1 128 s.len

-- A span is the value of the i-th AVP of a name, counted from 0; where there are fewer it has no bytes.
pub record HoldsAt (m : List ℕ) (i : ℕ) (n : Name) (s : Span) : Type 0 where
  pub inside : s.at + s.len ≤ length m
  pub value : part m s.at s.len ≡ value_at i n (avps m)

-- The reader's answer for a message that may bring so many policies: the first three, or none, or the code of a failing test.
pub record RoutesRead (most : ℕ) (m : List ℕ) (g : Result (Option Routes) Failure) : Type 0 where
  pub code : (required : Bool) → field_code (avps m) (texts_field most routing_policy required) ≡ code_of required g
  pub first : (r : Routes) → g ≡ Ok (Some r) → HoldsAt m 0 routing_policy r.first
  pub second : (r : Routes) → g ≡ Ok (Some r) → HoldsAt m 1 routing_policy r.second
  pub third : (r : Routes) → g ≡ Ok (Some r) → HoldsAt m 2 routing_policy r.third

-- THE OTHER FIELDS

-- The code of a command's own fields.
unfoldable pub rest_code : (most : ℕ) → ℕ → List Avp → ℕ
rest_code most c xs = first_of (map (field_code xs) (pick (eqb c 265) (for265 most xs) for275))

-- The last two fields of a 265, of type 0 and of type 1, and what is asked then.
unfoldable pub tunnel_code : (most : ℕ) → List Avp → ℕ
tunnel_code most xs = first_of (field_code xs (label_field wlan_apn_id true) ∷ field_code xs (texts_field most routing_policy false) ∷ [])

unfoldable pub policy_code : (most : ℕ) → List Avp → ℕ
policy_code most xs = first_of (field_code xs (label_field wlan_apn_id false) ∷ field_code xs (texts_field most routing_policy true) ∷ [])

unfoldable pub tunnel_of : Bool → List Avp → Request
tunnel_of visited xs =
    record {
      user = value_of user_name xs;
      ask = tunnel (value_of session_id xs) (value_of origin_host xs) (value_of origin_realm xs) (value_of wlan_apn_id xs) visited;
    }

unfoldable pub policy_of : List Avp → Request
policy_of xs =
    record {
      user = value_of user_name xs;
      ask = policy (value_of session_id xs) (value_at 0 routing_policy xs) (value_at 1 routing_policy xs) (value_at 2 routing_policy xs);
    }

-- WHAT IS TOLD

-- The bytes of a span.
unfoldable pub bytes_of : List ℕ → Span → List ℕ
bytes_of m s = part m s.at s.len

-- What is asked, and a message as it is read, by the bytes of the spans.
unfoldable pub asks : List ℕ → Asked → Ask
asks m (Tunnel session host realm label visited) = tunnel (bytes_of m session) (bytes_of m host) (bytes_of m realm) (bytes_of m label) visited
asks m (Policy session first second third) = policy (bytes_of m session) (bytes_of m first) (bytes_of m second) (bytes_of m third)
asks m (Termination session label) = termination (bytes_of m session) (bytes_of m label)

unfoldable pub says : List ℕ → Result UserRequest Failure → Reading
says m (Err f) = refused (failure_code f)
says m (Ok q) = request (record { user = bytes_of m q.user; ask = asks m q.asked })

-- Every span lies inside the message.
unfoldable pub spans_in : Asked → List Span
spans_in (Tunnel session host realm label visited) = session ∷ host ∷ realm ∷ label ∷ []
spans_in (Policy session first second third) = session ∷ first ∷ second ∷ third ∷ []
spans_in (Termination session label) = session ∷ label ∷ []

unfoldable pub spans : Result UserRequest Failure → List Span
spans (Err f) = []
spans (Ok q) = q.user ∷ spans_in q.asked

unfoldable pub is_inside : List ℕ → Span → Bool
is_inside m s = leb (s.at + s.len) (length m)

-- By the code of the first failing test: a request where it is 0, else refused with it.
unfoldable pub verdict : ℕ → Request → Reading
verdict code q = pick (eqb code 0) (request q) (refused code)

pub record Listed (m : List ℕ) (code : ℕ) (q : Request) (t : Result UserRequest Failure) : Type 0 where
  pub reading : says m t ≡ verdict code q
  pub inside : every (is_inside m) (spans t) ≡ true

-- A Proxy-Info is to be copied: the header tests and the whole walk passed, and there is one.
unfoldable pub has_proxies : List ℕ → Bool
has_proxies m = eqb (header_code m) 0 && (eqb (walk_code m) 0 && present proxy_info (avps m))

-- A whole message, where a request may bring so many policies.
pub record HeardOf (most : ℕ) (m : List ℕ) (h : Heard) : Type 0 where
  pub reading : says m h.told ≡ read most m
  pub inside : every (is_inside m) (spans h.told) ≡ true
  pub proxies : h.proxies ≡ has_proxies m

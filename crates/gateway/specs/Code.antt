-- What the code's numbers, parts and structs say in the gateway's terms.
use Rattle.std.specs.Prelude.{Result, Ok, Err, Bool, true, ◌&&◌, List, [], ◌∷◌, ◌++◌, ◌≡◌, ℕ, ◌≤◌, eqb, leb, length}
use Rattle.octets.specs.Choice.{require, first_of, within}
use Rattle.octets.specs.Texts.{put, same}
use Rattle.octets.specs.Numbers.{in24, in32}
use Rattle.message.specs.TheRooms.{answer_least}
use Rattle.message.specs.CallsThatGetNoAnswer.{message_most, message_number}
use Rattle.message.specs.Codes.{plain, kind_of}
use Rattle.message.specs.Kinds.{code_from}
use Rattle.message.specs.ReadingAMessage.{Avp, avps, destination_host, field_code, number_field, origin_host, origin_realm, present, proxy_info, session_id, text_field, value_of, walk_code, re_auth_request_type}
use Rattle.message.specs.WritingTheAnswer.{avp_bytes}
use Rattle.message.specs.declared.Failure.{Failure}
use Rattle.message.specs.declared.Sender.{Sender}
use Rattle.message.specs.Failures.{failed_with}
use Rattle.message.specs.Spans.{Holds}
use Rattle.gateway.specs.TheGateway.{Access, Call, Left, Texts, answer, header_code, list_code, reading_code, request, vendor_avp, visited_avp}
use Rattle.gateway.specs.declared.Heard.{Heard}
use Rattle.gateway.specs.declared.Reauthorized.{Reauthorized}

-- The access and the call, as their parts are lent.
abbrev pub access_of : (session user label visited : List ℕ) → Access
access_of session user label visited = record { session = session; user = user; label = label; visited = visited }

abbrev pub call_of : (host realm session user label visited message : List ℕ) → (hop end : ℕ) → (answer request : List ℕ) → Call
call_of host realm session user label visited message hop end answer request =
    record { host = host; realm = realm; access = access_of session user label visited; message = message; hop = hop; end = end; answer = answer; request = request }

-- What a call returns, and both rooms as they stand then.
unfoldable pub leaves : Reauthorized → (answer request : List ℕ) → Left
leaves r answer request =
    record {
      code = r.code;
      kind = kind_of (code_from r.kind r.code);
      size = r.length;
      request_size = r.request_length;
      answer = answer;
      request = request;
    }

-- The number of a call by the lengths of the own names and of both rooms, and by whether the access fits.
unfoldable pub number_by : (host realm answer request : ℕ) → (fits : Bool) → (m : List ℕ) → ℕ
number_by host realm answer request fits m =
    first_of
    (require (within 1 128 host && within 1 128 realm) 2
    ∷ require (leb answer_least answer && leb answer_least request) 3
    ∷ require fits 22
    ∷ message_number m
    ∷ [])

-- READING

-- The code of the fields behind the five of the server's requests, and that of the list and the Session-Id.
unfoldable pub rest_code : List Avp → ℕ
rest_code xs = first_of (field_code xs (text_field destination_host true) ∷ field_code xs (number_field re_auth_request_type 0 0) ∷ [])

unfoldable pub fields_code : (session : List ℕ) → List Avp → ℕ
fields_code session xs = first_of (list_code xs ∷ require (same (value_of session_id xs) session) 5002 ∷ [])

-- The fields of a message: the code of the first test that fails, or where none does, Session-Id, Origin-Host and Origin-Realm.
pub record FieldsOf (m : List ℕ) (code : ℕ) (b : Result Sender Failure) : Type 0 where
  pub code_is : code ≡ failed_with b
  pub session : (s : Sender) → b ≡ Ok s → Holds m session_id s.session
  pub host : (s : Sender) → b ≡ Ok s → Holds m origin_host s.host
  pub realm : (s : Sender) → b ≡ Ok s → Holds m origin_realm s.realm

-- A Proxy-Info is to be copied: the header tests and the whole walk passed, and there is one.
unfoldable pub has_proxies : List ℕ → Bool
has_proxies m = eqb (header_code m) 0 && (eqb (walk_code m) 0 && present proxy_info (avps m))

-- A whole message, for an access with this Session-Id.
pub record HeardOf (session m : List ℕ) (h : Heard) : Type 0 where
  pub reading : FieldsOf m (reading_code session m) h.fields
  pub copying : h.proxies ≡ has_proxies m

-- WRITING

-- What an answer is made from: a message that is no call without an answer, names of at most 128 bytes, a room that is large enough, and
-- whether there is a Proxy-Info to copy.
pub record Answerable (m host realm : List ℕ) (proxies : Bool) (room : List ℕ) : Type 0 where
  pub least : 20 ≤ length m
  pub most : length m ≤ message_most
  pub host-fits : length host ≤ 128
  pub realm-fits : length realm ≤ 128
  pub room_fits : answer_least ≤ length room
  pub to-copy : proxies ≡ has_proxies m

-- The answer: its length, and the room with it.
pub record Replied (m host realm : List ℕ) (code size : ℕ) (before after : List ℕ) : Type 0 where
  pub length-is : size ≡ length (answer m host realm (plain code))
  pub room-is : after ≡ put before 0 (answer m host realm (plain code))

-- The first twelve bytes of an AVP of 3GPP of n bytes.
unfoldable pub vendor_head : (code n : ℕ) → List ℕ
vendor_head code n = in32 code ++ (192 ∷ in24 n ++ in32 10415)

-- The first seven AVPs of the AA-Request, and the four behind them.
unfoldable pub name_avps : (session host realm from_host from_realm : List ℕ) → List ℕ
name_avps session host realm from_host from_realm =
    avp_bytes 263 session
    ++ (avp_bytes 258 (in32 1) ++ (avp_bytes 264 host ++ (avp_bytes 296 realm ++ (avp_bytes 283 from_realm ++ (avp_bytes 274 (in32 2) ++ avp_bytes 293 from_host)))))

unfoldable pub access_avps : (user label visited : List ℕ) → List ℕ
access_avps user label visited = avp_bytes 1 user ++ (vendor_avp 311 (in32 0) ++ (visited_avp visited ++ vendor_avp 100 label))

-- The header of an AA-Request of n bytes.
unfoldable pub request_head : (n hop end : ℕ) → List ℕ
request_head n hop end = 1 ∷ in24 n ++ (192 ∷ in24 265 ++ (in32 1 ++ (in32 hop ++ in32 end)))

-- Of what a Re-Auth-Request says, the AA-Request repeats where it came from.
abbrev pub from_of : (host realm : List ℕ) → Texts
from_of host realm = record { session = []; origin_host = host; origin_realm = realm; destination_realm = []; destination_host = [] }

-- Texts for which every room of 5,120 bytes is large enough.
pub record Sendable (host realm : List ℕ) (from : Texts) (a : Access) (room : List ℕ) : Type 0 where
  pub host-fits : length host ≤ 128
  pub realm-fits : length realm ≤ 128
  pub from-host-fits : length from.origin_host ≤ 128
  pub from-realm-fits : length from.origin_realm ≤ 128
  pub session-fits : length a.session ≤ 128
  pub user-fits : length a.user ≤ 128
  pub label-fits : length a.label ≤ 128
  pub visited-fits : length a.visited ≤ 128
  pub room_fits : answer_least ≤ length room

-- The AA-Request: its length, and the room with it.
pub record Sent (host realm : List ℕ) (from : Texts) (a : Access) (hop end size : ℕ) (before after : List ℕ) : Type 0 where
  pub length-is : size ≡ length (request host realm from a hop end)
  pub room-is : after ≡ put before 0 (request host realm from a hop end)

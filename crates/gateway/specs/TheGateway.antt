-- Re-authorization at the gateway (request W11 of document 02): a Re-Auth-Request is answered for one access that is lent, and where it is good an
-- AA-Request for that access goes back to the server.
use Rattle.std.specs.Prelude.{Bool, true, ◌&&◌, List, [], ◌∷◌, ◌++◌, map, ℕ, ◌+◌, ◌-◌, ◌/◌, ◌%◌, eqb, leb, length}
use Rattle.octets.specs.Choice.{pick, require, first_of, within}
use Rattle.octets.specs.Texts.{part, put, same, zeros}
use Rattle.octets.specs.Numbers.{in24, in32, up4}
use Rattle.message.specs.TheRooms.{answer_least}
use Rattle.message.specs.CallsThatGetNoAnswer.{message_number}
use Rattle.message.specs.Codes.{Code, plain, kind_of, number_of}
use Rattle.message.specs.ReadingAMessage.{Avp, Field, application, avps, command, destination_host, destination_realm, field_code, flags, for_both, having, number_field, origin_host, origin_realm, proxy_info, session_id, starts_with, text_field, value_of, walk_code, re_auth_request_type}
use Rattle.message.specs.WritingTheAnswer.{all_bytes, answer_flags, avp_bytes, result_avp, session_avp}

-- WHAT IS LENT

-- The access that the gateway holds: its Session-Id, the user's name, the label of the W-APN, and the visited network, no bytes where there is none.
pub record Access : Type 0 where
  pub session : List ℕ
  pub user : List ℕ
  pub label : List ℕ
  pub visited : List ℕ

-- A call: the gateway's own names, the access, the message, the two identifiers for the AA-Request, and rooms for the answer and for that request, with
-- what stands in them.
pub record Call : Type 0 where
  pub host : List ℕ
  pub realm : List ℕ
  pub access : Access
  pub message : List ℕ
  pub hop : ℕ
  pub end : ℕ
  pub answer : List ℕ
  pub request : List ℕ

-- CALLS THAT GET NO ANSWER

-- A Session-Id and a name of 1 to 128 bytes, a label of 1 to 100; a visited network of 1 to 128, or none.
unfoldable pub access_fits : Access → Bool
access_fits a =
    within 1 128 (length a.session) && (within 1 128 (length a.user) && (within 1 100 (length a.label) && leb (length a.visited) 128))

-- In order: 2, an own name is not 1 to 128 bytes; 3, a room is under 5,120 bytes; 22, a text of the access does not fit; then the message's own, 5 to 8. The
-- number of the first that fails, 0 where none does.
unfoldable pub call_number : Call → ℕ
call_number c =
    first_of
    (require (within 1 128 (length c.host) && within 1 128 (length c.realm)) 2
    ∷ require (leb answer_least (length c.answer) && leb answer_least (length c.request)) 3
    ∷ require (access_fits c.access) 22
    ∷ message_number c.message
    ∷ [])

-- READING THE RE-AUTH-REQUEST

-- The header, in order as for the server's requests: no reserved bit is set, else 5013; E is clear, else 3008; the command is 258, else 3001; the
-- Application-Id is 1, else 3007.
unfoldable pub header_code : List ℕ → ℕ
header_code m =
    first_of
    (require (eqb (flags m % 16) 0) 5013
    ∷ require (eqb (flags m / 32 % 2) 0) 3008
    ∷ require (eqb (command m) 258) 3001
    ∷ require (eqb (application m) 1) 3007
    ∷ [])

-- The list: the five of the server's requests; Destination-Host; Re-Auth-Request-Type, 0, which is AUTHORIZE_ONLY.
unfoldable pub fields : List Field
fields = for_both ++ (text_field destination_host true ∷ number_field re_auth_request_type 0 0 ∷ [])

unfoldable pub list_code : List Avp → ℕ
list_code xs = first_of (require (starts_with session_id xs) 5005 ∷ map (field_code xs) fields)

-- Header, walk and list; then the Session-Id is the access's, byte by byte, else 5002. The code of the first that fails, 0 where none does.
unfoldable pub reading_code : (session : List ℕ) → (m : List ℕ) → ℕ
reading_code session m =
    first_of
    (header_code m
    ∷ walk_code m
    ∷ list_code (avps m)
    ∷ require (same (value_of session_id (avps m)) session) 5002
    ∷ [])

-- What a Re-Auth-Request says. The gateway uses the first three.
pub record Texts : Type 0 where
  pub session : List ℕ
  pub origin_host : List ℕ
  pub origin_realm : List ℕ
  pub destination_realm : List ℕ
  pub destination_host : List ℕ

unfoldable pub texts_of : List Avp → Texts
texts_of xs =
    record {
      session = value_of session_id xs;
      origin_host = value_of origin_host xs;
      origin_realm = value_of origin_realm xs;
      destination_realm = value_of destination_realm xs;
      destination_host = value_of destination_host xs;
    }

-- WRITING THE RE-AUTH-ANSWER

-- Every Proxy-Info of a message whose header and walk are without fault, as it came.
unfoldable pub proxy_avps : List ℕ → List ℕ
proxy_avps m = pick (eqb (header_code m) 0 && eqb (walk_code m) 0) (all_bytes (having proxy_info (avps m))) []

-- Session-Id where it is copied; the code; the own names; the Proxy-Infos. So the server answers a termination; here every command is answered so.
unfoldable pub answer_avps : (m host realm : List ℕ) → Code → List ℕ
answer_avps m host realm code = session_avp m ++ (result_avp code ++ (avp_bytes 264 host ++ (avp_bytes 296 realm ++ proxy_avps m)))

unfoldable pub answer : (m host realm : List ℕ) → Code → List ℕ
answer m host realm code =
    let avps : List ℕ = answer_avps m host realm code in
    1 ∷ in24 (20 + length avps) ++ (answer_flags m code ∷ part m 5 15 ++ avps)

-- WRITING THE AA-REQUEST

-- An AVP of 3GPP: V and M set (192), the vendor 10415, the length without the padding, and zeros as padding.
unfoldable pub vendor_avp : (code : ℕ) → (value : List ℕ) → List ℕ
vendor_avp code value = in32 code ++ (192 ∷ in24 (12 + length value) ++ (in32 10415 ++ (value ++ zeros (up4 (length value) - length value))))

unfoldable pub visited_avp : (visited : List ℕ) → List ℕ
visited_avp visited = pick (eqb (length visited) 0) [] (vendor_avp 600 visited)

-- In the order of the server's list, from the gateway's own names, the names that the Re-Auth-Request came from, and the access: Session-Id;
-- Auth-Application-Id 1; Origin-Host; Origin-Realm; Destination-Realm; Auth-Request-Type 2; Destination-Host; User-Name; Session-Request-Type 0; the
-- visited network, if there is one; the W-APN.
unfoldable pub request_avps : (host realm : List ℕ) → (from : Texts) → Access → List ℕ
request_avps host realm from a =
    avp_bytes 263 a.session
    ++ (avp_bytes 258 (in32 1)
    ++ (avp_bytes 264 host
    ++ (avp_bytes 296 realm
    ++ (avp_bytes 283 from.origin_realm
    ++ (avp_bytes 274 (in32 2)
    ++ (avp_bytes 293 from.origin_host
    ++ (avp_bytes 1 a.user
    ++ (vendor_avp 311 (in32 0)
    ++ (visited_avp a.visited
    ++ vendor_avp 100 a.label)))))))))

-- The AA-Request: version 1, its length, flags R and P (192), command 265, Application-Id 1, the caller's identifiers.
unfoldable pub request : (host realm : List ℕ) → (from : Texts) → Access → (hop end : ℕ) → List ℕ
request host realm from a hop end =
    let avps : List ℕ = request_avps host realm from a in
    1 ∷ in24 (20 + length avps) ++ (192 ∷ in24 265 ++ (in32 1 ++ (in32 hop ++ (in32 end ++ avps))))

-- WHAT A CALL LEAVES

-- The code, or the number of a call that gets no answer; which kind of code it is, 0 for a number; how long the answer and the request are; and both
-- rooms. What stands behind what is written stays.
pub record Left : Type 0 where
  pub code : ℕ
  pub kind : ℕ
  pub size : ℕ
  pub request_size : ℕ
  pub answer : List ℕ
  pub request : List ℕ

-- A number: nothing is written.
unfoldable pub silent : Call → ℕ → Left
silent c n = record { code = n; kind = 0; size = 0; request_size = 0; answer = c.answer; request = c.request }

-- The answer, and a request or none.
unfoldable pub replied : Call → Code → (request : List ℕ) → Left
replied c code request =
    let bytes : List ℕ = answer c.message c.host c.realm code in
    record {
      code = number_of code;
      kind = kind_of code;
      size = length bytes;
      request_size = length request;
      answer = put c.answer 0 bytes;
      request = put c.request 0 request;
    }

-- A message that fails a test is answered with its code and nothing goes to the server; any other with 2001, and the AA-Request goes.
unfoldable pub reauthorize : Call → Left
reauthorize c =
    let number : ℕ = call_number c in
    let code : ℕ = reading_code c.access.session c.message in
    let from : Texts = texts_of (avps c.message) in
    pick (eqb number 0)
    (pick (eqb code 0)
    (replied c (plain 2001) (request c.host c.realm from c.access c.hop c.end))
    (replied c (plain code) []))
    (silent c number)

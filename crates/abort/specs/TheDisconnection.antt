-- The disconnection (request W6 of document 02): a gateway is asked to end an access that was cut, and its answer is recognized.
use Rattle.std.specs.Prelude.{Bool, ◌&&◌, List, [], ◌∷◌, ◌++◌, ℕ, ◌+◌, eqb, leb, length, drop}
use Rattle.octets.specs.Choice.{pick, require, first_of, within}
use Rattle.octets.specs.Texts.{part, same}
use Rattle.octets.specs.Numbers.{in24, in32, net32}
use Rattle.message.specs.TheRooms.{long_notice}
use Rattle.message.specs.CallsThatGetNoAnswer.{message_number}
use Rattle.message.specs.ReadingAMessage.{Name, base, session_id, Avp, Walk, walk, body, command, having, value_of, starts_with}
use Rattle.message.specs.WritingTheAnswer.{avp_bytes}

-- WRITING THE REQUEST

-- A notice of form 2, and beside it how long its three texts are: the Session-Id of the access that was cut, the gateway's host and
-- its realm.
pub record Cut : Type 0 where
  pub notice : List ℕ
  pub cut_session : ℕ
  pub cut_host : ℕ
  pub cut_realm : ℕ

-- A room for the request.
abbrev pub abort_least : ℕ
abort_least = 1024

-- In order: the own host and realm have 1 to 128 bytes each, else 2; the notice has 384 bytes or more, else 4; each of the three
-- lengths is 1 to 128, else 22; the room has 1,024 bytes or more, else 23. The number of the first that fails, 0 where none does.
unfoldable pub abort_number : (host realm : List ℕ) → Cut → (room : List ℕ) → ℕ
abort_number host realm c room =
    first_of
    (require (within 1 128 (length host) && within 1 128 (length realm)) 2
    ∷ require (leb long_notice (length c.notice)) 4
    ∷ require (within 1 128 c.cut_session && (within 1 128 c.cut_host && within 1 128 c.cut_realm)) 22
    ∷ require (leb abort_least (length room)) 23
    ∷ [])

-- What a request says: the own host and realm, the Session-Id, the gateway's host and realm, and the two identifiers, hop-by-hop and
-- end-to-end.
pub record Abort : Type 0 where
  pub host : List ℕ
  pub realm : List ℕ
  pub session : List ℕ
  pub gateway_host : List ℕ
  pub gateway_realm : List ℕ
  pub hop : ℕ
  pub end : ℕ

-- The texts start at bytes 0, 128 and 256 of the notice; what stands behind each of them is not looked at.
unfoldable pub abort_of : (host realm : List ℕ) → Cut → (hop end : ℕ) → Abort
abort_of host realm c hop end =
    record {
      host = host;
      realm = realm;
      session = part c.notice 0 c.cut_session;
      gateway_host = part c.notice 128 c.cut_host;
      gateway_realm = part c.notice 256 c.cut_realm;
      hop = hop;
      end = end;
    }

-- Session-Id; the own names as Origin-Host and Origin-Realm; the gateway's as Destination-Realm and Destination-Host;
-- Auth-Application-Id 1.
unfoldable pub abort_avps : Abort → List ℕ
abort_avps a =
    avp_bytes 263 a.session
    ++ (avp_bytes 264 a.host
    ++ (avp_bytes 296 a.realm
    ++ (avp_bytes 283 a.gateway_realm ++ (avp_bytes 293 a.gateway_host ++ avp_bytes 258 (in32 1)))))

-- The header of a message of n bytes: version 1, the length, the flags, the command, Application-Id 1, the two identifiers.
unfoldable pub header : (n flags command hop end : ℕ) → List ℕ
header n flags command hop end = 1 ∷ in24 n ++ (flags ∷ in24 command ++ (in32 1 ++ (in32 hop ++ in32 end)))

-- The Abort-Session-Request: command 274, flags R and P (192).
unfoldable pub abort_request : Abort → List ℕ
abort_request a = header (20 + length (abort_avps a)) 192 274 a.hop a.end ++ abort_avps a

-- What a call leaves: its number, how long the request is, and the room.
pub record Left : Type 0 where
  pub number : ℕ
  pub size : ℕ
  pub room : List ℕ

-- Where a test fails nothing is written, and the length is 0; else the request stands at the start of the room, and behind it what
-- stood there.
unfoldable pub write_abort : (host realm : List ℕ) → Cut → (hop end : ℕ) → (room : List ℕ) → Left
write_abort host realm c hop end room =
    let number : ℕ = abort_number host realm c room in
    let bytes : List ℕ = abort_request (abort_of host realm c hop end) in
    pick (eqb number 0)
    (record { number = 0; size = length bytes; room = bytes ++ drop (length bytes) room })
    (record { number = number; size = 0; room = room })

-- RECOGNIZING THE ANSWER

abbrev pub result_code : Name
result_code = base 268

-- Of the message's own tests, 5 to 8, the last is the first that fails: it has 20 to 4,096 bytes, version 1, its true length, a multiple
-- of 4, and R is clear. The command is 274. Bytes 12 to 15 and 16 to 19 are the two identifiers sent. The other flags and the
-- Application-Id are not looked at.
unfoldable pub answers_to : (hop end : ℕ) → (answer : List ℕ) → Bool
answers_to hop end answer =
    eqb (message_number answer) 8 && (eqb (command answer) 274 && (eqb (net32 answer 12) hop && eqb (net32 answer 16) end))

-- One AVP has this name, and no other has.
unfoldable pub once : Name → List Avp → Bool
once n xs = eqb (length (having n xs)) 1

-- The walk passes; Session-Id is the first AVP, stands once and is the one sent; Result-Code stands once, with 4 bytes.
unfoldable pub answers_for : (session : List ℕ) → Walk → Bool
answers_for session w =
    eqb w.code 0
    && (starts_with session_id w.avps
    && (once session_id w.avps
    && (same (value_of session_id w.avps) session
    && (once result_code w.avps && eqb (length (value_of result_code w.avps)) 4))))

-- Whether an answer belongs to the request with this Session-Id and these identifiers. It is walked by the four tests alone: an AVP that
-- is not known and has M is no fault in it.
unfoldable pub belongs : (answer session : List ℕ) → (hop end : ℕ) → Bool
belongs answer session hop end = answers_to hop end answer && answers_for session (walk (body answer))

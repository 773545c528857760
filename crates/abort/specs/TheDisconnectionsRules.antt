-- What request W6 asks of the disconnection, as theorems; proofs/TheDisconnectionsRules has their proofs.
use Rattle.std.specs.Prelude.{◌≡◌, Bool, true, false, List, [], ◌∷◌, ◌++◌, ℕ, ◌+◌, ◌%◌, ◌≤◌, ◌<◌, length, take}
use Rattle.octets.specs.Numbers.{net24, in32}
use Rattle.message.specs.ReadingAMessage.{base, Avp, walk, body}
use Rattle.message.specs.WritingTheAnswer.{avp_bytes}
use Rattle.abort.specs.TheDisconnection.{Cut, abort_number, Abort, abort_of, header, Left, write_abort, belongs}
use Rattle.abort.specs.Code.{leaves, Short}
use Rattle.abort.specs.declared.Written.{Written}

-- What a call has written: the bytes of the room up to the length that it tells.
unfoldable pub written : Left → List ℕ
written l = take l.size l.room

-- An AVP of ours as it is read: without V, with M, the value and all its bytes.
unfoldable pub sent : (code : ℕ) → (value : List ℕ) → Avp
sent code value = record { name = base code; mandatory = true; value = value; bytes = avp_bytes code value }

unfoldable pub sent_avps : Abort → List Avp
sent_avps a =
    sent 263 a.session
    ∷ sent 264 a.host
    ∷ sent 296 a.realm
    ∷ sent 283 a.gateway_realm
    ∷ sent 293 a.gateway_host
    ∷ sent 258 (in32 1)
    ∷ []

-- READ AS IT WAS WRITTEN. Our own walk reads what a call has written as exactly these six AVPs, in this order, each with the text given.
abbrev pub ReadAsWritten : Type 0
ReadAsWritten =
    (host realm : List ℕ) (c : Cut) (hop end : ℕ) (room : List ℕ)
    → abort_number host realm c room ≡ 0
    → walk (body (written (write_abort host realm c hop end room))) ≡ record { avps = sent_avps (abort_of host realm c hop end); code = 0 }

-- ITS TRUE LENGTH. The length told is the one in the header and the number of bytes; it is a multiple of 4, and at most 712.
abbrev pub TrueLength : Type 0
TrueLength =
    (host realm : List ℕ) (c : Cut) (hop end : ℕ) (room : List ℕ)
    → abort_number host realm c room ≡ 0
    → (net24 (written (write_abort host realm c hop end room)) 1 ≡ (write_abort host realm c hop end room).size)
    × (length (written (write_abort host realm c hop end room)) ≡ (write_abort host realm c hop end room).size)
    × ((write_abort host realm c hop end room).size % 4 ≡ 0)
    × ((write_abort host realm c hop end room).size ≤ 712)

-- THE GATEWAY'S ANSWER to a request, with any Result-Code: flag P as it came, the command and both identifiers; Session-Id, Result-Code, and
-- the gateway's names as Origin-Host and Origin-Realm.
unfoldable pub answer_avps : (code : ℕ) → Abort → List ℕ
answer_avps code a = avp_bytes 263 a.session ++ (avp_bytes 268 (in32 code) ++ (avp_bytes 264 a.gateway_host ++ avp_bytes 296 a.gateway_realm))

unfoldable pub abort_answer : (code : ℕ) → Abort → List ℕ
abort_answer code a = header (20 + length (answer_avps code a)) 64 274 a.hop a.end ++ answer_avps code a

-- It belongs to that request.
abbrev pub AnswerBelongs : Type 0
AnswerBelongs =
    (code : ℕ) (a : Abort)
    → Short a
    → a.hop < 4294967296
    → a.end < 4294967296
    → belongs (abort_answer code a) a.session a.hop a.end ≡ true

-- NO OTHER REQUEST'S. An answer, whoever laid it out, that belongs to a request belongs to none with another Session-Id or another identifier.
abbrev pub NoOthers : Type 0
NoOthers =
    (answer session other : List ℕ) (hop end hop2 end2 : ℕ)
    → belongs answer session hop end ≡ true
    → ((session ≡ other) × (hop ≡ hop2) × (end ≡ end2) → ⊥)
    → belongs answer other hop2 end2 ≡ false

-- NO SECOND ANSWER: what an operation promises for the same inputs is met by one outcome only. Each equation is the one that the operation
-- ensures, as proofs/Ensured holds it to.

-- Of writing: the number, the length and every byte of the room.
abbrev pub OneWriting : Type 0
OneWriting =
    (host realm : List ℕ) (c : Cut) (hop end : ℕ) (room : List ℕ) (w v : Written) (r q : List ℕ)
    → leaves w r ≡ write_abort host realm c hop end room
    → leaves v q ≡ write_abort host realm c hop end room
    → (w ≡ v) × (r ≡ q)

-- Of recognizing: whether the answer belongs.
abbrev pub OneVerdict : Type 0
OneVerdict = (answer session : List ℕ) (hop end : ℕ) (b d : Bool) → b ≡ belongs answer session hop end → d ≡ belongs answer session hop end → b ≡ d

-- What holds of re-authorization at the gateway (request W11 of document 02).
use Rattle.std.specs.Prelude.{true, not, List, ◌++◌, ◌≡◌, ℕ, ◌+◌, ◌≤◌, eqb, length}
use Rattle.octets.specs.Numbers.{in32}
use Rattle.message.specs.CallsThatGetNoAnswer.{message_number}
use Rattle.message.specs.Codes.{plain}
use Rattle.message.specs.ReadingAMessage.{avps, read, request as request-of, tunnel}
use Rattle.message.specs.WritingTheAnswer.{avp_bytes}
use Rattle.abort.specs.TheDisconnection.{header}
use Rattle.gateway.specs.TheGateway.{Access, Call, Texts, access_fits, call_number, reading_code, reauthorize, replied, request, texts_of}

-- THE RE-AUTH-REQUEST, laid out from its texts in the order of the list: M on each, padding zero, flags R and P, Application-Id 1.
unfoldable pub re_auth_avps : Texts → List ℕ
re_auth_avps t =
    avp_bytes 263 t.session
    ++ (avp_bytes 258 (in32 1)
    ++ (avp_bytes 264 t.origin_host
    ++ (avp_bytes 296 t.origin_realm
    ++ (avp_bytes 283 t.destination_realm ++ (avp_bytes 293 t.destination_host ++ avp_bytes 285 (in32 0))))))

unfoldable pub re_auth_request : Texts → (hop end : ℕ) → List ℕ
re_auth_request t hop end = header (20 + length (re_auth_avps t)) 192 258 hop end ++ re_auth_avps t

-- A text of 1 to 128 bytes, and five of them.
pub record Fits (s : List ℕ) : Type 0 where
  pub least : 1 ≤ length s
  pub most : length s ≤ 128

pub record Fit (t : Texts) : Type 0 where
  pub session : Fits t.session
  pub origin_host : Fits t.origin_host
  pub origin_realm : Fits t.origin_realm
  pub destination_realm : Fits t.destination_realm
  pub destination_host : Fits t.destination_host

-- READ BY THE GATEWAY: every text from which it was laid out; and for the access with its Session-Id no test of it fails.
abbrev pub ReadAsLaidOut : Type 0
ReadAsLaidOut =
    (t : Texts) (hop end : ℕ) → Fit t → (reading_code t.session (re_auth_request t hop end) ≡ 0) × (texts_of (avps (re_auth_request t hop end)) ≡ t)

-- It is a message with no number of its own.
abbrev pub LaidOutNoNumber : Type 0
LaidOutNoNumber = (t : Texts) (hop end : ℕ) → Fit t → message_number (re_auth_request t hop end) ≡ 0

-- So a call with it that gets an answer, for the access with its Session-Id, goes on: 2001, and the AA-Request back to where it came from.
abbrev pub GoesOn : Type 0
GoesOn =
    (c : Call) (t : Texts) (hop end : ℕ)
    → Fit t
    → call_number c ≡ 0
    → c.message ≡ re_auth_request t hop end
    → c.access.session ≡ t.session
    → reauthorize c ≡ replied c (plain 2001) (request c.host c.realm t c.access c.hop c.end)

-- READ BY THE SERVER. The access is one that 22 lets through; each of the four names has 1 to 128 bytes.
pub record Sendable (host realm : List ℕ) (from : Texts) (a : Access) : Type 0 where
  pub host-fits : Fits host
  pub realm-fits : Fits realm
  pub from-host-fits : Fits from.origin_host
  pub from-realm-fits : Fits from.origin_realm
  pub access-fits : access_fits a ≡ true

-- From the AA-Request that the gateway writes the server reads the very fields that the gateway wrote: the user; and for a tunnel the Session-Id, the
-- gateway's own host and realm, the label, and whether there is a visited network.
abbrev pub ServerReads : Type 0
ServerReads =
    (most : ℕ) (host realm : List ℕ) (from : Texts) (a : Access) (hop end : ℕ)
    → Sendable host realm from a
    → read most (request host realm from a hop end)
    ≡ request-of (record { user = a.user; ask = tunnel a.session host realm a.label (not (eqb (length a.visited) 0)) })

-- It is a message with no number of its own: its length is the true one.
abbrev pub NoNumber : Type 0
NoNumber =
    (host realm : List ℕ) (from : Texts) (a : Access) (hop end : ℕ)
    → Sendable host realm from a
    → message_number (request host realm from a hop end) ≡ 0

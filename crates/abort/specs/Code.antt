-- What the code's numbers and parts say in the disconnection's terms.
use Rattle.std.specs.Prelude.{Option, MatchOption, ◌≢◌, Bool, ◌&&◌, ◌||◌, not, List, ◌++◌, ◌≡◌, ℕ, ◌≤◌, eqb, length, drop}
use Rattle.octets.specs.Choice.{pick}
use Rattle.octets.specs.Numbers.{net32}
use Rattle.message.specs.ReadingAMessage.{session_id, has_v, avp_length, avp_code, Walk, having, value_of}
use Rattle.abort.specs.TheDisconnection.{Cut, Abort, abort_request, Left, result_code, once}
use Rattle.abort.specs.declared.Written.{Written}

-- A notice and its three lengths, as they are lent.
abbrev pub cut_of : (notice : List ℕ) → (cut_session cut_host cut_realm : ℕ) → Cut
cut_of notice cut_session cut_host cut_realm = record { notice = notice; cut_session = cut_session; cut_host = cut_host; cut_realm = cut_realm }

-- What a request says, as the texts are lent.
abbrev pub saying : (host realm session gateway_host gateway_realm : List ℕ) → (hop end : ℕ) → Abort
saying host realm session gateway_host gateway_realm hop end =
    record { host = host; realm = realm; session = session; gateway_host = gateway_host; gateway_realm = gateway_realm; hop = hop; end = end }

-- The number of a refusal as the code has it: none for 0.
abbrev pub Refuses : ℕ → Option ℕ → Type 0
Refuses number r = MatchOption r (number ≡ 0) (λ n. (n ≡ number) × (n ≢ 0))

-- A number and a length, and the room as it stands then.
unfoldable pub leaves : Written → List ℕ → Left
leaves w room = record { number = w.number; size = w.length; room = room }

-- Five texts of at most 128 bytes, for which every room of 1,024 bytes is large enough.
pub record Short (a : Abort) : Type 0 where
  pub host-fits : length a.host ≤ 128
  pub realm-fits : length a.realm ≤ 128
  pub session-fits : length a.session ≤ 128
  pub gateway-host-fits : length a.gateway_host ≤ 128
  pub gateway-realm-fits : length a.gateway_realm ≤ 128

-- The request that says it was written: its length, and the room with it.
pub record Sent (a : Abort) (size : ℕ) (before after : List ℕ) : Type 0 where
  pub length-is : size ≡ length (abort_request a)
  pub room-is : after ≡ abort_request a ++ drop (length (abort_request a)) before

-- The length of an AVP that passes the four tests; 0 of one that does not.
unfoldable pub passed_length : List ℕ → ℕ
passed_length s = pick (eqb (avp_code s) 0) (avp_length s) 0

-- The code of an AVP; 0 with V, which is no code that is looked for.
unfoldable pub plain_code : List ℕ → ℕ
plain_code s = pick (has_v s) 0 (net32 s 0)

-- The length of a Session-Id that passes the four tests; 0 of any other AVP.
unfoldable pub first_length : List ℕ → ℕ
first_length s = pick (eqb (plain_code s) 263) (passed_length s) 0

-- The AVPs behind the Session-Id, where a Result-Code of 4 bytes stands before them or not: the walk passes, none of them is a
-- Session-Id, and in all one Result-Code is there, of 4 bytes.
unfoldable pub rest_answers : (found : Bool) → Walk → Bool
rest_answers found w =
    eqb w.code 0
    && (eqb (length (having session_id w.avps)) 0
    && pick found (eqb (length (having result_code w.avps)) 0)
    (once result_code w.avps && eqb (length (value_of result_code w.avps)) 4))

-- One of them, of this code and length, for which the answer does not belong: a second Session-Id, a second Result-Code, or one that
-- has not 4 bytes behind its header of 8.
unfoldable pub spoilt : (found : Bool) → (code n : ℕ) → Bool
spoilt found code n = eqb code 263 || (eqb code 268 && (found || not (eqb n 12)))

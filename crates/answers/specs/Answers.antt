-- What the code that writes an answer is given and leaves, in the paper's terms.
use Rattle.std.specs.Prelude.{◌≡◌, Bool, List, [], ◌∷◌, ◌++◌, ℕ, ◌+◌, ◌-◌, ◌≤◌, ◌<◌, length}
use Rattle.octets.specs.Choice.{pick}
use Rattle.octets.specs.Texts.{part, put}
use Rattle.octets.specs.Numbers.{in24, in32}
use Rattle.message.specs.TheRooms.{answer_least}
use Rattle.message.specs.Codes.{Code}
use Rattle.message.specs.ReadingAMessage.{command, avps, having, user_name, proxy_info}
use Rattle.message.specs.WritingTheAnswer.{avp_bytes, session_avp, all_bytes, answer_flags, answer, answer_room}
use Rattle.message.specs.declared.Span.{Span}
use Rattle.message.specs.Spans.{Holds, has_proxies}
use Rattle.message.specs.CallsThatGetNoAnswer.{message_most}

-- The first eight bytes of an AVP of ours of n bytes.
unfoldable pub head_bytes : ℕ → ℕ → List ℕ
head_bytes code n = in32 code ++ (64 ∷ in24 n)

-- The header of an answer of n bytes.
unfoldable pub answer_head : List ℕ → Code → ℕ → List ℕ
answer_head m c n = 1 ∷ in24 n ++ (answer_flags m c ∷ part m 5 15)

-- Every Proxy-Info, as it came, where they are to be copied; else none.
unfoldable pub copied : (proxies : Bool) → List ℕ → List ℕ
copied proxies m = pick proxies (all_bytes (having proxy_info (avps m))) []

-- A room in which bytes were written from a place on, and the place behind them.
pub record Written (before after : List ℕ) (at next : ℕ) (bytes : List ℕ) : Type 0 where
  pub place : next ≡ at + length bytes
  pub bytes-put : after ≡ put before at bytes

-- The length n of the first AVP, where the answer repeats it.
pub record SessionOf (m : List ℕ) (n : ℕ) : Type 0 where
  pub least : 9 ≤ n
  pub most : n ≤ 136
  pub inside : 20 + n ≤ length m
  pub some : session_avp m ≡ avp_bytes 263 (part m 28 (n - 8))

-- What an answer is made from: a message that is no call without an answer, names of at most 128 bytes, a room that is
-- large enough, the User-Name where the answer repeats it, whether there is a Proxy-Info to copy, and a code that two bytes hold.
pub record Answerable (m host realm : List ℕ) (code : ℕ) (user : Span) (proxies : Bool) (room : List ℕ) : Type 0 where
  pub least : 20 ≤ length m
  pub most : length m ≤ message_most
  pub host-fits : length host ≤ 128
  pub realm-fits : length realm ≤ 128
  pub room_fits : answer_least ≤ length room
  pub named : command m ≡ 265 → code ≡ 2001 → Holds m user_name user
  pub short : command m ≡ 265 → code ≡ 2001 → user.len ≤ 128
  pub to-copy : proxies ≡ has_proxies m
  pub small : code < 65536

-- The answer: its length, and the room with it.
pub record Answered (m host realm : List ℕ) (c : Code) (size : ℕ) (before after : List ℕ) : Type 0 where
  pub length-is : size ≡ length (answer m host realm c)
  pub room-is : after ≡ answer_room m host realm c before

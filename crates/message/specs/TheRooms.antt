-- The rooms that a caller lends: how long each is at least.
use Rattle.std.specs.Prelude.{ℕ, eqb}
use Rattle.octets.specs.Choice.{pick}

-- A room for an answer. No answer is longer.
abbrev pub answer_least : ℕ
answer_least = 5120

-- A notice of form 1: two texts of 128 bytes.
abbrev pub short_notice : ℕ
short_notice = 256

-- A notice of form 2: three of them (W6).
abbrev pub long_notice : ℕ
long_notice = 384

-- How long a notice is, and at least the room for it.
unfoldable pub notice_length : (form : ℕ) → ℕ
notice_length f = pick (eqb f 2) long_notice short_notice

-- Calls that get no Diameter answer: those of the eight tests that look at the message alone.
use Rattle.std.specs.Prelude.{◌&&◌, List, [], ◌∷◌, ℕ, ◌%◌, eqb, leb, length, get_or}
use Rattle.octets.specs.Choice.{require, first_of, within}
use Rattle.octets.specs.Numbers.{net24}

-- The most bytes that a message has.
abbrev pub message_most : ℕ
message_most = 4096

-- 5: the message has 20 to 4,096 bytes. 6: its version is 1. 7: the length in its header is the number
-- of bytes given, and a multiple of 4. 8: it is a request, the R bit (the highest of the flags) is set.
-- The number of the first that fails, 0 where none does.
unfoldable pub message_number : List ℕ → ℕ
message_number m =
    first_of
    (require (within 20 message_most (length m)) 5
    ∷ require (eqb (get_or m 0 0) 1) 6
    ∷ require (eqb (net24 m 1) (length m) && eqb (length m % 4) 0) 7
    ∷ require (leb 128 (get_or m 4 0)) 8
    ∷ [])

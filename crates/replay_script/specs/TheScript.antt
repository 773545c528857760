-- The script's format, as far as the functions promise it: digests, the bytes of a room, where two texts part, the end of a text.
use Rattle.std.specs.Prelude.{Bool, true, ◌&&◌, List, [], ◌∷◌, ℕ, suc, ◌+◌, ◌*◌, ◌%◌, eqb}
use Rattle.octets.specs.Choice.{pick}

-- One byte more in a digest at the factor k.
unfoldable pub digest_step : (k h x : ℕ) → ℕ
digest_step k h x = (h * k + x + 1) % 2147483647

-- The digest at the factor k, begun at h.
unfoldable pub digest_of : (k h : ℕ) → List ℕ → ℕ
digest_of k h [] = h
digest_of k h (x ∷ xs) = digest_of k (digest_step k h x) xs

-- Byte i of a room before a call.
unfoldable pub room_byte : (seed i : ℕ) → ℕ
room_byte seed i = (seed + 7 * i) % 256

-- The bytes are those of a room before a call, from its byte i on.
unfoldable pub as_filled : (seed i : ℕ) → List ℕ → Bool
as_filled seed i [] = true
as_filled seed i (x ∷ xs) = eqb x (room_byte seed i) && as_filled seed (suc i) xs

-- The first index at which two texts differ, or the length of the shorter.
unfoldable pub unlike : List ℕ → List ℕ → ℕ
unlike [] ys = 0
unlike (x ∷ xs) [] = 0
unlike (x ∷ xs) (y ∷ ys) = let more : ℕ = suc (unlike xs ys) in pick (eqb x y) more 0

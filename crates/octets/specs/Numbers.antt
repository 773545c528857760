-- Numbers in bytes, most of them in network order: the highest byte stands first.
use Rattle.std.specs.Prelude.{List, [], ◌∷◌, ℕ, ◌+◌, ◌*◌, ◌/◌, ◌%◌, ◌<◌, get_or}

-- The number in three bytes, and in four, from byte a on.
unfoldable pub net24 : List ℕ → ℕ → ℕ
net24 s a = get_or s a 0 * 65536 + get_or s (a + 1) 0 * 256 + get_or s (a + 2) 0

unfoldable pub net32 : List ℕ → ℕ → ℕ
net32 s a = get_or s a 0 * 16777216 + get_or s (a + 1) 0 * 65536 + get_or s (a + 2) 0 * 256 + get_or s (a + 3) 0

-- The three bytes of a number, and the four.
unfoldable pub in24 : ℕ → List ℕ
in24 n = n / 65536 % 256 ∷ n / 256 % 256 ∷ n % 256 ∷ []

unfoldable pub in32 : ℕ → List ℕ
in32 n = n / 16777216 % 256 ∷ n / 65536 % 256 ∷ n / 256 % 256 ∷ n % 256 ∷ []

-- The number in four bytes, and in eight, from byte a on, the lowest first.
unfoldable pub low32 : List ℕ → ℕ → ℕ
low32 s a = get_or s a 0 + get_or s (a + 1) 0 * 256 + get_or s (a + 2) 0 * 65536 + get_or s (a + 3) 0 * 16777216

unfoldable pub low64 : List ℕ → ℕ → ℕ
low64 s a = low32 s a + low32 s (a + 4) * 4294967296

-- Four bytes are bytes: each is under 256.
pub record Bytes4 (s : List ℕ) (a : ℕ) : Type 0 where
  pub byte0 : get_or s a 0 < 256
  pub byte1 : get_or s (a + 1) 0 < 256
  pub byte2 : get_or s (a + 2) 0 < 256
  pub byte3 : get_or s (a + 3) 0 < 256

-- A length padded to the next multiple of 4.
unfoldable pub up4 : ℕ → ℕ
up4 n = (n + 3) / 4 * 4

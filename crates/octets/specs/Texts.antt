-- Texts: lists of bytes, compared byte by byte; their parts; rooms filled up with zeros.
use Rattle.std.specs.Prelude.{Bool, true, false, ◌&&◌, List, [], ◌∷◌, ◌++◌, ℕ, zero, suc, ◌+◌, eqb, length, take, drop, replicate}

-- The n bytes from byte a on.
abbrev pub part : List ℕ → ℕ → ℕ → List ℕ
part s a n = take n (drop a s)

-- n zero bytes.
unfoldable pub zeros : ℕ → List ℕ
zeros n = replicate n 0

-- A text in a room of n bytes, filled up with zeros.
unfoldable pub filled : List ℕ → ℕ → List ℕ
filled s n = take n (s ++ zeros n)

-- Two texts are the same, byte by byte.
unfoldable pub same : List ℕ → List ℕ → Bool
same [] [] = true
same [] (y ∷ ys) = false
same (x ∷ xs) [] = false
same (x ∷ xs) (y ∷ ys) = eqb x y && same xs ys

-- All bytes are zero.
unfoldable pub all_zero : List ℕ → Bool
all_zero s = same s (zeros (length s))

-- A room after bytes were written into it from byte a on: those before and behind stay.
unfoldable pub put : List ℕ → ℕ → List ℕ → List ℕ
put room a s = take a room ++ (s ++ drop (a + length s) room)

-- The first n pieces of w bytes each, one behind another.
unfoldable pub pieces : (w n : ℕ) → List ℕ → List (List ℕ)
pieces w zero s = []
pieces w (suc n) s = take w s ∷ pieces w n (drop w s)

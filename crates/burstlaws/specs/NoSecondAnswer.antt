-- No second answer: what `burst::burst` promises for the same inputs is met by one outcome only, in what it returns and in every byte and number that
-- it was lent. The equation here is the one that it ensures, of any outcome that might be given back; `proofs/Ensured` holds it to the operation's own.
use Rattle.std.specs.Prelude.{◌≡◌, Bool, true, List, map, ℕ, eqb, length}
use Rattle.octets.specs.Lists.{every}
use Rattle.table.specs.Answers.{lent}
use Rattle.burst.specs.declared.Taken.{Taken}
use Rattle.burst.specs.TheBurst.{burst}
use Rattle.burst.specs.Code.{burst_of, leaves, result_in}

-- All that is given back: the struct that is returned, and the full contents of the table, of both rooms and of the places for results.
pub record Given : Type 0 where
  pub taken : Taken
  pub table : List ℕ
  pub answers : List ℕ
  pub notices : List ℕ
  pub results : List (List ℕ)

-- Eight numbers in every place, as the type of a place has them. In the definitions a place is any list of numbers: of a longer one no more than
-- eight are looked at, and of a shorter one the rest is taken for zeros, so that there two could say the same.
unfoldable pub are_eight : List (List ℕ) → Bool
are_eight places = every (λ (s : List ℕ). eqb (length s) 8) places

-- What `burst::burst` ensures.
abbrev pub Promised : (form : ℕ) → (table : List ℕ) → (operator : ℕ) → (host realm messages wags answers notices : List ℕ) → (results : List (List ℕ)) → Given → Type 0
Promised form table operator host realm messages wags answers notices results g =
    leaves g.taken (lent form g.table) g.answers g.notices g.results
    ≡ burst (lent form table) (burst_of operator host realm messages wags answers notices (map result_in results))

abbrev pub OneBurst : Type 0
OneBurst =
    (form : ℕ) (table : List ℕ) (operator : ℕ) (host realm messages wags answers notices : List ℕ) (results : List (List ℕ)) (g h : Given)
    → are_eight g.results ≡ true
    → are_eight h.results ≡ true
    → Promised form table operator host realm messages wags answers notices results g
    → Promised form table operator host realm messages wags answers notices results h
    → g ≡ h

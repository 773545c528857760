-- No second answer in C for a burst: what `wm_burst` promises for the same inputs is met by one outcome only, in the struct that it returns and in every byte
-- and number that it was lent. The equation is the one that `wm_burst` ensures; `proofs/Ensured` holds it to that, and to what `burst` ensures.
use Rattle.std.specs.Prelude.{◌≡◌, Bool, true, List, map, ℕ, eqb, length}
use Rattle.octets.specs.Lists.{every}
use Rattle.table.specs.Answers.{lent}
use Rattle.burst.specs.declared.Taken.{Taken}
use Rattle.burst.specs.TheBurst.{burst}
use Rattle.burst.specs.Code.{burst_of, leaves, result_in}

-- All that `wm_burst` gives back: the struct that it returns, the full contents of table and rooms, and the places for results.
pub record GivenInC : Type 0 where
  pub taken : Taken
  pub table : List ℕ
  pub answers : List ℕ
  pub notices : List ℕ
  pub results : List (List ℕ)

-- What `wm_burst` ensures of that.
abbrev pub PromisedInC : (form : ℕ) → (table : List ℕ) → (operator : ℕ) → (host realm messages wags answers notices : List ℕ) → (results : List (List ℕ)) → GivenInC → Type 0
PromisedInC form table operator host realm messages wags answers notices results g =
    leaves g.taken (lent form g.table) g.answers g.notices g.results
    ≡ burst (lent form table) (burst_of operator host realm messages wags answers notices (map result_in results))

-- A place has eight numbers, as its type in C says.
unfoldable pub eight_each : List (List ℕ) → Bool
eight_each r = every (λ (s : List ℕ). eqb (length s) 8) r

abbrev pub OneBurstInC : Type 0
OneBurstInC =
    (form : ℕ) (table : List ℕ) (operator : ℕ) (host realm messages wags answers notices : List ℕ) (results : List (List ℕ)) (g h : GivenInC)
    → eight_each g.results ≡ true
    → eight_each h.results ≡ true
    → PromisedInC form table operator host realm messages wags answers notices results g
    → PromisedInC form table operator host realm messages wags answers notices results h
    → g ≡ h

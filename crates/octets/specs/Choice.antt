-- Choosing by a test, and tests in a fixed order.
use Rattle.std.specs.Prelude.{Bool, true, false, ◌&&◌, List, [], ◌∷◌, ℕ, eqb, leb}

-- The first where the test passes, else the second.
unfoldable pub pick {ℓ} : {A : Type ℓ} → Bool → A → A → A
pick true a b = a
pick false a b = b

-- A test with the code that its failure gives; 0 stands for a test that passes.
unfoldable pub require : Bool → ℕ → ℕ
require true code = 0
require false code = code

-- Of tests in order, the code of the first that fails; 0 where all pass.
unfoldable pub first_of : List ℕ → ℕ
first_of [] = 0
first_of (c ∷ cs) = let later : ℕ = first_of cs in pick (eqb c 0) later c

-- n is at least low and at most high.
unfoldable pub within : ℕ → ℕ → ℕ → Bool
within low high n = leb low n && leb n high

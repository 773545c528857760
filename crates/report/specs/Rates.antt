-- The year's rate of cuts to accesses opened, in lowest terms.
use Rattle.std.specs.Prelude.{List, ℕ, zero, suc, ◌/◌, ◌%◌, eqb}
use Rattle.octets.specs.Choice.{pick}
use Rattle.report.specs.TheReport.{year, held}

-- The greatest common divisor, as Euclid finds it: of a and 0 it is a, else that of b and what is left of a divided by b. The second number falls with each
-- step, so that as many steps as it says, and one, are enough (proofs/Divisors).
unfoldable pub divisor_by : ℕ → ℕ → ℕ → ℕ
divisor_by zero a b = a
divisor_by (suc steps) a b = let rest : ℕ = divisor_by steps b (a % b) in pick (eqb b 0) a rest

unfoldable pub divisor : ℕ → ℕ → ℕ
divisor a b = divisor_by (suc b) a b

-- A number, 0 on success, and the two numbers of the rate.
pub record Rated : Type 0 where
  pub number : ℕ
  pub cuts : ℕ
  pub opened : ℕ

-- Two numbers in lowest terms; 0 and 1 where the second is 0.
unfoldable pub lowest : ℕ → ℕ → Rated
lowest cuts opened =
    pick (eqb opened 0) (record { number = 0; cuts = 0; opened = 1 })
    (record { number = 0; cuts = cuts / divisor cuts opened; opened = opened / divisor cuts opened })

-- The rate: of the year's cuts and the year's openings. Where 64 bits do not hold a total it is refused with 30, and the numbers are 0 and 1.
unfoldable pub rate : List ℕ → Rated
rate report = pick (held report) (lowest (year report 1) (year report 0)) (record { number = 30; cuts = 0; opened = 1 })

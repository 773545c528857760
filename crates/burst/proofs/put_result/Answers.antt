-- One place, by the law on one that is written.
use mathlib.Core.Path.{◌≡◌, refl, ap, ◌∙◌}
use mathlib.Core.List.{List, [], ◌∷◌, map}
use Prim.Native.Nat.{ℕ}
use lib.ListN.{set}
use Rattle.numbers.specs.declared.Numbers.{Numbers}
use Rattle.numbers.specs.InNumbers.{numbers_said}
use Rattle.burst.specs.Code.{result_in}
use Rattle.burst.proofs.Places.{map-set}
use Rattle.burst.proofs.put_result.Goals as goal

abbrev eight : Numbers → List ℕ
eight n = n.code ∷ n.kind ∷ n.length ∷ n.place ∷ n.cut ∷ n.session ∷ n.host ∷ n.realm ∷ []

in_place : (n : Numbers) → result_in (eight n) ≡ numbers_said n
unfolding result_in numbers_said
in_place n = refl

pub returns : goal.returns
returns c =
    let given = c.args in
    let n = c.numbers_of-n.result in
    map-set result_in given.results.now given.i (eight n) ∙ ap (λ e. set (map result_in given.results.now) given.i e) (in_place n ∙ c.numbers_of-n.ensures)

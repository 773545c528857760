-- A burst in many calls: called again and again with all that is left, it goes on as if it had not stopped.
use Rattle.std.specs.Prelude.{◌≡◌, false, List, [], ◌∷◌, eqb}
use Rattle.table.specs.TheTable.{Table}
use Rattle.burst.specs.TheBurst.{Burst, Bursted, burst, burst_number}
use Rattle.burst.specs.GoingOn.{rest, together}
use Rattle.burstlaws.specs.BurstsRules.{Part, first_part}

-- Each call is lent the part that is said of what is left, and the last one all of it.
unfoldable pub in_calls : Table → Burst → List Part → Bursted
in_calls t b [] = burst t b
in_calls t b (p ∷ ps) =
    let first : Bursted = burst t (first_part p b) in
    together t.form first (in_calls first.table (rest t.form first.taken b) ps)

-- However many calls, and whatever each of them is lent, they leave what one leaves, unless that is refused by 18.
abbrev pub ManyCalls : Type 0
ManyCalls = (t : Table) (b : Burst) (ps : List Part) → eqb (burst_number t b) 18 ≡ false → in_calls t b ps ≡ burst t b

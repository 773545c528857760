-- What carrying out a plan gives back, by the verdict that the plan stands for.
use Rattle.std.specs.Prelude.{List, [], ◌∷◌, ℕ, Option, Some, None, length}
use Rattle.table.specs.TheTable.{Access}
use Rattle.changes.specs.Changes.{kept_in}
use Rattle.plans.specs.Plans.{Brought}
use Rattle.rules.specs.Deciding.{Verdict}
use Rattle.effects.specs.declared.Cut.{Cut}
use Rattle.effects.specs.declared.Done.{Done}

-- What is told of a cut: none, or the lengths of the cut access's Session-Id and of its gateway's host and realm.
unfoldable pub cut_for : List Access → Option Cut
cut_for [] = None
cut_for (a ∷ others) = Some (record { session = length a.session; host = length a.host; realm = length a.realm })

-- What carrying out a plan gives back: the place of a new access, else 0, and the cut.
unfoldable pub done_for : Verdict → Done
done_for v = record { place = v.place; cut = cut_for v.cut }

-- The texts that a request brings, as a table of the form stores them.
abbrev pub brought_in : (form : ℕ) → (session host realm first second third : List ℕ) → Brought
brought_in f session host realm first second third =
    record {
      opening = record { session = session; host = host; realm = kept_in f realm };
      policies = record { first = first; second = second; third = third };
    }

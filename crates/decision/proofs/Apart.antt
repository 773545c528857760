-- An outcome can be read back from the numbers that it says. So no two outcomes say the same.
use mathlib.Core.Path.{◌≡◌, refl}
use Prim.Native.Nat.{ℕ}
use lib.Dec.{eqb}
use Rattle.std.specs.Prelude.{Option, Some, None}
use Rattle.octets.specs.Choice.{pick}
use Rattle.message.specs.Codes.{kind_of}
use Rattle.message.specs.Kinds.{code_from}
use Rattle.message.specs.declared.Kind.{Kind}
use Rattle.message.specs.declared.Kind.TheVariants.{NoAnswer, Plain, Experimental}
use Rattle.effects.specs.declared.Cut.{Cut}
use Rattle.decision.specs.declared.Outcome.{Outcome}
use Rattle.decision.specs.Outcomes.{cut_made, cut_session, cut_host, cut_realm, result_said}
use Rattle.rules.specs.Calls.{Result}

-- the kind that a number says
kind_back : ℕ → Kind
kind_back n = pick (eqb n 0) NoAnswer (pick (eqb n 1) Plain Experimental)

kind-back : (k : Kind) (n : ℕ) → kind_back (kind_of (code_from k n)) ≡ k
unfolding kind_back kind_of code_from pick
kind-back NoAnswer n = refl
kind-back Plain n = refl
kind-back Experimental n = refl

-- the cut that four numbers say
cut_back : (made session host realm : ℕ) → Option Cut
cut_back made session host realm = pick (eqb made 0) None (Some (record { session = session; host = host; realm = realm }))

cut-back : (c : Option Cut) → cut_back (cut_made c) (cut_session c) (cut_host c) (cut_realm c) ≡ c
unfolding cut_back cut_made cut_session cut_host cut_realm pick
cut-back None = refl
cut-back (Some c) = refl

-- the outcome that a result says
pub outcome_back : Result → Outcome
outcome_back r =
    record {
      code = r.code;
      kind = kind_back r.kind;
      length = r.length;
      place = r.place;
      cut = cut_back r.cut r.cut_session r.cut_host r.cut_realm;
    }

pub outcome-back : (o : Outcome) → outcome_back (result_said o) ≡ o
unfolding outcome_back result_said
outcome-back o =
    λ i. record {
      code = o.code;
      kind = kind-back o.kind o.code i;
      length = o.length;
      place = o.place;
      cut = cut-back o.cut i;
    }

-- A burst leaves what stands behind what it writes; and where it is refused, all.
use mathlib.Core.Path.{◌≡◌, refl, sym, ◌∙◌}
use mathlib.Core.List.{List, map}
use Prim.Native.Nat.{ℕ}
use lib.ListN.{length, drop, length-map}
use lib.Seq.{drop_at}
use Rattle.table.specs.TheTable.{Table}
use Rattle.rules.specs.Calls.{Result}
use Rattle.order.specs.Demand3.{Told}
use Rattle.burst.specs.TheBurst.{Burst, burst_number, bursted, joined, refused_burst}
use Rattle.burst.proofs.Loop.{burst-refused}
use Rattle.burst.proofs.Steps.{go_on, put-drop}
use Rattle.burstlaws.specs.BurstsRules.{NothingElse, RefusedStays, RestStays}
use Rattle.burstlaws.proofs.ToldEach.{number_is}
use Rattle.burstlaws.proofs.Written.{by_number, count, count-told, notices-length, tolds, tolds-whole}

module _ (t : Table) (b : Burst) where
  rest-refused : (n : ℕ) → RestStays t b (refused_burst t b n)
  unfolding refused_burst
  rest-refused n = record { answers = refl; notices = refl; results = refl }

  rest_goes : RestStays t b (go_on t b)
  unfolding go_on bursted
  rest_goes =
      let answers : List ℕ = joined (map (λ (x : Told). x.answer) (tolds t b)) in
      let notices : List ℕ = joined (map (λ (x : Told). x.notice) (tolds t b)) in
      let results : List Result = map (λ (x : Told). x.result) (tolds t b) in
      let all : length results ≡ count t b = length-map (tolds t b) (λ (x : Told). x.result) ∙ count-told t b in
      record {
        answers = put-drop b.answers answers (length answers) refl;
        notices = put-drop b.notices notices _ (notices-length t.form (tolds t b) (tolds-whole t b));
        results = drop_at results (drop (count t b) b.results) (count t b) all;
      }

pub nothing-else : NothingElse
nothing-else t b = by_number t b (RestStays t b) (rest-refused t b (burst_number t b)) (λ z. rest_goes t b)

pub refused-stays : RefusedStays
refused-stays t b h = sym (burst-refused t b (burst_number t b) refl (λ z. h (number_is t b ∙ z)))

-- What a burst writes is what the messages that it takes are told one by one, in any rooms that are large enough.
use mathlib.Core.Path.{◌≡◌, refl, sym, ap, ◌∙◌, subst}
use mathlib.Core.List.{List, map}
use Prim.Native.Nat.{ℕ}
use lib.ListN.{length, take, drop, length-map}
use lib.Seq.{take_at}
use Rattle.table.specs.TheTable.{Table}
use Rattle.rules.specs.Calls.{Call, Result, run}
use Rattle.order.specs.Demand3.{Told, brought}
use Rattle.order.proofs.Rooms.{SameRan, same-run}
use Rattle.burst.specs.TheBurst.{Burst, Bursted, burst, bursted, calls_of, joined}
use Rattle.burst.proofs.Loop.{burst-goes}
use Rattle.burst.proofs.Steps.{go_on, put-take}
use Rattle.burstlaws.specs.BurstsRules.{OneByOne, OneByOneIs, taken_calls, told_all}
use Rattle.burstlaws.proofs.Written.{count, count-told, first_calls, not-refused, notices-length, tolds, tolds-whole}

module _ (t : Table) (b : Burst) where
  -- the taken messages as calls
  pub taken-calls : (burst t b).taken.number ≡ 0 → taken_calls t b ≡ first_calls t b
  unfolding taken_calls go_on bursted
  taken-calls z = ap (λ (x : Bursted). take x.taken.messages (calls_of t.form b)) (burst-goes t b (not-refused t b z))

  module _ (cs : List Call) (same : map (brought t.form) cs ≡ map (brought t.form) (first_calls t b)) where
    same-ran : SameRan t.form (run t cs) (run t (first_calls t b))
    same-ran = same-run t cs (first_calls t b) same

    -- calls that bring the same are told the same
    pub same-told : tolds t b ≡ told_all t cs
    unfolding told_all
    same-told = sym same-ran.replies

    goes-one-by-one : OneByOneIs t cs (go_on t b)
    unfolding go_on bursted
    goes-one-by-one =
        let answers : List Told → List ℕ = λ xs. joined (map (λ (x : Told). x.answer) xs) in
        let notices : List Told → List ℕ = λ xs. joined (map (λ (x : Told). x.notice) xs) in
        let results : List Told → List Result = λ xs. map (λ (x : Told). x.result) xs in
        let all : length (results (tolds t b)) ≡ count t b = length-map (tolds t b) (λ (x : Told). x.result) ∙ count-told t b in
        record {
          table = sym same-ran.table;
          answers = put-take b.answers (answers (tolds t b)) (length (answers (tolds t b))) refl ∙ ap answers same-told;
          notices = put-take b.notices (notices (tolds t b)) _ (notices-length t.form (tolds t b) (tolds-whole t b)) ∙ ap notices same-told;
          results = take_at (results (tolds t b)) (drop (count t b) b.results) (count t b) all ∙ ap results same-told;
        }

pub one_by_one : OneByOne
one_by_one t b cs z same =
    let of-first : map (brought t.form) cs ≡ map (brought t.form) (first_calls t b) = same ∙ ap (map (brought t.form)) (taken-calls t b z) in
    subst (OneByOneIs t cs) (sym (burst-goes t b (not-refused t b z))) (goes-one-by-one t b cs of-first)

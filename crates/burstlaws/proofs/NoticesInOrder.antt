-- The written notices, cut into pieces, are those of the results with a cut, in their order.
use mathlib.Core.Path.{◌≡◌, refl, sym, ap, ◌∙◌, subst}
use mathlib.Core.Bool.{Bool, true, false}
use mathlib.Core.List.{List, [], ◌∷◌, ◌++◌, append_assoc, map}
use Prim.Native.Nat.{ℕ, suc, ◌+◌, ◌*◌, ◌≤◌}
use native.Mathlib.Nat.{zero-mul}
use native.Mathlib.Omega.{arith}
use borrow.Author.Tests.{eqb-false, eqb-true, leb-true}
use lib.Dec.{eqb, leb}
use lib.ListN.{length, take, drop, length-map}
use lib.Seq.{drop_at, take_at}
use Rattle.octets.specs.Choice.{pick}
use Rattle.octets.specs.Lists.{every, keep, sum_of}
use Rattle.octets.specs.Texts.{pieces, put}
use Rattle.octets.proofs.Lists.{and_left, and_right, by-test}
use Rattle.message.specs.TheRooms.{notice_length}
use Rattle.changes.proofs.Steps.{keep-map}
use Rattle.table.specs.TheTable.{Table}
use Rattle.rules.specs.Calls.{Call, Result}
use Rattle.order.specs.Demand3.{Told, brought}
use Rattle.burst.specs.TheBurst.{Burst, bursted, joined}
use Rattle.burst.proofs.Loop.{burst-goes}
use Rattle.burst.proofs.Steps.{go_on}
use Rattle.burstlaws.specs.BurstsRules.{NoticesInOrder, WhoseNotices, with_cut}
use Rattle.burstlaws.proofs.OneByOne.{same-told, taken-calls}
use Rattle.burstlaws.proofs.Written.{count, count-told, first_calls, not-refused, tolds, tolds-whole, whole}

-- a list of no bytes before another
nothing-before : (s r : List ℕ) → length s ≡ 0 → s ++ r ≡ r
nothing-before [] r e = refl
nothing-before (x ∷ s) r e = absurd (omega (arith, e))

-- of a message and the others, those with a cut
module _ (x : Told) (xs : List Told) where
  cut-kept : eqb x.result.cut 1 ≡ true → with_cut (x ∷ xs) ≡ x ∷ with_cut xs
  unfolding with_cut keep pick
  cut-kept e = ap (λ (b : Bool). pick b (x ∷ with_cut xs) (with_cut xs)) e

  cut-passed : eqb x.result.cut 1 ≡ false → with_cut (x ∷ xs) ≡ with_cut xs
  unfolding with_cut keep pick
  cut-passed e = ap (λ (b : Bool). pick b (x ∷ with_cut xs) (with_cut xs)) e

module _ (f : ℕ) where
  -- the pieces from a message on, whatever stands behind all notices: one without a cut has no notice, and one with a cut the first piece
  pieces-without : (x : Told) (n : ℕ) (s : List ℕ) → x.result.cut ≡ 0 → length x.notice ≡ x.result.cut * notice_length f
      → pieces (notice_length f) (x.result.cut + n) (x.notice ++ s) ≡ pieces (notice_length f) n s
  pieces-without x n s e size =
      let none : length x.notice ≡ 0 = size ∙ ap (λ (k : ℕ). k * notice_length f) e ∙ zero-mul (notice_length f) in
      let as_many : x.result.cut + n ≡ n = omega (arith, e) in
      rw (as_many, nothing-before x.notice s none) refl

  pieces-with : (x : Told) (n : ℕ) (s : List ℕ) → x.result.cut ≡ 1 → length x.notice ≡ x.result.cut * notice_length f
      → pieces (notice_length f) (x.result.cut + n) (x.notice ++ s) ≡ x.notice ∷ pieces (notice_length f) n s
  unfolding pieces
  pieces-with x n s e size =
      let full : length x.notice ≡ notice_length f = size ∙ ap (λ (k : ℕ). k * notice_length f) e ∙ omega arith in
      let one_more : x.result.cut + n ≡ suc n = omega (arith, e) in
      rw (one_more, take_at x.notice s (notice_length f) full, drop_at x.notice s (notice_length f) full) refl

  notices-cut : (xs : List Told) (s : List ℕ) → every (whole f) xs ≡ true
      → pieces (notice_length f) (sum_of (map (λ (x : Told). x.result.cut) xs)) (joined (map (λ (x : Told). x.notice) xs) ++ s)
      ≡ map (λ (x : Told). x.notice) (with_cut xs)
  unfolding with_cut keep joined sum_of every whole pieces
  notices-cut [] s h = refl
  notices-cut (x ∷ xs) s h =
      let here : whole f x ≡ true = and_left (whole f x) (every (whole f) xs) h in
      let one : x.result.cut ≤ 1 = leb-true x.result.cut 1 (and_left _ (eqb (length x.notice) (x.result.cut * notice_length f)) here) in
      let size : length x.notice ≡ x.result.cut * notice_length f = eqb-true _ _ (and_right (leb x.result.cut 1) _ here) in
      let cuts : ℕ = sum_of (map (λ (y : Told). y.result.cut) xs) in
      let behind : List ℕ = joined (map (λ (y : Told). y.notice) xs) in
      let others : pieces (notice_length f) cuts (behind ++ s) ≡ map (λ (y : Told). y.notice) (with_cut xs) = notices-cut xs s (and_right (whole f x) (every (whole f) xs) h) in
      let joins : (x.notice ++ behind) ++ s ≡ x.notice ++ (behind ++ s) = append_assoc x.notice behind s in
      ap (pieces (notice_length f) (x.result.cut + cuts)) joins
      ∙ by-test (eqb x.result.cut 1)
      (λ e.
      pieces-with x cuts (behind ++ s) (eqb-true x.result.cut 1 e) size
      ∙ ap (λ (l : List (List ℕ)). x.notice ∷ l) others
      ∙ ap (map (λ (y : Told). y.notice)) (sym (cut-kept x xs e)))
      (λ e.
      pieces-without x cuts (behind ++ s) (omega (arith, one, eqb-false x.result.cut 1 e)) size
      ∙ others
      ∙ ap (map (λ (y : Told). y.notice)) (sym (cut-passed x xs e)))

module _ (t : Table) (b : Burst) (cs : List Call) (same : map (brought t.form) cs ≡ map (brought t.form) (first_calls t b)) where
  whose : WhoseNotices t cs (go_on t b)
  unfolding go_on bursted with_cut put
  whose =
      let results : List Told → List Result = λ xs. map (λ (x : Told). x.result) xs in
      let all : length (results (tolds t b)) ≡ count t b = length-map (tolds t b) (λ (x : Told). x.result) ∙ count-told t b in
      let first : take (count t b) (results (tolds t b) ++ drop (count t b) b.results) ≡ results (tolds t b) = take_at (results (tolds t b)) _ (count t b) all in
      record {
        results =
            ap (keep (λ (r : Result). eqb r.cut 1)) first
            ∙ keep-map (λ (x : Told). x.result) (λ (r : Result). eqb r.cut 1) (tolds t b)
            ∙ ap (λ (xs : List Told). results (with_cut xs)) (same-told t b cs same);
        notices =
            notices-cut t.form (tolds t b) _ (tolds-whole t b)
            ∙ ap (λ (xs : List Told). map (λ (x : Told). x.notice) (with_cut xs)) (same-told t b cs same);
      }

pub notices-in-order : NoticesInOrder
notices-in-order t b cs z same =
    let of-first : map (brought t.form) cs ≡ map (brought t.form) (first_calls t b) = same ∙ ap (map (brought t.form)) (taken-calls t b z) in
    subst (WhoseNotices t cs) (sym (burst-goes t b (not-refused t b z))) (whose t b cs of-first)

-- The same by places is the same by names: from a place on, those of a name are met one by one by those of ours that are left.
use mathlib.Core.Path.{◌≡◌, refl, sym, ap, ◌∙◌}
use mathlib.Core.Bool.{Bool, true, false, ◌&&◌, not}
use mathlib.Core.List.{List, [], ◌∷◌, ◌++◌}
use Prim.Native.Nat.{ℕ, zero, suc, ◌+◌, ◌-◌, ◌≤◌, ◌<◌}
use native.Mathlib.Omega.{arith}
use borrow.Author.Tests.{eqb-true, eq-eqb, leb-true, le-leb, not-true}
use lib.Dec.{eqb, leb}
use lib.ListN.{length, drop, length-append}
use lib.Seq.{append_snoc}
use Rattle.octets.specs.Choice.{pick}
use Rattle.octets.specs.Lists.{every, keep}
use Rattle.octets.proofs.Lists.{by-test, both, and_left, and_right, every-both, every-imp, keep-none}
use Rattle.message.specs.ReadingAMessage.{Name, same_name, Avp, having, present}
use Rattle.message.proofs.Gathering.{same-name-eq}
use Rattle.likeness.specs.TheSameAnswer.{failed_avp, same_avp, first_is, met, fits, misplaced_from, starts_like, misplaced, complete, avps_of, same_answer}
use Rattle.likeness.proofs.Itself.{having-append, having-own, there}
use Rattle.judgelaws.specs.TheJudgesRules.{one_by_one, may_stand, by_names, answer_by_names, SameByNames, SameAnswerByNames}

-- ONE BY ONE

-- each of the second list is met by the one at its place in the first
meets : List Avp → List Avp → Bool
meets xs [] = true
meets [] (y ∷ ys) = false
meets (x ∷ xs) (y ∷ ys) = same_avp x y && meets xs ys

one_by_one_lem : (xs ys : List Avp) → meets xs ys ≡ true → length xs ≤ length ys → one_by_one xs ys ≡ true
unfolding meets one_by_one
one_by_one_lem [] [] m l = refl
one_by_one_lem [] (y ∷ ys) m l = let z : ◌≡◌ {A = ℕ} 0 1 = cc in absurd (omega arith)
one_by_one_lem (x ∷ xs) [] m l = absurd (omega arith)
one_by_one_lem (x ∷ xs) (y ∷ ys) m l = both (and_left (same_avp x y) (meets xs ys) m) (one_by_one_lem xs ys (and_right (same_avp x y) (meets xs ys) m) (omega arith))

each-meets : (xs ys : List Avp) → one_by_one xs ys ≡ true → meets xs ys ≡ true
unfolding meets one_by_one
each-meets [] [] e = refl
each-meets [] (y ∷ ys) e = e
each-meets (x ∷ xs) [] e = refl
each-meets (x ∷ xs) (y ∷ ys) e = both (and_left (same_avp x y) (one_by_one xs ys) e) (each-meets xs ys (and_right (same_avp x y) (one_by_one xs ys) e))

no_more : (xs ys : List Avp) → one_by_one xs ys ≡ true → length xs ≤ length ys
unfolding one_by_one
no_more [] ys e = omega arith
no_more (x ∷ xs) [] e = let z : ◌≡◌ {A = ℕ} 0 1 = cc in absurd (omega arith)
no_more (x ∷ xs) (y ∷ ys) e = let r : length xs ≤ length ys = no_more xs ys (and_right (same_avp x y) (one_by_one xs ys) e) in omega arith

-- the one that meets an AVP, from the front on and behind others
meets-first : (xs : List Avp) (a : Avp) (ys : List Avp) (k : ℕ) → first_is (drop k xs) a ≡ true → meets (drop (suc k) xs) ys ≡ true → meets (drop k xs) (a ∷ ys) ≡ true
unfolding meets first_is
meets-first [] a ys zero f m = f
meets-first [] a ys (suc k) f m = f
meets-first (x ∷ xs) a ys zero f m = both f m
meets-first (x ∷ xs) a ys (suc k) f m = meets-first xs a ys k f m

meets_at : (xs ys : List Avp) (a : Avp) (zs : List Avp) → meets xs (ys ++ (a ∷ zs)) ≡ true → first_is (drop (length ys) xs) a ≡ true
unfolding meets first_is
meets_at [] [] a zs m = m
meets_at (x ∷ xs) [] a zs m = and_left (same_avp x a) (meets xs zs) m
meets_at [] (y ∷ ys) a zs m = let z : ◌≡◌ {A = ℕ} 0 1 = cc in absurd (omega arith)
meets_at (x ∷ xs) (y ∷ ys) a zs m = meets_at xs ys a zs (and_right (same_avp x y) (meets xs (ys ++ (a ∷ zs))) m)

-- AT A PLACE

module _ (ours : List Avp) (before : List Avp) (a : Avp) (xs : List Avp) where
  -- as many of its name stand before it as all have more than those from it on
  so-many : length (having a.name (before ++ (a ∷ xs))) - length (having a.name (a ∷ xs)) ≡ length (having a.name before)
  so-many =
      let l : length (having a.name (before ++ (a ∷ xs))) ≡ length (having a.name before) + length (having a.name (a ∷ xs)) = ap length (having-append a.name before (a ∷ xs)) ∙ length-append (having a.name before) (having a.name (a ∷ xs)) in
      omega arith

  met-is : met ours (before ++ (a ∷ xs)) (a ∷ xs) a ≡ first_is (drop (length (having a.name before)) (having a.name ours)) a
  unfolding met
  met-is = ap (λ (i : ℕ). first_is (drop i (having a.name ours)) a) so-many

  fits-may : fits ours (before ++ (a ∷ xs)) (a ∷ xs) a ≡ true → may_stand ours a ≡ true
  unfolding fits may_stand pick
  fits-may e =
      by-test (same_name failed_avp a.name)
      (λ f. rw f)
      (λ f. by-test (present a.name ours) (λ p. rw (f, p)) (λ p. let n : not a.mandatory ≡ true = rw (f, p) at e in rw (f, p, n)))

  fits-met : same_name failed_avp a.name ≡ false → present a.name ours ≡ true → fits ours (before ++ (a ∷ xs)) (a ∷ xs) a ≡ true
      → first_is (drop (length (having a.name before)) (having a.name ours)) a ≡ true
  unfolding fits pick
  fits-met f p e = let m : met ours (before ++ (a ∷ xs)) (a ∷ xs) a ≡ true = rw (f, p) at e in sym met-is ∙ m

  may-fit : may_stand ours a ≡ true → (present a.name ours ≡ true → first_is (drop (length (having a.name before)) (having a.name ours)) a ≡ true)
      → fits ours (before ++ (a ∷ xs)) (a ∷ xs) a ≡ true
  unfolding fits may_stand pick
  may-fit s h =
      by-test (same_name failed_avp a.name)
      (λ f. rw f)
      (λ f. by-test (present a.name ours)
      (λ p. rw (f, p) (met-is ∙ h p))
      (λ p. let n : not a.mandatory ≡ true = rw (f, p) at s in rw (f, p, n)))

-- the first that does not fit
fits-first : (ours theirs : List Avp) (at : ℕ) (a : Avp) (xs : List Avp) → 0 < at → misplaced_from ours theirs at (a ∷ xs) ≡ 0 → fits ours theirs (a ∷ xs) a ≡ true
unfolding misplaced_from pick
fits-first ours theirs at a xs h e =
    by-test (fits ours theirs (a ∷ xs) a) (λ t. t) (λ t. let z : at ≡ 0 = rw t at e in absurd (omega arith))

fits-rest : (ours theirs : List Avp) (at : ℕ) (a : Avp) (xs : List Avp) → 0 < at → misplaced_from ours theirs at (a ∷ xs) ≡ 0
    → misplaced_from ours theirs (at + length a.bytes) xs ≡ 0
unfolding misplaced_from pick
fits-rest ours theirs at a xs h e = let t : fits ours theirs (a ∷ xs) a ≡ true = fits-first ours theirs at a xs h e in rw t at e

-- FROM PLACES TO NAMES

meets-none : (l : List Avp) → meets l [] ≡ true
unfolding meets
meets-none [] = refl
meets-none (x ∷ l) = refl

having-nil : (n : Name) → having n [] ≡ []
unfolding having keep
having-nil n = refl

having-other : (n : Name) (a : Avp) (xs : List Avp) → same_name n a.name ≡ false → having n (a ∷ xs) ≡ having n xs
unfolding having keep pick
having-other n a xs e = rw e

having-its : (n : Name) (a : Avp) (xs : List Avp) → same_name n a.name ≡ true → having n (a ∷ xs) ≡ a ∷ having n xs
unfolding having keep pick
having-its n a xs e = rw e

count-snoc : (n : Name) (before : List Avp) (a : Avp) → length (having n (before ++ (a ∷ []))) ≡ length (having n before) + length (having n (a ∷ []))
count-snoc n before a = ap length (having-append n before (a ∷ [])) ∙ length-append (having n before) (having n (a ∷ []))

module _ (ours : List Avp) (n : Name) (u : same_name failed_avp n ≡ false) (p : present n ours ≡ true) where
  all-met : (rest before whole : List Avp) (at : ℕ) → 0 < at → whole ≡ before ++ rest → misplaced_from ours whole at rest ≡ 0
      → meets (drop (length (having n before)) (having n ours)) (having n rest) ≡ true
  all-met [] before whole at h e m = ap (meets (drop (length (having n before)) (having n ours))) (having-nil n) ∙ meets-none (drop (length (having n before)) (having n ours))
  all-met (a ∷ xs) before whole at h e m =
      let f : fits ours whole (a ∷ xs) a ≡ true = fits-first ours whole at a xs h m in
      let g : fits ours (before ++ (a ∷ xs)) (a ∷ xs) a ≡ true = ap (λ (w : List Avp). fits ours w (a ∷ xs) a) (sym e) ∙ f in
      let i = all-met xs (before ++ (a ∷ [])) whole (at + length a.bytes) (omega arith) (e ∙ sym (append_snoc before a xs)) (fits-rest ours whole at a xs h m) in
      by-test (same_name n a.name)
      (λ t. its a xs before t g i)
      (λ t. other a xs before t i)
    where
      its : (a : Avp) (xs before : List Avp) → same_name n a.name ≡ true → fits ours (before ++ (a ∷ xs)) (a ∷ xs) a ≡ true
          → meets (drop (length (having n (before ++ (a ∷ [])))) (having n ours)) (having n xs) ≡ true
          → meets (drop (length (having n before)) (having n ours)) (having n (a ∷ xs)) ≡ true
      its a xs before t g i =
          let q : n ≡ a.name = same-name-eq n a.name t in
          let f : first_is (drop (length (having n before)) (having n ours)) a ≡ true =
          ap (λ (k : Name). first_is (drop (length (having k before)) (having k ours)) a) q ∙ fits-met ours before a xs (ap (same_name failed_avp) (sym q) ∙ u) (ap (λ (k : Name). present k ours) (sym q) ∙ p) g in
          let one : length (having n (a ∷ [])) ≡ 1 = ap length (having-its n a [] t ∙ ap (λ (l : List Avp). a ∷ l) (having-nil n)) in
          let c : length (having n (before ++ (a ∷ []))) ≡ suc (length (having n before)) = count-snoc n before a ∙ omega (arith, one) in
          let j : meets (drop (suc (length (having n before))) (having n ours)) (having n xs) ≡ true = ap (λ (k : ℕ). meets (drop k (having n ours)) (having n xs)) (sym c) ∙ i in
          ap (meets (drop (length (having n before)) (having n ours))) (having-its n a xs t) ∙ meets-first (having n ours) a (having n xs) (length (having n before)) f j

      other : (a : Avp) (xs before : List Avp) → same_name n a.name ≡ false
          → meets (drop (length (having n (before ++ (a ∷ [])))) (having n ours)) (having n xs) ≡ true
          → meets (drop (length (having n before)) (having n ours)) (having n (a ∷ xs)) ≡ true
      other a xs before t i =
          let none : length (having n (a ∷ [])) ≡ 0 = ap length (having-other n a [] t ∙ having-nil n) in
          let c : length (having n (before ++ (a ∷ []))) ≡ length (having n before) = count-snoc n before a ∙ omega (arith, none) in
          ap (meets (drop (length (having n before)) (having n ours))) (having-other n a xs t)
          ∙ ap (λ (k : ℕ). meets (drop k (having n ours)) (having n xs)) (sym c)
          ∙ i

all-may : (ours : List Avp) (rest before whole : List Avp) (at : ℕ) → 0 < at → whole ≡ before ++ rest → misplaced_from ours whole at rest ≡ 0 → every (may_stand ours) rest ≡ true
unfolding every
all-may ours [] before whole at h e m = refl
all-may ours (a ∷ xs) before whole at h e m =
    let f : fits ours whole (a ∷ xs) a ≡ true = fits-first ours whole at a xs h m in
    both (fits-may ours before a xs (ap (λ (w : List Avp). fits ours w (a ∷ xs) a) (sym e) ∙ f))
    (all-may ours xs (before ++ (a ∷ [])) whole (at + length a.bytes) (omega arith) (e ∙ sym (append_snoc before a xs)) (fits-rest ours whole at a xs h m))

-- each of ours is there
own-there : (rest before whole : List Avp) → whole ≡ before ++ rest → every (λ (a : Avp). present a.name whole) rest ≡ true
unfolding every
own-there [] before whole e = refl
own-there (a ∷ xs) before whole e =
    both (ap (present a.name) e ∙ there before a xs) (own-there xs (before ++ (a ∷ [])) whole (e ∙ sym (append_snoc before a xs)))

-- FROM NAMES TO PLACES

pub by_name : (g : Name → Bool) (n : Name) (xs : List Avp) → every (λ (a : Avp). g a.name) xs ≡ true → (length (having n xs) ≡ 0 → ⊥) → g n ≡ true
unfolding every
by_name g n [] e h = absurd (h (ap length (having-nil n)))
by_name g n (a ∷ xs) e h =
    by-test (same_name n a.name)
    (λ t. ap g (same-name-eq n a.name t) ∙ and_left (g a.name) (every (λ (b : Avp). g b.name) xs) e)
    (λ t. by_name g n xs (and_right (g a.name) (every (λ (b : Avp). g b.name) xs) e) (λ z. h (ap length (having-other n a xs t) ∙ z)))

pub there-some : (n : Name) (xs : List Avp) → present n xs ≡ true → length (having n xs) ≡ 0 → ⊥
unfolding present
there-some n xs p z = let y : false ≡ true = rw (eq-eqb (length (having n xs)) 0 z) at p in let w : ◌≡◌ {A = ℕ} 0 1 = cc in absurd (omega arith)

all_fit : (ours : List Avp) (rest before whole : List Avp) (at : ℕ) → whole ≡ before ++ rest → every (may_stand ours) rest ≡ true
    → ((n : Name) → present n ours ≡ true → meets (having n ours) (having n whole) ≡ true) → misplaced_from ours whole at rest ≡ 0
unfolding every misplaced_from pick
all_fit ours [] before whole at e s h = refl
all_fit ours (a ∷ xs) before whole at e s h =
    let k : present a.name ours ≡ true → first_is (drop (length (having a.name before)) (having a.name ours)) a ≡ true =
    λ p. meets_at (having a.name ours) (having a.name before) a (having a.name xs)
    (ap (meets (having a.name ours)) (sym (ap (having a.name) e ∙ having-append a.name before (a ∷ xs) ∙ ap (λ (l : List Avp). having a.name before ++ l) (having-own a xs))) ∙ h a.name p) in
    let f : fits ours whole (a ∷ xs) a ≡ true = ap (λ (w : List Avp). fits ours w (a ∷ xs) a) e ∙ may-fit ours before a xs (and_left (may_stand ours a) (every (may_stand ours) xs) s) k in
    rw f (all_fit ours xs (before ++ (a ∷ [])) whole (at + length a.bytes) (e ∙ sym (append_snoc before a xs)) (and_right (may_stand ours a) (every (may_stand ours) xs) s) h)

-- BOTH WAYS

both_ways : (b c : Bool) → (b ≡ true → c ≡ true) → (c ≡ true → b ≡ true) → b ≡ c
both_ways true c f g = sym (f refl)
both_ways false true f g = g refl
both_ways false false f g = refl

module _ (ours theirs : List Avp) (u : having failed_avp ours ≡ []) where
  no-failed : every (λ (a : Avp). not (same_name failed_avp a.name)) ours ≡ true
  unfolding having
  no-failed = keep-none (λ (a : Avp). same_name failed_avp a.name) ours (ap length u)

  to-names : eqb (misplaced_from ours theirs 20 theirs) 0 && complete ours theirs ≡ true → by_names ours theirs ≡ true
  unfolding by_names complete
  to-names e =
      let m : misplaced_from ours theirs 20 theirs ≡ 0 = eqb-true (misplaced_from ours theirs 20 theirs) 0 (and_left (eqb (misplaced_from ours theirs 20 theirs) 0) _ e) in
      let c : every (λ (a : Avp). leb (length (having a.name ours)) (length (having a.name theirs))) ours ≡ true = and_right (eqb (misplaced_from ours theirs 20 theirs) 0) _ e in
      let met_all : every (λ (a : Avp). meets (having a.name ours) (having a.name theirs)) ours ≡ true =
      every-both (λ (a : Avp). not (same_name failed_avp a.name)) (λ (a : Avp). present a.name ours) (λ (a : Avp). meets (having a.name ours) (having a.name theirs))
      (λ a f p.
      ap (λ (l : List Avp). meets (drop (length l) (having a.name ours)) (having a.name theirs)) (sym (having-nil a.name))
      ∙ all-met ours a.name (not-true (same_name failed_avp a.name) f) p theirs [] theirs 20 (omega arith) refl m) ours no-failed (own-there ours [] ours refl) in
      both
      (every-both (λ (a : Avp). meets (having a.name ours) (having a.name theirs)) (λ (a : Avp). leb (length (having a.name ours)) (length (having a.name theirs)))
      (λ (a : Avp). one_by_one (having a.name ours) (having a.name theirs)) (λ a x y. one_by_one_lem (having a.name ours) (having a.name theirs) x (leb-true (length (having a.name ours)) (length (having a.name theirs)) y)) ours met_all c)
      (all-may ours theirs [] theirs 20 (omega arith) refl m)

  to-places : by_names ours theirs ≡ true → eqb (misplaced_from ours theirs 20 theirs) 0 && complete ours theirs ≡ true
  unfolding by_names complete
  to-places e =
      let o : every (λ (a : Avp). one_by_one (having a.name ours) (having a.name theirs)) ours ≡ true = and_left _ (every (may_stand ours) theirs) e in
      let s : every (may_stand ours) theirs ≡ true = and_right (every (λ (a : Avp). one_by_one (having a.name ours) (having a.name theirs)) ours) _ e in
      let m : misplaced_from ours theirs 20 theirs ≡ 0 =
      all_fit ours theirs [] theirs 20 refl s
      (λ n p. each-meets (having n ours) (having n theirs) (by_name (λ (k : Name). one_by_one (having k ours) (having k theirs)) n ours o (there-some n ours p))) in
      both (eq-eqb (misplaced_from ours theirs 20 theirs) 0 m)
      (every-imp (λ (a : Avp). one_by_one (having a.name ours) (having a.name theirs)) (λ (a : Avp). leb (length (having a.name ours)) (length (having a.name theirs)))
      (λ a x. le-leb (length (having a.name ours)) (length (having a.name theirs)) (no_more (having a.name ours) (having a.name theirs) x)) ours o)

pub same-by-names : SameByNames
same-by-names ours theirs u = both_ways (eqb (misplaced_from ours theirs 20 theirs) 0 && complete ours theirs) (by_names ours theirs) (to-names ours theirs u) (to-places ours theirs u)

-- AN ANSWER

misplaced-none : (ours theirs : List Avp) → eqb (misplaced ours theirs) 0 ≡ starts_like ours theirs && eqb (misplaced_from ours theirs 20 theirs) 0
unfolding misplaced pick
misplaced-none ours theirs = by-test (starts_like ours theirs) (λ e. rw e) (λ e. rw e)

regrouped : (a b c : Bool) → a && b && c ≡ a && (b && c)
regrouped true b c = refl
regrouped false b c = refl

pub same-answer-by-names : SameAnswerByNames
unfolding same_answer answer_by_names
same-answer-by-names ours theirs u =
    let o : List Avp = avps_of ours in
    let t : List Avp = avps_of theirs in
    let e : eqb (misplaced o t) 0 && complete o t ≡ starts_like o t && by_names o t =
    ap (λ (b : Bool). b && complete o t) (misplaced-none o t)
    ∙ regrouped (starts_like o t) (eqb (misplaced_from o t 20 t) 0) (complete o t)
    ∙ ap (λ (b : Bool). starts_like o t && b) (same-by-names o t u) in
    rw e

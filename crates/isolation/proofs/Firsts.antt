-- The first row that passes a test: changed, or asked; and the rows of one operator among all.
use mathlib.Core.Path.{◌≡◌, refl, ap}
use mathlib.Core.Bool.{Bool, true, false, ◌&&◌, not}
use mathlib.Core.List.{List, [], ◌∷◌, ◌++◌}
use Prim.Native.Nat.{ℕ, suc, ◌+◌, ◌≤◌}
use native.Mathlib.Omega.{arith}
use borrow.Author.Tests.{eqb-false, le-leb, leb-true, not-true}
use lib.Dec.{eqb, leb}
use lib.ListN.{length, get_or, set}
use Rattle.octets.specs.Choice.{pick}
use Rattle.octets.specs.Lists.{every, keep, sum_of}
use Rattle.octets.proofs.Lists.{and_left, and_right, both, by-test, every-keep, every-both, keep-keep, keep-split, kept}
use Rattle.table.specs.TheTable.{Found, row, nothing, later, first_row, is_found}

-- THE FIRST THAT PASSES

module _ (p : List ℕ → Bool) where
  -- changed
  unfoldable pub changed : (List ℕ → List ℕ) → List (List ℕ) → List (List ℕ)
  changed f [] = []
  changed f (r ∷ rs) = pick (p r) (f r ∷ rs) (r ∷ changed f rs)

  module _ {A : Type 0} (d : A) (g : List ℕ → A) where
    -- asked; d where none passes
    unfoldable pub asked : List (List ℕ) → A
    asked [] = d
    asked (r ∷ rs) = pick (p r) (g r) (asked rs)

    unfoldable pub at_found : Found → List (List ℕ) → A
    at_found nothing rs = d
    at_found (row i) rs = g (get_or rs i [])

    at-later : (F : Found) (r : List ℕ) (rs : List (List ℕ)) → at_found (later F) (r ∷ rs) ≡ at_found F rs
    unfolding at_found later
    at-later nothing r rs = refl
    at-later (row i) r rs = refl

    pub asked-found : (rs : List (List ℕ)) → at_found (first_row p rs) rs ≡ asked rs
    unfolding asked at_found first_row pick
    asked-found [] = refl
    asked-found (r ∷ rs) =
        by-test (p r)
        (λ e. rw e)
        (λ e. rw (e, at-later (first_row p rs) r rs) (asked-found rs))

  module _ (f : List ℕ → List ℕ) where
    unfoldable pub with_found : Found → List (List ℕ) → List (List ℕ)
    with_found nothing rs = rs
    with_found (row i) rs = set rs i (f (get_or rs i []))

    with-later : (F : Found) (r : List ℕ) (rs : List (List ℕ)) → with_found (later F) (r ∷ rs) ≡ r ∷ with_found F rs
    unfolding with_found later
    with-later nothing r rs = refl
    with-later (row i) r rs = refl

    pub changed-found : (rs : List (List ℕ)) → with_found (first_row p rs) rs ≡ changed f rs
    unfolding changed with_found first_row pick
    changed-found [] = refl
    changed-found (r ∷ rs) =
        by-test (p r)
        (λ e. rw e)
        (λ e. rw (e, with-later (first_row p rs) r rs, changed-found rs))

    -- none of those behind passes
    pub changed-before : (us zs : List (List ℕ)) → every (λ r. not (p r)) zs ≡ true → changed f (us ++ zs) ≡ changed f us ++ zs
    unfolding changed every pick
    changed-before [] [] h = refl
    changed-before [] (z ∷ zs) h =
        rw (not-true (p z) (and_left (not (p z)) _ h), changed-before [] zs (and_right (not (p z)) _ h))
    changed-before (u ∷ us) zs h = by-test (p u) (λ e. rw e) (λ e. rw (e, changed-before us zs h))

    -- a test that the change does not touch
    pub every-changed : (t : List ℕ → Bool) → ((r : List ℕ) → t (f r) ≡ t r) → (rs : List (List ℕ)) → every t (changed f rs) ≡ every t rs
    unfolding changed every pick
    every-changed t k [] = refl
    every-changed t k (r ∷ rs) = by-test (p r) (λ e. rw (e, k r)) (λ e. rw (e, every-changed t k rs))

    module _ (own : List ℕ → Bool) (stays : (r : List ℕ) → own (f r) ≡ own r) where
      -- the change of an own row
      pub keep-changed : ((r : List ℕ) → p r ≡ true → own r ≡ true) → (rs : List (List ℕ)) → keep own (changed f rs) ≡ changed f (keep own rs)
      unfolding changed keep pick
      keep-changed h [] = refl
      keep-changed h (r ∷ rs) =
          by-test (p r)
          (λ e. rw (e, stays r, h r e, e))
          (λ e. by-test (own r)
          (λ o. rw (e, o, e, keep-changed h rs))
          (λ o. rw (e, o) (keep-changed h rs)))

      -- the change of another's
      pub keep-other : ((r : List ℕ) → p r ≡ true → own r ≡ false) → (rs : List (List ℕ)) → keep own (changed f rs) ≡ keep own rs
      unfolding changed keep pick
      keep-other h [] = refl
      keep-other h (r ∷ rs) =
          by-test (p r)
          (λ e. rw (e, stays r, h r e))
          (λ e. by-test (own r)
          (λ o. rw (e, o, keep-other h rs))
          (λ o. rw (e, o) (keep-other h rs)))

  -- what is asked of the own rows alone
  pub asked-keep : {A : Type 0} (d : A) (g : List ℕ → A) (own : List ℕ → Bool) → ((r : List ℕ) → p r ≡ true → own r ≡ true) → (rs : List (List ℕ))
      → asked d g rs ≡ asked d g (keep own rs)
  unfolding asked keep pick
  asked-keep d g own h [] = refl
  asked-keep d g own h (r ∷ rs) =
      by-test (p r)
      (λ e. rw (e, h r e, e))
      (λ e. by-test (own r)
      (λ o. rw (e, o, e) (asked-keep d g own h rs))
      (λ o. rw (e, o) (asked-keep d g own h rs)))

  -- whether there is one, by asking
  found-later : (F : Found) → is_found (later F) ≡ is_found F
  unfolding later is_found
  found-later nothing = refl
  found-later (row i) = refl

  pub found-asked : (rs : List (List ℕ)) → is_found (first_row p rs) ≡ asked false (λ r. true) rs
  unfolding first_row asked is_found pick
  found-asked [] = refl
  found-asked (r ∷ rs) = by-test (p r) (λ e. rw e) (λ e. rw (e, found-later (first_row p rs)) (found-asked rs))

  -- the first behind those that do not pass
  pub first-behind : (us : List (List ℕ)) (z : List ℕ) (zs : List (List ℕ)) → every (λ r. not (p r)) us ≡ true → p z ≡ true → first_row p (us ++ (z ∷ zs)) ≡ row (length us)
  unfolding first_row every pick later
  first-behind [] z zs h e = rw e
  first-behind (u ∷ us) z zs h e = rw (not-true (p u) (and_left (not (p u)) _ h), first-behind us z zs (and_right (not (p u)) _ h) e)

  pub first-none : (us : List (List ℕ)) → every (λ r. not (p r)) us ≡ true → first_row p us ≡ nothing
  unfolding first_row every pick later
  first-none [] h = refl
  first-none (u ∷ us) h = rw (not-true (p u) (and_left (not (p u)) _ h), first-none us (and_right (not (p u)) _ h))

pub set-behind : (us : List (List ℕ)) (z r : List ℕ) (zs : List (List ℕ)) → set (us ++ (z ∷ zs)) (length us) r ≡ (us ++ (r ∷ [])) ++ zs
set-behind [] z r zs = refl
set-behind (u ∷ us) z r zs = ap (λ (t : List (List ℕ)). u ∷ t) (set-behind us z r zs)

pub keep_append : (f : List ℕ → Bool) (us zs : List (List ℕ)) → keep f (us ++ zs) ≡ keep f us ++ keep f zs
unfolding keep pick
keep_append f [] zs = refl
keep_append f (u ∷ us) zs = by-test (f u) (λ e. rw (e, keep_append f us zs)) (λ e. rw (e, keep_append f us zs))

-- NO MORE THAN THE SHARES COME TO

-- rows whose keys are those of the numbers from m on, for each no more than its number
pub bound : (key : List ℕ → ℕ) (m : ℕ) (ls : List ℕ) (rs : List (List ℕ)) → every (λ r. leb m (key r) && leb (suc (key r)) (m + length ls)) rs ≡ true
    → ((i : ℕ) → length (keep (λ r. eqb (key r) (m + i)) rs) ≤ get_or ls i 0) → length rs ≤ sum_of ls
unfolding sum_of
bound key m [] [] b h = omega arith
bound key m [] (r ∷ rs) b h =
    unfold every in
    let w = and_left (leb m (key r) && leb (suc (key r)) (m + 0)) _ b in
    absurd (omega (arith, leb-true m (key r) (and_left (leb m (key r)) _ w), leb-true (suc (key r)) (m + 0) (and_right (leb m (key r)) _ w)))
bound key m (l ∷ ls) rs b h =
    let f : List ℕ → Bool = λ r. eqb (key r) m in
    let z : m + 0 ≡ m = omega arith in
    let first : length (keep f rs) ≤ l = ap-le z (h 0) in
    let past : every (λ r. leb (suc m) (key r) && leb (suc (key r)) (suc m + length ls)) (keep (λ r. not (f r)) rs) ≡ true =
    every-both (λ r. leb m (key r) && leb (suc (key r)) (m + suc (length ls))) (λ r. not (f r)) _
    (λ r w v. both
    (le-leb (suc m) (key r) (omega (arith, leb-true m (key r) (and_left (leb m (key r)) _ w), eqb-false (key r) m (not-true (f r) v))))
    (le-leb (suc (key r)) (suc m + length ls) (omega (arith, leb-true (suc (key r)) (m + suc (length ls)) (and_right (leb m (key r)) _ w)))))
    (keep (λ r. not (f r)) rs) (every-keep _ _ rs b) (kept _ rs) in
    let less : (i : ℕ) → length (keep (λ r. eqb (key r) (suc m + i)) (keep (λ r. not (f r)) rs)) ≤ get_or ls i 0 =
    λ i. let q : m + suc i ≡ suc m + i = omega arith in
    omega (arith, keep-keep (λ r. eqb (key r) (suc m + i)) (λ r. not (f r)) rs, shifted i q (h (suc i))) in
    omega (arith, keep-split f rs, first, bound key (suc m) ls (keep (λ r. not (f r)) rs) past less)
  where
    ap-le : {a b : ℕ} → a ≡ b → length (keep (λ r. eqb (key r) a) rs) ≤ l → length (keep (λ r. eqb (key r) b) rs) ≤ l
    ap-le e h = rw (← e) h

    shifted : {a b : ℕ} (i : ℕ) → a ≡ b → length (keep (λ r. eqb (key r) a) rs) ≤ get_or ls i 0 → length (keep (λ r. eqb (key r) b) rs) ≤ get_or ls i 0
    shifted i e h = rw (← e) h

-- as many as before
module _ (p : List ℕ → Bool) (f : List ℕ → List ℕ) (own : List ℕ → Bool) (stays : (r : List ℕ) → own (f r) ≡ own r) where
  pub count-changed : (rs : List (List ℕ)) → length (keep own (changed p f rs)) ≡ length (keep own rs)
  unfolding changed keep pick
  count-changed [] = refl
  count-changed (r ∷ rs) =
      by-test (p r)
      (λ e. by-test (own r) (λ o. rw (e, stays r, o)) (λ o. rw (e, stays r, o)))
      (λ e. by-test (own r) (λ o. rw (e, o, count-changed rs)) (λ o. rw (e, o, count-changed rs)))

-- Laws of tests over lists.
use mathlib.Core.Path.{◌≡◌, refl, sym, ◌∙◌}
use mathlib.Core.Bool.{Bool, true, false, ◌&&◌, not}
use mathlib.Core.List.{List, [], ◌∷◌, ◌++◌, map}
use Prim.Native.Nat.{ℕ, zero, suc, ◌+◌, ◌-◌, ◌≤◌, ◌<◌}
use native.Mathlib.Omega.{arith}
use borrow.Author.Tests.{leb-true, le-leb, eqb-true, eqb-false, eq-eqb, ne_eqb}
use lib.Dec.{eqb, leb}
use lib.ListN.{length}
use Rattle.octets.specs.Choice.{pick, within}
use Rattle.octets.specs.Lists.{every, keep, distinct, counted, is_on}
use Rattle.octets.specs.Texts.{same}

pub by-test {ℓ} : {P : Type ℓ} (b : Bool) → (b ≡ true → P) → (b ≡ false → P) → P
by-test true f g = f refl
by-test false f g = g refl

pub and_left : (a b : Bool) → a && b ≡ true → a ≡ true
and_left true b e = refl
and_left false b e = e

pub and_right : (a b : Bool) → a && b ≡ true → b ≡ true
and_right true b e = e
and_right false b e = cc

pub both : {a b : Bool} → a ≡ true → b ≡ true → a && b ≡ true
both p q = rw (p, q)

pub within_low : (lo hi n : ℕ) → within lo hi n ≡ true → lo ≤ n
unfolding within
within_low lo hi n e = leb-true lo n (and_left _ (leb n hi) e)

pub within-high : (lo hi n : ℕ) → within lo hi n ≡ true → n ≤ hi
unfolding within
within-high lo hi n e = leb-true n hi (and_right (leb lo n) _ e)

pub in_within : (lo hi n : ℕ) → lo ≤ n → n ≤ hi → within lo hi n ≡ true
unfolding within
in_within lo hi n p q = both (le-leb lo n p) (le-leb n hi q)

pub same_refl : (s : List ℕ) → same s s ≡ true
unfolding same
same_refl [] = refl
same_refl (x ∷ s) = both (eq-eqb x x refl) (same_refl s)

pub same-eq : (s t : List ℕ) → same s t ≡ true → s ≡ t
unfolding same
same-eq [] [] e = refl
same-eq [] (y ∷ t) e = cc
same-eq (x ∷ s) [] e = cc
same-eq (x ∷ s) (y ∷ t) e =
    let p : x ≡ y = eqb-true x y (and_left (eqb x y) (same s t) e) in
    let q : s ≡ t = same-eq s t (and_right (eqb x y) (same s t) e) in
    cc

pub same-comm : (s t : List ℕ) → same s t ≡ same t s
same-comm s t =
    by-test (same s t)
    (λ e. let q : s ≡ t = same-eq s t e in rw q)
    (λ e. by-test (same t s) (λ d. let q : t ≡ s = same-eq t s d in rw q) (λ d. e ∙ sym d))

module _ {A : Type 0} where
  pub no_length : (xs : List A) → length xs ≡ 0 → xs ≡ []
  no_length [] e = refl
  no_length (x ∷ xs) e = absurd (omega arith)

  pub every_append : (f : A → Bool) (xs ys : List A) → every f xs ≡ true → every f ys ≡ true → every f (xs ++ ys) ≡ true
  unfolding every
  every_append f [] ys p q = q
  every_append f (x ∷ xs) ys p q =
      both (and_left (f x) (every f xs) p) (every_append f xs ys (and_right (f x) (every f xs) p) q)

  pub every-keep : (f g : A → Bool) (xs : List A) → every f xs ≡ true → every f (keep g xs) ≡ true
  unfolding every keep pick
  every-keep f g [] p = refl
  every-keep f g (x ∷ xs) p =
      let r : every f (keep g xs) ≡ true = every-keep f g xs (and_right (f x) (every f xs) p) in
      by-test (g x) (λ e. rw e (both (and_left (f x) (every f xs) p) r)) (λ e. rw e r)

  -- what was kept passes
  pub kept : (g : A → Bool) (xs : List A) → every g (keep g xs) ≡ true
  unfolding every keep pick
  kept g [] = refl
  kept g (x ∷ xs) = by-test (g x) (λ e. rw e (both e (kept g xs))) (λ e. rw e (kept g xs))

  -- what follows from two tests
  pub every-both : (f g h : A → Bool) → ((x : A) → f x ≡ true → g x ≡ true → h x ≡ true) → (xs : List A)
      → every f xs ≡ true → every g xs ≡ true → every h xs ≡ true
  unfolding every
  every-both f g h i [] p q = refl
  every-both f g h i (x ∷ xs) p q =
      both (i x (and_left (f x) (every f xs) p) (and_left (g x) (every g xs) q))
      (every-both f g h i xs (and_right (f x) (every f xs) p) (and_right (g x) (every g xs) q))

  pub every-imp : (f h : A → Bool) → ((x : A) → f x ≡ true → h x ≡ true) → (xs : List A) → every f xs ≡ true → every h xs ≡ true
  every-imp f h i xs p = every-both f f h (λ x a b. i x a) xs p p

  pub every_of : (f : A → Bool) → ((x : A) → f x ≡ true) → (xs : List A) → every f xs ≡ true
  unfolding every
  every_of f h [] = refl
  every_of f h (x ∷ xs) = both (h x) (every_of f h xs)

  pub every_one : (f : A → Bool) (y : A) → f y ≡ true → every f (y ∷ []) ≡ true
  unfolding every
  every_one f y e = rw e

  pub every_map : {B : Type 0} (f : B → Bool) (g : A → B) (xs : List A) → every f (map g xs) ≡ every (λ x. f (g x)) xs
  unfolding every
  every_map f g [] = refl
  every_map f g (x ∷ xs) = rw (every_map f g xs)

  -- a part of distinct ones, and one more
  pub distinct-keep : {B : Type 0} (e : B → B → Bool) (g : A → B) (f : A → Bool) (xs : List A)
      → distinct e (map g xs) ≡ true → distinct e (map g (keep f xs)) ≡ true
  unfolding distinct keep pick
  distinct-keep e g f [] p = refl
  distinct-keep e g f (x ∷ xs) p =
      let a : every (λ y. not (e (g x) y)) (map g xs) ≡ true = and_left _ (distinct e (map g xs)) p in
      let r : distinct e (map g (keep f xs)) ≡ true = distinct-keep e g f xs (and_right (every (λ y. not (e (g x) y)) (map g xs)) _ p) in
      let b : every (λ y. not (e (g x) y)) (map g (keep f xs)) ≡ true = rw every_map (every-keep _ f xs (rw every_map at a)) in
      by-test (f x) (λ t. rw t (both b r)) (λ t. rw t r)

  pub distinct_snoc : (e : A → A → Bool) (xs : List A) (y : A)
      → distinct e xs ≡ true → every (λ x. not (e x y)) xs ≡ true → distinct e (xs ++ (y ∷ [])) ≡ true
  unfolding distinct every
  distinct_snoc e [] y p q = refl
  distinct_snoc e (x ∷ xs) y p q =
      let n : not (e x y) ≡ true = and_left _ (every (λ z. not (e z y)) xs) q in
      both (every_append _ xs (y ∷ []) (and_left _ (distinct e xs) p) (rw n))
      (distinct_snoc e xs y (and_right (every (λ z. not (e x z)) xs) _ p) (and_right (not (e x y)) _ q))

  pub keep_snoc : (f : A → Bool) (xs : List A) (y : A) → keep f (xs ++ (y ∷ [])) ≡ keep f xs ++ pick (f y) (y ∷ []) []
  unfolding keep pick
  keep_snoc f [] y = by-test (f y) (λ e. rw e) (λ e. rw e)
  keep_snoc f (x ∷ xs) y = by-test (f x) (λ e. rw (e, keep_snoc f xs y)) (λ e. rw (e, keep_snoc f xs y))

  -- a part of a part is no longer
  pub keep-keep : (f g : A → Bool) (xs : List A) → length (keep f (keep g xs)) ≤ length (keep f xs)
  unfolding keep pick
  keep-keep f g [] = omega arith
  keep-keep f g (x ∷ xs) =
      let r : length (keep f (keep g xs)) ≤ length (keep f xs) = keep-keep f g xs in
      by-test (g x)
      (λ e. by-test (f x) (λ d. rw (e, d) (omega arith)) (λ d. rw (e, d) (omega arith)))
      (λ e. by-test (f x) (λ d. rw (e, d) (omega arith)) (λ d. rw (e, d) (omega arith)))

  pub keep-length : (f : A → Bool) (xs : List A) → length (keep f xs) ≤ length xs
  unfolding keep pick
  keep-length f [] = omega arith
  keep-length f (x ∷ xs) =
      let r : length (keep f xs) ≤ length xs = keep-length f xs in
      by-test (f x) (λ e. rw e (omega arith)) (λ e. rw e (omega arith))

  pub keep-comm : (f g : A → Bool) (xs : List A) → keep f (keep g xs) ≡ keep g (keep f xs)
  unfolding keep pick
  keep-comm f g [] = refl
  keep-comm f g (x ∷ xs) =
      by-test (g x)
      (λ e. by-test (f x) (λ d. rw (e, d, e, keep-comm f g xs)) (λ d. rw (e, d, keep-comm f g xs)))
      (λ e. by-test (f x) (λ d. rw (e, d, e, keep-comm f g xs)) (λ d. rw (e, d, keep-comm f g xs)))

  -- those that pass and those that do not
  pub keep-split : (f : A → Bool) (xs : List A) → length xs ≡ length (keep f xs) + length (keep (λ x. not (f x)) xs)
  unfolding keep pick
  keep-split f [] = refl
  keep-split f (x ∷ xs) =
      let r : length xs ≡ length (keep f xs) + length (keep (λ x. not (f x)) xs) = keep-split f xs in
      by-test (f x) (λ e. rw e (omega arith)) (λ e. rw e (omega arith))

  pub keep_all : (f : A → Bool) (xs : List A) → every f xs ≡ true → keep f xs ≡ xs
  unfolding keep every pick
  keep_all f [] p = refl
  keep_all f (x ∷ xs) p = rw (and_left (f x) (every f xs) p, keep_all f xs (and_right (f x) (every f xs) p))

  -- none was kept
  pub keep-none : (f : A → Bool) (xs : List A) → length (keep f xs) ≡ 0 → every (λ x. not (f x)) xs ≡ true
  unfolding keep every pick
  keep-none f [] h = refl
  keep-none f (x ∷ xs) h =
      by-test (f x)
      (λ e. let z : suc (length (keep f xs)) ≡ 0 = rw e at h in absurd (omega arith))
      (λ e. rw e (keep-none f xs (rw e at h)))

  -- one test more that all pass
  pub keep-and : (f g : A → Bool) (xs : List A) → every g xs ≡ true → keep (λ x. g x && f x) xs ≡ keep f xs
  unfolding keep every pick
  keep-and f g [] p = refl
  keep-and f g (x ∷ xs) p = rw (and_left (g x) (every g xs) p, keep-and f g xs (and_right (g x) (every g xs) p))

-- among numbers that all differ, the test "not p" takes at most one out
pub keep-but-one : (f : ℕ → Bool) (p : ℕ) (ks : List ℕ) → distinct eqb ks ≡ true
    → length (keep f ks) ≤ suc (length (keep (λ k. not (eqb p k) && f k) ks))
unfolding keep distinct pick
keep-but-one f p [] d = omega arith
keep-but-one f p (k ∷ ks) d =
    let r : length (keep f ks) ≤ suc (length (keep (λ k. not (eqb p k) && f k) ks)) = keep-but-one f p ks (and_right (every (λ y. not (eqb k y)) ks) _ d) in
    by-test (eqb p k)
    (λ e. let q : p ≡ k = eqb-true p k e in
    let same_rest : keep (λ j. not (eqb p j) && f j) ks ≡ keep f ks = rw q (keep-and f (λ j. not (eqb k j)) ks (and_left _ (distinct eqb ks) d)) in
    by-test (f k) (λ t. rw (e, t, same_rest) (omega arith)) (λ t. rw (e, t, same_rest) (omega arith)))
    (λ e. by-test (f k) (λ t. rw (e, t) (omega arith)) (λ t. rw (e, t) (omega arith)))

-- WHAT STANDS IN A LIST

pub on-cons : (k : ℕ) (ks : List ℕ) (p : ℕ) → eqb p k ≡ false → is_on (k ∷ ks) p ≡ is_on ks p
unfolding is_on every
on-cons k ks p e = rw (ne_eqb k p (λ q. eqb-false p k e (sym q)))

pub on-first : (k : ℕ) (ks : List ℕ) (p : ℕ) → k ≡ p → is_on (k ∷ ks) p ≡ true
unfolding is_on every
on-first k ks p q = rw (eq-eqb k p q)

pub on_none : (p : ℕ) → is_on [] p ≡ false
unfolding is_on every
on_none p = refl

pub in-counted : (b n p : ℕ) → b ≤ p → p < b + n → is_on (counted b n) p ≡ true
unfolding counted
in-counted b zero p lo hi = absurd (omega arith)
in-counted b (suc n) p lo hi =
    by-test (eqb p b)
    (λ e. on-first b (counted (suc b) n) p (sym (eqb-true p b e)))
    (λ e. on-cons b (counted (suc b) n) p e ∙ in-counted (suc b) n p (omega (arith, eqb-false p b e)) (omega arith))

pub eqb_comm : (m n : ℕ) → eqb m n ≡ eqb n m
eqb_comm m n = by-test (eqb m n) (λ e. e ∙ sym (eq-eqb n m (sym (eqb-true m n e)))) (λ e. e ∙ sym (ne_eqb n m (λ q. eqb-false m n e (sym q))))

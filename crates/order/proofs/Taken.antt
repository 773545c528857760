-- An access that leaves its place is the one tunnel with its Session-Id, since no place and no Session-Id stands twice.
use mathlib.Core.Path.{◌≡◌, refl, sym, ap, ◌∙◌}
use mathlib.Core.Bool.{Bool, true, ◌&&◌, not}
use mathlib.Core.List.{List, [], ◌∷◌, map}
use Prim.Native.Nat.{ℕ}
use native.Mathlib.Omega.{arith}
use borrow.Author.Tests.{eq-eqb}
use lib.Dec.{eqb}
use Rattle.octets.specs.Choice.{pick}
use Rattle.octets.specs.Lists.{distinct, every, keep}
use Rattle.octets.specs.Texts.{same}
use Rattle.octets.proofs.Lists.{and_left, and_right, by-test, eqb_comm, every-imp, every-keep, every_map, keep_all, kept, same_refl, same-comm}
use Rattle.table.specs.TheTable.{Access, Subscriber, line}
use Rattle.table.specs.Soundness.{sessions}
use Rattle.changes.specs.Changes.{leave}
use Rattle.order.specs.OpenedFirst.{Tunnel, tunnel_of, without}
use Rattle.order.proofs.Cuts.{keep-no, keep-yes}

-- LISTS

module _ {A : Type 0} where
  pub keep-twice : (f g : A → Bool) (xs : List A) → keep g (keep f xs) ≡ keep (λ x. f x && g x) xs
  unfolding keep pick
  keep-twice f g [] = refl
  keep-twice f g (x ∷ xs) =
      by-test (f x)
      (λ e. by-test (g x) (λ d. rw (e, d, keep-twice f g xs)) (λ d. rw (e, d, keep-twice f g xs)))
      (λ e. rw (e, keep-twice f g xs))

  pub no-first : (f : A → Bool) (a : A) (others : List A) → keep f [] ≡ a ∷ others → ⊥
  unfolding keep
  no-first f a others e = let z : ◌≡◌ {A = ℕ} 0 1 = cc in omega arith

  -- what all pass passes the first that was kept
  pub first-kept : (f g : A → Bool) (xs : List A) (a : A) (others : List A) → every g xs ≡ true → keep f xs ≡ a ∷ others → g a ≡ true
  unfolding every
  first-kept f g xs a others h e = and_left (g a) _ (rw e at (every-keep g f xs h))

  pub kept-first : (f : A → Bool) (xs : List A) (a : A) (others : List A) → keep f xs ≡ a ∷ others → f a ≡ true
  unfolding every
  kept-first f xs a others e = and_left (f a) _ (rw e at (kept f xs))

-- AN ACCESS LEAVES

leave_none : (k : ℕ) (xs : List Access) → every (λ y. not (eqb k y)) (line xs) ≡ true → leave k xs ≡ xs
unfolding leave line
leave_none k xs h = keep_all _ xs (every-imp _ _ (λ (x : Access) e. ap not (eqb_comm x.place k) ∙ e) xs (rw every_map at h))

others-stay : (sid : List ℕ) (xs : List Access) → every (λ y. not (same sid y)) (sessions xs) ≡ true → keep (λ (x : Access). not (same x.session sid)) xs ≡ xs
unfolding sessions
others-stay sid xs h = keep_all _ xs (every-imp _ _ (λ (x : Access) e. ap not (same-comm x.session sid) ∙ e) xs (rw every_map at h))

module _ (x : Access) (xs : List Access) where
  own-leaves : every (λ y. not (eqb x.place y)) (line xs) ≡ true → every (λ y. not (same x.session y)) (sessions xs) ≡ true
      → leave x.place (x ∷ xs) ≡ keep (λ (y : Access). not (same y.session x.session)) (x ∷ xs)
  unfolding leave
  own-leaves p d =
      keep-no _ x xs (ap not (eq-eqb x.place x.place refl)) ∙ leave_none x.place xs p
      ∙ sym (keep-no _ x xs (ap not (same_refl x.session)) ∙ others-stay x.session xs d)

  other-stays : (k : ℕ) (sid : List ℕ) → not (eqb x.place k) ≡ true → not (same x.session sid) ≡ true
      → leave k xs ≡ keep (λ (y : Access). not (same y.session sid)) xs
      → leave k (x ∷ xs) ≡ keep (λ (y : Access). not (same y.session sid)) (x ∷ xs)
  unfolding leave
  other-stays k sid p d e = keep-yes _ x xs p ∙ ap (λ (l : List Access). x ∷ l) e ∙ sym (keep-yes _ x xs d)

pub same_first : {A : Type 0} (x y : A) (xs ys : List A) → x ∷ xs ≡ y ∷ ys → x ≡ y
same_first x y xs ys e = cc

-- of accesses with a place and a Session-Id each, the one that leaves its place is the one with its Session-Id
module _ (f : Access → Bool) where
  pub leaves-own : (xs : List Access) (a : Access) (others : List Access) → distinct eqb (line xs) ≡ true → distinct same (sessions xs) ≡ true
      → keep f xs ≡ a ∷ others → leave a.place xs ≡ keep (λ (x : Access). not (same x.session a.session)) xs
  unfolding distinct line sessions
  leaves-own [] a others p d e = absurd (no-first f a others e)
  leaves-own (x ∷ xs) a others p d e =
      let apart : every (λ y. not (eqb x.place y)) (line xs) ≡ true = and_left (every (λ y. not (eqb x.place y)) (line xs)) _ p in
      let aside : every (λ y. not (same x.session y)) (sessions xs) ≡ true = and_left (every (λ y. not (same x.session y)) (sessions xs)) _ d in
      by-test (f x)
      (λ t. let q : x ≡ a = same_first x a _ _ (sym (keep-yes f x xs t) ∙ e) in rw (← q) (own-leaves x xs apart aside))
      (λ t. let k : keep f xs ≡ a ∷ others = sym (keep-no f x xs t) ∙ e in
      other-stays x xs a.place a.session
      (first-kept f (λ y. not (eqb x.place y.place)) xs a others (rw every_map at apart) k)
      (first-kept f (λ y. not (same x.session y.session)) xs a others (rw every_map at aside) k)
      (leaves-own xs a others (and_right (every (λ y. not (eqb x.place y)) (line xs)) _ p) (and_right (every (λ y. not (same x.session y)) (sessions xs)) _ d) k))

-- and so it is the one tunnel with its Session-Id
without-map : (s : Subscriber) (sid : List ℕ) (xs : List Access)
    → without sid (map (tunnel_of s) xs) ≡ map (tunnel_of s) (keep (λ (x : Access). not (same x.session sid)) xs)
unfolding without tunnel_of keep pick
without-map s sid [] = refl
without-map s sid (x ∷ xs) =
    by-test (same x.session sid) (λ e. rw e (without-map s sid xs)) (λ e. rw e (ap (λ (l : List Tunnel). tunnel_of s x ∷ l) (without-map s sid xs)))

pub taken : (s : Subscriber) (f : Access → Bool) (xs : List Access) (a : Access) (others : List Access) → distinct eqb (line xs) ≡ true → distinct same (sessions xs) ≡ true
    → keep f xs ≡ a ∷ others → map (tunnel_of s) (leave a.place xs) ≡ without a.session (map (tunnel_of s) xs)
taken s f xs a others p d e = ap (map (tunnel_of s)) (leaves-own f xs a others p d e) ∙ sym (without-map s a.session xs)

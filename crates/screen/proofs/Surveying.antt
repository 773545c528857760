-- One look at the list: what stands where a turn of `survey` begins, and what follows where it ends or refuses.
use mathlib.Core.Path.{◌≡◌, refl, sym, ap, subst, ◌∙◌}
use mathlib.Core.Bool.{Bool, true, false, not}
use mathlib.Core.List.{List, [], ◌∷◌}
use Prim.Native.Nat.{ℕ, zero, suc, ◌+◌, ◌≤◌, ◌<◌}
use native.Mathlib.Omega.{arith}
use borrow.Author.Tests.{le-leb, lt-leb}
use lib.Dec.{T as Holds, eqb, leb}
use lib.ListN.{length, get_or, take, length-append}
use lib.Seq.{take-length, length-take-le}
use Rattle.std.specs.Prelude.{Option, Some, None}
use Rattle.octets.specs.Choice.{pick, within}
use Rattle.octets.specs.Lists.{every, keep, distinct}
use Rattle.octets.proofs.Lists.{by-test, and_left, and_right, both, distinct_snoc, keep_snoc, keep-length}
use Rattle.screen.specs.TheBoard.{session_of, same_screen, sized, right, is_of, on_board, is_connected, count_connected}
use Rattle.screen.specs.Code.{none, counts, Found}
use Rattle.screen.specs.declared.Screen.{Screen}
use Rattle.screen.proofs.Entries.{one_more, every-at, every-step}
use Rattle.screen.proofs.Feeding.{none-on, not-false, not-true}

-- no entry of distinct ones is the same as one before it
before : {A : Type 0} (e : A → A → Bool) (d : A) (l : List A) (i : ℕ) → i < length l → distinct e l ≡ true → every (λ x. not (e x (get_or l i d))) (take i l) ≡ true
unfolding distinct every
before e d [] i h u = absurd (omega arith)
before e d (x ∷ l) zero h u = refl
before e d (x ∷ l) (suc i) h u =
    both (every-at (λ y. not (e x y)) d l i (omega arith) (and_left _ (distinct e l) u)) (before e d l i (omega arith) (and_right (every (λ y. not (e x y)) l) _ u))

false-true : {P : Type 0} {b : Bool} → b ≡ true → b ≡ false → P
false-true {P = P} p q = absurd (subst Holds (sym p ∙ q) tt)

module _ (ys : List Screen) (session : List ℕ) where
  -- a Session-Id of the wrong length
  pub wrong_size : (i : ℕ) → i < length ys → within 1 128 (get_or ys i none).size ≡ false → right ys ≡ false
  unfolding right sized
  wrong_size i h e = by-test (right ys)
      (λ t. false-true (every-at sized none ys i h (and_left (every sized ys) _ (and_right (leb (length ys) 64) _ t))) e)
      (λ t. t)

  -- the same screen as one before it
  pub stands-twice : (i : ℕ) → i < length ys → on_board (take i ys) (session_of (get_or ys i none)) ≡ true → right ys ≡ false
  unfolding right on_board is_of same_screen
  stands-twice i h e = by-test (right ys)
      (λ t. false-true (before same_screen none ys i h (and_right (every sized ys) (distinct same_screen ys) (and_right (leb (length ys) 64) _ t))) (not-true e))
      (λ t. t)

  pub over_64 : 64 < length ys → right ys ≡ false
  unfolding right
  over_64 h = let l : leb (length ys) 64 ≡ false = lt-leb (length ys) 64 h in rw l

  -- what a refusal tells
  pub refusal : right ys ≡ false → counts None ≡ count_connected ys
  unfolding counts count_connected pick
  refusal wrong = rw wrong

  -- the entry that `at` says is one of the first i, and has the Session-Id; where it says none, none of them has
  abbrev pub FoundBefore : (i : ℕ) (at : Option ℕ) → Type 0
  FoundBefore i None = every (λ e. not (is_of session e)) (take i ys) ≡ true
  FoundBefore i (Some k) = (k < i) × (is_of session (get_or ys k none) ≡ true)

  -- what a turn begins with: the first i entries are right, `at` says which of them has the Session-Id, and `connected` how many of them are connected
  pub record So (i : ℕ) (at : Option ℕ) (connected : ℕ) : Type 0 where
    pub least : i ≤ length ys
    pub all-sized : every sized (take i ys) ≡ true
    pub all_apart : distinct same_screen (take i ys) ≡ true
    pub count : connected ≡ length (keep is_connected (take i ys))
    pub found : FoundBefore i at

  pub so-begun : So 0 None 0
  unfolding every distinct keep
  so-begun = record { least = omega arith; all-sized = refl; all_apart = refl; count = refl; found = refl }

  module _ (i : ℕ) (h : i < length ys) where
    pub found-it : is_of session (get_or ys i none) ≡ true → FoundBefore (i + 1) (Some i)
    found-it e = (omega arith, e)

    pub found-other : (at : Option ℕ) → is_of session (get_or ys i none) ≡ false → FoundBefore i at → FoundBefore (i + 1) at
    found-other None e f = every-step (λ s. not (is_of session s)) none ys i h f (ap not e)
    found-other (Some k) e f = (omega (arith, f.0), f.1)

    module _ (at : Option ℕ) (connected : ℕ) (so : So i at connected) where
      -- fewer than 64 are connected where one more is looked at
      pub so-few : length ys ≤ 64 → connected < 64
      so-few most = omega (arith, so.count, keep-length is_connected (take i ys), length-take-le i ys so.least)

      one-counted : (more : ℕ) → more ≡ connected + pick (eqb (get_or ys i none).state 2) 1 0 → more ≡ length (keep is_connected (take (i + 1) ys))
      unfolding is_connected pick
      one-counted more c = rw (one_more none ys i h, keep_snoc is_connected (take i ys) (get_or ys i none), length-append, c, so.count)
          (by-test (eqb (get_or ys i none).state 2) (λ t. rw t) (λ t. rw t))

      -- one entry more
      pub so_step : (is : Option ℕ) (more : ℕ) → within 1 128 (get_or ys i none).size ≡ true → on_board (take i ys) (session_of (get_or ys i none)) ≡ false
          → FoundBefore (i + 1) is → more ≡ connected + pick (eqb (get_or ys i none).state 2) 1 0 → So (i + 1) is more
      unfolding sized on_board is_of same_screen
      so_step is more fits new found counted = record {
        least = omega (arith, h);
        all-sized = every-step sized none ys i h so.all-sized fits;
        all_apart = rw (one_more none ys i h) (distinct_snoc same_screen (take i ys) (get_or ys i none) so.all_apart (not-false new));
        count = one-counted more counted;
        found = found;
      }

  -- all entries have been looked at
  module _ (at : Option ℕ) (connected : ℕ) (so : So (length ys) at connected) where
    all_right : length ys ≤ 64 → right ys ≡ true
    unfolding right
    all_right most = both (le-leb (length ys) 64 most) (both (rw take-length at so.all-sized) (rw take-length at so.all_apart))

    pub counted-ended : length ys ≤ 64 → counts (Some (record { at = at; connected = connected })) ≡ count_connected ys
    unfolding counts count_connected pick
    counted-ended most =
        rw (all_right most) (λ k. record { number = 0; screens = (so.count ∙ ap (λ (l : List Screen). length (keep is_connected l)) (take-length ys)) k })

  pub found-ended : (at : Option ℕ) → FoundBefore (length ys) at → Found ys session at
  found-ended None f = none-on session ys (subst (λ (l : List Screen). every (λ e. not (is_of session e)) l ≡ true) (take-length ys) f)
  found-ended (Some k) f = f

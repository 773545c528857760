-- Where every Session-Id stands once, to tell the screen of one is to replace its entry.
use mathlib.Core.Path.{◌≡◌, refl, sym, ap, ◌∙◌}
use mathlib.Core.Bool.{Bool, true, false, not}
use mathlib.Core.List.{List, [], ◌∷◌, map}
use Prim.Native.Nat.{ℕ, zero, suc, ◌<◌}
use native.Mathlib.Omega.{arith}
use lib.ListN.{length, get_or, set}
use Rattle.octets.specs.Choice.{pick}
use Rattle.octets.specs.Lists.{every, distinct}
use Rattle.octets.proofs.Lists.{by-test, and_left, and_right, same_refl, same-eq, every-imp}
use Rattle.screen.specs.TheBoard.{Event, session_of, same_screen, is_of, on_board, moved_by, told}
use Rattle.screen.specs.declared.Screen.{Screen}
use Rattle.screen.proofs.Entries.{every-at}

pub not-true : {b : Bool} → not b ≡ true → b ≡ false
not-true {b = true} e = sym e
not-true {b = false} e = refl

pub not-false : {b : Bool} → not b ≡ false → b ≡ true
not-false {b = true} e = refl
not-false {b = false} e = sym e

module _ (session : List ℕ) where
  is-of : (s : Screen) → is_of session s ≡ true → session_of s ≡ session
  unfolding is_of
  is-of s e = same-eq (session_of s) session e

  -- two of one Session-Id are the same screen
  pub same_of : (s t : Screen) → is_of session s ≡ true → is_of session t ≡ true → same_screen s t ≡ true
  unfolding same_screen
  same_of s t p q =
      let e : session_of s ≡ session_of t = is-of s p ∙ sym (is-of t q) in
      rw e (same_refl (session_of t))

  -- one that is not the same as the screen of the Session-Id is not of it
  pub other-of : (s t : Screen) → is_of session s ≡ true → not (same_screen s t) ≡ true → not (is_of session t) ≡ true
  other-of s t p d = by-test (is_of session t) (λ q. absurd-by (same_of s t p q) d) (λ q. rw q)
    where
      absurd-by : {b : Bool} → b ≡ true → not b ≡ true → not (is_of session t) ≡ true
      absurd-by p d = cc

  module _ (event : Event) where
    pub told-other : (s : Screen) → is_of session s ≡ false → told session event s ≡ s
    unfolding told pick
    told-other s e = ap (λ b. pick b (moved_by event s) s) e

    pub told-it : (s : Screen) → is_of session s ≡ true → told session event s ≡ moved_by event s
    unfolding told pick
    told-it s e = ap (λ b. pick b (moved_by event s) s) e

    pub told_none : (l : List Screen) → every (λ s. not (is_of session s)) l ≡ true → map (told session event) l ≡ l
    unfolding every
    told_none [] e = refl
    told_none (x ∷ l) e =
        rw (told-other x (not-true (and_left _ (every (λ s. not (is_of session s)) l) e)), told_none l (and_right (not (is_of session x)) _ e))

    pub told-set : (l : List Screen) (i : ℕ) (d : Screen) → distinct same_screen l ≡ true → i < length l → is_of session (get_or l i d) ≡ true
        → map (told session event) l ≡ set l i (moved_by event (get_or l i d))
    unfolding distinct
    told-set [] i d u h e = absurd (omega arith)
    told-set (x ∷ l) zero d u h e =
        rw (told-it x e, told_none l (every-imp _ _ (λ y p. other-of x y e p) l (and_left _ (distinct same_screen l) u)))
    told-set (x ∷ l) (suc i) d u h e =
        let apart : not (same_screen x (get_or l i d)) ≡ true = every-at (λ y. not (same_screen x y)) d l i (omega arith) (and_left _ (distinct same_screen l) u) in
        let n : is_of session x ≡ false = by-test (is_of session x) (λ q. let w : same_screen x (get_or l i d) ≡ true = same_of x (get_or l i d) q e in cc) (λ q. q) in
        rw (told-other x n, told-set l i d (and_right (every (λ y. not (same_screen x y)) l) _ u) (omega arith) e)

  pub on-board : (l : List Screen) (i : ℕ) (d : Screen) → i < length l → is_of session (get_or l i d) ≡ true → on_board l session ≡ true
  unfolding on_board every
  on-board [] i d h e = absurd (omega arith)
  on-board (x ∷ l) zero d h e = rw e
  on-board (x ∷ l) (suc i) d h e =
      by-test (is_of session x) (λ q. rw q) (λ q. rw q (on-board l i d (omega arith) e))

pub none-on : (session : List ℕ) (l : List Screen) → every (λ s. not (is_of session s)) l ≡ true → on_board l session ≡ false
unfolding on_board
none-on session l e = rw e

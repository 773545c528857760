-- The theorems of specs/TheBoardsRules.
use mathlib.Core.Path.{◌≡◌, refl, sym, ap, subst, ◌∙◌}
use mathlib.Core.Bool.{Bool, true, false, ◌&&◌, not}
use mathlib.Core.List.{List, [], ◌∷◌, map}
use Prim.Native.Nat.{ℕ, zero, suc, ◌≤◌}
use native.Mathlib.Omega.{arith}
use borrow.Author.Tests.{eqb-true, leb-true}
use lib.Dec.{eqb}
use lib.ListN.{length, get_or, length-map}
use Rattle.octets.specs.Choice.{pick, require, first_of}
use Rattle.octets.specs.Lists.{every, distinct}
use Rattle.octets.specs.Texts.{same}
use Rattle.octets.proofs.Lists.{by-test, and_left, same-eq, keep-length}
use Rattle.screen.specs.TheBoard.{
  State,
  off,
  asked,
  connected,
  cut,
  unknown,
  state_of,
  shown,
  showing,
  Event,
  Move,
  stays,
  to,
  moved,
  after,
  session_of,
  same_screen,
  sized,
  right,
  is_of,
  on_board,
  feed_number,
  moved_by,
  told,
  Left,
  leaving,
  feed,
  is_connected,
  Counted,
  count_connected,
}
use Rattle.screen.specs.Code.{leaves, count_said}
use Rattle.screen.specs.declared.Count.{Count}
use Rattle.screen.specs.declared.Screen.{Screen}
use Rattle.screen.specs.TheBoardsRules.{OneEntry, SameLength, SessionsStay, StaysRight, RefusedStays, EitherOrder, CountIs, CountedShow, AtMost64, OneFeed, OneCount}
use Rattle.screen.proofs.Feeding.{not-false, told-other, told_none}

-- A FEED, AS ONE MAP
module _ (board : List Screen) (session : List ℕ) (event : Event) where
  -- by its number
  number-was : (n : ℕ) → feed_number board session ≡ n → (feed board session event).board ≡ pick (eqb n 0) (map (told session event) board) board
  unfolding feed leaving
  number-was n e = ap (λ k. pick (eqb k 0) (map (told session event) board) board) e

  is-25 : right board ≡ false → feed_number board session ≡ 25
  unfolding feed_number first_of require pick
  is-25 r = rw r

  is-24 : right board ≡ true → on_board board session ≡ false → feed_number board session ≡ 24
  unfolding feed_number first_of require pick
  is-24 r o = rw (r, o)

  is-0 : right board ≡ true → on_board board session ≡ true → feed_number board session ≡ 0
  unfolding feed_number first_of require pick
  is-0 r o = rw (r, o)

  not_right : right board ≡ false → (feed board session event).board ≡ board
  unfolding pick
  not_right r = number-was 25 (is-25 r)

  not_on : right board ≡ true → on_board board session ≡ false → (feed board session event).board ≡ board
  unfolding pick
  not_on r o = number-was 24 (is-24 r o)

  told-all : right board ≡ true → on_board board session ≡ true → (feed board session event).board ≡ map (told session event) board
  unfolding pick
  told-all r o = number-was 0 (is-0 r o)

  nowhere : on_board board session ≡ false → map (told session event) board ≡ board
  unfolding on_board
  nowhere o = told_none session event board (not-false o)

  -- of a list that may be fed
  pub fed-is : right board ≡ true → (feed board session event).board ≡ map (told session event) board
  fed-is r = by-test (on_board board session) (λ o. told-all r o) (λ o. not_on r o ∙ sym (nowhere o))

  -- of any list: it is as it was, or told
  by-feed : (P : List Screen → Type 0) → P board → P (map (told session event) board) → P (feed board session event).board
  by-feed P stay go =
      by-test (right board) (λ r. subst P (sym (fed-is r)) go) (λ r. subst P (sym (not_right r)) stay)

-- ONE ENTRY
map_at : {A : Type 0} (f : A → A) (l : List A) (i : ℕ) (d : A) → f (get_or l i d) ≡ get_or l i d → get_or (map f l) i d ≡ get_or l i d
map_at f [] i d e = refl
map_at f (x ∷ l) zero d e = e
map_at f (x ∷ l) (suc i) d e = map_at f l i d e

pub one_entry : OneEntry
one_entry board session event i none o =
    by-feed board session event (λ l. get_or l i none ≡ get_or board i none) refl
    (map_at (told session event) board i none (told-other session event (get_or board i none) o))

pub same_length : SameLength
same_length board session event = by-feed board session event (λ l. length l ≡ length board) refl (length-map board (told session event))

-- THE SESSION-IDS
moved-session : (m : Move) (s : Screen) → session_of (moved m s) ≡ session_of s
unfolding moved showing session_of
moved-session stays s = refl
moved-session (to state) s = refl

moved-size : (m : Move) (s : Screen) → sized (moved m s) ≡ sized s
unfolding moved showing sized
moved-size stays s = refl
moved-size (to state) s = refl

module _ (session : List ℕ) (event : Event) where
  told-session : (s : Screen) → session_of (told session event s) ≡ session_of s
  unfolding told moved_by pick
  told-session s = by-test (is_of session s) (λ e. rw e (moved-session (after event (shown s)) s)) (λ e. rw e)

  told-size : (s : Screen) → sized (told session event s) ≡ sized s
  unfolding told moved_by pick
  told-size s = by-test (is_of session s) (λ e. rw e (moved-size (after event (shown s)) s)) (λ e. rw e)

  told_of : (other : List ℕ) (s : Screen) → is_of other (told session event s) ≡ is_of other s
  unfolding is_of
  told_of other s = rw (told-session s)

  sessions : (l : List Screen) → map session_of (map (told session event) l) ≡ map session_of l
  sessions [] = refl
  sessions (x ∷ l) = rw (told-session x, sessions l)

  sizes : (l : List Screen) → every sized (map (told session event) l) ≡ every sized l
  unfolding every
  sizes [] = refl
  sizes (x ∷ l) = rw (told-size x, sizes l)

  once : (x : Screen) (l : List Screen) → every (λ y. not (same_screen (told session event x) y)) (map (told session event) l) ≡ every (λ y. not (same_screen x y)) l
  unfolding every same_screen
  once x [] = refl
  once x (y ∷ l) =
      let r : every (λ y. not (same_screen (told session event x) y)) (map (told session event) l) ≡ every (λ y. not (same_screen x y)) l = once x l in
      rw (told-session x, told-session y) (ap (◌&&◌ (not (same (session_of x) (session_of y)))) r)

  differ : (l : List Screen) → distinct same_screen (map (told session event) l) ≡ distinct same_screen l
  unfolding distinct
  differ [] = refl
  differ (x ∷ l) = rw (once x l, differ l)

  told-right : (l : List Screen) → right (map (told session event) l) ≡ right l
  unfolding right
  told-right l = rw (length-map l (told session event), sizes l, differ l)

pub sessions-stay : SessionsStay
sessions-stay board session event = by-feed board session event (λ l. map session_of l ≡ map session_of board) refl (sessions session event board)

pub stays-right : StaysRight
stays-right board session event = by-feed board session event (λ l. right l ≡ right board) refl (told-right session event board)

-- A REFUSAL
pub refused-stays : RefusedStays
unfolding feed leaving
refused-stays board session event n =
    by-test (right board)
    (λ r. by-test (on_board board session) (λ o. absurd (n (is-0 board session event r o))) (λ o. not_on board session event r o))
    (λ r. not_right board session event r)

-- TWO SESSION-IDS
map_same : {A : Type 0} (f g h k : A → A) → ((x : A) → f (g x) ≡ h (k x)) → (l : List A) → map f (map g l) ≡ map h (map k l)
map_same f g h k e [] = refl
map_same f g h k e (x ∷ l) = rw (e x, map_same f g h k e l)

module _ (session other : List ℕ) (event then : Event) (n : session ≡ other → ⊥) where
  is-it : (list : List ℕ) (s : Screen) → is_of list s ≡ true → session_of s ≡ list
  unfolding is_of
  is-it list s e = same-eq (session_of s) list e

  either : (s : Screen) → told other then (told session event s) ≡ told session event (told other then s)
  either s =
      by-test (is_of session s)
      (λ p. by-test (is_of other s)
      (λ q. absurd (n (sym (is-it session s p) ∙ is-it other s q)))
      (λ q. told-other other then (told session event s) (told_of session event other s ∙ q)
      ∙ ap (told session event) (sym (told-other other then s q))))
      (λ p. ap (told other then) (told-other session event s p)
      ∙ sym (told-other session event (told other then s) (told_of other then session s ∙ p)))

pub either_order : EitherOrder
either_order board session other event then r n =
    let a : right (feed board session event).board ≡ true = stays-right board session event ∙ r in
    let b : right (feed board other then).board ≡ true = stays-right board other then ∙ r in
    fed-is (feed board session event).board other then a
    ∙ ap (map (told other then)) (fed-is board session event r)
    ∙ map_same (told other then) (told session event) (told session event) (told other then) (either session other event then n) board
    ∙ ap (map (told session event)) (sym (fed-is board other then r))
    ∙ sym (fed-is (feed board other then).board session event b)

-- THE COUNT
pub count-is : CountIs
unfolding count_connected pick
count-is board e = by-test (right board) (λ r. rw r) (λ r. let q : ◌≡◌ {A = ℕ} 25 0 = rw r at e in absurd (omega arith))

pub at-most-64 : AtMost64
unfolding count_connected right pick
at-most-64 board =
    by-test (right board)
    (λ r. let l : length board ≤ 64 = leb-true (length board) 64 (and_left _ (every sized board && distinct same_screen board) r) in
    rw r (omega (arith, l, keep-length is_connected board)))
    (λ r. rw r (omega arith))

unfoldable shows_place : State → Bool
shows_place off = false
shows_place asked = false
shows_place (connected place) = true
shows_place cut = false
shows_place unknown = false

shows-two : (n p : ℕ) → shows_place (state_of n p) ≡ eqb n 2
unfolding shows_place state_of pick
shows-two n p =
    by-test (eqb n 0) (λ a. rw (eqb-true n 0 a))
    (λ a. by-test (eqb n 1) (λ b. rw (eqb-true n 1 b))
    (λ b. by-test (eqb n 2) (λ c. rw (eqb-true n 2 c)) (λ c. by-test (eqb n 3) (λ d. rw (a, b, c, d)) (λ d. rw (a, b, c, d)))))

pub counted-show : CountedShow
unfolding is_connected shown state_of shows_place pick
counted-show s = ((λ e. rw (eqb-true s.state 2 e)), (λ k e. sym (shows-two s.state s.place) ∙ ap shows_place e))

-- NO SECOND ANSWER
one_left : (n m : ℕ) (s t : List Screen) → leaves n s ≡ leaves m t → (n ≡ m) × (s ≡ t)
unfolding leaves
one_left n m s t e = (ap (λ (l : Left). l.number) e, ap (λ (l : Left). l.board) e)

pub one-feed : OneFeed
one-feed promised n m s t a b = one_left n m s t (a ∙ sym b)

count_back : Counted → Count
count_back c = record { number = c.number; screens = c.screens }

count-back : (x : Count) → count_back (count_said x) ≡ x
unfolding count_back count_said
count-back x = refl

pub one-count : OneCount
one-count promised x y p q = sym (count-back x) ∙ ap count_back (p ∙ sym q) ∙ count-back y

-- What a feed makes of a screen and of a board: where it shows connected.
use mathlib.Core.Path.{◌≡◌, refl, sym, ap, ◌∙◌}
use mathlib.Core.Bool.{Bool, true, false}
use mathlib.Core.List.{List}
use Prim.Native.Nat.{ℕ}
use native.Mathlib.Omega.{arith}
use borrow.Author.Tests.{eqb-true, eqb-false, leb-true, ne_eqb, eq-eqb}
use lib.Dec.{eqb, leb}
use Rattle.octets.specs.Choice.{pick}
use Rattle.octets.specs.Texts.{same}
use Rattle.octets.proofs.Choice.{by-pick}
use Rattle.octets.proofs.Lists.{by-test}
use Rattle.screen.specs.declared.Screen.{Screen}
use Rattle.screen.specs.TheBoard.{session_of, state_of, shown, number_of, place_in, showing, Event, nothing, asks, opens, fails, ends, cuts, line, after, Move, stays, to, State, off, asked, connected, cut, moved, moved_by, is_of, told, is_connected}
use Rattle.agreement.specs.TheBoardAgrees.{connected_at}
use Rattle.agreement.proofs.Some.{not-both}

-- THE STATE OF A SCREEN

pub data Seen (s : Screen) : Type 0 where
  is-off : shown s ≡ off → is_connected s ≡ false → Seen s
  is-asked : shown s ≡ asked → is_connected s ≡ false → Seen s
  is-connected : shown s ≡ connected s.place → is_connected s ≡ true → Seen s
  is_cut : shown s ≡ cut → is_connected s ≡ false → Seen s

pub seen : (s : Screen) → leb s.state 3 ≡ true → Seen s
unfolding shown state_of is_connected pick
seen s h =
    by-test (eqb s.state 0)
    (λ a. is-off (rw a) (ne_eqb s.state 2 (omega (arith, eqb-true s.state 0 a))))
    (λ a. by-test (eqb s.state 1)
    (λ b. is-asked (rw (a, b)) (ne_eqb s.state 2 (omega (arith, eqb-true s.state 1 b))))
    (λ b. by-test (eqb s.state 2)
    (λ d. is-connected (rw (a, b, d)) d)
    (λ d. let three : s.state ≡ 3 = omega (arith, leb-true s.state 3 h, eqb-false s.state 0 a, eqb-false s.state 1 b, eqb-false s.state 2 d) in
    is_cut (rw (a, b, d, eq-eqb s.state 3 three)) d)))

-- A SCREEN IS TOLD SOMETHING

moved-session : (m : Move) (s : Screen) → session_of (moved m s) ≡ session_of s
unfolding moved showing session_of
moved-session stays s = refl
moved-session (to state) s = refl

pub session-stays : (x : List ℕ) (e : Event) (s : Screen) → session_of (told x e s) ≡ session_of s
unfolding told moved_by
session-stays x e s = by-pick (λ (u : Screen). session_of u ≡ session_of s) (is_of x s) (λ h. moved-session (after e (shown s)) s) (λ h. refl)

-- a screen of another Session-Id, and the screen itself
pub told-other : (x : List ℕ) (e : Event) (s : Screen) → same (session_of s) x ≡ false → told x e s ≡ s
unfolding told is_of pick
told-other x e s h = rw h

told-own : (x : List ℕ) (e : Event) (s : Screen) → same (session_of s) x ≡ true → told x e s ≡ moved (after e (shown s)) s
unfolding told moved_by is_of pick
told-own x e s h = rw h

-- WHERE IT SHOWS CONNECTED THEN

-- where it did; nowhere; at one place
pub record Alike (s u : Screen) : Type 0 where
  pub four : leb u.state 3 ≡ true
  pub places : (k : ℕ) → connected_at k u ≡ connected_at k s

pub record Dark (u : Screen) : Type 0 where
  pub four : leb u.state 3 ≡ true
  pub nowhere : (k : ℕ) → connected_at k u ≡ false

pub record Lit (u : Screen) (place : ℕ) : Type 0 where
  pub four : leb u.state 3 ≡ true
  pub there : (k : ℕ) → connected_at k u ≡ eqb place k

pub alike_self : (s : Screen) → leb s.state 3 ≡ true → Alike s s
alike_self s h = record { four = h; places = λ k. refl }

-- the events that connect no screen and part none
unfoldable pub quiet : Event → Bool
quiet nothing = true
quiet asks = true
quiet (opens place) = false
quiet fails = true
quiet ends = false
quiet cuts = false

off-dark : (s : Screen) → Dark (showing off s)
unfolding showing number_of place_in connected_at is_connected
off-dark s = record { four = refl; nowhere = λ k. refl }

asked-dark : (s : Screen) → Dark (showing asked s)
unfolding showing number_of place_in connected_at is_connected
asked-dark s = record { four = refl; nowhere = λ k. refl }

cut-dark : (s : Screen) → Dark (showing cut s)
unfolding showing number_of place_in connected_at is_connected
cut-dark s = record { four = refl; nowhere = λ k. refl }

pub unlit : (s : Screen) → is_connected s ≡ false → (k : ℕ) → connected_at k s ≡ false
unfolding connected_at
unlit s h k = rw h

both-dark : (s u : Screen) → is_connected s ≡ false → Dark u → Alike s u
both-dark s u h d = record { four = d.four; places = λ k. d.nowhere k ∙ sym (unlit s h k) }

moved-quiet : (e : Event) (s : Screen) → quiet e ≡ true → leb s.state 3 ≡ true → Seen s → Alike s (moved (after e (shown s)) s)
unfolding quiet after line moved
moved-quiet nothing s q h (is-off e n) = rw e (alike_self s h)
moved-quiet nothing s q h (is-asked e n) = rw e (alike_self s h)
moved-quiet nothing s q h (is-connected e n) = rw e (alike_self s h)
moved-quiet nothing s q h (is_cut e n) = rw e (alike_self s h)
moved-quiet asks s q h (is-off e n) = rw e (both-dark s _ n (asked-dark s))
moved-quiet asks s q h (is-asked e n) = rw e (alike_self s h)
moved-quiet asks s q h (is-connected e n) = rw e (alike_self s h)
moved-quiet asks s q h (is_cut e n) = rw e (both-dark s _ n (asked-dark s))
moved-quiet fails s q h (is-off e n) = rw e (alike_self s h)
moved-quiet fails s q h (is-asked e n) = rw e (both-dark s _ n (off-dark s))
moved-quiet fails s q h (is-connected e n) = rw e (alike_self s h)
moved-quiet fails s q h (is_cut e n) = rw e (alike_self s h)
moved-quiet (opens place) s q h i = not-both false q refl
moved-quiet ends s q h i = not-both false q refl
moved-quiet cuts s q h i = not-both false q refl

pub told-quiet : (x : List ℕ) (e : Event) (s : Screen) → quiet e ≡ true → leb s.state 3 ≡ true → Alike s (told x e s)
unfolding told moved_by
told-quiet x e s q h = by-pick (Alike s) (is_of x s) (λ i. moved-quiet e s q h (seen s h)) (λ i. alike_self s h)

-- a success sets off, a notice marks cut, from any state
to-dark : (e : Event) (s : Screen) (m : State) → Seen s → Dark (showing m s) → after e ≡ line (to m) (to m) (to m) (to m) (to m) → Dark (moved (after e (shown s)) s)
unfolding line moved
to-dark e s m (is-off i n) d a = rw (a, i) d
to-dark e s m (is-asked i n) d a = rw (a, i) d
to-dark e s m (is-connected i n) d a = rw (a, i) d
to-dark e s m (is_cut i n) d a = rw (a, i) d

pub told-ends : (x : List ℕ) (s : Screen) → leb s.state 3 ≡ true → same (session_of s) x ≡ true → Dark (told x ends s)
unfolding after
told-ends x s h own = rw (told-own x ends s own) (to-dark ends s off (seen s h) (off-dark s) refl)

pub told_cuts : (x : List ℕ) (s : Screen) → leb s.state 3 ≡ true → same (session_of s) x ≡ true → Dark (told x cuts s)
unfolding after
told_cuts x s h own = rw (told-own x cuts s own) (to-dark cuts s cut (seen s h) (cut-dark s) refl)

-- A screen that shows connected nowhere is asked by a request, and connected by its success.

lit-there : (s : Screen) (place : ℕ) → Lit (showing (connected place) s) place
unfolding showing number_of place_in connected_at is_connected
lit-there s place = record { four = refl; there = λ k. refl }

shows-asked : (s : Screen) → shown (showing asked s) ≡ asked
unfolding shown showing number_of place_in state_of pick
shows-asked s = refl

dark-asked : (s : Screen) → Seen s → connected_at s.place s ≡ false → shown (moved (after asks (shown s)) s) ≡ asked
unfolding after line moved connected_at
dark-asked s (is-off e n) d = rw e (shows-asked s)
dark-asked s (is-asked e n) d = rw e e
dark-asked s (is-connected e n) d = not-both _ (rw (n, eq-eqb s.place s.place refl)) d
dark-asked s (is_cut e n) d = rw e (shows-asked s)

asked-opens : (s : Screen) (place : ℕ) → shown s ≡ asked → Lit (moved (after (opens place) (shown s)) s) place
unfolding after line moved
asked-opens s place e = rw e (lit-there s place)

pub told-opens : (x : List ℕ) (place : ℕ) (s : Screen) → leb s.state 3 ≡ true → same (session_of s) x ≡ true → connected_at s.place s ≡ false → Lit (told x (opens place) (told x asks s)) place
told-opens x place s h own d =
    let first : told x asks s ≡ moved (after asks (shown s)) s = told-own x asks s own in
    let then' : same (session_of (told x asks s)) x ≡ true = ap (λ (l : List ℕ). same l x) (session-stays x asks s) ∙ own in
    rw (told-own x (opens place) (told x asks s) then') (asked-opens (told x asks s) place (ap shown first ∙ dark-asked s (seen s h) d))

-- What a line of the table makes of an entry.
use mathlib.Core.Path.{◌≡◌, sym, ap, ◌∙◌}
use Prim.Native.Nat.{ℕ}
use Rattle.std.specs.Prelude.{Option, Some, None}
use Rattle.screen.specs.TheBoard.{state_of, shown, number_of, place_in, showing, Event, Move, after, moved, moved_by}
use Rattle.screen.specs.Code.{state_said, move_said}
use Rattle.screen.specs.declared.Screen.{Screen}
use Rattle.screen.specs.declared.State.{State as StateIs}

-- an entry, once its state is looked up in the table
module _ (state : StateIs) (event : Event) (s : Screen) (is : state_said state ≡ state_of s.state s.place) (m : Option StateIs) (says : move_said m ≡ after event (state_said state)) where
  told : moved (move_said m) s ≡ moved_by event s
  unfolding moved_by shown
  told = ap (λ (k : Move). moved k s) (says ∙ ap (after event) is)

  pub told-stays : m ≡ None → s ≡ moved_by event s
  unfolding move_said moved
  told-stays q = sym (ap (λ (k : Option StateIs). moved (move_said k) s) q) ∙ told

  pub told-moves : (then : StateIs) (number place : ℕ) → m ≡ Some then → number ≡ number_of (state_said then) → place ≡ place_in (state_said then)
      → record { state = number; place = place; size = s.size; room = s.room } ≡ moved_by event s
  unfolding move_said moved showing
  told-moves then number place q a b =
      let is_shown : record { state = number; place = place; size = s.size; room = s.room } ≡ showing (state_said then) s = λ k. record { state = a k; place = b k; size = s.size; room = s.room } in
      is_shown ∙ sym (ap (λ (k : Option StateIs). moved (move_said k) s) q) ∙ told

-- What one look at the list says of a feed, and what the feed leaves, one law for each way out.
use mathlib.Core.Path.{◌≡◌, sym, ap, ◌∙◌}
use mathlib.Core.Bool.{true, ◌&&◌}
use mathlib.Core.List.{List, map}
use Prim.Native.Nat.{ℕ, ◌+◌}
use native.Mathlib.Omega.{arith}
use denote.Enum.Declared.{tag_of}
use lib.Dec.{leb}
use lib.ListN.{length, get_or, set}
use Rattle.std.specs.Prelude.{Option, Some, None, Ok, Err}
use Rattle.std.specs.Option.{ok_or}
use Rattle.octets.specs.Choice.{pick, require, first_of}
use Rattle.octets.specs.Lists.{every, distinct}
use Rattle.octets.proofs.Lists.{by-test, and_right}
use Rattle.screen.specs.TheBoard.{Event, moved_by, told, same_screen, sized, right, on_board, feed_number, leaving, feed, Counted, count_connected}
use Rattle.screen.specs.Code.{none, refusal_said, counts, Found, Finds, leaves}
use Rattle.screen.specs.declared.Screen.{Screen}
use Rattle.screen.specs.declared.Seen.{Seen}
use Rattle.screen.specs.declared.Refusal.{Refusal}
use Rattle.screen.specs.declared.Refusal.TheVariants.{NoScreen, WrongList}
use Rattle.screen.specs.contracts.Refusal.{the_type}
use Rattle.screen.proofs.Feeding.{told-set, on-board}

-- THE LIST
module _ (board : List Screen) where
  module _ (r : right board ≡ true) where
    rest-right : every sized board && distinct same_screen board ≡ true
    unfolding right
    rest-right = and_right (leb (length board) 64) _ r

    pub right-once : distinct same_screen board ≡ true
    right-once = and_right (every sized board) _ rest-right

-- THE WAYS TO AN ENTRY
module _ (board : List Screen) (session : List ℕ) (seen : Option Seen) (counted : counts seen ≡ count_connected board) where
  -- none has been seen: the list is wrong
  pub finds-wrong : seen ≡ None → Finds board session (Err WrongList)
  unfolding counts count_connected feed_number first_of require pick refusal_said
  finds-wrong is = by-test (right board)
      (λ r. let bad : 25 ≡ (count_connected board).number = ap (λ (o : Option Seen). (counts o).number) (sym is) ∙ ap (λ (c : Counted). c.number) counted in absurd (omega (arith, rw r at bad)))
      (λ r. rw r)

  module _ (s : Seen) (is : seen ≡ Some s) where
    seen-right : right board ≡ true
    unfolding counts count_connected pick
    seen-right = by-test (right board) (λ r. r)
        (λ r. let bad : 0 ≡ (count_connected board).number = ap (λ (o : Option Seen). (counts o).number) (sym is) ∙ ap (λ (c : Counted). c.number) counted in absurd (omega (arith, rw r at bad)))

    -- the entry that has the Session-Id, or that none has
    pub finds-at : (at : Option ℕ) → Found board session at → Finds board session (ok_or at NoScreen)
    unfolding feed_number first_of require pick refusal_said
    finds-at None o = rw (seen-right, o)
    finds-at (Some i) f = let o : on_board board session ≡ true = on-board session board i none f.0 f.1 in (rw (seen-right, o), f.0, f.1)

-- THE WAYS OUT
number-right : (board : List Screen) (session : List ℕ) → feed_number board session ≡ 0 → right board ≡ true
unfolding feed_number first_of require pick
number-right board session e = by-test (right board) (λ r. r) (λ r. absurd (omega (arith, rw r at e)))

module _ (board : List Screen) (session : List ℕ) (event : Event) where
  -- a refusal: the list is left as it was
  pub refused : (refusal : Refusal) → Finds board session (Err refusal) → leaves (tag_of the_type refusal + 24) board ≡ feed board session event
  unfolding feed leaving leaves pick refusal_said
  refused NoScreen e = rw e
  refused WrongList e = rw e

  -- the entry is told
  pub told-one : (i : ℕ) → Finds board session (Ok i) → (after : List Screen) → after ≡ set board i (moved_by event (get_or board i none)) → leaves 0 after ≡ feed board session event
  unfolding feed leaving leaves pick
  told-one i f after e =
      let all : map (told session event) board ≡ set board i (moved_by event (get_or board i none)) = told-set session event board i none (right-once board (number-right board session f.0)) f.1 f.2 in
      rw (f.0, all, e)

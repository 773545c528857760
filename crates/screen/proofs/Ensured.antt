-- No second answer, of the operations themselves. What an operation ensures of its arguments `a`, of what it returns and of the arguments `x` as they stand afterwards
-- is the equation of the statement in specs/ (`feed-ensures`, `connected-ensures`), so that two outcomes of which it holds are one.
use mathlib.Core.Path.{◌≡◌, refl}
use mathlib.Core.List.{List}
use Prim.Native.Nat.{ℕ}
use seplogic.Ra.Ura.{Ura}
use base.Logic.{SProp}
use contract.Lifetimes.{Lfts}
use contract.Monad.{Fun, fact}
use denote.Ref.{Bor}
use denote.MutBor.{MutBor}
use denote.Triple.Clauses.{AtExit}
use types.Logic.{Logic}
use prog.Memory.{Memory}
use prog.Routine.{Routine}
use Rattle.screen.specs.TheBoard.{feed, count_connected}
use Rattle.screen.specs.Code.{event_said, leaves, count_said}
use Rattle.screen.specs.declared.Count.{Count}
use Rattle.screen.specs.declared.Event.{Event}
use Rattle.screen.specs.declared.Screen.{Screen}
use Rattle.screen.specs.contracts.feed as Feed
use Rattle.screen.specs.contracts.connected as Connected
use Rattle.screen.proofs.TheBoardsRules.{one-feed, one-count}

-- screens, session, event
abbrev Fed : Type 0
Fed = MutBor (List Screen) × (Bor (List ℕ) × (Event × Unit {0}))

abbrev FedSays : (κs : Lfts 2) → Fed → ℕ → AtExit Feed.ended κs → Type 0
FedSays κs a n x = leaves n x.0.now ≡ feed a.0.now a.1.0.now (event_said a.1.1.0)

-- screens
abbrev Asked : Type 0
Asked = Bor (List Screen) × Unit {0}

abbrev CountSays : Asked → Count → Type 0
CountSays a r = count_said r ≡ count_connected a.0.now

module _ {M : Type 1} {𝓤 : Ura M} (𝓛 : Logic 𝓤) (mem : Memory → SProp 𝓤) (run : Routine → Fun 𝓤) where
  pub feed-ensures : (κs : Lfts 2) (a : Fed) (n : ℕ) (x : AtExit Feed.ended κs) → (Feed.clauses 𝓛 mem run κs a).ensures tt n x ≡ fact 𝓤 (FedSays κs a n x)
  feed-ensures κs a n x = refl

  pub connected-ensures : (κs : Lfts 1) (a : Asked) (r : Count) (x : AtExit Connected.ended κs) → (Connected.clauses 𝓛 mem run κs a).ensures tt r x ≡ fact 𝓤 (CountSays a r)
  connected-ensures κs a r x = refl

pub feed-gives-one : (κs : Lfts 2) (a : Fed) (n m : ℕ) (x y : AtExit Feed.ended κs) → FedSays κs a n x → FedSays κs a m y → (n ≡ m) × (x.0.now ≡ y.0.now)
feed-gives-one κs a n m x y = one-feed (feed a.0.now a.1.0.now (event_said a.1.1.0)) n m x.0.now y.0.now

pub connected-gives-one : (a : Asked) (r s : Count) → CountSays a r → CountSays a s → r ≡ s
connected-gives-one a r s = one-count (count_connected a.0.now) r s

-- No second answer, of the board's operations for C: what each ensures is an equation that one outcome solves. `a` are the arguments, the list of screens first, and
-- `x` is how they stand afterwards.
use mathlib.Core.Path.{◌≡◌, refl}
use mathlib.Core.List.{List}
use Prim.Native.Nat.{ℕ}
use seplogic.Ra.Ura.{Ura}
use base.Logic.{SProp}
use contract.Lifetimes.{Lfts}
use contract.Monad.{Fun, fact}
use denote.Ref.{Bor}
use denote.MutBor.{MutBor}
use denote.Triple.Clauses.{AtExit}
use types.Logic.{Logic}
use prog.Memory.{Memory}
use prog.Routine.{Routine}
use Rattle.screen.specs.TheBoard.{feed_request, feed_result, feed_notice, count_connected}
use Rattle.screen.specs.Code.{leaves, count_said}
use Rattle.screen.specs.declared.Count.{Count}
use Rattle.screen.specs.declared.Screen.{Screen}
use Rattle.screen.proofs.TheBoardsRules.{one-feed, one-count}
use Rattle.wm.specs.contracts.wm_screen_request as ScreenRequest
use Rattle.wm.specs.contracts.wm_screen_result as ScreenResult
use Rattle.wm.specs.contracts.wm_screen_notice as ScreenNotice
use Rattle.wm.specs.contracts.wm_screens_connected as ScreensConnected

abbrev RequestSays : (κs : Lfts 2) → MutBor (List Screen) × (ℕ × (Bor (List ℕ) × Unit {0})) → ℕ → AtExit ScreenRequest.ended κs → Type 0
RequestSays κs a n x = leaves n x.0.now ≡ feed_request a.0.now a.1.0 a.1.1.0.now

abbrev ResultSays : (κs : Lfts 2) → MutBor (List Screen) × (ℕ × (Bor (List ℕ) × (ℕ × (ℕ × (ℕ × Unit {0}))))) → ℕ → AtExit ScreenResult.ended κs → Type 0
ResultSays κs a n x = leaves n x.0.now ≡ feed_result a.0.now a.1.0 a.1.1.0.now a.1.1.1.0 a.1.1.1.1.0 a.1.1.1.1.1.0

abbrev NoticeSays : (κs : Lfts 2) → MutBor (List Screen) × (Bor (List ℕ) × Unit {0}) → ℕ → AtExit ScreenNotice.ended κs → Type 0
NoticeSays κs a n x = leaves n x.0.now ≡ feed_notice a.0.now a.1.0.now

abbrev ConnectedSays : Bor (List Screen) × Unit {0} → Count → Type 0
ConnectedSays a r = count_said r ≡ count_connected a.0.now

module _ {M : Type 1} {𝓤 : Ura M} (𝓛 : Logic 𝓤) (mem : Memory → SProp 𝓤) (run : Routine → Fun 𝓤) where
  pub request-ensures : (κs : Lfts 2) (a : MutBor (List Screen) × (ℕ × (Bor (List ℕ) × Unit {0}))) (n : ℕ) (x : AtExit ScreenRequest.ended κs)
      → (ScreenRequest.clauses 𝓛 mem run κs a).ensures tt n x ≡ fact 𝓤 (RequestSays κs a n x)
  request-ensures κs a n x = refl

  pub result-ensures : (κs : Lfts 2) (a : MutBor (List Screen) × (ℕ × (Bor (List ℕ) × (ℕ × (ℕ × (ℕ × Unit {0})))))) (n : ℕ) (x : AtExit ScreenResult.ended κs)
      → (ScreenResult.clauses 𝓛 mem run κs a).ensures tt n x ≡ fact 𝓤 (ResultSays κs a n x)
  result-ensures κs a n x = refl

  pub notice-ensures : (κs : Lfts 2) (a : MutBor (List Screen) × (Bor (List ℕ) × Unit {0})) (n : ℕ) (x : AtExit ScreenNotice.ended κs)
      → (ScreenNotice.clauses 𝓛 mem run κs a).ensures tt n x ≡ fact 𝓤 (NoticeSays κs a n x)
  notice-ensures κs a n x = refl

  pub connected-ensures : (κs : Lfts 1) (a : Bor (List Screen) × Unit {0}) (r : Count) (x : AtExit ScreensConnected.ended κs)
      → (ScreensConnected.clauses 𝓛 mem run κs a).ensures tt r x ≡ fact 𝓤 (ConnectedSays a r)
  connected-ensures κs a r x = refl

pub request-gives-one : (κs : Lfts 2) (a : MutBor (List Screen) × (ℕ × (Bor (List ℕ) × Unit {0}))) (n m : ℕ) (x y : AtExit ScreenRequest.ended κs)
    → RequestSays κs a n x → RequestSays κs a m y → (n ≡ m) × (x.0.now ≡ y.0.now)
request-gives-one κs a n m x y = one-feed (feed_request a.0.now a.1.0 a.1.1.0.now) n m x.0.now y.0.now

pub result-gives-one : (κs : Lfts 2) (a : MutBor (List Screen) × (ℕ × (Bor (List ℕ) × (ℕ × (ℕ × (ℕ × Unit {0})))))) (n m : ℕ) (x y : AtExit ScreenResult.ended κs)
    → ResultSays κs a n x → ResultSays κs a m y → (n ≡ m) × (x.0.now ≡ y.0.now)
result-gives-one κs a n m x y =
    one-feed (feed_result a.0.now a.1.0 a.1.1.0.now a.1.1.1.0 a.1.1.1.1.0 a.1.1.1.1.1.0) n m x.0.now y.0.now

pub notice-gives-one : (κs : Lfts 2) (a : MutBor (List Screen) × (Bor (List ℕ) × Unit {0})) (n m : ℕ) (x y : AtExit ScreenNotice.ended κs)
    → NoticeSays κs a n x → NoticeSays κs a m y → (n ≡ m) × (x.0.now ≡ y.0.now)
notice-gives-one κs a n m x y = one-feed (feed_notice a.0.now a.1.0.now) n m x.0.now y.0.now

pub connected-gives-one : (a : Bor (List Screen) × Unit {0}) (r s : Count) → ConnectedSays a r → ConnectedSays a s → r ≡ s
connected-gives-one a r s = one-count (count_connected a.0.now) r s

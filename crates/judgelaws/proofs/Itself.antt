-- An answer held against itself: its header is the one due.
use mathlib.Core.Path.{◌≡◌, ap, ◌∙◌}
use mathlib.Core.Bool.{true}
use mathlib.Core.List.{List, [], ◌∷◌, ◌++◌}
use Prim.Native.Nat.{ℕ, ◌≤◌}
use native.Mathlib.Omega.{arith}
use borrow.Author.Tests.{eq-eqb, le-leb}
use lib.Dec.{eqb}
use lib.ListN.{length, get_or, take, drop}
use lib.Seq.{drop-drop, take-add, take-suc}
use Rattle.octets.specs.Choice.{pick}
use Rattle.octets.specs.Texts.{part, same}
use Rattle.octets.proofs.Lists.{both, same_refl}
use Rattle.likeness.specs.TheSameAnswer.{fault, true_length, header_due, misplaced, avps_of, same_answer}
use Rattle.likeness.proofs.Itself.{misplaced-own, complete-own}
use Rattle.judgelaws.specs.TheJudgesRules.{SameAsItself}

header-own : (s : List ℕ) → 20 ≤ length s → part s 1 3 ≡ true_length (length s) → take 20 s ≡ header_due s (length s)
unfolding header_due pick
header-own s h e =
    let one : take 1 s ≡ get_or s 0 0 ∷ [] = take-suc s 0 0 (omega arith) in
    let parts : take 20 s ≡ take 1 s ++ (part s 1 3 ++ part s 4 16) =
    take-add 1 19 s ∙ ap (λ (l : List ℕ). take 1 s ++ l) (take-add 3 16 (drop 1 s) ∙ ap (λ (l : List ℕ). part s 1 3 ++ take 16 l) (drop-drop 3 1 s)) in
    rw (le-leb 20 (length s) h) (parts ∙ rw (one, e))

pub same-as-itself : SameAsItself
unfolding same_answer
same-as-itself s h e f =
    let a : same (take 20 s) (header_due s (length s)) ≡ true = rw (← header-own s h e) (same_refl (take 20 s)) in
    let b : eqb (fault s).number 0 ≡ true = rw f in
    both a (both b (both (eq-eqb (misplaced (avps_of s) (avps_of s)) 0 (misplaced-own (avps_of s))) (complete-own (avps_of s))))

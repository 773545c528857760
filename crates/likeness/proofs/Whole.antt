-- An answer as a whole: a law for each of the tests that may tell something, where those before it tell nothing.
use mathlib.Core.Path.{◌≡◌, ◌∙◌}
use mathlib.Core.Bool.{true, false}
use mathlib.Core.List.{List}
use Prim.Native.Nat.{ℕ}
use borrow.Author.Tests.{eq-eqb, ne_eqb}
use lib.Dec.{eqb}
use Rattle.octets.specs.Choice.{pick}
use Rattle.message.specs.ReadingAMessage.{body}
use Rattle.likeness.specs.TheSameAnswer.{Finding, nothing, differs, or_else, unless, fault_in, fault, header_finding, misplaced, place_finding, complete, missing_finding, avps_of, answer_finding}
use Rattle.likeness.proofs.Itself.{misplaced-own, complete-own}

module _ (ours theirs : List ℕ) where
  module _ (f : Finding) (is : f ≡ fault_in 4 20 (body theirs)) where
    found : answer_finding ours theirs
        ≡ pick (eqb f.number 31) f
        (or_else (header_finding ours theirs) (or_else f (or_else (place_finding (avps_of ours) (avps_of theirs)) (missing_finding (avps_of ours) (avps_of theirs)))))
    unfolding answer_finding fault
    found = rw (← is)

    pub told-deep : f.number ≡ 31 → answer_finding ours theirs ≡ f
    unfolding pick
    told-deep e = found ∙ rw (eq-eqb f.number 31 e)

    module _ (d : f.number ≡ 31 → ⊥) (h : Finding) (header : h ≡ header_finding ours theirs) where
      pub told-header : (h.number ≡ 0 → ⊥) → answer_finding ours theirs ≡ h
      unfolding pick or_else
      told-header e = found ∙ rw (ne_eqb f.number 31 d, ← header, ne_eqb h.number 0 e)

      module _ (p : h.number ≡ 0) where
        pub told-walk : (f.number ≡ 0 → ⊥) → answer_finding ours theirs ≡ f
        unfolding pick or_else
        told-walk e = found ∙ rw (ne_eqb f.number 31 d, ← header, eq-eqb h.number 0 p, ne_eqb f.number 0 e)

        module _ (q : f.number ≡ 0) where
          rest : answer_finding ours theirs ≡ or_else (place_finding (avps_of ours) (avps_of theirs)) (missing_finding (avps_of ours) (avps_of theirs))
          unfolding pick or_else
          rest = found ∙ rw (ne_eqb f.number 31 d, ← header, eq-eqb h.number 0 p, eq-eqb f.number 0 q)

          pub told-place : (at : ℕ) → at ≡ misplaced (avps_of ours) (avps_of theirs) → (at ≡ 0 → ⊥) → answer_finding ours theirs ≡ differs 3 at
          unfolding pick or_else place_finding unless
          told-place at e z = rest ∙ rw (← e, ne_eqb at 0 z)

          module _ (all : misplaced (avps_of ours) (avps_of theirs) ≡ 0) where
            pub told-nothing : complete (avps_of ours) (avps_of theirs) ≡ true → answer_finding ours theirs ≡ nothing
            unfolding pick or_else place_finding missing_finding unless
            told-nothing c = rest ∙ rw (eq-eqb (misplaced (avps_of ours) (avps_of theirs)) 0 all, c)

            pub told-missing : complete (avps_of ours) (avps_of theirs) ≡ false → answer_finding ours theirs ≡ differs 4 0
            unfolding pick or_else place_finding missing_finding unless
            told-missing c = rest ∙ rw (eq-eqb (misplaced (avps_of ours) (avps_of theirs)) 0 all, c)

          -- the same bytes
          pub told-itself : ours ≡ theirs → answer_finding ours theirs ≡ nothing
          told-itself e = told-nothing (rw e (misplaced-own (avps_of theirs))) (rw e (complete-own (avps_of theirs)))

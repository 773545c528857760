-- AVPs by place: which of the tests decides on the one that stands there, and what it leaves to those behind it.
use mathlib.Core.Path.{◌≡◌, refl, sym, ap, ◌∙◌}
use mathlib.Core.Bool.{Bool, true, false, ◌&&◌, ◌||◌, not}
use mathlib.Core.List.{List, [], ◌∷◌}
use Prim.Native.Nat.{ℕ, ◌+◌, ◌-◌, ◌/◌, ◌%◌}
use borrow.Author.Tests.{eq-eqb, ne_eqb}
use lib.Dec.{eqb}
use lib.ListN.{length, get_or, drop}
use lib.Seq.{get_or-drop}
use Rattle.octets.specs.Choice.{pick}
use Rattle.octets.specs.Lists.{every}
use Rattle.message.specs.ReadingAMessage.{same_name, session_id, Avp, avp_of, having, present, starts_with}
use Rattle.likeness.specs.TheSameAnswer.{failed_avp, first_is, met, fits, misplaced_from, starts_like, misplaced}
use Rattle.likeness.specs.Code.{avp_at, avps_from, next_at}
use Rattle.likeness.proofs.Places.{from-none, from-here, bytes-reach}

-- ONE PLACE

module _ (ours theirs rest : List Avp) (a : Avp) where
  pub fits-failed : same_name failed_avp a.name ≡ true → fits ours theirs rest a ≡ true
  unfolding fits
  fits-failed e = rw e

  module _ (e : same_name failed_avp a.name ≡ false) where
    pub fits-lacking : length (having a.name ours) ≡ 0 → fits ours theirs rest a ≡ not a.mandatory
    unfolding fits present pick
    fits-lacking z = rw (e, eq-eqb (length (having a.name ours)) 0 z)

    pub fits-met : (length (having a.name ours) ≡ 0 → ⊥)
        → fits ours theirs rest a ≡ first_is (drop (length (having a.name theirs) - length (having a.name rest)) (having a.name ours)) a
    unfolding fits present met pick
    fits-met z = rw (e, ne_eqb (length (having a.name ours)) 0 z)

pub mandatory-is : (m : List ℕ) (at : ℕ) → (avp_at m at).mandatory ≡ eqb (get_or m (at + 4) 0 / 64 % 2) 1
unfolding avp_of
mandatory-is m at = rw (get_or-drop at m 4 0)

-- THE START

starts-nothing : (ours : List Avp) → starts_like ours [] ≡ true
unfolding starts_like
starts-nothing ours = refl

starts-freely : (theirs : List Avp) → starts_like [] theirs ≡ true
unfolding starts_like starts_with
starts-freely [] = refl
starts-freely (a ∷ xs) = refl

starts-both : (a b : Avp) (xs ys : List Avp) → starts_like (a ∷ xs) (b ∷ ys) ≡ not (same_name session_id a.name) || same_name session_id b.name
unfolding starts_like starts_with
starts-both a b xs ys = refl

module _ (ours theirs : List ℕ) where
  pub starts_none : next_at theirs 20 ≡ 0 → starts_like (avps_from ours 20) (avps_from theirs 20) ≡ true
  starts_none e = ap (starts_like (avps_from ours 20)) (from-none theirs 20 e) ∙ starts-nothing (avps_from ours 20)

  pub starts-free : next_at ours 20 ≡ 0 → starts_like (avps_from ours 20) (avps_from theirs 20) ≡ true
  starts-free e = ap (λ (l : List Avp). starts_like l (avps_from theirs 20)) (from-none ours 20 e) ∙ starts-freely (avps_from theirs 20)

  pub starts-here : (p q : ℕ) → next_at ours 20 ≡ p → (p ≡ 0 → ⊥) → next_at theirs 20 ≡ q → (q ≡ 0 → ⊥)
      → starts_like (avps_from ours 20) (avps_from theirs 20) ≡ not (same_name session_id (avp_at ours 20).name) || same_name session_id (avp_at theirs 20).name
  starts-here p q e f g h =
      ap (λ (l : List Avp). starts_like l (avps_from theirs 20)) (from-here ours 20 p e f)
      ∙ ap (starts_like (avp_at ours 20 ∷ avps_from ours p)) (from-here theirs 20 q g h)
      ∙ starts-both (avp_at ours 20) (avp_at theirs 20) (avps_from ours p) (avps_from theirs q)

-- ALL PLACES

module _ (ours theirs : List Avp) where
  pub other-start : starts_like ours theirs ≡ false → misplaced ours theirs ≡ 20
  unfolding misplaced pick
  other-start e = rw e

  pub same_start : starts_like ours theirs ≡ true → misplaced_from ours theirs 20 theirs ≡ misplaced ours theirs
  unfolding misplaced pick
  same_start e = rw e

  from_cons : (at : ℕ) (a : Avp) (xs : List Avp)
      → misplaced_from ours theirs at (a ∷ xs) ≡ pick (fits ours theirs (a ∷ xs) a) (misplaced_from ours theirs (at + length a.bytes) xs) at
  unfolding misplaced_from
  from_cons at a xs = refl

  from-nil : (at : ℕ) → misplaced_from ours theirs at [] ≡ 0
  unfolding misplaced_from
  from-nil at = refl

  module _ (m : List ℕ) (at : ℕ) where
    pub places-end : next_at m at ≡ 0 → misplaced_from ours theirs at (avps_from m at) ≡ 0
    places-end e = ap (misplaced_from ours theirs at) (from-none m at e) ∙ from-nil at

    module _ (next : ℕ) (e : next_at m at ≡ next) (f : next ≡ 0 → ⊥) where
      here : misplaced_from ours theirs at (avps_from m at) ≡ pick (fits ours theirs (avps_from m at) (avp_at m at)) (misplaced_from ours theirs next (avps_from m next)) at
      here =
          let l : avps_from m at ≡ avp_at m at ∷ avps_from m next = from-here m at next e f in
          ap (misplaced_from ours theirs at) l
          ∙ from_cons at (avp_at m at) (avps_from m next)
          ∙ ap (λ (k : ℕ). pick (fits ours theirs (avp_at m at ∷ avps_from m next) (avp_at m at)) (misplaced_from ours theirs k (avps_from m next)) at) (bytes-reach m at next e f)
          ∙ ap (λ (r : List Avp). pick (fits ours theirs r (avp_at m at)) (misplaced_from ours theirs next (avps_from m next)) at) (sym l)

      pub place-off : fits ours theirs (avps_from m at) (avp_at m at) ≡ false → misplaced_from ours theirs at (avps_from m at) ≡ at
      unfolding pick
      place-off h = here ∙ rw h

      pub place-on : fits ours theirs (avps_from m at) (avp_at m at) ≡ true → misplaced_from ours theirs next (avps_from m next) ≡ misplaced_from ours theirs at (avps_from m at)
      unfolding pick
      place-on h = sym (here ∙ rw h)

-- EVERY AVP OF AN ANSWER

module _ (f : Avp → Bool) (m : List ℕ) (at : ℕ) where
  pub all_end : next_at m at ≡ 0 → every f (avps_from m at) ≡ true
  unfolding every
  all_end e = rw (from-none m at e)

  module _ (next : ℕ) (e : next_at m at ≡ next) (g : next ≡ 0 → ⊥) where
    all_here : every f (avps_from m at) ≡ f (avp_at m at) && every f (avps_from m next)
    unfolding every
    all_here = ap (every f) (from-here m at next e g)

    pub all-stop : f (avp_at m at) ≡ false → every f (avps_from m at) ≡ false
    all-stop h = all_here ∙ rw h

    pub all-step : f (avp_at m at) ≡ true → every f (avps_from m next) ≡ every f (avps_from m at)
    all-step h = sym (all_here ∙ rw h)

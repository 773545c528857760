-- Where the next message ends, test by test; and the whole messages, one and then the others, whatever counts them.
use mathlib.Core.Path.{◌≡◌, refl, sym, ap, ◌∙◌}
use mathlib.Core.Bool.{false, ◌&&◌}
use mathlib.Core.List.{List, [], ◌∷◌}
use Prim.Native.Nat.{ℕ, zero, suc, ◌+◌, ◌≤◌, ◌<◌}
use native.Mathlib.Nat.{add_assoc}
use native.Mathlib.Omega.{arith}
use borrow.Author.Tests.{le-leb, lt-leb, ne_eqb, eqb-false}
use lib.Dec.{eqb, leb}
use lib.ListN.{length, take, drop, length-drop}
use lib.Seq.{get_or-drop, drop-drop}
use Rattle.octets.specs.Choice.{pick, within}
use Rattle.octets.specs.Numbers.{net24}
use Rattle.octets.proofs.Lists.{by-test, and_right, within-high, in_within}
use Rattle.burst.specs.TheBurst.{next_length, whole_up_to, whole_messages}

-- THE NEXT MESSAGE

module _ (s : List ℕ) where
  pub next-short : length s < 4 → next_length s ≡ 0
  unfolding next_length pick
  next-short h = rw (lt-leb 4 (length s) h)

  pub next_under : net24 s 1 < 20 → next_length s ≡ 0
  unfolding next_length pick within
  next_under h = by-test (leb 4 (length s)) (λ e. rw (e, lt-leb 20 (net24 s 1) h)) (λ e. rw e)

  pub next_past : length s < net24 s 1 → next_length s ≡ 0
  unfolding next_length pick within
  next_past h =
      by-test (leb 4 (length s))
      (λ e. by-test (leb 20 (net24 s 1)) (λ g. rw (e, g, lt-leb (net24 s 1) (length s) h)) (λ g. rw (e, g)))
      (λ e. rw e)

  pub next-is : 4 ≤ length s → 20 ≤ net24 s 1 → net24 s 1 ≤ length s → next_length s ≡ net24 s 1
  unfolding next_length pick
  next-is h k l = rw (le-leb 4 (length s) h, in_within 20 (length s) (net24 s 1) k l)

  -- it ends within the bytes
  pub next_fits : next_length s ≤ length s
  unfolding next_length pick
  next_fits =
      by-test (leb 4 (length s) && within 20 (length s) (net24 s 1))
      (λ e. rw e (within-high 20 (length s) (net24 s 1) (and_right (leb 4 (length s)) _ e)))
      (λ e. rw e (omega arith))

-- the number in the header of the message from a byte on
pub header_at : (s : List ℕ) (at : ℕ) → net24 (drop at s) 1 ≡ net24 s (at + 1)
unfolding net24
header_at s at = rw (get_or-drop at s 1 0, get_or-drop at s 2 0, get_or-drop at s 3 0, ← add_assoc at 1 1, ← add_assoc at 1 2)

-- THE WHOLE MESSAGES

some : (n : ℕ) → eqb n 0 ≡ false → 1 ≤ n
some zero e = absurd (eqb-false 0 0 e refl)
some (suc n) e = omega arith

-- as many as there are bytes are enough to count on
enough : (n m : ℕ) (s : List ℕ) → length s ≤ n → length s ≤ m → whole_up_to n s ≡ whole_up_to m s
unfolding whole_up_to pick
enough zero zero s h k = refl
enough zero (suc m) s h k = rw (next-short s (omega arith))
enough (suc n) zero s h k = rw (next-short s (omega arith))
enough (suc n) (suc m) s h k =
    by-test (eqb (next_length s) 0)
    (λ e. rw e)
    (λ e.
    let fewer : length (drop (next_length s) s) + 1 ≤ length s = omega (arith, length-drop (next_length s) s, some (next_length s) e, next_fits s) in
    rw (e, enough n m (drop (next_length s) s) (omega (arith, fewer)) (omega (arith, fewer))))

-- counted on one more than there are bytes
one_more : (s : List ℕ) → whole_messages s ≡ whole_up_to (suc (length s)) s
unfolding whole_messages
one_more s = enough (length s) (suc (length s)) s (omega arith) (omega arith)

module _ (s : List ℕ) where
  pub whole-none : next_length s ≡ 0 → whole_messages s ≡ []
  unfolding whole_up_to pick
  whole-none e = one_more s ∙ rw e refl

  pub whole-next : (next_length s ≡ 0 → ⊥) → whole_messages s ≡ take (next_length s) s ∷ whole_messages (drop (next_length s) s)
  unfolding whole_up_to whole_messages pick
  whole-next h =
      let e : eqb (next_length s) 0 ≡ false = ne_eqb (next_length s) 0 h in
      one_more s
      ∙ rw (e, enough (length s) (length (drop (next_length s) s)) (drop (next_length s) s) (omega (arith, length-drop (next_length s) s)) (omega arith))

-- THE SAME FROM A BYTE ON

module _ (m : List ℕ) (at : ℕ) where
  pub next-within : at ≤ length m → at + next_length (drop at m) ≤ length m
  next-within h = omega (arith, h, next_fits (drop at m), length-drop at m)

  pub whole-count : (next : ℕ) → next ≡ next_length (drop at m) → (next ≡ 0 → ⊥)
      → length (whole_messages (drop at m)) ≡ 1 + length (whole_messages (drop (at + next) m))
  whole-count next e h =
      let all : whole_messages (drop at m) ≡ take (next_length (drop at m)) (drop at m) ∷ whole_messages (drop (next_length (drop at m)) (drop at m)) = whole-next (drop at m) (λ z. h (e ∙ z)) in
      let rest : drop (next_length (drop at m)) (drop at m) ≡ drop (at + next) m = drop-drop (next_length (drop at m)) at m ∙ ap (λ (n : ℕ). drop (at + n) m) (sym e) in
      rw (all, rest) (omega arith)

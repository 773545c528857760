-- An answer held against itself: every AVP of it is met by itself, and none is missing.
use mathlib.Core.Path.{◌≡◌, refl, sym, ap, ◌∙◌}
use mathlib.Core.Bool.{true}
use mathlib.Core.List.{List, [], ◌∷◌, ◌++◌}
use Prim.Native.Nat.{ℕ, ◌+◌, ◌-◌}
use native.Mathlib.Omega.{arith}
use borrow.Author.Tests.{eq-eqb, ne_eqb, le-leb}
use lib.Dec.{leb}
use lib.ListN.{length, drop, length-append}
use lib.Seq.{append_snoc, drop-append_seam}
use Rattle.octets.specs.Choice.{pick}
use Rattle.octets.specs.Lists.{keep}
use Rattle.octets.proofs.Lists.{by-test, both, same_refl, every_of}
use Rattle.message.specs.ReadingAMessage.{Name, same_name, session_id, Avp, having, present, starts_with}
use Rattle.message.proofs.Gathering.{same-name-refl}
use Rattle.likeness.specs.TheSameAnswer.{failed_avp, flag_byte, same_avp, first_is, met, fits, misplaced_from, starts_like, misplaced, complete}

pub having-append : (n : Name) (xs ys : List Avp) → having n (xs ++ ys) ≡ having n xs ++ having n ys
unfolding having keep pick
having-append n [] ys = refl
having-append n (a ∷ xs) ys =
    by-test (same_name n a.name)
    (λ e. rw (e, having-append n xs ys))
    (λ e. rw (e, having-append n xs ys))

pub having-own : (a : Avp) (xs : List Avp) → having a.name (a ∷ xs) ≡ a ∷ having a.name xs
unfolding having keep pick
having-own a xs = rw (same-name-refl a.name)

pub same-itself : (a : Avp) → same_avp a a ≡ true
unfolding same_avp
same-itself a = both (eq-eqb (flag_byte a) (flag_byte a) refl) (same_refl a.value)

avp-own : (a : Avp) (xs : List Avp) → first_is (a ∷ xs) a ≡ true
unfolding first_is
avp-own a xs = same-itself a

module _ (before : List Avp) (a : Avp) where
  split : (xs : List Avp) → having a.name (before ++ (a ∷ xs)) ≡ having a.name before ++ (a ∷ having a.name xs)
  split xs = having-append a.name before (a ∷ xs) ∙ ap (λ (l : List Avp). having a.name before ++ l) (having-own a xs)

  counted : (xs : List Avp) → length (having a.name (before ++ (a ∷ xs))) ≡ length (having a.name before) + length (a ∷ having a.name xs)
  counted xs = ap length (split xs) ∙ length-append (having a.name before) (a ∷ having a.name xs)

  pub there : (xs : List Avp) → present a.name (before ++ (a ∷ xs)) ≡ true
  unfolding present
  there xs =
      let l : length (having a.name (before ++ (a ∷ xs))) ≡ length (having a.name before) + length (a ∷ having a.name xs) = counted xs in
      rw (ne_eqb (length (having a.name (before ++ (a ∷ xs)))) 0 (λ z. omega (arith, l, z)))

  -- behind the same AVPs the same one is met by its like, whatever follows in either
  module _ (xs ys : List Avp) where
    met-alike : met (before ++ (a ∷ xs)) (before ++ (a ∷ ys)) (a ∷ ys) a ≡ true
    unfolding met
    met-alike =
        let n : Name = a.name in
        let h : List Avp = having n before in
        let t : List Avp = a ∷ having n ys in
        let l : length (having n (before ++ (a ∷ ys))) ≡ length h + length t = counted ys in
        let r : length (having n (a ∷ ys)) ≡ length t = ap length (having-own a ys) in
        let k : length (having n (before ++ (a ∷ ys))) - length (having n (a ∷ ys)) ≡ length h = omega (arith, l, r) in
        ap (λ (i : ℕ). first_is (drop i (having n (before ++ (a ∷ xs)))) a) k
        ∙ ap (λ (s : List Avp). first_is (drop (length h) s) a) (split xs)
        ∙ ap (λ (s : List Avp). first_is s a) (drop-append_seam h (a ∷ having n xs))
        ∙ avp-own a (having n xs)

    pub fits-alike : fits (before ++ (a ∷ xs)) (before ++ (a ∷ ys)) (a ∷ ys) a ≡ true
    unfolding fits pick
    fits-alike = by-test (same_name failed_avp a.name) (λ e. rw e) (λ e. rw (e, there xs, met-alike))

none-misplaced : (rest before whole : List Avp) (at : ℕ) → whole ≡ before ++ rest → misplaced_from whole whole at rest ≡ 0
unfolding misplaced_from pick
none-misplaced [] before whole at e = refl
none-misplaced (a ∷ xs) before whole at e =
    let f : fits whole whole (a ∷ xs) a ≡ true = rw e (fits-alike before a xs xs) in
    let on : whole ≡ (before ++ (a ∷ [])) ++ xs = e ∙ sym (append_snoc before a xs) in
    rw f (none-misplaced xs (before ++ (a ∷ [])) whole (at + length a.bytes) on)

starts-own : (xs : List Avp) → starts_like xs xs ≡ true
unfolding starts_like starts_with
starts-own [] = refl
starts-own (a ∷ xs) = by-test (same_name session_id a.name) (λ e. rw e) (λ e. rw e)

pub misplaced-own : (xs : List Avp) → misplaced xs xs ≡ 0
unfolding misplaced pick
misplaced-own xs = rw (starts-own xs) (none-misplaced xs [] xs 20 refl)

pub complete-own : (xs : List Avp) → complete xs xs ≡ true
unfolding complete
complete-own xs =
    every_of (λ (a : Avp). leb (length (having a.name xs)) (length (having a.name xs)))
    (λ a. le-leb (length (having a.name xs)) (length (having a.name xs)) (omega arith)) xs

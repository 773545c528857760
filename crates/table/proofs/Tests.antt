-- The small tests that the functions of a row share, as the code makes them.
use mathlib.Core.Path.{◌≡◌, refl, sym, ap, ◌∙◌}
use mathlib.Core.Bool.{Bool, true, false, not, ◌&&◌, and_assoc, and-true}
use mathlib.Core.List.{List, [], ◌∷◌}
use Prim.Native.Nat.{ℕ, suc, ◌+◌, ◌-◌, ◌≤◌, ◌<◌}
use native.Mathlib.Omega.{arith}
use native.Mathlib.Numerals.{add-one}
use borrow.Author.Tests.{le-leb, lt-leb, eq-eqb, leb-true, ne_eqb}
use lib.Dec.{eqb, leb}
use lib.ListN.{length, get_or, take, drop, length-drop, drop_of_length-le}
use lib.Seq.{drop-cons, take_all}
use Rattle.octets.specs.Choice.{pick, within}
use Rattle.octets.specs.Lists.{every, distinct, up_to0}
use Rattle.octets.specs.Texts.{part, same, all_zero}
use Rattle.octets.proofs.Lists.{by-test, and_left, and_right, both, within-high}
use Rattle.table.specs.TheTable.{block_length}
use Rattle.table.proofs.Sound.{Headed, head_of, text-within}
use Rattle.table.specs.Soundness.{zero_behind, access_form, is_name, is_digit, head_form, second_form}

pub too-low : (low high n : ℕ) → n < low → false ≡ within low high n
unfolding within
too-low low high n h = rw (lt-leb low n h)

pub low-enough : (low high n : ℕ) → low ≤ n → leb n high ≡ within low high n
unfolding within
low-enough low high n h = rw (le-leb low n h)

pub behind : (room : List ℕ) (n : ℕ) → n ≤ length room → all_zero (take (length room - n) (drop n room)) ≡ zero_behind n room
unfolding zero_behind
behind room n h = rw (take_all (length room - n) (drop n room) (rw length-drop (omega arith)))

-- the last two bytes of a block
pub two_bytes : (b : List ℕ) (x y : ℕ) → length b ≡ block_length → same (part b 510 2) (x ∷ y ∷ []) ≡ eqb (get_or b 510 0) x && eqb (get_or b 511 0) y
unfolding same
two_bytes b x y h =
    rw (drop-cons b 510 0 (omega arith), drop-cons b 511 0 (omega arith))
    (ap (λ (t : Bool). eqb (get_or b 510 0) x && t) (and-true (eqb (get_or b 511 0) y)))

-- STEP BY STEP ALONG A LIST

module _ {A : Type 0} (d : A) where
  pub every-turn : (f : A → Bool) (xs : List A) (i : ℕ) → i < length xs → every f (drop i xs) ≡ f (get_or xs i d) && every f (drop (i + 1) xs)
  unfolding every
  every-turn f xs i h = rw (drop-cons xs i d h, add-one)

  pub every-on-true : (f : A → Bool) (xs : List A) (i : ℕ) → i < length xs → f (get_or xs i d) ≡ true → every f (drop (i + 1) xs) ≡ every f (drop i xs)
  every-on-true f xs i h e = sym (every-turn f xs i h ∙ rw e)

  pub every-out : (f : A → Bool) (xs : List A) (i : ℕ) → i < length xs → f (get_or xs i d) ≡ false → every f (drop i xs) ≡ false
  every-out f xs i h e = every-turn f xs i h ∙ rw e

  pub every-end : (f : A → Bool) (xs : List A) (i : ℕ) → length xs ≤ i → every f (drop i xs) ≡ true
  unfolding every
  every-end f xs i h = rw (drop_of_length-le xs h)

  -- the others behind element i differ from it
  pub distinct-turn : (e : A → A → Bool) (xs : List A) (i : ℕ) → i < length xs
      → distinct e (drop i xs) ≡ every (λ y. not (e (get_or xs i d) y)) (drop (i + 1) xs) && distinct e (drop (i + 1) xs)
  unfolding distinct
  distinct-turn e xs i h = rw (drop-cons xs i d h, add-one)

  pub distinct-end : (e : A → A → Bool) (xs : List A) (i : ℕ) → length xs ≤ i → distinct e (drop i xs) ≡ true
  unfolding distinct
  distinct-end e xs i h = rw (drop_of_length-le xs h)

-- WHAT A CALL SAID

-- a test that did not pass, and one that did
pub fails : {x y : Bool} → x ≡ y → x ≡ false → y ≡ false
fails e n = sym e ∙ n

pub passes_on : {x y : Bool} → x ≡ y → x ≡ true → y ≡ true
passes_on e n = sym e ∙ n

-- where one of the first two tests fails, the third does not matter
pub both-fail : (a b c : Bool) → a && b ≡ false → a && (b && c) ≡ false
both-fail true b c e = rw e
both-fail false b c e = refl

-- BLOCK 0

pub name-is : (b : List ℕ) (n : ℕ) → length b ≡ block_length → is_name (part b 2 n) ≡ within 1 15 n && every is_digit (part b 2 n)
unfolding is_name
name-is b n h = rw (text-within b 2 n 1 15 (omega arith))

-- the order line up to its first zero
pub line-stop : (l : List ℕ) (i : ℕ) → i < length l → get_or l i 0 ≡ 0 → length (up_to0 (drop i l)) ≡ 0
unfolding up_to0 pick
line-stop l i h e = rw (drop-cons l i 0 h, eq-eqb (get_or l i 0) 0 e)

pub line-more : (l : List ℕ) (i : ℕ) → i < length l → (get_or l i 0 ≡ 0 → ⊥) → length (up_to0 (drop i l)) ≡ suc (length (up_to0 (drop (i + 1) l)))
unfolding up_to0 pick
line-more l i h e = rw (drop-cons l i 0 h, ne_eqb (get_or l i 0) 0 e, add-one)

pub line-over : (l : List ℕ) (i : ℕ) → length l ≤ i → length (up_to0 (drop i l)) ≡ 0
unfolding up_to0
line-over l i h = rw (drop_of_length-le l h)

-- block 0 has not its form, if what the form would show is refuted
pub not-head : (b : List ℕ) → (Headed b → is_name (part b 2 (get_or b 1 0)) && zero_behind (get_or b 1 0) (part b 2 15) ≡ true → get_or b 18 0 ≤ 4 → ⊥) → false ≡ head_form b
not-head b h =
    by-test (head_form b)
    (λ e. let w : Headed b × (is_name (part b 2 (get_or b 1 0)) ≡ true) × (get_or b 18 0 ≤ 4) = head_of b e in
    absurd (h w.0 (both w.1 w.0.name-end) w.2))
    (λ e. sym e)

pub clash : {x : Bool} → x ≡ true → x ≡ false → ⊥
clash p q = let z : ◌≡◌ {A = ℕ} 0 1 = cc in omega arith

pub behind-said : (room : List ℕ) (n m : ℕ) {x : Bool} → n ≡ m → x ≡ zero_behind n room → x ≡ zero_behind m room
behind-said room n m e w = w ∙ ap (λ (k : ℕ). zero_behind k room) e

pub rest-zero : (s : List ℕ) (a b : ℕ) → a ≤ length s → a ≡ b → all_zero (take (length s - a) (drop a s)) ≡ all_zero (drop b s)
rest-zero s a b h e = rw (take_all (length s - a) (drop a s) (rw length-drop (omega arith)), e)

-- A PLACE IN USE

pub access-parts : (b : List ℕ) → access_form b
    ≡ (eqb (get_or b 0 0) 2 && (within 1 128 (get_or b 2 0) && (within 1 128 (get_or b 3 0) && leb (get_or b 5 0) 128)))
    && (leb (get_or b 4 0) 1 && (all_zero (part b 6 2)
    && (zero_behind (get_or b 2 0) (part b 8 128) && (zero_behind (get_or b 3 0) (part b 136 128) && (zero_behind (get_or b 5 0) (part b 264 128) && all_zero (part b 392 118))))))
unfolding access_form
access-parts b = simp and_assoc

pub lengths-fit : (b : List ℕ) → eqb (get_or b 0 0) 2 && (within 1 128 (get_or b 2 0) && (within 1 128 (get_or b 3 0) && leb (get_or b 5 0) 128)) ≡ true
    → (get_or b 2 0 ≤ 128) × (get_or b 3 0 ≤ 128) × (get_or b 5 0 ≤ 128)
lengths-fit b h =
    let h1 = and_right (eqb (get_or b 0 0) 2) _ h in
    let h2 = and_right (within 1 128 (get_or b 2 0)) _ h1 in (
      within-high 1 128 _ (and_left (within 1 128 (get_or b 2 0)) _ h1),
      within-high 1 128 _ (and_left (within 1 128 (get_or b 3 0)) _ h2),
      leb-true (get_or b 5 0) 128 (and_right (within 1 128 (get_or b 3 0)) _ h2),
    )

-- its second block, by the code's two functions
pub second_parts : (b : List ℕ) → second_form b
    ≡ (eqb (get_or b 0 0) 3 && (leb (get_or b 1 0) 128 && (leb (get_or b 3 0) 128 && leb (get_or b 4 0) 128)))
    && (eqb (get_or b 2 0) 0 && (all_zero (part b 5 3)
    && (zero_behind (get_or b 1 0) (part b 8 128) && (zero_behind (get_or b 3 0) (part b 136 128) && (zero_behind (get_or b 4 0) (part b 264 128) && all_zero (part b 392 118))))))
unfolding second_form
second_parts b = simp and_assoc

pub second-lengths : (b : List ℕ) → eqb (get_or b 0 0) 3 && (leb (get_or b 1 0) 128 && (leb (get_or b 3 0) 128 && leb (get_or b 4 0) 128)) ≡ true
    → (get_or b 1 0 ≤ 128) × (get_or b 3 0 ≤ 128) × (get_or b 4 0 ≤ 128)
second-lengths b h =
    let h1 = and_right (eqb (get_or b 0 0) 3) _ h in
    let h2 = and_right (leb (get_or b 1 0) 128) _ h1 in (
      leb-true (get_or b 1 0) 128 (and_left (leb (get_or b 1 0) 128) _ h1),
      leb-true (get_or b 3 0) 128 (and_left (leb (get_or b 3 0) 128) _ h2),
      leb-true (get_or b 4 0) 128 (and_right (leb (get_or b 3 0) 128) _ h2),
    )

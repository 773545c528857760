-- What the functions cite: tests in order, texts compared, and one law for each way out.
use mathlib.Core.Path.{◌≡◌, refl, ap, ◌∙◌}
use mathlib.Core.Bool.{Bool, true, false, ◌&&◌}
use mathlib.Core.List.{List, [], ◌∷◌}
use Prim.Native.Nat.{ℕ, zero, suc, ◌+◌, ◌-◌, ◌*◌, ◌≤◌, ◌<◌}
use native.Mathlib.Numerals.{add-one}
use native.Mathlib.Omega.{arith}
use borrow.Author.Tests.{le-leb, lt-leb, eq-eqb, ne_eqb}
use lib.Dec.{eqb, leb, ltb}
use lib.ListN.{length, take, drop, get_or, length-drop, drop_of_length-le}
use lib.Seq.{drop-cons, length-take-le, take_all}
use Rattle.octets.specs.Choice.{pick}
use Rattle.octets.specs.Numbers.{net32}
use Rattle.octets.specs.Texts.{part, same}
use Rattle.octets.proofs.Lists.{by-test}
use Rattle.octets.proofs.Texts.{length_part}
use Rattle.replay_script.specs.TheScript.{as_filled, unlike}
use Rattle.replay_verdict.specs.declared.Got.{Got}
use Rattle.replay_verdict.specs.Verdicts.{answer_end, answer_numbers, as_expected, changes_from, cut_numbers, notice_end, numbers_at, results_at, room_as, stands_at, table_as, text_at, text_end}

-- TESTS

-- two tests, each with what it says
pub two : {x a b p q : Bool} → x ≡ a && b → a ≡ p → b ≡ q → x ≡ p && q
two e f g = cc

pub numbers : {x : Bool} {n m g h : ℕ} → x ≡ eqb n g → n ≡ m → g ≡ h → x ≡ eqb m h
numbers e f g = cc

-- TEXTS

-- the first difference stands before the end exactly if the texts differ
unlike-differ : (a b : List ℕ) → unlike a b < length a → same a b ≡ false
unfolding unlike same pick
unlike-differ [] b h = absurd (omega arith)
unlike-differ (x ∷ a) [] h = refl
unlike-differ (x ∷ a) (y ∷ b) h =
    by-test (eqb x y)
    (λ e. let later : suc (unlike a b) < suc (length a) = rw e at h in rw e (unlike-differ a b (omega arith)))
    (λ e. rw e)

unlike-same : (a b : List ℕ) → length a ≡ length b → length a ≤ unlike a b → same a b ≡ true
unfolding unlike same pick
unlike-same [] [] l h = refl
unlike-same [] (y ∷ b) l h = absurd (omega arith)
unlike-same (x ∷ a) [] l h = absurd (omega arith)
unlike-same (x ∷ a) (y ∷ b) l h =
    by-test (eqb x y)
    (λ e. let later : suc (length a) ≤ suc (unlike a b) = rw e at h in rw e (unlike-same a b (omega arith) (omega arith)))
    (λ e. let none : suc (length a) ≤ 0 = rw e at h in absurd (omega arith))

pub after : (r : List ℕ) (a : ℕ) → a + 4 ≤ text_end r a
unfolding text_end pick
after r a = by-test (ltb (length r) (a + 4)) (λ e. rw e (omega arith)) (λ e. rw e (omega arith))

-- the text that is lent from b to e
pub text-lent : (r : List ℕ) (a b e : ℕ) → b ≡ a + 4 → e ≡ text_end r a → take (e - b) (drop b r) ≡ text_at r a
unfolding text_at
text-lent r a b e p q = rw (p, q)

-- what is lent from b to the end
pub rest-lent : (r : List ℕ) (a b : ℕ) → b ≡ a → take (length r - b) (drop b r) ≡ drop a r
rest-lent r a b e = ap (λ (k : ℕ). take (length r - k) (drop k r)) e ∙ take_all (length r - a) (drop a r) (simp length-drop (omega arith))

-- A ROOM

pub room-short : (seed : ℕ) (room text : List ℕ) → length room < length text → room_as seed room text ≡ false
unfolding room_as
room-short seed room text h = rw (lt-leb (length text) (length room) h)

pub room-differs : (seed : ℕ) (room text : List ℕ) (k i : ℕ) → k ≡ length text → length text ≤ length room
    → i ≡ unlike (take k room) text → i < length text → room_as seed room text ≡ false
unfolding room_as
room-differs seed room text k i ek h e l =
    let size : length (take (length text) room) ≡ length text = length-take-le (length text) room h in
    let there : i ≡ unlike (take (length text) room) text = rw ek at e in
    rw (le-leb (length text) (length room) h, unlike-differ (take (length text) room) text (omega arith))

pub room-rest : (seed : ℕ) (room text : List ℕ) (k i : ℕ) → k ≡ length text → length text ≤ length room
    → i ≡ unlike (take k room) text → length text ≤ i → room_as seed room text ≡ as_filled seed (length text) (drop (length text) room)
unfolding room_as
room-rest seed room text k i ek h e l =
    let size : length (take (length text) room) ≡ length text = length-take-le (length text) room h in
    let there : i ≡ unlike (take (length text) room) text = rw ek at e in
    rw (le-leb (length text) (length room) h, unlike-same (take (length text) room) text size (omega arith))

-- A CHANGE

pub change-short : (table : List ℕ) (a : ℕ) (text : List ℕ) → length table < a + length text → stands_at table a text ≡ false
unfolding stands_at
change-short table a text h = rw (lt-leb (a + length text) (length table) h)

pub change-differs : (table : List ℕ) (a : ℕ) (text : List ℕ) (k i : ℕ) → k ≡ length text → a + length text ≤ length table
    → i ≡ unlike (take k (drop a table)) text → i < length text → stands_at table a text ≡ false
unfolding stands_at
change-differs table a text k i ek h e l =
    let size : length (part table a (length text)) ≡ length text = length_part table a (length text) h in
    let there : i ≡ unlike (part table a (length text)) text = rw ek at e in
    rw (le-leb (a + length text) (length table) h, unlike-differ (part table a (length text)) text (omega arith))

pub change-stands : (table : List ℕ) (a : ℕ) (text : List ℕ) (k i : ℕ) → k ≡ length text → a + length text ≤ length table
    → i ≡ unlike (take k (drop a table)) text → length text ≤ i → stands_at table a text ≡ true
unfolding stands_at
change-stands table a text k i ek h e l =
    let size : length (part table a (length text)) ≡ length text = length_part table a (length text) h in
    let there : i ≡ unlike (part table a (length text)) text = rw ek at e in
    rw (le-leb (a + length text) (length table) h, unlike-same (part table a (length text)) text size (omega arith))

-- THE CHANGES

-- one change more
changes-one : (n : ℕ) (table s : List ℕ) (p : ℕ) → 0 < n
    → changes_from n table s p
    ≡ leb (text_end s (p + 4)) (length s) && (stands_at table (net32 s p) (text_at s (p + 4)) && changes_from (n - 1) table s (text_end s (p + 4)))
unfolding changes_from
changes-one zero table s p h = absurd (omega arith)
changes-one (suc n) table s p h = let e : suc n - 1 ≡ n = omega arith in rw e

-- it is cut off, it does not stand in the table, it does; and the end
pub changes-short : (n : ℕ) (table s : List ℕ) (p : ℕ) → 0 < n → length s < text_end s (p + 4) → changes_from n table s p ≡ false
changes-short n table s p h l =
    changes-one n table s p h ∙ rw (lt-leb (text_end s (p + 4)) (length s) l)

pub changes-other : (n : ℕ) (table s : List ℕ) (p : ℕ) → 0 < n → text_end s (p + 4) ≤ length s
    → stands_at table (net32 s p) (text_at s (p + 4)) ≡ false → changes_from n table s p ≡ false
changes-other n table s p h l e = changes-one n table s p h ∙ rw (le-leb (text_end s (p + 4)) (length s) l, e)

pub changes-turn : (n : ℕ) (table s : List ℕ) (p : ℕ) → 0 < n → text_end s (p + 4) ≤ length s
    → stands_at table (net32 s p) (text_at s (p + 4)) ≡ true → changes_from n table s p ≡ changes_from (n - 1) table s (text_end s (p + 4))
changes-turn n table s p h l e = changes-one n table s p h ∙ rw (le-leb (text_end s (p + 4)) (length s) l, e)

pub changes-end : (n : ℕ) (table s : List ℕ) (p : ℕ) → n ≡ 0 → changes_from n table s p ≡ eqb p (length s)
unfolding changes_from
changes-end n table s p e = rw e

-- the change that is lent
pub change-lent : (table s : List ℕ) (n p b e : ℕ) → n ≡ net32 s p → b ≡ p + 8 → e ≡ text_end s (p + 4)
    → stands_at table n (take (e - b) (drop b s)) ≡ stands_at table (net32 s p) (text_at s (p + 4))
change-lent table s n p b e en eb ee =
    let there : b ≡ p + 4 + 4 = omega arith in
    rw (en, text-lent s (p + 4) b e there ee)

-- the changes that are lent, and the digests
pub changes-lent : (n m k j : ℕ) (table s : List ℕ) → n ≡ m → k ≡ j → changes_from n table (take k s) 0 ≡ changes_from m table (take j s) 0
changes-lent n m k j table s e f = rw (e, f)

-- THE WHOLE

pub notice-ends : (r : List ℕ) (at e f : ℕ) → e ≡ text_end r (at + 32) → f ≡ text_end r e → f ≡ notice_end r at
unfolding notice_end answer_end
notice-ends r at e f p q = q ∙ ap (text_end r) p

-- both texts are behind the numbers
pub behind : (r : List ℕ) (at : ℕ) → (at + 36 ≤ answer_end r at) × (answer_end r at + 4 ≤ notice_end r at)
unfolding notice_end answer_end
behind r at = let first : at + 32 + 4 ≤ text_end r (at + 32) = after r (at + 32) in (omega arith, after r (text_end r (at + 32)))

module _ (r : List ℕ) (at : ℕ) (g : Got) (table answer : List ℕ) (answer_seed : ℕ) (notice : List ℕ) (notice_seed : ℕ) where
  pub no-form : length r < notice_end r at + 14 → as_expected r at g table answer answer_seed notice notice_seed ≡ false
  unfolding as_expected
  no-form h = rw (lt-leb (notice_end r at + 14) (length r) h)

  pub in-form : notice_end r at + 14 ≤ length r
      → as_expected r at g table answer answer_seed notice notice_seed
      ≡ (answer_numbers r at g && cut_numbers r (at + 16) g)
      && ((room_as answer_seed answer (text_at r (at + 32)) && room_as notice_seed notice (text_at r (answer_end r at)))
      && table_as table (drop (notice_end r at) r))
  unfolding as_expected
  in-form h = rw (le-leb (notice_end r at + 14) (length r) h)

-- THE RESULTS OF A BURST

-- one number more, one that is another, and the end
pub number_same : (r : List ℕ) (a : ℕ) (s : List ℕ) (k : ℕ) → k < length s → net32 r a ≡ get_or s k 0
    → numbers_at r (a + 4) (drop (k + 1) s) ≡ numbers_at r a (drop k s)
unfolding numbers_at
number_same r a s k h e = rw (drop-cons s k 0 h, eq-eqb (net32 r a) (get_or s k 0) e, add-one)

pub number-other : (r : List ℕ) (a : ℕ) (s : List ℕ) (k : ℕ) → k < length s → (net32 r a ≡ get_or s k 0 → ⊥)
    → numbers_at r a (drop k s) ≡ false
unfolding numbers_at
number-other r a s k h e = rw (drop-cons s k 0 h, ne_eqb (net32 r a) (get_or s k 0) e)

pub numbers-end : (r : List ℕ) (a : ℕ) (s : List ℕ) (k : ℕ) → length s ≤ k → numbers_at r a (drop k s) ≡ true
unfolding numbers_at
numbers-end r a s k h = rw (drop_of_length-le s h)

-- where the first number stands, and the next
pub numbers-start : (r : List ℕ) (a : ℕ) (s : List ℕ) → numbers_at r (a + 4 * 0) (drop 0 s) ≡ numbers_at r a s
numbers-start r a s = let e : a + 4 * 0 ≡ a = omega arith in rw e

pub numbers-next : (r : List ℕ) (a : ℕ) (s : List ℕ) (k : ℕ) → numbers_at r (a + 4 * (k + 1)) (drop (k + 1) s) ≡ numbers_at r (a + 4 * k + 4) (drop (k + 1) s)
numbers-next r a s k = let e : a + 4 * (k + 1) ≡ a + 4 * k + 4 = omega arith in rw e

-- one place more, one that is another, and the end
pub result-same : (r : List ℕ) (a : ℕ) (s : List (List ℕ)) (i : ℕ) → i < length s → numbers_at r a (get_or s i []) ≡ true
    → results_at r (a + 32) (drop (i + 1) s) ≡ results_at r a (drop i s)
unfolding results_at
result-same r a s i h e = rw (drop-cons s i [] h, e, add-one)

pub result-other : (r : List ℕ) (a : ℕ) (s : List (List ℕ)) (i : ℕ) → i < length s → numbers_at r a (get_or s i []) ≡ false
    → results_at r a (drop i s) ≡ false
unfolding results_at
result-other r a s i h e = rw (drop-cons s i [] h, e)

pub results_end : (r : List ℕ) (a : ℕ) (s : List (List ℕ)) (i : ℕ) → length s ≤ i → results_at r a (drop i s) ≡ true
unfolding results_at
results_end r a s i h = rw (drop_of_length-le s h)

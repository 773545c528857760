-- A room that is written piece by piece, from its first byte on.
use mathlib.Core.Path.{◌≡◌, refl, sym, ap, ◌∙◌}
use mathlib.Core.Bool.{Bool, true}
use mathlib.Core.List.{List, [], ◌∷◌, ◌++◌, map, append_assoc, append-nil}
use Prim.Native.Nat.{ℕ, zero, suc, ◌+◌, ◌-◌, ◌*◌, ◌≤◌}
use native.Mathlib.Nat.{mul-zero}
use native.Mathlib.Omega.{arith}
use borrow.Author.Tests.{eq-eqb, eqb-true}
use lib.Dec.{eqb}
use lib.ListN.{length, take, drop, length-append, length-drop}
use lib.Seq.{drop_at, drop-drop, length-take-le, take_all, take_at}
use Rattle.octets.specs.Lists.{counted, every}
use Rattle.octets.specs.Texts.{part, pieces, put}
use Rattle.octets.proofs.Lists.{and_left, and_right, both}
use Rattle.octets.proofs.Pieces.{next-begins, one_more, take_past}
use Rattle.moving.specs.Moving.{joined_rows}

-- the first n pieces, one behind another
unfoldable pub built : (ℕ → List ℕ) → ℕ → List ℕ
built f zero = []
built f (suc n) = built f n ++ f n

pub built-none : (f : ℕ → List ℕ) → [] ≡ built f 0
unfolding built
built-none f = refl

same-built : (f g : ℕ → List ℕ) → ((i : ℕ) → f i ≡ g i) → (n : ℕ) → built f n ≡ built g n
unfolding built
same-built f g h zero = refl
same-built f g h (suc n) = rw (same-built f g h n, h n)

first-built : (f : ℕ → List ℕ) (n : ℕ) → built f (suc n) ≡ f 0 ++ built (λ (i : ℕ). f (suc i)) n
unfolding built
first-built f zero = sym (append-nil (f 0))
first-built f (suc n) = ap (λ (t : List ℕ). t ++ f (suc n)) (first-built f n) ∙ append_assoc (f 0) (built (λ (i : ℕ). f (suc i)) n) (f (suc n))

-- a piece for each of a list cut into pieces, and for each number
pub built-pieces : (g : List ℕ → List ℕ) (w n : ℕ) (t : List ℕ) → built (λ (i : ℕ). g (part t (w * i) w)) n ≡ joined_rows (map g (pieces w n t))
unfolding built joined_rows pieces
built-pieces g w zero t = refl
built-pieces g w (suc n) t =
    let shift : (i : ℕ) → g (part t (w * suc i) w) ≡ g (part (drop w t) (w * i) w) = λ i. rw (one_more w i, drop-drop) in
    let here : g (part t (w * 0) w) ≡ g (take w t) = rw mul-zero in
    let rest : built (λ (i : ℕ). g (part t (w * suc i) w)) n ≡ joined_rows (map g (pieces w n (drop w t))) = same-built _ _ shift n ∙ built-pieces g w n (drop w t) in
    first-built (λ (i : ℕ). g (part t (w * i) w)) n ∙ (λ i. here i ++ rest i)

pub built-counted : (g : ℕ → List ℕ) (b n : ℕ) → built (λ (i : ℕ). g (i + b)) n ≡ joined_rows (map g (counted b n))
unfolding built joined_rows counted
built-counted g b zero = refl
built-counted g b (suc n) =
    let shift : (i : ℕ) → g (suc i + b) ≡ g (i + suc b) = λ i. ap g (omega arith) in
    let here : g (0 + b) ≡ g b = ap g (omega arith) in
    let rest : built (λ (i : ℕ). g (suc i + b)) n ≡ joined_rows (map g (counted (suc b) n)) = same-built _ _ shift n ∙ built-counted g (suc b) n in
    first-built (λ (i : ℕ). g (i + b)) n ∙ (λ i. here i ++ rest i)

-- ONE PIECE MORE, of w bytes

put-take : (room : List ℕ) (a : ℕ) (s : List ℕ) (n : ℕ) → length s ≡ n → a + n ≤ length room → take (a + n) (put room a s) ≡ take a room ++ s
unfolding put
put-take room a s n e h =
    take_past a n (take a room) (s ++ drop (a + length s) room) (length-take-le a room (omega arith)) ∙ ap (λ (t : List ℕ). take a room ++ t) (take_at s (drop (a + length s) room) n e)

pub built-turn : (f : ℕ → List ℕ) (w i : ℕ) (room s : List ℕ) → take (w * i) room ≡ built f i → s ≡ f i → length s ≡ w → w * i + w ≤ length room
    → take (w * (i + 1)) (put room (w * i) s) ≡ built f (i + 1)
unfolding built
built-turn f w i room s p q l h =
    let n : i + 1 ≡ suc i = omega arith in
    ap (λ (k : ℕ). take k (put room (w * i) s)) (next-begins w i)
    ∙ put-take room (w * i) s w l h
    ∙ (λ j. p j ++ q j)
    ∙ ap (built f) (sym n)

-- a piece that was lent comes back as s
pub back-built : (f : ℕ → List ℕ) (w i e : ℕ) (room s : List ℕ) → e ≡ w * i + w → take (w * i) room ≡ built f i → s ≡ f i → length s ≡ w → w * i + w ≤ length room
    → take (w * (i + 1)) (take (w * i) room ++ (s ++ drop (e - w * i) (drop (w * i) room))) ≡ built f (i + 1)
unfolding put
back-built f w i e room s x p q l h =
    let k : w * i + (e - w * i) ≡ w * i + length s = omega arith in
    ap (λ (t : List ℕ). take (w * (i + 1)) (take (w * i) room ++ (s ++ t))) (drop-drop (e - w * i) (w * i) room ∙ ap (λ (j : ℕ). drop j room) k)
    ∙ built-turn f w i room s p q l h

pub built-all : (f : ℕ → List ℕ) (w n i : ℕ) (room : List ℕ) → length room ≡ w * n → i ≡ n → take (w * i) room ≡ built f i → room ≡ built f n
built-all f w n i room h e p =
    let q : take (w * i) room ≡ room = take_all (w * i) room (omega (arith, ap (λ (j : ℕ). w * j) e)) in
    sym q ∙ p ∙ ap (built f) e

-- A LIST OF PIECES OF ONE WIDTH, joined and cut again

unfoldable pub wide : (w : ℕ) → List ℕ → Bool
wide w r = eqb (length r) w

pub each-wide : (w n : ℕ) (t : List ℕ) → length t ≡ w * n → every (wide w) (pieces w n t) ≡ true
unfolding every pieces wide
each-wide w zero t h = refl
each-wide w (suc n) t h =
    let l : length (take w t) ≡ w = length-take-le w t (omega (arith, one_more w n)) in
    let r : length (drop w t) ≡ w * n = length-drop w t ∙ omega (arith, one_more w n) in
    both (eq-eqb (length (take w t)) w l) (each-wide w n (drop w t) r)

pub length-joined : (w : ℕ) (rs : List (List ℕ)) → every (wide w) rs ≡ true → length (joined_rows rs) ≡ w * length rs
unfolding every joined_rows wide
length-joined w [] h = sym (mul-zero w)
length-joined w (r ∷ rs) h =
    let l : length r ≡ w = eqb-true (length r) w (and_left (eqb (length r) w) _ h) in
    omega (arith, length-append r (joined_rows rs), l, length-joined w rs (and_right (eqb (length r) w) _ h), one_more w (length rs))

pub cut-joined : (w : ℕ) (rs : List (List ℕ)) → every (wide w) rs ≡ true → pieces w (length rs) (joined_rows rs) ≡ rs
unfolding every joined_rows pieces wide
cut-joined w [] h = refl
cut-joined w (r ∷ rs) h =
    let l : length r ≡ w = eqb-true (length r) w (and_left (eqb (length r) w) _ h) in
    rw (take_at r (joined_rows rs) w l, drop_at r (joined_rows rs) w l, cut-joined w rs (and_right (eqb (length r) w) _ h))

-- a part that was lent comes back with its length
pub back-length : (room : List ℕ) (a e : ℕ) (s : List ℕ) → a ≤ e → e ≤ length room → length s ≡ e - a
    → length (take a room ++ (s ++ drop (e - a) (drop a room))) ≡ length room
back-length room a e s h l p =
    rw (length-append, length-append, length-take-le a room (omega arith), length-drop (e - a) (drop a room), length-drop a room) (omega arith)

pub built-start : (f : ℕ → List ℕ) (w : ℕ) (room : List ℕ) → take (w * 0) room ≡ built f 0
unfolding built
built-start f w room = rw mul-zero

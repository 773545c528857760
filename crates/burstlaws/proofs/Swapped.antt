-- Two neighbours exchanged: another order of the same messages.
use mathlib.Core.Path.{◌≡◌, sym, ap, ◌∙◌}
use mathlib.Core.List.{List, [], ◌∷◌, ◌++◌, map}
use Prim.Native.Nat.{ℕ, suc, ◌+◌, ◌-◌, ◌<◌}
use native.Mathlib.Omega.{arith}
use borrow.Author.Tests.{eq-eqb, ne_eqb, eqb-true, eqb-false, leb-true, leb-false}
use lib.Dec.{eqb, leb}
use lib.ListN.{length, take, drop, length-append, length-drop}
use lib.Seq.{drop-append-add, drop-append-le, take-append-le}
use Rattle.octets.specs.Choice.{pick}
use Rattle.octets.proofs.Lists.{by-test}
use Rattle.table.specs.TheTable.{Account}
use Rattle.rules.specs.Calls.{Call}
use Rattle.order.specs.Demand3.{subscriber, subject}
use Rattle.burst.specs.TheBurst.{Burst, calls_of}
use Rattle.burstlaws.specs.AnyOrder.{kth, SentBy, NeighboursExchanged}

-- WHERE EACH GOES: the n-th and the next change places

swap : (n k : ℕ) → ℕ
swap n k = pick (eqb k n) (suc n) (pick (eqb k (suc n)) n k)

data Place (n k : ℕ) : Type 0 where
  early : k < n → swap n k ≡ k → Place n k
  first : k ≡ n → swap n k ≡ suc n → Place n k
  second : k ≡ suc n → swap n k ≡ n → Place n k
  late : suc n < k → swap n k ≡ k → Place n k

swap-first : (n k : ℕ) → k ≡ n → swap n k ≡ suc n
unfolding swap pick
swap-first n k e = rw (eq-eqb k n e)

swap-second : (n k : ℕ) → k ≡ suc n → swap n k ≡ n
unfolding swap pick
swap-second n k e = rw (ne_eqb k n (λ z. absurd (omega (arith, z, e))), eq-eqb k (suc n) e)

swap-other : (n k : ℕ) → (k ≡ n → ⊥) → (k ≡ suc n → ⊥) → swap n k ≡ k
unfolding swap pick
swap-other n k p q = rw (ne_eqb k n p, ne_eqb k (suc n) q)

placed : (n k : ℕ) → Place n k
placed n k =
    by-test (eqb k n)
    (λ e. first (eqb-true k n e) (swap-first n k (eqb-true k n e)))
    (λ e. by-test (eqb k (suc n))
    (λ d. second (eqb-true k (suc n) d) (swap-second n k (eqb-true k (suc n) d)))
    (λ d. let stays : swap n k ≡ k = swap-other n k (eqb-false k n e) (eqb-false k (suc n) d) in
    by-test (leb n k)
    (λ l. late (omega (arith, leb-true n k l, eqb-false k n e, eqb-false k (suc n) d)) stays)
    (λ l. early (leb-false n k l) stays)))

swap-back : (n k : ℕ) → Place n k → swap n (swap n k) ≡ k
swap-back n k (early h e) = ap (swap n) e ∙ e
swap-back n k (first h e) = swap-second n (swap n k) e ∙ sym h
swap-back n k (second h e) = swap-first n (swap n k) e ∙ sym h
swap-back n k (late h e) = ap (swap n) e ∙ e

swap-within : (n m k : ℕ) → Place n k → suc n < m → k < m → swap n k < m
swap-within n m k (early h e) l g = omega (arith, e, l, g)
swap-within n m k (first h e) l g = omega (arith, e, l, g)
swap-within n m k (second h e) l g = omega (arith, e, l, g)
swap-within n m k (late h e) l g = omega (arith, e, l, g)

-- the order of any two stays, but for these two
swap-order : (n j k : ℕ) → Place n j → Place n k → j < k → (j ≡ n → k ≡ suc n → ⊥) → swap n j < swap n k
swap-order n j k (early h e) (early i d) l apart = omega (arith, h, e, i, d, l)
swap-order n j k (early h e) (first i d) l apart = omega (arith, h, e, i, d, l)
swap-order n j k (early h e) (second i d) l apart = omega (arith, h, e, i, d, l)
swap-order n j k (early h e) (late i d) l apart = omega (arith, h, e, i, d, l)
swap-order n j k (first h e) (early i d) l apart = absurd (omega (arith, h, i, l))
swap-order n j k (first h e) (first i d) l apart = absurd (omega (arith, h, i, l))
swap-order n j k (first h e) (second i d) l apart = absurd (apart h i)
swap-order n j k (first h e) (late i d) l apart = omega (arith, h, e, i, d, l)
swap-order n j k (second h e) (early i d) l apart = absurd (omega (arith, h, i, l))
swap-order n j k (second h e) (first i d) l apart = absurd (omega (arith, h, i, l))
swap-order n j k (second h e) (second i d) l apart = absurd (omega (arith, h, i, l))
swap-order n j k (second h e) (late i d) l apart = omega (arith, h, e, i, d, l)
swap-order n j k (late h e) (early i d) l apart = absurd (omega (arith, h, i, l))
swap-order n j k (late h e) (first i d) l apart = absurd (omega (arith, h, i, l))
swap-order n j k (late h e) (second i d) l apart = absurd (omega (arith, h, i, l))
swap-order n j k (late h e) (late i d) l apart = omega (arith, h, e, i, d, l)

-- WHAT STANDS THERE

module _ {A : Type 0} where
  kth-front : (xs zs : List A) (k : ℕ) → k < length xs → kth (xs ++ zs) k ≡ kth xs k
  unfolding kth
  kth-front xs zs k h =
      ap (take 1) (drop-append-le k xs zs (omega (arith, h))) ∙ take-append-le 1 (drop k xs) zs (omega (arith, h, length-drop k xs))

  kth-behind : (xs zs : List A) (k i : ℕ) → k ≡ length xs + i → kth (xs ++ zs) k ≡ kth zs i
  unfolding kth
  kth-behind xs zs k i e = ap (λ (m : ℕ). take 1 (drop m (xs ++ zs))) e ∙ ap (take 1) (drop-append-add xs zs i)

  module _ (xs : List A) (c e : A) (ys : List A) where
    kth-first : (k : ℕ) → k ≡ length xs → kth (xs ++ (c ∷ e ∷ ys)) k ≡ c ∷ []
    unfolding kth
    kth-first k h = kth-behind xs (c ∷ e ∷ ys) k 0 (omega (arith, h))

    kth-second : (k : ℕ) → k ≡ suc (length xs) → kth (xs ++ (c ∷ e ∷ ys)) k ≡ e ∷ []
    unfolding kth
    kth-second k h = kth-behind xs (c ∷ e ∷ ys) k 1 (omega (arith, h))

    kth-late : (k : ℕ) → suc (length xs) < k → kth (xs ++ (c ∷ e ∷ ys)) k ≡ kth ys (k - suc (suc (length xs)))
    unfolding kth
    kth-late k h = kth-behind xs (c ∷ e ∷ ys) k (suc (suc (k - suc (suc (length xs))))) (omega (arith, h))

  kth-swapped : (xs : List A) (c e : A) (ys : List A) (k : ℕ) → Place (length xs) k
      → kth (xs ++ (c ∷ e ∷ ys)) k ≡ kth (xs ++ (e ∷ c ∷ ys)) (swap (length xs) k)
  kth-swapped xs c e ys k (early h s) = kth-front xs (c ∷ e ∷ ys) k h ∙ sym (kth-front xs (e ∷ c ∷ ys) k h) ∙ ap (kth (xs ++ (e ∷ c ∷ ys))) (sym s)
  kth-swapped xs c e ys k (first h s) = kth-first xs c e ys k h ∙ sym (kth-second xs e c ys (swap (length xs) k) s)
  kth-swapped xs c e ys k (second h s) = kth-second xs c e ys k h ∙ sym (kth-first xs e c ys (swap (length xs) k) s)
  kth-swapped xs c e ys k (late h s) = kth-late xs c e ys k h ∙ sym (kth-late xs e c ys k h) ∙ ap (kth (xs ++ (e ∷ c ∷ ys))) (sym s)

-- TWO BURSTS

long : (cs xs : List Call) (c e : Call) (ys : List Call) → cs ≡ xs ++ (c ∷ e ∷ ys) → length cs ≡ length xs + suc (suc (length ys))
long cs xs c e ys h = ap length h ∙ length-append xs (c ∷ e ∷ ys)

sent : (f : ℕ) (a : Account) (b : Burst) (k : ℕ) (c : Call) → kth (calls_of f b) k ≡ c ∷ [] → SentBy f a b k → subject f c ≡ subscriber a
sent f a b k c h s = let one : subject f c ∷ [] ≡ subscriber a ∷ [] = sym (ap (map (subject f)) h) ∙ s in cc

pub neighbours-exchanged : NeighboursExchanged
neighbours-exchanged f b d xs c e ys hb hd apart =
    let n : ℕ = length xs in
    let lb : length (calls_of f b) ≡ n + suc (suc (length ys)) = long (calls_of f b) xs c e ys hb in
    let ld : length (calls_of f d) ≡ n + suc (suc (length ys)) = long (calls_of f d) xs e c ys hd in
    record {
      to = swap n;
      from = swap n;
      to-within = λ k h. swap-within n (length (calls_of f d)) k (placed n k) (omega (arith, ld)) (omega (arith, h, lb, ld));
      from-within = λ l h. swap-within n (length (calls_of f b)) l (placed n l) (omega (arith, lb)) (omega (arith, h, lb, ld));
      there_and_back = λ k h. swap-back n k (placed n k);
      back-and-there = λ l h. swap-back n l (placed n l);
      same-message = λ k h. ap (λ (l : List Call). kth l k) hb ∙ kth-swapped xs c e ys k (placed n k) ∙ sym (ap (λ (l : List Call). kth l (swap n k)) hd);
      in_order = λ a j k l h sj sk. swap-order n j k (placed n j) (placed n k) l
          (λ p q. apart a
          (sent f a b j c (ap (λ (m : List Call). kth m j) hb ∙ kth-first xs c e ys j p) sj)
          (sent f a b k e (ap (λ (m : List Call). kth m k) hb ∙ kth-second xs c e ys k q) sk));
    }

-- How many of a list pass a test: one more, two lists joined, in another order; and the totals of a report that a list is counted into.
use mathlib.Core.Path.{◌≡◌, refl, sym, ap, ◌∙◌}
use mathlib.Core.Bool.{Bool, true, false, ◌&&◌}
use mathlib.Core.List.{List, [], ◌∷◌, ◌++◌, map, Permᴰ}
use mathlib.Core.Logic.{⊎_elim}
use Prim.Native.Nat.{ℕ, zero, suc, ◌+◌, ◌≤◌, ◌<◌}
use native.Mathlib.Nat.{eq-or-lt_of_le}
use native.Mathlib.Omega.{arith}
use borrow.Author.Tests.{eq-eqb, ne_eqb, ltb-true, lt-ltb}
use lib.Dec.{eqb, ltb}
use lib.ListN.{length}
use Rattle.octets.specs.Choice.{pick}
use Rattle.octets.specs.Lists.{every, keep, sum_of, counted}
use Rattle.octets.proofs.Lists.{by-test, and_left, and_right}
use Rattle.report.specs.TheReport.{Told, in_column, in_hour, total, hours, year, held, how_many, with, hour_right, plus}
use Rattle.report.proofs.Tables.{sum_same, sum-plus, total-tabled, is-tabled, same-tabled, year-tabled, length-tabled, held-if, year-held}

at_most_one : (b : Bool) → pick b 1 0 ≤ 1
unfolding pick
at_most_one true = omega arith
at_most_one false = omega arith

pub many-none : (p : Told → Bool) → how_many p [] ≡ 0
unfolding how_many keep
many-none p = refl

pub many-cons : (p : Told → Bool) (t : Told) (l : List Told) → how_many p (t ∷ l) ≡ pick (p t) 1 0 + how_many p l
unfolding how_many keep pick
many-cons p t l = by-test (p t) (λ e. rw e (omega arith)) (λ e. rw e (omega arith))

pub many-most : (p : Told → Bool) (l : List Told) → how_many p l ≤ length l
many-most p [] = omega (arith, many-none p)
many-most p (t ∷ l) = omega (arith, many-cons p t l, at_most_one (p t), many-most p l)

pub many-append : (p : Told → Bool) (l m : List Told) → how_many p (l ++ m) ≡ how_many p l + how_many p m
many-append p [] m = omega (arith, many-none p)
many-append p (t ∷ l) m = omega (arith, many-cons p t l, many-cons p t (l ++ m), many-append p l m)

-- IN ANOTHER ORDER

pub many-order : (p : Told → Bool) {l m : List Told} → Permᴰ l m → how_many p l ≡ how_many p m
many-order p Permᴰ.nil = refl
many-order p (Permᴰ.cons {a} {b} {l₁} {l₂} e d) =
    omega (arith, many-cons p a l₁, many-cons p b l₂, ap {B = ℕ} (λ (t : Told). pick (p t) 1 0) e, many-order p d)
many-order p (Permᴰ.swap {a} {b} {a'} {b'} {l} e f) =
    omega (
      arith,
      many-cons p a (b ∷ l),
      many-cons p b l,
      many-cons p a' (b' ∷ l),
      many-cons p b' l,
      ap {B = ℕ} (λ (t : Told). pick (p t) 1 0) e,
      ap {B = ℕ} (λ (t : Told). pick (p t) 1 0) f,
    )
many-order p (Permᴰ.trans c d) = many-order p c ∙ many-order p d

and-swap : (a b c : Bool) → a && (b && c) ≡ b && (a && c)
and-swap true b c = refl
and-swap false true c = refl
and-swap false false c = refl

pub every-order : (p : Told → Bool) {l m : List Told} → Permᴰ l m → every p l ≡ every p m
unfolding every
every-order p Permᴰ.nil = refl
every-order p (Permᴰ.cons {a} {b} {l₁} {l₂} e d) =
    let h : p a ≡ p b = ap p e in
    let t : every p l₁ ≡ every p l₂ = every-order p d in
    cc
every-order p (Permᴰ.swap {a} {b} {a'} {b'} {l} e f) =
    let g : p a ≡ p b' = ap p e in
    let h : p b ≡ p a' = ap p f in
    and-swap (p a) (p b) (every p l) ∙ rw (g, h)
every-order p (Permᴰ.trans c d) = every-order p c ∙ every-order p d

-- BY HOURS: where every hour is right, those of all hours are all

no_hit : (x : ℕ) (c : Bool) (a n : ℕ) → x < a → sum_of (map (λ h. pick (eqb x h && c) 1 0) (counted a n)) ≡ 0
unfolding sum_of counted pick
no_hit x c a zero q = refl
no_hit x c a (suc n) q = rw (ne_eqb x a (λ e. omega arith)) (omega (arith, no_hit x c (suc a) n (omega arith)))

one_hit : (x : ℕ) (c : Bool) (a n : ℕ) → a ≤ x → x < a + n → sum_of (map (λ h. pick (eqb x h && c) 1 0) (counted a n)) ≡ pick c 1 0
unfolding sum_of counted pick
one_hit x c a zero u v = absurd (omega arith)
one_hit x c a (suc n) u v =
    ⊎_elim (λ (e : a ≡ x). rw (eq-eqb x a (sym e)) (omega (arith, no_hit x c (suc a) n (omega arith))))
    (λ (e : a < x). rw (ne_eqb x a (λ s. omega arith)) (omega (arith, one_hit x c (suc a) n (omega arith) (omega arith)))) (eq-or-lt_of_le u)

pub sum-none : (l : List ℕ) → sum_of (map (λ h. 0) l) ≡ 0
unfolding sum_of
sum-none [] = refl
sum-none (x ∷ l) = omega (arith, sum-none l)

by-hours : (k : ℕ) (l : List Told) → every hour_right l ≡ true → sum_of (map (λ h. how_many (in_hour h k) l) hours) ≡ how_many (in_column k) l
unfolding every hour_right hours in_hour
by-hours k [] e =
    sum_same (λ h. how_many (in_hour h k) []) (λ h. 0) 0 24 (λ h u v. many-none (in_hour h k)) ∙ sum-none hours ∙ sym (many-none (in_column k))
by-hours k (t ∷ l) e =
    let right : t.hour < 24 = ltb-true _ _ (and_left (ltb t.hour 24) _ e) in
    let first : sum_of (map (λ h. pick (in_hour h k t) 1 0) hours) ≡ pick (in_column k t) 1 0 =
    one_hit t.hour (in_column k t) 0 24 (omega arith) (omega arith) in
    let rest : sum_of (map (λ h. how_many (in_hour h k) l) hours) ≡ how_many (in_column k) l = by-hours k l (and_right (ltb t.hour 24) _ e) in
    let apart : sum_of (map (λ h. how_many (in_hour h k) (t ∷ l)) hours)
    ≡ sum_of (map (λ h. pick (in_hour h k t) 1 0 + how_many (in_hour h k) l) hours) =
    sum_same (λ h. how_many (in_hour h k) (t ∷ l)) (λ h. pick (in_hour h k t) 1 0 + how_many (in_hour h k) l) 0 24
    (λ h u v. many-cons (in_hour h k) t l) in
    omega (
      arith,
      apart,
      sum-plus (λ h. pick (in_hour h k t) 1 0) (λ h. how_many (in_hour h k) l) hours,
      first,
      rest,
      many-cons (in_column k) t l,
    )

-- A REPORT WITH A LIST COUNTED INTO IT

pub total-with : (r : List ℕ) (l : List Told) (h k : ℕ) → h < 24 → k < 4 → total (with r l) h k ≡ total r h k + how_many (in_hour h k) l
unfolding with
total-with r l h k p q = total-tabled (λ hour j. total r hour j + how_many (in_hour hour j) l) h k p q

pub year-with : (r : List ℕ) (l : List Told) (k : ℕ) → k < 4 → every hour_right l ≡ true → year (with r l) k ≡ year r k + how_many (in_column k) l
unfolding with year
year-with r l k q e =
    year-tabled (λ hour j. total r hour j + how_many (in_hour hour j) l) k q
    ∙ sum-plus (λ h. total r h k) (λ h. how_many (in_hour h k) l) hours
    ∙ ap (λ (n : ℕ). sum_of (map (λ h. total r h k) hours) + n) (by-hours k l e)

pub length-with : (r : List ℕ) (l : List Told) → length (with r l) ≡ 96
unfolding with
length-with r l = length-tabled (λ hour k. total r hour k + how_many (in_hour hour k) l)

pub with_none : (r : List ℕ) → length r ≡ 96 → with r [] ≡ r
unfolding with
with_none r n =
    sym (is-tabled r (λ hour k. total r hour k + how_many (in_hour hour k) []) n (λ h k p q. omega (arith, many-none (in_hour h k))))

pub same-with : (r s : List ℕ) (l m : List Told)
    → ((h k : ℕ) → h < 24 → k < 4 → total r h k + how_many (in_hour h k) l ≡ total s h k + how_many (in_hour h k) m)
    → with r l ≡ with s m
unfolding with
same-with r s l m e =
    same-tabled (λ hour k. total r hour k + how_many (in_hour hour k) l) (λ hour k. total s hour k + how_many (in_hour hour k) m) e

pub with-with : (r : List ℕ) (l m : List Told) → with (with r l) m ≡ with r (l ++ m)
with-with r l m =
    same-with (with r l) r m (l ++ m) (λ h k p q. omega (arith, total-with r l h k p q, many-append (in_hour h k) l m))

pub with-order : (r : List ℕ) {l m : List Told} → Permᴰ l m → with r l ≡ with r m
with-order r {l} {m} d = same-with r r l m (λ h k p q. omega (arith, many-order (in_hour h k) d))

-- TWO REPORTS

pub total-plus : (r s : List ℕ) (h k : ℕ) → h < 24 → k < 4 → total (plus r s) h k ≡ total r h k + total s h k
unfolding plus
total-plus r s h k p q = total-tabled (λ hour j. total r hour j + total s hour j) h k p q

pub year-plus : (r s : List ℕ) (k : ℕ) → k < 4 → year (plus r s) k ≡ year r k + year s k
unfolding plus year
year-plus r s k q =
    year-tabled (λ hour j. total r hour j + total s hour j) k q ∙ sum-plus (λ h. total r h k) (λ h. total s h k) hours

pub length-plus : (r s : List ℕ) → length (plus r s) ≡ 96
unfolding plus
length-plus r s = length-tabled (λ hour k. total r hour k + total s hour k)

-- A LIST COUNTED ONE BY ONE

pub first-right : (t : Told) (l : List Told) → every hour_right (t ∷ l) ≡ true → t.hour < 24
unfolding every hour_right
first-right t l e = ltb-true t.hour 24 (and_left (ltb t.hour 24) _ e)

pub rest-right : (t : Told) (l : List Told) → every hour_right (t ∷ l) ≡ true → every hour_right l ≡ true
unfolding every
rest-right t l e = and_right (hour_right t) _ e

alone : (t : Told) → t.hour < 24 → every hour_right (t ∷ []) ≡ true
unfolding every hour_right
alone t h = rw (lt-ltb t.hour 24 h)

-- where 64 bits hold the whole list, they hold its first result
pub first-held : (r : List ℕ) (t : Told) (l : List Told) → every hour_right (t ∷ l) ≡ true → held (with r (t ∷ l)) ≡ true
    → held (with r (t ∷ [])) ≡ true
first-held r t l e h =
    held-if (with r (t ∷ []))
    (λ k q.
    omega (
      arith,
      year-with r (t ∷ l) k q e,
      year-held (with r (t ∷ l)) k h q,
      year-with r (t ∷ []) k q (alone t (first-right t l e)),
      many-cons (in_column k) t l,
      many-cons (in_column k) t [],
      many-none (in_column k),
    ))

-- A report that is written number by number: the first ones are those of the report that it will be, the rest those of the one that it was; and one
-- in which the totals of a result gain.
use mathlib.Core.Path.{◌≡◌, refl, sym, ap, ◌∙◌}
use mathlib.Core.Bool.{true, false}
use mathlib.Core.List.{List, [], ◌∷◌, ◌++◌}
use Prim.Native.Nat.{ℕ, suc, ◌+◌, ◌*◌, ◌-◌, ◌/◌, ◌%◌, ◌≤◌, ◌<◌}
use native.Mathlib.Nat.{add-zero}
use native.Mathlib.Numerals.{add-one}
use native.Mathlib.Omega.{arith}
use borrow.Author.Tests.{ne_eqb, eq-eqb, eqb-true, eqb-false, ltb-true, ltb-false}
use lib.Dec.{eqb, ltb}
use lib.ListN.{length, get_or, set, take, drop, length-append, length-drop, length-set, get_or-append}
use lib.Seq.{length-take-le, take-suc, drop-cons, append_snoc, set_at, get_or_at, ext_get_or, get_or-take, get_or-drop, get_or-append-add, get_or-set_same, get_or-set_other}
use Rattle.octets.specs.Choice.{pick}
use Rattle.octets.proofs.Lists.{by-test}
use Rattle.report.specs.TheReport.{Told, ended, in_hour, total, with, how_many, held, plus}
use Rattle.report.specs.Code.{adds, one_more}
use Rattle.report.proofs.Columns.{opening-counts, cut-counts, no-cut-counts, opening-else, ended-counts, ended-else, other-counts, other-else}
use Rattle.report.proofs.Tables.{total-held}
use Rattle.report.proofs.Counting.{total-with, many-cons, many-none, length-with, total-plus}

abbrev pub done : ℕ → List ℕ → List ℕ → List ℕ
done i w r = take i w ++ drop i r

module _ (w r : List ℕ) (n : length w ≡ length r) where
  pub length-done : (i : ℕ) → i ≤ length r → length (done i w r) ≡ length r
  length-done i h = simp (length-append, length-take-le i w (omega arith), length-drop) (omega arith)

  pub done-read : (i : ℕ) → i < length r → get_or (done i w r) i 0 ≡ get_or r i 0
  done-read i h = rw (drop-cons r i 0 h) (get_or_at (take i w) (get_or r i 0) (drop (suc i) r) 0 i (length-take-le i w (omega arith)))

  pub done-step : (i v : ℕ) → i < length r → v ≡ get_or w i 0 → set (done i w r) i v ≡ done (i + 1) w r
  done-step i v h e =
      let a : set (take i w ++ get_or r i 0 ∷ drop (suc i) r) i v ≡ take i w ++ v ∷ drop (suc i) r =
      set_at (take i w) (get_or r i 0) (drop (suc i) r) v i (length-take-le i w (omega arith)) in
      let b : take (suc i) w ≡ take i w ++ (get_or w i 0 ∷ []) = take-suc w i 0 (omega arith) in
      rw (drop-cons r i 0 h, add-one, b, ← e, append_snoc) a

  low : (i j : ℕ) → i ≤ length r → j < i → get_or (done i w r) j 0 ≡ get_or w j 0
  low i j h q =
      get_or-append (take i w) (drop i r) 0 j (omega (arith, length-take-le i w (omega arith))) ∙ get_or-take i w j 0 q

  high : (i j : ℕ) → i ≤ length r → i ≤ j → get_or (done i w r) j 0 ≡ get_or r j 0
  high i j h q =
      let t : length (take i w) ≡ i = length-take-le i w (omega arith) in
      let a : j ≡ length (take i w) + (j - i) = omega arith in
      let b : i + (j - i) ≡ j = omega arith in
      ap (λ (x : ℕ). get_or (done i w r) x 0) a
      ∙ get_or-append-add (take i w) (drop i r) (j - i) 0
      ∙ get_or-drop i r (j - i) 0
      ∙ ap (λ (x : ℕ). get_or r x 0) b

  -- where both are the same from i on
  pub done-last : (i : ℕ) → i ≤ length r → ((j : ℕ) → i ≤ j → j < length r → get_or w j 0 ≡ get_or r j 0) → done i w r ≡ w
  done-last i h e =
      ext_get_or 0 (done i w r) w (length-done i h ∙ sym n)
      (λ j q.
      let u : j < length r = omega (arith, length-done i h) in
      by-test (ltb j i) (λ s. low i j h (ltb-true j i s)) (λ s. high i j h (ltb-false j i s) ∙ sym (e j (ltb-false j i s) u)))

-- A cell of a report that 64 bits hold.
pub cell-held : (r : List ℕ) (j : ℕ) → held r ≡ true → j < 96 → get_or r j 0 < 18446744073709551616
cell-held r j e q =
    let s : j ≡ 4 * (j / 4) + j % 4 = omega arith in
    omega (arith, ap (λ (x : ℕ). get_or r x 0) s, total-held r (j / 4) (j % 4) e (omega arith) (omega arith))

-- ONE MORE in the i-th number: it alone changes

module _ (r : List ℕ) (i : ℕ) where
  pub more-length : length (one_more i r) ≡ length r
  unfolding one_more
  more-length = length-set r i (get_or r i 0 + 1)

  more_same : i < length r → get_or (one_more i r) i 0 ≡ get_or r i 0 + 1
  unfolding one_more
  more_same h = get_or-set_same r i (get_or r i 0 + 1) 0 h

  more-else : (j : ℕ) → (j ≡ i → ⊥) → get_or (one_more i r) j 0 ≡ get_or r j 0
  unfolding one_more
  more-else j h = get_or-set_other r i j (get_or r i 0 + 1) 0 h

-- ONE RESULT COUNTED: its own hour gains, every other stays

module _ (r : List ℕ) (t : Told) (right : t.hour < 24) where
  counts-one : (h k : ℕ) → how_many (in_hour h k) (t ∷ []) ≡ pick (in_hour h k t) 1 0
  counts-one h k = omega (arith, many-cons (in_hour h k) t [], many-none (in_hour h k))

  own : (k : ℕ) → pick (in_hour t.hour k t) 1 0 ≡ adds k t
  unfolding in_hour adds
  own k = rw (eq-eqb t.hour t.hour refl)

  not_own : (h k : ℕ) → (t.hour ≡ h → ⊥) → ◌≡◌ {A = ℕ} (pick (in_hour h k t) 1 0) 0
  unfolding in_hour pick
  not_own h k e = rw (ne_eqb t.hour h e)

  pub gains : (k : ℕ) → k < 4 → get_or (with r (t ∷ [])) (4 * t.hour + k) 0 ≡ get_or r (4 * t.hour + k) 0 + adds k t
  gains k q = omega (arith, total-with r (t ∷ []) t.hour k right q, counts-one t.hour k, own k)

  pub stays : (j : ℕ) → j < 96 → (t.hour ≡ j / 4 → ⊥) → get_or (with r (t ∷ [])) j 0 ≡ get_or r j 0
  stays j q e =
      let s : j ≡ 4 * (j / 4) + j % 4 = omega arith in
      let a : total (with r (t ∷ [])) (j / 4) (j % 4) ≡ total r (j / 4) (j % 4) =
      omega (arith, total-with r (t ∷ []) (j / 4) (j % 4) (omega arith) (omega arith), counts-one (j / 4) (j % 4), not_own (j / 4) (j % 4) e) in
      ap (λ (x : ℕ). get_or (with r (t ∷ [])) x 0) s ∙ a ∙ ap (λ (x : ℕ). get_or r x 0) (sym s)

  -- a report that has gained so is the one with the result
  gained : (s : List ℕ) → length s ≡ 96 → ((j : ℕ) → j < 96 → (t.hour ≡ j / 4 → ⊥) → get_or s j 0 ≡ get_or r j 0)
      → ((k : ℕ) → k < 4 → get_or s (4 * t.hour + k) 0 ≡ get_or r (4 * t.hour + k) 0 + adds k t) → s ≡ with r (t ∷ [])
  gained s m out inside =
      let w : List ℕ = with r (t ∷ []) in
      ext_get_or 0 s w (m ∙ sym (length-with r (t ∷ [])))
      (λ j q.
      by-test (eqb t.hour (j / 4))
      (λ e. let x : j ≡ 4 * t.hour + j % 4 = omega (arith, eqb-true t.hour (j / 4) e) in
      ap (λ (y : ℕ). get_or s y 0) x ∙ inside (j % 4) (omega arith) ∙ sym (gains (j % 4) (omega arith)) ∙ ap (λ (y : ℕ). get_or w y 0) (sym x))
      (λ e. out j (omega arith) (eqb-false t.hour (j / 4) e) ∙ sym (stays j (omega arith) (eqb-false t.hour (j / 4) e))))

  -- ONE COLUMN GAINS
  one-gains : (n : length r ≡ 96) (c : ℕ) → c < 4 → ((k : ℕ) → k ≡ c → adds k t ≡ 1) → ((k : ℕ) → (k ≡ c → ⊥) → adds k t ≡ 0)
      → one_more (4 * t.hour + c) r ≡ with r (t ∷ [])
  one-gains n c q own none =
      let i : ℕ = 4 * t.hour + c in
      gained (one_more i r) (more-length r i ∙ n) (λ j u e. more-else r i j (λ s. e (omega arith)))
      (λ k u.
      by-test (eqb k c)
      (λ e. let s : k ≡ c = eqb-true k c e in
      omega (arith, ap (λ (y : ℕ). get_or (one_more i r) (4 * t.hour + y) 0) s, ap (λ (y : ℕ). get_or r (4 * t.hour + y) 0) s, more_same r i (omega arith), own k s))
      (λ e. omega (arith, more-else r i (4 * t.hour + k) (λ s. eqb-false k c e (omega arith)), none k (eqb-false k c e))))

  -- an ending, or another result
  pub ends-in : (n : length r ≡ 96) (c : ℕ) → c ≡ pick (ended t) 2 3 → t.place ≡ 0 → one_more (4 * t.hour + c) r ≡ with r (t ∷ [])
  unfolding pick
  ends-in n c s p =
      by-test (ended t)
      (λ e. one-gains n c (omega (arith, rw e at s)) (λ k d. ended-counts t k true p e refl (d ∙ rw e at s)) (λ k d. ended-else t k true p e refl (λ z. d (z ∙ sym (rw e at s)))))
      (λ e. one-gains n c (omega (arith, rw e at s)) (λ k d. other-counts t k false p e refl (d ∙ rw e at s)) (λ k d. other-else t k false p e refl (λ z. d (z ∙ sym (rw e at s)))))

  -- an opening without a cut, and with one
  pub opens_in : (n : length r ≡ 96) → (t.place ≡ 0 → ⊥) → t.cut ≡ 0 → one_more (4 * t.hour) r ≡ with r (t ∷ [])
  opens_in n p z =
      ap (λ (i : ℕ). one_more i r) (sym (add-zero (4 * t.hour)))
      ∙ one-gains n 0 (omega arith) (λ k d. opening-counts t k p d)
      (λ k d. by-test (eqb k 1) (λ e. no-cut-counts t k p (eqb-true k 1 e) z) (λ e. opening-else t k p d (eqb-false k 1 e)))

  pub cuts-in : (n : length r ≡ 96) → (t.place ≡ 0 → ⊥) → (t.cut ≡ 0 → ⊥) → one_more (4 * t.hour + 1) (one_more (4 * t.hour) r) ≡ with r (t ∷ [])
  cuts-in n p z =
      let i : ℕ = 4 * t.hour in
      let o : List ℕ = one_more i r in
      gained (one_more (i + 1) o) (more-length o (i + 1) ∙ more-length r i ∙ n)
      (λ j u e. more-else o (i + 1) j (λ s. e (omega arith)) ∙ more-else r i j (λ s. e (omega arith)))
      (λ k u.
      by-test (eqb k 0)
      (λ e. let s : i + k ≡ i = omega (arith, eqb-true k 0 e) in
      omega (arith, more-else o (i + 1) (i + k) (λ d. omega arith), ap (λ (y : ℕ). get_or o y 0) s, ap (λ (y : ℕ). get_or r y 0) s, more_same r i (omega arith), opening-counts t k p (eqb-true k 0 e)))
      (λ e. by-test (eqb k 1)
      (λ d. let s : i + k ≡ i + 1 = omega (arith, eqb-true k 1 d) in
      omega (arith, ap (λ (y : ℕ). get_or (one_more (i + 1) o) y 0) s, ap (λ (y : ℕ). get_or r y 0) s, more_same o (i + 1) (omega (arith, more-length r i)), more-else r i (i + 1) (λ v. omega arith), cut-counts t k p (eqb-true k 1 d) z))
      (λ d. omega (arith, more-else o (i + 1) (i + k) (λ v. eqb-false k 1 d (omega arith)), more-else r i (i + k) (λ v. eqb-false k 0 e (omega arith)), opening-else t k p (eqb-false k 0 e) (eqb-false k 1 d)))))

  -- 64 BITS hold what is written, where they hold the report with the result
  module _ (n : length r ≡ 96) (all : held (with r (t ∷ [])) ≡ true) where
    pub ends-fits : (c : ℕ) → c ≡ pick (ended t) 2 3 → c < 4 → t.place ≡ 0 → get_or r (4 * t.hour + c) 0 + 1 < 18446744073709551616
    ends-fits c s q p =
        let i : ℕ = 4 * t.hour + c in
        omega (arith, more_same r i (omega arith), ap (λ (s : List ℕ). get_or s i 0) (ends-in n c s p), cell-held (with r (t ∷ [])) i all (omega arith))

    pub opens-fits : (t.place ≡ 0 → ⊥) → get_or r (4 * t.hour) 0 + 1 < 18446744073709551616
    opens-fits p =
        let w : List ℕ = with r (t ∷ []) in
        let s : 4 * t.hour + 0 ≡ 4 * t.hour = add-zero (4 * t.hour) in
        omega (arith, gains 0 (omega arith), opening-counts t 0 p refl, ap (λ (y : ℕ). get_or w y 0) s, ap (λ (y : ℕ). get_or r y 0) s, cell-held w (4 * t.hour) all (omega arith))

    pub cuts-fits : (t.place ≡ 0 → ⊥) → (t.cut ≡ 0 → ⊥) → get_or (one_more (4 * t.hour) r) (4 * t.hour + 1) 0 + 1 < 18446744073709551616
    cuts-fits p z =
        let w : List ℕ = with r (t ∷ []) in
        omega (arith, gains 1 (omega arith), cut-counts t 1 p refl z, more-else r (4 * t.hour) (4 * t.hour + 1) (λ v. omega arith), cell-held w (4 * t.hour + 1) all (omega arith))

-- A cell of two reports added.
pub cell-plus : (r s : List ℕ) (j : ℕ) → j < 96 → get_or (plus r s) j 0 ≡ get_or r j 0 + get_or s j 0
cell-plus r s j q =
    let e : j ≡ 4 * (j / 4) + j % 4 = omega arith in
    omega (
      arith,
      ap (λ (x : ℕ). get_or (plus r s) x 0) e,
      ap (λ (x : ℕ). get_or r x 0) e,
      ap (λ (x : ℕ). get_or s x 0) e,
      total-plus r s (j / 4) (j % 4) (omega arith) (omega arith),
    )

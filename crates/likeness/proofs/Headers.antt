-- The header that is due, byte by byte, and what is found of a header.
use mathlib.Core.Path.{◌≡◌, refl, sym, ap, ◌∙◌}
use mathlib.Core.Bool.{true}
use mathlib.Core.List.{List, [], ◌∷◌}
use Prim.Native.Nat.{ℕ, zero, suc, ◌+◌, ◌/◌, ◌%◌, ◌≤◌, ◌<◌}
use native.Mathlib.Omega.{arith}
use borrow.Author.Tests.{le-leb, lt-leb, leb-true, leb-false}
use lib.Dec.{leb}
use lib.ListN.{length, get_or, take, drop}
use lib.Seq.{get_or-drop, get_or-take, length-take-le, take_all}
use Rattle.octets.specs.Choice.{pick}
use Rattle.octets.specs.Numbers.{net24}
use Rattle.octets.specs.Texts.{part, same}
use Rattle.octets.proofs.Lists.{by-test, same_refl, same-eq}
use Rattle.octets.proofs.Texts.{length_part}
use Rattle.likeness.specs.TheSameAnswer.{nothing, differs, unless, agreeing, compared, true_length, header_due, header_finding}
use Rattle.likeness.proofs.Prefixes.{same-all, same_not}

module _ (ours : List ℕ) (n : ℕ) where
  pub due-none : length ours < 20 → header_due ours n ≡ []
  unfolding header_due pick
  due-none h = rw (lt-leb 20 (length ours) h)

  module _ (h : 20 ≤ length ours) where
    due-is : header_due ours n ≡ get_or ours 0 0 ∷ n / 65536 ∷ n / 256 % 256 ∷ n % 256 ∷ part ours 4 16
    unfolding header_due true_length pick
    due-is = rw (le-leb 20 (length ours) h)

    pub due-length : length (header_due ours n) ≡ 20
    due-length = ap length due-is ∙ (let z : length (part ours 4 16) ≡ 16 = length_part ours 4 16 (omega arith) in omega (arith, z))

    pub due-1 : (i : ℕ) → i ≡ 1 → get_or (header_due ours n) i 0 ≡ n / 65536
    due-1 i e = rw (e, due-is)

    pub due-2 : (i : ℕ) → i ≡ 2 → get_or (header_due ours n) i 0 ≡ n / 256 % 256
    due-2 i e = rw (e, due-is)

    pub due-3 : (i : ℕ) → i ≡ 3 → get_or (header_due ours n) i 0 ≡ n % 256
    due-3 i e = rw (e, due-is)

    behind-4 : (j : ℕ) → j < 16 → get_or (part ours 4 16) j 0 ≡ get_or ours (4 + j) 0
    behind-4 j l = get_or-take 16 (drop 4 ours) j 0 l ∙ get_or-drop 4 ours j 0

    pub due-other : (i : ℕ) → i < 20 → (i ≡ 1 → ⊥) → (i ≡ 2 → ⊥) → (i ≡ 3 → ⊥) → get_or (header_due ours n) i 0 ≡ get_or ours i 0
    due-other zero l a b c = ap (λ (s : List ℕ). get_or s 0 0) due-is
    due-other (suc zero) l a b c = absurd (a (omega arith))
    due-other (suc (suc zero)) l a b c = absurd (b (omega arith))
    due-other (suc (suc (suc zero))) l a b c = absurd (c (omega arith))
    due-other (suc (suc (suc (suc j)))) l a b c =
        let z : 4 + j ≡ suc (suc (suc (suc j))) = omega arith in
        ap (λ (s : List ℕ). get_or s (suc (suc (suc (suc j)))) 0) due-is ∙ behind-4 j (omega arith) ∙ ap (λ (k : ℕ). get_or ours k 0) z

-- twenty bytes, or all where there are fewer
pub head-short : (t : List ℕ) (i : ℕ) → length t ≤ i → i < 20 → length (take 20 t) ≤ i
head-short t i h l = let e : length (take 20 t) ≡ length t = ap length (take_all 20 t (omega arith)) in omega arith

pub head-reaches : (t : List ℕ) (i : ℕ) → i < length t → i < 20 → i < length (take 20 t)
head-reaches t i h l =
    by-test (leb 20 (length t))
    (λ e. let z : length (take 20 t) ≡ 20 = length-take-le 20 t (leb-true 20 (length t) e) in omega arith)
    (λ e. let z : length (take 20 t) ≡ length t = ap length (take_all 20 t (omega (arith, leb-false 20 (length t) e))) in omega arith)

pub head-most : (t : List ℕ) → length (take 20 t) ≤ 20
head-most t =
    by-test (leb 20 (length t))
    (λ e. let z : length (take 20 t) ≡ 20 = length-take-le 20 t (leb-true 20 (length t) e) in omega arith)
    (λ e. let z : length (take 20 t) ≡ length t = ap length (take_all 20 t (omega (arith, leb-false 20 (length t) e))) in omega (arith, leb-false 20 (length t) e))

pub head_byte : (t : List ℕ) (i : ℕ) → i < 20 → get_or (take 20 t) i 0 ≡ get_or t i 0
head_byte t i l = get_or-take 20 t i 0 l

-- WHAT IS FOUND

against-none : (t : List ℕ) → (length t ≡ 0 → ⊥) → compared 1 (take 20 t) [] ≡ differs 1 0
unfolding compared unless pick same agreeing
against-none [] e = absurd (e refl)
against-none (x ∷ t) e = refl

module _ (ours theirs : List ℕ) where
  module _ (h : length ours < 20) where
    pub none-due : length theirs ≡ 0 → header_finding ours theirs ≡ nothing
    unfolding header_finding compared unless pick same
    none-due e =
        let t : take 20 theirs ≡ [] = ap (take 20) (empty theirs e) in
        rw (due-none ours (length theirs) h, t)
      where
        empty : (t : List ℕ) → length t ≡ 0 → t ≡ []
        empty [] e = refl
        empty (x ∷ t) e = absurd (omega arith)

    pub not-due : (length theirs ≡ 0 → ⊥) → header_finding ours theirs ≡ differs 1 0
    unfolding header_finding
    not-due e = ap (compared 1 (take 20 theirs)) (due-none ours (length theirs) h) ∙ against-none theirs e

  module _ (h : 20 ≤ length ours) where
    pub header-same : agreeing (take 20 theirs) (header_due ours (length theirs)) ≡ 20 → header_finding ours theirs ≡ nothing
    unfolding header_finding compared unless pick
    header-same e =
        let l : length (header_due ours (length theirs)) ≡ 20 = due-length ours (length theirs) h in
        rw (same-all (take 20 theirs) (header_due ours (length theirs)) (omega (arith, l, head-most theirs)) (e ∙ sym l))

    pub header-differs : (at : ℕ) → at ≡ agreeing (take 20 theirs) (header_due ours (length theirs)) → at < 20 → header_finding ours theirs ≡ differs 1 at
    unfolding header_finding compared unless pick
    header-differs at e k =
        let l : length (header_due ours (length theirs)) ≡ 20 = due-length ours (length theirs) h in
        rw (e, same_not (take 20 theirs) (header_due ours (length theirs)) (omega (arith, l, e, k)))

-- what is asked without a look at each byte: the first byte, the length, and the sixteen behind it
twenty : (t : List ℕ) → 20 ≤ length t → take 20 t ≡ get_or t 0 0 ∷ get_or t 1 0 ∷ get_or t 2 0 ∷ get_or t 3 0 ∷ part t 4 16
twenty [] h = absurd (omega arith)
twenty (a ∷ []) h = absurd (omega arith)
twenty (a ∷ (b ∷ [])) h = absurd (omega arith)
twenty (a ∷ (b ∷ (c ∷ []))) h = absurd (omega arith)
twenty (a ∷ (b ∷ (c ∷ (d ∷ t)))) h = refl

pub header-right : (ours theirs : List ℕ) → 20 ≤ length ours → 20 ≤ length theirs → get_or theirs 0 0 ≡ get_or ours 0 0
    → get_or theirs 2 0 < 256 → get_or theirs 3 0 < 256 → net24 theirs 1 ≡ length theirs → same (part theirs 4 16) (part ours 4 16) ≡ true → header_finding ours theirs ≡ nothing
unfolding header_finding compared unless pick net24
header-right ours theirs h g z b c l s =
    let n : ℕ = length theirs in
    let one : get_or theirs 1 0 ≡ length theirs / 65536 = omega (arith, l, b, c) in
    let two : get_or theirs 2 0 ≡ length theirs / 256 % 256 = omega (arith, l, b, c) in
    let three : get_or theirs 3 0 ≡ length theirs % 256 = omega (arith, l, b, c) in
    let p : part theirs 4 16 ≡ part ours 4 16 = same-eq (part theirs 4 16) (part ours 4 16) s in
    let e : take 20 theirs ≡ header_due ours (length theirs) = twenty theirs g ∙ rw (z, one, two, three, p) (sym (due-is ours (length theirs) h)) in
    rw (e, same_refl (header_due ours (length theirs)))

-- The label of a tunnel, by the entries of a row in which labels differ.
use mathlib.Core.Path.{◌≡◌, refl, sym, ap, ◌∙◌}
use mathlib.Core.Bool.{Bool, true, false, not}
use mathlib.Core.List.{List, [], ◌∷◌, map}
use Prim.Native.Nat.{ℕ, zero, suc, ◌-◌, ◌≤◌, ◌<◌}
use native.Mathlib.Omega.{arith}
use borrow.Author.Tests.{eq-eqb, eqb-true, eqb-false, not-true}
use lib.Dec.{eqb}
use lib.ListN.{length, get_or}
use Rattle.octets.specs.Choice.{pick, within}
use Rattle.octets.specs.Lists.{distinct, every, keep}
use Rattle.octets.specs.Texts.{same}
use Rattle.octets.proofs.Lists.{and_left, and_right, by-test, same-eq, same_refl, within-high, within_low}
use Rattle.table.specs.TheTable.{Access, Entry, Subscriber}
use Rattle.table.specs.Soundness.{labels, on_entry, same_label}
use Rattle.table.proofs.Good.{Good, good_access, standing}
use Rattle.table.proofs.Labels.{label-refl}
use Rattle.rules.specs.Deciding.{entry_at, entry_from, entry_named, no_entry}
use Rattle.order.specs.OpenedFirst.{label_in, on_label, tunnel_of}

-- THE LABEL BY THE ENTRIES is that of the entry that is named.

from-least : (n : ℕ) (l : List ℕ) (es : List Entry) → eqb (entry_from n l es) 0 ≡ false → n ≤ entry_from n l es
unfolding entry_from pick
from-least n l [] h = let z : ◌≡◌ {A = ℕ} 0 1 = cc in absurd (omega arith)
from-least n l (e ∷ es) h =
    by-test (same_label l e.label) (λ t. rw t (omega arith)) (λ t. rw t (omega (arith, from-least (suc n) l es (rw t at h))))

label-from : (m : ℕ) (l : List ℕ) (es : List Entry) → eqb (entry_from (suc m) l es) 0 ≡ false → label_in es l ≡ (get_or es (entry_from (suc m) l es - suc m) no_entry).label
unfolding label_in entry_from pick
label-from m l [] h = cc
label-from m l (e ∷ es) h =
    by-test (same_label l e.label)
    (λ t. let z : suc m - suc m ≡ 0 = omega arith in rw (t, z))
    (λ t. let k : eqb (entry_from (suc (suc m)) l es) 0 ≡ false = rw t at h in
    let z : entry_from (suc (suc m)) l es - suc m ≡ suc (entry_from (suc (suc m)) l es - suc (suc m)) = omega (arith, from-least (suc (suc m)) l es k) in
    rw (t, z) (label-from (suc m) l es k))

pub label_is : (l : List ℕ) (s : Subscriber) → eqb (entry_named l s) 0 ≡ false → label_in s.entries l ≡ (entry_at (entry_named l s) s).label
unfolding entry_named entry_at
label_is l s h = label-from 0 l s.entries h

-- LABELS DIFFER, so that a label is that of one entry.

pub every-at : (f : List ℕ → Bool) (es : List Entry) (j : ℕ) → every f (labels es) ≡ true → j < length es → f (get_or es j no_entry).label ≡ true
unfolding every labels
every-at f [] j h l = absurd (omega arith)
every-at f (e ∷ es) zero h l = and_left (f e.label) _ h
every-at f (e ∷ es) (suc j) h l = every-at f es j (and_right (f e.label) _ h) (omega arith)

other-label : (x y : List ℕ) → not (same_label x y) ≡ true → x ≡ y → ⊥
other-label x y n e =
    let t : true ≡ false = sym (label-refl y) ∙ (rw e at (not-true (same_label x y) n)) in
    let z : ◌≡◌ {A = ℕ} 0 1 = cc in omega arith

one_entry : (es : List Entry) (i j : ℕ) → distinct same_label (labels es) ≡ true → i < length es → j < length es
    → (get_or es i no_entry).label ≡ (get_or es j no_entry).label → i ≡ j
unfolding distinct labels
one_entry [] i j d a b e = absurd (omega arith)
one_entry (x ∷ es) zero zero d a b e = refl
one_entry (x ∷ es) zero (suc j) d a b e =
    absurd (other-label x.label _ (every-at _ es j (and_left (every (λ y. not (same_label x.label y)) (labels es)) _ d) (omega arith)) e)
one_entry (x ∷ es) (suc i) zero d a b e =
    absurd (other-label x.label _ (every-at _ es i (and_left (every (λ y. not (same_label x.label y)) (labels es)) _ d) (omega arith)) (sym e))
one_entry (x ∷ es) (suc i) (suc j) d a b e =
    ap suc (one_entry es i j (and_right (every (λ y. not (same_label x.label y)) (labels es)) _ d) (omega arith) (omega arith) e)

-- the accesses on an entry are the tunnels on its label
module _ {fm : ℕ} (s : Subscriber) (g : Good fm s) (n : ℕ) (ex : within 1 (length s.entries) n ≡ true) where
  label-entry : (m : ℕ) → within 1 (length s.entries) m ≡ true → same (entry_at m s).label (entry_at n s).label ≡ eqb m n
  unfolding entry_at
  label-entry m w =
      let lo : 1 ≤ n = within_low 1 _ n ex in
      let hi : n ≤ length s.entries = within-high 1 _ n ex in
      let lo2 : 1 ≤ m = within_low 1 _ m w in
      let hi2 : m ≤ length s.entries = within-high 1 _ m w in
      by-test (eqb m n)
      (λ e. rw (eqb-true m n e) (same_refl _ ∙ sym (eq-eqb n n refl)))
      (λ e. by-test (same (entry_at m s).label (entry_at n s).label)
      (λ d. let q : m - 1 ≡ n - 1 = one_entry s.entries (m - 1) (n - 1) g.entries-good.labels-once (omega arith) (omega arith) (same-eq _ _ d) in
      absurd (eqb-false m n e (omega arith)))
      (λ d. d ∙ sym e))

  pub on-label : (xs : List Access) → every (good_access fm (length s.entries)) xs ≡ true → on_label (entry_at n s).label (map (tunnel_of s) xs) ≡ map (tunnel_of s) (on_entry n xs)
  unfolding on_label on_entry tunnel_of keep every pick
  on-label [] h = refl
  on-label (x ∷ xs) h =
      let w : within 1 (length s.entries) x.entry ≡ true = (standing _ x (and_left (good_access fm (length s.entries) x) _ h)).entry_in in
      let rest : on_label (entry_at n s).label (map (tunnel_of s) xs) ≡ map (tunnel_of s) (on_entry n xs) = on-label xs (and_right (good_access fm (length s.entries) x) _ h) in
      rw (label-entry x.entry w) (by-test (eqb x.entry n) (λ e. rw (e, rest)) (λ e. rw (e, rest)))

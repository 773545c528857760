-- Labels as they are compared: of a good row, the tunnels on a name are the accesses on the entry that it names.
use mathlib.Core.Path.{◌≡◌, refl, sym, ap, ◌∙◌}
use mathlib.Core.Bool.{true, false, not}
use mathlib.Core.List.{List, [], ◌∷◌, map}
use Prim.Native.Nat.{ℕ, zero, suc, ◌-◌, ◌<◌}
use native.Mathlib.Omega.{arith}
use borrow.Author.Tests.{eqb-true, not-true}
use lib.Dec.{eqb}
use lib.ListN.{length, get_or}
use Rattle.octets.specs.Choice.{pick, within}
use Rattle.octets.specs.Lists.{distinct, every, keep}
use Rattle.octets.specs.Texts.{same}
use Rattle.octets.proofs.Lists.{and_left, and_right, by-test, same-eq, same_refl, within-high, within_low}
use Rattle.table.specs.TheTable.{Access, Entry, Subscriber}
use Rattle.table.specs.Soundness.{labels, lower_case, on_entry, same_label}
use Rattle.table.proofs.Good.{Good, good_access, standing}
use Rattle.table.proofs.Labels.{label-alike, label-refl, label-sym}
use Rattle.rules.specs.Deciding.{entry_at, entry_from, entry_named, no_entry}
use Rattle.plans.proofs.Stay.{entry_found}
use Rattle.order.specs.OpenedFirst.{label_in, on_label, tunnel_of, tunnels}
use Rattle.order.proofs.Labels.{every-at, label_is, on-label}
use Rattle.history.specs.OrderOfOpening.{compared, listed, on_name}

-- THE ENTRY THAT A LABEL NAMES has it, as labels are compared.

names-it : (n : ℕ) (l : List ℕ) (es : List Entry) → eqb (entry_from n l es) 0 ≡ false → same_label l (label_in es l) ≡ true
unfolding entry_from label_in pick
names-it n l [] h = cc
names-it n l (e ∷ es) h =
    by-test (same_label l e.label) (λ t. rw t t) (λ t. rw t (names-it (suc n) l es (rw t at h)))

pub named-same : (l : List ℕ) (s : Subscriber) → eqb (entry_named l s) 0 ≡ false → same_label l (label_in s.entries l) ≡ true
unfolding entry_named
named-same l s h = names-it 1 l s.entries h

pub same-compared : (l k : List ℕ) → same_label l k ≡ true → compared l ≡ compared k
unfolding same_label compared
same-compared l k h = same-eq (map lower_case l) (map lower_case k) h

pub label-test : (x l : List ℕ) → same (compared x) (compared l) ≡ same_label x l
unfolding same_label compared
label-test x l = refl

-- AN ENTRY'S LABEL names that entry, since no two labels are the same.

alike-in : (es : List Entry) (x l : List ℕ) → same_label x l ≡ true → label_in es x ≡ label_in es l
unfolding label_in
alike-in [] x l h = refl
alike-in (e ∷ es) x l h = rw (label-alike x l e.label h, alike-in es x l h)

pub no-sym : (a b : List ℕ) → same_label a b ≡ false → same_label b a ≡ false
no-sym a b h = by-test (same_label b a) (λ e. e ∙ sym (label-sym b a e) ∙ h) (λ e. e)

own-label : (es : List Entry) (i : ℕ) → distinct same_label (labels es) ≡ true → i < length es → label_in es (get_or es i no_entry).label ≡ (get_or es i no_entry).label
unfolding distinct labels label_in pick
own-label [] i d h = absurd (omega arith)
own-label (e ∷ es) zero d h = rw (label-refl e.label)
own-label (e ∷ es) (suc i) d h =
    let x : List ℕ = (get_or es i no_entry).label in
    let apart : not (same_label e.label x) ≡ true = every-at _ es i (and_left (every (λ y. not (same_label e.label y)) (labels es)) _ d) (omega arith) in
    let other : same_label x e.label ≡ false = no-sym e.label x (not-true (same_label e.label x) apart) in
    rw other (own-label es i (and_right (every (λ y. not (same_label e.label y)) (labels es)) _ d) (omega arith))

-- so it is compared as it is by its bytes
module _ (es : List Entry) (i : ℕ) (d : distinct same_label (labels es) ≡ true) (h : i < length es) (l : List ℕ) where
  abbrev here : List ℕ
  here = (get_or es i no_entry).label

  compared-by-bytes : same_label l (label_in es l) ≡ true → same_label here l ≡ same here (label_in es l)
  compared-by-bytes named =
      by-test (same_label here l)
      (λ e. let q : label_in es l ≡ here = sym (alike-in es here l e) ∙ own-label es i d h in
      e ∙ sym (rw q (same_refl here)))
      (λ e. by-test (same here (label_in es l))
      (λ b. let q : here ≡ label_in es l = same-eq here (label_in es l) b in
      (ap (λ (x : List ℕ). same_label x l) q ∙ label-sym l (label_in es l) named) ∙ sym b)
      (λ b. e ∙ sym b))

-- A LABEL THAT NAMES NO ENTRY is that of none.

no-entry : (m : ℕ) (l : List ℕ) (es : List Entry) → eqb (entry_from (suc m) l es) 0 ≡ true → (i : ℕ) → i < length es → same_label (get_or es i no_entry).label l ≡ false
unfolding entry_from pick
no-entry m l [] h i k = absurd (omega arith)
no-entry m l (e ∷ es) h zero k =
    by-test (same_label l e.label)
    (λ t. let z : eqb (suc m) 0 ≡ true = rw t at h in absurd (omega (arith, eqb-true (suc m) 0 z)))
    (λ t. no-sym l e.label t)
no-entry m l (e ∷ es) h (suc i) k =
    by-test (same_label l e.label)
    (λ t. let z : eqb (suc m) 0 ≡ true = rw t at h in absurd (omega (arith, eqb-true (suc m) 0 z)))
    (λ t. no-entry (suc m) l es (rw t at h) i (omega arith))

unnamed : (l : List ℕ) (s : Subscriber) → eqb (entry_named l s) 0 ≡ true → (i : ℕ) → i < length s.entries → same_label (get_or s.entries i no_entry).label l ≡ false
unfolding entry_named
unnamed l s h i k = no-entry 0 l s.entries h i k

-- ON A NAME

module _ {fm : ℕ} (s : Subscriber) (g : Good fm s) (l : List ℕ) where
  by_bytes : eqb (entry_named l s) 0 ≡ false → (xs : List Access) → every (good_access fm (length s.entries)) xs ≡ true
      → on_name l (map listed (map (tunnel_of s) xs)) ≡ map listed (on_label (label_in s.entries l) (map (tunnel_of s) xs))
  unfolding on_name on_label listed tunnel_of entry_at keep every pick
  by_bytes there [] h = refl
  by_bytes there (x ∷ xs) h =
      let w : within 1 (length s.entries) x.entry ≡ true = (standing _ x (and_left (good_access fm (length s.entries) x) _ h)).entry_in in
      let rest : on_name l (map listed (map (tunnel_of s) xs)) ≡ map listed (on_label (label_in s.entries l) (map (tunnel_of s) xs)) = by_bytes there xs (and_right (good_access fm (length s.entries) x) _ h) in
      let x-label : List ℕ = (get_or s.entries (x.entry - 1) no_entry).label in
      let test : same (compared x-label) (compared l) ≡ same x-label (label_in s.entries l) =
      label-test x-label l ∙ compared-by-bytes s.entries (x.entry - 1) g.entries-good.labels-once (omega (arith, within_low 1 _ _ w, within-high 1 _ _ w)) l (named-same l s there) in
      rw test (by-test (same x-label (label_in s.entries l)) (λ e. rw (e, rest)) (λ e. rw (e, rest)))

  -- of the tunnels of the row, those on the label that the entry has
  pub on-name : eqb (entry_named l s) 0 ≡ false → on_name l (map listed (tunnels s)) ≡ map listed (on_label (label_in s.entries l) (tunnels s))
  unfolding tunnels
  on-name there = by_bytes there s.accesses g.accesses-good.each

  -- they are the accesses on the entry
  pub on-entry : eqb (entry_named l s) 0 ≡ false → on_name l (map listed (tunnels s)) ≡ map listed (map (tunnel_of s) (on_entry (entry_named l s) s.accesses))
  unfolding tunnels
  on-entry there =
      on-name there
      ∙ ap (λ (k : List ℕ). map listed (on_label k (map (tunnel_of s) s.accesses))) (label_is l s there)
      ∙ ap (map listed) (on-label s g (entry_named l s) (entry_found l s there) s.accesses g.accesses-good.each)

  -- a label that names no entry is on no tunnel
  none_named : eqb (entry_named l s) 0 ≡ true → (xs : List Access) → every (good_access fm (length s.entries)) xs ≡ true → on_name l (map listed (map (tunnel_of s) xs)) ≡ []
  unfolding on_name listed tunnel_of entry_at keep every pick
  none_named away [] h = refl
  none_named away (x ∷ xs) h =
      let w : within 1 (length s.entries) x.entry ≡ true = (standing _ x (and_left (good_access fm (length s.entries) x) _ h)).entry_in in
      let x-label : List ℕ = (get_or s.entries (x.entry - 1) no_entry).label in
      let test : same (compared x-label) (compared l) ≡ false = label-test x-label l ∙ unnamed l s away (x.entry - 1) (omega (arith, within_low 1 _ _ w, within-high 1 _ _ w)) in
      rw test (none_named away xs (and_right (good_access fm (length s.entries) x) _ h))

  pub no_name : eqb (entry_named l s) 0 ≡ true → on_name l (map listed (tunnels s)) ≡ []
  unfolding tunnels
  no_name away = none_named away s.accesses g.accesses-good.each

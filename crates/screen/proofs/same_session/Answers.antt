-- Texts whose ends differ are not the same.
use mathlib.Core.Path.{◌≡◌, sym, ap, ◌∙◌}
use mathlib.Core.Bool.{true, false}
use mathlib.Core.List.{List}
use Prim.Native.Nat.{ℕ, ◌-◌}
use lib.ListN.{length, take, drop}
use Rattle.octets.specs.Texts.{same}
use Rattle.octets.proofs.Lists.{by-test, same-eq, same_refl}
use Rattle.octets.proofs.Texts.{same-lengths}
use Rattle.screen.proofs.same_session.Goals as goal

parts-differ : (a b : List ℕ) (part : List ℕ → List ℕ) → same (part a) (part b) ≡ false → same a b ≡ false
parts-differ a b part d =
    by-test (same a b)
    (λ e.
    let same_parts : same (part a) (part b) ≡ true = ap (λ (u : List ℕ). same (part u) (part b)) (same-eq a b e) ∙ same_refl (part b) in
    cc)
    (λ e. e)

pub returns-then-n-b : goal.returns-then-n-b
returns-then-n-b c = sym (same-lengths c.args.a.now c.args.b.now c.if-n-b.true)

pub returns-then-not-same_bytes : goal.returns-then-not-same_bytes
returns-then-not-same_bytes c =
    let ends = c.same_bytes-2 in
    let a = c.args.a.now in
    let b = c.args.b.now in
    let k = length a - 16 in
    let apart : same (take (length a - k) (drop k a)) (take (length a - k) (drop k b)) ≡ false = sym ends.ensures ∙ c.if-not-same_bytes.true in
    sym (parts-differ a b (λ u. take (length a - k) (drop k u)) apart)

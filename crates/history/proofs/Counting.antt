-- The count through one request: what it opened stands, and what it cut or ended no longer does.
use mathlib.Core.Path.{◌≡◌, ap, ◌∙◌}
use mathlib.Core.Bool.{Bool, true, false, ◌&&◌, and-true, and-false}
use mathlib.Core.List.{List}
use Prim.Native.Nat.{ℕ, suc, ◌+◌}
use native.Mathlib.Omega.{arith}
use Rattle.octets.specs.Choice.{pick}
use Rattle.octets.specs.Texts.{same}
use Rattle.message.specs.ReadingAMessage.{Ask}
use Rattle.table.specs.Soundness.{same_label}
use Rattle.order.specs.Demand3.{Told}
use Rattle.order.specs.OpenedFirst.{Tunnel, label_asked, without}
use Rattle.history.specs.OrderOfOpening.{compared, line_after}
use Rattle.history.specs.EachCounted.{cuts, ends, opens}
use Rattle.history.proofs.Labels.{label-test}
use Rattle.history.proofs.Asking.{Changed, cutting, ending, opening, stays}
use Rattle.history.proofs.Taking.{is_named, last_more, many, taken-one}

-- opened, cut and ended so far, and the line
abbrev pub Balanced : (label : List ℕ) → List Tunnel → (opened cut ended : ℕ) → Type 0
Balanced l line n m k = n ≡ many l line + (m + k)

-- one more if it counts
pub counts : (b p : Bool) (n : ℕ) → pick (b && p) (suc n) n ≡ n + pick (b && p) 1 0
unfolding pick
counts true true n = omega arith
counts true false n = omega arith
counts false p n = omega arith

module _ (f : ℕ) (q : Ask) (x : Told) (line : List Tunnel) (l : List ℕ) where
  abbrev on : Bool
  on = same_label (label_asked q) l

  named-on : (y : Tunnel) → y.label ≡ compared (label_asked q) → is_named l y ≡ on
  named-on y e = ap (λ (k : List ℕ). same k (compared l)) e ∙ label-test (label_asked q) l

  abbrev Keeps : ℕ → ℕ → ℕ → Type 0
  Keeps n m k = Balanced l (line_after f q x line) (pick (on && opens q x) (suc n) n) (pick (on && cuts q x) (suc m) m) (pick (on && ends q x) (suc k) k)

  pub keeps : Changed f q x line → (n m k : ℕ) → Balanced l line n m k → Keeps n m k
  unfolding pick
  keeps (stays o c e w) n m k b = rw (o, c, e, w, and-false on) b
  keeps (opening y o c e v w) n m k b =
      rw (o, c, e, w, and-false on, counts on true n, and-true on, last_more l line y, named-on y v) (omega (arith, b))
  keeps (cutting z y o c e u v d a w) n m k b =
      let gone : many l (without z.session line) + pick (is_named l z) 1 0 ≡ many l line = taken-one l z line a d in
      let gone-on : many l (without z.session line) + pick on 1 0 ≡ many l line = rw (named-on z u) at gone in
      rw (o, c, e, w, and-false on, counts on true n, counts on true m, and-true on, last_more l (without z.session line) y, named-on y v) (omega (arith, b, gone-on))
  keeps (ending z o c e u d a w) n m k b =
      let gone : many l (without z.session line) + pick (is_named l z) 1 0 ≡ many l line = taken-one l z line a d in
      let gone-on : many l (without z.session line) + pick on 1 0 ≡ many l line = rw (named-on z u) at gone in
      rw (o, c, e, w, and-false on, counts on true k, and-true on) (omega (arith, b, gone-on))

-- What it says no to it says nothing of; else the header is the one due: `header-right`.
use mathlib.Core.Path.{◌≡◌, sym, ap, ◌∙◌}
use mathlib.Core.Bool.{Bool, true, false}
use Prim.Native.Nat.{ℕ}
use native.Mathlib.Omega.{arith}
use Rattle.octets.specs.Choice.{pick}
use Rattle.likeness.proofs.Headers.{header-right}
use Rattle.likeness.proofs.header_right.Goals as goal

pub returns-then-theirs-lt-HEADER_LENGTH : goal.returns-then-theirs-lt-HEADER_LENGTH
unfolding pick
returns-then-theirs-lt-HEADER_LENGTH c =
    λ z. let w : ◌≡◌ {A = ℕ} (pick false 1 0) (pick true 1 0) = ap (λ (b : Bool). pick b 1 0) z in absurd (omega (arith, w))

pub returns-then-theirs-ours : goal.returns-then-theirs-ours
unfolding pick
returns-then-theirs-ours c =
    λ z. let w : ◌≡◌ {A = ℕ} (pick false 1 0) (pick true 1 0) = ap (λ (b : Bool). pick b 1 0) z in absurd (omega (arith, w))

pub returns-then-read24-theirs : goal.returns-then-read24-theirs
unfolding pick
returns-then-read24-theirs c =
    λ z. let w : ◌≡◌ {A = ℕ} (pick false 1 0) (pick true 1 0) = ap (λ (b : Bool). pick b 1 0) z in absurd (omega (arith, w))

pub returns : goal.returns
returns c =
    let given = c.args in
    let pre-was = c.requires in
    let test1 = c.if-theirs-lt-HEADER_LENGTH in
    let test2 = c.if-theirs-ours in
    let shared-slice-known2-was = c.shared_slice_known-2-1 in
    let read24-was = c.read24 in
    let test3 = c.if-read24-theirs in
    let same-bytes-was = c.same_bytes in
    λ z. header-right given.ours.now given.theirs.now pre-was test1.false test2.false (omega (arith, shared-slice-known2-was.given 2)) (omega (arith, shared-slice-known2-was.given 3)) (sym read24-was.ensures.0 ∙ test3.false) (sym same-bytes-was.ensures ∙ z)

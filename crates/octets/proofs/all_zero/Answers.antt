use mathlib.Core.Path.{◌≡◌, sym, ap, ◌∙◌}
use mathlib.Core.Bool.{◌&&◌}
use Prim.Native.Nat.{ℕ, ◌+◌, ◌-◌, ◌*◌}
use native.Mathlib.Omega.{arith}
use lib.Bits.{bit_or}
use lib.Dec.{eqb}
use lib.ListN.{length, drop}
use Rattle.octets.specs.Texts.{all_zero}
use Rattle.octets.proofs.Words.{some-zero, zero-first, zero-last, zero_turn}
use Rattle.octets.proofs.all_zero.Goals as goal

pub loop-k-init : goal.loop-k-init
loop-k-init c =
    let s = c.args.s.now in
    let w = c.eight-some in
    (omega arith, λ e. sym w.ensures.0 ∙ e, zero-first s (length s - 8) w.result (omega arith) w.ensures.0)

pub loop-k-preserved : goal.loop-k-preserved
loop-k-preserved c =
    let s = c.args.s.now in
    let l = c.loop-k in
    let w = c.eight-some-in-loop-k in
    let there : 8 * (l.k + 1) ≡ 8 * l.k + 8 = omega arith in (
      omega arith,
      λ e. l.invariant.1 (some-zero l.some w.result e),
      ap (λ (j : ℕ). eqb (bit_or l.some w.result) 0 && all_zero (drop j s)) there ∙ zero_turn s (8 * l.k) l.some w.result (omega arith) w.ensures.0 ∙ l.invariant.2,
    )

pub returns : goal.returns
returns c =
    let s = c.args.s.now in
    let l = c.loop-k in
    sym (zero-last s (length s - 8) (8 * l.k) l.some (omega arith) (omega arith) l.invariant.1) ∙ l.invariant.2

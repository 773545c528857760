-- A law of Groups for each way on and each way out.
use Rattle.std.proofs.Common.{◌≡◌, true, List, ◌<◌, ℕ, ◌+◌, ◌-◌, length, drop, sym, ap, ◌∙◌, arith}
use Rattle.octets.specs.Numbers.{net24, up4}
use Rattle.message.specs.ReadingAMessage.{avp_length}
use Rattle.likeness.specs.TheSameAnswer.{Finding, too_deep, is_group, fault_in}
use Rattle.likeness.specs.Code.{mismatch_number, said, avp_at, next_at}
use Rattle.std.proofs.lemmas.Result.{err_from_is_err_and}
use Rattle.likeness.proofs.Differences.{err-tells, ok-tells-nothing}
use Rattle.likeness.proofs.Places.{stands, reaches, passes-here, next-is}
use Rattle.likeness.proofs.Groups.{inner, fault-in, inner-down, inner-none, fault-end, fault-bad, fault-plain, fault-inside, fault-passed, value_lent}
use Rattle.likeness.proofs.+faults.Goals as goal

-- the place behind one that is next is behind it, and no further than the end
falls-on : (m : List ℕ) (at next : ℕ) → next ≡ next_at m at → (next ≡ 0 → ⊥) → at < length m → length m - next < length m - at
falls-on m at next e some l =
    let k = passes-here m at (λ z. some (e ∙ z)) in
    let r = reaches m at k in
    let n : next ≡ at + up4 (avp_length (drop at m)) = e ∙ next-is m at k in
    omega (arith, r.0, r.1, n)

pub loop-at-init : goal.loop-at-init
loop-at-init t c = sym (fault-in c.args.depth c.args.from (drop c.args.from c.args.m.now))

pub returns-then-next-eq0 : goal.returns-then-next-eq0
unfolding said mismatch_number
returns-then-next-eq0 t c =
    sym (fault-bad (inner c.args.depth) c.args.m.now c.loop-at.at c.loop-at-test.true (sym c.next_at-next.ensures ∙ c.if-next-eq0.true)) ∙ c.loop-at.invariant

pub is_group-requires : goal.is_group-requires
is_group-requires t c = stands c.args.m.now c.loop-at.at (passes-here c.args.m.now c.loop-at.at (λ z. c.if-next-eq0.false (c.next_at-next.ensures ∙ z)))

pub returns-then-depth-eq0 : goal.returns-then-depth-eq0
unfolding said
returns-then-depth-eq0 t c =
    let m = c.args.m.now in
    let at = c.loop-at.at in
    let depth = c.args.depth in
    let g : is_group (avp_at m at).name ≡ true = sym c.is_group.ensures ∙ c.if-is_group.true in
    let none : inner depth (at + 8) (avp_at m at).value ≡ too_deep = inner-none depth (at + 8) (avp_at m at).value c.if-depth-eq0.true in
    let some : (inner depth (at + 8) (avp_at m at).value).number ≡ 0 → ⊥ = λ z. let y : ◌≡◌ {A = ℕ} 31 0 = ap (λ (f : Finding). f.number) (sym none) ∙ z in omega arith in
    sym (fault-inside (inner depth) m at c.next_at-next.result (sym c.next_at-next.ensures) c.if-next-eq0.false g some ∙ none) ∙ c.loop-at.invariant

pub read24-requires : goal.read24-requires
read24-requires t c =
    let s = stands c.args.m.now c.loop-at.at (passes-here c.args.m.now c.loop-at.at (λ z. c.if-next-eq0.false (c.next_at-next.ensures ∙ z))) in
    omega (arith, s.eight)

pub slice_bounds-faults-end : goal.slice_bounds-faults-end
slice_bounds-faults-end t c =
    let s = stands c.args.m.now c.loop-at.at (passes-here c.args.m.now c.loop-at.at (λ z. c.if-next-eq0.false (c.next_at-next.ensures ∙ z))) in
    omega (arith, s.end, c.read24.ensures.0)

pub returns-in_err-faults : goal.returns-in_err-faults
returns-in_err-faults t c =
    let m = c.args.m.now in
    let at = c.loop-at.at in
    let depth = c.args.depth in
    let g : is_group (avp_at m at).name ≡ true = sym c.is_group.ensures ∙ c.if-is_group.true in
    let end : at + c.read24.result ≡ at + net24 m (at + 5) = ap (λ (i : ℕ). at + i) c.read24.ensures.0 in
    let found : inner depth (at + 8) (avp_at m at).value ≡ said c.faults.result = inner-down depth (at + 8) (avp_at m at).value c.if-depth-eq0.false ∙ ap (fault_in (depth - 1) (at + 8)) (sym (value_lent m at (at + c.read24.result) (passes-here m at (λ z. c.if-next-eq0.false (c.next_at-next.ensures ∙ z))) end g)) ∙ sym c.faults.ensures in
    let d = c.in_err-faults.field-0.0 in
    let some : (inner depth (at + 8) (avp_at m at).value).number ≡ 0 → ⊥ = λ z. err-tells c.faults.result d c.in_err-faults.was (ap (λ (f : Finding). f.number) (sym found) ∙ z) in
    let p = err_from_is_err_and c.from_residual.result c.from_residual.ensures.1 in
    rw (p.1, p.2)
    (sym (ap said c.in_err-faults.was) ∙ sym found ∙ sym (fault-inside (inner depth) m at c.next_at-next.result (sym c.next_at-next.ensures) c.if-next-eq0.false g some) ∙ c.loop-at.invariant)

pub loop-at-smaller-in_ok-faults : goal.loop-at-smaller-in_ok-faults
loop-at-smaller-in_ok-faults t c = falls-on c.args.m.now c.loop-at.at c.next_at-next.result c.next_at-next.ensures c.if-next-eq0.false c.loop-at-test.true

pub loop-at-preserved-in_ok-faults : goal.loop-at-preserved-in_ok-faults
unfolding said
loop-at-preserved-in_ok-faults t c =
    let m = c.args.m.now in
    let at = c.loop-at.at in
    let depth = c.args.depth in
    let g : is_group (avp_at m at).name ≡ true = sym c.is_group.ensures ∙ c.if-is_group.true in
    let end : at + c.read24.result ≡ at + net24 m (at + 5) = ap (λ (i : ℕ). at + i) c.read24.ensures.0 in
    let found : inner depth (at + 8) (avp_at m at).value ≡ said c.faults.result = inner-down depth (at + 8) (avp_at m at).value c.if-depth-eq0.false ∙ ap (fault_in (depth - 1) (at + 8)) (sym (value_lent m at (at + c.read24.result) (passes-here m at (λ z. c.if-next-eq0.false (c.next_at-next.ensures ∙ z))) end g)) ∙ sym c.faults.ensures in
    let none : (inner depth (at + 8) (avp_at m at).value).number ≡ 0 = ap (λ (f : Finding). f.number) found ∙ ok-tells-nothing c.faults.result c.in_ok-faults.field-0 c.in_ok-faults.was in
    fault-passed (inner depth) m at c.next_at-next.result (sym c.next_at-next.ensures) c.if-next-eq0.false g none ∙ c.loop-at.invariant

pub loop-at-smaller : goal.loop-at-smaller
loop-at-smaller t c = falls-on c.args.m.now c.loop-at.at c.next_at-next.result c.next_at-next.ensures c.if-next-eq0.false c.loop-at-test.true

pub loop-at-preserved : goal.loop-at-preserved
loop-at-preserved t c =
    fault-plain (inner c.args.depth) c.args.m.now c.loop-at.at c.next_at-next.result (sym c.next_at-next.ensures) c.if-next-eq0.false (sym c.is_group.ensures ∙ c.if-is_group.false) ∙ c.loop-at.invariant

pub returns : goal.returns
unfolding said
returns t c = sym (fault-end (inner c.args.depth) c.args.m.now c.loop-at.at (omega (arith, c.loop-at-test.false))) ∙ c.loop-at.invariant

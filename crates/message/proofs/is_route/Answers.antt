-- Without V it is none; with V it goes by vendor and code.
use mathlib.Core.Path.{◌≡◌, sym, ◌∙◌}
use native.Mathlib.Omega.{arith}
use lib.ListN.{length, drop, length-drop}
use borrow.Author.Tests.{eq-eqb, ne_eqb}
use Prim.Native.Nat.{◌+◌, ◌-◌, ◌≤◌}
use Rattle.octets.specs.Numbers.{net32}
use Rattle.octets.proofs.Lists.{eqb_comm}
use Rattle.message.proofs.Walks.{Passed, passes}
use Rattle.message.proofs.Policies.{without-v, with-v, room-v}
use Rattle.message.proofs.is_route.Goals as goal

pub overflow_add-at : goal.overflow_add-at
overflow_add-at c =
    let p : Passed (drop c.args.at c.args.m.now) = passes (drop c.args.at c.args.m.now) c.requires.1 in
    let w : 8 ≤ length c.args.m.now - c.args.at = rw length-drop at p.eight in
    omega (arith, w, c.requires.0)

pub bounds-m-at : goal.bounds-m-at
bounds-m-at c =
    let p : Passed (drop c.args.at c.args.m.now) = passes (drop c.args.at c.args.m.now) c.requires.1 in
    let w : 8 ≤ length c.args.m.now - c.args.at = rw length-drop at p.eight in
    omega (arith, w, c.requires.0)

pub returns-then-m-at-lt128 : goal.returns-then-m-at-lt128
returns-then-m-at-lt128 c =
    sym (without-v c.args.m.now c.args.at c.if-m-at-lt128.true)

pub overflow_add-at-2 : goal.overflow_add-at-2
overflow_add-at-2 c =
    omega (arith, room-v c.args.m.now c.args.at c.requires.0 c.requires.1 c.if-m-at-lt128.false)

pub read32-requires : goal.read32-requires
read32-requires c =
    omega (arith, room-v c.args.m.now c.args.at c.requires.0 c.requires.1 c.if-m-at-lt128.false)

pub returns-then-read32-ne10415 : goal.returns-then-read32-ne10415
returns-then-read32-ne10415 c =
    let m = c.args.m.now in
    let at = c.args.at in
    let n : net32 m (at + 8) ≡ 10415 → ⊥ = λ z. c.if-read32-ne10415.true (c.read32.ensures ∙ z) in
    sym (with-v m at c.if-m-at-lt128.false ∙ rw (ne_eqb 10415 (net32 m (at + 8)) (λ z. n (sym z))))

pub read32-requires-2 : goal.read32-requires-2
read32-requires-2 c =
    omega (arith, room-v c.args.m.now c.args.at c.requires.0 c.requires.1 c.if-m-at-lt128.false)

pub returns : goal.returns
returns c =
    let m = c.args.m.now in
    let at = c.args.at in
    let e : 10415 ≡ net32 m (at + 8) = sym c.if-read32-ne10415.false ∙ c.read32.ensures in
    rw c.read32-2.ensures
    (sym (with-v m at c.if-m-at-lt128.false ∙ rw (eq-eqb 10415 (net32 m (at + 8)) e) (eqb_comm 312 (net32 m at))))

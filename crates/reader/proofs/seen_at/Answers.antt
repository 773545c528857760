-- Every read lies in the header of an AVP that passes; the struct is that of `seen-base` and `seen-v`.
use mathlib.Core.Path.{sym, ◌∙◌}
use native.Mathlib.Omega.{arith}
use Rattle.reader.proofs.Laws.{head-12, head-8, inside, inside-8, long-enough, seen-v, seen-base}
use Rattle.reader.proofs.seen_at.Goals as goal

pub bounds-m-at : goal.bounds-m-at
bounds-m-at c =
    let a = c.args in
    let p = c.requires in
    omega (arith, inside-8 a.m.now a.at p.0 p.1)

pub read32-code-requires : goal.read32-code-requires
read32-code-requires c =
    let a = c.args in
    let p = c.requires in
    omega (arith, inside-8 a.m.now a.at p.0 p.1)

pub read24-n-requires : goal.read24-n-requires
read24-n-requires c =
    let a = c.args in
    let p = c.requires in
    omega (arith, inside-8 a.m.now a.at p.0 p.1)

pub overflow_sub-result : goal.overflow_sub-result
overflow_sub-result c =
    let a = c.args in
    let p = c.requires in
    omega (arith, long-enough a.m.now a.at p.1, head-8 a.m.now a.at c.if-flags-lt128.true)

pub returns-then-flags-lt128 : goal.returns-then-flags-lt128
returns-then-flags-lt128 c =
    let a = c.args in
    let p = c.requires in
    sym (seen-base a.m.now a.at c.if-flags-lt128.true ∙ rw (← c.read32-code.ensures, ← c.read24-n.ensures.0, ← p.2, ← p.3))

pub read32-vendor-requires : goal.read32-vendor-requires
read32-vendor-requires c =
    let a = c.args in
    let p = c.requires in
    omega (arith, inside a.m.now a.at p.0 p.1, head-12 a.m.now a.at c.if-flags-lt128.false)

pub overflow_sub-result-2 : goal.overflow_sub-result-2
overflow_sub-result-2 c =
    let a = c.args in
    let p = c.requires in
    omega (arith, long-enough a.m.now a.at p.1, head-12 a.m.now a.at c.if-flags-lt128.false)

pub returns : goal.returns
returns c =
    let a = c.args in
    let p = c.requires in
    sym (seen-v a.m.now a.at c.if-flags-lt128.false ∙ rw (← c.read32-code.ensures, ← c.read24-n.ensures.0, ← c.read32-vendor.ensures, ← p.2, ← p.3))

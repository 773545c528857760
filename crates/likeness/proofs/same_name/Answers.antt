-- Other codes are other names; where they are the same, V decides, and with V the vendor.
use mathlib.Core.Path.{◌≡◌, sym, ◌∙◌}
use Prim.Native.Nat.{◌+◌}
use native.Mathlib.Omega.{arith}
use Rattle.likeness.proofs.Places.{names-codes, names-when-base, names-right, names-when-vendor, head-of-12}
use Rattle.octets.specs.Numbers.{net32}
use Rattle.likeness.proofs.same_name.Goals as goal

pub returns-then-read32 : goal.returns-then-read32
returns-then-read32 c =
    let given = c.args in
    let test1 = c.if-read32 in
    let read32-was = c.read32 in
    let read322-was = c.read32-2 in
    sym (names-codes given.a.now given.p given.b.now given.q (λ z. test1.true (read32-was.ensures ∙ z ∙ sym read322-was.ensures)))

pub returns-then-a-p-lt128 : goal.returns-then-a-p-lt128
returns-then-a-p-lt128 c =
    let given = c.args in
    let read32-was = c.read32 in
    let test1 = c.if-read32 in
    let read322-was = c.read32-2 in
    let test2 = c.if-a-p-lt128 in
    sym (names-when-base given.a.now given.p given.b.now given.q (sym read32-was.ensures ∙ test1.false ∙ read322-was.ensures) test2.true)

pub returns-then-b-q-lt128 : goal.returns-then-b-q-lt128
returns-then-b-q-lt128 c =
    let given = c.args in
    let test2 = c.if-a-p-lt128 in
    let test3 = c.if-b-q-lt128 in
    sym (names-right given.a.now given.p given.b.now given.q (omega (arith, test2.false)) test3.true)

pub read32-requires-3 : goal.read32-requires-3
read32-requires-3 c =
    let pre-was = c.requires in
    let given = c.args in
    let test2 = c.if-a-p-lt128 in
    omega (arith, pre-was.0.head, pre-was.0.end, head-of-12 given.a.now given.p (omega (arith, test2.false)))

pub read32-requires-4 : goal.read32-requires-4
read32-requires-4 c =
    let pre-was = c.requires in
    let given = c.args in
    let test3 = c.if-b-q-lt128 in
    omega (arith, pre-was.1.head, pre-was.1.end, head-of-12 given.b.now given.q (omega (arith, test3.false)))

pub returns : goal.returns
returns c =
    let read323-was = c.read32-3 in
    let given = c.args in
    let read324-was = c.read32-4 in
    let read32-was = c.read32 in
    let test1 = c.if-read32 in
    let read322-was = c.read32-2 in
    let test2 = c.if-a-p-lt128 in
    let test3 = c.if-b-q-lt128 in
    let e : read323-was.result ≡ net32 given.a.now (given.p + 8) = read323-was.ensures in
    let f : read324-was.result ≡ net32 given.b.now (given.q + 8) = read324-was.ensures in
    rw (e, f) (sym (names-when-vendor given.a.now given.p given.b.now given.q (sym read32-was.ensures ∙ test1.false ∙ read322-was.ensures) (omega (arith, test2.false)) (omega (arith, test3.false))))

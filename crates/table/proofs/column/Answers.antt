use mathlib.Core.Path.{◌∙◌, ◌≡◌, ap}
use Prim.Native.Nat.{◌*◌, ◌+◌, ℕ}
use native.Mathlib.Omega.{arith}
use lib.ListN.{get_or}
use Rattle.table.proofs.Columns.{column-end, column-end2, column-turn, column-turn2}
use Rattle.table.proofs.column.Goals as goal

pub loop-k-init : goal.loop-k-init
loop-k-init c = (omega arith, omega arith, omega arith, omega arith, omega arith, omega arith)

pub loop-k-preserved : goal.loop-k-preserved
loop-k-preserved c =
    let from-was = c.from-a in
    let given = c.args in
    let loop-was = c.loop-k in
    let this : from-was.result ≡ get_or given.s.now (given.j + 32 * loop-was.k) 0 = from-was.ensures ∙ ap (λ (i : ℕ). get_or given.s.now i 0) loop-was.invariant.1 in
    (omega arith, omega arith, omega (arith, from-was.ensures, c.type_inv.s loop-was.at), omega (arith, from-was.ensures, c.type_inv.s loop-was.at), column-turn given.s.now given.j loop-was.k loop-was.a from-was.result (omega arith) this ∙ loop-was.invariant.4, column-turn2 given.s.now given.j loop-was.k loop-was.a loop-was.b from-was.result (omega arith) this ∙ loop-was.invariant.5)

pub returns : goal.returns
returns c =
    let given = c.args in
    let loop-was = c.loop-k in
    (omega (arith, column-end given.s.now given.j loop-was.k (omega arith)), omega (arith, column-end2 given.s.now given.j loop-was.k loop-was.a (omega arith)), omega arith, omega arith)

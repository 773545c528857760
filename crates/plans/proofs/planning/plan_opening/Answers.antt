-- Below the limit there is room; at the limit there is an access to cut.
use Rattle.table.specs.Soundness.{on_entry}
use Rattle.table.specs.TheTable.{read_row}
use Rattle.rules.specs.Deciding.{first_on, entry_at}
use Rattle.row.proofs.Entries.{row_of}
use Rattle.plans.proofs.Found.{line-sound}
use Rattle.plans.proofs.Verdicts.{opens, cuts, one-to-cut, fit-open, fit_cut}
use mathlib.Core.Path.{◌≡◌}
use Prim.Native.Nat.{◌<◌, ◌≤◌}
use native.Mathlib.Omega.{arith}
use lib.ListN.{length}
use Rattle.plans.proofs.planning.plan_opening.Goals as goal

pub accesses_on-requires : goal.accesses_on-requires
accesses_on-requires c = let p = c.requires in
    (row_of c.args.row.now p.0, line-sound c.args.row.now p.0)

pub returns-then-accesses_on-from : goal.returns-then-accesses_on-from
returns-then-accesses_on-from c =
    let a = c.args in
    let row = c.args.row.now in
    let s = read_row row in
    let below : length (on_entry a.n s.accesses) < (entry_at a.n s).limit =
    omega (arith, c.if-accesses_on-from.true, c.from.ensures, c.limit_of.ensures, c.accesses_on.ensures.0) in
    (λ o p. opens a.n (record { opening = o; policies = p }) s below, fit-open row c.requires.0 a.n c.requires.1 c.requires.2 below)

pub returns : goal.returns
returns c =
    let a = c.args in
    let row = c.args.row.now in
    let s = read_row row in
    let full : (entry_at a.n s).limit ≤ length (on_entry a.n s.accesses) =
    omega (arith, c.if-accesses_on-from.false, c.from.ensures, c.limit_of.ensures, c.accesses_on.ensures.0) in
    let some : first_on a.n s.accesses ≡ 0 → ⊥ = one-to-cut row a.n c.requires.0 c.requires.1 c.requires.2 full in
    rw c.first_on.ensures.0
    (λ o p. cuts a.n (record { opening = o; policies = p }) s full some, fit_cut row c.requires.0 a.n c.requires.1 c.requires.2 some)

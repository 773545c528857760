use mathlib.Core.Path.{◌∙◌, ◌≡◌, ap, sym}
use mathlib.Core.Bool.{false, true}
use Prim.Native.Nat.{◌*◌}
use native.Mathlib.Omega.{arith}
use lib.ListN.{drop, length}
use Rattle.octets.specs.Texts.{part}
use Rattle.octets.proofs.Texts.{length_part}
use Rattle.table.specs.Soundness.{entry_form}
use Rattle.table.proofs.Tests.{fails, passes_on, rest-zero}
use Rattle.table.proofs.Entries.{entries-all, entries-end, entries-turn}
use Rattle.blocks.proofs.entries_form.Goals as goal

pub loop-i-init : goal.loop-i-init
loop-i-init c = entries-all c.args.n c.args.room.now

pub entry_form-requires : goal.entry_form-requires
entry_form-requires c = ap length c.entry.ensures ∙ length_part c.args.room.now (104 * c.loop-i.i) 104 (omega arith)

pub returns-then-not-entry_form : goal.returns-then-not-entry_form
returns-then-not-entry_form c =
    let given = c.args in
    let i = c.loop-i.i in
    let form : entry_form (part given.room.now (104 * i) 104) ≡ false = ap entry_form (sym c.entry.ensures) ∙ fails c.entry_form.ensures c.if-not-entry_form.true in
    sym (entries-turn given.n i given.room.now (omega arith) ∙ rw form) ∙ c.loop-i.invariant

pub loop-i-preserved : goal.loop-i-preserved
loop-i-preserved c =
    let given = c.args in
    let i = c.loop-i.i in
    let form : entry_form (part given.room.now (104 * i) 104) ≡ true = ap entry_form (sym c.entry.ensures) ∙ passes_on c.entry_form.ensures c.if-not-entry_form.false in
    sym (entries-turn given.n i given.room.now (omega arith) ∙ rw form) ∙ c.loop-i.invariant

pub returns : goal.returns
returns c =
    let given = c.args in
    let i = c.loop-i.i in
    c.all_zero.ensures ∙ rest-zero given.room.now (104 * given.n) (104 * i) (omega arith) (omega arith) ∙ sym (entries-end given.n i (drop (104 * i) given.room.now) (omega arith)) ∙ c.loop-i.invariant

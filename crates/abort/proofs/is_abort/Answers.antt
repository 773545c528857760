-- A first byte that is not zero makes the command larger; else the other two decide: `two_bytes`.
use mathlib.Core.Path.{◌≡◌, sym, ap, ◌∙◌}
use Prim.Native.Nat.{ℕ}
use borrow.Author.Tests.{ne_eqb}
use lib.Dec.{eqb}
use Rattle.message.specs.ReadingAMessage.{command}
use Rattle.abort.proofs.Answers.{command-two, command-not}
use Rattle.abort.proofs.is_abort.Goals as goal

pub returns-then-m-eq0 : goal.returns-then-m-eq0
returns-then-m-eq0 c =
    ap (λ (k : ℕ). eqb k 274) (c.from_be_bytes.ensures ∙ sym (command-two c.args.m.now c.if-m-eq0.true))

pub returns-else-m-eq0 : goal.returns-else-m-eq0
returns-else-m-eq0 c = rw (ne_eqb _ 0 c.if-m-eq0.false) (sym (command-not c.args.m.now c.if-m-eq0.false))

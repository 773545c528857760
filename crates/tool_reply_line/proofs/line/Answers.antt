use mathlib.Core.Path.{sym, ◌∙◌}
use Prim.Native.Nat.{◌-◌, ◌≤◌}
use native.Mathlib.Omega.{arith}
use borrow.Author.Tests.{not-false}
use borrow.Author.Rules.{rules}
use Rattle.tool_reply_line.proofs.line.Goals as goal

pub line_place-requires : goal.line_place-requires
line_place-requires c =
    let is-row-was = c.is_row in
    let test1 = c.if-not-is_row in
    let loop-test-was = c.loop-i-test in
    (is-row-was.ensures.1 (test1.false), omega (arith, loop-test-was.true))

pub standing-a-requires : goal.standing-a-requires
standing-a-requires c =
    let is-row-was = c.is_row in
    let test1 = c.if-not-is_row in
    sym is-row-was.ensures.0 ∙ test1.false

-- V first, then the code.
use mathlib.Core.Path.{sym}
use Prim.Native.Nat.{◌+◌}
use borrow.Author.Tests.{le-ltb}
use lib.ListN.{get_or}
use Rattle.answers.proofs.Proxies.{proxy-v, proxy-base}
use Rattle.answers.proofs.is_proxy.Goals as goal

pub returns-then-m-at-lt128 : goal.returns-then-m-at-lt128
returns-then-m-at-lt128 c =
    let a = c.args in
    rw c.read32.ensures (sym (proxy-base a.m.now a.at c.if-m-at-lt128.true))

pub returns-else-m-at-lt128 : goal.returns-else-m-at-lt128
returns-else-m-at-lt128 c =
    let a = c.args in
    rw (le-ltb (get_or a.m.now (a.at + 4) 0) 128 c.if-m-at-lt128.false) (sym (proxy-v a.m.now a.at c.if-m-at-lt128.false))

-- Seven ways out without a Session-Id, and one with it: a law of Sessions each.
use mathlib.Core.Path.{sym, ◌∙◌}
use native.Mathlib.Omega.{arith}
use Rattle.octets.specs.Numbers.{up4}
use Rattle.answers.proofs.Sessions.{session-few, session-bits, session-v, session-code, session-short, session-long, session-past, session-found}
use Rattle.answers.proofs.session_length.Goals as goal

pub returns-then-m-lt28 : goal.returns-then-m-lt28
returns-then-m-lt28 c =
    let m = c.args.m.now in
    (session-few m c.if-m-lt28.true)

pub returns-then-flags-ne0 : goal.returns-then-flags-ne0
returns-then-flags-ne0 c =
    let m = c.args.m.now in
    (session-bits m c.if-flags-ne0.true)

pub returns-then-flags-ge128 : goal.returns-then-flags-ge128
returns-then-flags-ge128 c =
    let m = c.args.m.now in
    (session-v m c.if-flags-ge128.true)

pub returns-then-read32-ne263 : goal.returns-then-read32-ne263
returns-then-read32-ne263 c =
    let m = c.args.m.now in
    (session-code m c.if-flags-ge128.false (λ e. c.if-read32-ne263.true (c.read32.ensures ∙ e)))

pub returns-then-n-lt9 : goal.returns-then-n-lt9
returns-then-n-lt9 c =
    let m = c.args.m.now in
    (session-short m c.if-flags-ge128.false (omega (arith, c.read24-n.ensures.0, c.if-n-lt9.true)))

pub returns-then-n-gt136 : goal.returns-then-n-gt136
returns-then-n-gt136 c =
    let m = c.args.m.now in
    (session-long m c.if-flags-ge128.false (omega (arith, c.read24-n.ensures.0, c.if-n-gt136.true)))

pub returns-then-m-n : goal.returns-then-m-n
unfolding up4
returns-then-m-n c =
    let m = c.args.m.now in
    (session-past m (omega (arith, c.read24-n.ensures.0, c.if-m-n.true)))

pub returns : goal.returns
unfolding up4
returns c =
    let m = c.args.m.now in
    let e = c.read24-n.ensures.0 in
    rw e
    (session-found m c.if-flags-ge128.false (omega (arith, c.if-m-lt28.false)) c.if-flags-ne0.false (sym c.read32.ensures ∙ c.if-read32-ne263.false)
    (omega (arith, e, c.if-n-lt9.false)) (omega (arith, e, c.if-n-gt136.false)) (omega (arith, e, c.if-m-n.false)))

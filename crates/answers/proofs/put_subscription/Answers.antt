-- A group of a number and the name, or nothing.
use mathlib.Core.Path.{◌≡◌, sym, ◌∙◌}
use mathlib.Core.List.{◌++◌}
use Prim.Native.Nat.{◌+◌, ◌-◌, ◌*◌, ◌/◌, ◌≤◌}
use native.Mathlib.Omega.{arith}
use lib.ListN.{length}
use Rattle.octets.specs.Texts.{part}
use Rattle.octets.specs.Numbers.{in32, up4}
use Rattle.octets.proofs.Texts.{length_part}
use Rattle.message.specs.ReadingAMessage.{user_name}
use Rattle.message.specs.Codes.{plain}
use Rattle.message.specs.Spans.{Holds}
use Rattle.message.specs.WritingTheAnswer.{avp_bytes, subscription_avp}
use Rattle.answers.proofs.Writing.{length-number, written_none, written_then, group-put, subscription-other, subscription-fail, subscription-is, subscription-length, up4-twice}
use Rattle.answers.proofs.put_subscription.Goals as goal
use Rattle.answers.proofs.put_subscription.Goals.{Else-code-ne2001}

named : (p : Else-code-ne2001) → Holds p.args.m.now user_name p.args.user
named p = p.requires.2 (sym p.read24.ensures.0 ∙ p.if-read24-ne265.false) p.if-code-ne2001.false

short : (p : Else-code-ne2001) → p.args.user.len ≤ 128
short p = p.requires.3 (sym p.read24.ensures.0 ∙ p.if-read24-ne265.false) p.if-code-ne2001.false

pub returns-then-read24-ne265 : goal.returns-then-read24-ne265
returns-then-read24-ne265 c =
    let a = c.args in
    written_none a.room.now a.at (subscription_avp a.m.now (plain a.code))
    (subscription-other a.m.now a.code (λ z. c.if-read24-ne265.true (c.read24.ensures.0 ∙ z)))

pub returns-then-code-ne2001 : goal.returns-then-code-ne2001
returns-then-code-ne2001 c =
    let a = c.args in
    written_none a.room.now a.at (subscription_avp a.m.now (plain a.code)) (subscription-fail a.m.now a.code c.if-code-ne2001.true)

pub overflow_add-e : goal.overflow_add-e
overflow_add-e c = omega (arith, (named c).inside, c.well_formed.0)

pub overflow_add-whole : goal.overflow_add-whole
overflow_add-whole c = omega (arith, short c)

pub overflow_mul-whole : goal.overflow_mul-whole
overflow_mul-whole c = omega (arith, short c)

pub overflow_add-whole-2 : goal.overflow_add-whole-2
overflow_add-whole-2 c =
    let w = goal.at.overflow_add-whole-2 c in
    omega (arith, short w.Else-code-ne2001)

pub put_head-requires : goal.put_head-requires
put_head-requires c = omega (arith, c.requires.1)

pub overflow_add-at : goal.overflow_add-at
overflow_add-at c = omega (arith, c.requires.1)

pub put_number-next-requires : goal.put_number-next-requires
put_number-next-requires c =
    omega (
      arith,
      c.put_head.auto.room,
      c.requires.1,
    )

pub slice_bounds-put_avp-end : goal.slice_bounds-put_avp-end
slice_bounds-put_avp-end c =
    let w = goal.at.slice_bounds-put_avp-end c in
    omega (arith, (named w.Else-code-ne2001).inside)

-- before what `put_avp` asks: a wrong number inside the group is refused here, and not at a bound
pub returns : goal.returns
unfolding up4
returns c =
    let w = goal.at.returns c in
    let a = c.args in
    let m = c.args.m.now in
    let u = c.args.user in
    let v = part m u.at u.len in
    let e : u.at + u.len - u.at ≡ u.len = omega arith in
    let l : length v ≡ u.len = length_part m u.at u.len
    (named w.Else-code-ne2001).inside in
    let k = subscription-length v in
    let h = c.put_head in
    let p = c.put_number-next in
    let q = c.put_avp in
    let inner = rw e at q.ensures in
    rw (subscription-is m a.code (sym c.read24.ensures.0 ∙ c.if-read24-ne265.false) c.if-code-ne2001.false, ← (named w.Else-code-ne2001).value)
    (group-put a.room.now h.new.room q.new.room a.at q.result 443 (28 + (u.len + 3) / 4 * 4) (avp_bytes 450 (in32 1) ++ avp_bytes 444 v)
    h.ensures
    (omega (arith, k, l)) (rw k (up4-twice (length v)))
    (omega (arith, c.requires.1))
    (written_then h.new.room p.new.room q.new.room (a.at + 8) p.result q.result (avp_bytes 450 (in32 1)) (avp_bytes 444 v) p.ensures
    inner (omega (
      arith,
      length-number 450 1,
      h.auto.room,
      c.requires.1,
    ))))

pub put_avp-requires : goal.put_avp-requires
put_avp-requires c =
    let w = goal.at.put_avp-requires c in
    let u = c.args.user in
    let m = c.args.m.now in
    let e : u.at + u.len - u.at ≡ u.len = omega arith in
    let l = length_part m u.at u.len (named w.Else-code-ne2001).inside in
    rw e (omega (
      arith,
      l,
      short w.Else-code-ne2001,
      c.put_number-next.ensures.place,
      length-number 450 1,
      c.put_number-next.auto.room,
      c.put_head.auto.room,
      c.requires.1,
    ))

-- The two AVPs of a 265 one behind the other, or nothing.
use mathlib.Core.Path.{sym, ◌∙◌}
use native.Mathlib.Omega.{arith}
use Rattle.octets.specs.Numbers.{in32}
use Rattle.message.specs.WritingTheAnswer.{avp_bytes, auth_avps}
use Rattle.message.specs.Codes.{plain}
use Rattle.answers.proofs.Writing.{length-number, written_none, written_then, auth-other, auth-3xxx, auth-is}
use Rattle.answers.proofs.put_auth.Goals as goal

pub returns-then-read24-ne265 : goal.returns-then-read24-ne265
returns-then-read24-ne265 c =
    let a = c.args in
    written_none a.room.now a.at (auth_avps a.m.now (plain a.code))
    (auth-other a.m.now a.code (λ z. c.if-read24-ne265.true (c.read24.ensures.0 ∙ z)))

pub returns-then-is_3xxx : goal.returns-then-is_3xxx
returns-then-is_3xxx c =
    let a = c.args in
    written_none a.room.now a.at (auth_avps a.m.now (plain a.code))
    (auth-3xxx a.m.now a.code (sym c.read24.ensures.0 ∙ c.if-read24-ne265.false)
    (sym c.is_3xxx.ensures ∙ c.if-is_3xxx.true))

pub put_number-requires : goal.put_number-requires
put_number-requires c =
    let p = c.put_number-next in
    omega (
      arith,
      p.ensures.place,
      length-number 258 1,
      p.auto.room,
      c.requires.1,
    )

pub returns : goal.returns
returns c =
    let a = c.args in
    let p = c.put_number-next in
    let q = c.put_number in
    rw (auth-is a.m.now a.code (sym c.read24.ensures.0 ∙ c.if-read24-ne265.false) (sym c.is_3xxx.ensures ∙ c.if-is_3xxx.false))
    (written_then a.room.now p.new.room q.new.room a.at p.result q.result (avp_bytes 258 (in32 1)) (avp_bytes 274 (in32 2))
    p.ensures q.ensures (omega (
      arith,
      length-number 258 1,
      c.requires.1,
    )))

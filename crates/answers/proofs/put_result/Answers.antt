-- By the kind: nothing, one AVP, or a group of two.
use mathlib.Core.Path.{◌≡◌}
use mathlib.Core.List.{◌++◌}
use Prim.Native.Nat.{◌+◌}
use native.Mathlib.Omega.{arith}
use lib.ListN.{length, length-append}
use Rattle.octets.specs.Numbers.{in32, up4}
use Rattle.message.specs.WritingTheAnswer.{avp_bytes, result_avp}
use Rattle.message.specs.Kinds.{code_from}
use Rattle.answers.proofs.Writing.{length-number, written-nothing, written_then, group-put}
use Rattle.answers.proofs.put_result.Goals as goal

pub put_number-requires-in-Experimental : goal.put_number-requires-in-Experimental
put_number-requires-in-Experimental c =
    let p = c.put_number-next in (
      omega (
        arith,
        p.ensures.place,
        length-number 266 10415,
        p.auto.room,
        c.put_head.auto.room,
        c.requires.0,
      ),
      c.requires.1,
    )

pub returns-in-NoAnswer : goal.returns-in-NoAnswer
unfolding result_avp code_from
returns-in-NoAnswer c =
    let a = c.args in
    rw c.in-NoAnswer.is (written-nothing a.room.now a.at)

pub returns-in-Plain : goal.returns-in-Plain
unfolding result_avp code_from
returns-in-Plain c = rw c.in-Plain.is c.put_number.ensures

pub returns-in-Experimental : goal.returns-in-Experimental
unfolding result_avp code_from up4
returns-in-Experimental c =
    let a = c.args in
    let h = c.put_head in
    let p = c.put_number-next in
    let q = c.put_number-in-Experimental in
    let l : length (avp_bytes 266 (in32 10415) ++ avp_bytes 298 (in32 a.code)) ≡ 24 = rw (
      length-append (avp_bytes 266 (in32 10415))
          (avp_bytes 298 (in32 a.code)),
      length-number 266 10415,
      length-number 298 a.code,
    ) in
    rw c.in-Experimental.is
    (group-put a.room.now h.new.room q.new.room a.at q.result 297 32 (avp_bytes 266 (in32 10415) ++ avp_bytes 298 (in32 a.code))
    h.ensures (rw l) (rw l) (omega (
      arith,
      c.requires.0,
    ))
    (written_then h.new.room p.new.room q.new.room (a.at + 8) p.result q.result (avp_bytes 266 (in32 10415))
    (avp_bytes 298 (in32 a.code)) p.ensures q.ensures
    (omega (
      arith,
      length-number 266 10415,
      h.auto.room,
      c.requires.0,
    ))))

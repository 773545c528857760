-- Zeros where the padding stands, then head and value over them: `avp-put`.
use native.Mathlib.Omega.{arith}
use Rattle.octets.specs.Numbers.{up4}
use Rattle.octets.specs.Texts.{zeros}
use Rattle.answers.proofs.Writing.{length-avp, avp-put}
use Rattle.answers.proofs.put_avp.Goals as goal

pub returns : goal.returns
unfolding up4 zeros
returns c =
    let a = c.args in
    let v = c.args.value.now in
    record {
      place = rw (length-avp a.code v) (omega arith);
      bytes-put = rw (c.put_name.ensures, c.put_head.ensures, c.put_bytes.ensures)
          (avp-put a.room.now a.at a.code v (omega arith));
    }

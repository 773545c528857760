-- The four bytes of the code are the value of Result-Code.
use Rattle.octets.specs.Numbers.{in32}
use Rattle.message.specs.WritingTheAnswer.{result_avp}
use Rattle.gateway.proofs.put_code.Goals as goal

pub returns : goal.returns
unfolding result_avp in32
returns c = rw c.to_be_bytes.ensures at c.put_avp.ensures

-- The eight bytes are those of the definition.
use Rattle.octets.specs.Numbers.{in24, in32}
use Rattle.answers.specs.Answers.{head_bytes}
use Rattle.answers.proofs.put_head.Goals as goal

pub returns : goal.returns
unfolding head_bytes in24 in32
returns c = rw (c.to_be_bytes.ensures, c.to_be_bytes-2.ensures) at c.put_bytes.ensures

-- The twelve bytes are those of the definition.
use Rattle.octets.specs.Numbers.{in24, in32}
use Rattle.gateway.specs.Code.{vendor_head}
use Rattle.gateway.proofs.put_vendor_head.Goals as goal

pub returns : goal.returns
unfolding vendor_head in24 in32
returns c = rw (c.to_be_bytes.ensures, c.to_be_bytes-2.ensures) at c.put_bytes.ensures

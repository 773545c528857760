-- Zeros where the padding stands, then head and value over them: `vendor-put`.
use native.Mathlib.Omega.{arith}
use Rattle.octets.specs.Numbers.{up4}
use Rattle.octets.specs.Texts.{zeros}
use Rattle.gateway.proofs.Writing.{length-vendor, vendor-put}
use Rattle.gateway.proofs.put_vendor.Goals as goal

pub returns : goal.returns
unfolding up4 zeros
returns c =
    let given = c.args in
    let put-bytes2-was = c.put_bytes-2 in
    let put-vendor-head-was = c.put_vendor_head in
    let put-bytes-was = c.put_bytes in
    record { place = rw (length-vendor given.code given.value.now) (omega arith); bytes-put = rw (put-bytes2-was.ensures, put-vendor-head-was.ensures, put-bytes-was.ensures) (vendor-put given.room.now given.at given.code given.value.now (omega arith)) }

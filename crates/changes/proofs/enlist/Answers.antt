-- Two bytes, the sums with them: `listed` of Sums.
use mathlib.Core.Path.{◌∙◌}
use Prim.Native.Nat.{◌+◌}
use native.Mathlib.Omega.{arith}
use Rattle.changes.proofs.Sums.{listed, marked-long, sealed-agrees, sealed-long, sealed-set}
use Rattle.changes.proofs.enlist.Goals as goal

pub put_byte-requires-2 : goal.put_byte-requires-2
put_byte-requires-2 c =
    let marked = marked-long c.args.block.now c.requires.0 c.args.bits in
    let u = c.put_byte in
    (sealed-long _ marked u.new.block u.ensures, sealed-agrees _ marked u.new.block u.ensures, omega arith)

pub returns : goal.returns
returns c =
    let b = c.args.block.now in
    let bits = c.args.bits in
    let count = c.args.count in
    let place = c.args.place in
    let u = c.put_byte in
    let v = c.put_byte-2 in
    sealed-set _ (marked-long b c.requires.0 bits) u.new.block v.new.block (20 + count) place u.ensures v.ensures
    ∙ listed b c.requires.0 bits count place c.requires.2

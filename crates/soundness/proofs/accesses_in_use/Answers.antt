-- The ones of byte 17 are the places on an exact line: `ones-line` of Line.
use mathlib.Core.Path.{◌∙◌, ap}
use native.Mathlib.Omega.{arith}
use lib.Count.{ones}
use Rattle.soundness.proofs.Line.{line-most, ones-line}
use Rattle.soundness.proofs.accesses_in_use.Goals as goal

pub overflow_cast-result : goal.overflow_cast-result
overflow_cast-result c =
    let used-bits-was = c.used_bits in
    let given = c.args in
    let pre-was = c.requires in
    omega (arith, ap ones used-bits-was.ensures ∙ ones-line given.r.now pre-was.1, line-most given.r.now)

pub returns : goal.returns
returns c =
    let used-bits-was = c.used_bits in
    let given = c.args in
    let pre-was = c.requires in
    let all = ap ones used-bits-was.ensures ∙ ones-line given.r.now pre-was.1 in
    (all, omega (arith, all, line-most given.r.now))

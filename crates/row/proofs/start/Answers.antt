-- The places share what is behind block 0, so that each has the length of the form.
use native.Mathlib.Omega.{arith}
use Rattle.row.proofs.Places.{place-within, row-sizes, start_is}
use Rattle.row.proofs.start.Goals as goal

pub overflow_sub-stride : goal.overflow_sub-stride
overflow_sub-stride c =
    let given = c.args in
    let pre-was = c.requires in
    omega (arith, (row-sizes given.r.now pre-was.0).0)

pub overflow_mul-result : goal.overflow_mul-result
overflow_mul-result c =
    let given = c.args in
    let pre-was = c.requires in
    omega (arith, start_is given.r.now given.k pre-was.0, place-within given.r.now given.k pre-was.0 pre-was.1 pre-was.2, row-sizes given.r.now pre-was.0)

pub overflow_add-result : goal.overflow_add-result
overflow_add-result c =
    let given = c.args in
    let pre-was = c.requires in
    omega (arith, start_is given.r.now given.k pre-was.0, place-within given.r.now given.k pre-was.0 pre-was.1 pre-was.2, row-sizes given.r.now pre-was.0)

pub returns : goal.returns
returns c =
    let given = c.args in
    let pre-was = c.requires in
    let sizes = row-sizes given.r.now pre-was.0 in
    let at = start_is given.r.now given.k pre-was.0 in
    (at, omega arith, omega (arith, at, place-within given.r.now given.k pre-was.0 pre-was.1 pre-was.2), sizes.0, sizes.1, sizes.2)

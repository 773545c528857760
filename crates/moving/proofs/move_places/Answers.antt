use mathlib.Core.Path.{◌≡◌, refl, ap, ◌∙◌}
use Prim.Native.Nat.{ℕ, ◌+◌, ◌*◌, ◌/◌, ◌%◌}
use native.Mathlib.Omega.{arith}
use lib.ListN.{length}
use Rattle.octets.proofs.Pieces.{piece-ends}
use Rattle.table.specs.TheTable.{block_length}
use Rattle.table.proofs.Rows.{lent_length}
use Rattle.moving.proofs.Built.{back-built, back-length, built-all, built-start}
use Rattle.moving.proofs.Steps.{eight-parts, first-size, place-by, place_from, places-built}
use Rattle.moving.proofs.move_places.Goals as goal

pub loop-k-init : goal.loop-k-init
loop-k-init c =
    let given = c.args in
    (omega arith, refl, built-start (place_from (length given.places.now / 8) given.from.now) (length given.places.now / 8) given.places.now)

pub overflow_mul-a : goal.overflow_mul-a
overflow_mul-a c =
    let given = c.args in
    let loop-was = c.loop-k in
    let loop-test-was = c.loop-k-test in
    let pre-was = c.requires in
    omega (arith, piece-ends (length given.places.now / 8) loop-was.k 8 loop-test-was.true, (eight-parts (length given.places.now) pre-was.1 pre-was.2 pre-was.3).0)

pub overflow_add-e : goal.overflow_add-e
overflow_add-e c =
    let given = c.args in
    let loop-was = c.loop-k in
    let loop-test-was = c.loop-k-test in
    let pre-was = c.requires in
    omega (arith, piece-ends (length given.places.now / 8) loop-was.k 8 loop-test-was.true, (eight-parts (length given.places.now) pre-was.1 pre-was.2 pre-was.3).0)

pub first-requires : goal.first-requires
first-requires c =
    let pre-was = c.requires in
    (pre-was.0, omega arith, omega arith)

pub slice_bounds-move_place-start : goal.slice_bounds-move_place-start
slice_bounds-move_place-start c = omega arith

pub slice_bounds-move_place-end : goal.slice_bounds-move_place-end
slice_bounds-move_place-end c =
    let given = c.args in
    let loop-was = c.loop-k in
    let loop-test-was = c.loop-k-test in
    let pre-was = c.requires in
    omega (arith, piece-ends (length given.places.now / 8) loop-was.k 8 loop-test-was.true, (eight-parts (length given.places.now) pre-was.1 pre-was.2 pre-was.3).0, loop-was.invariant.1)

pub move_place-requires : goal.move_place-requires
move_place-requires c =
    let loop-was = c.loop-k in
    let given = c.args in
    let loop-test-was = c.loop-k-test in
    let pre-was = c.requires in
    let first-was = c.first in
    let l = (lent_length loop-was.places ((length given.places.now / 8) * loop-was.k) (length given.places.now / 8) (omega (arith, piece-ends (length given.places.now / 8) loop-was.k 8 loop-test-was.true, (eight-parts (length given.places.now) pre-was.1 pre-was.2 pre-was.3).0, loop-was.invariant.1))) in let z = eight-parts (length given.places.now) pre-was.1 pre-was.2 pre-was.3 in (first-size given.from.now loop-was.k first-was.result.now pre-was.0 loop-test-was.true first-was.ensures, omega (arith, l, z.1), omega (arith, l, z.2), ap (λ (n : ℕ). n % block_length) l ∙ z.3)

pub loop-k-preserved : goal.loop-k-preserved
loop-k-preserved c =
    let move-place-was = c.move_place in
    let given = c.args in
    let loop-was = c.loop-k in
    let loop-test-was = c.loop-k-test in
    let pre-was = c.requires in
    let first-was = c.first in
    let s : length move-place-was.new.place ≡ (length given.places.now / 8) = move-place-was.auto.place ∙ (lent_length loop-was.places ((length given.places.now / 8) * loop-was.k) (length given.places.now / 8) (omega (arith, piece-ends (length given.places.now / 8) loop-was.k 8 loop-test-was.true, (eight-parts (length given.places.now) pre-was.1 pre-was.2 pre-was.3).0, loop-was.invariant.1))) in (omega arith, back-length loop-was.places ((length given.places.now / 8) * loop-was.k) ((length given.places.now / 8) * loop-was.k + (length given.places.now / 8)) move-place-was.new.place (omega arith) (omega (arith, piece-ends (length given.places.now / 8) loop-was.k 8 loop-test-was.true, (eight-parts (length given.places.now) pre-was.1 pre-was.2 pre-was.3).0, loop-was.invariant.1)) (omega (arith, s)) ∙ loop-was.invariant.1, back-built (place_from (length given.places.now / 8) given.from.now) (length given.places.now / 8) loop-was.k ((length given.places.now / 8) * loop-was.k + (length given.places.now / 8)) loop-was.places move-place-was.new.place refl loop-was.invariant.2 (place-by (length given.places.now / 8) _ given.from.now loop-was.k first-was.result.now move-place-was.new.place first-was.ensures (lent_length loop-was.places ((length given.places.now / 8) * loop-was.k) (length given.places.now / 8) (omega (arith, piece-ends (length given.places.now / 8) loop-was.k 8 loop-test-was.true, (eight-parts (length given.places.now) pre-was.1 pre-was.2 pre-was.3).0, loop-was.invariant.1))) move-place-was.ensures) s (omega (arith, piece-ends (length given.places.now / 8) loop-was.k 8 loop-test-was.true, (eight-parts (length given.places.now) pre-was.1 pre-was.2 pre-was.3).0, loop-was.invariant.1)))

pub returns : goal.returns
returns c =
    let given = c.args in
    let loop-was = c.loop-k in
    let pre-was = c.requires in
    built-all (place_from (length given.places.now / 8) given.from.now) (length given.places.now / 8) 8 loop-was.k loop-was.places (omega (arith, loop-was.invariant.1, (eight-parts (length given.places.now) pre-was.1 pre-was.2 pre-was.3).0)) (omega arith) loop-was.invariant.2 ∙ places-built (length given.places.now / 8) given.from.now

-- The place that is lent and comes back: `route-law` of Rows.
use mathlib.Core.Path.{◌≡◌, sym, ap, ◌∙◌}
use mathlib.Core.List.{List}
use Prim.Native.Nat.{ℕ, ◌+◌, ◌-◌, ◌/◌, ◌≤◌}
use native.Mathlib.Omega.{arith}
use lib.ListN.{length}
use Rattle.octets.specs.Texts.{put}
use Rattle.octets.proofs.Texts.{back-put}
use Rattle.table.specs.TheTable.{block_length, Policies, form_of, place}
use Rattle.table.proofs.Form.{is-sized}
use Rattle.table.proofs.Rows.{lent_length}
use Rattle.changes.specs.Writes.{routed_bytes}
use Rattle.changes.proofs.Rows.{lent-place, place_in, place-long, room_of, route-law, row-size, row_sized}
use Rattle.changes.proofs.replace_policies.Goals as goal

pub start-a-requires : goal.start-a-requires
start-a-requires c =
    let r = c.args.row.now in
    let w = place_in r c.requires.0 c.args.k c.requires.1 in
    (is-sized r (row_sized r c.requires.0), w.0, w.1)

pub write_policies-requires : goal.write_policies-requires
write_policies-requires c =
    let r = c.args.row.now in
    let at = c.start-a in
    let n : ℕ = (length r - block_length) / 8 in
    let long = place-long r (row-size r c.requires.0) in
    let fits : at.result + n ≤ length r = omega (arith, at.ensures.2, long) in
    let room = room_of r (form_of r) at.result n fits long at.ensures.4 at.ensures.5 in
    (room.0, room.1, room.2, c.requires.3, c.requires.4, c.requires.5)

pub returns : goal.returns
returns c =
    let r = c.args.row.now in
    let k = c.args.k in
    let at = c.start-a in
    let a : ℕ = at.result in
    let n : ℕ = (length r - block_length) / 8 in
    let w = c.write_policies in
    let policies : Policies = record { first = c.args.first.now; second = c.args.second.now; third = c.args.third.now } in
    let long = place-long r (row-size r c.requires.0) in
    let fits : a + n ≤ length r = omega (arith, at.ensures.2, long) in
    let written : w.new.place ≡ routed_bytes (place r k) policies = w.ensures ∙ ap (λ (t : List ℕ). routed_bytes t policies) (lent-place r k a n at.ensures.0 long) in
    let size : length (routed_bytes (place r k) policies) ≡ a + n - a = ap length (sym written) ∙ w.auto.place ∙ lent_length r a n fits ∙ omega arith in
    back-put r a (a + n) w.new.place (routed_bytes (place r k) policies) size written
    ∙ ap (λ (x : ℕ). put r x (routed_bytes (place r k) policies)) at.ensures.0
    ∙ route-law r k policies c.requires.0 c.requires.1 c.requires.2

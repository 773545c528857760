-- The numbers of a burst, test by test.
use mathlib.Core.Path.{◌≡◌}
use mathlib.Core.Bool.{true, false}
use Prim.Native.Nat.{ℕ, ◌≤◌, ◌<◌}
use borrow.Author.Tests.{le-leb, lt-leb, ne_eqb}
use lib.ListN.{length}
use Rattle.octets.specs.Choice.{pick, require, first_of, within}
use Rattle.table.specs.TheTable.{Table, first_number}
use Rattle.burst.specs.TheBurst.{Burst, burst_number, whole_messages}

module _ (t : Table) (b : Burst) where
  abbrev whole : ℕ
  whole = length (whole_messages b.messages)

  pub refused-first : (first_number t b.operator ≡ 0 → ⊥) → burst_number t b ≡ first_number t b.operator
  unfolding burst_number first_of pick
  refused-first h = rw (ne_eqb (first_number t b.operator) 0 h)

  module _ (z : first_number t b.operator ≡ 0) where
    pub refused-host : within 1 128 (length b.host) ≡ false → burst_number t b ≡ 2
    unfolding burst_number first_of require pick
    refused-host h = rw (z, h)

    module _ (hh : within 1 128 (length b.host) ≡ true) where
      pub refused-realm : within 1 128 (length b.realm) ≡ false → burst_number t b ≡ 2
      unfolding burst_number first_of require pick
      refused-realm h = rw (z, hh, h)

      module _ (hr : within 1 128 (length b.realm) ≡ true) where
        pub refused-wags : length b.wags < whole → burst_number t b ≡ 18
        unfolding burst_number first_of require pick
        refused-wags h = rw (z, hh, hr, lt-leb whole (length b.wags) h)

        module _ (hw : whole ≤ length b.wags) where
          pub refused-results : length b.results < whole → burst_number t b ≡ 18
          unfolding burst_number first_of require pick
          refused-results h = rw (z, hh, hr, le-leb whole (length b.wags) hw, lt-leb whole (length b.results) h)

          pub refused-not : whole ≤ length b.results → burst_number t b ≡ 0
          unfolding burst_number first_of require pick
          refused-not h = rw (z, hh, hr, le-leb whole (length b.wags) hw, le-leb whole (length b.results) h)

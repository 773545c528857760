-- A sound row stays sound.
use mathlib.Core.Path.{◌≡◌, refl}
use mathlib.Core.Bool.{true}
use mathlib.Core.List.{List, []}
use Prim.Native.Nat.{ℕ}
use borrow.Author.Tests.{leb-true}
use lib.Dec.{leb}
use Rattle.octets.specs.Lists.{distinct, every, sum_of}
use Rattle.table.specs.Soundness.{is_name, labels, limits, sessions, sound, under_limits}
use Rattle.table.specs.TheTable.{Access, Account, Entry, Policies, Subscriber, form_of, is_form, line, read_row, row_bytes}
use Rattle.changes.proofs.Stays.{MayEnter, MayHold, MayOpen, entered-more, fits-hold, fits_more, fits-open}
use Rattle.changes.specs.Changes.{Opening, freed, leave, opened, routed, with_accesses, named, with_entry}
use Rattle.table.proofs.Good.{Fits, Good, entered, fits, fits-keep, good_accesses, good_entries}
use Rattle.table.proofs.Sound.{says-good, sound-row}

-- the accesses changed, the rest as it was
good-with : {fm : ℕ} (s : Subscriber) (a : List Access) → Good fm s → Fits fm s.entries a → Good fm (with_accesses a s)
good-with s a g f = record { form-good = g.form-good; name-good = g.name-good; operator-good = g.operator-good; entries-good = g.entries-good; accesses-good = f }

pub good-freed : {fm : ℕ} (k : ℕ) (s : Subscriber) → Good fm s → Good fm (freed k s)
unfolding freed leave
good-freed k s g = good-with s _ g (fits-keep s.entries _ s.accesses g.accesses-good)

pub good-routed : {fm : ℕ} (k : ℕ) (pol : Policies) (s : Subscriber) → MayHold fm pol → Good fm s → Good fm (routed k pol s)
unfolding routed
good-routed {fm} k pol s h g = good-with s _ g (fits-hold fm s.entries k pol s.accesses h g.accesses-good)

pub good-opened : {fm : ℕ} (n : ℕ) (o : Opening) (s : Subscriber) → MayOpen fm s.entries s.accesses n o → Good fm s → Good fm (opened n o s)
unfolding opened
good-opened {fm} n o s m g =
    good-with s _ g (fits-open fm s.entries s.accesses n o g.accesses-good (leb-true (sum_of (limits s.entries)) 8 g.entries-good.eight) m)

pub good-named : (fm : ℕ) (a : Account) → is_form fm ≡ true → is_name a.name ≡ true → leb a.operator 15 ≡ true → Good fm (named a)
unfolding named good_entries good_accesses every distinct labels limits sum_of line sessions under_limits
good-named fm a f h o = record { form-good = f; name-good = h; operator-good = o; entries-good = entered [] refl; accesses-good = fits [] [] refl }

pub good-entered : {fm : ℕ} (e : Entry) (s : Subscriber) → MayEnter s.entries e → Good fm s → Good fm (with_entry e s)
unfolding with_entry
good-entered {fm} e s m g =
    record { form-good = g.form-good; name-good = g.name-good; operator-good = g.operator-good; entries-good = entered-more s.entries e g.entries-good m; accesses-good = fits_more fm s.entries e s.accesses g.accesses-good }

-- the law over rows

pub sound-freed : (k : ℕ) (r : List ℕ) → sound r ≡ true → sound (row_bytes (form_of r) (freed k (read_row r))) ≡ true
sound-freed k r h = sound-row (form_of r) _ (good-freed k (read_row r) (says-good r h))

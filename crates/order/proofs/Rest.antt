-- What stays: the rows that a call does not find, and the soundness of every row.
use mathlib.Core.Path.{◌≡◌, refl, sym, ap, ◌∙◌}
use mathlib.Core.Bool.{Bool, true}
use mathlib.Core.List.{List, [], ◌∷◌}
use Prim.Native.Nat.{ℕ, ◌/◌, ◌<◌}
use borrow.Author.Tests.{eqb-true, eqb-false}
use lib.Dec.{eqb}
use lib.ListN.{length}
use Rattle.octets.proofs.Choice.{by-pick, first_passes}
use Rattle.octets.proofs.Lists.{by-test}
use Rattle.octets.proofs.Pieces.{length-pieces}
use Rattle.octets.specs.Texts.{pieces}
use Rattle.message.specs.Codes.{number_of}
use Rattle.table.specs.TheTable.{Subscriber, Table, form_of, row, lookup, rows, first_row, is_row_of, row_at, width, with_row, table_number, read_row, row_bytes}
use Rattle.table.specs.Soundness.{sound}
use Rattle.table.proofs.Bytes.{length-row, read-row}
use Rattle.table.proofs.Good.{Good}
use Rattle.table.proofs.Rows.{form_in, row_other, row-with, row_at-form, whole-rows}
use Rattle.table.proofs.Sound.{says-good, sound-row}
use Rattle.rules.specs.Deciding.{Verdict}
use Rattle.rules.specs.Calls.{account, Call, Left, call_number, silent, refusal, table_after, settled, handle, ran_first, run}
use Rattle.plans.proofs.Stay.{stays}
use Rattle.order.specs.ChecksInOrder.{none_fails}
use Rattle.order.specs.Demand2.{request_in, found, checks, afterwards, Replaced, SuccessReplacesRow, OtherRowsStay, SoundStaysSound, SoundStaysInList}
use Rattle.order.proofs.Finding.{same_row}
use Rattle.order.proofs.Read.{ask-fits}
use Rattle.order.proofs.Answered.{Went, OnRow, unanswered, stopped, reached, went, verdict}
use Rattle.order.proofs.Decided.{granting}
use Rattle.order.proofs.Checks.{Won, won, won-went, granted, written}
use Rattle.order.proofs.Handling.{There, there}

-- the table of a call that is answered has rows
pub rows-there : (t : Table) (c : Call) → call_number t c ≡ 0 → table_number t ≡ 0
unfolding call_number
rows-there t c h = first_passes _ _ h

pub in_table : (f : List ℕ → Bool) (t : Table) (i : ℕ) → first_row f (rows t) ≡ row i → i < length t.bytes / width t
unfolding rows There
in_table f t i e =
    let h : There (first_row f (pieces (width t) (length t.bytes / width t) t.bytes)) (length t.bytes / width t) = rw (length-pieces (width t) (length t.bytes / width t) t.bytes) at (there f (pieces (width t) (length t.bytes / width t) t.bytes)) in
    rw e at h

module _ (t : Table) (c : Call) where
  row_in : (i : ℕ) → found t c ≡ row i → i < length t.bytes / width t
  unfolding found lookup
  row_in i e = in_table (is_row_of (account c (request_in c))) t i e

  -- the table that a call leaves: as it was, or with one row of what was decided
  settled-table : (P : Table → Type 0) (i : ℕ) (v : Verdict) → P t → P (with_row t i (row_bytes t.form v.after)) → P (settled t c i v).table
  unfolding table_after settled
  settled-table P i v a b = by-pick P (eqb (number_of v.code) 2001) (λ e. b) (λ e. a)

  other-went : (j : ℕ) → (found t c ≡ row j → ⊥) → Went t c → row_at (handle t c).table j ≡ row_at t j
  unfolding silent refusal
  other-went j ne (unanswered a l) = rw l
  other-went j ne (stopped code a s l) = rw l
  other-went j ne (reached i a o) =
      let good : table_number t ≡ 0 = rows-there t c (eqb-true (call_number t c) 0 a) in
      rw o.leaves
      (settled-table (λ (u : Table). row_at u j ≡ row_at t j) i (verdict t c i) refl
      (row_other (length t.bytes / width t) t (whole-rows t good) i (row_in i o.at) _ (length-row t.form _) j (λ e. ne (o.at ∙ ap row (sym e)))))

  -- what a sound row says is good, and what a request that was read makes of it too
  pub row-good : (i : ℕ) → table_number t ≡ 0 → OnRow t c i → Good t.form (read_row (row_at t i))
  row-good i good o =
      let is : form_of (row_at t i) ≡ t.form = row_at-form t i good (row_in i o.at) in
      rw is at (says-good (row_at t i) o.was-sound)

  pub stays-good : (i : ℕ) → table_number t ≡ 0 → OnRow t c i → Good t.form (verdict t c i).after
  unfolding request_in
  stays-good i good o =
      stays t.form (request_in c).ask c.wag (read_row (row_at t i)) (ask-fits t.form (form_in t good) c.message o.was_read) (row-good i good o)

  sound-went : (j : ℕ) → sound (row_at t j) ≡ true → Went t c → sound (row_at (handle t c).table j) ≡ true
  unfolding silent refusal
  sound-went j s (unanswered a l) = rw l s
  sound-went j s (stopped code a k l) = rw l s
  sound-went j s (reached i a o) =
      by-test (eqb j i)
      (λ e. let good : table_number t ≡ 0 = rows-there t c (eqb-true (call_number t c) 0 a) in
      let p : j ≡ i = eqb-true j i e in
      let w : row_at (with_row t i (row_bytes t.form (verdict t c i).after)) i ≡ row_bytes t.form (verdict t c i).after =
      row-with (length t.bytes / width t) t (whole-rows t good) i (row_in i o.at) _ (length-row t.form _) in
      let g : Good t.form (verdict t c i).after = stays-good i good o in
      rw o.leaves (settled-table (λ (u : Table). sound (row_at u j) ≡ true) i (verdict t c i) s (rw (p, w) (sound-row t.form _ g))))
      (λ e. ap sound (other-went j (λ f. eqb-false j i e (same_row j i (sym f ∙ o.at))) (reached i a o)) ∙ s)

-- THE ROW THAT IS REPLACED

module _ (t : Table) (c : Call) where
  pub after-good : (i : ℕ) → OnRow t c i → table_number t ≡ 0 → none_fails (checks t c) ≡ true → Good t.form (afterwards t.form (request_in c).ask (read_row (row_at t i)))
  unfolding granting
  after-good i o good h =
      let g : Good t.form (verdict t c i).after = stays-good t c i good o in
      rw (granted t c i o h) at g

  replaces : (i : ℕ) → OnRow t c i → call_number t c ≡ 0 → none_fails (checks t c) ≡ true → Replaced t c i (handle t c)
  replaces i o a h =
      let good : table_number t ≡ 0 = rows-there t c a in
      let after : Subscriber = afterwards t.form (request_in c).ask (read_row (row_at t i)) in
      let table : (handle t c).table ≡ with_row t i (row_bytes t.form after) = ap (λ (l : Left). l.table) o.leaves ∙ written t c i o h in
      let w : row_at (handle t c).table i ≡ row_bytes t.form after =
      ap (λ (u : Table). row_at u i) table ∙ row-with (length t.bytes / width t) t (whole-rows t good) i (row_in t c i o.at) (row_bytes t.form after) (length-row t.form after) in
      record {
        was-sound = o.was-sound;
        table = table;
        is-sound = rw w (sound-row t.form after (after-good i o good h));
        says = rw w (read-row t.form after (after-good i o good h));
      }

  replaces-won : (i : ℕ) → found t c ≡ row i → Won t c → Replaced t c i (handle t c)
  replaces-won i e (won j o a h) = rw (same_row i j (sym e ∙ o.at)) (replaces j o a h)

pub success-replaces-row : SuccessReplacesRow
success-replaces-row t c i h e = replaces-won t c i e (won-went t c h (went t c))

pub other-rows-stay : OtherRowsStay
other-rows-stay t c j h = other-went t c j h (went t c)

pub sound-stays-sound : SoundStaysSound
sound-stays-sound t c j h = sound-went t c j h (went t c)

pub sound-stays-in-list : SoundStaysInList
unfolding run ran_first
sound-stays-in-list t [] j h = h
sound-stays-in-list t (c ∷ cs) j h = sound-stays-in-list (handle t c).table cs j (sound-stays-sound t c j h)

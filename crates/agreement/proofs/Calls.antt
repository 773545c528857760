-- A call that succeeds, as far as the board is concerned: the row that it replaced, and what its reply tells.
use mathlib.Core.Path.{◌≡◌, refl, sym, ap, ◌∙◌}
use mathlib.Core.Bool.{Bool, true, false}
use mathlib.Core.List.{List, [], ◌∷◌}
use Prim.Native.Nat.{ℕ, ◌/◌, ◌<◌}
use lib.ListN.{length}
use Rattle.octets.specs.Choice.{pick}
use Rattle.octets.proofs.Lists.{by-test}
use Rattle.message.specs.Codes.{plain, number_of, kind_of}
use Rattle.message.specs.ReadingAMessage.{Ask, tunnel, read, request}
use Rattle.table.specs.TheTable.{Access, Subscriber, Table, form_of, is_row_of, lookup, row, row_at, row_bytes, width, read_row}
use Rattle.table.specs.Soundness.{on_entry, sound}
use Rattle.table.proofs.Bytes.{length-row}
use Rattle.table.proofs.Rows.{row-form, row-with, whole-rows}
use Rattle.table.proofs.Good.{Good, Standing}
use Rattle.rules.specs.Calls.{account, Call, Reply, handle, most_policies, reply, result_of}
use Rattle.order.specs.ChecksInOrder.{deciding_checks, none_fails}
use Rattle.order.specs.Demand2.{afterwards, cut_for, exceeds, first_alone, found, on_asked, place_taken, request_in, succeeds}
use Rattle.order.specs.OpenedFirst.{session_cut}
use Rattle.order.proofs.Answered.{went}
use Rattle.order.proofs.Checks.{Won, success-reply, won, won-went}
use Rattle.order.proofs.Cuts.{cut-first}
use Rattle.order.proofs.History.{First, first, first_alone_lem, fitting, session-told}
use Rattle.order.proofs.Rest.{in_table, rows-there, success-replaces-row}
use Rattle.agreement.proofs.Tables.{Replaced, replaced}

-- A CALL THAT SUCCEEDS

-- from table t to table u, asking q, with reply r
pub record Done (t u : Table) (c : Call) (q : Ask) (r : Reply) : Type 0 where
  pub i : ℕ
  pub rows-changed : Replaced t u i
  pub was-sound : sound (row_at t i) ≡ true
  pub is-sound : sound (row_at u i) ≡ true
  pub form-after : form_of (row_at u i) ≡ t.form
  pub says : read_row (row_at u i) ≡ afterwards t.form q (read_row (row_at t i))
  pub passes : none_fails (deciding_checks q c.wag (read_row (row_at t i))) ≡ true
  pub replied : r ≡ reply t.form c (plain 2001) (place_taken q (read_row (row_at t i))) (cut_for q (read_row (row_at t i)))

module _ (t : Table) (c : Call) (s : succeeds t c ≡ true) where
  row_in : (i : ℕ) → found t c ≡ row i → i < length t.bytes / width t
  unfolding found lookup
  row_in i e = in_table (is_row_of (account c (request_in c))) t i e

  done-won : Won t c → Done t (handle t c).table c (request_in c).ask (handle t c).reply
  done-won (won i o a h) =
      let w = success-replaces-row t c i s o.at in
      let full : length (row_bytes t.form (afterwards t.form (request_in c).ask (read_row (row_at t i)))) ≡ width t = length-row t.form _ in
      record {
        i = i;
        rows-changed = rw w.table (replaced t i _ (rows-there t c a) (row_in i o.at));
        was-sound = w.was-sound;
        is-sound = w.is-sound;
        form-after = ap form_of (ap (λ (u : Table). row_at u i) w.table ∙ row-with (length t.bytes / width t) t (whole-rows t (rows-there t c a)) i (row_in i o.at) _ full) ∙ row-form _ t.form full;
        says = w.says;
        passes = sym o.none ∙ h;
        replied = rw o.before at (success-reply t c s);
      }

  pub done : Done t (handle t c).table c (request_in c).ask (handle t c).reply
  done = done-won (won-went t c s (went t c))

  read-won : Won t c → read (most_policies t.form) c.message ≡ request (request_in c)
  unfolding read request_in pick
  read-won (won i o a h) = rw o.was_read

  pub was_read : read (most_policies t.form) c.message ≡ request (request_in c)
  was_read = read-won (won-went t c s (went t c))

-- WHAT ITS REPLY TELLS

module _ (form : ℕ) (c : Call) (place : ℕ) where
  pub code-told : (cut : List Access) → (reply form c (plain 2001) place cut).result.code ≡ 2001
  unfolding reply result_of number_of
  code-told [] = refl
  code-told (a ∷ others) = refl

  pub kind-told : (cut : List Access) → (reply form c (plain 2001) place cut).result.kind ≡ 1
  unfolding reply result_of kind_of
  kind-told [] = refl
  kind-told (a ∷ others) = refl

  pub no-cut-told : (reply form c (plain 2001) place []).result.cut ≡ 0
  unfolding reply result_of
  no-cut-told = refl

  pub cut-told : (a : Access) → (reply form c (plain 2001) place (a ∷ [])).result.cut ≡ 1
  unfolding reply result_of
  cut-told a = refl

-- no cut, or one that the notice names
pub data CutTold (cut : List Access) (r : Reply) : Type 0 where
  no_cut : cut ≡ [] → r.result.cut ≡ 0 → CutTold cut r
  one-cut : (a : Access) → cut ≡ a ∷ [] → r.result.cut ≡ 1 → session_cut r ≡ a.session → CutTold cut r

pub none_told : (form : ℕ) (c : Call) (place : ℕ) (q : Ask) (s : Subscriber) → cut_for q s ≡ [] → CutTold (cut_for q s) (reply form c (plain 2001) place (cut_for q s))
none_told form c place q s e = rw e (no_cut refl (no-cut-told form c place))

module _ (form : ℕ) {fm : ℕ} (c : Call) (place : ℕ) (session host realm label : List ℕ) (visited wag : Bool) (s : Subscriber) (g : Good fm s) where
  abbrev asked : Ask
  asked = tunnel session host realm label visited

  one_told : (a : Access) (n : ℕ) → Standing fm n a → cut_for asked s ≡ a ∷ [] → CutTold (cut_for asked s) (reply form c (plain 2001) place (cut_for asked s))
  one_told a n fits e = rw e (one-cut a refl (cut-told form c place a) (session-told form c place a fits))

  first-told : exceeds asked s ≡ true → First (on_asked asked s) → CutTold (cut_for asked s) (reply form c (plain 2001) place (cut_for asked s))
  unfolding cut_for first_alone on_asked on_entry pick
  first-told e (first a others on) = one_told a _ (fitting s g _ a others on) (rw (e, on))

  all_stay : exceeds asked s ≡ false → cut_for asked s ≡ []
  unfolding cut_for pick
  all_stay e = rw e

  pub cut-is-told : none_fails (deciding_checks asked wag s) ≡ true → CutTold (cut_for asked s) (reply form c (plain 2001) place (cut_for asked s))
  cut-is-told h =
      by-test (exceeds asked s)
      (λ e. first-told e (first_alone_lem _ (cut-first asked wag s g h e).some))
      (λ e. none_told form c place asked s (all_stay e))

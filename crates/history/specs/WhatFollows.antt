-- Proof of age (W12): short theorems to quote, of every table that a history reaches from a cleared one.
use Rattle.std.specs.Prelude.{◌≡◌, Bool, true, false, ◌||◌, List, [], ◌∷◌, ◌++◌, ℕ, ◌≤◌, eqb, length}
use Rattle.octets.specs.Choice.{pick}
use Rattle.octets.specs.Lists.{keep}
use Rattle.octets.specs.Texts.{all_zero, same}
use Rattle.message.specs.ReadingAMessage.{tunnel}
use Rattle.table.specs.TheTable.{Account, Found, Subscriber, Table, row, nothing, is_row_of, lookup, read_row, row_at, rows}
use Rattle.table.specs.Soundness.{same_label, sound}
use Rattle.rules.specs.Deciding.{entry_at, entry_named}
use Rattle.rules.specs.Calls.{Call, handle}
use Rattle.order.specs.Demand2.{request_in}
use Rattle.order.specs.Demand3.{Told, subscriber, is_of, told}
use Rattle.order.specs.OpenedFirst.{Tunnel, label_asked}
use Rattle.history.specs.Histories.{Cleared, Event, Operation, answered, from_cleared}
use Rattle.history.specs.OrderOfOpening.{on_name, opened_in_order, standing, tunnel_cut}
use Rattle.history.specs.EachCounted.{count_of, opens}

-- Every row is wholly zero or sound; i is any number, and behind the last row there are no bytes.
abbrev pub ZeroOrSound : Type 0
ZeroOrSound =
    (t : Table) (xs : List Operation) (i : ℕ) → Cleared t
    → all_zero (row_at (from_cleared t xs).table i) || sound (row_at (from_cleared t xs).table i) ≡ true

-- An account has one row at most: nothing of it stands anywhere else.
abbrev pub OneRowEach : Type 0
OneRowEach = (t : Table) (xs : List Operation) (a : Account) → Cleared t → length (keep (is_row_of a) (rows (from_cleared t xs).table)) ≤ 1

-- The limit that an account has on a label, which is that of the entry that the label names; 0 where it names none.
unfoldable pub limit_on : (label : List ℕ) → Subscriber → ℕ
limit_on label s = pick (eqb (entry_named label s) 0) 0 (entry_at (entry_named label s) s).limit

unfoldable pub limit_at : Table → (label : List ℕ) → Found → ℕ
limit_at t label nothing = 0
limit_at t label (row i) = limit_on label (read_row (row_at t i))

abbrev pub limit_of : Table → Account → (label : List ℕ) → ℕ
limit_of t a label = limit_at t label (lookup t a)

-- An account never has more tunnels on a name than its limit there.
abbrev pub WithinLimit : Type 0
WithinLimit =
    (t : Table) (xs : List Operation) (a : Account) (label : List ℕ) → Cleared t
    → length (on_name label (standing (from_cleared t xs).table a)) ≤ limit_of (from_cleared t xs).table a label

-- Of the tunnels on a name, by all that was seen, the last opened is not the one that a cut takes, unless the limit there is 1.
abbrev pub LastOpenedStays : Type 0
LastOpenedStays =
    (t : Table) (xs : List Operation) (a : Account) (c : Call) → Cleared t
    → let u : Table = (from_cleared t xs).table in
    let x : Told = told t.form (handle u c).reply in
    let label : List ℕ = label_asked (request_in c).ask in
    is_of t.form (subscriber a) c ≡ true → x.result.cut ≡ 1 → eqb (limit_of u a label) 1 ≡ false
    → (earlier : List Tunnel) (last : Tunnel) → on_name label (opened_in_order t.form a (from_cleared t xs).events) ≡ earlier ++ (last ∷ [])
    → same last.session (tunnel_cut label x).session ≡ false

-- A request of the account opened a tunnel with that Session-Id, on a label that is the same as this one.
pub record Opened (form : ℕ) (a : Account) (label session : List ℕ) (c : Call) (x : Told) : Type 0 where
  pub own : is_of form (subscriber a) c ≡ true
  pub host : List ℕ
  pub realm : List ℕ
  pub wrote : List ℕ
  pub visited : Bool
  pub asks : (request_in c).ask ≡ tunnel session host realm wrote visited
  pub on-label : same_label wrote label ≡ true
  pub granted : x.result.code ≡ 2001
  pub at-a-place : eqb x.result.place 0 ≡ false

-- A tunnel just opened is not the one that the account's next opening on that name cuts, unless the limit there is 1. `c` opened it; whatever was seen
-- `between`, it was no opening of the account on that name; and then `d` asks for one more, and is told of a cut.
abbrev pub JustOpenedStays : Type 0
JustOpenedStays =
    (t : Table) (xs : List Operation) (a : Account) (d : Call) → Cleared t
    → let label : List ℕ = label_asked (request_in d).ask in
    let u : Table = (from_cleared t xs).table in
    let y : Told = told t.form (handle u d).reply in
    (before : List Event) (c : Call) (x : Told) (between : List Event) → (from_cleared t xs).events ≡ before ++ (answered c x ∷ between)
    → (session : List ℕ) → Opened t.form a label session c x → count_of opens t.form a label between ≡ 0
    → is_of t.form (subscriber a) d ≡ true → y.result.cut ≡ 1 → eqb (limit_of u a label) 1 ≡ false
    → same session (tunnel_cut label y).session ≡ false

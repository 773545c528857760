-- Demand 2: the order line is the order in which the calls opened the tunnels, and the tunnel that is cut is the one there that
-- was opened first. Both are said from calls, replies and the row's entries alone.
use Rattle.std.specs.Prelude.{◌≡◌, Bool, true, false, ◌&&◌, not, List, [], ◌∷◌, ◌++◌, map, ℕ, eqb, take, drop}
use Rattle.octets.specs.Choice.{pick}
use Rattle.octets.specs.Lists.{keep}
use Rattle.octets.specs.Texts.{same}
use Rattle.message.specs.ReadingAMessage.{Ask, tunnel, policy, termination}
use Rattle.table.specs.TheTable.{Account, Entry, Access, Subscriber, Table, row, lookup, is_row_of, row_at, read_row}
use Rattle.table.specs.Soundness.{sound, same_label}
use Rattle.changes.specs.Changes.{kept_in}
use Rattle.rules.specs.Deciding.{entry_at}
use Rattle.rules.specs.Calls.{Call, Reply, handle, run}
use Rattle.order.specs.Demand2.{request_in}
use Rattle.order.specs.Demand3.{subscriber, subject, is_of}

-- A tunnel as the calls show it: its Session-Id, its gateway's host and realm, the realm as a table of the form keeps it, and its W-APN's label
-- as it is entered.
pub record Tunnel : Type 0 where
  pub session : List ℕ
  pub host : List ℕ
  pub realm : List ℕ
  pub label : List ℕ

-- THE HISTORY

-- The label of the first entry that `l` names, as it is entered; no bytes where no entry has it.
unfoldable pub label_in : List Entry → List ℕ → List ℕ
label_in [] l = []
label_in (e ∷ es) l = pick (same_label l e.label) e.label (label_in es l)

-- The Session-Id that a cut notice names, by the length that the result gives.
unfoldable pub session_cut : Reply → List ℕ
session_cut r = take r.result.cut_session r.notice

-- The tunnel with that Session-Id is taken away.
unfoldable pub without : List ℕ → List Tunnel → List Tunnel
without session line = keep (λ (x : Tunnel). not (same x.session session)) line

-- A request that is answered 2001. Type 0: without a place nothing was opened, and the line stays (W11); else, if there was a cut, the tunnel that the
-- notice names is taken away, and then the new tunnel stands at the end. Type 1: the line stays. Termination: the tunnel with its Session-Id is taken away.
unfoldable pub line_after : (form : ℕ) → List Entry → Ask → Reply → List Tunnel → List Tunnel
line_after f es (tunnel session host realm label visited) r line =
    pick (eqb r.result.place 0) line
    (pick (eqb r.result.cut 1) (without (session_cut r) line) line
    ++ (record { session = session; host = host; realm = kept_in f realm; label = label_in es label } ∷ []))
line_after f es (policy session first second third) r line = line
line_after f es (termination session label) r line = without session line

-- The subscriber's line after a list of calls, of whomever, from the line before it: each of the subscriber's calls that is
-- answered 2001 changes it, and no other call does. `rs` holds a reply for each call of `cs`, and `es` are the row's entries; the form is
-- that of the table, one for all calls.
unfoldable pub history : (form : ℕ) → (a : Account) → (es : List Entry) → (cs : List Call) → (rs : List Reply) → (line : List Tunnel) → List Tunnel
history f a es [] rs line = line
history f a es (c ∷ cs) [] line = line
history f a es (c ∷ cs) (r ∷ rs) line =
    let own : Bool = is_of f (subscriber a) c && eqb r.result.code 2001 in
    history f a es cs rs (pick own (line_after f es (request_in c).ask r line) line)

-- THE ORDER LINE

-- What the order line of row i says, first opened first: of each access its Session-Id, its host, its realm and its entry's label.
unfoldable pub tunnel_of : Subscriber → Access → Tunnel
tunnel_of s a = record { session = a.session; host = a.host; realm = a.realm; label = (entry_at a.entry s).label }

unfoldable pub tunnels : Subscriber → List Tunnel
tunnels s = map (tunnel_of s) s.accesses

abbrev pub line_of : Table → ℕ → List Tunnel
line_of t i = tunnels (read_row (row_at t i))

abbrev pub entries_of : Table → ℕ → List Entry
entries_of t i = (read_row (row_at t i)).entries

-- THE STATEMENTS, for any table of any form and any calls.

-- After any list of calls the order line of a subscriber's row is its history from the line before them. The row may be
-- unsound, too: then both stay as they were.
abbrev pub LineIsHistory : Type 0
LineIsHistory =
    (t : Table) (cs : List Call) (a : Account) (i : ℕ) → lookup t a ≡ row i
    → line_of (run t cs).table i ≡ history t.form a (entries_of t i) cs (run t cs).replies (line_of t i)

-- The label that is asked for; no bytes where a policy is. The tunnels on a label, in their order. The tunnel that a cut notice
-- names, on that label, by the three lengths: in form 1 that of the realm is 0.
unfoldable pub label_asked : Ask → List ℕ
label_asked (tunnel session host realm label visited) = label
label_asked (policy session first second third) = []
label_asked (termination session label) = label

unfoldable pub on_label : (label : List ℕ) → List Tunnel → List Tunnel
on_label label line = keep (λ (x : Tunnel). same x.label label) line

unfoldable pub tunnel_cut : (label : List ℕ) → Reply → Tunnel
tunnel_cut label r =
    record {
      session = session_cut r;
      host = take r.result.cut_host (drop 128 r.notice);
      realm = take r.result.cut_realm (drop 256 r.notice);
      label = label;
    }

-- What a call of a subscriber cuts was opened first: of the tunnels on the label that it asks for, as the history of the calls
-- `before` it has them, the first is the one that its notice names.
abbrev pub CutOpenedFirst : Type 0
CutOpenedFirst =
    (t : Table) (before : List Call) (c : Call) (a : Account) (i : ℕ) → lookup t a ≡ row i → subject t.form c ≡ subscriber a
    → let r : Reply = (handle (run t before).table c).reply in
    let label : List ℕ = label_in (entries_of t i) (label_asked (request_in c).ask) in
    r.result.cut ≡ 1
    → take 1 (on_label label (history t.form a (entries_of t i) before (run t before).replies (line_of t i))) ≡ tunnel_cut label r ∷ []

-- WHAT NO CALL CHANGES

-- The entries of a row.
abbrev pub EntriesStay : Type 0
EntriesStay = (t : Table) (cs : List Call) (i : ℕ) → entries_of (run t cs).table i ≡ entries_of t i

-- A second row of an account: the lookup finds the first.
abbrev pub SecondRowStays : Type 0
SecondRowStays =
    (t : Table) (cs : List Call) (a : Account) (i j : ℕ) → lookup t a ≡ row i → (j ≡ i → ⊥) → is_row_of a (row_at t j) ≡ true
    → row_at (run t cs).table j ≡ row_at t j

-- An unsound row.
abbrev pub UnsoundRowStays : Type 0
UnsoundRowStays = (t : Table) (cs : List Call) (j : ℕ) → sound (row_at t j) ≡ false → row_at (run t cs).table j ≡ row_at t j

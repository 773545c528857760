-- Proof of age (W12): each subscriber's order line lists its tunnels in the order in which they were opened, counted from requests and what they were
-- told; and every cut took the tunnel that was opened first of those that stood on its name.
use Rattle.std.specs.Prelude.{◌≡◌, Bool, true, false, ◌&&◌, List, [], ◌∷◌, ◌++◌, map, ℕ, eqb, take, drop}
use Rattle.octets.specs.Choice.{pick}
use Rattle.octets.specs.Lists.{keep}
use Rattle.octets.specs.Texts.{same}
use Rattle.message.specs.ReadingAMessage.{Ask, tunnel, policy, termination}
use Rattle.table.specs.TheTable.{Account, Found, Table, row, nothing, lookup}
use Rattle.table.specs.Soundness.{lower_case}
use Rattle.changes.specs.Changes.{kept_in}
use Rattle.rules.specs.Calls.{Call, account}
use Rattle.order.specs.Demand2.{request_in}
use Rattle.order.specs.Demand3.{Told, subject, subscriber, is_of}
use Rattle.order.specs.OpenedFirst.{Tunnel, label_asked, line_of, without}
use Rattle.history.specs.Histories.{Cleared, Event, Operation, answered, cleared, from_cleared}

-- LABELS are compared without regard to case (W3): two are the same exactly if they are equal in lower case. So tunnels are listed here with their
-- labels in lower case, whichever way the opening wrote it and whichever way it is entered.
unfoldable pub compared : List ℕ → List ℕ
compared label = map lower_case label

unfoldable pub listed : Tunnel → Tunnel
listed x = record { session = x.session; host = x.host; realm = x.realm; label = compared x.label }

-- The tunnels on a label, in their order.
unfoldable pub on_name : (label : List ℕ) → List Tunnel → List Tunnel
on_name label line = keep (λ (x : Tunnel). same x.label (compared label)) line

-- WHAT THE REQUESTS SHOW

-- The tunnel that a cut notice names, by the lengths that the result gives, on the label that was asked for. In form 1 there is no realm, and its length is 0.
unfoldable pub tunnel_cut : (label : List ℕ) → Told → Tunnel
tunnel_cut label x =
    record {
      session = take x.result.cut_session x.notice;
      host = take x.result.cut_host (drop 128 x.notice);
      realm = take x.result.cut_realm (drop 256 x.notice);
      label = compared label;
    }

-- What a request that is answered 2001 makes of its subscriber's line. Type 0: a tunnel was opened if the result has a place, and only then; W11's success
-- has none. The tunnel that was cut for it, if any, is taken away, and the new one stands at the end. Type 1: nothing. Termination: the tunnel with its Session-Id
-- is taken away.
unfoldable pub on_success : (form : ℕ) → Ask → Told → List Tunnel → List Tunnel
on_success f (tunnel session host realm label visited) x line =
    pick (eqb x.result.place 0) line
    (pick (eqb x.result.cut 1) (without (tunnel_cut label x).session line) line
    ++ (record { session = session; host = host; realm = kept_in f realm; label = compared label } ∷ []))
on_success f (policy session first second third) x line = line
on_success f (termination session label) x line = without session line

-- Any other answer leaves it as it is.
unfoldable pub line_after : (form : ℕ) → Ask → Told → List Tunnel → List Tunnel
line_after f q x line = pick (eqb x.result.code 2001) (on_success f q x line) line

-- A subscriber's line by all that was seen, from the line before it: its own requests change it, nobody else's do, and a clearing empties it.
unfoldable pub line_from : (form : ℕ) → Account → (line : List Tunnel) → List Event → List Tunnel
line_from f a line [] = line
line_from f a line (cleared ∷ es) = line_from f a [] es
line_from f a line (answered c x ∷ es) = line_from f a (pick (is_of f (subscriber a) c) (line_after f (request_in c).ask x line) line) es

abbrev pub opened_in_order : (form : ℕ) → Account → List Event → List Tunnel
opened_in_order f a es = line_from f a [] es

-- WHAT STANDS IN THE TABLE

-- The order line of the row that the lookup finds; no tunnels where the account has none.
unfoldable pub line_at : Table → Found → List Tunnel
line_at t nothing = []
line_at t (row i) = map listed (line_of t i)

abbrev pub standing : Table → Account → List Tunnel
standing t a = line_at t (lookup t a)

-- THE ORDER LINE IS THE ORDER OF OPENING, for every subscriber, after every history: tunnel by tunnel with Session-Id, gateway and label.
abbrev pub OrderOfOpening : Type 0
OrderOfOpening =
    (t : Table) (xs : List Operation) (a : Account) → Cleared t
    → standing (from_cleared t xs).table a ≡ opened_in_order t.form a (from_cleared t xs).events

-- EVERY CUT TOOK THE FIRST. The line above believes the notices: it takes away what they name. So this says which they name. Of the tunnels that stood
-- on the label asked for, as all that was seen `before` has them, the first is the one that the notice names.
abbrev pub EveryCutTookTheFirst : Type 0
EveryCutTookTheFirst =
    (t : Table) (xs : List Operation) (a : Account) → Cleared t
    → (before : List Event) (c : Call) (x : Told) (after : List Event) → (from_cleared t xs).events ≡ before ++ (answered c x ∷ after)
    → is_of t.form (subscriber a) c ≡ true → x.result.cut ≡ 1
    → let label : List ℕ = label_asked (request_in c).ask in
    take 1 (on_name label (opened_in_order t.form a before)) ≡ tunnel_cut label x ∷ []

-- None is left out: whatever was told of success is the request of the account that its operator and its User-Name say, and whatever was told of anything else was told of
-- no place and no cut.
pub record Someones (form : ℕ) (c : Call) (x : Told) : Type 0 where
  pub whose : eqb x.result.code 2001 ≡ true → subject form c ≡ subscriber (account c (request_in c))
  pub no_place : eqb x.result.code 2001 ≡ false → x.result.place ≡ 0
  pub no_cut : eqb x.result.code 2001 ≡ false → x.result.cut ≡ 0

abbrev pub EachIsSomeones : Type 0
EachIsSomeones =
    (t : Table) (xs : List Operation) → Cleared t
    → (before : List Event) (c : Call) (x : Told) (after : List Event) → (from_cleared t xs).events ≡ before ++ (answered c x ∷ after) → Someones t.form c x

-- That every cut took the first, as a test, which may be run on what was seen of any server.
unfoldable pub same_tunnel : Tunnel → Tunnel → Bool
same_tunnel x y = same x.session y.session && (same x.host y.host && (same x.realm y.realm && same x.label y.label))

unfoldable pub is_first : Tunnel → List Tunnel → Bool
is_first x [] = false
is_first x (y ∷ line) = same_tunnel x y

unfoldable pub took_the_first : (form : ℕ) → Account → (line : List Tunnel) → List Event → Bool
took_the_first f a line [] = true
took_the_first f a line (cleared ∷ es) = took_the_first f a [] es
took_the_first f a line (answered c x ∷ es) =
    let own : Bool = is_of f (subscriber a) c in
    let label : List ℕ = label_asked (request_in c).ask in
    pick (own && eqb x.result.cut 1) (is_first (tunnel_cut label x) (on_name label line)) true
    && took_the_first f a (pick own (line_after f (request_in c).ask x line) line) es

abbrev pub EveryCutPasses : Type 0
EveryCutPasses =
    (t : Table) (xs : List Operation) (a : Account) → Cleared t → took_the_first t.form a [] (from_cleared t xs).events ≡ true

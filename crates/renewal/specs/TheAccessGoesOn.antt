-- Gateway and server together (request W11 of document 02): what the server makes of the AA-Request that the gateway writes for an access.
use Rattle.std.specs.Prelude.{◌≡◌, Bool, true, false, ◌&&◌, ◌||◌, not, List, [], ℕ, eqb, length}
use Rattle.message.specs.Codes.{plain}
use Rattle.table.specs.TheTable.{Found, Subscriber, Table, barred, lookup, may_roam, nothing, read_row, row, row_at}
use Rattle.table.specs.Soundness.{sound}
use Rattle.rules.specs.Deciding.{entry_at, entry_named, stands_on}
use Rattle.rules.specs.Calls.{Call, Left, call_number, handle, reply}
use Rattle.gateway.specs.TheGateway.{Access, Texts, request}
use Rattle.gatewaylaws.specs.TheGatewaysRules.{Sendable}

-- WHERE IT STANDS

-- In a row that says this, the access may go on: the label names an entry, the Session-Id stands on that entry, the entry is not barred, and no visited network
-- is lent or the entry may roam.
unfoldable pub maintains : Access → Subscriber → Bool
maintains a s =
    let n : ℕ = entry_named a.label s in
    not (eqb n 0) && (stands_on n a.session s && (not (barred (entry_at n s)) && (eqb (length a.visited) 0 || may_roam (entry_at n s))))

-- So it is in the row that is found for operator and user, and that row is sound.
unfoldable pub maintained_in : Table → Access → Found → Bool
maintained_in t a nothing = false
maintained_in t a (row i) = sound (row_at t i) && maintains a (read_row (row_at t i))

unfoldable pub still_stands : Table → (operator : ℕ) → Access → Bool
still_stands t o a = maintained_in t a (lookup t (record { operator = o; name = a.user }))

-- WHAT THE SERVER LEAVES

-- 2001, no place, no cut, the notice room and the table as they were.
unfoldable pub gone_on : Table → Call → Left
gone_on t c = record { reply = reply t.form c (plain 2001) 0 []; table = t }

-- A call of the server with the AA-Request that the gateway wrote for an access, from names that fit; table, names and rooms are good.
pub record Renews (t : Table) (c : Call) (a : Access) : Type 0 where
  pub host : List ℕ
  pub realm : List ℕ
  pub from : Texts
  pub hop : ℕ
  pub end : ℕ
  pub fits : Sendable host realm from a
  pub message : c.message ≡ request host realm from a hop end
  pub answered : call_number t c ≡ 0

-- THE STATEMENTS: it gets 2001 and changes nothing where the access still stands, and only there.
abbrev pub GoesOnThere : Type 0
GoesOnThere = (t : Table) (c : Call) (a : Access) → Renews t c a → still_stands t c.operator a ≡ true → handle t c ≡ gone_on t c

abbrev pub OnlyThere : Type 0
OnlyThere =
    (t : Table) (c : Call) (a : Access) → Renews t c a → (handle t c).reply.result.code ≡ 2001 → (handle t c).table ≡ t → still_stands t c.operator a ≡ true

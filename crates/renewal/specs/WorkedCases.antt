-- Gateway and server, computed: an access that stands goes on; one that was cut meanwhile is opened again, and may cut another.
use Rattle.std.specs.Prelude.{Bool, ◌&&◌, not, List, [], ◌∷◌}
use Rattle.message.specs.WorkedCases.{board, open_at, session}
use Rattle.rules.specs.Calls.{Left}
use Rattle.rules.specs.WorkedCases.{ask, cut_of, goes_on, granted, start}
use Rattle.gateway.specs.WorkedCases.{lent, request_by_hand}
use Rattle.renewal.specs.TheAccessGoesOn.{still_stands}

-- The AA-Request is the one that the gateway's own worked cases show, for a, the tunnel on "board". With a alone there, and with b beside it: nothing is changed. Then c is opened, which cuts a; the gateway, which has not heard of it, asks for a again: it is
-- opened at the end of the line, and b is cut, the tunnel there that was opened first.
unfoldable pub cases : List Bool
cases =
    let a : Left = ask start (open_at (session 97) board) in
    let b : Left = ask a.table (open_at (session 98) board) in
    let c : Left = ask b.table (open_at (session 99) board) in
    goes_on (ask a.table request_by_hand) a.table
    ∷ goes_on (ask b.table request_by_hand) b.table
    ∷ (still_stands b.table 0 (lent []) && not (still_stands c.table 0 (lent [])))
    ∷ granted (ask c.table request_by_hand) 2 (cut_of 98) (1 ∷ 2 ∷ [])
    ∷ []

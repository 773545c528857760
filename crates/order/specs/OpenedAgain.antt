-- A worked case of the history: a Session-Id that is opened again stands where it was opened last.
use Rattle.std.specs.Prelude.{◌≡◌, true, List, [], ◌∷◌, ◌++◌, map, ℕ, length}
use Rattle.octets.specs.Texts.{filled, zeros}
use Rattle.message.specs.WorkedCases.{board, end_at, gateway, gateway_realm, open_at, own_host, own_realm, session}
use Rattle.table.specs.TheTable.{Entry}
use Rattle.changes.specs.Changes.{kept_in}
use Rattle.rules.specs.Calls.{Call, Reply}
use Rattle.rules.specs.WorkedCases.{of}
use Rattle.order.specs.OpenedFirst.{Tunnel, history}

-- The subscriber of the worked cases, with "board" (limit 2, no flags).
unfoldable pub entered : List Entry
entered = record { label = board; flags = 0; limit = 2 } ∷ []

unfoldable pub calling : List ℕ → Call
calling message = record { operator = 0; message = message; host = own_host; realm = own_realm; answer = zeros 5120; notice = zeros 384; wag = true }

-- What the history looks at in a reply: 2001 without a cut, at a place or at none, and 2001 with a cut of the tunnel of that letter, told as in a table of
-- the form.
unfoldable pub granted : (place : ℕ) → Reply
granted place =
    record {
      result = record { length = 0; code = 2001; kind = 1; place = place; cut = 0; cut_session = 0; cut_host = 0; cut_realm = 0 };
      answer = [];
      notice = zeros 384;
    }

unfoldable pub cutting : (form : ℕ) → ℕ → Reply
cutting f letter =
    record {
      result = record { length = 0; code = 2001; kind = 1; place = 1; cut = 1; cut_session = 3; cut_host = 2; cut_realm = length (kept_in f gateway_realm) };
      answer = [];
      notice = filled (session letter) 128 ++ (filled gateway 128 ++ filled (kept_in f gateway_realm) 128);
    }

-- a and b are opened, a is asked for again while it stands, which opens nothing (W11), a is ended, and a is opened again, in a table of a form.
unfoldable pub again : (form : ℕ) → List Tunnel
again f =
    history f (of 0) entered
    (calling (open_at (session 97) board) ∷ calling (open_at (session 98) board) ∷ calling (open_at (session 97) board) ∷ calling (end_at (session 97) board) ∷ calling (open_at (session 97) board) ∷ [])
    (granted 1 ∷ granted 2 ∷ granted 0 ∷ granted 0 ∷ granted 1 ∷ [])
    []

-- Then c is opened, which cuts b.
unfoldable pub and_then_c : (form : ℕ) → List Tunnel
and_then_c f = history f (of 0) entered (calling (open_at (session 99) board) ∷ []) (cutting f 98 ∷ []) (again f)

unfoldable pub named : List Tunnel → List (List ℕ)
named line = map (λ (x : Tunnel). x.session) line

-- The line is b a, and then a c, in both forms.
abbrev pub OpenedAgainStandsLast : Type 0
OpenedAgainStandsLast =
    (named (again 1) ∷ named (and_then_c 1) ∷ [] ≡ (session 98 ∷ session 97 ∷ []) ∷ (session 97 ∷ session 99 ∷ []) ∷ [])
    × (named (again 2) ∷ named (and_then_c 2) ∷ [] ≡ (session 98 ∷ session 97 ∷ []) ∷ (session 97 ∷ session 99 ∷ []) ∷ [])

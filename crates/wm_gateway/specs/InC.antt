-- What the gateway gives back in C, in the paper's numbers.
use Rattle.std.specs.Prelude.{List, ℕ}
use Rattle.gateway.specs.TheGateway.{Left}
use Rattle.wm_gateway.specs.declared.WmReauthorized.{WmReauthorized}

-- What a Re-Auth-Request leaves: its four numbers, and both rooms.
unfoldable pub leaves_in_c : WmReauthorized → (answer request : List ℕ) → Left
leaves_in_c r answer request =
    record { code = r.code; kind = r.kind; size = r.length; request_size = r.request_length; answer = answer; request = request }

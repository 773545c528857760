-- Parts of the list of checks, as the code goes through them.
use Rattle.std.specs.Prelude.{Bool, false, ℕ, eqb}
use mathlib.Core.List.{List, [], ◌∷◌, flat_map}
use Rattle.message.specs.Codes.{plain, user_unknown}
use Rattle.message.specs.ReadingAMessage.{Ask, Field, avps, having, text_field, texts_field, label_field, visited_network, wlan_apn_id, routing_policy}
use Rattle.table.specs.TheTable.{Found, Table, is_found, read_row}
use Rattle.table.specs.Soundness.{sound}
use Rattle.order.specs.ChecksInOrder.{Check, no_row, unsound_row, check, first_failed, field_checks, deciding_checks}
use Rattle.order.specs.Demand2.{row_found}

-- Of some fields of a message, the first check that fails.
unfoldable pub first_of_fields : List ℕ → List Field → Check
first_of_fields m fs = first_failed (flat_map (λ (f : Field). field_checks f (having f.name (avps m))) fs)

-- The fields of a 265 behind its type: the type says whether the W-APN or a policy is required. A request may bring `most` policies.
unfoldable pub behind_type : (most type : ℕ) → List Field
behind_type most type = text_field visited_network false ∷ label_field wlan_apn_id (eqb type 0) ∷ texts_field most routing_policy (eqb type 1) ∷ []

-- The checks of a request behind those of reading, by what the lookup finds: there is a row; it is sound; deciding.
unfoldable pub row_checks : Table → Found → Ask → (wag : Bool) → List Check
row_checks t at q wag =
    check no_row (is_found at) user_unknown
    ∷ check unsound_row (sound (row_found t at)) (plain 5012)
    ∷ deciding_checks q wag (read_row (row_found t at))

-- What the positions and numbers that the code passes around mean in the paper's terms.
use Rattle.std.specs.Prelude.{Result, Ok, Err, List, [], ◌∷◌, ◌≡◌, ℕ, suc, ◌+◌, ◌*◌, ◌≤◌, ◌<◌, eqb, ltb, length, get_or, drop}
use Rattle.octets.specs.Choice.{pick}
use Rattle.octets.specs.Numbers.{net24, up4}
use Rattle.message.specs.ReadingAMessage.{Name, Avp, same_name, known, avps, having, avp_length, avp_code, avp_of, session_id, auth_application_id, origin_host, origin_realm, destination_realm, auth_request_type, destination_host, user_name, termination_cause, proxy_info, re_auth_request_type, visited_network, session_request_type, wlan_apn_id, routing_policy}
use Rattle.message.specs.declared.Spot.{Spot}
use Rattle.message.specs.declared.Failure.{Failure}
use Rattle.message.specs.Failures.{failed_with}

-- SLOTS

-- The names that a list or the answer asks for.
unfoldable pub names : List Name
names =
    session_id
    ∷ auth_application_id
    ∷ origin_host
    ∷ origin_realm
    ∷ destination_realm
    ∷ auth_request_type
    ∷ destination_host
    ∷ user_name
    ∷ termination_cause
    ∷ proxy_info
    ∷ re_auth_request_type
    ∷ visited_network
    ∷ session_request_type
    ∷ wlan_apn_id
    ∷ routing_policy
    ∷ []

-- How many they are. What nothing asks for has that number as its slot if it is known, and the next if it is not.
abbrev pub slots : ℕ
slots = 15

abbrev pub not_known : ℕ
not_known = 16

-- The slot of Routing-Policy, of which there may be several.
abbrev pub routes_slot : ℕ
routes_slot = 14

-- The place of the first name that is the same; where there is none, how many names there are.
unfoldable pub slot_in : List Name → Name → ℕ
slot_in [] n = 0
slot_in (x ∷ xs) n = pick (same_name x n) 0 (suc (slot_in xs n))

-- The slot of a name is its place there.
unfoldable pub slot_of : Name → ℕ
slot_of n = pick (known n) (slot_in names n) not_known

unfoldable pub name_at : ℕ → Name
name_at k = get_or names k session_id

-- The length of the header of an AVP in a slot: the last four names have V.
unfoldable pub head_of : ℕ → ℕ
head_of k = pick (ltb k 11) 8 12

-- ONE AVP

-- The AVP that starts at a place of the message: the slot of its name, its length, its M bit, and where the next starts.
unfoldable pub spot_at : List ℕ → ℕ → Spot
spot_at m at =
    record {
      slot = slot_of (avp_of (drop at m)).name;
      length = avp_length (drop at m);
      mandatory = (avp_of (drop at m)).mandatory;
      next = at + up4 (avp_length (drop at m));
    }

-- Flags and length of the AVP at a place, as one number, and that they are a byte and three.
pub record FlagsAndLength (m : List ℕ) (at word : ℕ) : Type 0 where
  pub both : word ≡ get_or m (at + 4) 0 * 16777216 + net24 m (at + 5)
  pub byte : get_or m (at + 4) 0 < 256
  pub three : net24 m (at + 5) < 16777216

-- That AVP if it passes the four tests, else the first that fails.
pub record HeadAt (m : List ℕ) (at : ℕ) (h : Result Spot Failure) : Type 0 where
  pub code : avp_code (drop at m) ≡ failed_with h
  pub one : (a : Spot) → h ≡ Ok a → a ≡ spot_at m at

-- WHAT WAS GATHERED

-- How often an AVP of a name is there: not at all, once (and which it is), or more often.
pub data Often : Type 0 where
  absent : Often
  once : Avp → Often
  twice : Often

unfoldable pub how_often : List Avp → Often
how_often [] = absent
how_often (a ∷ []) = once a
how_often (a ∷ (b ∷ xs)) = twice

-- The number in a slot: 0 absent, 1 more than once, else the place in the message of the only one.
unfoldable pub slot_says : List ℕ → ℕ → Often
slot_says m v = pick (eqb v 0) absent (pick (eqb v 1) twice (once (avp_of (drop v m))))

-- An AVP that passes the four tests stands at a place of the message, behind its header.
pub record Stands (m : List ℕ) (at : ℕ) : Type 0 where
  pub behind : 20 ≤ at
  pub inside : at ≤ length m
  pub passes : avp_code (drop at m) ≡ 0

-- The slots say how often the AVPs of the walk have each name, and each place in them is one of an AVP,
-- whose length stands so many numbers further on as there are slots.
pub record Gathered (m index : List ℕ) : Type 0 where
  pub size : length index ≡ slots + slots
  pub says : (k : ℕ) → k < slots → slot_says m (get_or index k 0) ≡ how_often (having (name_at k) (avps m))
  pub there : (k : ℕ) → k < slots → 2 ≤ get_or index k 0 → Stands m (get_or index k 0)
  pub long : (k : ℕ) → k < slots → 2 ≤ get_or index k 0 → get_or index (k + slots) 0 ≡ net24 m (get_or index k 0 + 5)

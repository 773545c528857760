-- Worked cases of messages, by hand: cases 9 and 10, and how the messages of the others are made.
use Rattle.std.specs.Prelude.{Bool, List, [], ◌∷◌, ◌++◌, ℕ, ◌+◌, ◌-◌, length}
use Rattle.octets.specs.Texts.{same, zeros}
use Rattle.octets.specs.Numbers.{in24, in32, up4}
use Rattle.message.specs.Codes.{plain, user_unknown}
use Rattle.message.specs.WritingTheAnswer.{avp_bytes, result_avp}

-- 9: Result-Code 2001.
unfoldable pub case9 : Bool
case9 = same (result_avp (plain 2001)) (0x00 ∷ 0x00 ∷ 0x01 ∷ 0x0C ∷ 0x40 ∷ 0x00 ∷ 0x00 ∷ 0x0C ∷ 0x00 ∷ 0x00 ∷ 0x07 ∷ 0xD1 ∷ [])

-- 10: USER_UNKNOWN.
unfoldable pub case10 : Bool
case10 =
    same (result_avp user_unknown)
    (0x00 ∷ 0x00 ∷ 0x01 ∷ 0x29 ∷ 0x40 ∷ 0x00 ∷ 0x00 ∷ 0x20
    ∷ 0x00 ∷ 0x00 ∷ 0x01 ∷ 0x0A ∷ 0x40 ∷ 0x00 ∷ 0x00 ∷ 0x0C ∷ 0x00 ∷ 0x00 ∷ 0x28 ∷ 0xAF
    ∷ 0x00 ∷ 0x00 ∷ 0x01 ∷ 0x2A ∷ 0x40 ∷ 0x00 ∷ 0x00 ∷ 0x0C ∷ 0x00 ∷ 0x00 ∷ 0x13 ∷ 0x89
    ∷ [])

-- TEXTS

-- 001010123456789
unfoldable pub name : List ℕ
name = 48 ∷ 48 ∷ 49 ∷ 48 ∷ 49 ∷ 48 ∷ 49 ∷ 50 ∷ 51 ∷ 52 ∷ 53 ∷ 54 ∷ 55 ∷ 56 ∷ 57 ∷ []

-- "board", "Board", "yard", "gate"
unfoldable pub board : List ℕ
board = 98 ∷ 111 ∷ 97 ∷ 114 ∷ 100 ∷ []

unfoldable pub capital_board : List ℕ
capital_board = 66 ∷ 111 ∷ 97 ∷ 114 ∷ 100 ∷ []

unfoldable pub yard : List ℕ
yard = 121 ∷ 97 ∷ 114 ∷ 100 ∷ []

unfoldable pub gate : List ℕ
gate = 103 ∷ 97 ∷ 116 ∷ 101 ∷ []

-- A Session-Id: "s;" and a letter. The letters of the cases are a = 97, b, c and d, and g for the gate.
unfoldable pub session : ℕ → List ℕ
session letter = 115 ∷ 59 ∷ letter ∷ []

-- "gw" and "gr", the gateway and its realm; "aaa" and "r", the server's own host and realm
unfoldable pub gateway : List ℕ
gateway = 103 ∷ 119 ∷ []

unfoldable pub gateway_realm : List ℕ
gateway_realm = 103 ∷ 114 ∷ []

unfoldable pub own_host : List ℕ
own_host = 97 ∷ 97 ∷ 97 ∷ []

unfoldable pub own_realm : List ℕ
own_realm = 114 ∷ []

-- REQUESTS

-- An AVP of a vendor, with V and M set (192), as 3GPP's are.
unfoldable pub vendor_bytes : (vendor code : ℕ) → List ℕ → List ℕ
vendor_bytes vendor code value =
    in32 code ++ (192 ∷ in24 (12 + length value) ++ (in32 vendor ++ (value ++ zeros (up4 (length value) - length value))))

-- A request with flags R and P, Application-Id 1 and the identifiers 7 and 9.
unfoldable pub request_bytes : (command : ℕ) → List ℕ → List ℕ
request_bytes command body = 1 ∷ in24 (20 + length body) ++ (192 ∷ in24 command ++ (in32 1 ++ (in32 7 ++ (in32 9 ++ body))))

-- The five AVPs of both lists.
unfoldable pub both_avps : List ℕ → List ℕ
both_avps sid = avp_bytes 263 sid ++ avp_bytes 258 (in32 1) ++ avp_bytes 264 gateway ++ avp_bytes 296 gateway_realm ++ avp_bytes 283 own_realm

-- A 265 for that user, of a type, with more AVPs behind its type.
unfoldable pub aa_request : (user sid : List ℕ) → (type : ℕ) → List ℕ → List ℕ
aa_request user sid type more =
    request_bytes 265
    (both_avps sid ++ avp_bytes 274 (in32 2) ++ avp_bytes 293 own_host ++ avp_bytes 1 user ++ vendor_bytes 10415 311 (in32 type) ++ more)

-- Type 0 on a label, at home and from a visited network; type 1 with a policy, and with several; a termination.
unfoldable pub open_at : (sid label : List ℕ) → List ℕ
open_at sid label = aa_request name sid 0 (vendor_bytes 10415 100 label)

unfoldable pub open_visited : (sid label : List ℕ) → List ℕ
open_visited sid label = aa_request name sid 0 (vendor_bytes 10415 600 own_realm ++ vendor_bytes 10415 100 label)

unfoldable pub route_by : (sid route : List ℕ) → List ℕ
route_by sid route = aa_request name sid 1 (vendor_bytes 10415 312 route)

unfoldable pub route_avps : List (List ℕ) → List ℕ
route_avps [] = []
route_avps (p ∷ ps) = vendor_bytes 10415 312 p ++ route_avps ps

unfoldable pub route_by_all : (sid : List ℕ) → (routes : List (List ℕ)) → List ℕ
route_by_all sid routes = aa_request name sid 1 (route_avps routes)

unfoldable pub end_at : (sid label : List ℕ) → List ℕ
end_at sid label =
    request_bytes 275 (both_avps sid ++ avp_bytes 295 (in32 1) ++ avp_bytes 293 own_host ++ avp_bytes 1 name ++ vendor_bytes 10415 100 label)

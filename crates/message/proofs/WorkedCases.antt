-- Messages and answers worked by hand, each held by computing it.
use mathlib.Core.Path.{◌≡◌, refl}
use mathlib.Core.Bool.{Bool, true, false, ◌&&◌}
use mathlib.Core.List.{List, [], ◌∷◌, ◌++◌}
use Prim.Native.Nat.{ℕ, ◌+◌, ◌-◌}
use lib.Dec.{eqb}
use lib.ListN.{get_or, set}
use Rattle.octets.specs.Choice.{pick, require, first_of, within}
use Rattle.octets.specs.Lists.{every, keep}
use Rattle.octets.specs.Numbers.{net24, net32, in24, in32, up4}
use Rattle.octets.specs.Texts.{zeros, same}
use Rattle.message.specs.Codes.{plain, number_of}
use Rattle.message.specs.CallsThatGetNoAnswer.{message_number}
use Rattle.message.specs.ReadingAMessage.{header_code, same_name, head_length, named_in01, codes_of_aa_request, codes_of_termination, known_avps, is_one_of, known, avp_code, avp_of, supported, request_code, behind, walk_one, walk_up_to, walk_by, avps, walk_code, having, first_value, value_of, value_at, present, anything, number_in, text_field, label_field, number_field, texts_field, each_code, tested_as, field_code, starts_with, for_both, for265, for275, fields, list_code, reading_code, tunnel, policy, termination, ask_of, request_of, refused, request, read}
use Rattle.message.specs.WritingTheAnswer.{avp_bytes, session_avp, is3xxx, auth_avps, result_avp, subscription_avp, all_bytes, proxy_avps, answer_body, answer_flags, answer, answer_room}
use Rattle.message.specs.WorkedCases.{case9, case10, name, board, session, gateway, own_host, own_realm, gateway_realm, vendor_bytes, request_bytes, both_avps, aa_request, open_at, open_visited, route_by, end_at}

-- the paper's cases 9 and 10
pub case9-holds : case9 ≡ true
unfolding pick require first_of within keep net24 net32 in24 in32 up4 zeros same number_of header_code same_name head_length named_in01 codes_of_aa_request codes_of_termination known_avps is_one_of known avp_code avp_of supported request_code behind walk_one walk_up_to walk_by avps walk_code having first_value value_of value_at present anything number_in text_field label_field number_field texts_field each_code tested_as field_code starts_with for_both for265 for275 fields list_code reading_code ask_of request_of read message_number case9 case10 name board session gateway own_host own_realm gateway_realm vendor_bytes request_bytes both_avps aa_request open_at open_visited route_by end_at avp_bytes session_avp is3xxx auth_avps result_avp subscription_avp all_bytes proxy_avps answer_body answer_flags answer answer_room
case9-holds = refl

pub case10-holds : case10 ≡ true
unfolding pick require first_of within keep net24 net32 in24 in32 up4 zeros same number_of header_code same_name head_length named_in01 codes_of_aa_request codes_of_termination known_avps is_one_of known avp_code avp_of supported request_code behind walk_one walk_up_to walk_by avps walk_code having first_value value_of value_at present anything number_in text_field label_field number_field texts_field each_code tested_as field_code starts_with for_both for265 for275 fields list_code reading_code ask_of request_of read message_number case9 case10 name board session gateway own_host own_realm gateway_realm vendor_bytes request_bytes both_avps aa_request open_at open_visited route_by end_at avp_bytes session_avp is3xxx auth_avps result_avp subscription_avp all_bytes proxy_avps answer_body answer_flags answer answer_room
case10-holds = refl

-- REQUESTS

pub tunnel-read : read 1 (open_at (session 97) board) ≡ request (record { user = name; ask = tunnel (session 97) gateway gateway_realm board false })
unfolding pick require first_of within keep net24 net32 in24 in32 up4 zeros same number_of header_code same_name head_length named_in01 codes_of_aa_request codes_of_termination known_avps is_one_of known avp_code avp_of supported request_code behind walk_one walk_up_to walk_by avps walk_code having first_value value_of value_at present anything number_in text_field label_field number_field texts_field each_code tested_as field_code starts_with for_both for265 for275 fields list_code reading_code ask_of request_of read message_number case9 case10 name board session gateway own_host own_realm gateway_realm vendor_bytes request_bytes both_avps aa_request open_at open_visited route_by end_at avp_bytes session_avp is3xxx auth_avps result_avp subscription_avp all_bytes proxy_avps answer_body answer_flags answer answer_room
tunnel-read = refl

pub visited-read : read 1 (open_visited (session 97) board) ≡ request (record { user = name; ask = tunnel (session 97) gateway gateway_realm board true })
unfolding pick require first_of within keep net24 net32 in24 in32 up4 zeros same number_of header_code same_name head_length named_in01 codes_of_aa_request codes_of_termination known_avps is_one_of known avp_code avp_of supported request_code behind walk_one walk_up_to walk_by avps walk_code having first_value value_of value_at present anything number_in text_field label_field number_field texts_field each_code tested_as field_code starts_with for_both for265 for275 fields list_code reading_code ask_of request_of read message_number case9 case10 name board session gateway own_host own_realm gateway_realm vendor_bytes request_bytes both_avps aa_request open_at open_visited route_by end_at avp_bytes session_avp is3xxx auth_avps result_avp subscription_avp all_bytes proxy_avps answer_body answer_flags answer answer_room
visited-read = refl

pub policy-read : read 1 (route_by (session 97) board) ≡ request (record { user = name; ask = policy (session 97) board [] [] })
unfolding pick require first_of within keep net24 net32 in24 in32 up4 zeros same number_of header_code same_name head_length named_in01 codes_of_aa_request codes_of_termination known_avps is_one_of known avp_code avp_of supported request_code behind walk_one walk_up_to walk_by avps walk_code having first_value value_of value_at present anything number_in text_field label_field number_field texts_field each_code tested_as field_code starts_with for_both for265 for275 fields list_code reading_code ask_of request_of read message_number case9 case10 name board session gateway own_host own_realm gateway_realm vendor_bytes request_bytes both_avps aa_request open_at open_visited route_by end_at avp_bytes session_avp is3xxx auth_avps result_avp subscription_avp all_bytes proxy_avps answer_body answer_flags answer answer_room
policy-read = refl

pub termination-read : read 1 (end_at (session 97) board) ≡ request (record { user = name; ask = termination (session 97) board })
unfolding pick require first_of within keep net24 net32 in24 in32 up4 zeros same number_of header_code same_name head_length named_in01 codes_of_aa_request codes_of_termination known_avps is_one_of known avp_code avp_of supported request_code behind walk_one walk_up_to walk_by avps walk_code having first_value value_of value_at present anything number_in text_field label_field number_field texts_field each_code tested_as field_code starts_with for_both for265 for275 fields list_code reading_code ask_of request_of read message_number case9 case10 name board session gateway own_host own_realm gateway_realm vendor_bytes request_bytes both_avps aa_request open_at open_visited route_by end_at avp_bytes session_avp is3xxx auth_avps result_avp subscription_avp all_bytes proxy_avps answer_body answer_flags answer answer_room
termination-read = refl

-- AVPs that are not known: 600 without V, 100 of another vendor, 263 with V at vendor 0; without M they are stepped over, and
-- so is one of an odd length whose padding is not zero
unfoldable pub clear_m : List ℕ → List ℕ
clear_m s = set s 4 (get_or s 4 0 - 64)

unfoldable pub strangers : List ℕ
strangers =
    clear_m (avp_bytes 600 own_realm)
    ++ (clear_m (vendor_bytes 9 100 gateway) ++ (clear_m (vendor_bytes 0 263 gateway) ++ (0x00 ∷ 0x00 ∷ 0x03 ∷ 0xE7 ∷ 0x00 ∷ 0x00 ∷ 0x00 ∷ 0x09 ∷ 0x41 ∷ 0x01 ∷ 0x02 ∷ 0x03 ∷ [])))

unfoldable pub among_strangers : List ℕ
among_strangers = aa_request name (session 97) 0 (strangers ++ vendor_bytes 10415 100 board)

pub strangers-read : read 1 among_strangers ≡ request (record { user = name; ask = tunnel (session 97) gateway gateway_realm board false })
unfolding pick require first_of within keep net24 net32 in24 in32 up4 zeros same number_of header_code same_name head_length named_in01 codes_of_aa_request codes_of_termination known_avps is_one_of known avp_code avp_of supported request_code behind walk_one walk_up_to walk_by avps walk_code having first_value value_of value_at present anything number_in text_field label_field number_field texts_field each_code tested_as field_code starts_with for_both for265 for275 fields list_code reading_code ask_of request_of read message_number case9 case10 name board session gateway own_host own_realm gateway_realm vendor_bytes request_bytes both_avps aa_request open_at open_visited route_by end_at avp_bytes session_avp is3xxx auth_avps result_avp subscription_avp all_bytes proxy_avps answer_body answer_flags answer answer_room strangers among_strangers clear_m
strangers-read = refl

-- with M each of them is refused, before what is behind it is looked at and after what is before it
unfoldable pub refused_for : List ℕ → Bool
refused_for a = eqb (reading_code 1 (aa_request name (session 97) 0 (a ++ (0xFF ∷ [])))) 5001 && eqb (reading_code 1 (aa_request name (session 97) 0 (set a 4 (get_or a 4 0 + 1) ++ a))) 3009

pub strangers-refused : every refused_for (avp_bytes 600 own_realm ∷ vendor_bytes 9 100 gateway ∷ vendor_bytes 0 263 gateway ∷ avp_bytes 100 board ∷ avp_bytes 33 board ∷ avp_bytes 280 gateway ∷ avp_bytes 97 board ∷ avp_bytes 408 (in32 1) ∷ []) ≡ true
unfolding pick require first_of within keep net24 net32 in24 in32 up4 zeros same number_of header_code same_name head_length named_in01 codes_of_aa_request codes_of_termination known_avps is_one_of known avp_code avp_of supported request_code behind walk_one walk_up_to walk_by avps walk_code having first_value value_of value_at present anything number_in text_field label_field number_field texts_field each_code tested_as field_code starts_with for_both for265 for275 fields list_code reading_code ask_of request_of read message_number case9 case10 name board session gateway own_host own_realm gateway_realm vendor_bytes request_bytes both_avps aa_request open_at open_visited route_by end_at avp_bytes session_avp is3xxx auth_avps result_avp subscription_avp all_bytes proxy_avps answer_body answer_flags answer answer_room refused_for every
strangers-refused = refl

-- as the first AVP too
pub stranger-first : read 1 (request_bytes 265 (avp_bytes 33 board)) ≡ refused 5001
unfolding pick require first_of within keep net24 net32 in24 in32 up4 zeros same number_of header_code same_name head_length named_in01 codes_of_aa_request codes_of_termination known_avps is_one_of known avp_code avp_of supported request_code behind walk_one walk_up_to walk_by avps walk_code having first_value value_of value_at present anything number_in text_field label_field number_field texts_field each_code tested_as field_code starts_with for_both for265 for275 fields list_code reading_code ask_of request_of read message_number case9 case10 name board session gateway own_host own_realm gateway_realm vendor_bytes request_bytes both_avps aa_request open_at open_visited route_by end_at avp_bytes session_avp is3xxx auth_avps result_avp subscription_avp all_bytes proxy_avps answer_body answer_flags answer answer_room
stranger-first = refl

-- known ones with M: of the AA-Request's grammar, of the termination's, and of answers
pub known_read : read 1 (aa_request name (session 97) 0 (avp_bytes 32 gateway ++ avp_bytes 25 board ++ avp_bytes 285 (in32 0) ++ avp_bytes 268 (in32 2001) ++ vendor_bytes 10415 304 board ++ vendor_bytes 10415 100 board))
    ≡ request (record { user = name; ask = tunnel (session 97) gateway gateway_realm board false })
unfolding pick require first_of within keep net24 net32 in24 in32 up4 zeros same number_of header_code same_name head_length named_in01 codes_of_aa_request codes_of_termination known_avps is_one_of known avp_code avp_of supported request_code behind walk_one walk_up_to walk_by avps walk_code having first_value value_of value_at present anything number_in text_field label_field number_field texts_field each_code tested_as field_code starts_with for_both for265 for275 fields list_code reading_code ask_of request_of read message_number case9 case10 name board session gateway own_host own_realm gateway_realm vendor_bytes request_bytes both_avps aa_request open_at open_visited route_by end_at avp_bytes session_avp is3xxx auth_avps result_avp subscription_avp all_bytes proxy_avps answer_body answer_flags answer answer_room
known_read = refl

-- a W-APN without its vendor is none; one that stands twice; a bare header; a message that is an answer
pub vendor-missed : read 1 (aa_request name (session 97) 0 (clear_m (avp_bytes 100 board))) ≡ refused 5005
unfolding pick require first_of within keep net24 net32 in24 in32 up4 zeros same number_of header_code same_name head_length named_in01 codes_of_aa_request codes_of_termination known_avps is_one_of known avp_code avp_of supported request_code behind walk_one walk_up_to walk_by avps walk_code having first_value value_of value_at present anything number_in text_field label_field number_field texts_field each_code tested_as field_code starts_with for_both for265 for275 fields list_code reading_code ask_of request_of read message_number case9 case10 name board session gateway own_host own_realm gateway_realm vendor_bytes request_bytes both_avps aa_request open_at open_visited route_by end_at avp_bytes session_avp is3xxx auth_avps result_avp subscription_avp all_bytes proxy_avps answer_body answer_flags answer answer_room clear_m
vendor-missed = refl

pub twice-seen : read 1 (aa_request name (session 97) 0 (vendor_bytes 10415 100 board ++ vendor_bytes 10415 100 board)) ≡ refused 5009
unfolding pick require first_of within keep net24 net32 in24 in32 up4 zeros same number_of header_code same_name head_length named_in01 codes_of_aa_request codes_of_termination known_avps is_one_of known avp_code avp_of supported request_code behind walk_one walk_up_to walk_by avps walk_code having first_value value_of value_at present anything number_in text_field label_field number_field texts_field each_code tested_as field_code starts_with for_both for265 for275 fields list_code reading_code ask_of request_of read message_number case9 case10 name board session gateway own_host own_realm gateway_realm vendor_bytes request_bytes both_avps aa_request open_at open_visited route_by end_at avp_bytes session_avp is3xxx auth_avps result_avp subscription_avp all_bytes proxy_avps answer_body answer_flags answer answer_room
twice-seen = refl

pub bare-read : read 1 (request_bytes 265 []) ≡ refused 5005
unfolding pick require first_of within keep net24 net32 in24 in32 up4 zeros same number_of header_code same_name head_length named_in01 codes_of_aa_request codes_of_termination known_avps is_one_of known avp_code avp_of supported request_code behind walk_one walk_up_to walk_by avps walk_code having first_value value_of value_at present anything number_in text_field label_field number_field texts_field each_code tested_as field_code starts_with for_both for265 for275 fields list_code reading_code ask_of request_of read message_number case9 case10 name board session gateway own_host own_realm gateway_realm vendor_bytes request_bytes both_avps aa_request open_at open_visited route_by end_at avp_bytes session_avp is3xxx auth_avps result_avp subscription_avp all_bytes proxy_avps answer_body answer_flags answer answer_room
bare-read = refl

-- POLICIES (W5)

unfoldable pub route_avp : List ℕ → List ℕ
route_avp route = vendor_bytes 10415 312 route

-- three are read in the message's order, whatever stands between them; a tunnel may bring three too
pub three-read : read 3 (aa_request name (session 97) 1 (route_avp board ++ (strangers ++ (route_avp gateway ++ route_avp name))))
    ≡ request (record { user = name; ask = policy (session 97) board gateway name })
unfolding pick require first_of within keep net24 net32 in24 in32 up4 zeros same number_of header_code same_name head_length named_in01 codes_of_aa_request codes_of_termination known_avps is_one_of known avp_code avp_of supported request_code behind walk_one walk_up_to walk_by avps walk_code having first_value value_of value_at present anything number_in text_field label_field number_field texts_field each_code tested_as field_code starts_with for_both for265 for275 fields list_code reading_code ask_of request_of read message_number case9 case10 name board session gateway own_host own_realm gateway_realm vendor_bytes request_bytes both_avps aa_request open_at open_visited route_by end_at avp_bytes session_avp is3xxx auth_avps result_avp subscription_avp all_bytes proxy_avps answer_body answer_flags answer answer_room strangers clear_m route_avp
three-read = refl

pub two-read : read 3 (aa_request name (session 97) 1 (route_avp board ++ route_avp gateway)) ≡ request (record { user = name; ask = policy (session 97) board gateway [] })
unfolding pick require first_of within keep net24 net32 in24 in32 up4 zeros same number_of header_code same_name head_length named_in01 codes_of_aa_request codes_of_termination known_avps is_one_of known avp_code avp_of supported request_code behind walk_one walk_up_to walk_by avps walk_code having first_value value_of value_at present anything number_in text_field label_field number_field texts_field each_code tested_as field_code starts_with for_both for265 for275 fields list_code reading_code ask_of request_of read message_number case9 case10 name board session gateway own_host own_realm gateway_realm vendor_bytes request_bytes both_avps aa_request open_at open_visited route_by end_at avp_bytes session_avp is3xxx auth_avps result_avp subscription_avp all_bytes proxy_avps answer_body answer_flags answer answer_room route_avp
two-read = refl

pub three-ignored : read 3 (aa_request name (session 97) 0 (route_avp board ++ (route_avp gateway ++ (vendor_bytes 10415 100 board ++ route_avp name))))
    ≡ request (record { user = name; ask = tunnel (session 97) gateway gateway_realm board false })
unfolding pick require first_of within keep net24 net32 in24 in32 up4 zeros same number_of header_code same_name head_length named_in01 codes_of_aa_request codes_of_termination known_avps is_one_of known avp_code avp_of supported request_code behind walk_one walk_up_to walk_by avps walk_code having first_value value_of value_at present anything number_in text_field label_field number_field texts_field each_code tested_as field_code starts_with for_both for265 for275 fields list_code reading_code ask_of request_of read message_number case9 case10 name board session gateway own_host own_realm gateway_realm vendor_bytes request_bytes both_avps aa_request open_at open_visited route_by end_at avp_bytes session_avp is3xxx auth_avps result_avp subscription_avp all_bytes proxy_avps answer_body answer_flags answer answer_room route_avp
three-ignored = refl

-- none where one is required; a fourth, in both types, before any length; a second where one is allowed; a length, of the second and of
-- the third too
unfoldable pub routes_coded : (type most code : ℕ) → List ℕ → Bool
routes_coded type most code routes = eqb (reading_code most (aa_request name (session 97) type (vendor_bytes 10415 100 board ++ routes))) code

pub policies-refused : routes_coded 1 3 5005 []
    && (routes_coded 1 3 5009 (route_avp [] ++ (route_avp board ++ (route_avp board ++ route_avp board)))
    && (routes_coded 0 3 5009 (route_avp [] ++ (route_avp board ++ (route_avp board ++ route_avp board)))
    && (routes_coded 1 1 5009 (route_avp [] ++ route_avp board)
    && (routes_coded 0 1 5009 (route_avp board ++ route_avp board)
    && (routes_coded 1 3 5014 (route_avp board ++ (route_avp [] ++ route_avp board))
    && (routes_coded 0 3 5014 (route_avp board ++ (route_avp board ++ route_avp (zeros 129)))
    && routes_coded 0 3 0 (route_avp board ++ (route_avp board ++ route_avp (zeros 128))))))))) ≡ true
unfolding pick require first_of within keep net24 net32 in24 in32 up4 zeros same number_of header_code same_name head_length named_in01 codes_of_aa_request codes_of_termination known_avps is_one_of known avp_code avp_of supported request_code behind walk_one walk_up_to walk_by avps walk_code having first_value value_of value_at present anything number_in text_field label_field number_field texts_field each_code tested_as field_code starts_with for_both for265 for275 fields list_code reading_code ask_of request_of read message_number case9 case10 name board session gateway own_host own_realm gateway_realm vendor_bytes request_bytes both_avps aa_request open_at open_visited route_by end_at avp_bytes session_avp is3xxx auth_avps result_avp subscription_avp all_bytes proxy_avps answer_body answer_flags answer answer_room route_avp routes_coded
policies-refused = refl

-- the realm is Origin-Realm, and not Destination-Realm
pub realm-read : read 1 (request_bytes 265 (avp_bytes 263 (session 97) ++ avp_bytes 258 (in32 1) ++ avp_bytes 264 gateway ++ avp_bytes 296 board ++ avp_bytes 283 own_realm
    ++ avp_bytes 274 (in32 2) ++ avp_bytes 293 own_host ++ avp_bytes 1 name ++ vendor_bytes 10415 311 (in32 0) ++ vendor_bytes 10415 100 board))
    ≡ request (record { user = name; ask = tunnel (session 97) gateway board board false })
unfolding pick require first_of within keep net24 net32 in24 in32 up4 zeros same number_of header_code same_name head_length named_in01 codes_of_aa_request codes_of_termination known_avps is_one_of known avp_code avp_of supported request_code behind walk_one walk_up_to walk_by avps walk_code having first_value value_of value_at present anything number_in text_field label_field number_field texts_field each_code tested_as field_code starts_with for_both for265 for275 fields list_code reading_code ask_of request_of read message_number case9 case10 name board session gateway own_host own_realm gateway_realm vendor_bytes request_bytes both_avps aa_request open_at open_visited route_by end_at avp_bytes session_avp is3xxx auth_avps result_avp subscription_avp all_bytes proxy_avps answer_body answer_flags answer answer_room
realm-read = refl

-- ANSWERS

-- success, with a Session-Id of three bytes and its padding, byte by byte
unfoldable pub granted : List ℕ
granted =
    0x01 ∷ 0x00 ∷ 0x00 ∷ 0x88 ∷ 0x40 ∷ 0x00 ∷ 0x01 ∷ 0x09 ∷ 0x00 ∷ 0x00 ∷ 0x00 ∷ 0x01
    ∷ 0x00 ∷ 0x00 ∷ 0x00 ∷ 0x07 ∷ 0x00 ∷ 0x00 ∷ 0x00 ∷ 0x09 ∷ 0x00 ∷ 0x00 ∷ 0x01 ∷ 0x07
    ∷ 0x40 ∷ 0x00 ∷ 0x00 ∷ 0x0B ∷ 0x73 ∷ 0x3B ∷ 0x61 ∷ 0x00 ∷ 0x00 ∷ 0x00 ∷ 0x01 ∷ 0x02
    ∷ 0x40 ∷ 0x00 ∷ 0x00 ∷ 0x0C ∷ 0x00 ∷ 0x00 ∷ 0x00 ∷ 0x01 ∷ 0x00 ∷ 0x00 ∷ 0x01 ∷ 0x12
    ∷ 0x40 ∷ 0x00 ∷ 0x00 ∷ 0x0C ∷ 0x00 ∷ 0x00 ∷ 0x00 ∷ 0x02 ∷ 0x00 ∷ 0x00 ∷ 0x01 ∷ 0x0C
    ∷ 0x40 ∷ 0x00 ∷ 0x00 ∷ 0x0C ∷ 0x00 ∷ 0x00 ∷ 0x07 ∷ 0xD1 ∷ 0x00 ∷ 0x00 ∷ 0x01 ∷ 0x08
    ∷ 0x40 ∷ 0x00 ∷ 0x00 ∷ 0x0B ∷ 0x61 ∷ 0x61 ∷ 0x61 ∷ 0x00 ∷ 0x00 ∷ 0x00 ∷ 0x01 ∷ 0x28
    ∷ 0x40 ∷ 0x00 ∷ 0x00 ∷ 0x09 ∷ 0x72 ∷ 0x00 ∷ 0x00 ∷ 0x00 ∷ 0x00 ∷ 0x00 ∷ 0x01 ∷ 0xBB
    ∷ 0x40 ∷ 0x00 ∷ 0x00 ∷ 0x2C ∷ 0x00 ∷ 0x00 ∷ 0x01 ∷ 0xC2 ∷ 0x40 ∷ 0x00 ∷ 0x00 ∷ 0x0C
    ∷ 0x00 ∷ 0x00 ∷ 0x00 ∷ 0x01 ∷ 0x00 ∷ 0x00 ∷ 0x01 ∷ 0xBC ∷ 0x40 ∷ 0x00 ∷ 0x00 ∷ 0x17
    ∷ 0x30 ∷ 0x30 ∷ 0x31 ∷ 0x30 ∷ 0x31 ∷ 0x30 ∷ 0x31 ∷ 0x32 ∷ 0x33 ∷ 0x34 ∷ 0x35 ∷ 0x36
    ∷ 0x37 ∷ 0x38 ∷ 0x39 ∷ 0x00
    ∷ []

pub granted-written : answer (open_at (session 97) board) own_host own_realm (plain 2001) ≡ granted
unfolding pick require first_of within keep net24 net32 in24 in32 up4 zeros same number_of header_code same_name head_length named_in01 codes_of_aa_request codes_of_termination known_avps is_one_of known avp_code avp_of supported request_code behind walk_one walk_up_to walk_by avps walk_code having first_value value_of value_at present anything number_in text_field label_field number_field texts_field each_code tested_as field_code starts_with for_both for265 for275 fields list_code reading_code ask_of request_of read message_number case9 case10 name board session gateway own_host own_realm gateway_realm vendor_bytes request_bytes both_avps aa_request open_at open_visited route_by end_at avp_bytes session_avp is3xxx auth_avps result_avp subscription_avp all_bytes proxy_avps answer_body answer_flags answer answer_room granted
granted-written = refl

-- a Proxy-Info is copied with its own flags and padding
unfoldable pub proxied : List ℕ
proxied = 0x00 ∷ 0x00 ∷ 0x01 ∷ 0x1C ∷ 0x00 ∷ 0x00 ∷ 0x00 ∷ 0x09 ∷ 0x41 ∷ 0x01 ∷ 0x02 ∷ 0x03 ∷ []

pub proxies-copied : proxy_avps (aa_request name (session 97) 0 (proxied ++ (strangers ++ proxied))) ≡ proxied ++ proxied
unfolding pick require first_of within keep net24 net32 in24 in32 up4 zeros same number_of header_code same_name head_length named_in01 codes_of_aa_request codes_of_termination known_avps is_one_of known avp_code avp_of supported request_code behind walk_one walk_up_to walk_by avps walk_code having first_value value_of value_at present anything number_in text_field label_field number_field texts_field each_code tested_as field_code starts_with for_both for265 for275 fields list_code reading_code ask_of request_of read message_number case9 case10 name board session gateway own_host own_realm gateway_realm vendor_bytes request_bytes both_avps aa_request open_at open_visited route_by end_at avp_bytes session_avp is3xxx auth_avps result_avp subscription_avp all_bytes proxy_avps answer_body answer_flags answer answer_room strangers proxied clear_m
proxies-copied = refl

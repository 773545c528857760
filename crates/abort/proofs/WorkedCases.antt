-- The worked cases, computed by the definitions.
use mathlib.Core.Path.{◌≡◌, refl}
use mathlib.Core.Bool.{true, ◌&&◌}
use Rattle.octets.specs.Choice.{pick, require, first_of, within}
use Rattle.octets.specs.Lists.{every, keep}
use Rattle.octets.specs.Numbers.{net24, net32, in24, in32, up4}
use Rattle.octets.specs.Texts.{zeros, same}
use Rattle.message.specs.CallsThatGetNoAnswer.{message_number}
use Rattle.message.specs.ReadingAMessage.{same_name, head_length, avp_code, avp_of, behind, walk_one, walk_up_to, walk_by, having, first_value, value_of, starts_with}
use Rattle.message.specs.WritingTheAnswer.{avp_bytes}
use Rattle.message.specs.WorkedCases.{session, gateway, gateway_realm, own_host, own_realm, vendor_bytes}
use Rattle.abort.specs.TheDisconnection.{abort_number, abort_of, abort_avps, header, abort_request, write_abort, answers_to, once, answers_for, belongs}
use Rattle.abort.specs.WorkedCases.{in_room, cut, by_hand, room_of, is_written, the_request, refused_by, lent, the_numbers, reply, is_ours, usual, they_belong, they_do_not}

pub requests : the_request && the_numbers ≡ true
unfolding pick require first_of within in24 in32 up4 zeros same avp_bytes session gateway gateway_realm own_host own_realm abort_number abort_of abort_avps header abort_request write_abort in_room cut by_hand room_of is_written the_request refused_by lent the_numbers
requests = refl

pub answers : they_belong && they_do_not ≡ true
unfolding pick require first_of within every keep net24 net32 in24 in32 up4 zeros same message_number same_name head_length avp_code avp_of behind walk_one walk_up_to walk_by having first_value value_of starts_with avp_bytes session gateway gateway_realm vendor_bytes header answers_to once answers_for belongs reply is_ours usual they_belong they_do_not
answers = refl

-- The worked cases hold, by computation.
use mathlib.Core.Path.{refl}
use Rattle.octets.specs.Choice.{pick, require, first_of, within}
use Rattle.octets.specs.Lists.{every, keep}
use Rattle.octets.specs.Numbers.{net24, net32, in24, in32, up4}
use Rattle.octets.specs.Texts.{zeros, filled, same}
use Rattle.message.specs.TheRooms.{notice_length}
use Rattle.message.specs.CallsThatGetNoAnswer.{message_number}
use Rattle.message.specs.ReadingAMessage.{header_code, same_name, head_length, named_in01, codes_of_aa_request, codes_of_termination, known_avps, is_one_of, known, avp_code, avp_of, supported, request_code, behind, walk_one, walk_up_to, walk_by, avps, walk_code, having, first_value, value_of, value_at, present, anything, number_in, text_field, label_field, number_field, texts_field, each_code, tested_as, field_code, starts_with, for_both, for265, for275, fields, list_code, reading_code, ask_of, request_of, read}
use Rattle.message.specs.WorkedCases.{name, board, capital_board, gate, session, gateway, own_host, own_realm, gateway_realm, vendor_bytes, request_bytes, both_avps, aa_request, open_at, end_at}
use Rattle.message.specs.WritingTheAnswer.{avp_bytes}
use Rattle.table.specs.Soundness.{lower_case, same_label}
use Rattle.changes.specs.Changes.{kept_in}
use Rattle.rules.specs.Calls.{most_policies}
use Rattle.rules.specs.WorkedCases.{of}
use Rattle.order.specs.Demand2.{request_in}
use Rattle.order.specs.Demand3.{same_account, same_subject, own_number, sent_by, subject, is_of}
use Rattle.order.specs.OpenedFirst.{label_asked, without}
use Rattle.order.specs.OpenedAgain.{calling, named}
use Rattle.history.specs.OrderOfOpening.{compared, is_first, line_after, line_from, on_name, on_success, same_tunnel, took_the_first, tunnel_cut}
use Rattle.history.specs.EachCounted.{count_from, cuts, ends, is_on, opens}
use Rattle.history.specs.WorkedCases.{DayCounted, OldServerRefused, counts, day, lowest, lowest_alone, old_server, old_told, still_there, success, unused_there}

pub day-counted : DayCounted
unfolding pick require first_of within every keep net24 net32 in24 in32 up4 zeros filled same message_number header_code same_name head_length named_in01 codes_of_aa_request codes_of_termination known_avps is_one_of known avp_code avp_of supported request_code behind walk_one walk_up_to walk_by avps walk_code having first_value value_of value_at present anything number_in text_field label_field number_field texts_field each_code tested_as field_code starts_with for_both for265 for275 fields list_code reading_code ask_of request_of read name board capital_board gate session gateway own_host own_realm gateway_realm vendor_bytes request_bytes both_avps aa_request open_at end_at avp_bytes lower_case same_label request_in same_account same_subject own_number sent_by subject is_of without calling named of most_policies notice_length kept_in label_asked compared line_after line_from on_name on_success tunnel_cut count_from cuts ends is_on opens counts day success unused_there
day-counted = (refl, refl, refl)

pub old-server-refused : OldServerRefused
unfolding pick require first_of within every keep net24 net32 in24 in32 up4 zeros filled same message_number header_code same_name head_length named_in01 codes_of_aa_request codes_of_termination known_avps is_one_of known avp_code avp_of supported request_code behind walk_one walk_up_to walk_by avps walk_code having first_value value_of value_at present anything number_in text_field label_field number_field texts_field each_code tested_as field_code starts_with for_both for265 for275 fields list_code reading_code ask_of request_of read name board capital_board gate session gateway own_host own_realm gateway_realm vendor_bytes request_bytes both_avps aa_request open_at end_at avp_bytes lower_case same_label request_in same_account same_subject own_number sent_by subject is_of without calling named of most_policies notice_length kept_in label_asked compared line_after line_from on_name on_success tunnel_cut is_first same_tunnel took_the_first lowest lowest_alone old_server old_told still_there success
old-server-refused = (refl, refl, refl)

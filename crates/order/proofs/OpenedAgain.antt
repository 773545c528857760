-- The worked case holds, by computation.
use mathlib.Core.Path.{refl}
use Rattle.octets.specs.Choice.{pick, require, first_of, within}
use Rattle.octets.specs.Lists.{every, keep}
use Rattle.octets.specs.Numbers.{net24, net32, in24, in32, up4}
use Rattle.octets.specs.Texts.{zeros, filled, same}
use Rattle.message.specs.TheRooms.{notice_length}
use Rattle.message.specs.CallsThatGetNoAnswer.{message_number}
use Rattle.message.specs.ReadingAMessage.{header_code, same_name, head_length, named_in01, codes_of_aa_request, codes_of_termination, known_avps, is_one_of, known, avp_code, avp_of, supported, request_code, behind, walk_one, walk_up_to, walk_by, avps, walk_code, having, first_value, value_of, value_at, present, anything, number_in, text_field, label_field, number_field, texts_field, each_code, tested_as, field_code, starts_with, for_both, for265, for275, fields, list_code, reading_code, ask_of, request_of, read}
use Rattle.message.specs.WorkedCases.{name, board, session, gateway, own_host, own_realm, gateway_realm, vendor_bytes, request_bytes, both_avps, aa_request, open_at, end_at}
use Rattle.message.specs.WritingTheAnswer.{avp_bytes}
use Rattle.table.specs.Soundness.{lower_case, same_label}
use Rattle.changes.specs.Changes.{kept_in}
use Rattle.rules.specs.Calls.{most_policies}
use Rattle.rules.specs.WorkedCases.{of}
use Rattle.order.specs.Demand2.{request_in}
use Rattle.order.specs.Demand3.{same_account, same_subject, own_number, sent_by, subject, is_of}
use Rattle.order.specs.OpenedFirst.{label_in, session_cut, without, line_after, history}
use Rattle.order.specs.OpenedAgain.{entered, calling, granted, cutting, again, and_then_c, named, OpenedAgainStandsLast}

pub opened-again-stands-last : OpenedAgainStandsLast
unfolding pick require first_of within every keep net24 net32 in24 in32 up4 zeros filled same message_number header_code same_name head_length named_in01 codes_of_aa_request codes_of_termination known_avps is_one_of known avp_code avp_of supported request_code behind walk_one walk_up_to walk_by avps walk_code having first_value value_of value_at present anything number_in text_field label_field number_field texts_field each_code tested_as field_code starts_with for_both for265 for275 fields list_code reading_code ask_of request_of read name board session gateway own_host own_realm gateway_realm vendor_bytes request_bytes both_avps aa_request open_at end_at avp_bytes lower_case same_label request_in same_account same_subject own_number sent_by subject is_of label_in session_cut without line_after history entered calling granted cutting again and_then_c named of most_policies notice_length kept_in
opened-again-stands-last = (refl, refl)

-- The worked cases, computed by the definitions.
use mathlib.Core.Path.{◌≡◌, refl}
use mathlib.Core.Bool.{true, ◌&&◌}
use Rattle.octets.specs.Choice.{pick, require, first_of, within}
use Rattle.octets.specs.Lists.{every, keep, distinct, first_or, sum_of, counted, is_on, up_to0}
use Rattle.octets.specs.Numbers.{net24, net32, in24, in32, up4}
use Rattle.octets.specs.Texts.{all_zero, filled, pieces, put, same, zeros}
use Rattle.message.specs.TheRooms.{notice_length}
use Rattle.message.specs.CallsThatGetNoAnswer.{message_number}
use Rattle.message.specs.Codes.{number_of, kind_of}
use Rattle.message.specs.ReadingAMessage.{header_code, same_name, head_length, named_in01, codes_of_aa_request, codes_of_termination, known_avps, is_one_of, known, avp_code, avp_of, supported, request_code, behind, walk_one, walk_up_to, walk_by, avps, walk_code, having, first_value, value_of, present, anything, number_in, text_field, label_field, number_field, tested_as, field_code, starts_with, for_both, for265, for275, fields, list_code, reading_code, ask_of, request_of, read, each_code, texts_field, value_at}
use Rattle.message.specs.WorkedCases.{name, board, session, gateway, own_host, own_realm, vendor_bytes, request_bytes, both_avps, aa_request, open_at, open_visited, end_at, gateway_realm}
use Rattle.message.specs.WritingTheAnswer.{avp_bytes, session_avp, is3xxx, auth_avps, result_avp, subscription_avp, all_bytes, proxy_avps, answer_body, answer_flags, answer, answer_room}
use Rattle.table.specs.Soundness.{zero_behind, is_digit, is_name, head_form, entry_form, entries_form, in_use, access_form, second_form, of_blocks, place_form, is_row, has_form, sums_agree, place_sums, line_exact, lower_case, same_label, labels, limits, sessions, on_entry, under_limits, policy_marked, sound, policies_in_order, only_behind}
use Rattle.table.specs.TheTable.{is_form, row_length, form_of, place, access_at, sums_from, sealed, barred, may_roam, places, line, entry_bytes, entries_bytes, from_bits, used_bits, head_bytes, held, first_bytes, second_bytes, access_bytes, place_bytes, places_bytes, row_bytes, read_entry, read_entries, read_access, order_line, read_row, table_number, rows, row_at, with_row, has_name, is_row_of, later, first_row, lookup, is_found}
use Rattle.changes.specs.Changes.{leave, freed, vacant, lowest_free, new_access, opened, hold, kept_in, routed, no_policies}
use Rattle.rules.specs.Calls.{call_number, most_policies, silent, notice_bytes, notice_room, result_of, reply, refusal, table_after, settled, on_row, account, on_reading, handle}
use Rattle.rules.specs.Deciding.{refuse, grant, entry_from, entry_named, no_entry, entry_at, with_session, place_of, none, at_place, open_on, first_on, at_limit, admit, stands_on, held_already, type0, type1, terminate, decide}
use Rattle.order.specs.Demand2.{request_in}
use Rattle.order.specs.OpenedAgain.{calling}
use Rattle.order.specs.OpenedFirst.{session_cut}
use Rattle.screen.specs.TheBoard.{session_of, state_of, shown, number_of as number-of, place_in, showing, request_says, success, result_says, line as line_of, after as after-event, moved, moved_by, same_screen, sized, right, is_of, on_board, feed_number, told, leaving as leaving-board, feed, feed_request, feed_result, feed_notice, is_connected}
use Rattle.agreement.specs.TheBoardAgrees.{some, stands_in, stands_in_at, stands_at, stands_once, each_once, kind_asked, session_asked, with_request, with_result, with_notice, in_turn, with_answer, fed_by, after}
use Rattle.agreement.specs.WorkedCases.{other, subscriber, two, screen, begin, shows, fed, open_other, agreeing, two_accounts, crossed, no_state}

pub cases : agreeing 1 && (agreeing 2 && (two_accounts && (crossed && no_state))) ≡ true
unfolding pick require first_of within every keep distinct first_or sum_of counted is_on up_to0 net24 net32 in24 in32 up4 all_zero filled pieces put same zeros message_number number_of kind_of header_code same_name head_length named_in01 codes_of_aa_request codes_of_termination known_avps is_one_of known avp_code avp_of supported request_code behind walk_one walk_up_to walk_by avps walk_code having first_value value_of present anything number_in text_field label_field number_field tested_as field_code starts_with for_both for265 for275 fields list_code reading_code ask_of request_of read name board session gateway own_host own_realm vendor_bytes request_bytes both_avps aa_request open_at open_visited end_at avp_bytes session_avp is3xxx auth_avps result_avp subscription_avp all_bytes proxy_avps answer_body answer_flags answer answer_room zero_behind is_digit is_name head_form entry_form entries_form in_use access_form second_form of_blocks place_form is_row has_form sums_agree place_sums line_exact lower_case same_label labels limits sessions on_entry under_limits policy_marked sound is_form row_length form_of place access_at sums_from sealed barred may_roam places line entry_bytes entries_bytes from_bits used_bits head_bytes held first_bytes second_bytes access_bytes place_bytes places_bytes row_bytes read_entry read_entries read_access order_line read_row table_number rows row_at with_row has_name is_row_of later first_row lookup is_found leave freed vacant lowest_free new_access opened hold kept_in routed call_number most_policies silent notice_length notice_bytes notice_room result_of reply refusal table_after settled on_row account on_reading handle refuse grant entry_from entry_named no_entry entry_at with_session place_of none at_place open_on first_on at_limit admit stands_on held_already type0 type1 terminate decide request_in session_cut session_of state_of shown number-of place_in showing request_says success result_says line_of after-event moved moved_by same_screen sized right is_of on_board feed_number told leaving-board feed feed_request feed_result feed_notice is_connected some stands_in stands_in_at stands_at stands_once each_once kind_asked session_asked with_request with_result with_notice in_turn with_answer fed_by after other subscriber two screen begin shows calling fed open_other agreeing two_accounts crossed no_state gateway_realm each_code texts_field value_at no_policies policies_in_order only_behind
cases = refl

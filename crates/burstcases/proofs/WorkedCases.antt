-- The worked cases of a burst hold, by computation.
use mathlib.Core.Path.{◌≡◌, refl}
use mathlib.Core.Bool.{true}
use Rattle.octets.specs.Choice.{pick, require, first_of, within}
use Rattle.octets.specs.Lists.{every, keep, distinct, first_or, sum_of, counted, is_on, up_to0}
use Rattle.octets.specs.Numbers.{net24, net32, in24, in32, up4}
use Rattle.octets.specs.Texts.{all_zero, filled, pieces, put, same, zeros}
use Rattle.message.specs.TheRooms.{notice_length}
use Rattle.message.specs.CallsThatGetNoAnswer.{message_number}
use Rattle.message.specs.Codes.{number_of, kind_of}
use Rattle.message.specs.ReadingAMessage.{header_code, same_name, head_length, named_in01, codes_of_aa_request, codes_of_termination, known_avps, is_one_of, known, avp_code, avp_of, supported, request_code, behind, walk_one, walk_up_to, walk_by, avps, walk_code, having, first_value, value_of, present, anything, number_in, text_field, label_field, number_field, tested_as, field_code, starts_with, for_both, for265, for275, fields, list_code, reading_code, ask_of, request_of, read, each_code, texts_field, value_at}
use Rattle.message.specs.WorkedCases.{case9, case10, name, board, capital_board, yard, gate, session, gateway, own_host, own_realm, vendor_bytes, request_bytes, both_avps, aa_request, open_at, open_visited, route_by, end_at, gateway_realm, route_avps, route_by_all}
use Rattle.message.specs.WritingTheAnswer.{avp_bytes, session_avp, is3xxx, auth_avps, result_avp, subscription_avp, all_bytes, proxy_avps, answer_body, answer_flags, answer, answer_room}
use Rattle.table.specs.Soundness.{zero_behind, is_digit, is_name, head_form, entry_form, entries_form, in_use, access_form, place_form, has_form, sums_agree, line_exact, lower_case, same_label, labels, limits, sessions, on_entry, under_limits, policy_marked, sound, is_row, of_blocks, second_form, place_sums, only_behind, policies_in_order}
use Rattle.table.specs.TheTable.{sums_from, sealed, barred, may_roam, places, line, entry_bytes, entries_bytes, from_bits, used_bits, head_bytes, held, access_bytes, place_bytes, places_bytes, row_bytes, read_entry, read_entries, read_access, order_line, read_row, table_number, first_number, rows, row_at, with_row, has_name, is_row_of, is_own, own_rows, later, first_row, lookup, is_found, is_form, form_of, row_length, first_bytes, second_bytes, place, access_at}
use Rattle.table.specs.WorkedCases.{case8}
use Rattle.changes.specs.Changes.{leave, freed, vacant, lowest_free, new_access, opened, hold, routed, named, with_entry, kept_in, no_policies}
use Rattle.setup.specs.SetUp.{leaving, clear, shares_fit, share, enter_number, with_row_at, enter, entry_number, add_at, add}
use Rattle.rules.specs.Calls.{call_number, silent, notice_bytes, notice_room, result_of, reply, refusal, table_after, settled, on_row, account, on_reading, handle, ran_first, run, most_policies}
use Rattle.rules.specs.Deciding.{refuse, grant, entry_from, entry_named, no_entry, entry_at, with_session, place_of, none, at_place, open_on, first_on, at_limit, admit, stands_on, held_already, type0, type1, terminate, decide}
use Rattle.rules.specs.WorkedCases.{of, one_share, with_label, start, notice_before, ask_with, ask_from, ask, no_cut, cut_of_both, cut_of, cut_of2, granted, denied, goes_on, twelve, gated, capital_entry, in_both_cases, capital_only, others, blank, start_in, policy_of, access_says, first_says, in_room, in_form2}
use Rattle.order.specs.Demand3.{told}
use Rattle.burst.specs.TheBurst.{next_length, whole_up_to, whole_messages, call_for, calls_for, calls_of, all_told, how_many, burst_number, joined, bursted, refused_burst, burst}
use Rattle.burstcases.specs.WorkedCases.{no_result, lent_with, ask_all, yes, opening, of_version2, routing, head_of, tells, three, taken, stops, boundaries, refusals}

pub taken-hold : every (λ b. b) taken ≡ true
unfolding pick require first_of within every keep distinct first_or sum_of counted is_on up_to0 net24 net32 in24 in32 up4 zeros filled same all_zero put message_number number_of kind_of header_code same_name head_length named_in01 codes_of_aa_request codes_of_termination known_avps is_one_of known avp_code avp_of supported request_code behind walk_one walk_up_to walk_by avps walk_code having first_value value_of present anything number_in text_field label_field number_field tested_as field_code starts_with for_both for265 for275 fields list_code reading_code ask_of request_of read case9 case10 name board capital_board yard gate session gateway own_host own_realm vendor_bytes request_bytes both_avps aa_request open_at open_visited route_by end_at avp_bytes session_avp is3xxx auth_avps result_avp subscription_avp all_bytes proxy_avps answer_body answer_flags answer answer_room zero_behind is_digit is_name head_form entry_form entries_form in_use access_form place_form has_form sums_agree line_exact lower_case same_label labels limits sessions on_entry under_limits policy_marked sound sums_from sealed barred may_roam places line entry_bytes entries_bytes from_bits used_bits head_bytes held access_bytes place_bytes places_bytes row_bytes read_entry read_entries read_access order_line read_row table_number first_number pieces rows row_at with_row has_name is_row_of is_own own_rows later first_row lookup is_found case8 leave freed vacant lowest_free new_access opened hold routed leaving clear shares_fit share enter_number named with_row_at enter entry_number with_entry add_at add call_number silent notice_length notice_bytes notice_room result_of reply refusal table_after settled on_row account on_reading handle ran_first run refuse grant entry_from entry_named no_entry entry_at with_session place_of none at_place open_on first_on at_limit admit stands_on held_already type0 type1 terminate decide of one_share with_label start notice_before ask_with ask_from ask no_cut cut_of_both cut_of cut_of2 granted denied goes_on twelve gated capital_entry in_both_cases capital_only others each_code texts_field value_at gateway_realm route_avps route_by_all is_row of_blocks second_form place_sums only_behind policies_in_order is_form form_of row_length first_bytes second_bytes place access_at kept_in no_policies most_policies blank start_in policy_of access_says first_says in_room in_form2 told next_length whole_up_to whole_messages call_for calls_for calls_of all_told how_many burst_number joined bursted refused_burst burst no_result lent_with ask_all yes opening of_version2 routing head_of tells three taken stops boundaries refusals
taken-hold = refl

pub stops-hold : every (λ b. b) stops ≡ true
unfolding pick require first_of within every keep distinct first_or sum_of counted is_on up_to0 net24 net32 in24 in32 up4 zeros filled same all_zero put message_number number_of kind_of header_code same_name head_length named_in01 codes_of_aa_request codes_of_termination known_avps is_one_of known avp_code avp_of supported request_code behind walk_one walk_up_to walk_by avps walk_code having first_value value_of present anything number_in text_field label_field number_field tested_as field_code starts_with for_both for265 for275 fields list_code reading_code ask_of request_of read case9 case10 name board capital_board yard gate session gateway own_host own_realm vendor_bytes request_bytes both_avps aa_request open_at open_visited route_by end_at avp_bytes session_avp is3xxx auth_avps result_avp subscription_avp all_bytes proxy_avps answer_body answer_flags answer answer_room zero_behind is_digit is_name head_form entry_form entries_form in_use access_form place_form has_form sums_agree line_exact lower_case same_label labels limits sessions on_entry under_limits policy_marked sound sums_from sealed barred may_roam places line entry_bytes entries_bytes from_bits used_bits head_bytes held access_bytes place_bytes places_bytes row_bytes read_entry read_entries read_access order_line read_row table_number first_number pieces rows row_at with_row has_name is_row_of is_own own_rows later first_row lookup is_found case8 leave freed vacant lowest_free new_access opened hold routed leaving clear shares_fit share enter_number named with_row_at enter entry_number with_entry add_at add call_number silent notice_length notice_bytes notice_room result_of reply refusal table_after settled on_row account on_reading handle ran_first run refuse grant entry_from entry_named no_entry entry_at with_session place_of none at_place open_on first_on at_limit admit stands_on held_already type0 type1 terminate decide of one_share with_label start notice_before ask_with ask_from ask no_cut cut_of_both cut_of cut_of2 granted denied goes_on twelve gated capital_entry in_both_cases capital_only others each_code texts_field value_at gateway_realm route_avps route_by_all is_row of_blocks second_form place_sums only_behind policies_in_order is_form form_of row_length first_bytes second_bytes place access_at kept_in no_policies most_policies blank start_in policy_of access_says first_says in_room in_form2 told next_length whole_up_to whole_messages call_for calls_for calls_of all_told how_many burst_number joined bursted refused_burst burst no_result lent_with ask_all yes opening of_version2 routing head_of tells three taken stops boundaries refusals
stops-hold = refl

pub boundaries-hold : every (λ b. b) boundaries ≡ true
unfolding pick require first_of within every keep distinct first_or sum_of counted is_on up_to0 net24 net32 in24 in32 up4 zeros filled same all_zero put message_number number_of kind_of header_code same_name head_length named_in01 codes_of_aa_request codes_of_termination known_avps is_one_of known avp_code avp_of supported request_code behind walk_one walk_up_to walk_by avps walk_code having first_value value_of present anything number_in text_field label_field number_field tested_as field_code starts_with for_both for265 for275 fields list_code reading_code ask_of request_of read case9 case10 name board capital_board yard gate session gateway own_host own_realm vendor_bytes request_bytes both_avps aa_request open_at open_visited route_by end_at avp_bytes session_avp is3xxx auth_avps result_avp subscription_avp all_bytes proxy_avps answer_body answer_flags answer answer_room zero_behind is_digit is_name head_form entry_form entries_form in_use access_form place_form has_form sums_agree line_exact lower_case same_label labels limits sessions on_entry under_limits policy_marked sound sums_from sealed barred may_roam places line entry_bytes entries_bytes from_bits used_bits head_bytes held access_bytes place_bytes places_bytes row_bytes read_entry read_entries read_access order_line read_row table_number first_number pieces rows row_at with_row has_name is_row_of is_own own_rows later first_row lookup is_found case8 leave freed vacant lowest_free new_access opened hold routed leaving clear shares_fit share enter_number named with_row_at enter entry_number with_entry add_at add call_number silent notice_length notice_bytes notice_room result_of reply refusal table_after settled on_row account on_reading handle ran_first run refuse grant entry_from entry_named no_entry entry_at with_session place_of none at_place open_on first_on at_limit admit stands_on held_already type0 type1 terminate decide of one_share with_label start notice_before ask_with ask_from ask no_cut cut_of_both cut_of cut_of2 granted denied goes_on twelve gated capital_entry in_both_cases capital_only others each_code texts_field value_at gateway_realm route_avps route_by_all is_row of_blocks second_form place_sums only_behind policies_in_order is_form form_of row_length first_bytes second_bytes place access_at kept_in no_policies most_policies blank start_in policy_of access_says first_says in_room in_form2 told next_length whole_up_to whole_messages call_for calls_for calls_of all_told how_many burst_number joined bursted refused_burst burst no_result lent_with ask_all yes opening of_version2 routing head_of tells three taken stops boundaries refusals
boundaries-hold = refl

pub refusals-hold : every (λ b. b) refusals ≡ true
unfolding pick require first_of within every keep distinct first_or sum_of counted is_on up_to0 net24 net32 in24 in32 up4 zeros filled same all_zero put message_number number_of kind_of header_code same_name head_length named_in01 codes_of_aa_request codes_of_termination known_avps is_one_of known avp_code avp_of supported request_code behind walk_one walk_up_to walk_by avps walk_code having first_value value_of present anything number_in text_field label_field number_field tested_as field_code starts_with for_both for265 for275 fields list_code reading_code ask_of request_of read case9 case10 name board capital_board yard gate session gateway own_host own_realm vendor_bytes request_bytes both_avps aa_request open_at open_visited route_by end_at avp_bytes session_avp is3xxx auth_avps result_avp subscription_avp all_bytes proxy_avps answer_body answer_flags answer answer_room zero_behind is_digit is_name head_form entry_form entries_form in_use access_form place_form has_form sums_agree line_exact lower_case same_label labels limits sessions on_entry under_limits policy_marked sound sums_from sealed barred may_roam places line entry_bytes entries_bytes from_bits used_bits head_bytes held access_bytes place_bytes places_bytes row_bytes read_entry read_entries read_access order_line read_row table_number first_number pieces rows row_at with_row has_name is_row_of is_own own_rows later first_row lookup is_found case8 leave freed vacant lowest_free new_access opened hold routed leaving clear shares_fit share enter_number named with_row_at enter entry_number with_entry add_at add call_number silent notice_length notice_bytes notice_room result_of reply refusal table_after settled on_row account on_reading handle ran_first run refuse grant entry_from entry_named no_entry entry_at with_session place_of none at_place open_on first_on at_limit admit stands_on held_already type0 type1 terminate decide of one_share with_label start notice_before ask_with ask_from ask no_cut cut_of_both cut_of cut_of2 granted denied goes_on twelve gated capital_entry in_both_cases capital_only others each_code texts_field value_at gateway_realm route_avps route_by_all is_row of_blocks second_form place_sums only_behind policies_in_order is_form form_of row_length first_bytes second_bytes place access_at kept_in no_policies most_policies blank start_in policy_of access_says first_says in_room in_form2 told next_length whole_up_to whole_messages call_for calls_for calls_of all_told how_many burst_number joined bursted refused_burst burst no_result lent_with ask_all yes opening of_version2 routing head_of tells three taken stops boundaries refusals
refusals-hold = refl

-- The worked cases, computed by the definitions.
use mathlib.Core.Path.{◌≡◌, refl}
use mathlib.Core.Bool.{true, ◌&&◌}
use Rattle.octets.specs.Choice.{pick, require, first_of, within}
use Rattle.octets.specs.Lists.{keep}
use Rattle.octets.specs.Numbers.{net24, net32, in24, in32, up4}
use Rattle.octets.specs.Texts.{put, zeros, same}
use Rattle.message.specs.CallsThatGetNoAnswer.{message_number}
use Rattle.message.specs.Codes.{number_of, kind_of}
use Rattle.message.specs.ReadingAMessage.{anything, avp_code, avp_of, avps, behind, codes_of_aa_request, codes_of_termination, each_code, field_code, first_value, for_both, having, head_length, is_one_of, known, known_avps, named_in01, number_field, number_in, request_code, same_name, starts_with, supported, tested_as, text_field, value_of, walk_by, walk_code, walk_one, walk_up_to}
use Rattle.message.specs.WritingTheAnswer.{all_bytes, answer_flags, avp_bytes, is3xxx, result_avp, session_avp}
use Rattle.message.specs.WorkedCases.{board, gateway, gateway_realm, name, own_host, own_realm, session}
use Rattle.gateway.specs.TheGateway.{access_fits, answer, answer_avps, call_number, fields, header_code, list_code, proxy_avps, reading_code, reauthorize, replied, request, request_avps, silent, texts_of, vendor_avp, visited_avp}
use Rattle.gateway.specs.WorkedCases.{answer_by_hand, asked, asking, call, goes_on, is_written, lent, numbered, refused_with, request_by_hand, the_codes, the_messages, the_numbers, type_avp, usual, visited_by_hand}

pub messages : the_messages && the_numbers ≡ true
unfolding pick require first_of within keep net24 net32 in24 in32 up4 put zeros same message_number number_of kind_of anything avp_code avp_of avps behind codes_of_aa_request codes_of_termination each_code field_code first_value for_both having head_length is_one_of known known_avps named_in01 number_field number_in request_code same_name starts_with supported tested_as text_field value_of walk_by walk_code walk_one walk_up_to all_bytes answer_flags avp_bytes is3xxx result_avp session_avp board gateway gateway_realm name own_host own_realm session access_fits answer answer_avps call_number fields header_code list_code proxy_avps reading_code reauthorize replied request request_avps silent texts_of vendor_avp visited_avp asked asking call lent type_avp usual goes_on is_written numbered the_messages the_numbers answer_by_hand request_by_hand visited_by_hand
messages = refl

pub codes : the_codes ≡ true
unfolding pick require first_of within keep net24 net32 in24 in32 up4 put zeros same message_number number_of kind_of anything avp_code avp_of avps behind codes_of_aa_request codes_of_termination each_code field_code first_value for_both having head_length is_one_of known known_avps named_in01 number_field number_in request_code same_name starts_with supported tested_as text_field value_of walk_by walk_code walk_one walk_up_to all_bytes answer_flags avp_bytes is3xxx result_avp session_avp board gateway gateway_realm name own_host own_realm session access_fits answer answer_avps call_number fields header_code list_code proxy_avps reading_code reauthorize replied request request_avps silent texts_of vendor_avp visited_avp asked asking call lent type_avp usual refused_with the_codes
codes = refl

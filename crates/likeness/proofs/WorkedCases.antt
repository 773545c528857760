-- The worked cases, computed by the definitions.
use mathlib.Core.Path.{◌≡◌, refl}
use mathlib.Core.Bool.{true, ◌&&◌}
use Rattle.octets.specs.Choice.{pick, require, first_of}
use Rattle.octets.specs.Lists.{every, keep}
use Rattle.octets.specs.Numbers.{net24, net32, in24, in32, up4}
use Rattle.octets.specs.Texts.{zeros, same}
use Rattle.message.specs.ReadingAMessage.{same_name, head_length, avp_code, avp_of, behind, walk_one, walk_up_to, walk_by, having, present, starts_with}
use Rattle.message.specs.WritingTheAnswer.{avp_bytes}
use Rattle.message.specs.WorkedCases.{session, own_host, own_realm}
use Rattle.likeness.specs.TheSameAnswer.{or_else, unless, agreeing, compared, is_group, inside_of, fault_one, fault_up_to, fault_by, fault_in, fault, true_length, header_due, header_finding, flag_byte, same_avp, first_is, met, fits, misplaced_from, starts_like, misplaced, place_finding, complete, missing_finding, avps_of, answer_finding, same_answer}
use Rattle.likeness.specs.WorkedCases.{avp_with, answer_with, first, result, names, proxy, proxies, ours, nested, tells, accepted, the_same, other_headers, other_walks, other_places, missing_ones}

pub cases : the_same && (other_headers && (other_walks && (other_places && missing_ones))) ≡ true
unfolding pick require first_of every keep net24 net32 in24 in32 up4 zeros same same_name head_length avp_code avp_of behind walk_one walk_up_to walk_by having present starts_with avp_bytes session own_host own_realm or_else unless agreeing compared is_group inside_of fault_one fault_up_to fault_by fault_in fault true_length header_due header_finding flag_byte same_avp first_is met fits misplaced_from starts_like misplaced place_finding complete missing_finding avps_of answer_finding same_answer avp_with answer_with first result names proxy proxies ours nested tells accepted the_same other_headers other_walks other_places missing_ones
cases = refl

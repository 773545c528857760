-- The worked cases, computed by the definitions.
use mathlib.Core.Path.{◌≡◌, refl}
use mathlib.Core.Bool.{true, ◌&&◌}
use Rattle.octets.specs.Choice.{pick, require, first_of, within}
use Rattle.octets.specs.Lists.{every, keep, distinct, counted}
use Rattle.octets.specs.Texts.{same, zeros, filled}
use Rattle.screen.specs.TheBoard.{
  session_of,
  state_of,
  shown,
  number_of,
  place_in,
  showing,
  request_says,
  success,
  result_says,
  line,
  after,
  moved,
  same_screen,
  sized,
  right,
  is_of,
  on_board,
  feed_number,
  moved_by,
  told,
  leaving,
  feed,
  feed_request,
  feed_result,
  feed_notice,
  is_connected,
  count_connected,
}
use Rattle.screen.specs.WorkedCases.{screen, states, said, opened, the_run, each, to_each, moving, nothing_moves, the_table, many, long, numbers}

pub cases : the_run && (the_table && numbers) ≡ true
unfolding screen states said opened the_run each to_each moving nothing_moves the_table many long numbers pick require first_of within every keep distinct counted same zeros filled session_of state_of shown number_of place_in showing request_says success result_says line after moved same_screen sized right is_of on_board feed_number moved_by told leaving feed feed_request feed_result feed_notice is_connected count_connected
cases = refl

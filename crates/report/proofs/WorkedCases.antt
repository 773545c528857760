-- The worked cases, computed by the definitions.
use mathlib.Core.Path.{◌≡◌, refl}
use mathlib.Core.Bool.{true, ◌&&◌}
use Rattle.octets.specs.Choice.{pick, require, first_of}
use Rattle.octets.specs.Lists.{every, keep, sum_of, counted}
use Rattle.octets.specs.Texts.{same, zeros}
use Rattle.report.specs.TheReport.{
  opened,
  cut_beside,
  ended,
  terminated,
  other,
  in_column,
  tabled,
  empty,
  hours,
  columns,
  year,
  in64,
  held,
  how_many,
  in_hour,
  with,
  hour_right,
  leaving,
  count,
  plus,
  add,
}
use Rattle.report.specs.Rates.{divisor_by, divisor, lowest, rate}
use Rattle.report.specs.WorkedCases.{told, day, said, rated, holding, most, the_day, twice, bad_hour, bits}

pub cases : the_day && (twice && (bad_hour && bits)) ≡ true
unfolding told day said rated holding most the_day twice bad_hour bits pick require first_of every keep sum_of counted same zeros opened cut_beside ended terminated other in_column tabled empty hours columns year in64 held how_many in_hour with hour_right leaving count plus add divisor_by divisor lowest rate
cases = refl

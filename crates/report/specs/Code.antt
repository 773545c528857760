-- What the code's numbers, structs and enums say in the report's terms.
use Rattle.std.specs.Prelude.{List, map, ℕ, ◌+◌, get_or, set, Option, Some, None}
use Rattle.octets.specs.Choice.{pick}
use Rattle.report.specs.TheReport.{Told, Left, in_column, in64, held, year}
use Rattle.report.specs.Rates.{Rated}
use Rattle.report.specs.declared.Ratio.{Ratio}

-- A result is lent as six numbers, in the order of the struct of C.
unfoldable pub told_of : List ℕ → Told
told_of s =
    record {
      hour = get_or s 0 0;
      which = get_or s 1 0;
      code = get_or s 2 0;
      kind = get_or s 3 0;
      place = get_or s 4 0;
      cut = get_or s 5 0;
    }

unfoldable pub told_by : List (List ℕ) → List Told
told_by list = map told_of list

-- What one result adds to a column of its hour.
unfoldable pub adds : ℕ → Told → ℕ
adds k t = pick (in_column k t) 1 0

-- One more in the i-th number of a report.
unfoldable pub one_more : ℕ → List ℕ → List ℕ
one_more i report = set report i (get_or report i 0 + 1)

-- What a call gives back: its number, and the report as it stands then.
unfoldable pub leaves : ℕ → List ℕ → Left
leaves number report = record { number = number; report = report }

-- A sum as long as 64 bits hold it.
unfoldable pub summed : ℕ → Option ℕ
summed n = pick (in64 n) (Some n) None

-- The year's cuts and openings, as long as 64 bits hold every total.
unfoldable pub totals : List ℕ → Option (ℕ × ℕ)
totals report = pick (held report) (Some (year report 1, year report 0)) None

unfoldable pub ratio_said : Ratio → Rated
ratio_said r = record { number = r.number; cuts = r.cuts; opened = r.opened }

-- A day at the board, counted by the definitions alone.
use Rattle.std.specs.Prelude.{Bool, ◌&&◌, List, [], ◌∷◌, ℕ, ◌-◌, eqb}
use Rattle.octets.specs.Choice.{pick}
use Rattle.octets.specs.Texts.{same, zeros}
use Rattle.report.specs.TheReport.{Told, Left, total, tabled, empty, year, count, add}
use Rattle.report.specs.Rates.{Rated, rate}

unfoldable pub told : (hour which code kind place cut : ℕ) → Told
told hour which code kind place cut =
    record { hour = hour; which = which; code = code; kind = kind; place = place; cut = cut }

-- Hour 5: three openings, one of them with a cut, one in spite of its odd kind and code. Hour 23: a termination, and what only looks like an opening, a
-- cut or a termination.
unfoldable pub day : List Told
day =
    told 5 0 2001 1 1 0
    ∷ told 5 0 2001 1 8 1
    ∷ told 5 2 5012 1 3 0
    ∷ told 23 2 2001 1 0 0
    ∷ told 23 2 2001 1 0 1
    ∷ told 23 2 5042 2 0 0
    ∷ told 23 2 2001 2 0 0
    ∷ told 23 1 2001 1 0 0
    ∷ told 23 0 5001 1 0 1
    ∷ told 23 3 2001 1 0 0
    ∷ told 0 0 6 0 0 0
    ∷ []

-- The number, hours 5 and 23 by column, hour 0's others, and the year.
unfoldable pub said : Left → List ℕ
said l =
    l.number
    ∷ total l.report 5 0
    ∷ total l.report 5 1
    ∷ total l.report 5 2
    ∷ total l.report 5 3
    ∷ total l.report 23 0
    ∷ total l.report 23 1
    ∷ total l.report 23 2
    ∷ total l.report 23 3
    ∷ total l.report 0 3
    ∷ year l.report 0
    ∷ year l.report 1
    ∷ year l.report 2
    ∷ year l.report 3
    ∷ []

unfoldable pub rated : Rated → List ℕ
rated r = r.number ∷ r.cuts ∷ r.opened ∷ []

-- A report with this total of openings in hour 0 and hour 1, and this one of others in hour 2.
unfoldable pub holding : (first second third : ℕ) → List ℕ
holding first second third =
    tabled (λ hour k. pick (eqb k 0) (pick (eqb hour 0) first (pick (eqb hour 1) second 0)) (pick (eqb hour 2 && eqb k 3) third 0))

-- The greatest number that 64 bits hold.
unfoldable pub most : ℕ
most = 18446744073709551615

-- The day: its totals, and its rate of one cut to three openings.
unfoldable pub the_day : Bool
the_day =
    same (said (count empty day)) (0 ∷ 3 ∷ 1 ∷ 0 ∷ 0 ∷ 0 ∷ 0 ∷ 2 ∷ 5 ∷ 1 ∷ 3 ∷ 1 ∷ 2 ∷ 6 ∷ [])
    && same (rated (rate (count empty day).report)) (0 ∷ 1 ∷ 3 ∷ [])

-- The day twice: counted behind itself, and its report added to itself. The rate stays.
unfoldable pub twice : Bool
twice =
    let once : List ℕ = (count empty day).report in
    same (said (count once day)) (0 ∷ 6 ∷ 2 ∷ 0 ∷ 0 ∷ 0 ∷ 0 ∷ 4 ∷ 10 ∷ 2 ∷ 6 ∷ 2 ∷ 4 ∷ 12 ∷ [])
    && (same (count once day).report (add once once).report && same (rated (rate (add once once).report)) (0 ∷ 1 ∷ 3 ∷ []))

-- An hour of 24 refuses the whole list, also behind good ones and also where 64 bits would not hold the rest.
unfoldable pub bad_hour : Bool
bad_hour =
    same (said (count empty (told 5 0 2001 1 1 0 ∷ told 24 0 2001 1 1 0 ∷ []))) (29 ∷ zeros 13)
    && eqb (count (holding most 0 0) (told 0 0 2001 1 1 0 ∷ told 24 0 2001 1 1 0 ∷ [])).number 29

-- 64 bits: the greatest total is held, one more is not, of an hour and of the year, in any column, where the report lent passes them already and where
-- nothing is counted.
unfoldable pub bits : Bool
bits =
    eqb (count (holding (most - 1) 0 0) (told 0 0 2001 1 1 0 ∷ [])).number 0
    && (eqb (count (holding most 0 0) (told 0 0 2001 1 1 0 ∷ [])).number 30
    && (eqb (count (holding most 0 0) (told 7 0 2001 1 1 0 ∷ [])).number 30
    && (eqb (count (holding most 0 0) (told 7 2 2001 1 0 0 ∷ [])).number 0
    && (eqb (count (holding 0 0 most) (told 7 0 5001 1 0 0 ∷ [])).number 30
    && (eqb (count (holding most 1 0) []).number 30
    && (eqb (add (holding most 0 0) (holding 0 1 0)).number 30
    && (same (rated (rate (holding most 1 0))) (30 ∷ 0 ∷ 1 ∷ []) && same (rated (rate (holding most 0 0))) (0 ∷ 0 ∷ 1 ∷ []))))))))

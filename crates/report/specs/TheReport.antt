-- The year by hour (request W9 of document 02): results counted by the hour in which they were given. It knows a result by six numbers, and nothing
-- of the server that gave it.
use Rattle.std.specs.Prelude.{Bool, false, ◌&&◌, not, List, [], ◌∷◌, map, ℕ, ◌+◌, ◌*◌, ◌/◌, ◌%◌, eqb, ltb, length, get_or}
use Rattle.octets.specs.Choice.{pick, require, first_of}
use Rattle.octets.specs.Lists.{every, keep, sum_of, counted}

-- A RESULT AS IT IS TOLD
-- The hour; the request's kind: 0 and 1 are the two types of an authorization, 2 is a termination; the code with its kind: 0 no answer, 1 Result-Code,
-- 2 Experimental-Result; the place of the access that it opened, 0 for none; whether it made a cut, 0 for no.
pub record Told : Type 0 where
  pub hour : ℕ
  pub which : ℕ
  pub code : ℕ
  pub kind : ℕ
  pub place : ℕ
  pub cut : ℕ

-- THE FOUR COLUMNS
-- 0: an access was opened. Its place alone says so.
unfoldable pub opened : Told → Bool
opened t = not (eqb t.place 0)

-- 1: a cut, counted beside the opening that made it. Without one it is no cut.
unfoldable pub cut_beside : Told → Bool
cut_beside t = opened t && not (eqb t.cut 0)

-- The answer to a termination is the Result-Code 2001.
unfoldable pub ended : Told → Bool
ended t = eqb t.which 2 && (eqb t.kind 1 && eqb t.code 2001)

-- 2: a termination that succeeded.
unfoldable pub terminated : Told → Bool
terminated t = not (opened t) && ended t

-- 3: every other result.
unfoldable pub other : Told → Bool
other t = not (opened t) && not (ended t)

unfoldable pub in_column : ℕ → Told → Bool
in_column k t = get_or (opened t ∷ cut_beside t ∷ terminated t ∷ other t ∷ []) k false

-- A REPORT
-- 96 numbers, hour by hour: four for each hour, one a column.
abbrev pub total : List ℕ → ℕ → ℕ → ℕ
total report hour k = get_or report (4 * hour + k) 0

-- The report that has this total in each hour and column.
unfoldable pub tabled : (ℕ → ℕ → ℕ) → List ℕ
tabled f = map (λ i. f (i / 4) (i % 4)) (counted 0 96)

-- Nothing counted yet.
unfoldable pub empty : List ℕ
empty = tabled (λ hour k. 0)

unfoldable pub hours : List ℕ
hours = counted 0 24

unfoldable pub columns : List ℕ
columns = counted 0 4

-- The year's total of a column: that of all hours.
unfoldable pub year : List ℕ → ℕ → ℕ
year report k = sum_of (map (λ hour. total report hour k) hours)

-- 64 bits hold it.
unfoldable pub in64 : ℕ → Bool
in64 n = ltb n 18446744073709551616

-- 64 bits hold every total of an hour, and every total of the year.
unfoldable pub held : List ℕ → Bool
held report =
    every (λ hour. every (λ k. in64 (total report hour k)) columns) hours && every (λ k. in64 (year report k)) columns

-- COUNTING
-- How many of a list pass a test.
unfoldable pub how_many : (Told → Bool) → List Told → ℕ
how_many test list = length (keep test list)

-- The result belongs to this hour and column.
unfoldable pub in_hour : ℕ → ℕ → Told → Bool
in_hour hour k t = eqb t.hour hour && in_column k t

-- A report with a list counted into it.
unfoldable pub with : List ℕ → List Told → List ℕ
with report list = tabled (λ hour k. total report hour k + how_many (in_hour hour k) list)

unfoldable pub hour_right : Told → Bool
hour_right t = ltb t.hour 24

-- What a call leaves: its number, 0 on success, and the report, which a refusal leaves as it was.
pub record Left : Type 0 where
  pub number : ℕ
  pub report : List ℕ

unfoldable pub leaving : ℕ → (was is : List ℕ) → Left
leaving number was is = record { number = number; report = pick (eqb number 0) is was }

-- Counting a list: 29 if any hour of it is over 23, then 30 if a total would pass 64 bits. It is counted whole or not at all.
unfoldable pub count : List ℕ → List Told → Left
count report list =
    leaving (first_of (require (every hour_right list) 29 ∷ require (held (with report list)) 30 ∷ [])) report (with report list)

-- ADDING
-- Two reports, total by total.
unfoldable pub plus : List ℕ → List ℕ → List ℕ
plus report more = tabled (λ hour k. total report hour k + total more hour k)

-- Adding a second report to the first: 30 if a total would pass 64 bits.
unfoldable pub add : List ℕ → List ℕ → Left
add report more = leaving (require (held (plus report more)) 30) report (plus report more)

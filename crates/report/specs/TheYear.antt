-- What request W9 asks of the report, as theorems; proofs/TheYear has their proofs.
use Rattle.std.specs.Prelude.{◌≡◌, ℕ, ◌+◌, ◌*◌, ◌%◌, ◌≤◌, ◌<◌, length}
use mathlib.Core.List.{List, ◌++◌, Permᴰ}
use Rattle.report.specs.TheReport.{Told, in_column, in_hour, total, empty, year, how_many, count, add}
use Rattle.report.specs.Rates.{rate}
use Rattle.report.specs.Code.{leaves, ratio_said}
use Rattle.report.specs.declared.Ratio.{Ratio}

-- EACH TOTAL IS A COUNT over the list of results, whatever its length: of an hour, and of the year.
abbrev pub EachTotal : Type 0
EachTotal =
    (list : List Told) (hour k : ℕ) → hour < 24 → k < 4
    → (count empty list).number ≡ 0
    → total (count empty list).report hour k ≡ how_many (in_hour hour k) list

abbrev pub EachYear : Type 0
EachYear =
    (list : List Told) (k : ℕ) → k < 4
    → (count empty list).number ≡ 0
    → year (count empty list).report k ≡ how_many (in_column k) list

-- The same on a report that holds something already.
abbrev pub TotalGrows : Type 0
TotalGrows =
    (report : List ℕ) (list : List Told) (hour k : ℕ) → hour < 24 → k < 4
    → (count report list).number ≡ 0
    → total (count report list).report hour k ≡ total report hour k + how_many (in_hour hour k) list

-- Every result is in one of the columns 0, 2 and 3, and in no two of them; and there are no more cuts than openings.
abbrev pub NoneTwice : Type 0
NoneTwice = (list : List Told) → how_many (in_column 0) list + how_many (in_column 2) list + how_many (in_column 3) list ≡ length list

abbrev pub CutsBeside : Type 0
CutsBeside = (list : List Told) → how_many (in_column 1) list ≤ how_many (in_column 0) list

-- A refusal leaves the report as it was.
abbrev pub RefusedStays : Type 0
RefusedStays =
    (report more : List ℕ) (list : List Told)
    → (((count report list).number ≡ 0 → ⊥) → (count report list).report ≡ report)
    × (((add report more).number ≡ 0 → ⊥) → (add report more).report ≡ report)

-- THE ORDER of the list does not matter, neither for the report nor for the number.
abbrev pub AnyOrder : Type 0
AnyOrder = (report : List ℕ) (list other : List Told) → Permᴰ list other → count report list ≡ count report other

-- TWO LISTS. Where both are counted, their reports added are the report of both joined: with the same number, and if that is 0 the same totals.
abbrev pub Joined : Type 0
Joined =
    (list more : List Told)
    → (count empty list).number ≡ 0
    → (count empty more).number ≡ 0
    → ((add (count empty list).report (count empty more).report).number ≡ (count empty (list ++ more)).number)
    × ((count empty (list ++ more)).number ≡ 0
    → (add (count empty list).report (count empty more).report).report ≡ (count empty (list ++ more)).report)

-- A list counted behind another is both counted at once.
abbrev pub InPieces : Type 0
InPieces =
    (report : List ℕ) (list more : List Told)
    → (count report list).number ≡ 0
    → ((count (count report list).report more).number ≡ (count report (list ++ more)).number)
    × ((count report (list ++ more)).number ≡ 0
    → (count (count report list).report more).report ≡ (count report (list ++ more)).report)

-- To add a list's report is to count the list, refusals and all.
abbrev pub AddedIsCounted : Type 0
AddedIsCounted =
    (report : List ℕ) (list : List Told)
    → (count empty list).number ≡ 0
    → add report (count empty list).report ≡ count report list

-- THE RATE. Its two numbers have no common divisor but 1, whatever the report.
abbrev pub LowestTerms : Type 0
LowestTerms = (report : List ℕ) (d : ℕ) → (rate report).cuts % d ≡ 0 → (rate report).opened % d ≡ 0 → d ≡ 1

-- Where it is given and an access was opened, they are in the ratio of the year's totals; where none was opened they are 0 and 1.
abbrev pub SameRatio : Type 0
SameRatio =
    (report : List ℕ)
    → (rate report).number ≡ 0
    → (year report 0 ≡ 0 → ⊥)
    → (rate report).cuts * year report 0 ≡ (rate report).opened * year report 1

abbrev pub NoneOpened : Type 0
NoneOpened = (report : List ℕ) → (rate report).number ≡ 0 → year report 0 ≡ 0 → ((rate report).cuts ≡ 0) × ((rate report).opened ≡ 1)

-- NO SECOND ANSWER: what an operation promises for the same inputs is met by one outcome only, in what it returns and in all that it was lent. Each
-- equation is the one that the operation ensures; proofs/Ensured holds them to the operations' own.
abbrev pub OneCount : Type 0
OneCount =
    (report : List ℕ) (list : List Told) (n m : ℕ) (r s : List ℕ)
    → leaves n r ≡ count report list
    → leaves m s ≡ count report list
    → (n ≡ m) × (r ≡ s)

abbrev pub OneAdd : Type 0
OneAdd =
    (report more : List ℕ) (n m : ℕ) (r s : List ℕ)
    → leaves n r ≡ add report more
    → leaves m s ≡ add report more
    → (n ≡ m) × (r ≡ s)

abbrev pub OneRate : Type 0
OneRate = (report : List ℕ) (x y : Ratio) → ratio_said x ≡ rate report → ratio_said y ≡ rate report → x ≡ y

-- What a call is answered with: a number of this server alone, a Result-Code or an Experimental-Result.
use Rattle.std.specs.Prelude.{ℕ}

pub data Code : Type 0 where
  -- no Diameter answer: one of the numbers 1 to 8
  none : ℕ → Code
  -- a Result-Code
  plain : ℕ → Code
  -- an Experimental-Result of vendor 10415
  experimental : ℕ → Code

-- The number alone, as the call returns it.
unfoldable pub number_of : Code → ℕ
number_of (none n) = n
number_of (plain n) = n
number_of (experimental n) = n

-- Which kind of code it is: 0 no answer, 1 Result-Code, 2 Experimental-Result.
unfoldable pub kind_of : Code → ℕ
kind_of (none n) = 0
kind_of (plain n) = 1
kind_of (experimental n) = 2

-- The codes that the paper gives by name. The first two have the numbers of TS 29.229,
-- the others those of TS 29.234, clause 10.3.1, by their names there.
abbrev pub user_unknown : Code
user_unknown = experimental 5001

abbrev pub roaming_not_allowed : Code
roaming_not_allowed = experimental 5004

abbrev pub unused_by_user : Code
unused_by_user = experimental 5042

abbrev pub no_subscription : Code
no_subscription = experimental 5044

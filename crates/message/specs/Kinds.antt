-- The kinds of code that a call is answered with.
use Rattle.std.specs.Prelude.{ℕ}
use Rattle.message.specs.Codes.{Code, none, plain, experimental}
use Rattle.message.specs.declared.Kind.{Kind}
use Rattle.message.specs.declared.Kind.TheVariants.{NoAnswer, Plain, Experimental}

-- A kind and a number together are what a call is answered with; `kind_of` of Codes has the paper's number of the kind.
unfoldable pub code_from : Kind → ℕ → Code
code_from NoAnswer n = none n
code_from Plain n = plain n
code_from Experimental n = experimental n

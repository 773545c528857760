-- What the code's arguments and results say.
use Rattle.std.specs.Prelude.{List, map, ℕ, get_or}
use Rattle.table.specs.TheTable.{Table}
use Rattle.rules.specs.Calls.{Result}
use Rattle.burst.specs.declared.Taken.{Taken}
use Rattle.burst.specs.TheBurst.{Burst, Bursted}

-- A burst, from what is lent.
unfoldable pub burst_of : (operator : ℕ) → (host realm messages wags answers notices : List ℕ) → (results : List Result) → Burst
burst_of o host realm messages wags answers notices results =
    record {
      operator = o;
      host = host;
      realm = realm;
      messages = messages;
      wags = wags;
      answers = answers;
      notices = notices;
      results = results;
    }

-- A place for a result: eight numbers in C's order.
unfoldable pub result_in : List ℕ → Result
result_in s =
    record {
      code = get_or s 0 0;
      kind = get_or s 1 0;
      length = get_or s 2 0;
      place = get_or s 3 0;
      cut = get_or s 4 0;
      cut_session = get_or s 5 0;
      cut_host = get_or s 6 0;
      cut_realm = get_or s 7 0;
    }

abbrev pub results_in : List (List ℕ) → List Result
results_in r = map result_in r

-- All that a burst leaves: what is returned, and every byte and number that was lent.
unfoldable pub leaves : Taken → Table → (answers notices : List ℕ) → (results : List (List ℕ)) → Bursted
leaves x t answers notices results =
    record {
      taken = record { number = x.number; messages = x.messages; bytes = x.bytes; answers = x.answers; notices = x.notices };
      table = t;
      answers = answers;
      notices = notices;
      results = results_in results;
    }

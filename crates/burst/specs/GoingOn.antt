-- A burst that goes on: what is left for the next call, and what two calls leave together. The loop keeps it turn by turn, and crate `burstlaws` says it
-- of calls.
use Rattle.std.specs.Prelude.{◌++◌, ℕ, ◌+◌, ◌*◌, take, drop}
use Rattle.message.specs.TheRooms.{notice_length}
use Rattle.burst.specs.TheBurst.{Burst, Bursted, Taken}

-- The next call is lent all that the first did not use.
unfoldable pub rest : (form : ℕ) → Taken → Burst → Burst
rest f x b =
    record {
      operator = b.operator;
      host = b.host;
      realm = b.realm;
      messages = drop x.bytes b.messages;
      wags = drop x.messages b.wags;
      answers = drop x.answers b.answers;
      notices = drop (x.notices * notice_length f) b.notices;
      results = drop x.messages b.results;
    }

-- What both leave: the number of the second; the sums of what they took and wrote; the table in the end; what the first wrote, and behind it what the
-- second leaves.
unfoldable pub together : (form : ℕ) → Bursted → Bursted → Bursted
together f x y =
    record {
      taken = record {
        number = y.taken.number;
        messages = x.taken.messages + y.taken.messages;
        bytes = x.taken.bytes + y.taken.bytes;
        answers = x.taken.answers + y.taken.answers;
        notices = x.taken.notices + y.taken.notices;
      };
      table = y.table;
      answers = take x.taken.answers x.answers ++ y.answers;
      notices = take (x.taken.notices * notice_length f) x.notices ++ y.notices;
      results = take x.taken.messages x.results ++ y.results;
    }

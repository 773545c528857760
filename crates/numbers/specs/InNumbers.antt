-- What eight numbers say, in the paper's words.
use Rattle.std.specs.Prelude.{◌<◌}
use Rattle.rules.specs.Calls.{Result}
use Rattle.numbers.specs.declared.Numbers.{Numbers}

-- A result whose numbers fit 32 bits; every result of a call does (proofs/Small).
pub record In32 (r : Result) : Type 0 where
  pub length-fits : r.length < 4294967296
  pub place-fits : r.place < 4294967296
  pub session-fits : r.cut_session < 4294967296
  pub host-fits : r.cut_host < 4294967296
  pub realm-fits : r.cut_realm < 4294967296

-- The struct, number by number.
unfoldable pub numbers_said : Numbers → Result
numbers_said o =
    record {
      length = o.length;
      code = o.code;
      kind = o.kind;
      place = o.place;
      cut = o.cut;
      cut_session = o.session;
      cut_host = o.host;
      cut_realm = o.realm;
    }

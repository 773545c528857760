-- One step of the walk over a message's AVPs, in numbers and places of the message, and what it means in the walk's own terms.
use Rattle.std.specs.Prelude.{List, [], ℕ, ◌+◌, ◌-◌, ◌/◌, ◌%◌, eqb, leb, length, get_or, drop}
use Rattle.octets.specs.Choice.{pick}
use Rattle.octets.specs.Texts.{part}
use Rattle.octets.specs.Numbers.{net32, up4}
use Rattle.message.specs.ReadingAMessage.{Name, base, vendor, known, Avp, Walk, has_v, head_length, avp_length, avp_code, avp_of, behind, walk}
use Rattle.reader.specs.declared.Seen.{Seen}
use Rattle.reader.specs.declared.Fault.{Fault}
use Rattle.reader.specs.declared.Fault.TheVariants.{Few, Bits, Short, Past}
use Rattle.reader.specs.declared.Step.{Step}
use Rattle.reader.specs.declared.Step.TheVariants.{One, End, Bad}

-- THE STEP

-- The first of the four tests that the bytes left fail, where they fail one: fewer than 8 are left; a reserved bit is set;
-- the length is less than the header's; its end, padded to 4, is past the message.
unfoldable pub fault_of : List ℕ → Fault
fault_of s =
    pick (leb 8 (length s))
    (pick (eqb (get_or s 4 0 % 32) 0)
    (pick (leb (head_length s) (avp_length s)) Past Short)
    Bits)
    Few

-- The AVP that starts at a place: its code, its flags, its vendor (0 without V), whether it is known (W1), where its value starts
-- and how long that is without the padding, and where the next starts.
unfoldable pub seen_at : List ℕ → ℕ → Seen
seen_at m at =
    let s : List ℕ = drop at m in
    record {
      code = net32 s 0;
      flags = get_or s 4 0;
      vendor = pick (has_v s) (net32 s 8) 0;
      known = known (avp_of s).name;
      value = at + head_length s;
      len = avp_length s - head_length s;
      next = at + up4 (avp_length s);
    }

-- The message ends at a place where no byte is left; else the AVP there passes the four tests or fails one.
unfoldable pub step_at : List ℕ → ℕ → Step
step_at m at =
    let s : List ℕ = drop at m in
    pick (eqb (length s) 0) End (pick (eqb (avp_code s) 0) (One (seen_at m at)) (Bad (fault_of s)))

-- WHAT IT MEANS

-- The code of each failing test.
unfoldable pub fault_code : Fault → ℕ
fault_code Few = 5014
fault_code Bits = 3009
fault_code Short = 5014
fault_code Past = 5014

-- The name of an AVP by its numbers, and the AVP itself.
unfoldable pub seen_name : Seen → Name
seen_name a = pick (leb 128 a.flags) (vendor a.vendor a.code) (base a.code)

unfoldable pub seen_avp : List ℕ → ℕ → Seen → Avp
seen_avp m at a =
    record {
      name = seen_name a;
      mandatory = eqb (a.flags / 64 % 2) 1;
      value = part m a.value a.len;
      bytes = part m at (a.next - at);
    }

-- The walk by the four tests from a place on, by its first step: `walk_steps` of proofs/Laws.antt says that it is that walk.
unfoldable pub onward : List ℕ → ℕ → Step → Walk
onward m at (One a) = behind (seen_avp m at a) (walk (drop a.next m))
onward m at End = record { avps = []; code = 0 }
onward m at (Bad f) = record { avps = []; code = fault_code f }

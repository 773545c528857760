-- What the C interface returns, in the paper's numbers.
use Rattle.std.specs.Prelude.{List, ℕ}
use Rattle.table.specs.TheTable.{Table}
use Rattle.rules.specs.Calls.{Left}
use Rattle.numbers.specs.declared.Numbers.{Numbers}
use Rattle.numbers.specs.InNumbers.{numbers_said}
use Rattle.abort.specs.TheDisconnection.{Left as LeftInRoom}
use Rattle.wm.specs.declared.WmWritten.{WmWritten}

-- What a request leaves: its eight numbers, and every byte that was lent.
unfoldable pub leaves_in_c : Numbers → (table : Table) → (answer notice : List ℕ) → Left
leaves_in_c o table answer notice = record { reply = record { result = numbers_said o; answer = answer; notice = notice }; table = table }

-- What a request to a gateway leaves: number and length, and the room.
unfoldable pub written_in_c : WmWritten → (room : List ℕ) → LeftInRoom
written_in_c w room = record { number = w.number; size = w.length; room = room }

-- Worked cases of the table, by hand: case 8.
use Rattle.std.specs.Prelude.{Bool, ◌&&◌, [], ◌∷◌}
use Rattle.octets.specs.Texts.{same, zeros}
use Rattle.table.specs.TheTable.{sums}

-- 8: Fletcher-16 of "abcde" has second sum C8 and first F0; a zero block has 00 00.
unfoldable pub case8 : Bool
case8 = same (sums (97 ∷ 98 ∷ 99 ∷ 100 ∷ 101 ∷ [])) (0xC8 ∷ 0xF0 ∷ []) && same (sums (zeros 510)) (0x00 ∷ 0x00 ∷ [])

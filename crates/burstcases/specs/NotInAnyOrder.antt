-- Where not all messages are taken, the order between subscribers matters; where all are, it does not (`burstlaws/AnyOrder`).
use Rattle.std.specs.Prelude.{Bool, not, List, [], ◌∷◌, ◌++◌, ℕ, eqb}
use Rattle.octets.specs.Texts.{same}
use Rattle.rules.specs.WorkedCases.{start}
use Rattle.burst.specs.TheBurst.{Bursted}
use Rattle.burstcases.specs.WorkedCases.{ask_all, of_version2, opening, tells, yes}

-- A request without an AVP: it is nobody's, and its answer has 80 bytes.
unfoldable pub bare : List ℕ
bare = 1 ∷ 0 ∷ 0 ∷ 20 ∷ 128 ∷ 0 ∷ 1 ∷ 9 ∷ 0 ∷ 0 ∷ 0 ∷ 1 ∷ 0 ∷ 0 ∷ 0 ∷ 1 ∷ 0 ∷ 0 ∷ 0 ∷ 1 ∷ []

-- With 5,121 bytes for answers, before a message that gets no answer it is the last that is taken, and behind it both are.
unfoldable pub one_or_two : List Bool
one_or_two =
    let before : Bursted = ask_all start (bare ++ of_version2 97) (yes 2) 5121 256 2 in
    let behind : Bursted = ask_all start (of_version2 97 ++ bare) (yes 2) 5121 256 2 in
    tells before 0 1 0 (5005 ∷ 0 ∷ [])
    ∷ tells behind 0 2 0 (6 ∷ 5005 ∷ [])
    ∷ eqb before.taken.answers 80
    ∷ []

-- So the tables differ: an opening is taken, or it is not. With room for both they are the same.
unfoldable pub opened_or_not : List Bool
opened_or_not =
    let before : Bursted = ask_all start (bare ++ opening 97) (yes 2) 5121 256 2 in
    let behind : Bursted = ask_all start (opening 97 ++ bare) (yes 2) 5121 256 2 in
    let before-both : Bursted = ask_all start (bare ++ opening 97) (yes 2) 10240 512 2 in
    let behind-both : Bursted = ask_all start (opening 97 ++ bare) (yes 2) 10240 512 2 in
    tells before 0 1 0 (5005 ∷ 0 ∷ [])
    ∷ tells behind 0 1 0 (2001 ∷ 0 ∷ [])
    ∷ not (same before.table.bytes behind.table.bytes)
    ∷ tells before-both 0 2 0 (5005 ∷ 2001 ∷ [])
    ∷ tells behind-both 0 2 0 (2001 ∷ 5005 ∷ [])
    ∷ same before-both.table.bytes behind-both.table.bytes
    ∷ []

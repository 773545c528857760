-- Worked cases of a burst, on the table of the other cases: one row, "board" with a limit of 2.
use Rattle.std.specs.Prelude.{Bool, ◌&&◌, List, [], ◌∷◌, ◌++◌, map, ℕ, eqb, length, replicate}
use Rattle.octets.specs.Numbers.{in24}
use Rattle.octets.specs.Texts.{filled, put, same, zeros}
use Rattle.message.specs.WorkedCases.{board, gateway, own_host, own_realm, open_at, route_by, session}
use Rattle.table.specs.TheTable.{Table}
use Rattle.rules.specs.Calls.{Result}
use Rattle.rules.specs.WorkedCases.{start, start_in}
use Rattle.burst.specs.TheBurst.{Burst, Bursted, burst}

-- A place for a result in which nothing stands.
unfoldable pub no_result : Result
no_result = record { length = 0; code = 0; kind = 0; place = 0; cut = 0; cut_session = 0; cut_host = 0; cut_realm = 0 }

-- Messages with their words, rooms of so many zeros, and so many places for results.
unfoldable pub lent_with : (operator : ℕ) → (host messages wags : List ℕ) → (answers notices places : ℕ) → Burst
lent_with o host m w a n p =
    record {
      operator = o;
      host = host;
      realm = own_realm;
      messages = m;
      wags = w;
      answers = zeros a;
      notices = zeros n;
      results = replicate p no_result;
    }

unfoldable pub ask_all : Table → (messages wags : List ℕ) → (answers notices places : ℕ) → Bursted
ask_all t m w a n p = burst t (lent_with 0 own_host m w a n p)

-- Yes from the WAG, so many times.
unfoldable pub yes : ℕ → List ℕ
yes n = replicate n 1

-- An opening by the letter of its Session-Id, the same with another version, which gets number 6, and a policy for it.
unfoldable pub opening : ℕ → List ℕ
opening letter = open_at (session letter) board

unfoldable pub of_version2 : ℕ → List ℕ
of_version2 letter = put (opening letter) 0 (2 ∷ [])

unfoldable pub routing : ℕ → List ℕ
routing letter = route_by (session letter) board

-- A header alone, which says how long its message is.
unfoldable pub head_of : (size : ℕ) → List ℕ
head_of n = 1 ∷ in24 n ++ zeros 16

-- What is told: the number, how many messages and notices, and the codes of the results.
unfoldable pub tells : Bursted → (number messages notices : ℕ) → (codes : List ℕ) → Bool
tells b n m k codes =
    eqb b.taken.number n && (eqb b.taken.messages m && (eqb b.taken.notices k && same (map (λ (r : Result). r.code) b.results) codes))

-- Three openings on "board", whose limit is 2: the third cuts the first. A fourth finds 255 bytes for its notice, and the burst stops before it.
unfoldable pub three : List ℕ
three = opening 97 ++ (opening 98 ++ opening 99)

unfoldable pub taken : List Bool
taken =
    let some : Bursted = ask_all start (three ++ opening 100) (yes 4) 6000 511 5 in
    tells some 0 3 1 (2001 ∷ 2001 ∷ 2001 ∷ 0 ∷ 0 ∷ [])
    ∷ eqb some.taken.bytes (length three)
    ∷ same some.notices (filled (session 97) 128 ++ (filled gateway 128 ++ zeros 255))
    -- a word is the byte of its own message: 0 is no, any other yes
    ∷ tells (ask_all start (opening 97 ++ (routing 97 ++ routing 97)) (0 ∷ 0 ∷ 2 ∷ []) 6000 256 3) 0 3 0 (2001 ∷ 5012 ∷ 2001 ∷ [])
    -- a message of number 6 is taken, and has no answer; the next one is handled
    ∷ tells (ask_all start (of_version2 97 ++ opening 98) (yes 2) 5120 256 2) 0 2 0 (6 ∷ 2001 ∷ [])
    ∷ []

-- It stops where under 5,120 bytes are left for an answer, or under 256 for a notice, 384 in form 2; also before a message that would get a number.
unfoldable pub stops : List Bool
stops =
    tells (ask_all start (of_version2 97) (yes 1) 5119 256 1) 0 0 0 (0 ∷ [])
    ∷ tells (ask_all start (opening 97 ++ of_version2 98) (yes 2) 5120 256 2) 0 1 0 (2001 ∷ 0 ∷ [])
    ∷ tells (ask_all start (opening 97) (yes 1) 5120 255 1) 0 0 0 (0 ∷ [])
    ∷ tells (ask_all (start_in 2) (opening 97) (yes 1) 5120 383 1) 0 0 0 (0 ∷ [])
    ∷ tells (ask_all (start_in 2) three (yes 3) 6000 384 3) 0 3 1 (2001 ∷ 2001 ∷ 2001 ∷ [])
    ∷ []

-- Boundaries. A burst of nothing; the first bytes of a message; a length of 19, of 20 (such a header gets number 8) and of a byte more than there is,
-- at the start and behind another message.
unfoldable pub boundaries : List Bool
boundaries =
    tells (ask_all start [] [] 0 0 0) 0 0 0 []
    ∷ tells (ask_all start (1 ∷ 0 ∷ 0 ∷ []) [] 5120 256 0) 0 0 0 []
    ∷ tells (ask_all start (1 ∷ 0 ∷ 0 ∷ 20 ∷ []) [] 5120 256 0) 0 0 0 []
    ∷ tells (ask_all start (head_of 19) [] 5120 256 0) 0 0 0 []
    ∷ tells (ask_all start (head_of 20) (yes 1) 5120 256 1) 0 1 0 (8 ∷ [])
    ∷ tells (ask_all start (head_of 21) [] 5120 256 0) 0 0 0 []
    ∷ tells (ask_all start (head_of 20 ++ (1 ∷ 0 ∷ 0 ∷ [])) (yes 1) 5120 256 1) 0 1 0 (8 ∷ [])
    ∷ tells (ask_all start (head_of 20 ++ head_of 21) (yes 1) 5120 256 1) 0 1 0 (8 ∷ [])
    -- a length that is no multiple of 4 is number 7, one over 4,096 number 5, and the next message starts behind it
    ∷ tells (ask_all start (head_of 21 ++ (7 ∷ head_of 20)) (yes 2) 5120 256 2) 0 2 0 (7 ∷ 8 ∷ [])
    ∷ tells (ask_all start (head_of 4100 ++ (zeros 4080 ++ head_of 20)) (yes 2) 5120 256 2) 0 2 0 (5 ∷ 8 ∷ [])
    ∷ []

-- Refusals. 18: a word or a place too few for the whole messages, whatever the rooms; and not for what is behind a bad boundary. Before it 1, 33 and 2.
unfoldable pub refusals : List Bool
refusals =
    tells (ask_all start (head_of 20 ++ head_of 20) (yes 1) 5120 256 2) 18 0 0 (0 ∷ 0 ∷ [])
    ∷ tells (ask_all start (head_of 20 ++ head_of 20) (yes 2) 0 0 1) 18 0 0 (0 ∷ [])
    ∷ tells (ask_all start (head_of 20 ++ (head_of 19 ++ head_of 20)) (yes 1) 5120 256 1) 0 1 0 (8 ∷ [])
    ∷ tells (burst (record { form = 1; bytes = [] }) (lent_with 16 [] (head_of 20) [] 0 0 0)) 1 0 0 []
    ∷ tells (burst start (lent_with 16 [] (head_of 20) [] 0 0 0)) 33 0 0 []
    ∷ tells (burst start (lent_with 15 [] (head_of 20) [] 0 0 0)) 2 0 0 []
    ∷ tells (burst start (lent_with 15 own_host (head_of 20) [] 0 0 0)) 18 0 0 []
    ∷ []

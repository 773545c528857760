-- A board fed by the definitions alone.
use Rattle.std.specs.Prelude.{Bool, ◌&&◌, List, [], ◌∷◌, ◌++◌, map, ℕ, eqb, length}
use Rattle.octets.specs.Lists.{counted}
use Rattle.octets.specs.Texts.{same, filled}
use Rattle.screen.specs.declared.Screen.{Screen}
use Rattle.screen.specs.TheBoard.{Left, feed_request, feed_result, feed_notice, count_connected}

-- An entry in its state, with the place and the Session-Id.
unfoldable pub screen : (state place : ℕ) → (session : List ℕ) → Screen
screen state place session = record { state = state; place = place; size = length session; room = filled session 128 }

-- The Session-Ids a, b and c.
abbrev pub a : List ℕ
a = 97 ∷ []

abbrev pub b : List ℕ
b = 98 ∷ []

abbrev pub c : List ℕ
c = 99 ∷ []

-- The states and places of a list, one behind another.
unfoldable pub states : List Screen → List ℕ
states [] = []
states (s ∷ board) = s.state ∷ s.place ∷ states board

-- A feed's number, then the states and places that it leaves.
unfoldable pub said : Left → List ℕ
said l = l.number ∷ states l.board

-- The worked cases 1 to 3 as the board sees them, on three screens that are off: a asked, a at place 1; b asked, b at place 2; c asked, a cut, c at place 1.
-- Then a termination of c. The notice may as well come behind the result.
unfoldable pub opened : List Screen
opened =
    let asked : List Screen = (feed_request (screen 0 0 a ∷ screen 0 0 b ∷ screen 0 0 c ∷ []) 0 a).board in
    let first : List Screen = (feed_result asked 0 a 2001 1 1).board in
    (feed_result (feed_request first 0 b).board 0 b 2001 1 2).board

unfoldable pub the_run : Bool
the_run =
    let two : List Screen = opened in
    let third : List Screen = (feed_request two 0 c).board in
    let cut_first : List Screen = (feed_result (feed_notice third a).board 0 c 2001 1 1).board in
    let cut_last : List Screen = (feed_notice (feed_result third 0 c 2001 1 1).board a).board in
    same (states two) (2 ∷ 1 ∷ 2 ∷ 2 ∷ 0 ∷ 0 ∷ [])
    && (same (states third) (2 ∷ 1 ∷ 2 ∷ 2 ∷ 1 ∷ 0 ∷ [])
    && (same (states cut_first) (3 ∷ 0 ∷ 2 ∷ 2 ∷ 2 ∷ 1 ∷ [])
    && (same (states cut_last) (3 ∷ 0 ∷ 2 ∷ 2 ∷ 2 ∷ 1 ∷ [])
    && (eqb (count_connected two).screens 2
    && (eqb (count_connected third).screens 2
    && (same (said (feed_result (feed_request cut_last 2 c).board 2 c 2001 1 0)) (0 ∷ 3 ∷ 0 ∷ 2 ∷ 2 ∷ 0 ∷ 0 ∷ [])
    && same (said (feed_request cut_last 0 a)) (0 ∷ 1 ∷ 0 ∷ 2 ∷ 2 ∷ 2 ∷ 1 ∷ [])))))))

-- One screen in each state, connected at a place that no table has, and one in a state that is none of the four.
unfoldable pub each : List Screen
each = screen 0 0 a ∷ screen 1 0 b ∷ screen 2 300 c ∷ screen 3 0 (100 ∷ []) ∷ screen 4 5 (101 ∷ []) ∷ []

-- What is told of every Session-Id of it in turn, read off the entry that it is of.
unfoldable pub to_each : (List Screen → List ℕ → Left) → List ℕ
to_each f =
    states (f each a).board
    ++ (states (f each b).board
    ++ (states (f each c).board ++ (states (f each (100 ∷ [])).board ++ states (f each (101 ∷ [])).board)))

-- The five in a row, each time with another one of them moved: their states and places as given, or those of `each`.
unfoldable pub moving : (off asked connected cut unknown : List ℕ) → List ℕ
moving p q r s t =
    let o : List ℕ = 0 ∷ 0 ∷ [] in
    let i : List ℕ = 1 ∷ 0 ∷ [] in
    let k : List ℕ = 2 ∷ 300 ∷ [] in
    let x : List ℕ = 3 ∷ 0 ∷ [] in
    let u : List ℕ = 4 ∷ 5 ∷ [] in
    p ++ (i ++ (k ++ (x ++ u)))
    ++ (o ++ (q ++ (k ++ (x ++ u)))
    ++ (o ++ (i ++ (r ++ (x ++ u))) ++ (o ++ (i ++ (k ++ (s ++ u))) ++ o ++ (i ++ (k ++ (x ++ t))))))

unfoldable pub nothing_moves : List ℕ
nothing_moves = moving (0 ∷ 0 ∷ []) (1 ∷ 0 ∷ []) (2 ∷ 300 ∷ []) (3 ∷ 0 ∷ []) (4 ∷ 5 ∷ [])

-- The table, line by line: what moves which state, and what moves none. A type 0 success at place 0 or 9 moves none; a refusal, with a code of the other kind or
-- without an answer, puts only an asked screen off; types 1 and over 2, and a termination's request and refusal, move none.
unfoldable pub the_table : Bool
the_table =
    same (to_each (λ l s. feed_request l 0 s)) (moving (1 ∷ 0 ∷ []) (1 ∷ 0 ∷ []) (2 ∷ 300 ∷ []) (1 ∷ 0 ∷ []) (4 ∷ 5 ∷ []))
    && (same (to_each (λ l s. feed_request l 1 s)) nothing_moves
    && (same (to_each (λ l s. feed_request l 2 s)) nothing_moves
    && (same (to_each (λ l s. feed_request l 3 s)) nothing_moves
    && (same (to_each (λ l s. feed_result l 0 s 2001 1 8)) (moving (0 ∷ 0 ∷ []) (2 ∷ 8 ∷ []) (2 ∷ 300 ∷ []) (3 ∷ 0 ∷ []) (4 ∷ 5 ∷ []))
    && (same (to_each (λ l s. feed_result l 0 s 2001 1 0)) nothing_moves
    && (same (to_each (λ l s. feed_result l 0 s 2001 1 9)) nothing_moves
    && (same (to_each (λ l s. feed_result l 0 s 5012 1 0)) (moving (0 ∷ 0 ∷ []) (0 ∷ 0 ∷ []) (2 ∷ 300 ∷ []) (3 ∷ 0 ∷ []) (4 ∷ 5 ∷ []))
    && (same (to_each (λ l s. feed_result l 0 s 2001 2 1)) (moving (0 ∷ 0 ∷ []) (0 ∷ 0 ∷ []) (2 ∷ 300 ∷ []) (3 ∷ 0 ∷ []) (4 ∷ 5 ∷ []))
    && (same (to_each (λ l s. feed_result l 0 s 6 0 0)) (moving (0 ∷ 0 ∷ []) (0 ∷ 0 ∷ []) (2 ∷ 300 ∷ []) (3 ∷ 0 ∷ []) (4 ∷ 5 ∷ []))
    && (same (to_each (λ l s. feed_result l 1 s 2001 1 1)) nothing_moves
    && (same (to_each (λ l s. feed_result l 3 s 2001 1 1)) nothing_moves
    && (same (to_each (λ l s. feed_result l 2 s 5012 1 0)) nothing_moves
    && (same (to_each (λ l s. feed_result l 2 s 2001 1 0)) (moving (0 ∷ 0 ∷ []) (0 ∷ 0 ∷ []) (0 ∷ 0 ∷ []) (0 ∷ 0 ∷ []) (0 ∷ 0 ∷ []))
    && same (to_each (λ l s. feed_notice l s)) (moving (3 ∷ 0 ∷ []) (3 ∷ 0 ∷ []) (3 ∷ 0 ∷ []) (3 ∷ 0 ∷ []) (3 ∷ 0 ∷ [])))))))))))))))

-- n screens that are off, each with a Session-Id of its own.
unfoldable pub many : ℕ → List Screen
many n = map (λ k. screen 0 0 (k ∷ [])) (counted 0 n)

-- A Session-Id of n bytes.
unfoldable pub long : ℕ → List ℕ
long n = filled (7 ∷ []) n

-- Lists of 0, 1, 64 and 65 entries; Session-Ids of 0, 1, 128 and 129 bytes; one that stands twice, and two that differ only behind their lengths. 25 comes before 24.
unfoldable pub numbers : Bool
numbers =
    eqb (feed_notice [] a).number 24
    && (eqb (count_connected []).number 0
    && (eqb (feed_notice (screen 1 0 a ∷ []) a).number 0
    && (eqb (feed_notice (screen 1 0 a ∷ []) b).number 24
    && (eqb (feed_notice (screen 1 0 a ∷ []) []).number 24
    && (eqb (feed_notice (screen 1 0 a ∷ []) (long 129)).number 24
    && (eqb (feed_notice (many 64) (63 ∷ [])).number 0
    && (eqb (feed_notice (many 65) (63 ∷ [])).number 25
    && (eqb (feed_notice (many 65) a).number 25
    && (eqb (count_connected (many 65)).number 25
    && (eqb (feed_notice (screen 1 0 (long 128) ∷ []) (long 128)).number 0
    && (eqb (feed_notice (screen 1 0 (long 129) ∷ screen 1 0 a ∷ []) a).number 25
    && (eqb (feed_notice (screen 1 0 [] ∷ screen 1 0 a ∷ []) a).number 25
    && (eqb (feed_notice (screen 1 0 b ∷ screen 1 0 a ∷ screen 2 1 b ∷ []) a).number 25
    && (same (said (feed_notice (screen 1 0 b ∷ screen 2 1 b ∷ []) b)) (25 ∷ 1 ∷ 0 ∷ 2 ∷ 1 ∷ [])
    && same (said (feed_notice (screen 1 0 (97 ∷ 98 ∷ []) ∷ screen 2 1 a ∷ []) a)) (0 ∷ 1 ∷ 0 ∷ 3 ∷ 0 ∷ [])))))))))))))))

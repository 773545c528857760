-- The board through a call, and through any list of calls.
use mathlib.Core.Path.{◌≡◌, refl, sym, ap, ◌∙◌}
use mathlib.Core.Bool.{Bool, true, false, ◌&&◌, not}
use mathlib.Core.List.{List, [], ◌∷◌, map}
use Prim.Native.Nat.{ℕ}
use borrow.Author.Tests.{eq-eqb, not-true}
use lib.Dec.{eqb, leb}
use lib.ListN.{length}
use Rattle.octets.specs.Choice.{pick}
use Rattle.octets.specs.Lists.{every, keep}
use Rattle.octets.proofs.Lists.{and_left, and_right, both, by-test, every_of}
use Rattle.message.specs.ReadingAMessage.{Ask, Reading, refused, request, read}
use Rattle.table.specs.TheTable.{Table}
use Rattle.setup.specs.SetUp.{clear}
use Rattle.rules.specs.Calls.{Call, Reply, handle, most_policies}
use Rattle.order.specs.Demand2.{request_in, succeeds}
use Rattle.order.specs.OpenedFirst.{session_cut}
use Rattle.order.proofs.Checks.{refused-changes-nothing, success-exactly}
use Rattle.order.proofs.Setting.{cleared-zero}
use Rattle.screen.specs.declared.Screen.{Screen}
use Rattle.screen.specs.TheBoard.{session_of, Event, cuts, right, told, feed, feed_request, feed_result, feed_notice, is_connected, count_connected}
use Rattle.screen.proofs.TheBoardsRules.{fed-is, stays-right}
use Rattle.agreement.specs.TheBoardAgrees.{Each, stands, stands_once, connected_at, Truthful, Agrees, each_once, with_request, with_result, with_notice, in_turn, Way, result_first, notice_first, refused_left_out, with_answer, fed_by, Fed, Moment, after, after_all, once_throughout, AgreesAfterCall, AgreesThroughout, dark, DarkAgrees, ClearedAgrees, CountsWhatStands}
use Rattle.agreement.proofs.Some.{below}
use Rattle.agreement.proofs.Screens.{unlit}
use Rattle.agreement.proofs.Tables.{at_none, none-in-zeros, stands_at_lem}
use Rattle.agreement.proofs.Calls.{done, was_read}
use Rattle.agreement.proofs.Showing.{answered, done-true, noticed, refused-true, requested, session-through, through}

-- THE BOARD, SCREEN BY SCREEN

map-twice : {A : Type 0} (f g : A → A) (xs : List A) → map g (map f xs) ≡ map (λ x. g (f x)) xs
map-twice f g [] = refl
map-twice f g (x ∷ xs) = rw (map-twice f g xs)

map-self : {A : Type 0} (xs : List A) → map (λ x. x) xs ≡ xs
map-self [] = refl
map-self (x ∷ xs) = rw (map-self xs)

-- the board after is the board before with each screen moved, and passes 25 too
record Moved (board is : List Screen) (f : Screen → Screen) : Type 0 where
  each : is ≡ map f board
  passes : right is ≡ true

fed-event : (board : List Screen) (x : List ℕ) (e : Event) → right board ≡ true → Moved board (feed board x e).board (told x e)
fed-event board x e h = record { each = fed-is board x e h; passes = stays-right board x e ∙ h }

then-moved : (a b c : List Screen) (f g : Screen → Screen) → Moved a b f → Moved b c g → Moved a c (λ s. g (f s))
then-moved a b c f g m n = record { each = n.each ∙ ap (map g) m.each ∙ map-twice f g a; passes = n.passes }

moved-if : (b : Bool) (board is : List Screen) (f : Screen → Screen) → right board ≡ true → Moved board is f → Moved board (pick b is board) (λ s. pick b (f s) s)
unfolding pick
moved-if true board is f h m = m
moved-if false board is f h m = record { each = sym (map-self board); passes = h }

module _ (q : Ask) (r : Reply) where
  request-moved : (board : List Screen) → right board ≡ true → Moved board (with_request q board) (requested q)
  unfolding with_request feed_request
  request-moved board h = fed-event board _ _ h

  result-moved : (board : List Screen) → right board ≡ true → Moved board (with_result q r.result board) (answered q r)
  unfolding with_result feed_result
  result-moved board h = fed-event board _ _ h

  notice-moved : (board : List Screen) → right board ≡ true → Moved board (with_notice r board) (noticed r)
  unfolding with_notice noticed feed_notice
  notice-moved board h = moved-if _ board _ _ h (fed-event board (session_cut r) cuts h)

  all_moved : (board : List Screen) → right board ≡ true → Moved board (in_turn q r board) (λ s. noticed r (answered q r (requested q s)))
  unfolding in_turn
  all_moved board h =
      let a : Moved board (with_request q board) (requested q) = request-moved board h in
      let b : Moved (with_request q board) (with_result q r.result (with_request q board)) (answered q r) = result-moved _ a.passes in
      then-moved _ _ _ _ _ (then-moved _ _ _ _ _ a b) (notice-moved _ b.passes)

  answer-moved : (way : Way) (board : List Screen) → right board ≡ true → Moved board (with_answer way q r board) (through way q r)
  unfolding with_answer through
  answer-moved result_first board h = all_moved board h
  answer-moved notice_first board h =
      let a : Moved board (with_request q board) (requested q) = request-moved board h in
      let b : Moved (with_request q board) (with_notice r (with_request q board)) (noticed r) = notice-moved _ a.passes in
      then-moved _ _ _ _ _ (then-moved _ _ _ _ _ a b) (result-moved _ b.passes)
  answer-moved refused_left_out board h = moved-if _ board _ _ h (all_moved board h)

-- ONE CALL

agrees-moved : (t u : Table) (f : Screen → Screen)
    → ((s : Screen) → Truthful t s → stands_once t (session_of s) ≡ true → stands_once u (session_of s) ≡ true → Truthful u (f s))
    → (board : List Screen) → each_once t board ≡ true → each_once u board ≡ true → Agrees t board → Agrees u (map f board)
unfolding Each each_once every
agrees-moved t u f i [] a b r = tt
agrees-moved t u f i (s ∷ board) a b r = (
  i s r.0 (and_left (stands_once t (session_of s)) _ a) (and_left (stands_once u (session_of s)) _ b),
  agrees-moved t u f i board (and_right (stands_once t (session_of s)) _ a) (and_right (stands_once u (session_of s)) _ b) r.1,
)

every-same : (f : Screen → Bool) (g : Screen → Screen) → ((s : Screen) → f (g s) ≡ f s) → (board : List Screen) → every f (map g board) ≡ every f board
unfolding every
every-same f g i [] = refl
every-same f g i (s ∷ board) = rw (i s, every-same f g i board)

once-moved : (u : Table) (f : Screen → Screen) → ((s : Screen) → session_of (f s) ≡ session_of s) → (board : List Screen) → each_once u (map f board) ≡ each_once u board
unfolding each_once
once-moved u f i board = every-same (λ s. stands_once u (session_of s)) f (λ s. ap (stands_once u) (i s)) board

module _ (t : Table) (c : Call) (way : Way) (board : List Screen) (h : right board ≡ true) where
  abbrev left : Table
  left = (handle t c).table

  abbrev told_back : Reply
  told_back = (handle t c).reply

  -- a board that still passes 25, and agrees if no Session-Id of it stands twice
  record Fared (is : List Screen) : Type 0 where
    passes : right is ≡ true
    agrees : each_once t board ≡ true → each_once left is ≡ true → Agrees t board → Agrees left is

  fared : (q : Ask) → ((s : Screen) → Truthful t s → stands_once t (session_of s) ≡ true → stands_once left (session_of s) ≡ true → Truthful left (through way q told_back s))
      → Fared (with_answer way q told_back board)
  fared q i =
      let m : Moved board (with_answer way q told_back board) (through way q told_back) = answer-moved q told_back way board h in
      record {
        passes = m.passes;
        agrees = λ a b r. rw m.each (agrees-moved t left (through way q told_back) i board a (sym (once-moved left (through way q told_back) (session-through way q told_back) board) ∙ (rw m.each at b)) r);
      }

  -- a call that does not succeed: whatever was read of it
  unsuccessful : succeeds t c ≡ false → (g : Reading) → Fared (fed_by way g told_back board)
  unfolding fed_by
  unsuccessful failed (refused code) =
      record { passes = h; agrees = λ a b r. rw (refused-changes-nothing t c (success-exactly t c ∙ failed)).table r }
  unsuccessful failed (request q) =
      let code : eqb told_back.result.code 2001 ≡ false = success-exactly t c ∙ failed in
      let stays : left ≡ t = (refused-changes-nothing t c code).table in
      fared q.ask (λ s i a b. rw stays (refused-true t way q.ask told_back s code (refused-changes-nothing t c code).cut i))

  successful : succeeds t c ≡ true → Fared (fed_by way (read (most_policies t.form) c.message) told_back board)
  unfolding fed_by
  successful won =
      rw (was_read t c won)
      (fared (request_in c).ask (λ s i a b. done-true t left c (request_in c).ask told_back (done t c won) way s i a b))

  fares : Fared (fed_by way (read (most_policies t.form) c.message) told_back board)
  fares = by-test (succeeds t c) (λ won. successful won) (λ failed. unsuccessful failed (read (most_policies t.form) c.message))

pub agrees-after-call : AgreesAfterCall
unfolding after
agrees-after-call m f h a b r = (fares m.table f.call f.way m.board h).agrees a b r

-- ANY LIST OF CALLS

once-first : (m : Moment) (fs : List Fed) → once_throughout m fs ≡ true → each_once m.table m.board ≡ true
unfolding once_throughout
once-first m [] h = h
once-first m (f ∷ fs) h = and_left (each_once m.table m.board) _ h

still-passes : (m : Moment) (f : Fed) → right m.board ≡ true → right (after m f).board ≡ true
unfolding after
still-passes m f h = (fares m.table f.call f.way m.board h).passes

pub agrees-throughout : AgreesThroughout
unfolding after_all once_throughout
agrees-throughout m [] h once r = r
agrees-throughout m (f ∷ fs) h once r =
    let now' : each_once m.table m.board ≡ true = and_left (each_once m.table m.board) _ once in
    let later : once_throughout (after m f) fs ≡ true = and_right (each_once m.table m.board) _ once in
    agrees-throughout (after m f) fs (still-passes m f h) later (agrees-after-call m f h now' (once-first (after m f) fs later) r)

-- TO BEGIN WITH

dark-true : (t : Table) (s : Screen) → leb s.state 3 && not (is_connected s) ≡ true → not (stands t (session_of s)) ≡ true → Truthful t s
dark-true t s a b =
    let off : is_connected s ≡ false = not-true (is_connected s) (and_right (leb s.state 3) _ a) in
    let nowhere : stands t (session_of s) ≡ false = not-true (stands t (session_of s)) b in
    record {
      one-of-four = and_left (leb s.state 3) _ a;
      exactly = λ k. unlit s off k ∙ sym (below _ _ (stands_at_lem t (session_of s) k) nowhere);
    }

pub dark-agrees : DarkAgrees
unfolding Each every dark
dark-agrees t [] a b = tt
dark-agrees t (s ∷ board) a b = (
  dark-true t s (and_left (leb s.state 3 && not (is_connected s)) _ a) (and_left (not (stands t (session_of s))) _ b),
  dark-agrees t board (and_right (leb s.state 3 && not (is_connected s)) _ a) (and_right (not (stands t (session_of s))) _ b),
)

pub cleared-agrees : ClearedAgrees
cleared-agrees t board h d =
    dark-agrees (clear t).table board d
    (every_of _ (λ s. ap not (ap (λ (u : Table). stands u (session_of s)) (cleared-zero t h) ∙ none-in-zeros t.form (length t.bytes) (session_of s))) board)

-- THE COUNT

connected-stands : (t : Table) (s : Screen) → Truthful t s → is_connected s ≡ stands t (session_of s)
unfolding connected_at
connected-stands t s r =
    by-test (is_connected s)
    (λ e. let own : connected_at s.place s ≡ true = both e (eq-eqb s.place s.place refl) in
    e ∙ sym (stands_at_lem t (session_of s) s.place (sym (r.exactly s.place) ∙ own)))
    (λ e. e ∙ sym (at_none t (session_of s) (λ k. sym (r.exactly k) ∙ unlit s e k)))

same-screens : (t : Table) (board : List Screen) → Agrees t board → keep is_connected board ≡ keep (λ s. stands t (session_of s)) board
unfolding Each keep
same-screens t [] r = refl
same-screens t (s ∷ board) r =
    ap (λ (b : Bool). pick b (s ∷ keep is_connected board) (keep is_connected board)) (connected-stands t s r.0)
    ∙ ap (λ (l : List Screen). pick (stands t (session_of s)) (s ∷ l) l) (same-screens t board r.1)

pub counts-what-stands : CountsWhatStands
unfolding count_connected pick
counts-what-stands t board h r = rw h (ap length (same-screens t board r))

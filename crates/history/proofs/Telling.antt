-- What a request is told of a cut names the very tunnel that the notice room names: all of the notice is told, and no text of it is longer than its place.
use mathlib.Core.Path.{◌≡◌, refl, sym}
use mathlib.Core.Bool.{Bool, true}
use mathlib.Core.List.{List, [], ◌∷◌}
use Prim.Native.Nat.{ℕ, ◌+◌, ◌≤◌}
use native.Mathlib.Omega.{arith}
use borrow.Author.Tests.{leb-true}
use lib.Dec.{eqb}
use lib.ListN.{length, take, drop}
use lib.Seq.{take-take}
use Rattle.octets.specs.Choice.{pick}
use Rattle.octets.specs.Lists.{every}
use Rattle.octets.proofs.Choice.{by-pick}
use Rattle.octets.proofs.Lists.{and_left, every-keep, every_one, within-high}
use Rattle.octets.proofs.Pieces.{part-take}
use Rattle.message.specs.TheRooms.{notice_length}
use Rattle.message.specs.Codes.{Code}
use Rattle.message.specs.ReadingAMessage.{Ask, tunnel, policy, termination}
use Rattle.table.specs.TheTable.{Access, Subscriber, is_form}
use Rattle.table.specs.Soundness.{on_entry}
use Rattle.table.proofs.Good.{Good, Standing, by_form, good_access, spare, standing}
use Rattle.rules.specs.Calls.{Call, Reply, reply, result_of}
use Rattle.order.specs.Demand2.{cut_for, exceeds, first_alone, on_asked}
use Rattle.order.specs.Demand3.{told}
use Rattle.order.specs.OpenedFirst as O
use Rattle.history.specs.OrderOfOpening.{compared, listed, tunnel_cut}

-- WHAT IS CUT is an access of the row.

module _ (p : Access → Bool) where
  alone-passes : (xs : List Access) → every p xs ≡ true → every p (first_alone xs) ≡ true
  unfolding first_alone every
  alone-passes [] h = refl
  alone-passes (x ∷ xs) h = every_one p x (and_left (p x) _ h)

  asked-passes : (q : Ask) (s : Subscriber) → every p s.accesses ≡ true → every p (on_asked q s) ≡ true
  unfolding on_asked on_entry every
  asked-passes (tunnel session host realm label visited) s h = every-keep p _ s.accesses h
  asked-passes (policy session first second third) s h = refl
  asked-passes (termination session label) s h = refl

  cut-passes : (q : Ask) (s : Subscriber) → every p s.accesses ≡ true → every p (cut_for q s) ≡ true
  unfolding cut_for every
  cut-passes q s h = by-pick (λ (l : List Access). every p l ≡ true) (exceeds q s) (λ e. alone-passes (on_asked q s) (asked-passes q s h)) (λ e. refl)

-- THE LENGTHS THAT A RESULT GIVES

pub record Bounded (f : ℕ) (r : Reply) : Type 0 where
  pub session-most : r.result.cut_session ≤ 128
  pub host-most : r.result.cut_host ≤ 128
  pub realm-most : r.result.cut_realm ≤ spare f

bounded-by : (f n : ℕ) (c : Call) (code : Code) (place : ℕ) (cut : List Access) → every (good_access f n) cut ≡ true → Bounded f (reply f c code place cut)
unfolding reply result_of every
bounded-by f n c code place [] h = record { session-most = omega arith; host-most = omega arith; realm-most = omega arith }
bounded-by f n c code place (a ∷ others) h =
    let s : Standing f n a = standing n a (and_left (good_access f n a) _ h) in
    record {
      session-most = within-high 1 128 _ s.sid-fits;
      host-most = within-high 1 128 _ s.host-fits;
      realm-most = leb-true _ (spare f) s.realm-fits;
    }

pub bounded : (f : ℕ) (c : Call) (code : Code) (place : ℕ) (q : Ask) (s : Subscriber) → Good f s → Bounded f (reply f c code place (cut_for q s))
bounded f c code place q s g =
    bounded-by f (length s.entries) c code place (cut_for q s) (cut-passes _ q s g.accesses-good.each)

-- THE NOTICE THAT IS TOLD

room-1 : 256 + spare 1 ≤ notice_length 1
unfolding spare notice_length pick
room-1 = omega arith

room-2 : 256 + spare 2 ≤ notice_length 2
unfolding spare notice_length pick
room-2 = omega arith

room : (f : ℕ) → is_form f ≡ true → 256 + spare f ≤ notice_length f
room f is = by_form (λ f. 256 + spare f ≤ notice_length f) f is room-1 room-2

-- the tunnel that is told is the one that the room names, on a label that is the same
pub cut-told : (f : ℕ) → is_form f ≡ true → (r : Reply) → Bounded f r → eqb r.result.cut 1 ≡ true → (label k : List ℕ) → compared k ≡ compared label
    → listed (O.tunnel_cut k r) ≡ tunnel_cut label (told f r)
unfolding listed O.tunnel_cut O.session_cut tunnel_cut told pick
cut-told f is r b e label k q =
    let m : ℕ = notice_length f in
    let all : pick (eqb r.result.cut 1) (take m r.notice) [] ≡ take m r.notice = rw e in
    let s : take r.result.cut_session r.notice ≡ take r.result.cut_session (take m r.notice) =
    sym (take-take r.result.cut_session m r.notice (omega (arith, b.session-most, room f is))) in
    let h : take r.result.cut_host (drop 128 r.notice) ≡ take r.result.cut_host (drop 128 (take m r.notice)) =
    sym (part-take m 128 r.result.cut_host r.notice (omega (arith, b.host-most, room f is))) in
    let d : take r.result.cut_realm (drop 256 r.notice) ≡ take r.result.cut_realm (drop 256 (take m r.notice)) =
    sym (part-take m 256 r.result.cut_realm r.notice (omega (arith, b.realm-most, room f is))) in
    rw e (λ i. record { session = s i; host = h i; realm = d i; label = q i })

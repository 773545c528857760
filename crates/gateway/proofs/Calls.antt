-- The numbers of calls that get no answer, a law for each way out of the tests, and what a call that gets one has.
use mathlib.Core.Path.{◌≡◌, refl, ◌∙◌}
use mathlib.Core.Bool.{Bool, true, false, ◌&&◌}
use mathlib.Core.List.{List, []}
use Prim.Native.Nat.{ℕ, ◌≤◌, ◌<◌}
use native.Mathlib.Omega.{arith}
use borrow.Author.Tests.{leb-true, le-leb, lt-leb, ne_eqb}
use lib.Dec.{leb}
use lib.ListN.{length}
use Rattle.octets.specs.Choice.{pick, require, first_of, within}
use Rattle.octets.proofs.Lists.{and_left, and_right, within-high}
use Rattle.octets.proofs.Choice.{first_passes, others-pass, passed}
use Rattle.message.specs.TheRooms.{answer_least}
use Rattle.message.specs.CallsThatGetNoAnswer.{message_most, message_number}
use Rattle.message.specs.Codes.{kind_of}
use Rattle.message.specs.Kinds.{code_from}
use Rattle.message.specs.declared.Kind.TheVariants.{NoAnswer}
use Rattle.message.proofs.Listing.{first-go, first_one}
use Rattle.message.proofs.Callers.{message-length}
use Rattle.gateway.specs.TheGateway.{Access, Call, access_fits, call_number, reauthorize, silent}
use Rattle.gateway.specs.Code.{leaves, number_by}

module _ (host realm answer request : ℕ) (fits : Bool) (m : List ℕ) where
  pub number-host : within 1 128 host ≡ false → number_by host realm answer request fits m ≡ 2
  unfolding number_by first_of require pick
  number-host h = rw h

  module _ (h : within 1 128 host ≡ true) where
    pub number-realm : within 1 128 realm ≡ false → number_by host realm answer request fits m ≡ 2
    unfolding number_by first_of require pick
    number-realm r = rw (h, r)

    module _ (r : within 1 128 realm ≡ true) where
      pub number-answer : answer < answer_least → number_by host realm answer request fits m ≡ 3
      unfolding number_by first_of require pick
      number-answer a = rw (h, r, lt-leb answer_least answer a)

      module _ (a : answer_least ≤ answer) where
        pub number-request : request < answer_least → number_by host realm answer request fits m ≡ 3
        unfolding number_by first_of require pick
        number-request q = rw (h, r, le-leb answer_least answer a, lt-leb answer_least request q)

        module _ (q : answer_least ≤ request) where
          pub number-access : fits ≡ false → number_by host realm answer request fits m ≡ 22
          unfolding number_by first_of require pick
          number-access f = rw (h, r, le-leb answer_least answer a, le-leb answer_least request q, f)

          pub number-message : fits ≡ true → number_by host realm answer request fits m ≡ message_number m
          unfolding number_by require
          number-message f =
              first-go (require (within 1 128 host && within 1 128 realm) 2) _ (rw (h, r))
              ∙ first-go (require (leb answer_least answer && leb answer_least request) 3) _ (rw (le-leb answer_least answer a, le-leb answer_least request q))
              ∙ first-go (require fits 22) _ (rw f)
              ∙ first_one (message_number m)

pub number_is : (c : Call)
    → call_number c ≡ number_by (length c.host) (length c.realm) (length c.answer) (length c.request) (access_fits c.access) c.message
unfolding call_number number_by
number_is c = refl

pub fits-is : (a : Access)
    → access_fits a ≡ within 1 128 (length a.session) && (within 1 128 (length a.user) && (within 1 100 (length a.label) && leb (length a.visited) 128))
unfolding access_fits
fits-is a = refl

-- what a call that gets an answer has
pub record Allowed (c : Call) : Type 0 where
  pub host-fits : length c.host ≤ 128
  pub realm-fits : length c.realm ≤ 128
  pub answer-fits : answer_least ≤ length c.answer
  pub request-fits : answer_least ≤ length c.request
  pub session-fits : length c.access.session ≤ 128
  pub user-fits : length c.access.user ≤ 128
  pub label-fits : length c.access.label ≤ 100
  pub visited-fits : length c.access.visited ≤ 128
  pub least : 20 ≤ length c.message
  pub most : length c.message ≤ message_most

pub allowed : (c : Call) → call_number c ≡ 0 → Allowed c
unfolding call_number access_fits
allowed c e =
    let names = within 1 128 (length c.host) && within 1 128 (length c.realm) in
    let rooms = leb answer_least (length c.answer) && leb answer_least (length c.request) in
    let last = within 1 100 (length c.access.label) && leb (length c.access.visited) 128 in
    let behind = within 1 128 (length c.access.user) && last in
    let fits = within 1 128 (length c.access.session) && behind in
    let e1 = others-pass (require names 2) _ e in
    let e2 = others-pass (require rooms 3) _ e1 in
    let e3 = others-pass (require fits 22) _ e2 in
    let n : names ≡ true = passed names 2 (omega arith) (first_passes (require names 2) _ e) in
    let r : rooms ≡ true = passed rooms 3 (omega arith) (first_passes (require rooms 3) _ e1) in
    let f : fits ≡ true = passed fits 22 (omega arith) (first_passes (require fits 22) _ e2) in
    let b : behind ≡ true = and_right (within 1 128 (length c.access.session)) behind f in
    let l : last ≡ true = and_right (within 1 128 (length c.access.user)) last b in
    let m : message_number c.message ≡ 0 = first_passes (message_number c.message) [] e3 in
    let k = message-length c.message m in
    record {
      host-fits = within-high 1 128 (length c.host) (and_left (within 1 128 (length c.host)) (within 1 128 (length c.realm)) n);
      realm-fits = within-high 1 128 (length c.realm) (and_right (within 1 128 (length c.host)) (within 1 128 (length c.realm)) n);
      answer-fits = leb-true answer_least (length c.answer) (and_left (leb answer_least (length c.answer)) (leb answer_least (length c.request)) r);
      request-fits = leb-true answer_least (length c.request) (and_right (leb answer_least (length c.answer)) (leb answer_least (length c.request)) r);
      session-fits = within-high 1 128 (length c.access.session) (and_left (within 1 128 (length c.access.session)) behind f);
      user-fits = within-high 1 128 (length c.access.user) (and_left (within 1 128 (length c.access.user)) last b);
      label-fits =
          within-high 1 100 (length c.access.label) (and_left (within 1 100 (length c.access.label)) (leb (length c.access.visited) 128) l);
      visited-fits =
          leb-true (length c.access.visited) 128 (and_right (within 1 100 (length c.access.label)) (leb (length c.access.visited) 128) l);
      least = k.0;
      most = k.1;
    }

-- a call that gets no answer leaves both rooms as they were
pub leaves-number : (c : Call) (n : ℕ) → n ≡ call_number c → (n ≡ 0 → ⊥)
    → leaves (record { code = n; kind = NoAnswer; length = 0; request_length = 0 }) c.answer c.request ≡ reauthorize c
unfolding leaves reauthorize silent pick kind_of code_from
leaves-number c n e h = rw (← e, ne_eqb n 0 h)

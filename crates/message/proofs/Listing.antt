-- The lists: a field that passes leaves the code to those behind it, one that fails gives it.
use mathlib.Core.Path.{◌≡◌, refl, sym, ap, ◌∙◌}
use mathlib.Core.Bool.{Bool, true, false, ◌||◌, not}
use mathlib.Core.List.{List, [], ◌∷◌, ◌++◌, map}
use Prim.Native.Nat.{ℕ, zero, suc, ◌+◌, ◌/◌, ◌%◌, ◌≤◌, ◌<◌}
use native.Mathlib.Omega.{arith}
use borrow.Author.Tests.{eqb-true, eqb-false, eq-eqb, ne_eqb, le-leb}
use lib.Dec.{eqb}
use lib.ListN.{length, get_or, drop, length-drop}
use Rattle.std.specs.Prelude.{Option, Some, None, is_some, Result, Ok, Err, IsErrAnd}
use Rattle.octets.specs.Choice.{pick, require, first_of, within}
use Rattle.octets.specs.Lists.{every}
use Rattle.octets.specs.Numbers.{net32}
use Rattle.octets.proofs.Lists.{by-test}
use Rattle.octets.proofs.Choice.{first_passes, others-pass, passed}
use Rattle.message.specs.ReadingAMessage.{flags, command, header_code, Name, same_name, Avp, Walk, behind, Field, number_in, label_field, number_field, texts_field, avp_code, avp_of, request_code, avps, walk_code, having, first_value, value_of, present, tested_as, field_code, starts_with, for_both, for265, for275, fields, list_code, reading_code, session_id, origin_host, origin_realm, proxy_info, user_name, visited_network, wlan_apn_id, routing_policy, type_of, Request, ask_of, request_of, request, read}
use Rattle.message.specs.declared.Span.{Span}
use Rattle.message.specs.declared.Failure.{Failure}
use Rattle.message.specs.declared.Failure.TheVariants.{MissingAvp}
use Rattle.message.specs.declared.Routes.{Routes}
use Rattle.message.specs.declared.Sender.{Sender}
use Rattle.message.specs.declared.Asked.TheVariants.{Tunnel, Policy, Termination}
use Rattle.message.specs.declared.UserRequest.{UserRequest}
use Rattle.message.specs.Failures.{failure_code, failed_with}
use Rattle.message.specs.Positions.{names, name_at, how_often, slot_says, Gathered}
use Rattle.message.specs.Spans.{code_of, Holds, Reads, HoldsAt, RoutesRead, both_code, BothRead, rest_code, tunnel_code, tunnel_of, policy_code, policy_of, bytes_of, asks, says, spans_in, spans, is_inside, verdict, Listed, has_proxies, HeardOf}
use Rattle.message.proofs.Failures.{failure-least}
use Rattle.message.proofs.Heads.{code-few}
use Rattle.message.proofs.Tested.{tested-none, passes-each, first-allowed}
use Rattle.message.proofs.Walks.{walk_end, walk-bad, walk-one, request-four, request-bad}

-- TESTS IN ORDER

pub first-go : (c : ℕ) (cs : List ℕ) → c ≡ 0 → first_of (c ∷ cs) ≡ first_of cs
unfolding first_of pick
first-go c cs e = rw (eq-eqb c 0 e)

pub first-stop : (c n : ℕ) (cs : List ℕ) → c ≡ n → 1 ≤ n → first_of (c ∷ cs) ≡ n
unfolding first_of pick
first-stop c n cs e h = rw e (rw (ne_eqb n 0 (λ z. omega arith)))

-- the code of a failure is not that of a test that passes
some_code : (f : Failure) → eqb (failure_code f) 0 ≡ false
some_code f = ne_eqb (failure_code f) 0 (λ z. omega (arith, failure-least f))

pub first-append : (xs ys : List ℕ) → first_of (xs ++ ys) ≡ pick (eqb (first_of xs) 0) (first_of ys) (first_of xs)
unfolding first_of pick
first-append [] ys = refl
first-append (x ∷ xs) ys = by-test (eqb x 0) (λ e. rw e (first-append xs ys)) (λ e. rw (e, e))

pub first_one : (n : ℕ) → first_of (n ∷ []) ≡ n
unfolding first_of pick
first_one n = by-test (eqb n 0) (λ e. rw e (sym (eqb-true n 0 e))) (λ e. rw e)

pub above_zero : (n : ℕ) → (n ≡ 0 → ⊥) → 0 < n
above_zero zero h = absurd (h refl)
above_zero (suc n) h = omega arith

-- ONE FIELD OF A LIST

no_code : {T : Type 0} (o : Option T) → code_of false (Ok o) ≡ 0
unfolding code_of require
no_code (Some x) = refl
no_code None = refl

-- by what its reader answers, the field leaves the code to those behind it or gives it
module _ {T : Type 0} (b : Bool) (c : ℕ) (cs : List ℕ) (o : Option T) where
  by-value : (x : T) → c ≡ code_of b (Ok o) → o ≡ Some x → first_of (c ∷ cs) ≡ first_of cs
  unfolding code_of
  by-value x r e = first-go c cs (r ∙ ap (λ p. code_of b (Ok p)) e)

  by-none : c ≡ code_of b (Ok o) → b ≡ true → o ≡ None → first_of (c ∷ cs) ≡ failure_code MissingAvp
  unfolding code_of require failure_code
  by-none r q e = first-stop c 5005 cs (r ∙ ap (λ a. code_of a (Ok o)) q ∙ ap (λ p. code_of true (Ok p)) e) (omega arith)

  by-either : c ≡ code_of b (Ok o) → b ≡ false → first_of (c ∷ cs) ≡ first_of cs
  by-either r q = first-go c cs (r ∙ ap (λ a. code_of a (Ok o)) q ∙ no_code o)

by-failure : (T : Type 0) (b : Bool) (c : ℕ) (cs : List ℕ) (e : Failure) → c ≡ code_of {T = T} b (Err e) → first_of (c ∷ cs) ≡ failure_code e
unfolding code_of
by-failure T b c cs e r = first-stop c (failure_code e) cs r (failure-least e)

module _ {m : List ℕ} {f : Field} (cs : List ℕ) where
  pub go_on : {o : Option Span} {s : Span} → Reads m f (Ok o) → o ≡ Some s → first_of (field_code (avps m) f ∷ cs) ≡ first_of cs
  go_on {o} {s} r = by-value f.required (field_code (avps m) f) cs o s r.code

  pub missing : {o : Option Span} → Reads m f (Ok o) → f.required ≡ true → o ≡ None → first_of (field_code (avps m) f ∷ cs) ≡ failure_code MissingAvp
  missing {o} r = by-none f.required (field_code (avps m) f) cs o r.code

  pub may-go : {o : Option Span} → Reads m f (Ok o) → f.required ≡ false → first_of (field_code (avps m) f ∷ cs) ≡ first_of cs
  may-go {o} r = by-either f.required (field_code (avps m) f) cs o r.code

  pub stop : {e : Failure} → Reads m f (Err e) → first_of (field_code (avps m) f ∷ cs) ≡ failure_code e
  stop {e} r = by-failure Span f.required (field_code (avps m) f) cs e r.code

-- the policies
module _ {most : ℕ} {m : List ℕ} (cs : List ℕ) where
  pub routes-go : {o : Option Routes} {s : Routes} → RoutesRead most m (Ok o) → o ≡ Some s
      → first_of (field_code (avps m) (texts_field most routing_policy true) ∷ cs) ≡ first_of cs
  routes-go {o} {s} r = by-value true (field_code (avps m) (texts_field most routing_policy true)) cs o s (r.code true)

  pub routes-missing : {o : Option Routes} → RoutesRead most m (Ok o) → o ≡ None
      → first_of (field_code (avps m) (texts_field most routing_policy true) ∷ cs) ≡ failure_code MissingAvp
  routes-missing {o} r = by-none true (field_code (avps m) (texts_field most routing_policy true)) cs o (r.code true) refl

  pub routes-may-go : {o : Option Routes} → RoutesRead most m (Ok o) → first_of (field_code (avps m) (texts_field most routing_policy false) ∷ cs) ≡ first_of cs
  routes-may-go {o} r = by-either false (field_code (avps m) (texts_field most routing_policy false)) cs o (r.code false) refl

  pub routes-stop : (b : Bool) {e : Failure} → RoutesRead most m (Err e) → first_of (field_code (avps m) (texts_field most routing_policy b) ∷ cs) ≡ failure_code e
  routes-stop b {e} r = by-failure Routes b (field_code (avps m) (texts_field most routing_policy b)) cs e (r.code b)

-- an AVP is there exactly if its reader gives a value
pub found-there : {m : List ℕ} {f : Field} (o : Option Span) → Reads m f (Ok o) → is_some o ≡ present f.name (avps m)
found-there (Some s) r = sym (r.there s refl)
found-there None r = sym (r.absent refl)

-- a number that passes is in its range
pub tested-in : (n : Name) (low high : ℕ) (xs : List Avp) → tested_as (number_field n low high) xs ≡ 0 → within low high (net32 (first_value xs) 0) ≡ true
unfolding number_field first_value number_in require
tested-in n low high [] e = let z = sym (tested-none (number_field n low high)) ∙ e in absurd (omega arith)
tested-in n low high (a ∷ xs) e =
    passed (within low high (net32 a.value 0)) 5004 (omega arith) (first-allowed (number_field n low high) a xs (passes-each (number_field n low high) (a ∷ xs) e))

pub number-in : {m : List ℕ} (n : Name) (low high : ℕ) {o : Option Span} {s : Span} → Reads m (number_field n low high) (Ok o) → o ≡ Some s
    → within low high (net32 (value_of n (avps m)) 0) ≡ true
unfolding field_code code_of value_of number_field
number-in {m} n low high r e = tested-in n low high (having n (avps m)) (r.code ∙ ap (λ o. code_of true (Ok o)) e)

-- WHAT IS TOLD

-- what is returned is a failure with that code: written out, or by a `?`
pub listed-refused : {m : List ℕ} {code : ℕ} {q : Request} {t : Result UserRequest Failure} (f : Failure) → IsErrAnd t (λ d. d ≡ f) → code ≡ failure_code f → Listed m code q t
unfolding says spans every verdict pick
listed-refused {t = Ok r} f h e = absurd h
listed-refused {t = Err d} f h e = record { reading = rw (e, h) (rw (some_code f)); inside = refl }

pub listed-request : (m : List ℕ) (code : ℕ) (q : Request) (t : Result UserRequest Failure) → code ≡ 0 → says m t ≡ request q → every (is_inside m) (spans t) ≡ true → Listed m code q t
unfolding verdict pick
listed-request m code q t e s i = record { reading = s ∙ rw (eq-eqb code 0 e); inside = i }

pub inside_is : (m : List ℕ) (n : Name) (s : Span) → Holds m n s → is_inside m s ≡ true
unfolding is_inside
inside_is m n s h = le-leb (s.at + s.len) (length m) h.inside

pub both-failed : {m : List ℕ} {r : Result Sender Failure} (f : Failure) → IsErrAnd r (λ d. d ≡ f) → both_code (avps m) ≡ failure_code f → BothRead m r
unfolding failed_with
both-failed {r = Ok s} f h e = absurd h
both-failed {r = Err d} f h e = record { code = rw h e; session = λ s w. grind arith; host = λ s w. grind arith; realm = λ s w. grind arith }

pub both-held : {m : List ℕ} (s : Sender) → both_code (avps m) ≡ 0 → Holds m session_id s.session → Holds m origin_host s.host → Holds m origin_realm s.realm
    → BothRead m (Ok s)
unfolding failed_with
both-held s e p q o =
    record {
      code = e;
      session = λ a w. let z : s ≡ a = cc in rw (← z) p;
      host = λ a w. let z : s ≡ a = cc in rw (← z) q;
      realm = λ a w. let z : s ≡ a = cc in rw (← z) o;
    }

-- THE WHOLE LIST

module _ (most : ℕ) where
  pub list-split : (c : ℕ) (xs : List Avp) → list_code most c xs ≡ pick (eqb (both_code xs) 0) (rest_code most c xs) (both_code xs)
  unfolding list_code fields both_code rest_code for_both
  list-split c xs =
      first-append (require (starts_with session_id xs) 5005 ∷ map (field_code xs) for_both) (map (field_code xs) (pick (eqb c 265) (for265 most xs) for275))

  pub reading-is : (m : List ℕ) → header_code m ≡ 0 → walk_code m ≡ 0 → reading_code most m ≡ list_code most (command m) (avps m)
  unfolding reading_code
  reading-is m h w =
      first-go (header_code m) _ h ∙ first-go (walk_code m) _ w ∙ first_one (list_code most (command m) (avps m))

  pub lists-failed : (m : List ℕ) (f : Failure) → header_code m ≡ 0 → walk_code m ≡ 0 → both_code (avps m) ≡ failure_code f → reading_code most m ≡ failure_code f
  unfolding pick
  lists-failed m f h w b =
      reading-is m h w ∙ list-split (command m) (avps m) ∙ rw b (rw (some_code f))

  pub lists-rest : (m : List ℕ) → header_code m ≡ 0 → walk_code m ≡ 0 → both_code (avps m) ≡ 0 → reading_code most m ≡ rest_code most (command m) (avps m)
  unfolding pick
  lists-rest m h w b = reading-is m h w ∙ list-split (command m) (avps m) ∙ rw (eq-eqb (both_code (avps m)) 0 b)

pub other-command : (m : List ℕ) → header_code m ≡ 0 → (command m ≡ 265 → ⊥) → command m ≡ 275
unfolding header_code
other-command m h n =
    let h1 = others-pass (require (eqb (flags m % 16) 0) 5013) _ h in
    let h2 = others-pass (require (eqb (flags m / 32 % 2) 0) 3008) _ h1 in
    let p : eqb (command m) 265 || eqb (command m) 275 ≡ true =
    passed (eqb (command m) 265 || eqb (command m) 275) 3001 (omega arith) (first_passes (require (eqb (command m) 265 || eqb (command m) 275) 3001) _ h2) in
    let q = rw (ne_eqb (command m) 265 n) at p in
    eqb-true (command m) 275 q

-- THE FIRST AVP

pub starts-few : (m : List ℕ) → length m < 28 → starts_with session_id (avps m) ≡ false
unfolding starts_with avps
starts-few m h =
    let k : length (drop 20 m) < 8 = rw length-drop (omega arith) in
    by-test (eqb (length (drop 20 m)) 0)
    (λ t. ap (λ (w : Walk). starts_with session_id w.avps) (walk_end request_code request-four (drop 20 m) (eqb-true (length (drop 20 m)) 0 t)))
    (λ t.
    let p : 0 < length (drop 20 m) = above_zero (length (drop 20 m)) (eqb-false (length (drop 20 m)) 0 t) in
    let f : 0 < avp_code (drop 20 m) = omega (arith, code-few (drop 20 m) k) in
    ap (λ (w : Walk). starts_with session_id w.avps) (walk-bad request_code request-four (drop 20 m) p (omega (arith, request-bad (drop 20 m) f))))

pub starts-one : (m : List ℕ) (n : Name) → 28 ≤ length m → walk_code m ≡ 0 → starts_with n (avps m) ≡ same_name n (avp_of (drop 20 m)).name
unfolding starts_with avps walk_code behind
starts-one m n h w =
    by-test (eqb (request_code (drop 20 m)) 0)
    (λ t. ap (λ (w : Walk). starts_with n w.avps) (walk-one request_code request-four (drop 20 m) (eqb-true (request_code (drop 20 m)) 0 t)))
    (λ t.
    let p : 0 < request_code (drop 20 m) = above_zero (request_code (drop 20 m)) (eqb-false (request_code (drop 20 m)) 0 t) in
    let k : 0 < length (drop 20 m) = rw length-drop (omega arith) in
    let e : request_code (drop 20 m) ≡ 0 = sym (ap (λ (x : Walk). x.code) (walk-bad request_code request-four (drop 20 m) k p)) ∙ w in
    absurd (omega arith))

-- PROXY-INFO

often-there : (m : List ℕ) (v : ℕ) (xs : List Avp) → slot_says m v ≡ how_often xs → not (eqb v 0) ≡ not (eqb (length xs) 0)
unfolding slot_says how_often pick
often-there m v [] e =
    by-test (eqb v 0)
    (λ t. rw t)
    (λ t. by-test (eqb v 1) (λ u. let f = rw (t, u) at e in let z : ◌≡◌ {A = ℕ} 0 1 = cc in absurd (omega arith)) (λ u. let f = rw (t, u) at e in let z : ◌≡◌ {A = ℕ} 0 1 = cc in absurd (omega arith)))
often-there m v (a ∷ []) e =
    by-test (eqb v 0) (λ t. let f = rw t at e in let z : ◌≡◌ {A = ℕ} 0 1 = cc in absurd (omega arith)) (λ t. rw t)
often-there m v (a ∷ (b ∷ xs)) e =
    by-test (eqb v 0) (λ t. let f = rw t at e in let z : ◌≡◌ {A = ℕ} 0 1 = cc in absurd (omega arith)) (λ t. rw (t, ne_eqb (suc (suc (length xs))) 0 (λ z. omega arith)))

pub proxies-are : (m index : List ℕ) → Gathered m index → header_code m ≡ 0 → walk_code m ≡ 0 → not (eqb (get_or index 9 0) 0) ≡ has_proxies m
unfolding has_proxies present name_at names
proxies-are m index g h w =
    often-there m (get_or index 9 0) (having proxy_info (avps m)) (g.says 9 (omega arith))
    ∙ rw (eq-eqb (header_code m) 0 h, eq-eqb (walk_code m) 0 w)

-- A WHOLE MESSAGE

module _ (most : ℕ) where
  pub heard-header : (m : List ℕ) (f : Failure) → header_code m ≡ failure_code f → HeardOf most m (record { told = Err f; proxies = false })
  unfolding says spans every read has_proxies reading_code pick
  heard-header m f e =
      let c = first-stop (header_code m) (failure_code f) (walk_code m ∷ list_code most (command m) (avps m) ∷ []) e (failure-least f) in
      record { reading = rw c (rw (some_code f)); inside = refl; proxies = rw e (rw (some_code f)) }

  pub heard-walk : (m : List ℕ) (f : Failure) → header_code m ≡ 0 → walk_code m ≡ failure_code f → HeardOf most m (record { told = Err f; proxies = false })
  unfolding says spans every read has_proxies reading_code pick
  heard-walk m f d e =
      let c = first-go (header_code m) (walk_code m ∷ list_code most (command m) (avps m) ∷ []) d ∙ first-stop (walk_code m) (failure_code f) (list_code most (command m) (avps m) ∷ []) e (failure-least f) in
      record { reading = rw c (rw (some_code f)); inside = refl; proxies = rw e (rw (eq-eqb (header_code m) 0 d, some_code f)) }

  pub lists-read : (m : List ℕ) (t : Result UserRequest Failure) → Listed m (reading_code most m) (request_of (command m) (avps m)) t
      → (says m t ≡ read most m) × (every (is_inside m) (spans t) ≡ true)
  unfolding read verdict
  lists-read m t l = (l.reading, l.inside)

-- REQUESTS

pub inside-at : (m : List ℕ) (i : ℕ) (n : Name) (s : Span) → HoldsAt m i n s → is_inside m s ≡ true
unfolding is_inside
inside-at m i n s h = le-leb (s.at + s.len) (length m) h.inside

module _ (most : ℕ) {m : List ℕ} where
  pub told-termination : {u s l : Span} → Holds m user_name u → Holds m session_id s → Holds m wlan_apn_id l → rest_code most 275 (avps m) ≡ 0
      → Listed m (rest_code most 275 (avps m)) (request_of 275 (avps m)) (Ok (record { user = u; asked = Termination s l }))
  unfolding says asks bytes_of spans spans_in every request_of ask_of pick
  told-termination {u} {s} {l} hu hs hl e =
      listed-request m (rest_code most 275 (avps m)) (request_of 275 (avps m)) (Ok (record { user = u; asked = Termination s l })) e
      (rw (hu.value, hs.value, hl.value))
      (rw (inside_is m user_name u hu, inside_is m session_id s hs, inside_is m wlan_apn_id l hl))

  pub told-tunnel : {u s h r l : Span} {v : Bool} → Holds m user_name u → Holds m session_id s → Holds m origin_host h → Holds m origin_realm r → Holds m wlan_apn_id l
      → tunnel_code most (avps m) ≡ 0 → Listed m (tunnel_code most (avps m)) (tunnel_of v (avps m)) (Ok (record { user = u; asked = Tunnel s h r l v }))
  unfolding says asks bytes_of spans spans_in every tunnel_of
  told-tunnel {u} {s} {h} {r} {l} {v} hu hs hh hr hl e =
      listed-request m (tunnel_code most (avps m)) (tunnel_of v (avps m)) (Ok (record { user = u; asked = Tunnel s h r l v })) e
      (rw (hu.value, hs.value, hh.value, hr.value, hl.value))
      (rw (inside_is m user_name u hu, inside_is m session_id s hs, inside_is m origin_host h hh, inside_is m origin_realm r hr, inside_is m wlan_apn_id l hl))

  pub told-policy : {u s a b c : Span} → Holds m user_name u → Holds m session_id s
      → HoldsAt m 0 routing_policy a → HoldsAt m 1 routing_policy b → HoldsAt m 2 routing_policy c
      → policy_code most (avps m) ≡ 0 → Listed m (policy_code most (avps m)) (policy_of (avps m)) (Ok (record { user = u; asked = Policy s a b c }))
  unfolding says asks bytes_of spans spans_in every policy_of
  told-policy {u} {s} {a} {b} {c} hu hs ha hb hc e =
      listed-request m (policy_code most (avps m)) (policy_of (avps m)) (Ok (record { user = u; asked = Policy s a b c })) e
      (rw (hu.value, hs.value, ha.value, hb.value, hc.value))
      (rw (inside_is m user_name u hu, inside_is m session_id s hs, inside-at m 0 routing_policy a ha, inside-at m 1 routing_policy b hb, inside-at m 2 routing_policy c hc))

  -- the last two fields of a 265 are those of its type
  pub of-type-0 : {t : Result UserRequest Failure} (v : Bool)
      → rest_code most 265 (avps m) ≡ first_of (map (field_code (avps m)) (drop 5 (for265 most (avps m)))) → type_of (avps m) ≡ 0 → v ≡ present visited_network (avps m)
      → Listed m (tunnel_code most (avps m)) (tunnel_of v (avps m)) t → Listed m (rest_code most 265 (avps m)) (request_of 265 (avps m)) t
  unfolding for265 tunnel_code tunnel_of request_of ask_of pick
  of-type-0 v e z p l = rw (e, z) (rw p at l)

  pub of-type-1 : {t : Result UserRequest Failure}
      → rest_code most 265 (avps m) ≡ first_of (map (field_code (avps m)) (drop 5 (for265 most (avps m)))) → type_of (avps m) ≡ 1
      → Listed m (policy_code most (avps m)) (policy_of (avps m)) t → Listed m (rest_code most 265 (avps m)) (request_of 265 (avps m)) t
  unfolding for265 policy_code policy_of request_of ask_of pick
  of-type-1 e z l = rw (e, z) l

-- The policies: the search for the next one, and what the four that it finds say of the field.
use mathlib.Core.Path.{◌≡◌, refl, sym, ap, ◌∙◌}
use mathlib.Core.Bool.{Bool, true, false, ◌&&◌}
use mathlib.Core.List.{List, [], ◌∷◌}
use Prim.Native.Nat.{ℕ, suc, ◌+◌, ◌-◌, ◌≤◌, ◌<◌}
use native.Mathlib.Omega.{arith}
use borrow.Author.Tests.{eqb-true, eqb-false}
use lib.Dec.{eqb}
use lib.ListN.{length, get_or, drop, length-drop, drop_of_length-le}
use lib.Seq.{drop-drop, get_or-drop}
use Rattle.octets.specs.Choice.{pick, require, first_of}
use Rattle.octets.specs.Texts.{part}
use Rattle.octets.specs.Numbers.{net24, net32, up4}
use Rattle.octets.proofs.Lists.{by-test}
use Rattle.octets.proofs.Texts.{length_part}
use Rattle.message.specs.ReadingAMessage.{Name, same_name, Avp, Walk, behind, head_length, avp_length, avp_code, avp_of, request_code, avps, anything, texts_field, having, first_value, value_of, value_at, each_code, tested_as, field_code, routing_policy}
use Rattle.message.specs.declared.Span.{Span}
use Rattle.std.specs.Prelude.{Option, Some, None, Result, Ok, Err}
use Rattle.std.specs.Option.{is_some, unwrap_or}
use Rattle.message.specs.declared.Failure.{Failure}
use Rattle.message.specs.declared.Failure.TheVariants.{AvpOccursTooManyTimes, InvalidAvpLength}
use Rattle.message.specs.Failures.{failure_code}
use Rattle.message.specs.declared.Route.{Route}
use Rattle.message.specs.declared.Routes.{Routes}
use Rattle.message.specs.Positions.{names, routes_slot, name_at, head_of, how_often, slot_says, Gathered}
use Rattle.message.specs.Spans.{bytes_field, code_of, Reads, routes_from, avp_before, RouteFrom, how_many, is_fit, HoldsAt, RoutesRead}
use Rattle.message.proofs.Walks.{Passed, passes, up4-least, walk_end, walk-bad, walk-one, request-four}
use Rattle.message.proofs.Heads.{net24-drop, net32-drop, head-v, name-v, name-base}
use Rattle.message.proofs.Gathering.{next-on, having-is, having-not, having-none, ahead}
use Rattle.message.proofs.Tested.{tested-none, tested-one, tested-several, tested-each, tested-over, none-coded, passes_count}
use Rattle.message.proofs.Readers.{slot-head, reads-absent}
use Rattle.message.proofs.Listing.{above_zero}

-- THE SEARCH

-- whether an AVP is a Routing-Policy, by its bytes
module _ (m : List ℕ) (at : ℕ) where
  pub without-v : get_or m (at + 4) 0 < 128 → same_name routing_policy (avp_of (drop at m)).name ≡ false
  unfolding same_name
  without-v v = rw (name-base (drop at m) (rw get_or-drop v))

  pub with-v : 128 ≤ get_or m (at + 4) 0 → same_name routing_policy (avp_of (drop at m)).name ≡ eqb 10415 (net32 m (at + 8)) && eqb 312 (net32 m at)
  unfolding same_name
  with-v v =
      let z : at + 0 ≡ at = omega arith in
      rw (name-v (drop at m) (rw get_or-drop v), net32-drop at 8 m, net32-drop at 0 m, z)

  -- with V its header has 12 bytes
  pub room-v : at ≤ length m → avp_code (drop at m) ≡ 0 → 128 ≤ get_or m (at + 4) 0 → at + 12 ≤ length m
  room-v h e v =
      let p : Passed (drop at m) = passes (drop at m) e in
      let k : head_length (drop at m) ≡ 12 = head-v (drop at m) (rw get_or-drop v) in
      let w : up4 (avp_length (drop at m)) ≤ length m - at = rw length-drop at p.whole in
      omega (arith, p.head, k, w, up4-least (avp_length (drop at m)))

-- none is found at the message's end
pub ends-here : (m : List ℕ) (at : ℕ) → length m ≤ at → (routes_from m at ≡ []) × ((ahead m at).code ≡ 0)
unfolding routes_from
ends-here m at h =
    let e : ahead m at ≡ record { avps = []; code = 0 } = walk_end request_code request-four (drop at m) (rw length-drop (omega arith)) in
    (ap (λ (w : Walk). having routing_policy w.avps) e ∙ having-none routing_policy, ap (λ (w : Walk). w.code) e)

-- an AVP in a walk that passes, and the place behind it
module _ (m : List ℕ) (at : ℕ) (i : at < length m) (p : (ahead m at).code ≡ 0) where
  request-here : request_code (drop at m) ≡ 0
  request-here =
      by-test (eqb (request_code (drop at m)) 0)
      (λ t. eqb-true (request_code (drop at m)) 0 t)
      (λ t.
      let k : 0 < request_code (drop at m) = above_zero (request_code (drop at m)) (eqb-false (request_code (drop at m)) 0 t) in
      let e = ap (λ (w : Walk). w.code) (walk-bad request_code request-four (drop at m) (rw length-drop (omega arith)) k) in
      absurd (omega (arith, e, p, k)))

  pub code_here : avp_code (drop at m) ≡ 0
  code_here = request-four (drop at m) request-here

  pub next_here : (at + 8 ≤ at + up4 (net24 m (at + 5))) × (at + up4 (net24 m (at + 5)) ≤ length m)
  next_here = rw (net24-drop at 5 m) at (next-on m at (omega arith) code_here)

  walk_here : ahead m at ≡ behind (avp_of (drop at m)) (ahead m (at + up4 (net24 m (at + 5))))
  walk_here = walk-one request_code request-four (drop at m) request-here ∙ rw (net24-drop at 5 m, drop-drop (up4 (net24 m (at + 5))) at m)

  pub passes_on : (ahead m (at + up4 (net24 m (at + 5)))).code ≡ 0
  unfolding behind
  passes_on = sym (ap (λ (w : Walk). w.code) walk_here) ∙ p

  pub another : same_name routing_policy (avp_of (drop at m)).name ≡ false → routes_from m (at + up4 (net24 m (at + 5))) ≡ routes_from m at
  unfolding routes_from behind
  another d =
      sym
      (ap (λ (w : Walk). having routing_policy w.avps) walk_here
      ∙ having-not routing_policy (avp_of (drop at m)) (ahead m (at + up4 (net24 m (at + 5)))).avps d)

  module _ (s : same_name routing_policy (avp_of (drop at m)).name ≡ true) where
    found_here : routes_from m at ≡ avp_of (drop at m) ∷ routes_from m (at + up4 (net24 m (at + 5)))
    unfolding routes_from behind
    found_here =
        ap (λ (w : Walk). having routing_policy w.avps) walk_here
        ∙ having-is routing_policy (avp_of (drop at m)) (ahead m (at + up4 (net24 m (at + 5)))).avps s

    head-here : head_length (drop at m) ≡ 12
    unfolding name_at names head_of pick
    head-here = slot-head routes_slot (drop at m) (omega arith) s

    pub length-here : (12 ≤ net24 m (at + 5)) × (at + net24 m (at + 5) ≤ length m)
    length-here =
        let q : Passed (drop at m) = passes (drop at m) code_here in
        (omega (arith, head-here, q.head, net24-drop at 5 m), omega (arith, next_here.1, up4-least (net24 m (at + 5))))

    value-here : (avp_of (drop at m)).value ≡ part m (at + 12) (net24 m (at + 5) - 12)
    unfolding avp_of
    value-here = rw (head-here, net24-drop at 5 m, drop-drop 12 at m)

    pub route-here : (from : ℕ) → routes_from m at ≡ routes_from m from → 20 ≤ at
        → RouteFrom m from (record { span = Some (record { at = at + 12; len = net24 m (at + 5) - 12 }); next = at + up4 (net24 m (at + 5)) })
    unfolding avp_before
    route-here from e h =
        let z : at + 12 - 12 ≡ at = omega arith in
        record {
          least = omega (arith, next_here.0);
          most = next_here.1;
          passes = passes_on;
          inside = λ x t. let q : record { at = at + 12; len = net24 m (at + 5) - 12 } ≡ x = cc in rw (← q) (omega (arith, length-here.0, length-here.1));
          one = λ x t. let q : record { at = at + 12; len = net24 m (at + 5) - 12 } ≡ x = cc in rw (← q, z) (sym e ∙ found_here);
          value = λ x t. let q : record { at = at + 12; len = net24 m (at + 5) - 12 } ≡ x = cc in rw (← q, z) value-here;
          none = λ t. let z : ◌≡◌ {A = ℕ} 0 1 = cc in absurd (omega arith);
          ended = λ t. let z : ◌≡◌ {A = ℕ} 0 1 = cc in absurd (omega arith);
        }

pub route-none : (m : List ℕ) (from : ℕ) → 20 ≤ length m → routes_from m from ≡ []
    → RouteFrom m from (record { span = None; next = length m })
route-none m from h e =
    let n = ends-here m (length m) (omega arith) in
    record {
      least = h;
      most = omega arith;
      passes = n.1;
      inside = λ x t. let z : ◌≡◌ {A = ℕ} 0 1 = cc in absurd (omega arith);
      one = λ x t. let z : ◌≡◌ {A = ℕ} 0 1 = cc in absurd (omega arith);
      value = λ x t. let z : ◌≡◌ {A = ℕ} 0 1 = cc in absurd (omega arith);
      none = λ t. e;
      ended = λ t. n.0;
    }

-- ONE THAT WAS SEARCHED FOR

by-span : {A : Type 0} (o : Option Span) → ((x : Span) → o ≡ Some x → A) → (o ≡ None → A) → A
by-span (Some x) f g = f x refl
by-span None f g = g refl

-- a part that is not there has no bytes
abbrev or-none : Option Span → Span
or-none o = unwrap_or o (record { at = 0; len = 0 })

module _ (m : List ℕ) (from : ℕ) (r : Route) (h : RouteFrom m from r) where
  -- how many there are from there on
  count-there : (x : Span) → r.span ≡ Some x → length (routes_from m from) ≡ suc (length (routes_from m r.next))
  count-there x t = ap length (h.one x t)

  -- its value, and those behind it
  pub inside-first : (or-none r.span).at + (or-none r.span).len ≤ length m
  inside-first = by-span r.span (λ x t. rw t (h.inside x t)) (λ t. rw t (omega arith))

  pub value-first : part m (or-none r.span).at (or-none r.span).len ≡ first_value (routes_from m from)
  unfolding first_value
  value-first =
      by-span r.span
      (λ x t. rw t (sym (ap first_value (h.one x t) ∙ h.value x t)))
      (λ t. rw (t, h.none t))

  pub values-behind : (i : ℕ) → drop (suc i) (routes_from m from) ≡ drop i (routes_from m r.next)
  values-behind i =
      by-span r.span
      (λ x t. ap (drop (suc i)) (h.one x t))
      (λ t. ap (drop (suc i)) (h.none t) ∙ sym (drop_of_length-le (routes_from m r.next) {i = i} (rw (h.ended t) (omega arith))))

  -- the tests of a text from there on: its own, then those behind it
  codes-from : (most : ℕ) (n : Name) (b : Bool) → each_code (texts_field most n b) (routes_from m from)
      ≡ first_of (require (is_fit r.span) 5014 ∷ each_code (texts_field most n b) (routes_from m r.next) ∷ [])
  unfolding is_fit each_code texts_field anything first_of require pick
  codes-from most n b =
      by-span r.span
      (λ x t.
      let l : length (avp_before m x).value ≡ x.len = ap length (h.value x t) ∙ length_part m x.at x.len (h.inside x t) in
      rw (h.one x t, l, t))
      (λ t. rw (h.none t, h.ended t, t))

-- one behind another
there-before : (m : List ℕ) (from : ℕ) (r s : Route) → RouteFrom m from r → RouteFrom m r.next s → {A : Type 0} (y : Span) → s.span ≡ Some y
    → ((x : Span) → r.span ≡ Some x → A) → A
there-before m from r s h k y t f =
    by-span r.span f (λ u. let e = ap length (sym (h.ended u) ∙ k.one y t) in absurd (omega arith))

-- THE FIELD

-- the policies of the message are those from its first AVP on
all_from : (m : List ℕ) → having routing_policy (avps m) ≡ routes_from m 20
unfolding routes_from avps
all_from m = refl

no-routes : (most : ℕ) (m : List ℕ) → having routing_policy (avps m) ≡ [] → RoutesRead most m (Ok None)
unfolding field_code texts_field code_of
no-routes most m e =
    record {
      code = λ b. ap (tested_as (texts_field most routing_policy b)) e ∙ tested-none (texts_field most routing_policy b);
      first = λ r w. let z : ◌≡◌ {A = ℕ} 0 1 = cc in absurd (omega arith);
      second = λ r w. let z : ◌≡◌ {A = ℕ} 0 1 = cc in absurd (omega arith);
      third = λ r w. let z : ◌≡◌ {A = ℕ} 0 1 = cc in absurd (omega arith);
    }

-- where the reader gives a failure, nothing is claimed of a value
wrong-routes : (most : ℕ) (m : List ℕ) (f : Failure) → ((b : Bool) → field_code (avps m) (texts_field most routing_policy b) ≡ failure_code f) → RoutesRead most m (Err f)
unfolding code_of
wrong-routes most m f e =
    record {
      code = e;
      first = λ r w. let z : ◌≡◌ {A = ℕ} 0 1 = cc in absurd (omega arith);
      second = λ r w. let z : ◌≡◌ {A = ℕ} 0 1 = cc in absurd (omega arith);
      third = λ r w. let z : ◌≡◌ {A = ℕ} 0 1 = cc in absurd (omega arith);
    }

brought-routes : (most : ℕ) (m : List ℕ) (r : Routes) → ((b : Bool) → field_code (avps m) (texts_field most routing_policy b) ≡ 0)
    → HoldsAt m 0 routing_policy r.first → HoldsAt m 1 routing_policy r.second → HoldsAt m 2 routing_policy r.third → RoutesRead most m (Ok (Some r))
unfolding code_of
brought-routes most m r e hx hy hz =
    record {
      code = e;
      first = λ p w. let q : r ≡ p = cc in rw (← q) hx;
      second = λ p w. let q : r ≡ p = cc in rw (← q) hy;
      third = λ p w. let q : r ≡ p = cc in rw (← q) hz;
    }

three-fit : (x y z : Bool) → first_of (require x 5014 ∷ first_of (require y 5014 ∷ first_of (require z 5014 ∷ 0 ∷ []) ∷ []) ∷ []) ≡ require (x && (y && z)) 5014
unfolding first_of require pick
three-fit true true true = refl
three-fit true true false = refl
three-fit true false z = refl
three-fit false y z = refl

-- The four that were searched for, one behind another.
module _ (most : ℕ) (m : List ℕ) (a b c d : Route) (ha : RouteFrom m 20 a) (hb : RouteFrom m a.next b) (hc : RouteFrom m b.next c)
    (hd : RouteFrom m c.next d) where
  pub routes-none : a.span ≡ None → RoutesRead most m (Ok None)
  routes-none t = no-routes most m (all_from m ∙ ha.none t)

  module _ (x : Span) (t : a.span ≡ Some x) (l : most ≤ 3) where
    -- how many there are: a fourth is one too many whatever follows it
    four : (y : Span) → d.span ≡ Some y → 4 ≤ length (routes_from m 20)
    four y td =
        there-before m b.next c d hc hd y td
        (λ z tc.
        there-before m a.next b c hb hc z tc
        (λ w tb.
        omega (arith, count-there m 20 a ha x t, count-there m a.next b hb w tb, count-there m b.next c hc z tc, count-there m c.next d hd y td)))

    up-to-three : d.span ≡ None → length (routes_from m 20) ≡ how_many (is_some b.span) (is_some c.span) (is_some d.span)
    unfolding how_many pick
    up-to-three td =
        let zd : length (routes_from m c.next) ≡ 0 = ap length (hd.none td) in
        by-span c.span
        (λ z tc.
        there-before m a.next b c hb hc z tc
        (λ w tb. rw (td, tc) (omega (arith, count-there m 20 a ha x t, count-there m a.next b hb w tb, count-there m b.next c hc z tc, zd))))
        (λ tc.
        let zc : length (routes_from m b.next) ≡ 0 = ap length (hc.none tc) in
        by-span b.span
        (λ w tb. rw (td, tc, tb) (omega (arith, count-there m 20 a ha x t, count-there m a.next b hb w tb, zc)))
        (λ tb.
        let zb : length (routes_from m a.next) ≡ 0 = ap length (hb.none tb) in
        rw (td, tc, tb) (omega (arith, count-there m 20 a ha x t, zb))))

    is-four : (y : Span) → d.span ≡ Some y → how_many (is_some b.span) (is_some c.span) (is_some d.span) ≡ 4
    unfolding how_many pick
    is-four y td = rw td

    counted-over : most < how_many (is_some b.span) (is_some c.span) (is_some d.span) → most < length (routes_from m 20)
    counted-over o =
        by-span d.span
        (λ y td. omega (arith, four y td, l))
        (λ td. omega (arith, up-to-three td, o))

    none_over : how_many (is_some b.span) (is_some c.span) (is_some d.span) ≤ most → d.span ≡ None
    none_over o = by-span d.span (λ y td. absurd (omega (arith, is-four y td, o, l))) (λ td. td)

    counted-in : how_many (is_some b.span) (is_some c.span) (is_some d.span) ≤ most → length (routes_from m 20) ≤ most
    counted-in o = omega (arith, up-to-three (none_over o), o)

    pub routes-over : most < how_many (is_some b.span) (is_some c.span) (is_some d.span) → RoutesRead most m (Err AvpOccursTooManyTimes)
    unfolding field_code texts_field failure_code
    routes-over o =
        let e = all_from m ∙ ha.one x t in
        wrong-routes most m AvpOccursTooManyTimes
        (λ q.
        let f = texts_field most routing_policy q in
        ap (tested_as f) e ∙ tested-over f (avp_before m x) (routes_from m a.next) (omega (arith, counted-over o, count-there m 20 a ha x t)))

    module _ (o : how_many (is_some b.span) (is_some c.span) (is_some d.span) ≤ most) where
      -- the code of the field by the lengths of the three
      code_by : (q : Bool) → field_code (avps m) (texts_field most routing_policy q) ≡ require (is_fit a.span && (is_fit b.span && is_fit c.span)) 5014
      unfolding field_code texts_field
      code_by q =
          let f = texts_field most routing_policy q in
          let e = all_from m ∙ ha.one x t in
          let kd : each_code f (routes_from m c.next) ≡ 0 = ap (each_code f) (hd.none (none_over o)) ∙ none-coded f in
          let kc = codes-from m b.next c hc most routing_policy q ∙ ap (λ (n : ℕ). first_of (require (is_fit c.span) 5014 ∷ n ∷ [])) kd in
          let kb = codes-from m a.next b hb most routing_policy q ∙ ap (λ (n : ℕ). first_of (require (is_fit b.span) 5014 ∷ n ∷ [])) kc in
          let ka = codes-from m 20 a ha most routing_policy q ∙ ap (λ (n : ℕ). first_of (require (is_fit a.span) 5014 ∷ n ∷ [])) kb in
          ap (tested_as f) e
          ∙ tested-each f (avp_before m x) (routes_from m a.next) (omega (arith, counted-in o, count-there m 20 a ha x t))
          ∙ ap (each_code f) (sym (ha.one x t))
          ∙ ka
          ∙ three-fit (is_fit a.span) (is_fit b.span) (is_fit c.span)

      pub routes-unfit : is_fit a.span && (is_fit b.span && is_fit c.span) ≡ false → RoutesRead most m (Err InvalidAvpLength)
      unfolding require failure_code
      routes-unfit w = wrong-routes most m InvalidAvpLength (λ q. code_by q ∙ rw w)

      pub routes-brought : is_fit a.span && (is_fit b.span && is_fit c.span) ≡ true
          → RoutesRead most m (Ok (Some (record { first = x; second = unwrap_or b.span (record { at = 0; len = 0 }); third = unwrap_or c.span (record { at = 0; len = 0 }) })))
      unfolding require value_at first_value
      routes-brought w =
          brought-routes most m (record { first = x; second = or-none b.span; third = or-none c.span }) (λ q. code_by q ∙ rw w)
          (record { inside = ha.inside x t; value = sym (ap first_value (ha.one x t) ∙ ha.value x t) ∙ ap first_value (sym (all_from m)) })
          (record { inside = inside-first m a.next b hb; value = value-first m a.next b hb ∙ ap first_value (sym (ap (drop 1) (all_from m) ∙ values-behind m 20 a ha 0)) })
          (record {
            inside = inside-first m b.next c hc;
            value = value-first m b.next c hc ∙ ap first_value (sym (ap (drop 2) (all_from m) ∙ values-behind m 20 a ha 1 ∙ values-behind m a.next b hb 0));
          })

-- ONE AT MOST

-- where there are two or more only where one is allowed, one may as well be allowed everywhere
one-allowed : (most : ℕ) (n : Name) (b : Bool) (xs : List Avp) → 1 ≤ most → (2 ≤ length xs → most ≡ 1)
    → tested_as (texts_field most n b) xs ≡ tested_as (bytes_field n b 1 128) xs
unfolding texts_field bytes_field
one-allowed most n b [] h o = tested-none (texts_field most n b) ∙ sym (tested-none (bytes_field n b 1 128))
one-allowed most n b (a ∷ []) h o = tested-one (texts_field most n b) a h ∙ sym (tested-one (bytes_field n b 1 128) a (omega arith))
one-allowed most n b (a ∷ (d ∷ xs)) h o =
    tested-several (texts_field most n b) a d xs (o (omega arith)) ∙ sym (tested-several (bytes_field n b 1 128) a d xs refl)

-- a slot that does not say "more than once"
not-several : (m : List ℕ) (v : ℕ) (xs : List Avp) → slot_says m v ≡ how_often xs → (v ≡ 1 → ⊥) → length xs ≤ 1
unfolding slot_says how_often pick
not-several m v [] e h = omega arith
not-several m v (a ∷ []) e h = omega arith
not-several m v (a ∷ (b ∷ xs)) e h =
    by-test (eqb v 0)
    (λ t. let f = rw t at e in let z : ◌≡◌ {A = ℕ} 0 1 = cc in absurd (omega arith))
    (λ t. by-test (eqb v 1) (λ u. absurd (h (eqb-true v 1 u))) (λ u. let f = rw (t, u) at e in let z : ◌≡◌ {A = ℕ} 0 1 = cc in absurd (omega arith)))

module _ (m index : List ℕ) (k : Gathered m index) (most : ℕ) (h : 1 ≤ most) (o : get_or index routes_slot 0 ≡ 1 → most ≡ 1) where
  as_one : (b : Bool) → field_code (avps m) (texts_field most routing_policy b) ≡ field_code (avps m) (bytes_field routing_policy b 1 128)
  unfolding field_code texts_field bytes_field name_at names
  as_one b =
      let xs = having routing_policy (avps m) in
      one-allowed most routing_policy b xs h
      (λ l.
      by-test (eqb (get_or index routes_slot 0) 1)
      (λ t. o (eqb-true (get_or index routes_slot 0) 1 t))
      (λ t. let n = not-several m (get_or index routes_slot 0) xs (k.says routes_slot (omega arith)) (eqb-false (get_or index routes_slot 0) 1 t) in absurd (omega arith)))

  module _ (g : Result (Option Span) Failure) (r : (b : Bool) → Reads m (bytes_field routing_policy b 1 128) g) where
    pub one_found : (s : Span) → g ≡ Ok (Some s)
        → RoutesRead most m (Ok (Some (record { first = s; second = record { at = 0; len = 0 }; third = record { at = 0; len = 0 } })))
    unfolding bytes_field code_of value_of value_at first_value field_code
    one_found s e =
        let z : field_code (avps m) (bytes_field routing_policy true 1 128) ≡ 0 = (r true).code ∙ ap (code_of true) e in
        let l : length (having routing_policy (avps m)) ≤ 1 = passes_count (bytes_field routing_policy true 1 128) (having routing_policy (avps m)) z in
        let f = (r true).found s e in
        brought-routes most m (record { first = s; second = record { at = 0; len = 0 }; third = record { at = 0; len = 0 } })
        (λ b. as_one b ∙ (r b).code ∙ ap (code_of b) e)
        (record { inside = f.inside; value = f.value })
        (record { inside = omega arith; value = sym (ap first_value (drop_of_length-le (having routing_policy (avps m)) {i = 1} (omega arith))) })
        (record { inside = omega arith; value = sym (ap first_value (drop_of_length-le (having routing_policy (avps m)) {i = 2} (omega arith))) })

    pub one-absent : g ≡ Ok None → RoutesRead most m (Ok None)
    unfolding bytes_field code_of
    one-absent e =
        record {
          code = λ b. as_one b ∙ (r b).code ∙ ap (code_of b) e;
          first = λ p w. let z : ◌≡◌ {A = ℕ} 0 1 = cc in absurd (omega arith);
          second = λ p w. let z : ◌≡◌ {A = ℕ} 0 1 = cc in absurd (omega arith);
          third = λ p w. let z : ◌≡◌ {A = ℕ} 0 1 = cc in absurd (omega arith);
        }

    pub one-wrong : (f : Failure) → g ≡ Err f → RoutesRead most m (Err f)
    unfolding bytes_field code_of
    one-wrong f e = wrong-routes most m f (λ b. as_one b ∙ (r b).code ∙ ap (code_of b) e)

-- a slot that says "not at all"
pub slot-empty : (m index : List ℕ) (most : ℕ) → Gathered m index → 1 ≤ most → get_or index routes_slot 0 ≡ 0 → RoutesRead most m (Ok None)
unfolding name_at names
slot-empty m index most k h z =
    one-absent m index k most h (λ o. absurd (omega arith)) (Ok None) (λ b. reads-absent m index routes_slot (omega arith) k b 1 128 z) refl

-- The Proxy-Infos of a message whose walk passed, copied in stretches: what is in the room, with the stretch that is open and
-- the Proxy-Infos ahead, is what all of them make of it.
use mathlib.Core.Path.{◌≡◌, refl, sym, ap, ◌∙◌}
use mathlib.Core.Bool.{Bool, true, false, ◌&&◌, not}
use mathlib.Core.List.{List, [], ◌∷◌, ◌++◌, append_assoc, append-nil}
use Prim.Native.Nat.{ℕ, zero, suc, ◌+◌, ◌-◌, ◌≤◌, ◌<◌}
use native.Mathlib.Omega.{arith}
use borrow.Author.Tests.{eqb-true, eqb-false, eq-eqb, ne_eqb}
use lib.Dec.{eqb}
use lib.ListN.{length, get_or, take, drop, length-append, length-drop}
use lib.Seq.{drop-drop, get_or-drop, take-add}
use Rattle.octets.specs.Choice.{pick}
use Rattle.octets.specs.Lists.{keep}
use Rattle.octets.specs.Texts.{part, put}
use Rattle.octets.specs.Numbers.{net24, net32, up4}
use Rattle.octets.proofs.Lists.{by-test, and_left, and_right, eqb_comm}
use Rattle.octets.proofs.Texts.{length_part, length-put, put_then}
use Rattle.message.specs.ReadingAMessage.{header_code, same_name, Avp, Walk, behind, avp_length, avp_code, avp_of, request_code, avps, walk_code, having, present, proxy_info}
use Rattle.message.specs.WritingTheAnswer.{all_bytes, proxy_avps}
use Rattle.message.specs.Spans.{has_proxies}
use Rattle.answers.specs.Answers.{copied, Written}
use Rattle.message.proofs.Heads.{net24-drop, net32-drop, name-v, name-base}
use Rattle.message.proofs.Walks.{walk_end, walk-bad, walk-one, request-four}
use Rattle.message.proofs.Gathering.{next-on, having-is, having-not, ahead}

-- ONE AVP

pub proxy-v : (m : List ℕ) (at : ℕ) → 128 ≤ get_or m (at + 4) 0 → same_name proxy_info (avp_of (drop at m)).name ≡ false
unfolding same_name
proxy-v m at h = rw (name-v (drop at m) (rw get_or-drop h))

pub proxy-base : (m : List ℕ) (at : ℕ) → get_or m (at + 4) 0 < 128 → same_name proxy_info (avp_of (drop at m)).name ≡ eqb (net32 m at) 284
unfolding same_name
proxy-base m at h =
    let z : at + 0 ≡ at = omega arith in
    rw (name-base (drop at m) (rw get_or-drop h), net32-drop at 0 m, z) (eqb_comm 284 (net32 m at))

-- THOSE AHEAD

-- the Proxy-Infos ahead
unfoldable pub proxies_from : List ℕ → ℕ → List ℕ
proxies_from m from = all_bytes (having proxy_info (ahead m from).avps)

bytes-none : (xs : List Avp) → false ≡ not (eqb (length xs) 0) → all_bytes xs ≡ []
unfolding all_bytes
bytes-none [] f = refl
bytes-none (x ∷ xs) f =
    let g = rw (ne_eqb (suc (length xs)) 0 (λ z. omega arith)) at f in
    let z : ◌≡◌ {A = ℕ} 0 1 = cc in
    absurd (omega arith)

-- what is copied, where it is told whether there is one to copy, whatever the code h of the header's tests
module _ (h : ℕ) (m : List ℕ) (p : Bool) (e : p ≡ eqb h 0 && (eqb (walk_code m) 0 && present proxy_info (avps m))) where
  pub copied-walked : p ≡ true → walk_code m ≡ 0
  copied-walked t =
      let r = and_right (eqb h 0) (eqb (walk_code m) 0 && present proxy_info (avps m)) (sym e ∙ t) in
      eqb-true (walk_code m) 0 (and_left (eqb (walk_code m) 0) (present proxy_info (avps m)) r)

  pub copied_is : copied p m ≡ pick (eqb h 0 && eqb (walk_code m) 0) (all_bytes (having proxy_info (avps m))) []
  unfolding copied pick present
  copied_is =
      by-test p
      (λ t.
      let a = and_left (eqb h 0) (eqb (walk_code m) 0 && present proxy_info (avps m)) (sym e ∙ t) in
      rw (t, a, eq-eqb (walk_code m) 0 (copied-walked t)))
      (λ t.
      by-test (eqb h 0 && eqb (walk_code m) 0)
      (λ u.
      let a = and_left (eqb h 0) (eqb (walk_code m) 0) u in
      let w = and_right (eqb h 0) (eqb (walk_code m) 0) u in
      let f = rw (a, w) at (sym t ∙ e) in
      rw (t, u) (sym (bytes-none (having proxy_info (avps m)) f)))
      (λ u. rw (t, u)))

-- so the server's answer
pub copied-told : (m : List ℕ) (p : Bool) → p ≡ has_proxies m → copied p m ≡ proxy_avps m
unfolding has_proxies proxy_avps
copied-told m p e = copied_is (header_code m) m p e

pub proxies-walked : (m : List ℕ) (p : Bool) → p ≡ has_proxies m → p ≡ true → walk_code m ≡ 0
unfolding has_proxies
proxies-walked m p e t = copied-walked (header_code m) m p e t

pub copied-not : (m : List ℕ) (p : Bool) → p ≡ false → copied p m ≡ []
unfolding copied pick
copied-not m p e = rw e

pub copied-start : (m : List ℕ) (p : Bool) → p ≡ true → copied p m ≡ proxies_from m 20
unfolding copied pick proxies_from avps
copied-start m p e = rw e

pub proxies-end : (m : List ℕ) (from : ℕ) → length m ≤ from → proxies_from m from ≡ []
unfolding proxies_from having keep all_bytes
proxies-end m from h = rw (walk_end request_code request-four (drop from m) (rw length-drop (omega arith)))

passed_start : (m : List ℕ) → walk_code m ≡ 0 → (ahead m 20).code ≡ 0
unfolding walk_code
passed_start m e = e

some : (n : ℕ) → (n ≡ 0 → ⊥) → 0 < n
some zero h = absurd (h refl)
some (suc n) h = omega arith

module _ (m : List ℕ) (from : ℕ) (h : from < length m) (c : (ahead m from).code ≡ 0) where
  passes-all : request_code (drop from m) ≡ 0
  passes-all =
      by-test (eqb (request_code (drop from m)) 0)
      (λ t. eqb-true (request_code (drop from m)) 0 t)
      (λ t.
      let n = eqb-false (request_code (drop from m)) 0 t in
      let w = walk-bad request_code request-four (drop from m) (rw length-drop (omega arith)) (some (request_code (drop from m)) n) in
      sym (ap (λ (x : Walk). x.code) w) ∙ c)

  pub passes-here : avp_code (drop from m) ≡ 0
  passes-here = request-four (drop from m) passes-all

  pub next-in : (from + 8 ≤ from + up4 (net24 m (from + 5))) × (from + up4 (net24 m (from + 5)) ≤ length m)
  next-in = rw (net24-drop from 5 m) at (next-on m from (omega arith) passes-here)

  ahead-is : ahead m from ≡ behind (avp_of (drop from m)) (ahead m (from + up4 (net24 m (from + 5))))
  ahead-is = walk-one request_code request-four (drop from m) passes-all ∙ rw (drop-drop (up4 (avp_length (drop from m))) from m, net24-drop from 5 m)

  pub passed_on : (ahead m (from + up4 (net24 m (from + 5)))).code ≡ 0
  unfolding behind
  passed_on = sym (ap (λ (x : Walk). x.code) ahead-is) ∙ c

  pub avps-are : (ahead m from).avps ≡ avp_of (drop from m) ∷ (ahead m (from + up4 (net24 m (from + 5)))).avps
  unfolding behind
  avps-are = ap (λ (x : Walk). x.avps) ahead-is

  proxies-other : same_name proxy_info (avp_of (drop from m)).name ≡ false → proxies_from m from ≡ proxies_from m (from + up4 (net24 m (from + 5)))
  unfolding proxies_from
  proxies-other n =
      ap all_bytes (ap (having proxy_info) avps-are ∙ having-not proxy_info (avp_of (drop from m)) (ahead m (from + up4 (net24 m (from + 5)))).avps n)

  proxies-one : same_name proxy_info (avp_of (drop from m)).name ≡ true
      → proxies_from m from ≡ part m from (up4 (net24 m (from + 5))) ++ proxies_from m (from + up4 (net24 m (from + 5)))
  unfolding proxies_from all_bytes avp_of
  proxies-one n =
      ap all_bytes (ap (having proxy_info) avps-are ∙ having-is proxy_info (avp_of (drop from m)) (ahead m (from + up4 (net24 m (from + 5)))).avps n)
      ∙ rw (net24-drop from 5 m)

-- STRETCHES

pub record Copied (m before : List ℕ) (at : ℕ) (room : List ℕ) (to start from : ℕ) : Type 0 where
  pub open_is : start ≤ from
  pub inside : from ≤ length m
  pub same : length room ≡ length before
  pub fits : to + (length m - start) ≤ length before
  pub passed : (ahead m from).code ≡ 0
  pub end : to + (from - start + length (proxies_from m from)) ≡ at + length (proxies_from m 20)
  pub all : put room to (part m start (from - start) ++ proxies_from m from) ≡ put before at (proxies_from m 20)

pub copied_none : (m room : List ℕ) (at : ℕ) → walk_code m ≡ 0 → 20 ≤ length m → at + length m ≤ length room → Copied m room at room at 20 20
copied_none m room at e h f =
    record {
      open_is = omega arith;
      inside = h;
      same = refl;
      fits = omega arith;
      passed = passed_start m e;
      end = omega arith;
      all = refl;
    }

module _ (m before room : List ℕ) (at to start from : ℕ) (w : Copied m before at room to start from) where
  stretch : List ℕ
  stretch = part m start (from - start)

  stretch-length : length stretch ≡ from - start
  unfolding stretch
  stretch-length = length_part m start (from - start) (omega (arith, w.open_is, w.inside))

  pub stretch-fits : to + (from - start) ≤ length room
  stretch-fits = omega (arith, w.fits, w.same, w.open_is, w.inside)

  pub copied_all : (after : List ℕ) (r : ℕ) → length m ≤ from → Written room after to r (part m start (from - start)) → Written before after at r (proxies_from m 20)
  unfolding stretch
  copied_all after r h v =
      let e = proxies-end m from h in
      let n : length (proxies_from m from) ≡ 0 = rw e in
      let k : length (part m start (from - start)) ≡ from - start = stretch-length in
      let b : put room to (part m start (from - start) ++ []) ≡ put before at (proxies_from m 20) = rw e at w.all in
      record {
        place = omega (arith, v.place, w.end, n, k);
        bytes-put = v.bytes-put ∙ ap (put room to) (sym (append-nil (part m start (from - start)))) ∙ b;
      }

  module _ (h : from < length m) where
    pub copied-over : (after : List ℕ) (r : ℕ) → same_name proxy_info (avp_of (drop from m)).name ≡ false → Written room after to r (part m start (from - start))
        → Copied m before at after r (from + up4 (net24 m (from + 5))) (from + up4 (net24 m (from + 5)))
    unfolding stretch
    copied-over after r f v =
        let n = next-in m from h w.passed in
        let q : ℕ = from + up4 (net24 m (from + 5)) in
        let e = proxies-other m from h w.passed f in
        let k : length (part m start (from - start)) ≡ from - start = stretch-length in
        let l : to + length (part m start (from - start)) ≤ length room = omega (arith, stretch-fits, k) in
        let z : q - q ≡ 0 = omega arith in
        let b : put room to (part m start (from - start) ++ proxies_from m q) ≡ put before at (proxies_from m 20) = rw e at w.all in
        record {
          open_is = omega arith;
          inside = n.1;
          same = ap length v.bytes-put ∙ length-put room to (part m start (from - start)) l ∙ w.same;
          fits = omega (arith, w.fits, n.0, n.1, v.place, k, w.open_is);
          passed = passed_on m from h w.passed;
          end = omega (arith, w.end, ap length e, v.place, k);
          all = rw (z, v.bytes-put) (put_then room to (part m start (from - start)) (proxies_from m q) r v.place l) ∙ b;
        }

    pub copied-one : same_name proxy_info (avp_of (drop from m)).name ≡ true → Copied m before at room to start (from + up4 (net24 m (from + 5)))
    copied-one t =
        let n = next-in m from h w.passed in
        let u : ℕ = up4 (net24 m (from + 5)) in
        let e = proxies-one m from h w.passed t in
        let x : from + u - start ≡ from - start + u = omega (arith, w.open_is) in
        let y : start + (from - start) ≡ from = omega (arith, w.open_is) in
        let j : part m start (from + u - start) ≡ part m start (from - start) ++ part m from u =
        ap (λ (i : ℕ). take i (drop start m)) x
        ∙ take-add (from - start) u (drop start m)
        ∙ ap (λ (z : List ℕ). part m start (from - start) ++ take u z) (drop-drop (from - start) start m ∙ ap (λ (i : ℕ). drop i m) y) in
        let g : length (part m from u) ≡ u = length_part m from u n.1 in
        let b : put room to (part m start (from - start) ++ (part m from u ++ proxies_from m (from + u))) ≡ put before at (proxies_from m 20) = rw e at w.all in
        record {
          open_is = omega (arith, w.open_is);
          inside = n.1;
          same = w.same;
          fits = w.fits;
          passed = passed_on m from h w.passed;
          end = omega (arith, w.end, ap length e, length-append (part m from u) (proxies_from m (from + u)), g, x);
          all = rw (j, append_assoc (part m start (from - start)) (part m from u) (proxies_from m (from + u))) b;
        }

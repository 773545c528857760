-- What a request that was read promises of its texts: Session-Id, host, realm, first policy and user have 1 to 128 bytes, a label 1 to
-- 100; a second and a third policy have at most 128, and there is no third without a second.
use mathlib.Core.Path.{◌≡◌, refl, sym, ap, ◌∙◌}
use mathlib.Core.Bool.{Bool, true, false}
use mathlib.Core.List.{List, [], ◌∷◌, map}
use Prim.Native.Nat.{ℕ, zero, suc, ◌≤◌}
use native.Mathlib.Omega.{arith}
use borrow.Author.Tests.{eqb-true, eqb-false, eq-eqb}
use lib.Dec.{eqb}
use lib.ListN.{length, drop, drop_of_length-le}
use Rattle.octets.specs.Choice.{pick, require, first_of, within}
use Rattle.octets.specs.Numbers.{net32}
use Rattle.octets.specs.Lists.{every}
use Rattle.octets.proofs.Lists.{by-test, and_left, and_right, within_low, within-high}
use Rattle.octets.proofs.Choice.{first_passes, others-pass}
use Rattle.message.specs.ReadingAMessage.{command, header_code, walk_code, Avp, Field, Name, avps, having, first_value, value_of, value_at, tested_as, field_code, text_field, label_field, number_field, texts_field, starts_with, for_both, for265, for275, list_code, reading_code, session_id, auth_application_id, origin_host, origin_realm, auth_request_type, destination_host, user_name, termination_cause, visited_network, session_request_type, wlan_apn_id, routing_policy, type_of, tunnel, policy, termination, Request, ask_of, request_of, request, read}
use Rattle.message.specs.Spans.{both_code, rest_code}
use Rattle.message.proofs.Tested.{fits_in, passes_count, passes-each, passes-there, each_fits}
use Rattle.message.proofs.Listing.{list-split, tested-in, other-command}

-- values that all have a length of the field: the first, each of them or none, and each before one that is there
first_fits : (f : Field) (xs : List Avp) → 1 ≤ length xs → every (fits_in f) xs ≡ true → within f.low f.high (length (first_value xs)) ≡ true
unfolding first_value every fits_in
first_fits f [] h e = absurd (omega arith)
first_fits f (a ∷ xs) h e = and_left (within f.low f.high (length a.value)) _ e

fits-at : (f : Field) (i : ℕ) (xs : List Avp) → every (fits_in f) xs ≡ true → length (first_value (drop i xs)) ≤ f.high
unfolding first_value every fits_in
fits-at f zero [] e = omega arith
fits-at f zero (a ∷ xs) e = within-high f.low f.high (length a.value) (and_left (within f.low f.high (length a.value)) _ e)
fits-at f (suc i) [] e = omega arith
fits-at f (suc i) (a ∷ xs) e = fits-at f i xs (and_right (within f.low f.high (length a.value)) _ e)

fits-before : (f : Field) (i : ℕ) (xs : List Avp) → every (fits_in f) xs ≡ true → 1 ≤ length (first_value (drop (suc i) xs))
    → f.low ≤ length (first_value (drop i xs))
unfolding first_value every fits_in
fits-before f zero [] e h = absurd (omega arith)
fits-before f zero (a ∷ xs) e h = within_low f.low f.high (length a.value) (and_left (within f.low f.high (length a.value)) _ e)
fits-before f (suc i) [] e h = absurd (omega arith)
fits-before f (suc i) (a ∷ xs) e h = fits-before f i xs (and_right (within f.low f.high (length a.value)) _ e) h

-- a field that must be there and passes has a value of its length
tested-length : (f : Field) (xs : List Avp) → f.required ≡ true → tested_as f xs ≡ 0 → within f.low f.high (length (first_value xs)) ≡ true
tested-length f xs r e = first_fits f xs (passes-there f xs r e) (each_fits f xs (passes-each f xs e))

field-length : (f : Field) (xs : List Avp) → f.required ≡ true → field_code xs f ≡ 0 → within f.low f.high (length (value_of f.name xs)) ≡ true
unfolding field_code value_of
field-length f xs r e = tested-length f (having f.name xs) r e

text-length : (n : Name) (b : Bool) (xs : List Avp) → b ≡ true → field_code xs (text_field n b) ≡ 0 → within 1 128 (length (value_of n xs)) ≡ true
unfolding text_field
text-length n b xs r e = field-length (text_field n b) xs r e

label-length : (n : Name) (b : Bool) (xs : List Avp) → b ≡ true → field_code xs (label_field n b) ≡ 0 → within 1 100 (length (value_of n xs)) ≡ true
unfolding label_field
label-length n b xs r e = field-length (label_field n b) xs r e

-- texts that may be there several times
module _ (most : ℕ) (n : Name) (b : Bool) (xs : List Avp) (e : field_code xs (texts_field most n b) ≡ 0) where
  texts-fit : every (fits_in (texts_field most n b)) (having n xs) ≡ true
  unfolding field_code texts_field
  texts-fit = each_fits (texts_field most n b) (having n xs) (passes-each (texts_field most n b) (having n xs) e)

  texts-first : b ≡ true → within 1 128 (length (value_at 0 n xs)) ≡ true
  unfolding field_code texts_field value_at
  texts-first r = first_fits (texts_field most n b) (having n xs) (passes-there (texts_field most n b) (having n xs) r e) texts-fit

  texts-at : (i : ℕ) → length (value_at i n xs) ≤ 128
  unfolding texts_field value_at
  texts-at i = fits-at (texts_field most n b) i (having n xs) texts-fit

  texts-before : (i : ℕ) → 1 ≤ length (value_at (suc i) n xs) → 1 ≤ length (value_at i n xs)
  unfolding texts_field value_at
  texts-before i h = fits-before (texts_field most n b) i (having n xs) texts-fit h

  texts-over : (i : ℕ) → most ≤ i → value_at i n xs ≡ []
  unfolding field_code texts_field value_at first_value
  texts-over i h =
      let k : length (having n xs) ≤ most = passes_count (texts_field most n b) (having n xs) e in
      ap first_value (drop_of_length-le (having n xs) {i = i} (omega arith))

number-range : (n : Name) (low high : ℕ) (xs : List Avp) → field_code xs (number_field n low high) ≡ 0 → within low high (net32 (value_of n xs) 0) ≡ true
unfolding field_code value_of number_field
number-range n low high xs e = tested-in n low high (having n xs) e

both_zero : (a b : ℕ) → pick (eqb a 0) b a ≡ 0 → (a ≡ 0) × (b ≡ 0)
unfolding pick
both_zero a b e =
    by-test (eqb a 0)
    (λ t. (eqb-true a 0 t, rw t at e))
    (λ t. absurd (eqb-false a 0 t (rw t at e)))

-- all that passed where a message is read as a request
pub record Passing (most : ℕ) (m : List ℕ) (q : Request) : Type 0 where
  pub header : header_code m ≡ 0
  pub both : both_code (avps m) ≡ 0
  pub rest : rest_code most (command m) (avps m) ≡ 0
  pub asked : q ≡ request_of (command m) (avps m)

pub passing : (most : ℕ) (m : List ℕ) (q : Request) → read most m ≡ request q → Passing most m q
unfolding read pick reading_code
passing most m q e =
    by-test (eqb (reading_code most m) 0)
    (λ t.
    let f = rw t at e in
    let z = eqb-true (reading_code most m) 0 t in
    let h = others-pass (header_code m) _ z in
    let l : list_code most (command m) (avps m) ≡ 0 = first_passes (list_code most (command m) (avps m)) [] (others-pass (walk_code m) _ h) in
    let s = both_zero (both_code (avps m)) (rest_code most (command m) (avps m)) (sym (list-split most (command m) (avps m)) ∙ l) in
    record { header = first_passes (header_code m) _ z; both = s.0; rest = s.1; asked = cc })
    (λ t. let f = rw t at e in let z : ◌≡◌ {A = ℕ} 0 1 = cc in absurd (omega arith))

module _ (most : ℕ) (m : List ℕ) (q : Request) (p : Passing most m q) where
  session-text : within 1 128 (length (value_of session_id (avps m))) ≡ true
  unfolding both_code for_both
  session-text =
      let h = others-pass (require (starts_with session_id (avps m)) 5005) _ p.both in
      text-length session_id true (avps m) refl (first_passes (field_code (avps m) (text_field session_id true)) _ h)

  host-text : within 1 128 (length (value_of origin_host (avps m))) ≡ true
  unfolding both_code for_both
  host-text =
      let h = others-pass (require (starts_with session_id (avps m)) 5005) _ p.both in
      let h1 = others-pass (field_code (avps m) (text_field session_id true)) _ h in
      let h2 = others-pass (field_code (avps m) (number_field auth_application_id 1 1)) _ h1 in
      text-length origin_host true (avps m) refl (first_passes (field_code (avps m) (text_field origin_host true)) _ h2)

  realm-text : within 1 128 (length (value_of origin_realm (avps m))) ≡ true
  unfolding both_code for_both
  realm-text =
      let h = others-pass (require (starts_with session_id (avps m)) 5005) _ p.both in
      let h1 = others-pass (field_code (avps m) (text_field session_id true)) _ h in
      let h2 = others-pass (field_code (avps m) (number_field auth_application_id 1 1)) _ h1 in
      let h3 = others-pass (field_code (avps m) (text_field origin_host true)) _ h2 in
      text-length origin_realm true (avps m) refl (first_passes (field_code (avps m) (text_field origin_realm true)) _ h3)

  module _ (c : command m ≡ 275) where
    rest275 : first_of (map (field_code (avps m)) for275) ≡ 0
    unfolding rest_code pick
    rest275 = rw c at p.rest

    user275 : within 1 128 (length (value_of user_name (avps m))) ≡ true
    unfolding for275
    user275 =
        let h1 = others-pass (field_code (avps m) (number_field termination_cause 1 8)) _ rest275 in
        let h2 = others-pass (field_code (avps m) (text_field destination_host true)) _ h1 in
        text-length user_name true (avps m) refl (first_passes (field_code (avps m) (text_field user_name true)) _ h2)

    label275 : within 1 100 (length (value_of wlan_apn_id (avps m))) ≡ true
    unfolding for275
    label275 =
        let h1 = others-pass (field_code (avps m) (number_field termination_cause 1 8)) _ rest275 in
        let h2 = others-pass (field_code (avps m) (text_field destination_host true)) _ h1 in
        let h3 = others-pass (field_code (avps m) (text_field user_name true)) _ h2 in
        label-length wlan_apn_id true (avps m) refl (first_passes (field_code (avps m) (label_field wlan_apn_id true)) _ h3)

  module _ (c : command m ≡ 265) where
    rest265 : first_of (map (field_code (avps m)) (for265 most (avps m))) ≡ 0
    unfolding rest_code pick
    rest265 = rw c at p.rest

    user265 : within 1 128 (length (value_of user_name (avps m))) ≡ true
    unfolding for265
    user265 =
        let h1 = others-pass (field_code (avps m) (number_field auth_request_type 2 2)) _ rest265 in
        let h2 = others-pass (field_code (avps m) (text_field destination_host true)) _ h1 in
        text-length user_name true (avps m) refl (first_passes (field_code (avps m) (text_field user_name true)) _ h2)

    type265 : type_of (avps m) ≤ 1
    unfolding for265
    type265 =
        let h1 = others-pass (field_code (avps m) (number_field auth_request_type 2 2)) _ rest265 in
        let h2 = others-pass (field_code (avps m) (text_field destination_host true)) _ h1 in
        let h3 = others-pass (field_code (avps m) (text_field user_name true)) _ h2 in
        within-high 0 1 (type_of (avps m))
        (number-range session_request_type 0 1 (avps m) (first_passes (field_code (avps m) (number_field session_request_type 0 1)) _ h3))

    label265 : type_of (avps m) ≡ 0 → within 1 100 (length (value_of wlan_apn_id (avps m))) ≡ true
    unfolding for265
    label265 t =
        let h1 = others-pass (field_code (avps m) (number_field auth_request_type 2 2)) _ rest265 in
        let h2 = others-pass (field_code (avps m) (text_field destination_host true)) _ h1 in
        let h3 = others-pass (field_code (avps m) (text_field user_name true)) _ h2 in
        let h4 = others-pass (field_code (avps m) (number_field session_request_type 0 1)) _ h3 in
        let h5 = others-pass (field_code (avps m) (text_field visited_network false)) _ h4 in
        label-length wlan_apn_id (eqb (type_of (avps m)) 0) (avps m) (eq-eqb (type_of (avps m)) 0 t)
        (first_passes (field_code (avps m) (label_field wlan_apn_id (eqb (type_of (avps m)) 0))) _ h5)

    routes265 : field_code (avps m) (texts_field most routing_policy (eqb (type_of (avps m)) 1)) ≡ 0
    unfolding for265
    routes265 =
        let h1 = others-pass (field_code (avps m) (number_field auth_request_type 2 2)) _ rest265 in
        let h2 = others-pass (field_code (avps m) (text_field destination_host true)) _ h1 in
        let h3 = others-pass (field_code (avps m) (text_field user_name true)) _ h2 in
        let h4 = others-pass (field_code (avps m) (number_field session_request_type 0 1)) _ h3 in
        let h5 = others-pass (field_code (avps m) (text_field visited_network false)) _ h4 in
        let h6 = others-pass (field_code (avps m) (label_field wlan_apn_id (eqb (type_of (avps m)) 0))) _ h5 in
        first_passes (field_code (avps m) (texts_field most routing_policy (eqb (type_of (avps m)) 1))) _ h6

  -- a command that is not 275 is 265
  pub is-265 : (command m ≡ 275 → ⊥) → command m ≡ 265
  is-265 n =
      by-test (eqb (command m) 265)
      (λ t. eqb-true (command m) 265 t)
      (λ t. absurd (n (other-command m p.header (eqb-false (command m) 265 t))))

one_of : (n : ℕ) → (n ≡ 0 → ⊥) → n ≤ 1 → n ≡ 1
one_of zero z h = absurd (z refl)
one_of (suc n) z h = omega arith

-- THE TEXTS OF A REQUEST

module _ (most : ℕ) where
  pub user-length : (m : List ℕ) (q : Request) → read most m ≡ request q → within 1 128 (length q.user) ≡ true
  unfolding request_of
  user-length m q e =
      let p = passing most m q e in
      let u : q.user ≡ value_of user_name (avps m) = ap (λ (x : Request). x.user) p.asked in
      rw u
      (by-test (eqb (command m) 275)
      (λ t. user275 most m q p (eqb-true (command m) 275 t))
      (λ t. user265 most m q p (is-265 most m q p (eqb-false (command m) 275 t))))

  -- which ask it is, by command and type
  ask-is : (m : List ℕ) (q : Request) → Passing most m q → q.ask ≡ ask_of (command m) (avps m)
  unfolding request_of
  ask-is m q p = ap (λ (x : Request). x.ask) p.asked

  pub tunnel-lengths : (m : List ℕ) (q : Request) (s h r l : List ℕ) (v : Bool) → read most m ≡ request q → q.ask ≡ tunnel s h r l v
      → (within 1 128 (length s) ≡ true) × (within 1 128 (length h) ≡ true) × (within 1 128 (length r) ≡ true) × (within 1 100 (length l) ≡ true)
  unfolding ask_of pick
  tunnel-lengths m q s h r l v e a =
      let p = passing most m q e in
      let k = sym (ask-is m q p) ∙ a in
      by-test (eqb (command m) 275)
      (λ t. let f = rw t at k in let z : ◌≡◌ {A = ℕ} 0 1 = cc in absurd (omega arith))
      (λ t.
      by-test (eqb (type_of (avps m)) 0)
      (λ u.
      let f = rw (t, u) at k in
      let c = is-265 most m q p (eqb-false (command m) 275 t) in
      let p1 : value_of session_id (avps m) ≡ s = cc in
      let p2 : value_of origin_host (avps m) ≡ h = cc in
      let p3 : value_of origin_realm (avps m) ≡ r = cc in
      let p4 : value_of wlan_apn_id (avps m) ≡ l = cc in
      (rw p1 at (session-text most m q p), rw p2 at (host-text most m q p), rw p3 at (realm-text most m q p), rw p4 at (label265 most m q p c (eqb-true (type_of (avps m)) 0 u))))
      (λ u. let f = rw (t, u) at k in let z : ◌≡◌ {A = ℕ} 0 1 = cc in absurd (omega arith)))

  -- what a request that brings policies holds, and that their field passed
  record Bringing (m s a b c : List ℕ) : Type 0 where
    pub session : value_of session_id (avps m) ≡ s
    pub first : value_at 0 routing_policy (avps m) ≡ a
    pub second : value_at 1 routing_policy (avps m) ≡ b
    pub third : value_at 2 routing_policy (avps m) ≡ c
    pub passes : field_code (avps m) (texts_field most routing_policy true) ≡ 0

  bringing : (m : List ℕ) (q : Request) (s a b c : List ℕ) → Passing most m q → q.ask ≡ policy s a b c → Bringing m s a b c
  unfolding ask_of pick
  bringing m q s a b c p i =
      let k = sym (ask-is m q p) ∙ i in
      by-test (eqb (command m) 275)
      (λ t. let f = rw t at k in let z : ◌≡◌ {A = ℕ} 0 1 = cc in absurd (omega arith))
      (λ t.
      by-test (eqb (type_of (avps m)) 0)
      (λ u. let f = rw (t, u) at k in let z : ◌≡◌ {A = ℕ} 0 1 = cc in absurd (omega arith))
      (λ u.
      let f = rw (t, u) at k in
      let d = is-265 most m q p (eqb-false (command m) 275 t) in
      let y = one_of (type_of (avps m)) (eqb-false (type_of (avps m)) 0 u) (type265 most m q p d) in
      record {
        session = cc;
        first = cc;
        second = cc;
        third = cc;
        passes = rw (eq-eqb (type_of (avps m)) 1 y) at (routes265 most m q p d);
      }))

  pub policy-lengths : (m : List ℕ) (q : Request) (s a b c : List ℕ) → read most m ≡ request q → q.ask ≡ policy s a b c
      → (within 1 128 (length s) ≡ true) × (within 1 128 (length a) ≡ true) × (length b ≤ 128) × (length c ≤ 128)
  policy-lengths m q s a b c e i =
      let p = passing most m q e in
      let g = bringing m q s a b c p i in (
        rw g.session at (session-text most m q p),
        rw g.first at (texts-first most routing_policy true (avps m) g.passes refl),
        rw g.second at (texts-at most routing_policy true (avps m) g.passes 1),
        rw g.third at (texts-at most routing_policy true (avps m) g.passes 2),
      )

  -- no third without a second; and none beyond as many as it may bring
  pub policy-order : (m : List ℕ) (q : Request) (s a b c : List ℕ) → read most m ≡ request q → q.ask ≡ policy s a b c → 1 ≤ length c → 1 ≤ length b
  policy-order m q s a b c e i h =
      let g = bringing m q s a b c (passing most m q e) i in
      rw g.second at (texts-before most routing_policy true (avps m) g.passes 1 (rw g.third h))

  pub policy-second : (m : List ℕ) (q : Request) (s a b c : List ℕ) → read most m ≡ request q → q.ask ≡ policy s a b c → most ≤ 1 → b ≡ []
  policy-second m q s a b c e i h =
      let g = bringing m q s a b c (passing most m q e) i in
      sym g.second ∙ texts-over most routing_policy true (avps m) g.passes 1 h

  pub policy-third : (m : List ℕ) (q : Request) (s a b c : List ℕ) → read most m ≡ request q → q.ask ≡ policy s a b c → most ≤ 2 → c ≡ []
  policy-third m q s a b c e i h =
      let g = bringing m q s a b c (passing most m q e) i in
      sym g.third ∙ texts-over most routing_policy true (avps m) g.passes 2 h

  pub termination-lengths : (m : List ℕ) (q : Request) (s l : List ℕ) → read most m ≡ request q → q.ask ≡ termination s l
      → (within 1 128 (length s) ≡ true) × (within 1 100 (length l) ≡ true)
  unfolding ask_of pick
  termination-lengths m q s l e a =
      let p = passing most m q e in
      let k = sym (ask-is m q p) ∙ a in
      by-test (eqb (command m) 275)
      (λ t.
      let f = rw t at k in
      let p1 : value_of session_id (avps m) ≡ s = cc in
      let p2 : value_of wlan_apn_id (avps m) ≡ l = cc in
      (rw p1 at (session-text most m q p), rw p2 at (label275 most m q p (eqb-true (command m) 275 t))))
      (λ t.
      by-test (eqb (type_of (avps m)) 0)
      (λ u. let f = rw (t, u) at k in let z : ◌≡◌ {A = ℕ} 0 1 = cc in absurd (omega arith))
      (λ u. let f = rw (t, u) at k in let z : ◌≡◌ {A = ℕ} 0 1 = cc in absurd (omega arith)))

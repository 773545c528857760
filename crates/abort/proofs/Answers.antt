-- Recognizing an answer, AVP by AVP: what the AVP in front decides, and what it leaves to those behind it.
use mathlib.Core.Path.{◌≡◌, sym, ap, ◌∙◌}
use mathlib.Core.Bool.{Bool, true, false, ◌&&◌, ◌||◌, not, and-false}
use mathlib.Core.List.{List}
use Prim.Native.Nat.{ℕ, suc, ◌+◌, ◌-◌, ◌*◌, ◌%◌, ◌≤◌, ◌<◌}
use native.Mathlib.Omega.{arith}
use borrow.Author.Tests.{eqb-true, eqb-false, eq-eqb, ne_eqb, le-leb, lt-leb, leb-true, leb-false, not-true, not-false}
use lib.Dec.{eqb, leb}
use lib.ListN.{length, get_or, drop, length-drop}
use lib.Seq.{get_or-drop, drop-drop}
use Rattle.octets.specs.Choice.{pick}
use Rattle.octets.specs.Lists.{keep}
use Rattle.octets.specs.Numbers.{net24, net32, up4}
use Rattle.octets.specs.Texts.{part, same}
use Rattle.octets.proofs.Lists.{by-test, and_left, eqb_comm}
use Rattle.octets.proofs.Texts.{length_part}
use Rattle.message.specs.CallsThatGetNoAnswer.{message_most, message_number}
use Rattle.message.specs.ReadingAMessage.{Name, base, vendor, same_name, session_id, Avp, head_length, avp_length, avp_code, avp_of, Walk, behind, walk, command, having, first_value, value_of, starts_with}
use Rattle.message.proofs.Heads.{number_short, number-long, net24-drop, net32-drop, head-v, head-base, name-v, name-base, code-few, code-none}
use Rattle.message.proofs.Walks.{Passed, passes, head-least, up4-least, walk_end, walk-bad, walk-one}
use Rattle.abort.specs.TheDisconnection.{result_code, answers_to, once, answers_for}
use Rattle.abort.specs.Code.{passed_length, plain_code, first_length, rest_answers, spoilt}

-- THE HEADER

module _ (hop end : ℕ) (m : List ℕ) where
  pub to_number : (message_number m ≡ 8 → ⊥) → answers_to hop end m ≡ false
  unfolding answers_to
  to_number h = rw (ne_eqb (message_number m) 8 h)

  -- an answer is long enough for its header
  pub has-header : message_number m ≡ 8 → 20 ≤ length m
  has-header h =
      by-test (leb 20 (length m))
      (λ t. leb-true 20 (length m) t)
      (λ t. let z = number_short m (leb-false 20 (length m) t) in absurd (omega arith))

  pub has_end : message_number m ≡ 8 → length m ≤ message_most
  has_end h =
      by-test (leb (length m) message_most)
      (λ t. leb-true (length m) message_most t)
      (λ t. let z = number-long m (has-header h) (leb-false (length m) message_most t) in absurd (omega arith))

  module _ (h : message_number m ≡ 8) where
    pub to-command : (command m ≡ 274 → ⊥) → answers_to hop end m ≡ false
    unfolding answers_to
    to-command c = rw (eq-eqb (message_number m) 8 h, ne_eqb (command m) 274 c)

    module _ (c : command m ≡ 274) where
      pub to-hop : (net32 m 12 ≡ hop → ⊥) → answers_to hop end m ≡ false
      unfolding answers_to
      to-hop p = rw (eq-eqb (message_number m) 8 h, eq-eqb (command m) 274 c, ne_eqb (net32 m 12) hop p)

      pub to_end : net32 m 12 ≡ hop → answers_to hop end m ≡ eqb (net32 m 16) end
      unfolding answers_to
      to_end p = rw (eq-eqb (message_number m) 8 h, eq-eqb (command m) 274 c, eq-eqb (net32 m 12) hop p)

  pub to-size : answers_to hop end m ≡ true → length m ≤ message_most
  unfolding answers_to
  to-size e = has_end (eqb-true (message_number m) 8 (and_left (eqb (message_number m) 8) _ e))

-- the command's three bytes: a zero, and two that are read the lower first
pub command-not : (m : List ℕ) → (get_or m 5 0 ≡ 0 → ⊥) → eqb (command m) 274 ≡ false
unfolding net24
command-not m z = ne_eqb (get_or m 5 0 * 65536 + get_or m 6 0 * 256 + get_or m 7 0) 274 (λ y. z (omega arith))

-- ONE MORE

-- a Session-Id is no Result-Code
apart : (n : Name) → same_name session_id n ≡ true → same_name result_code n ≡ false
unfolding same_name
apart (base d) e = ne_eqb 268 d (λ z. let y : 263 ≡ d = eqb-true 263 d e in absurd (omega arith))
apart (vendor v d) e = cc

one_more : (k : ℕ) → eqb (suc k) 1 ≡ eqb k 0
one_more k =
    by-test (eqb k 0)
    (λ e. eq-eqb (suc k) 1 (let z : k ≡ 0 = eqb-true k 0 e in omega arith) ∙ sym e)
    (λ e. ne_eqb (suc k) 1 (λ y. eqb-false k 0 e (omega arith)) ∙ sym e)

no_zero : (k : ℕ) → eqb (suc k) 0 ≡ false
no_zero k = ne_eqb (suc k) 0 (λ z. omega arith)

module _ (a : Avp) (w : Walk) where
  rest-session : (found : Bool) → same_name session_id a.name ≡ true → rest_answers found (behind a w) ≡ false
  unfolding rest_answers behind having keep pick
  rest-session found s = rw (s, no_zero (length (having session_id w.avps))) (and-false (eqb w.code 0))

  module _ (s : same_name session_id a.name ≡ false) where
    rest-other : (found : Bool) → same_name result_code a.name ≡ false → rest_answers found (behind a w) ≡ rest_answers found w
    unfolding rest_answers behind once value_of having keep pick
    rest-other found r = rw (s, r)

    module _ (r : same_name result_code a.name ≡ true) where
      rest-second : rest_answers true (behind a w) ≡ false
      unfolding rest_answers behind having keep pick
      rest-second =
          rw (s, r, no_zero (length (having result_code w.avps)), and-false (eqb (length (having session_id w.avps)) 0)) (and-false (eqb w.code 0))

      rest-length : eqb (length a.value) 4 ≡ false → rest_answers false (behind a w) ≡ false
      unfolding rest_answers behind once value_of first_value having keep pick
      rest-length l =
          rw (s, r, l, and-false (eqb (suc (length (having result_code w.avps))) 1), and-false (eqb (length (having session_id w.avps)) 0)) (and-false (eqb w.code 0))

      rest-result : eqb (length a.value) 4 ≡ true → rest_answers false (behind a w) ≡ rest_answers true w
      unfolding rest_answers behind once value_of first_value having keep pick
      rest-result l = rw (s, r, l, one_more (length (having result_code w.avps))) (by-test (eqb (length (having result_code w.avps)) 0) (λ e. rw e) (λ e. rw e))

  -- one for which the answer does not belong, and one with which it may
  spoils : (found : Bool) → same_name session_id a.name || (same_name result_code a.name && (found || not (eqb (length a.value) 4))) ≡ true
      → rest_answers found (behind a w) ≡ false
  spoils true h =
      by-test (same_name session_id a.name)
      (λ s. rest-session true s)
      (λ s. by-test (same_name result_code a.name) (λ r. rest-second s r) (λ r. let z : false ≡ true = rw (s, r) at h in cc))
  spoils false h =
      by-test (same_name session_id a.name)
      (λ s. rest-session false s)
      (λ s. by-test (same_name result_code a.name)
      (λ r. let z : not (eqb (length a.value) 4) ≡ true = rw (s, r) at h in rest-length s r (not-true (eqb (length a.value) 4) z))
      (λ r. let z : false ≡ true = rw (s, r) at h in cc))

  goes : (found : Bool) → same_name session_id a.name || (same_name result_code a.name && (found || not (eqb (length a.value) 4))) ≡ false
      → rest_answers (found || same_name result_code a.name) w ≡ rest_answers found (behind a w)
  goes true h =
      by-test (same_name session_id a.name)
      (λ s. let z : true ≡ false = rw s at h in cc)
      (λ s. by-test (same_name result_code a.name) (λ r. let z : true ≡ false = rw (s, r) at h in cc) (λ r. sym (rest-other s true r)))
  goes false h =
      by-test (same_name session_id a.name)
      (λ s. let z : true ≡ false = rw s at h in cc)
      (λ s. by-test (same_name result_code a.name)
      (λ r. let z : not (eqb (length a.value) 4) ≡ false = rw (s, r) at h in rw r (sym (rest-result s r (not-false (eqb (length a.value) 4) z))))
      (λ r. rw r (sym (rest-other s false r))))

  -- the Session-Id sent, and another AVP in its place
  first-is : (session : List ℕ) → same_name session_id a.name ≡ true → same a.value session ≡ true → answers_for session (behind a w) ≡ rest_answers false w
  unfolding answers_for rest_answers behind starts_with once value_of first_value having keep pick
  first-is session s v =
      rw (s, apart a.name s, one_more (length (having session_id w.avps)))
      (ap (λ (b : Bool). eqb w.code 0 && (eqb (length (having session_id w.avps)) 0 && (b && (once result_code w.avps && eqb (length (value_of result_code w.avps)) 4)))) v)

  first-not : (session : List ℕ) → same_name session_id a.name && same a.value session ≡ false → answers_for session (behind a w) ≡ false
  unfolding answers_for behind starts_with once value_of first_value having keep pick
  first-not session h =
      by-test (same_name session_id a.name)
      (λ s. let v : same a.value session ≡ false = rw s at h in
      rw (s, v, and-false (eqb (suc (length (having session_id w.avps))) 1)) (and-false (eqb w.code 0)))
      (λ s. rw s (and-false (eqb w.code 0)))

-- ONE AVP BY ITS BYTES

module _ (s : List ℕ) where
  -- one that fails a test has no length, and one that passes has its own
  no_length : (Passed s → ⊥) → passed_length s ≡ 0
  unfolding passed_length pick
  no_length h = by-test (eqb (avp_code s) 0) (λ e. absurd (h (passes s (eqb-true (avp_code s) 0 e)))) (λ e. rw e)

  its-length : avp_code s ≡ 0 → passed_length s ≡ avp_length s
  unfolding passed_length pick
  its-length e = rw (eq-eqb (avp_code s) 0 e)

  fails : passed_length s ≡ 0 → 0 < avp_code s
  fails h =
      by-test (eqb (avp_code s) 0)
      (λ e. let k : avp_code s ≡ 0 = eqb-true (avp_code s) 0 e in
      let p : Passed s = passes s k in
      let z : avp_length s ≡ 0 = sym (its-length k) ∙ h in
      absurd (omega (arith, p.head, head-least s, z)))
      (λ e. let d : avp_code s ≡ 0 → ⊥ = eqb-false (avp_code s) 0 e in omega arith)

  pub has-passed : (passed_length s ≡ 0 → ⊥) → avp_code s ≡ 0
  has-passed h =
      by-test (eqb (avp_code s) 0)
      (λ e. eqb-true (avp_code s) 0 e)
      (λ e. absurd (h (no_length (λ p. eqb-false (avp_code s) 0 e (code-none s p.eight p.clear p.head p.whole)))))

  plain-v : 128 ≤ get_or s 4 0 → plain_code s ≡ 0
  unfolding plain_code pick
  plain-v v = rw (le-leb 128 (get_or s 4 0) v)

  plain-base : get_or s 4 0 < 128 → plain_code s ≡ net32 s 0
  unfolding plain_code pick
  plain-base v = rw (lt-leb 128 (get_or s 4 0) v)

  -- the name by the code
  name-is : (code : ℕ) → 0 < code → same_name (base code) (avp_of s).name ≡ eqb (plain_code s) code
  unfolding same_name
  name-is code h =
      by-test (leb 128 (get_or s 4 0))
      (λ e. let v : 128 ≤ get_or s 4 0 = leb-true 128 (get_or s 4 0) e in rw (name-v s v, plain-v v) (sym (ne_eqb 0 code (λ z. omega arith))))
      (λ e. let v : get_or s 4 0 < 128 = leb-false 128 (get_or s 4 0) e in rw (name-base s v, plain-base v) (eqb_comm code (net32 s 0)))

  -- one with a code that is looked for has no V
  no-v : (code : ℕ) → 0 < code → eqb (plain_code s) code ≡ true → get_or s 4 0 < 128
  no-v code h t =
      by-test (leb 128 (get_or s 4 0))
      (λ e. let z : plain_code s ≡ 0 = plain-v (leb-true 128 (get_or s 4 0) e) in let y : plain_code s ≡ code = eqb-true (plain_code s) code t in absurd (omega arith))
      (λ e. leb-false 128 (get_or s 4 0) e)

  -- the value of one that passes
  value-size : avp_code s ≡ 0 → length (avp_of s).value ≡ avp_length s - head_length s
  unfolding avp_of
  value-size k =
      let p : Passed s = passes s k in
      length_part s (head_length s) (avp_length s - head_length s) (omega (arith, p.head, p.whole, up4-least (avp_length s)))

-- AN AVP AT A PLACE

-- three bytes, of which the first is zero
pub two_bytes : (m : List ℕ) (at : ℕ) → get_or m (at + 5) 0 ≡ 0 → net24 m (at + 5) ≡ get_or m (at + 6) 0 * 256 + get_or m (at + 7) 0
unfolding net24
two_bytes m at z =
    let b : at + 5 + 1 ≡ at + 6 = omega arith in
    let c : at + 5 + 2 ≡ at + 7 = omega arith in
    rw (b, c, z) (omega arith)

pub command-two : (m : List ℕ) → get_or m 5 0 ≡ 0 → command m ≡ get_or m 6 0 * 256 + get_or m 7 0
command-two m z = two_bytes m 0 z

module _ (m : List ℕ) (at left : ℕ) (h : at + left ≡ length m) where
  size : length (drop at m) ≡ left
  size = rw length-drop (omega arith)

  pub at-few : left < 8 → passed_length (drop at m) ≡ 0
  at-few f = no_length (drop at m) (λ p. omega (arith, size, p.eight))

  pub at_bits : (get_or m (at + 4) 0 % 32 ≡ 0 → ⊥) → passed_length (drop at m) ≡ 0
  at_bits f = no_length (drop at m) (λ p. f (rw get_or-drop at p.clear))

  pub at_high : left ≤ message_most → (get_or m (at + 5) 0 ≡ 0 → ⊥) → passed_length (drop at m) ≡ 0
  unfolding net24
  at_high l f =
      no_length (drop at m)
      (λ p. let n : net24 (drop at m) 5 ≡ net24 m (at + 5) = net24-drop at 5 m in
      let w : net24 m (at + 5) ≤ left = omega (arith, p.whole, up4-least (avp_length (drop at m)), size, n) in
      let v : get_or m (at + 5) 0 * 65536 + get_or m (at + 5 + 1) 0 * 256 + get_or m (at + 5 + 2) 0 ≤ left = w in
      f (omega (arith, v, l)))

  module _ (n : ℕ) (e : net24 m (at + 5) ≡ n) where
    field : avp_length (drop at m) ≡ n
    field = net24-drop at 5 m ∙ e

    pub at-past : left < up4 n → passed_length (drop at m) ≡ 0
    at-past f =
        no_length (drop at m)
        (λ p. let w : up4 n ≤ left = rw (field, size) at p.whole in omega arith)

    pub at-short : n < 8 → passed_length (drop at m) ≡ 0
    at-short f = no_length (drop at m) (λ p. omega (arith, p.head, head-least (drop at m), field))

    module _ (b : get_or m (at + 4) 0 % 32 ≡ 0) (w : up4 n ≤ left) where
      pub at-short-v : 128 ≤ get_or m (at + 4) 0 → n < 12 → passed_length (drop at m) ≡ 0
      at-short-v v f =
          let k : head_length (drop at m) ≡ 12 = head-v (drop at m) (rw get_or-drop v) in
          no_length (drop at m) (λ p. omega (arith, p.head, k, field))

      passed : 8 ≤ left → head_length (drop at m) ≤ n → passed_length (drop at m) ≡ n
      passed l k =
          its-length (drop at m)
          (code-none (drop at m) (omega (arith, size)) (rw get_or-drop b) (omega (arith, field, k)) (rw (field, size) w))
          ∙ field

      pub at-v : 8 ≤ left → 128 ≤ get_or m (at + 4) 0 → 12 ≤ n → passed_length (drop at m) ≡ n
      at-v l v f = passed l (let k : head_length (drop at m) ≡ 12 = head-v (drop at m) (rw get_or-drop v) in omega arith)

      pub at_base : 8 ≤ left → get_or m (at + 4) 0 < 128 → 8 ≤ n → passed_length (drop at m) ≡ n
      at_base l v f = passed l (let k : head_length (drop at m) ≡ 8 = head-base (drop at m) (rw get_or-drop v) in omega arith)

pub code-v : (m : List ℕ) (at : ℕ) → 128 ≤ get_or m (at + 4) 0 → plain_code (drop at m) ≡ 0
code-v m at v = plain-v (drop at m) (rw get_or-drop v)

pub code-base : (m : List ℕ) (at : ℕ) → get_or m (at + 4) 0 < 128 → plain_code (drop at m) ≡ net32 m at
code-base m at v =
    let z : at + 0 ≡ at = omega arith in
    plain-base (drop at m) (rw get_or-drop v) ∙ rw (net32-drop at 0 m, z)

-- with another code it has another name, or V
pub other-code : (m : List ℕ) (at : ℕ) → (net32 m at ≡ 263 → ⊥) → plain_code (drop at m) ≡ 263 → ⊥
other-code m at f e =
    by-test (leb 128 (get_or m (at + 4) 0))
    (λ t. let z : plain_code (drop at m) ≡ 0 = code-v m at (leb-true 128 (get_or m (at + 4) 0) t) in absurd (omega (arith, z, e)))
    (λ t. let z : plain_code (drop at m) ≡ net32 m at = code-base m at (leb-false 128 (get_or m (at + 4) 0) t) in f (sym z ∙ e))

-- THE FIRST AVP

module _ (s : List ℕ) where
  pub first-none : passed_length s ≡ 0 → first_length s ≡ 0
  unfolding first_length pick
  first-none e = by-test (eqb (plain_code s) 263) (λ t. rw (t, e)) (λ t. rw t)

  pub first-other-code : (plain_code s ≡ 263 → ⊥) → first_length s ≡ 0
  unfolding first_length pick
  first-other-code f = rw (ne_eqb (plain_code s) 263 f)

  pub first-its : plain_code s ≡ 263 → first_length s ≡ passed_length s
  unfolding first_length pick
  first-its e = rw (eq-eqb (plain_code s) 263 e)

-- AN ANSWER FROM A PLACE ON

module _ (s : List ℕ) where
  pub rest_end : (found : Bool) → length s ≡ 0 → rest_answers found (walk s) ≡ found
  unfolding rest_answers once value_of first_value having keep pick
  rest_end true e = rw (walk_end avp_code (λ s e. e) s e)
  rest_end false e = rw (walk_end avp_code (λ s e. e) s e)

  module _ (l : 0 < length s) where
    pub rest-bad : (found : Bool) → passed_length s ≡ 0 → rest_answers found (walk s) ≡ false
    unfolding rest_answers
    rest-bad found e = rw (walk-bad avp_code (λ s e. e) s l (fails s e), ne_eqb (avp_code s) 0 (λ z. omega (arith, fails s e)))

    walk-fails : (session : List ℕ) → 0 < avp_code s → answers_for session (walk s) ≡ false
    unfolding answers_for
    walk-fails session e = rw (walk-bad avp_code (λ s e. e) s l e, ne_eqb (avp_code s) 0 (λ z. omega arith))

  module _ (k : avp_code s ≡ 0) where
    here : walk s ≡ behind (avp_of s) (walk (drop (up4 (avp_length s)) s))
    here = walk-one avp_code (λ s e. e) s k

    -- the test of the definition, of the AVP that stands there
    test : (found : Bool)
        → same_name session_id (avp_of s).name || (same_name result_code (avp_of s).name && (found || not (eqb (length (avp_of s).value) 4)))
        ≡ spoilt found (plain_code s) (avp_length s)
    unfolding spoilt
    test found =
        rw (name-is s 263 (omega arith), name-is s 268 (omega arith))
        (by-test (eqb (plain_code s) 268)
        (λ t. let v : head_length s ≡ 8 = head-base s (no-v s 268 (omega arith) t) in
        let z : length (avp_of s).value ≡ avp_length s - head_length s = value-size s k in
        let y : eqb (length (avp_of s).value) 4 ≡ eqb (avp_length s) 12 =
        by-test (eqb (avp_length s) 12)
        (λ t. let w : avp_length s ≡ 12 = eqb-true (avp_length s) 12 t in eq-eqb (length (avp_of s).value) 4 (omega arith) ∙ sym t)
        (λ t. let w : avp_length s ≡ 12 → ⊥ = eqb-false (avp_length s) 12 t in
        ne_eqb (length (avp_of s).value) 4 (λ u. w (omega (arith, u, z, v, (passes s k).head))) ∙ sym t) in
        rw (t, y))
        (λ t. rw t))

    pub rest-spoilt : (found : Bool) → spoilt found (plain_code s) (avp_length s) ≡ true → rest_answers found (walk s) ≡ false
    rest-spoilt found h = ap (rest_answers found) here ∙ spoils (avp_of s) (walk (drop (up4 (avp_length s)) s)) found (test found ∙ h)

    pub rest_goes : (found : Bool) → spoilt found (plain_code s) (avp_length s) ≡ false
        → rest_answers (found || eqb (plain_code s) 268) (walk (drop (up4 (avp_length s)) s)) ≡ rest_answers found (walk s)
    rest_goes found h =
        ap (λ (b : Bool). rest_answers (found || b) (walk (drop (up4 (avp_length s)) s))) (sym (name-is s 268 (omega arith)))
        ∙ goes (avp_of s) (walk (drop (up4 (avp_length s)) s)) found (test found ∙ h)
        ∙ ap (rest_answers found) (sym here)

  -- the first AVP is no Session-Id, or fails
  pub first-no : (session : List ℕ) → 0 < length s → first_length s ≡ 0 → answers_for session (walk s) ≡ false
  first-no session l e =
      by-test (eqb (avp_code s) 0)
      (λ t. let k : avp_code s ≡ 0 = eqb-true (avp_code s) 0 t in
      let p : Passed s = passes s k in
      let c : plain_code s ≡ 263 → ⊥ = λ y. let z : avp_length s ≡ 0 = sym (its-length s k) ∙ sym (first-its s y) ∙ e in omega (arith, p.head, head-least s, z) in
      let n : same_name session_id (avp_of s).name ≡ false = name-is s 263 (omega arith) ∙ ne_eqb (plain_code s) 263 c in
      ap (answers_for session) (here k) ∙ first-not (avp_of s) (walk (drop (up4 (avp_length s)) s)) session (rw n))
      (λ t. let d : avp_code s ≡ 0 → ⊥ = eqb-false (avp_code s) 0 t in walk-fails l session (omega arith))

-- BEHIND THE SESSION-ID

-- an AVP with a length passes, and with its padding lies within what is left
pub record There (m : List ℕ) (at left n : ℕ) : Type 0 where
  pub passed : avp_code (drop at m) ≡ 0
  pub length-is : avp_length (drop at m) ≡ n
  pub eight : 8 ≤ left
  pub least : 8 ≤ n
  pub whole : up4 n ≤ left

pub there : (m : List ℕ) (at left n : ℕ) → at + left ≡ length m → passed_length (drop at m) ≡ n → (n ≡ 0 → ⊥) → There m at left n
there m at left n h e f =
    let k : avp_code (drop at m) ≡ 0 = has-passed (drop at m) (λ z. f (sym e ∙ z)) in
    let l : avp_length (drop at m) ≡ n = sym (its-length (drop at m) k) ∙ e in
    let p : Passed (drop at m) = passes (drop at m) k in
    let w : up4 n ≤ left = rw (l, size m at left h) at p.whole in
    record {
      passed = k;
      length-is = l;
      eight = omega (arith, p.eight, size m at left h);
      least = omega (arith, p.head, head-least (drop at m), l);
      whole = w;
    }

module _ (m : List ℕ) (at left n : ℕ) (t : There m at left n) (code : ℕ) (c : code ≡ plain_code (drop at m)) (found : Bool) where
  same_test : spoilt found (plain_code (drop at m)) (avp_length (drop at m)) ≡ spoilt found code n
  same_test = rw (t.length-is, c)

  pub place-spoilt : spoilt found code n ≡ true → rest_answers found (walk (drop at m)) ≡ false
  place-spoilt h = rest-spoilt (drop at m) t.passed found (same_test ∙ h)

  pub place-goes : spoilt found code n ≡ false → rest_answers (found || eqb code 268) (walk (drop (at + up4 n) m)) ≡ rest_answers found (walk (drop at m))
  place-goes h =
      let g = rest_goes (drop at m) t.passed found (same_test ∙ h) in
      let d : drop (up4 (avp_length (drop at m))) (drop at m) ≡ drop (at + up4 n) m = rw t.length-is (drop-drop (up4 n) at m) in
      rw (c, ← d) g

-- THE SESSION-ID

module _ (m : List ℕ) (n : ℕ) (h : 28 ≤ length m) (e : first_length (drop 20 m) ≡ n) (f : n ≡ 0 → ⊥) where
  code_is : plain_code (drop 20 m) ≡ 263
  code_is =
      by-test (eqb (plain_code (drop 20 m)) 263)
      (λ t. eqb-true (plain_code (drop 20 m)) 263 t)
      (λ t. let z : first_length (drop 20 m) ≡ 0 = first-other-code (drop 20 m) (eqb-false (plain_code (drop 20 m)) 263 t) in absurd (f (sym e ∙ z)))

  pub first-there : There m 20 (length m - 20) n
  first-there = there m 20 (length m - 20) n (omega arith) (sym (first-its (drop 20 m) code_is) ∙ e) f

  named : same_name session_id (avp_of (drop 20 m)).name ≡ true
  named = name-is (drop 20 m) 263 (omega arith) ∙ eq-eqb (plain_code (drop 20 m)) 263 code_is

  text : (avp_of (drop 20 m)).value ≡ part m 28 (20 + n - 28)
  unfolding avp_of
  text =
      let v : get_or (drop 20 m) 4 0 < 128 = no-v (drop 20 m) 263 (omega arith) (eq-eqb (plain_code (drop 20 m)) 263 code_is) in
      let q : n - 8 ≡ 20 + n - 28 = omega arith in
      rw (head-base (drop 20 m) v, first-there.length-is, drop-drop 8 20 m, q)

  pub first-other : (session : List ℕ) → same (part m 28 (20 + n - 28)) session ≡ false → answers_for session (walk (drop 20 m)) ≡ false
  first-other session d =
      let b : same_name session_id (avp_of (drop 20 m)).name && same (avp_of (drop 20 m)).value session ≡ false = rw (named, text) d in
      ap (answers_for session) (here (drop 20 m) first-there.passed) ∙ first-not (avp_of (drop 20 m)) (walk (drop (up4 (avp_length (drop 20 m))) (drop 20 m))) session b

  pub first-ours : (session : List ℕ) → same (part m 28 (20 + n - 28)) session ≡ true
      → answers_for session (walk (drop 20 m)) ≡ rest_answers false (walk (drop (20 + up4 n) m))
  first-ours session d =
      let b : same (avp_of (drop 20 m)).value session ≡ true = rw text d in
      let g : drop (up4 (avp_length (drop 20 m))) (drop 20 m) ≡ drop (20 + up4 n) m = rw first-there.length-is (drop-drop (up4 n) 20 m) in
      ap (answers_for session) (here (drop 20 m) first-there.passed)
      ∙ first-is (avp_of (drop 20 m)) (walk (drop (up4 (avp_length (drop 20 m))) (drop 20 m))) session named b
      ∙ ap (λ (l : List ℕ). rest_answers false (walk l)) g

-- an answer that is too short for an AVP
pub first-few : (m session : List ℕ) → length m < 28 → answers_for session (walk (drop 20 m)) ≡ false
unfolding answers_for starts_with
first-few m session h =
    by-test (eqb (length (drop 20 m)) 0)
    (λ t. rw (walk_end avp_code (λ s e. e) (drop 20 m) (eqb-true (length (drop 20 m)) 0 t)))
    (λ t. let d : length (drop 20 m) ≡ 0 → ⊥ = eqb-false (length (drop 20 m)) 0 t in
    let c : avp_code (drop 20 m) ≡ 5014 = code-few (drop 20 m) (rw length-drop (omega arith)) in
    walk-fails (drop 20 m) (omega arith) session (omega arith))

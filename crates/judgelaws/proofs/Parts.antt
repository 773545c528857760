-- The parts of an answer of ours: the walk passes over each, none of them has a Failed-AVP, and one alone tells a result.
use mathlib.Core.Path.{◌≡◌, refl, sym, ap, ◌∙◌}
use mathlib.Core.Bool.{Bool, true, false, ◌&&◌, not}
use mathlib.Core.List.{List, ◌∷◌, ◌++◌, append_assoc}
use Prim.Native.Nat.{ℕ, zero, suc, ◌-◌, ◌≤◌, ◌<◌}
use native.Mathlib.Omega.{arith}
use borrow.Author.Tests.{eqb-true}
use lib.Dec.{eqb}
use lib.ListN.{length, drop, length-append, length-drop}
use lib.Seq.{drop_at}
use Rattle.octets.specs.Choice.{pick, within}
use Rattle.octets.specs.Lists.{every, keep}
use Rattle.octets.specs.Texts.{part}
use Rattle.octets.specs.Numbers.{in24, in32, up4}
use Rattle.octets.proofs.Choice.{by-pick}
use Rattle.octets.proofs.Lists.{by-test, and_left, and_right, within-high}
use Rattle.octets.proofs.Texts.{length_part}
use Rattle.message.specs.Codes.{Code, none, plain, experimental, number_of, kind_of}
use Rattle.message.specs.ReadingAMessage.{Name, base, same_name, session_id, user_name, Avp, head_length, avp_length, avp_code, avp_of, request_code, behind, walk_one, walk_up_to, walk_by, walk, avps, having, first_value, value_of, header_code, walk_code, command}
use Rattle.message.specs.WritingTheAnswer.{avp_bytes, session_avp, is3xxx, auth_avps, result_avp, subscription_avp, proxy_avps, answer_body, answer}
use Rattle.message.specs.CallsThatGetNoAnswer.{message_most}
use Rattle.message.proofs.Walks.{Passed, passes, up4-least, request-four}
use Rattle.answers.proofs.Writing.{length-number, up4-most, subscription-length}
use Rattle.decision.proofs.Numbers.{Ready}
use Rattle.likeness.specs.TheSameAnswer.{Finding, failed_avp, is_group, flag_byte, avps_of}
use Rattle.likeness.proofs.Groups.{inner, fault-in}
use Rattle.judgelaws.specs.TheJudgesRules.{is_result}
use Rattle.judgelaws.proofs.Own.{Goes, Over, name-read, own-flags, own_read, over-nil, over-append, over-avp, over-all, all_named, over-more, over-walk}

-- THE PARTS OF AN ANSWER

-- no Failed-AVP, and neither that nor a result
unfoldable pub no_failed : Name → Bool
no_failed n = not (same_name failed_avp n)

unfoldable pub other : Name → Bool
other n = no_failed n && not (is_result n)

other-more : (n : Name) → other n ≡ true → no_failed n ≡ true
unfolding other
other-more n e = and_left (no_failed n) (not (is_result n)) e

module _ (inside : ℕ → List ℕ → Finding) (f : Name → Bool) where
  over_plain : (code : ℕ) (v : List ℕ) → code < 65536 → length v ≤ 65000 → f (base code) ≡ true → is_group (base code) ≡ false → Over inside f (avp_bytes code v)
  over_plain code v small short t e =
      over-avp inside f code v small short t (λ g. let z : false ≡ true = sym e ∙ g in let y : ◌≡◌ {A = ℕ} 0 1 = cc in absurd (omega arith))

four : (n : ℕ) → length (in32 n) ≡ 4
unfolding in32
four n = refl

over-number : (inside : ℕ → List ℕ → Finding) (f : Name → Bool) (code n : ℕ) → code < 65536 → f (base code) ≡ true → is_group (base code) ≡ false → Over inside f (avp_bytes code (in32 n))
over-number inside f code n small t e = over_plain inside f code (in32 n) small (omega (arith, four n)) t e

-- a group in which all is passed over
over-group : (f : Name → Bool) (code : ℕ) (w : List ℕ) → code < 65536 → length w ≤ 65000 → f (base code) ≡ true → Over (inner 3) f w → Over (inner 4) f (avp_bytes code w)
over-group f code w small short t F =
    over-avp (inner 4) f code w small short t (λ g p. ap (λ (x : Finding). x.number) (fault-in 3 p w ∙ over-all (inner 3) f w p F))

over-session : (m : List ℕ) → Over (inner 4) other (session_avp m)
unfolding session_avp other no_failed is_result is_group same_name
over-session m =
    let v : List ℕ = (avp_of (drop 20 m)).value in
    by-pick (λ (p : List ℕ). Over (inner 4) other p) (eqb (avp_code (drop 20 m)) 0 && (same_name session_id (avp_of (drop 20 m)).name && within 1 128 (length v)))
    (λ t.
    let r = and_right (eqb (avp_code (drop 20 m)) 0) (same_name session_id (avp_of (drop 20 m)).name && within 1 128 (length v)) t in
    let h : length v ≤ 128 = within-high 1 128 (length v) (and_right (same_name session_id (avp_of (drop 20 m)).name) (within 1 128 (length v)) r) in
    over_plain (inner 4) other 263 v (omega arith) (omega arith) refl refl)
    (λ t. over-nil (inner 4) other)

over-auth : (m : List ℕ) (c : Code) → Over (inner 4) other (auth_avps m c)
unfolding auth_avps other no_failed is_result is_group same_name
over-auth m c =
    by-pick (λ (p : List ℕ). Over (inner 4) other p) (eqb (command m) 265 && not (is3xxx c))
    (λ t. over-append (inner 4) other (avp_bytes 258 (in32 1)) (avp_bytes 274 (in32 2)) (over-number (inner 4) other 258 1 (omega arith) refl refl) (over-number (inner 4) other 274 2 (omega arith) refl refl))
    (λ t. over-nil (inner 4) other)

group-short : (n : ℕ) → length (avp_bytes 266 (in32 10415) ++ avp_bytes 298 (in32 n)) ≤ 65000
group-short n = omega (arith, length-append (avp_bytes 266 (in32 10415)) (avp_bytes 298 (in32 n)), length-number 266 10415, length-number 298 n)

over-result : (c : Code) → Over (inner 4) no_failed (result_avp c)
unfolding result_avp no_failed is_group same_name
over-result (none n) = over-nil (inner 4) no_failed
over-result (plain n) = over-number (inner 4) no_failed 268 n (omega arith) refl refl
over-result (experimental n) =
    over-group no_failed 297 (avp_bytes 266 (in32 10415) ++ avp_bytes 298 (in32 n)) (omega arith) (group-short n) refl
    (over-append (inner 3) no_failed (avp_bytes 266 (in32 10415)) (avp_bytes 298 (in32 n)) (over-number (inner 3) no_failed 266 10415 (omega arith) refl refl) (over-number (inner 3) no_failed 298 n (omega arith) refl refl))

-- no value is longer than the message
value-walk : (k : ℕ) (n : Name) (s : List ℕ) → length (first_value (having n (walk_up_to request_code k s).avps)) ≤ length s
unfolding walk_up_to walk_one pick having keep first_value behind avp_of
value-walk zero n s = omega arith
value-walk (suc k) n s =
    by-test (eqb (length s) 0)
    (λ z. rw z (omega arith))
    (λ z.
    by-test (eqb (request_code s) 0)
    (λ t.
    let p : Passed s = passes s (request-four s (eqb-true (request_code s) 0 t)) in
    let r = value-walk k n (drop (up4 (avp_length s)) s) in
    let r2 : length (first_value (having n (walk_up_to request_code k (drop (up4 (avp_length s)) s)).avps)) ≤ length s - up4 (avp_length s) = rw length-drop at r in
    let l : length (part s (head_length s) (avp_length s - head_length s)) ≡ avp_length s - head_length s =
    length_part s (head_length s) (avp_length s - head_length s) (omega (arith, p.head, p.whole, up4-least (avp_length s))) in
    by-test (same_name n (avp_of s).name)
    (λ u. rw (z, t, u) (omega (arith, l, p.whole, up4-least (avp_length s))))
    (λ u. rw (z, t, u) (omega arith)))
    (λ t. rw (z, t) (omega arith)))

pub user-most : (m : List ℕ) → length (value_of user_name (avps m)) ≤ length m
unfolding value_of avps walk_by
user-most m = let r = value-walk (suc (length (drop 20 m))) user_name (drop 20 m) in omega (arith, r, length-drop 20 m)

over-subscription : (m : List ℕ) (c : Code) → length m ≤ message_most → Over (inner 4) other (subscription_avp m c)
unfolding subscription_avp other no_failed is_result is_group same_name
over-subscription m c h =
    let v : List ℕ = value_of user_name (avps m) in
    by-pick (λ (p : List ℕ). Over (inner 4) other p) (eqb (command m) 265 && eqb (number_of c) 2001)
    (λ t.
    over-group other 443 (avp_bytes 450 (in32 1) ++ avp_bytes 444 v) (omega arith) (omega (arith, subscription-length v, up4-most (length v), user-most m)) refl
    (over-append (inner 3) other (avp_bytes 450 (in32 1)) (avp_bytes 444 v) (over-number (inner 3) other 450 1 (omega arith) refl refl)
    (over_plain (inner 3) other 444 v (omega arith) (omega (arith, user-most m)) refl refl)))
    (λ t. over-nil (inner 4) other)

over-proxies : (m : List ℕ) → Over (inner 4) other (proxy_avps m)
unfolding proxy_avps avps walk_by other no_failed is_result same_name
over-proxies m =
    by-pick (λ (p : List ℕ). Over (inner 4) other p) (eqb (header_code m) 0 && eqb (walk_code m) 0)
    (λ t. over-walk (inner 4) other refl (suc (length (drop 20 m))) (drop 20 m))
    (λ t. over-nil (inner 4) other)

-- THE RESULT

-- AVPs among which one tells a result: with M, and no other does, nor is any of them a Failed-AVP.
pub record Tells (xs : List Avp) : Type 0 where
  pub before : List Avp
  pub result : Avp
  pub after : List Avp
  pub are : xs ≡ before ++ (result ∷ after)
  pub others-before : every (λ (a : Avp). other a.name) before ≡ true
  pub others-after : every (λ (a : Avp). other a.name) after ≡ true
  pub its-name : is_result result.name ≡ true
  pub its-flags : flag_byte result ≡ 64

module _ (front back : List ℕ) (F : Over (inner 4) other front) (B : Over (inner 4) other back) where
  tells-by : (code : ℕ) (v : List ℕ) → code < 65536 → length v ≤ 65000 → is_result (base code) ≡ true → Tells (walk (front ++ (avp_bytes code v ++ back))).avps
  tells-by code v small short e =
      let g : Goes (inner 4) other 0 front (avp_bytes code v ++ back) = F 0 (avp_bytes code v ++ back) in
      record {
        before = g.these;
        result = avp_of (avp_bytes code v ++ back);
        after = (walk back).avps;
        are = g.read ∙ ap (λ (xs : List Avp). g.these ++ xs) (own_read code v back small short);
        others-before = g.named;
        others-after = all_named (inner 4) other back B;
        its-name = ap is_result (name-read code v back small short) ∙ e;
        its-flags = own-flags code v back small short;
      }

  -- every code but those that get no answer
  tells-code : (c : Code) → 1 ≤ kind_of c → Tells (walk (front ++ (result_avp c ++ back))).avps
  unfolding result_avp kind_of is_result same_name
  tells-code (none n) h = absurd (omega arith)
  tells-code (plain n) h = tells-by 268 (in32 n) (omega arith) (omega (arith, four n)) refl
  tells-code (experimental n) h = tells-by 297 (avp_bytes 266 (in32 10415) ++ avp_bytes 298 (in32 n)) (omega arith) (group-short n) refl

-- AN ANSWER

module _ (m host realm room : List ℕ) (c : Code) (r : Ready m host realm room) where
  abbrev back : List ℕ
  back = avp_bytes 264 host ++ (avp_bytes 296 realm ++ (subscription_avp m c ++ proxy_avps m))

  over-back : Over (inner 4) other back
  unfolding other no_failed is_result is_group same_name
  over-back =
      over-append (inner 4) other (avp_bytes 264 host) _ (over_plain (inner 4) other 264 host (omega arith) (omega (arith, r.host-fits)) refl refl)
      (over-append (inner 4) other (avp_bytes 296 realm) _ (over_plain (inner 4) other 296 realm (omega arith) (omega (arith, r.realm-fits)) refl refl)
      (over-append (inner 4) other (subscription_avp m c) (proxy_avps m) (over-subscription m c r.most) (over-proxies m)))

  more : (p : List ℕ) → Over (inner 4) other p → Over (inner 4) no_failed p
  more p F = over-more (inner 4) other no_failed other-more p F

  pub over-body : Over (inner 4) no_failed (answer_body m host realm c)
  unfolding answer_body
  over-body =
      over-append (inner 4) no_failed (session_avp m) _ (more (session_avp m) (over-session m))
      (over-append (inner 4) no_failed (auth_avps m c) _ (more (auth_avps m c) (over-auth m c))
      (over-append (inner 4) no_failed (result_avp c) back (over-result c) (more back over-back)))

  pub body_is : drop 20 (answer m host realm c) ≡ answer_body m host realm c
  unfolding answer in24
  body_is = drop_at (part m 5 15) (answer_body m host realm c) 15 (length_part m 5 15 (omega (arith, r.least)))

  pub read_is : avps_of (answer m host realm c) ≡ (walk (answer_body m host realm c)).avps
  unfolding avps_of
  read_is = ap (λ (s : List ℕ). (walk s).avps) body_is

  pub tells-answer : 1 ≤ kind_of c → Tells (avps_of (answer m host realm c))
  unfolding answer_body
  tells-answer h =
      let front : List ℕ = session_avp m ++ auth_avps m c in
      let e : avps_of (answer m host realm c) ≡ (walk (front ++ (result_avp c ++ back))).avps =
      read_is ∙ ap (λ (s : List ℕ). (walk s).avps) (sym (append_assoc (session_avp m) (auth_avps m c) (result_avp c ++ back))) in
      rw e (tells-code front back (over-append (inner 4) other (session_avp m) (auth_avps m c) (over-session m) (over-auth m c)) over-back c h)

-- The first AVP, which the answer repeats where it is a Session-Id: a law for each way out of its tests.
use mathlib.Core.Path.{◌≡◌, refl, sym, ap, ◌∙◌}
use mathlib.Core.Bool.{true, false}
use mathlib.Core.List.{List, []}
use Prim.Native.Nat.{ℕ, ◌+◌, ◌-◌, ◌%◌, ◌≤◌, ◌<◌}
use native.Mathlib.Omega.{arith}
use borrow.Author.Tests.{eqb-true, eq-eqb, ne_eqb}
use lib.Dec.{eqb}
use lib.ListN.{length, get_or, drop, length-drop}
use lib.Seq.{drop-drop, get_or-drop}
use Rattle.octets.specs.Choice.{pick, within}
use Rattle.octets.specs.Texts.{part}
use Rattle.octets.specs.Numbers.{net24, net32, up4}
use Rattle.octets.proofs.Lists.{by-test, in_within, within_low, within-high}
use Rattle.octets.proofs.Texts.{length_part}
use Rattle.message.specs.ReadingAMessage.{same_name, head_length, avp_length, avp_code, avp_of, session_id}
use Rattle.message.specs.WritingTheAnswer.{avp_bytes, session_avp}
use Rattle.answers.specs.Answers.{SessionOf}
use Rattle.message.proofs.Walks.{Passed, passes, up4-least}
use Rattle.message.proofs.Heads.{net24-drop, net32-drop, head-base, name-v, name-base, code-none}

module _ (m : List ℕ) where
  -- nothing is repeated where one of the three fails
  unless-passes : (avp_code (drop 20 m) ≡ 0 → ⊥) → session_avp m ≡ []
  unfolding session_avp pick
  unless-passes h = rw (ne_eqb (avp_code (drop 20 m)) 0 h)

  unless-named : same_name session_id (avp_of (drop 20 m)).name ≡ false → session_avp m ≡ []
  unfolding session_avp pick
  unless-named h = rw h (by-test (eqb (avp_code (drop 20 m)) 0) (λ e. rw e) (λ e. rw e))

  pub session-few : length m < 28 → session_avp m ≡ []
  session-few h =
      unless-passes (λ e.
      let w : 8 ≤ length m - 20 = rw length-drop at (passes (drop 20 m) e).eight in
      omega arith)

  pub session-bits : (get_or m 24 0 % 32 ≡ 0 → ⊥) → session_avp m ≡ []
  session-bits h = unless-passes (λ e. h (rw get_or-drop at (passes (drop 20 m) e).clear))

  pub session-v : 128 ≤ get_or m 24 0 → session_avp m ≡ []
  unfolding same_name
  session-v h = unless-named (rw (name-v (drop 20 m) (rw get_or-drop h)))

  pub session-past : length m - 20 < up4 (net24 m 25) → session_avp m ≡ []
  session-past h =
      unless-passes (λ e.
      let w : up4 (avp_length (drop 20 m)) ≤ length m - 20 = rw length-drop at (passes (drop 20 m) e).whole in
      let w2 : up4 (net24 m 25) ≤ length m - 20 = rw (net24-drop 20 5 m) at w in
      omega arith)

  module _ (v : get_or m 24 0 < 128) where
    name-is : same_name session_id (avp_of (drop 20 m)).name ≡ eqb 263 (net32 m 20)
    unfolding same_name
    name-is = rw (name-base (drop 20 m) (rw get_or-drop v), net32-drop 20 0 m)

    pub session-code : (net32 m 20 ≡ 263 → ⊥) → session_avp m ≡ []
    session-code h = unless-named (name-is ∙ ne_eqb 263 (net32 m 20) (λ e. h (sym e)))

    eight : head_length (drop 20 m) ≡ 8
    eight = head-base (drop 20 m) (rw get_or-drop v)

    value-is : (avp_of (drop 20 m)).value ≡ part m 28 (net24 m 25 - 8)
    unfolding avp_of
    value-is = rw (eight, net24-drop 20 5 m, drop-drop 8 20 m)

    module _ (e : avp_code (drop 20 m) ≡ 0) where
      inside : (20 + net24 m 25 ≤ length m) × (8 ≤ net24 m 25)
      inside =
          let p : Passed (drop 20 m) = passes (drop 20 m) e in
          let x : up4 (avp_length (drop 20 m)) ≤ length m - 20 = rw length-drop at p.whole in
          let y = net24-drop 20 5 m in
          (omega (arith, x, y, p.head, eight, up4-least (avp_length (drop 20 m))), omega (arith, p.head, eight, y))

      value-length : length (avp_of (drop 20 m)).value ≡ net24 m 25 - 8
      value-length = ap length value-is ∙ length_part m 28 (net24 m 25 - 8) (omega (arith, inside.0, inside.1))

    unless-sized : (within 1 128 (net24 m 25 - 8) ≡ false) → session_avp m ≡ []
    unfolding session_avp pick
    unless-sized h =
        by-test (eqb (avp_code (drop 20 m)) 0)
        (λ t.
        let z : within 1 128 (length (avp_of (drop 20 m)).value) ≡ false = rw (value-length (eqb-true (avp_code (drop 20 m)) 0 t)) h in
        rw (t, z) (by-test (same_name session_id (avp_of (drop 20 m)).name) (λ u. rw u) (λ u. rw u)))
        (λ t. rw t)

    pub session-short : net24 m 25 < 9 → session_avp m ≡ []
    session-short h = unless-sized (by-test (within 1 128 (net24 m 25 - 8)) (λ t. absurd (omega (arith, within_low 1 128 (net24 m 25 - 8) t))) (λ t. t))

    pub session-long : 136 < net24 m 25 → session_avp m ≡ []
    session-long h = unless-sized (by-test (within 1 128 (net24 m 25 - 8)) (λ t. absurd (omega (arith, within-high 1 128 (net24 m 25 - 8) t))) (λ t. t))

    module _ (l : 28 ≤ length m) (b : get_or m 24 0 % 32 ≡ 0) (n : net32 m 20 ≡ 263) (s : 9 ≤ net24 m 25) (t : net24 m 25 ≤ 136)
        (w : up4 (net24 m 25) ≤ length m - 20) where
      all_pass : avp_code (drop 20 m) ≡ 0
      all_pass =
          code-none (drop 20 m) (rw length-drop (omega arith)) (rw get_or-drop b) (omega (arith, eight, net24-drop 20 5 m))
          (rw (net24-drop 20 5 m, length-drop) w)

      repeated : session_avp m ≡ avp_bytes 263 (part m 28 (net24 m 25 - 8))
      unfolding session_avp pick
      repeated =
          let q : same_name session_id (avp_of (drop 20 m)).name ≡ true = name-is ∙ eq-eqb 263 (net32 m 20) (sym n) in
          rw (eq-eqb (avp_code (drop 20 m)) 0 all_pass, q, value-length all_pass, in_within 1 128 (net24 m 25 - 8) (omega arith) (omega arith), value-is)

      pub session-found : SessionOf m (net24 m 25)
      session-found =
          record {
            least = s;
            most = t;
            inside = (inside all_pass).0;
            some = repeated;
          }

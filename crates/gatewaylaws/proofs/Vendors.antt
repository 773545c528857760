-- An AVP of 3GPP in front of other bytes is read as it was laid out.
use mathlib.Core.Path.{◌≡◌, refl, sym, ap, ◌∙◌}
use mathlib.Core.Bool.{true}
use mathlib.Core.List.{List, [], ◌∷◌, ◌++◌, append_assoc, append-nil}
use Prim.Native.Nat.{ℕ, ◌+◌, ◌-◌, ◌%◌, ◌≤◌, ◌<◌}
use native.Mathlib.Omega.{arith}
use borrow.Author.Tests.{le-leb}
use lib.Dec.{eqb, leb}
use lib.ListN.{length, get_or, take, drop, length-append}
use lib.Seq.{take_at, drop_at}
use Rattle.octets.specs.Choice.{pick, require, first_of}
use Rattle.octets.specs.Texts.{part, zeros}
use Rattle.octets.specs.Numbers.{net24, net32, in24, in32, up4}
use Rattle.message.specs.ReadingAMessage.{Avp, vendor, head_length, avp_length, avp_code, avp_of, behind, walk}
use Rattle.message.proofs.Heads.{head-v}
use Rattle.message.proofs.Walks.{walk_end, walk-one}
use Rattle.gateway.specs.TheGateway.{vendor_avp}
use Rattle.gateway.proofs.Writing.{length-vendor}

-- as it is read
unfoldable pub sent_vendor : (code : ℕ) → (value : List ℕ) → Avp
sent_vendor code value = record { name = vendor 10415 code; mandatory = true; value = value; bytes = vendor_avp code value }

up4-12 : (n : ℕ) → up4 (12 + n) ≡ 12 + up4 n
unfolding up4
up4-12 n = omega arith

module _ (code : ℕ) (v rest : List ℕ) (small : code < 65536) (short : length v ≤ 128) where
  flags-read : get_or (vendor_avp code v ++ rest) 4 0 ≡ 192
  unfolding vendor_avp in32 in24
  flags-read = refl

  head_read : head_length (vendor_avp code v ++ rest) ≡ 12
  head_read = head-v (vendor_avp code v ++ rest) (rw flags-read (omega arith))

  length-read : avp_length (vendor_avp code v ++ rest) ≡ 12 + length v
  unfolding vendor_avp in32 in24 net24
  length-read = omega arith

  code_read : net32 (vendor_avp code v ++ rest) 0 ≡ code
  unfolding vendor_avp in32 in24 net32
  code_read = omega arith

  vendor-is : net32 (vendor_avp code v ++ rest) 8 ≡ 10415
  unfolding vendor_avp in32 in24 net32
  vendor-is = refl

  value_read : part (vendor_avp code v ++ rest) 12 (length v) ≡ v
  unfolding vendor_avp in32 in24
  value_read =
      let z : List ℕ = zeros (up4 (length v) - length v) in
      ap (take (length v)) (append_assoc v z rest) ∙ take_at v (z ++ rest) (length v) refl

  bytes_read : take (12 + up4 (length v)) (vendor_avp code v ++ rest) ≡ vendor_avp code v
  bytes_read = take_at (vendor_avp code v) rest (12 + up4 (length v)) (length-vendor code v)

  rest_read : drop (12 + up4 (length v)) (vendor_avp code v ++ rest) ≡ rest
  rest_read = drop_at (vendor_avp code v) rest (12 + up4 (length v)) (length-vendor code v)

  size : length (vendor_avp code v ++ rest) ≡ 12 + up4 (length v) + length rest
  size = length-append (vendor_avp code v) rest ∙ rw (length-vendor code v)

  tests-pass : avp_code (vendor_avp code v ++ rest) ≡ 0
  unfolding avp_code first_of require pick
  tests-pass =
      let s : List ℕ = vendor_avp code v ++ rest in
      let a : leb 8 (length s) ≡ true = le-leb 8 (length s) (omega (arith, size)) in
      let b : eqb (get_or s 4 0 % 32) 0 ≡ true = rw flags-read in
      let c : leb (head_length s) (avp_length s) ≡ true = le-leb (head_length s) (avp_length s) (omega (arith, head_read, length-read)) in
      let d : leb (up4 (avp_length s)) (length s) ≡ true = le-leb (up4 (avp_length s)) (length s) (rw (length-read, up4-12 (length v)) (omega (arith, size))) in
      rw (a, b, c, d)

  avp-is : avp_of (vendor_avp code v ++ rest) ≡ sent_vendor code v
  unfolding avp_of sent_vendor pick
  avp-is =
      let q : 12 + length v - 12 ≡ length v = omega arith in
      rw (flags-read, head_read, length-read, code_read, vendor-is, q, value_read, up4-12 (length v), bytes_read)

  -- it is read, and the walk goes on behind it
  pub vendor-read : walk (vendor_avp code v ++ rest) ≡ behind (sent_vendor code v) (walk rest)
  vendor-read =
      walk-one avp_code (λ s e. e) (vendor_avp code v ++ rest) tests-pass
      ∙ rw (avp-is, length-read, up4-12 (length v), rest_read)

pub vendor-last : (code : ℕ) (v : List ℕ) → code < 65536 → length v ≤ 128 → walk (vendor_avp code v) ≡ record { avps = sent_vendor code v ∷ []; code = 0 }
unfolding behind
vendor-last code v small short =
    ap (λ (s : List ℕ). walk s) (sym (append-nil (vendor_avp code v))) ∙ vendor-read code v [] small short ∙ ap (behind (sent_vendor code v)) (walk_end avp_code (λ s e. e) [] refl)

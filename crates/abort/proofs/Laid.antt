-- An AVP of ours in front of other bytes is read as it was laid out, and so is a header of ours.
use mathlib.Core.Path.{◌≡◌, refl, sym, ap, ◌∙◌}
use mathlib.Core.Bool.{true}
use mathlib.Core.List.{List, [], ◌∷◌, ◌++◌, append_assoc, append-nil}
use Prim.Native.Nat.{ℕ, ◌+◌, ◌-◌, ◌*◌, ◌/◌, ◌%◌, ◌≤◌, ◌<◌}
use native.Mathlib.Omega.{arith}
use borrow.Author.Tests.{le-leb}
use lib.Dec.{eqb, leb}
use lib.ListN.{length, get_or, take, drop, length-append}
use lib.Seq.{take_at, drop_at}
use Rattle.octets.specs.Choice.{pick, require, first_of}
use Rattle.octets.specs.Texts.{part, zeros}
use Rattle.octets.specs.Numbers.{net24, net32, in24, in32, up4}
use Rattle.message.specs.ReadingAMessage.{head_length, avp_length, avp_code, avp_of, behind, walk, command, body}
use Rattle.message.specs.WritingTheAnswer.{avp_bytes}
use Rattle.message.proofs.Heads.{head-base}
use Rattle.message.proofs.Walks.{walk_end, walk-one}
use Rattle.answers.proofs.Writing.{length-avp}
use Rattle.abort.specs.TheDisconnection.{header}
use Rattle.abort.specs.TheDisconnectionsRules.{sent}
use Rattle.abort.proofs.Requests.{length-header}

-- ONE AVP

up4-8 : (n : ℕ) → up4 (8 + n) ≡ 8 + up4 n
unfolding up4
up4-8 n = omega arith

module _ (code : ℕ) (v rest : List ℕ) (small : code < 65536) (short : length v ≤ 128) where
  flags-read : get_or (avp_bytes code v ++ rest) 4 0 ≡ 64
  unfolding avp_bytes in32 in24
  flags-read = refl

  head_read : head_length (avp_bytes code v ++ rest) ≡ 8
  head_read = head-base (avp_bytes code v ++ rest) (rw flags-read (omega arith))

  length-read : avp_length (avp_bytes code v ++ rest) ≡ 8 + length v
  unfolding avp_bytes in32 in24 net24
  length-read = omega arith

  code_read : net32 (avp_bytes code v ++ rest) 0 ≡ code
  unfolding avp_bytes in32 in24 net32
  code_read = omega arith

  value_read : part (avp_bytes code v ++ rest) 8 (length v) ≡ v
  unfolding avp_bytes in32 in24
  value_read =
      let z : List ℕ = zeros (up4 (length v) - length v) in
      ap (take (length v)) (append_assoc v z rest) ∙ take_at v (z ++ rest) (length v) refl

  bytes_read : take (8 + up4 (length v)) (avp_bytes code v ++ rest) ≡ avp_bytes code v
  bytes_read = take_at (avp_bytes code v) rest (8 + up4 (length v)) (length-avp code v)

  rest_read : drop (8 + up4 (length v)) (avp_bytes code v ++ rest) ≡ rest
  rest_read = drop_at (avp_bytes code v) rest (8 + up4 (length v)) (length-avp code v)

  size : length (avp_bytes code v ++ rest) ≡ 8 + up4 (length v) + length rest
  size = length-append (avp_bytes code v) rest ∙ rw (length-avp code v)

  tests-pass : avp_code (avp_bytes code v ++ rest) ≡ 0
  unfolding avp_code first_of require pick
  tests-pass =
      let s : List ℕ = avp_bytes code v ++ rest in
      let a : leb 8 (length s) ≡ true = le-leb 8 (length s) (omega (arith, size)) in
      let b : eqb (get_or s 4 0 % 32) 0 ≡ true = rw flags-read in
      let c : leb (head_length s) (avp_length s) ≡ true = le-leb (head_length s) (avp_length s) (omega (arith, head_read, length-read)) in
      let d : leb (up4 (avp_length s)) (length s) ≡ true = le-leb (up4 (avp_length s)) (length s) (rw (length-read, up4-8 (length v)) (omega (arith, size))) in
      rw (a, b, c, d)

  avp-is : avp_of (avp_bytes code v ++ rest) ≡ sent code v
  unfolding avp_of sent pick
  avp-is =
      let q : 8 + length v - 8 ≡ length v = omega arith in
      rw (flags-read, head_read, length-read, code_read, q, value_read, up4-8 (length v), bytes_read)

  -- it is read, and the walk goes on behind it
  pub avp-read : walk (avp_bytes code v ++ rest) ≡ behind (sent code v) (walk rest)
  avp-read =
      walk-one avp_code (λ s e. e) (avp_bytes code v ++ rest) tests-pass
      ∙ rw (avp-is, length-read, up4-8 (length v), rest_read)

pub last-read : (code : ℕ) (v : List ℕ) → code < 65536 → length v ≤ 128 → walk (avp_bytes code v) ≡ record { avps = sent code v ∷ []; code = 0 }
unfolding behind
last-read code v small short =
    ap (λ (s : List ℕ). walk s) (sym (append-nil (avp_bytes code v))) ∙ avp-read code v [] small short ∙ ap (behind (sent code v)) (walk_end avp_code (λ s e. e) [] refl)

-- THE HEADER

-- the four bytes of a number, two by two
low-two : (n : ℕ) → n / 256 % 256 * 256 + n % 256 ≡ n % 65536
low-two n = omega arith

high-two : (n : ℕ) → n < 4294967296 → n / 16777216 % 256 * 256 + n / 65536 % 256 ≡ n / 65536
high-two n h =
    let q : n / 16777216 ≡ n / 65536 / 256 = omega arith in
    rw q (digits (n / 65536) (omega arith))
  where
    digits : (k : ℕ) → k < 65536 → k / 256 % 256 * 256 + k % 256 ≡ k
    digits k h = omega arith

four_bytes : (n : ℕ) → n < 4294967296 → n / 16777216 % 256 * 16777216 + n / 65536 % 256 * 65536 + n / 256 % 256 * 256 + n % 256 ≡ n
four_bytes n h = omega (arith, low-two n, high-two n h)

module _ (n flags number hop end : ℕ) (avps : List ℕ) where
  pub version-read : get_or (header n flags number hop end ++ avps) 0 0 ≡ 1
  unfolding header in24 in32
  version-read = refl

  pub flags-are : get_or (header n flags number hop end ++ avps) 4 0 ≡ flags
  unfolding header in24 in32
  flags-are = refl

  pub size-read : n < 65536 → net24 (header n flags number hop end ++ avps) 1 ≡ n
  unfolding header in24 in32 net24
  size-read h = omega arith

  pub command-read : number < 65536 → command (header n flags number hop end ++ avps) ≡ number
  unfolding header in24 in32 net24
  command-read h = omega arith

  pub hop-read : hop < 4294967296 → net32 (header n flags number hop end ++ avps) 12 ≡ hop
  unfolding header in24 in32 net32
  hop-read h = four_bytes hop h

  pub end_read : end < 4294967296 → net32 (header n flags number hop end ++ avps) 16 ≡ end
  unfolding header in24 in32 net32
  end_read h = four_bytes end h

  pub body-read : body (header n flags number hop end ++ avps) ≡ avps
  body-read = drop_at (header n flags number hop end) avps 20 (length-header n flags number hop end)

-- LENGTHS

pub avp-four : (code : ℕ) (v : List ℕ) → length (avp_bytes code v) % 4 ≡ 0
unfolding up4
avp-four code v = omega (arith, length-avp code v)

pub both-four : (m n : ℕ) → m % 4 ≡ 0 → n % 4 ≡ 0 → (m + n) % 4 ≡ 0
both-four m n h k = omega arith

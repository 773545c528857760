-- Five bytes of ours and fifteen of the message, one behind the other.
use mathlib.Core.Path.{◌≡◌, refl, ◌∙◌}
use mathlib.Core.List.{List, [], ◌∷◌}
use Prim.Native.Nat.{ℕ, ◌/◌, ◌%◌}
use native.Mathlib.Omega.{arith}
use Rattle.octets.specs.Texts.{part}
use Rattle.octets.specs.Numbers.{in24}
use Rattle.octets.proofs.Texts.{put_then}
use Rattle.message.specs.Codes.{plain}
use Rattle.message.specs.WritingTheAnswer.{answer_flags}
use Rattle.answers.specs.Answers.{answer_head}
use Rattle.answers.proofs.put_header.Goals as goal

pub returns : goal.returns
unfolding answer_head in24
returns c =
    let a = c.args in
    let m = c.args.m.now in
    let first : a.n / 65536 % 256 ≡ 0 = omega (arith, c.requires.2) in
    let five : List ℕ = 1 ∷ 0 ∷ a.n / 256 % 256 ∷ a.n % 256 ∷ answer_flags m (plain a.code) ∷ [] in
    c.put_text.ensures
    ∙ rw (
      first,
      c.put_bytes.ensures,
      c.answer_flags.ensures,
      c.to_be_bytes.ensures,
    )
    (put_then a.room.now 0 five (part m 5 15) 5 refl
    (omega (arith, c.requires.1)))

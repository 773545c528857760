-- The place's Session-Id.
use mathlib.Core.Path.{ap, ◌∙◌}
use mathlib.Core.List.{List}
use Prim.Native.Nat.{ℕ}
use Rattle.octets.specs.Texts.{same}
use Rattle.plans.proofs.finding.has_session.Goals as goal

pub returns : goal.returns
returns c =
    let same-bytes-was = c.same_bytes in
    let given = c.args in
    let session-was = c.session in
    same-bytes-was.ensures ∙ ap (λ (t : List ℕ). same t given.session.now) session-was.ensures

-- Below the letters, one of them, and above them: a law of Labels each.
use mathlib.Core.Path.{◌≡◌, sym, ◌∙◌}
use native.Mathlib.Omega.{arith}
use Prim.Native.Nat.{ℕ}
use lib.Dec.{ltb}
use borrow.Author.Tests.{ltb-true, ltb-false}
use Rattle.std.specs.Char.{to_ascii_lowercase}
use Rattle.octets.proofs.Lists.{by-test}
use Rattle.table.specs.Soundness.{lower_case}
use Rattle.table.proofs.Labels.{upper, below, above}
use Rattle.blocks.proofs.lower_case.Goals as goal

same-letter : (x : ℕ) → to_ascii_lowercase x ≡ lower_case x
same-letter x =
    by-test (ltb x 65)
    (λ e. rw e (sym (below x (ltb-true x 65 e))))
    (λ e. by-test (ltb x 91)
    (λ f. rw (e, f) (sym (upper x (ltb-false x 65 e) (omega (arith, ltb-true x 91 f)))))
    (λ f. rw (e, f) (sym (above x (omega (arith, ltb-false x 91 f))))))

pub returns : goal.returns
returns c = c.to_ascii_lowercase.ensures.value ∙ same-letter c.args.x

-- An opening, or the one column of what ends or of what is neither.
use Rattle.std.proofs.Common.{◌≡◌, ℕ, refl, sym, ◌∙◌, arith}
use Rattle.octets.specs.Choice.{pick}
use Rattle.octets.proofs.Lists.{by-test}
use Rattle.report.specs.TheReport.{Told, ended}
use Rattle.report.specs.Code.{told_of, adds}
use Rattle.report.proofs.Columns.{adds-most, ended-counts, ended-else, other-counts, other-else}
use Rattle.report.proofs.adds_to.Goals as goal

module _ (t : Told) (k e : ℕ) (place : t.place ≡ 0) (is : e ≡ pick (ended t) 2 3) where
  in-it : k ≡ e → adds k t ≡ 1
  unfolding pick
  in-it q = by-test (ended t)
      (λ b. let two : e ≡ 2 = rw b at is in ended-counts t k (ended t) place refl b (q ∙ two))
      (λ b. let three : e ≡ 3 = rw b at is in other-counts t k (ended t) place refl b (q ∙ three))

  not-in-it : (k ≡ e → ⊥) → adds k t ≡ 0
  unfolding pick
  not-in-it q = by-test (ended t)
      (λ b. let two : e ≡ 2 = rw b at is in ended-else t k (ended t) place refl b (λ r. q (r ∙ sym two)))
      (λ b. let three : e ≡ 3 = rw b at is in other-else t k (ended t) place refl b (λ r. q (r ∙ sym three)))

pub returns-then-t-ne0 : goal.returns-then-t-ne0
returns-then-t-ne0 c = (c.opening_adds.ensures, omega (arith, c.opening_adds.ensures, adds-most c.args.k (told_of c.args.t)))

pub returns-then-k-ending_column : goal.returns-then-k-ending_column
unfolding told_of
returns-then-k-ending_column c =
    (sym (in-it (told_of c.args.t) c.args.k _ c.if-t-ne0.false c.ending_column.ensures.0 c.if-k-ending_column.true), omega arith)

pub returns-else-k-ending_column : goal.returns-else-k-ending_column
unfolding told_of
returns-else-k-ending_column c =
    (sym (not-in-it (told_of c.args.t) c.args.k _ c.if-t-ne0.false c.ending_column.ensures.0 c.if-k-ending_column.false), omega arith)

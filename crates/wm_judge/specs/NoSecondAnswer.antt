-- No second judgement in C: what `wm_judge` promises for the same inputs is met by one outcome only, in the struct that it returns and in every byte of the row and of
-- both rooms. The equation is the one that it ensures; `proofs/Ensured` holds it to that.
use Rattle.std.specs.Prelude.{◌≡◌, List, ℕ}
use Rattle.judge.specs.TheJudge.{Case, judge}
use Rattle.wm_judge.specs.declared.WmJudged.{WmJudged}
use Rattle.wm_judge.specs.InC.{leaves_in_c}

-- All that it gives back: the struct, and the full contents of the row and of both rooms.
pub record GivenInC : Type 0 where
  pub numbers : WmJudged
  pub row : List ℕ
  pub answer : List ℕ
  pub notice : List ℕ

-- What it ensures of that, for a case.
abbrev pub PromisedInC : Case → GivenInC → Type 0
PromisedInC j g = leaves_in_c g.numbers g.row g.answer g.notice ≡ judge j

abbrev pub OneJudgementInC : Type 0
OneJudgementInC = (j : Case) (g h : GivenInC) → PromisedInC j g → PromisedInC j h → g ≡ h

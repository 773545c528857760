-- All that was given back can be read back from all that was left, so that what is equal there was equal before.
use mathlib.Core.Path.{◌≡◌, refl, sym, ap, ◌∙◌}
use Rattle.judge.specs.TheJudge.{Judgement}
use Rattle.wm_judge.specs.InC.{leaves_in_c}
use Rattle.wm_judge.specs.NoSecondAnswer.{GivenInC, OneJudgementInC}

given_back : Judgement → GivenInC
given_back l =
    record {
      numbers = record { number = l.finding.number; mismatch = l.finding.mismatch; at = l.finding.at };
      row = l.row;
      answer = l.answer;
      notice = l.notice;
    }

given_back_lem : (g : GivenInC) → given_back (leaves_in_c g.numbers g.row g.answer g.notice) ≡ g
unfolding given_back leaves_in_c
given_back_lem g = refl

pub one-judgement-in-c : OneJudgementInC
one-judgement-in-c j g h p q = sym (given_back_lem g) ∙ ap given_back (p ∙ sym q) ∙ given_back_lem h

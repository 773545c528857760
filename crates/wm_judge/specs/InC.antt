-- What judging gives back in C, in the paper's numbers.
use Rattle.std.specs.Prelude.{List, ℕ}
use Rattle.judge.specs.TheJudge.{Judgement}
use Rattle.wm_judge.specs.declared.WmJudged.{WmJudged}

-- What it leaves: its three numbers, the row and both rooms.
unfoldable pub leaves_in_c : WmJudged → (row answer notice : List ℕ) → Judgement
leaves_in_c r row answer notice =
    record { finding = record { number = r.number; mismatch = r.mismatch; at = r.at }; row = row; answer = answer; notice = notice }

-- The notice is written from the row as it was; then the row is what the cut and the opening leave.
use Rattle.effects.proofs.open_with_cut.Goals as goal

pub returns : goal.returns
returns c =
    let new = c.cut_and_open-place in
    let noted = c.write_notice-cut in
    (new.ensures.0, noted.ensures.0, λ j. record { place = new.ensures.1 j; cut = noted.ensures.1 j })

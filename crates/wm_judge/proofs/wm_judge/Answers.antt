-- What judging leaves, its numbers by their names in C. Written out so that a call with other arguments is refused here, at the promise.
use Rattle.judge.specs.Code.{leaves, finding_of}
use Rattle.wm_judge.specs.InC.{leaves_in_c}
use Rattle.wm_judge.proofs.wm_judge.Goals as goal

pub returns : goal.returns
unfolding leaves_in_c leaves finding_of
returns c = c.judge-f.ensures

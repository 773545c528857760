-- `search` finds this too. It is written out so that a call with other arguments is refused here, at the promise.
use Rattle.wm.proofs.wm_add.Goals as goal

pub returns : goal.returns
returns c = c.add.ensures

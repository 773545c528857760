-- The number of rooms that are still to be taken falls.
use Rattle.replay.proofs.+run_large.Given as goal

abbrev pub decreases-run_large : goal.decreases-run_large
decreases-run_large l = l.more

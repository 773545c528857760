-- A room more is one less to come: `run_below` at n calls `run_large` at n - 1, and `run_large` at n calls `run_below` at the same n.
use Rattle.std.proofs.Common.{◌+◌}
use Rattle.wm_tool.proofs.+run_below_run_large.Given as goal

abbrev pub decreases-run_below : goal.decreases-run_below
decreases-run_below l = l.more + l.more

abbrev pub decreases-run_large : goal.decreases-run_large
decreases-run_large l = l.more + l.more + 1

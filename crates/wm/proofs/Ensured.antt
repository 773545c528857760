-- No second answer, of the operations themselves. `Learnt` is what an operation ensures, as its callers learn it: of the arguments `a`, of what is
-- returned, and of the arguments `x` or `y` as they stand afterwards. What proves the theorem is the statement of specs/ at these arguments, so
-- that its equation is held to the operation's own.
use mathlib.Core.Path.{◌≡◌}
use Prim.Native.Nat.{ℕ}
use contract.Lifetimes.{Lfts}
use denote.Triple.Clauses.{AtExit}
use borrow.Fn.Kinds.{Dens, ended_of}
use Rattle.numbers.specs.declared.Numbers.{Numbers}
use Rattle.setup.proofs.clear.Reads as Clearing
use Rattle.setup.proofs.enter.Reads as Entering
use Rattle.setup.proofs.add.Reads as Adding
use Rattle.moving.proofs.move_table.Reads as Moving
use Rattle.report.proofs.count.Reads as Counting
use Rattle.report.proofs.add.Reads as AddingReports
use Rattle.report.proofs.rate.Reads as Rating
use Rattle.report.specs.declared.Ratio.{Ratio}
use Rattle.wm.specs.NoSecondAnswer.{GivenInC}
use Rattle.wm.proofs.wm_clear.Kinds as Clear
use Rattle.wm.proofs.wm_clear.Reads as WmClear
use Rattle.wm.proofs.wm_enter.Kinds as Enter
use Rattle.wm.proofs.wm_enter.Reads as WmEnter
use Rattle.wm.proofs.wm_add.Kinds as Add
use Rattle.wm.proofs.wm_add.Reads as WmAdd
use Rattle.wm.proofs.wm_move.Kinds as Move
use Rattle.wm.proofs.wm_move.Reads as WmMove
use Rattle.wm.proofs.wm_handle.Kinds as Handle
use Rattle.wm.proofs.wm_handle.Reads as Handling
use Rattle.wm.proofs.wm_report_count.Kinds as ReportCount
use Rattle.wm.proofs.wm_report_count.Reads as WmReportCount
use Rattle.wm.proofs.wm_report_add.Kinds as ReportAdd
use Rattle.wm.proofs.wm_report_add.Reads as WmReportAdd
use Rattle.wm.proofs.wm_report_rate.Kinds as ReportRate
use Rattle.wm.proofs.wm_report_rate.Reads as WmReportRate
use Rattle.wm.proofs.NoSecondAnswer.{one-answer-in-c}

-- table, form, operator, host, realm, message, wag, answer, notice
module _ (κs : Lfts 6) (a : Dens κs Handle.ps) where
  abbrev After : Type 0
  After = AtExit (ended_of 6 Handle.ps Handle.r) κs

  abbrev given : Numbers → After → GivenInC
  given o x = record { outcome = o; table = x.0.now; answer = x.1.1.1.1.1.1.1.0.now; notice = x.1.1.1.1.1.1.1.1.0.now }

  pub handle-gives-one : (o p : Numbers) (x y : After) → Handling.Learnt κs a o x → Handling.Learnt κs a p y → given o x ≡ given p y
  handle-gives-one o p x y =
      one-answer-in-c a.1.0 a.0.now a.1.1.0 a.1.1.1.0.now a.1.1.1.1.0.now a.1.1.1.1.1.0.now a.1.1.1.1.1.1.0 a.1.1.1.1.1.1.1.0.now
      a.1.1.1.1.1.1.1.1.0.now (given o x) (given p y)

-- SET-UP: each ensures what the operation of `setup` does, word for word.

pub clear-as-set-up : (κs : Lfts 1) (a : Dens κs Clear.ps) (n : ℕ) (x : AtExit (ended_of 1 Clear.ps Clear.r) κs) → WmClear.Learnt κs a n x → Clearing.Learnt κs a n x
clear-as-set-up κs a n x e = e

pub enter-as-set-up : (κs : Lfts 3) (a : Dens κs Enter.ps) (n : ℕ) (x : AtExit (ended_of 3 Enter.ps Enter.r) κs) → WmEnter.Learnt κs a n x → Entering.Learnt κs a n x
enter-as-set-up κs a n x e = e

pub add-as-set-up : (κs : Lfts 3) (a : Dens κs Add.ps) (n : ℕ) (x : AtExit (ended_of 3 Add.ps Add.r) κs) → WmAdd.Learnt κs a n x → Adding.Learnt κs a n x
add-as-set-up κs a n x e = e

pub move-as-moving : (κs : Lfts 2) (a : Dens κs Move.ps) (n : ℕ) (x : AtExit (ended_of 2 Move.ps Move.r) κs) → WmMove.Learnt κs a n x → Moving.Learnt κs a n x
move-as-moving κs a n x e = e

-- THE REPORT: each ensures what the operation of `report` does, word for word, so that `Rattle.report` has its "no second answer" too.

pub count-as-report : (κs : Lfts 2) (a : Dens κs ReportCount.ps) (n : ℕ) (x : AtExit (ended_of 2 ReportCount.ps ReportCount.r) κs)
    → WmReportCount.Learnt κs a n x → Counting.Learnt κs a n x
count-as-report κs a n x e = e

pub add-as-report : (κs : Lfts 2) (a : Dens κs ReportAdd.ps) (n : ℕ) (x : AtExit (ended_of 2 ReportAdd.ps ReportAdd.r) κs)
    → WmReportAdd.Learnt κs a n x → AddingReports.Learnt κs a n x
add-as-report κs a n x e = e

pub rate-as-report : (κs : Lfts 1) (a : Dens κs ReportRate.ps) (r : Ratio) (x : AtExit (ended_of 1 ReportRate.ps ReportRate.r) κs)
    → WmReportRate.Learnt κs a r x → Rating.Learnt κs a r x
rate-as-report κs a r x e = e

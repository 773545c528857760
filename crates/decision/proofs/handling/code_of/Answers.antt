-- Case by case of the plan.
use Rattle.message.specs.Codes.{number_of}
use Rattle.plans.specs.Plans.{plan_code}
use Rattle.decision.proofs.handling.code_of.Goals as goal

pub returns-in-NotSubscribed : goal.returns-in-NotSubscribed
unfolding plan_code number_of
returns-in-NotSubscribed c = rw c.in-NotSubscribed.is

pub returns-in-Barred : goal.returns-in-Barred
unfolding plan_code number_of
returns-in-Barred c = rw c.in-Barred.is

pub returns-in-RoamingNotAllowed : goal.returns-in-RoamingNotAllowed
unfolding plan_code number_of
returns-in-RoamingNotAllowed c = rw c.in-RoamingNotAllowed.is

pub returns-in-UnableToComply : goal.returns-in-UnableToComply
unfolding plan_code number_of
returns-in-UnableToComply c = rw c.in-UnableToComply.is

pub returns-in-UnusedByUser : goal.returns-in-UnusedByUser
unfolding plan_code number_of
returns-in-UnusedByUser c = rw c.in-UnusedByUser.is

pub returns-in-Stands : goal.returns-in-Stands
unfolding plan_code number_of
returns-in-Stands c = rw c.in-Stands.is

pub returns-in-Open : goal.returns-in-Open
unfolding plan_code number_of
returns-in-Open c = rw c.in-Open.is

pub returns-in-Route : goal.returns-in-Route
unfolding plan_code number_of
returns-in-Route c = rw c.in-Route.is

pub returns-in-Free : goal.returns-in-Free
unfolding plan_code number_of
returns-in-Free c = rw c.in-Free.is

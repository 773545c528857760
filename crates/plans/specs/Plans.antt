-- Deciding: what each case of the code's plan means.
use Rattle.std.specs.Prelude.{Bool, true, ◌&&◌, List, [], ℕ, Option, Some, None, eqb, leb, ltb, length}
use Rattle.octets.specs.Choice.{pick, within}
use Rattle.octets.specs.Lists.{is_on}
use Rattle.message.specs.ReadingAMessage.{Ask, tunnel, policy, termination}
use Rattle.message.specs.Codes.{Code, plain, roaming_not_allowed, unused_by_user, no_subscription}
use Rattle.table.specs.Soundness.{only_behind}
use Rattle.table.specs.TheTable.{Policies, Subscriber, order_line, read_row}
use Rattle.changes.specs.Changes.{Opening, freed, routed}
use Rattle.plans.specs.declared.Plan.{Plan}
use Rattle.plans.specs.declared.Plan.TheVariants.{NotSubscribed, Barred, RoamingNotAllowed, UnableToComply, UnusedByUser, Stands, Open, Route, Free}
use Rattle.rules.specs.Deciding.{Verdict, refuse, grant, open_on, at_place}

-- What a search gives that the paper has answer with a number counted from 1: the number, or none for 0.
unfoldable pub found : ℕ → Option ℕ
found n = pick (eqb n 0) None (Some n)

-- The code of a plan: a refusal's own, and 2001 for an access that goes on and for a change.
unfoldable pub plan_code : Plan → Code
plan_code NotSubscribed = no_subscription
plan_code Barred = plain 5003
plan_code RoamingNotAllowed = roaming_not_allowed
plan_code UnableToComply = plain 5012
plan_code UnusedByUser = unused_by_user
plan_code Stands = plain 2001
plan_code (Open n cut) = plain 2001
plan_code (Route k) = plain 2001
plan_code (Free k) = plain 2001

-- The texts that a request brings for its change: those of a new access, and policies.
pub record Brought : Type 0 where
  pub opening : Opening
  pub policies : Policies

-- The verdict that a plan stands for, for a request that brings these texts.
unfoldable pub planned : Brought → Plan → Subscriber → Verdict
planned b NotSubscribed s = refuse (plan_code NotSubscribed) s
planned b Barred s = refuse (plan_code Barred) s
planned b RoamingNotAllowed s = refuse (plan_code RoamingNotAllowed) s
planned b UnableToComply s = refuse (plan_code UnableToComply) s
planned b UnusedByUser s = refuse (plan_code UnusedByUser) s
planned b Stands s = grant s
planned b (Open n None) s = open_on n b.opening [] s
planned b (Open n (Some k)) s = open_on n b.opening (at_place k s.accesses) (freed k s)
planned b (Route k) s = grant (routed k b.policies s)
planned b (Free k) s = grant (freed k s)

-- Policies that can be written: the first has 1 to 128 bytes, the others at most 128.
unfoldable pub fit_policies : Policies → Bool
fit_policies p = within 1 128 (length p.first) && (leb (length p.second) 128 && leb (length p.third) 128)

-- A plan that can be carried out on a row: a new access has an entry and finds a free place, once the cut is made; every
-- other change is to a place that is in use; and policies can be written.
unfoldable pub fit_plan : Policies → Plan → List ℕ → Bool
fit_plan p NotSubscribed r = true
fit_plan p Barred r = true
fit_plan p RoamingNotAllowed r = true
fit_plan p UnableToComply r = true
fit_plan p UnusedByUser r = true
fit_plan p Stands r = true
fit_plan p (Open n None) r = within 1 4 n && ltb (length (read_row r).accesses) 8
fit_plan p (Open n (Some k)) r = within 1 4 n && is_on (order_line r) k
fit_plan p (Route k) r = is_on (order_line r) k && fit_policies p
fit_plan p (Free k) r = is_on (order_line r) k

-- What the lists have tested of the texts that a change stores in a table of the form: Session-Id, host and realm of 1 to 128 bytes; a first
-- policy of 1 to 128, in form 2 a second and a third of at most 128, none behind one that is not there, and in form 1 neither.
unfoldable pub fitting : (form : ℕ) → Ask → Bool
fitting f (tunnel session host realm label visited) =
    within 1 128 (length session) && (within 1 128 (length host) && within 1 128 (length realm))
fitting f (policy session first second third) =
    within 1 128 (length first) && (leb (length second) (pick (eqb f 2) 128 0) && (leb (length third) (pick (eqb f 2) 128 0)
    && (only_behind (length second) (length first) && only_behind (length third) (length second))))
fitting f (termination session label) = true

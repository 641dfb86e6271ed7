-- What becomes of an operation: a plan of what is remembered of the clients.
use Rattle.std.specs.Prelude.{ℕ, List, ◌++◌, Option}
use Rattle.xl_nfs.specs.declared.status.NfsStatus.{NfsStatus}
use Rattle.xl_nfs.specs.declared.status.NfsStatus.TheVariants as statuses
use Rattle.xl_nfs_state.specs.State.{NfsLists}
use Rattle.xl_core.specs.State.{CoreState}
use Rattle.xl_core.specs.declared.ask.Effect.{Effect}
use Rattle.xl_plan.specs.Plans as plans
use Rattle.xl_nfs_opens.specs.Seqids.{kept_status}
use Rattle.xl_nfs_opens.specs.declared.told.Told.{Told}
use Rattle.xl_nfs_opens.specs.declared.told.Told.TheVariants.{Ended, Handle, Client, Opened, State, Free, Denied, Kept}

-- an operation is answered with this, with the current handle then
abbrev pub Plan : Type 0
Plan = plans.Plan NfsLists (Told × Option ℕ)

-- what is answered, the current handle, what the core tells of besides, what is remembered of the clients, and the core
abbrev pub Outcome : Type 0
Outcome = Told × Option ℕ × List Effect × NfsLists × CoreState

-- behind what was told of before
abbrev pub told_behind : List Effect → Outcome → Outcome
told_behind effects r = (r.0, r.1, effects ++ r.2, r.3, r.4)

abbrev pub as_outcome : plans.Outcome NfsLists (Told × Option ℕ) → Outcome
as_outcome r = (r.0.0, r.0.1, r.1, r.2, r.3)

-- what an operation comes to, in a step of which n stores succeed
abbrev pub carried : ℕ → CoreState → NfsLists → Plan → Outcome
carried n s l plan = as_outcome (plans.carried n s l plan)

-- how it ended
abbrev pub status_of : Told → NfsStatus
status_of (Ended status) = status
status_of (Handle file) = statuses.Ok
status_of (Client confirm) = statuses.Ok
status_of (Opened stateid flags delegation) = statuses.Ok
status_of (State stateid) = statuses.Ok
status_of Free = statuses.Ok
status_of (Denied held) = statuses.Denied
status_of (Kept bytes) = kept_status bytes

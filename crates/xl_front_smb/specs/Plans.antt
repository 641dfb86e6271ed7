-- What becomes of a request.
use Rattle.std.specs.Prelude.{ℕ, nat_lt, Bool, not, ◌&&◌, if◌then◌else◌, List, [], ◌∷◌, length, is_some}
use Rattle.xl_smb_state.specs.Links.{most_waiting}
use Rattle.xl_smb_state.specs.State.{Lists, with_open, waiting_of, waiting_added}
use Rattle.xl_smb_state.specs.declared.row.Open.{Open}
use Rattle.xl_smb_state.specs.declared.row.Waiting.{Waiting}
use Rattle.xl_wait.specs.Waiting.{no_rows}
use Rattle.xl_smb_locks.specs.Levels.{caching}
use Rattle.xl_smb_locks.specs.Locks.{lock_told}
use Rattle.xl_smb_locks.specs.Statuses.{comes_to}
use Rattle.xl_smb_locks.specs.declared.levels.Caching.{Caching}
use Rattle.xl_smb_locks.specs.declared.locking.Locking.{Locking}
use Rattle.xl_smb_locks.specs.declared.locking.Locking.TheVariants as locking
use Rattle.xl_wait.specs.declared.waiter.Rooms.{Rooms}
use Rattle.xl_core.specs.Deeds.{Deed, Draws}
use Rattle.xl_core.specs.State.{CoreState}
use Rattle.xl_core.specs.declared.ask.Answer.{Answer}
use Rattle.xl_core.specs.declared.ask.Ask.{Ask}
use Rattle.xl_plan.specs.Answers.{by_answers}
use Rattle.xl_plan.specs.Plans as plans
use Rattle.xl_smb_locks.specs.declared.status.SmbStatus.{SmbStatus}
use Rattle.xl_smb_locks.specs.declared.status.SmbStatus.TheVariants.{SharingViolation}
use Rattle.xl_front_smb.specs.declared.told.Told.{Told}
use Rattle.xl_front_smb.specs.declared.told.Told.TheVariants.{Nothing, Failed, Opened, Locked, Pending}

-- It fails so, and nothing is done. Or these deeds are done to the core, these lists are kept, and this is answered. Or
-- this number is drawn and this is asked: if it is granted, this open is under the number, and is answered under this
-- id; and if it waits this is kept of the request. Or locks are asked for, and if they wait this is kept of the
-- request.
pub data Plan : Type 0 where
  Fails : SmbStatus → Plan
  Does : List Deed → Lists → Told → Plan
  Opens : Rooms → Ask → ℕ → Open → ℕ → Waiting → Plan
  Locks : Ask → Waiting → Plan

-- ---- what an answer makes of it

-- there is room for a request that waits under this number, and none waits under it yet: so it is, as each that waits is a
-- waiter of the core, which has room for as many and numbers of their own for them (SMB-25)
abbrev pub has_room_to_wait : Lists → ℕ → Bool
has_room_to_wait l id = nat_lt (length l.waiting) most_waiting && not (is_some (waiting_of id l))

-- a request that waits is kept
abbrev pub with_waiting : ℕ → Waiting → Lists → Lists
with_waiting id row l = if has_room_to_wait l id then waiting_added id row l else l

-- what it is answered, if this is the answer once it is done
abbrev pub told_by : Told → Locking → Told
told_by done locking.Done = done
told_by done (locking.Failed status) = Failed status
told_by done (locking.Waits id) = Pending id

-- the lists then, if they are these once it is done; of one that waits this row is kept
abbrev pub lists_by : Lists → Waiting → Lists → Locking → Lists
lists_by done row l locking.Done = done
lists_by done row l (locking.Failed status) = l
lists_by done row l (locking.Waits id) = with_waiting id row l

-- what an open is answered, which then has this cache
abbrev pub opened_told : ℕ → Caching → Answer → Told
opened_told id cache answer = told_by (Opened id cache) (comes_to SharingViolation answer)

abbrev pub opened_lists : Lists → ℕ → Open → Waiting → Answer → Lists
opened_lists l number row waiting answer = lists_by (with_open number row l) waiting l (comes_to SharingViolation answer)

-- what locks and unlocks are answered
abbrev pub told_as : Locking → Told
told_as r = told_by Locked r

abbrev pub lists_as : Waiting → Lists → Locking → Lists
lists_as row l r = lists_by l row l r

-- ---- what it comes to

-- as a plan of the lists, by which this is answered
abbrev pub as_plan : Lists → Plan → plans.Plan Lists Told
as_plan l (Fails status) = plans.Tells (Failed status)
as_plan l (Does deeds lists told) = plans.Does deeds lists told
as_plan l (Opens left a number row id waiting) =
    plans.Behind (Draws ∷ []) l (λ u. plans.Asking left a (λ answer t. plans.Does [] (opened_lists l number row waiting answer) (opened_told id (caching t number row) answer)))
as_plan l (Locks a row) = plans.Asking no_rows a (λ answer t. plans.Does [] (lists_as row l (lock_told answer)) (told_as (lock_told answer)))

abbrev pub deeds_of : ℕ → CoreState → Lists → Plan → List Deed
deeds_of n s l plan = plans.deeds_of n s (as_plan l plan)

-- what is answered, what the core tells of besides, the lists, and the core
abbrev pub Outcome : Type 0
Outcome = plans.Outcome Lists Told

-- what a request comes to, in a step of which n stores succeed
abbrev pub carried : ℕ → CoreState → Lists → Plan → Outcome
carried n s l plan = plans.carried n s l (as_plan l plan)

-- what is answered and which lists are kept, by what the deeds are answered, and by the state that they leave
abbrev pub answered_by : CoreState → Lists → Plan → List Answer → Told × Lists
answered_by t l plan answers = by_answers t l Nothing (as_plan l plan) answers

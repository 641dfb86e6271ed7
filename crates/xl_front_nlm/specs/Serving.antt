-- What becomes of a call (XNFS C702, chapter 14): it is answered so at once, or the core is asked, or one deed is done
-- to it.
use Rattle.std.specs.Prelude.{ℕ, Bool, true, false, if◌then◌else◌, List, [], ◌∷◌, Option, Some, None, Result, Ok, Err}
use Rattle.xl_base.specs.declared.name.Party.TheVariants as parties
use Rattle.xl_base.specs.declared.name.Protocol.TheVariants.{Nlm}
use Rattle.xl_names.specs.Names.{number_of}
use Rattle.xl_names.specs.declared.name.Name.{Name}
use Rattle.xl_names.specs.declared.name.Name.TheVariants.{NlmParty}
use Rattle.xl_nlm.specs.Items.{LockArgsItem, CallItem, Test, Lock, Cancel, Unlock, Share, Unshare, NmLock, FreeAll}
use Rattle.xl_wait.specs.declared.waiter.Rooms.{Rooms}
use Rattle.xl_core.specs.State.{CoreState}
use Rattle.xl_core.specs.Deeds.{Deed, GivesBack, Cancels, Ends}
use Rattle.xl_core.specs.declared.ask.Answer.{Answer}
use Rattle.xl_core.specs.declared.ask.Ask.{Ask}
use Rattle.xl_core.specs.declared.ask.Effect.{Effect}
use Rattle.xl_plan.specs.Plans.{Plan, Tells, Does, Asking, carried}
use Rattle.xl_front_nlm.specs.Aims.{exported, aimed}
use Rattle.xl_front_nlm.specs.Asks.{test_ask, lock_ask, unlock_ask, share_ask}
use Rattle.xl_front_nlm.specs.Hosts.{rooms, host_rows}
use Rattle.xl_front_nlm.specs.Standing.{waiter_for, does_wait, share_held}
use Rattle.xl_front_nlm.specs.State.{FrontState, noted}
use Rattle.xl_front_nlm.specs.declared.aim.Aim.{Aim}
use Rattle.xl_front_nlm.specs.declared.outcome.Outcome.{Outcome}
use Rattle.xl_front_nlm.specs.declared.outcome.Outcome.TheVariants.{NoFile, Waits, NotWaiting, Answered, Ended, Nothing}

-- ---- the table

-- a plan of what the front keeps, by which the call has this outcome
abbrev pub CallPlan : Type 0
CallPlan = Plan FrontState Outcome

-- the caller, if there is one, is a host from then on if the answer makes it one
abbrev pub hosted : Option (List ℕ) → Answer → FrontState → FrontState
hosted None answer f = f
hosted (Some caller) answer f = noted answer caller f

-- this is asked, and the call is answered as the core answers
abbrev pub asks : Option (List ℕ) → FrontState → Rooms → Ask → CallPlan
asks host f left a = Asking left a (λ answer t. Does [] (hosted host answer f) (Answered answer))

-- this is done, which gives up what the call names
abbrev pub does : FrontState → Deed → CallPlan
does f deed = Does (deed ∷ []) f Ended

-- for the bytes that a lock names, if it names some
abbrev pub at_bytes : (Aim → CallPlan) → Result Aim Outcome → CallPlan
at_bytes plan (Err outcome) = Tells outcome
at_bytes plan (Ok at) = plan at

-- on the file that a handle names, if it names one
abbrev pub on_file : (ℕ → CallPlan) → Option ℕ → CallPlan
on_file plan None = Tells NoFile
on_file plan (Some file) = plan file

-- for what is found, if it is
abbrev pub if_found : {A : Type 0} → FrontState → Outcome → (A → Deed) → Option A → CallPlan
if_found f none deed None = Tells none
if_found f none deed (Some found) = does f (deed found)

-- one who asks for the same again waits on, whether it blocks or not, and also if it reclaims (NLM-5)
abbrev pub lock_plan : Bool → FrontState → CoreState → LockArgsItem → Aim → CallPlan
lock_plan monitored f s a at = if does_wait s a at then Tells Waits else asks (Some a.lock.caller_name) f (rooms f.hosts) (lock_ask monitored (host_rows a.lock.caller_name f.hosts) a at)

-- a lock, of a caller who is monitored or not
abbrev pub locking : Bool → ℕ → FrontState → CoreState → LockArgsItem → CallPlan
locking monitored count f s a = at_bytes (λ at. lock_plan monitored f s a at) (aimed count a.lock)

-- What each call does, if so many files are exported. TEST, LOCK, UNLOCK and SHARE ask; who is granted a lock or a
-- share, or waits for a lock, is a host from then on. CANCEL takes out the waiter of the same owner, file, range and
-- mode, whether it was said to block or not. UNSHARE gives back the owner's share on the file. FREE_ALL ends its caller
-- as a party. NM_LOCK does what LOCK does, but its caller isn't recorded (NLM-6, NLM-9, NLM-12, NLM-13).
unfoldable pub planned : ℕ → FrontState → CoreState → CallItem → CallPlan
planned count f s (Test a) = at_bytes (λ at. asks None f (rooms f.hosts) (test_ask a at)) (aimed count a.lock)
planned count f s (Lock a) = locking true count f s a
planned count f s (Cancel a) = at_bytes (λ at. if_found f NotWaiting (λ id. Cancels id) (waiter_for s a.lock a.exclusive at)) (aimed count a.lock)
planned count f s (Unlock a) = at_bytes (λ at. asks None f (rooms f.hosts) (unlock_ask a at)) (aimed count a.lock)
planned count f s (Share a) = on_file (λ file. asks (Some a.caller_name) f (rooms f.hosts) (share_ask (host_rows a.caller_name f.hosts) a file)) (exported count a.fh)
planned count f s (Unshare a) = on_file (λ file. if_found f Ended (λ claim. GivesBack claim) (share_held s a file)) (exported count a.fh)
planned count f s (NmLock a) = locking false count f s a
planned count f s (FreeAll a) = if_found f Ended (λ number. Ends (parties.Name Nlm number)) (number_of (NlmParty a.name) s.names)
planned count f s _ = Tells Nothing

-- ---- what it comes to

-- what becomes of a call: its outcome, the effects, and the front and the core afterwards, if n stores succeed in the
-- step
unfoldable pub served : ℕ → ℕ → FrontState → CoreState → CallItem → Outcome × List Effect × FrontState × CoreState
served n count f s call = carried n s f (planned count f s call)

-- ---- whose call it is

-- who is a host from then on if it is granted a lock or a share, or waits for a lock
abbrev pub host_of : CallItem → Option (List ℕ)
host_of (Lock a) = Some a.lock.caller_name
host_of (NmLock a) = Some a.lock.caller_name
host_of (Share a) = Some a.caller_name
host_of _ = None

-- the client that a call names
abbrev pub client_of : CallItem → Option Name
client_of (Test a) = Some (NlmParty a.lock.caller_name)
client_of (Lock a) = Some (NlmParty a.lock.caller_name)
client_of (Cancel a) = Some (NlmParty a.lock.caller_name)
client_of (Unlock a) = Some (NlmParty a.lock.caller_name)
client_of (Share a) = Some (NlmParty a.caller_name)
client_of (Unshare a) = Some (NlmParty a.caller_name)
client_of (NmLock a) = Some (NlmParty a.lock.caller_name)
client_of (FreeAll a) = Some (NlmParty a.name)
client_of _ = None

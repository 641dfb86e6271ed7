-- What a request asks for: the file that it names, a reclaim only if it says so, monitored if it is a LOCK or a SHARE, with the state of
-- its host if it names one, and with the room that is left for hosts (XNFS C702).
use Rattle.std.specs.Prelude.{◌≡◌, ◌-◌, ℕ, Bool, true, false, List, Option, Some, None}
use Rattle.std.specs.List.{AllByRecursion}
use Rattle.xl_base.specs.declared.stable.Mark.{Mark}
use Rattle.xl_base.specs.declared.stable.Mark.TheVariants.{State}
use Rattle.xl_nlm.specs.Items.{CallItem, Test, Lock, Cancel, Unlock, Share, Unshare, NmLock}
use Rattle.xl_programs.specs.Programs.{RequestItem}
use Rattle.xl_rpc.specs.Xdr.{signed}
use Rattle.xl_core.specs.Deeds.{Deed, Asks}
use Rattle.xl_core.specs.Limits.{most_hosts}
use Rattle.xl_front_nlm.specs.Aims.{exported}
use Rattle.xl_front_nlm.specs.FrontNlm.{call_in}

-- the handle of the file that a call names, if it names one
abbrev pub handle_of : CallItem → Option (List ℕ)
handle_of (Test a) = Some a.lock.fh
handle_of (Lock a) = Some a.lock.fh
handle_of (Cancel a) = Some a.lock.fh
handle_of (Unlock a) = Some a.lock.fh
handle_of (Share a) = Some a.fh
handle_of (Unshare a) = Some a.fh
handle_of (NmLock a) = Some a.lock.fh
handle_of call = None

-- the call says that it reclaims
abbrev pub reclaims : CallItem → Bool
reclaims (Lock a) = a.reclaim
reclaims (NmLock a) = a.reclaim
reclaims (Share a) = a.reclaim
reclaims call = false

-- the call's caller is monitored: it is recorded before it is granted something (XNFS C702, NLM_LOCK, NLM_NM_LOCK)
abbrev pub monitors : CallItem → Bool
monitors (Lock a) = true
monitors (Share a) = true
monitors call = false

-- what the call's caller is recorded with, and what its reclaim is checked against: the state of its host, which LOCK and NM_LOCK name
-- (XNFS C702, NLM_LOCK)
abbrev pub mark_of : CallItem → Option Mark
mark_of (Lock a) = Some (State (signed a.state))
mark_of (NmLock a) = Some (State (signed a.state))
mark_of call = None

-- An ask is on the exported file whose handle the call names, and a reclaim exactly if the call says so; of the fronts' tables
-- it adds to that of hosts alone, in which so much room is left. Its client is to be recorded exactly if the call's caller is
-- monitored, and with the mark that the call has.
abbrev pub IsAskFor : ℕ → ℕ → CallItem → Deed → Type 0
IsAskFor count hosts call (Asks left a) =
    ((fh : List ℕ) × (handle_of call ≡ Some fh) × (exported count fh ≡ Some a.file)) × (a.reclaim ≡ reclaims call) × (left.hosts ≡ most_hosts - hosts) × (a.rows.owners ≡ 0) × (a.rows.opens ≡ 0) × (a.monitored ≡ monitors call) × (a.mark ≡ mark_of call)
IsAskFor count hosts call deed = Unit {0}

-- so is each of these deeds, if they are of a request's call
abbrev pub AreAsksFor : ℕ → ℕ → RequestItem → List Deed → Type 0
AreAsksFor count hosts r deeds = (call : CallItem) → call_in r ≡ Some call → AllByRecursion (λ d. IsAskFor count hosts call d) deeds

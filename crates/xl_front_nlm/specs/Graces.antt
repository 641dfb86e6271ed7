-- What grace and the record make of a call (XNFS C702, NLM_LOCK, NLM_NM_LOCK; RFC 7530 9.6.2).
use Rattle.std.specs.Prelude.{◌≡◌, ℕ, Bool, true, false, not, List, Some, Ok, is_some}
use Rattle.xl_base.specs.declared.name.Protocol.TheVariants.{Nlm}
use Rattle.xl_base.specs.declared.stable.Recorded.{Recorded}
use Rattle.xl_nlm.specs.Items.{LockArgsItem, CallItem, Test, Lock, Share, NmLock}
use Rattle.xl_core.specs.State.{CoreState}
use Rattle.xl_front_nlm.specs.Aims.{exported, aimed}
use Rattle.xl_front_nlm.specs.Asking.{mark_of}
use Rattle.xl_front_nlm.specs.Standing.{does_wait}
use Rattle.xl_front_nlm.specs.declared.aim.Aim.{Aim}

-- the caller of a call as the record names it, with the mark that the call has
abbrev pub named_by : CallItem → List ℕ → Recorded
named_by call caller = record { protocol = Nlm; name = caller; mark = mark_of call }

-- grace runs and this doesn't reclaim, or this reclaims and none runs
abbrev pub IsAmiss : CoreState → Bool → Type 0
IsAmiss s reclaim = is_some s.grace ≡ not reclaim

-- a lock is judged by grace if it names bytes and its owner doesn't wait for it already
abbrev pub IsLockAmiss : ℕ → CoreState → LockArgsItem → Type 0
IsLockAmiss count s a = (at : Aim) × (aimed count a.lock ≡ Ok at) × ((does_wait s a at ≡ false) × IsAmiss s a.reclaim)

-- Grace refuses a call: a TEST while it runs, and a lock or a share that doesn't reclaim while it runs, or does while none does.
abbrev pub IsGraceDue : ℕ → CoreState → CallItem → Type 0
IsGraceDue count s (Test a) = (at : Aim) × (aimed count a.lock ≡ Ok at) × (is_some s.grace ≡ true)
IsGraceDue count s (Lock a) = IsLockAmiss count s a
IsGraceDue count s (NmLock a) = IsLockAmiss count s a
IsGraceDue count s (Share a) = (file : ℕ) × (exported count a.fh ≡ Some file) × IsAmiss s a.reclaim
IsGraceDue count s call = ⊥

-- What holds of the core once a call is answered: what the reply says is done is done, and nothing else (XNFS C702, 14).
use Rattle.std.specs.Prelude.{◌≡◌, ℕ, not, List, [], ◌∷◌, ◌++◌, length, Some, Ok}
use Rattle.std.specs.List.{filter, slice_get}
use Rattle.xl_base.specs.Lists.{IsIn}
use Rattle.xl_base.specs.declared.event.Out.{Out}
use Rattle.xl_base.specs.declared.journal.Exports.{Exports}
use Rattle.xl_base.specs.declared.name.Owner.TheVariants as owners
use Rattle.xl_base.specs.declared.name.Party.TheVariants as parties
use Rattle.xl_base.specs.declared.name.Protocol.TheVariants as protocols
use Rattle.xl_matrix.specs.Equal.{same_parties}
use Rattle.xl_names.specs.declared.name.Name.TheVariants.{NlmParty}
use Rattle.xl_nlm.specs.Items.{CallItem, LockArgsItem, CancelArgsItem, Lock, Cancel, Unlock, Share, Unshare, NmLock, FreeAll}
use Rattle.xl_nlm.specs.Replies.{results}
use Rattle.xl_nlm.specs.declared.item.NlmStatus.TheVariants as stats
use Rattle.xl_programs.specs.Programs.{RequestItem}
use Rattle.xl_programs.specs.Sent.{sent_to}
use Rattle.xl_rpc.specs.Replies.{reply}
use Rattle.xl_rpc.specs.declared.reply.Verdict.TheVariants.{Success}
use Rattle.xl_table.specs.Relock.{shares_of}
use Rattle.xl_wait.specs.Waiting.{cancelled}
use Rattle.xl_wait.specs.declared.waiter.Waiter.{Waiter}
use Rattle.xl_core.specs.Askers.{asker}
use Rattle.xl_core.specs.Bytes.{AreBytes, byte_lock, no_lock}
use Rattle.xl_core.specs.Settle.{waits_for}
use Rattle.xl_core.specs.State.{CoreState}
use Rattle.xl_front_nlm.specs.Aims.{aimed, exported}
use Rattle.xl_front_nlm.specs.Asks.{rights_of, share_ask, share_owner}
use Rattle.xl_front_nlm.specs.FrontNlm.{call_in}
use Rattle.xl_front_nlm.specs.Hosts.{host_rows}
use Rattle.xl_front_nlm.specs.Left.{IsForThat, unlock_claim}
use Rattle.xl_front_nlm.specs.Results.{reply_of, status_of}
use Rattle.xl_front_nlm.specs.State.{FrontState}
use Rattle.xl_front_nlm.specs.Statuses.{lock_claim}
use Rattle.xl_front_nlm.specs.declared.aim.Aim.{Aim}
use Rattle.xl_front_nlm.specs.declared.outcome.Outcome.{Outcome}

-- a lock that is GRANTED is held: each byte of its range by its owner, in its mode, and all others as before
abbrev pub IsLockTold : ℕ → FrontState → CoreState → LockArgsItem → Outcome → CoreState → Type 0
IsLockTold count f s a outcome t = (at : Aim) → aimed count a.lock ≡ Ok at → status_of outcome ≡ stats.Granted → AreBytes (lock_claim f.hosts s a at) at.first at.last (byte_lock a.exclusive) s t

-- a CANCEL that is GRANTED takes out one who waits for just that lock, and one that is DENIED found nobody; nothing else changes
abbrev pub IsCancelTold : ℕ → CoreState → CancelArgsItem → Outcome → CoreState → Type 0
IsCancelTold count s a outcome t = (at : Aim) → aimed count a.lock ≡ Ok at
    → (status_of outcome ≡ stats.Granted → (w : Waiter) × IsIn w s.waiters × IsForThat s a.lock a.exclusive at w × (t ≡ record s { waiters = cancelled w.id s.waiters }))
    × (status_of outcome ≡ stats.Denied → ((w : Waiter) → IsIn w s.waiters → IsForThat s a.lock a.exclusive at w → ⊥) × (t ≡ s))

-- The core t is as the reply says, which tells this outcome of the call: a lock is held, an unlocked range is free, a share is its
-- owner's, an UNSHARE leaves its owner none, who is cancelled waits no more, and after a FREE_ALL its caller holds nothing and
-- doesn't wait, while all others do as before.
abbrev pub IsAsTold : ℕ → FrontState → CoreState → CallItem → Outcome → CoreState → Type 0
IsAsTold count f s (Lock a) outcome t = IsLockTold count f s a outcome t
IsAsTold count f s (NmLock a) outcome t = IsLockTold count f s a outcome t
IsAsTold count f s (Unlock a) outcome t = (at : Aim) → aimed count a.lock ≡ Ok at → status_of outcome ≡ stats.Granted → AreBytes (unlock_claim s a at) at.first at.last no_lock s t
IsAsTold count f s (Share a) outcome t = (file : ℕ) → exported count a.fh ≡ Some file → status_of outcome ≡ stats.Granted → shares_of file (asker (share_ask (host_rows a.caller_name f.hosts) a file) s.names) t.claims ≡ (rights_of a.access, rights_of a.mode) ∷ []
IsAsTold count f s (Unshare a) outcome t = (file number : ℕ) → exported count a.fh ≡ Some file → slice_get s.names number ≡ Some (share_owner a) → shares_of file (owners.Name protocols.Nlm number) t.claims ≡ []
IsAsTold count f s (Cancel a) outcome t = IsCancelTold count s a outcome t
IsAsTold count f s (FreeAll a) outcome t = (number : ℕ) → slice_get s.names number ≡ Some (NlmParty a.name)
    → (t.claims ≡ filter (λ c. not (same_parties c.party (parties.Name protocols.Nlm number))) s.claims) × (t.waiters ≡ filter (λ w. not (waits_for (parties.Name protocols.Nlm number) w)) s.waiters)
IsAsTold count f s call outcome t = Unit {0}

-- The replies are the one to the request's call, which tells an outcome, and the core is as it says.
abbrev pub AreAsTold : Exports → FrontState → CoreState → ℕ → RequestItem → List Out → CoreState → Type 0
AreAsTold exports f s conn r replies t = (call : CallItem) → call_in r ≡ Some call
    → (outcome : Outcome) × (replies ≡ sent_to conn (reply r.xid Success ++ results (reply_of t.names call outcome))) × IsAsTold (length exports.files) f s call outcome t

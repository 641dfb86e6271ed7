-- Each ask of a message is the message's.
use Rattle.std.proofs.Common.{◌≡◌, ℕ, Bool, true, false, List, length, Option, Some, None, Result, Ok, Err, refl, sym, ap, subst, ◌∙◌}
use Rattle.std.specs.Prelude.{if◌then◌else◌}
use Rattle.std.specs.List.{AllByRecursion}
use Rattle.std.proofs.lemmas.Bool.{both_ways}
use Rattle.xl_base.specs.declared.event.Event.{Event}
use Rattle.xl_base.specs.declared.event.Event.TheVariants.{Message}
use Rattle.xl_base.specs.declared.event.Kind.{Kind}
use Rattle.xl_base.specs.declared.journal.Entry.{Entry}
use Rattle.xl_base.specs.declared.journal.Exports.{Exports}
use Rattle.xl_base.specs.declared.journal.Head.{Head}
use Rattle.xl_nlm.specs.Items.{CallItem, LockItem, LockArgsItem, Null, Test, Lock, Cancel, Unlock, Granted, Share, Unshare, NmLock, FreeAll}
use Rattle.xl_programs.specs.Programs.{RequestItem, IncomingItem}
use Rattle.xl_programs.specs.declared.program.Program.{Program}
use Rattle.xl_programs.specs.declared.program.Program.TheVariants.{Nlm, Nfs}
use Rattle.xl_wait.specs.declared.waiter.Rooms.{Rooms}
use Rattle.xl_core.specs.State.{CoreState}
use Rattle.xl_core.specs.Deeds.{Deed, Asks}
use Rattle.xl_core.specs.declared.ask.Ask.{Ask}
use Rattle.xl_plan.specs.Plans.{Tells, deeds_of}
use Rattle.xl_front_nlm.specs.Aims.{aimed, aimed_at, aimed_in, exported, last_of}
use Rattle.xl_front_nlm.specs.Asks.{lock_ask, state_mark}
use Rattle.xl_front_nlm.specs.FrontNlm.{call_deeds, call_in}
use Rattle.xl_front_nlm.specs.Hosts.{host_rows, rooms}
use Rattle.xl_front_nlm.specs.Serving.{CallPlan, asks, at_bytes, if_found, lock_plan, on_file, planned}
use Rattle.xl_front_nlm.specs.Standing.{does_wait}
use Rattle.xl_front_nlm.specs.State.{FrontState}
use Rattle.xl_front_nlm.specs.declared.aim.Aim.{Aim}
use Rattle.xl_front_nlm.specs.declared.outcome.Outcome.{Outcome}
use Rattle.xl_front_nlm.specs.declared.outcome.Outcome.TheVariants.{Waits}
use Rattle.xl_front_nlm.specs.Asking.{handle_of, mark_of, monitors, reclaims, IsAskFor}
use Rattle.xl_nfs.specs.Ops.{OpItem}
use Rattle.xl_nfs_laws.proofs.AskedRequestLaws.{request_asks}
use Rattle.xl_nfs_laws.specs.AskedRequests.{AreRequestAsks, IsItsAsk, says_reclaim}
use Rattle.xl_smb_laws.specs.AskedMessages.{AreMessageAsks}
use Rattle.xl_smb_laws.proofs.AskedMessageLaws.{message_asks}
use Rattle.xl_house.specs.Asking.{AreNlmAsks, AreNfsAsks, AreSmbAsks, IsAskingBy, IsAsking}
use Rattle.xl_house.specs.Lawful.{Always}
use Rattle.xl_house.specs.Own.{program_own, record_own, message_own}
use Rattle.xl_house.specs.State.{Whole, nfs_opens, smb_opens, start_of}
use Rattle.xl_house.specs.declared.layers.Fronts.{Fronts}
use Rattle.xl_core.proofs.GoodLaws.{begun_good}
use Rattle.xl_house.proofs.DoneLaws.{each_round}
use Rattle.xl_house.proofs.EachEntry.{always}

-- the asks of a plan of this call are its
abbrev Right : ℕ → FrontState → CallItem → ℕ → CoreState → CallPlan → Type 0
Right count f call n s plan = AllByRecursion (λ d. IsAskFor count (length f.hosts) call d) (deeds_of n s plan)

same_aim : (a b : Aim) → ◌≡◌ {A = Result Aim Outcome} (Ok a) (Ok b) → a ≡ b
same_aim a b e = cc

-- the file at which the bytes of a lock are is that of its handle
aimed_file : (count : ℕ) (l : LockItem) (at : Aim) → aimed count l ≡ Ok at → exported count l.fh ≡ Some at.file
unfolding aimed
aimed_file count l at e = go (exported count l.fh) refl e where
  last : (file : ℕ) (o : Option ℕ) → aimed_at l file o ≡ Ok at → file ≡ at.file
  last file None e = absurd cc
  last file (Some byte) e = ap (λ (x : Aim). x.file) (same_aim (record { file = file; first = l.l_offset; last = byte }) at e)

  go : (o : Option ℕ) → exported count l.fh ≡ o → aimed_in l o ≡ Ok at → exported count l.fh ≡ Some at.file
  go None is e = absurd cc
  go (Some file) is e = is ∙ ap (λ (x : ℕ). Some x) (last file (last_of l.l_offset l.l_len) e)

-- for the bytes that a lock names
at_right : (n count : ℕ) (f : FrontState) (s : CoreState) (call : CallItem) (l : LockItem) (plan : Aim → CallPlan) → handle_of call ≡ Some l.fh → ((at : Aim) → exported count l.fh ≡ Some at.file → Right count f call n s (plan at)) → Right count f call n s (at_bytes plan (aimed count l))
at_right n count f s call l plan named each = go (aimed count l) refl where
  go : (r : Result Aim Outcome) → aimed count l ≡ r → Right count f call n s (at_bytes plan r)
  go (Err outcome) e = tt
  go (Ok at) e = each at (aimed_file count l at e)

lock_right : (n count : ℕ) (f : FrontState) (s : CoreState) (call : CallItem) (monitored : Bool) (a : LockArgsItem) (at : Aim) → handle_of call ≡ Some a.lock.fh → reclaims call ≡ a.reclaim → monitors call ≡ monitored → mark_of call ≡ Some (state_mark a) → exported count a.lock.fh ≡ Some at.file → Right count f call n s (lock_plan monitored f s a at)
lock_right n count f s call monitored a at named reclaim monitor mark file = go (does_wait s a at) where
  go : (b : Bool) → Right count f call n s (if b then Tells Waits else asks (Some a.lock.caller_name) f (rooms f.hosts) (lock_ask monitored (host_rows a.lock.caller_name f.hosts) a at))
  go true = tt
  go false = (((a.lock.fh, named, file), sym reclaim, refl, refl, refl, sym monitor, sym mark), tt)

if_right : (n count : ℕ) (f : FrontState) (s : CoreState) (call : CallItem) {A : Type 0} (none : Outcome) (deed : A → Deed) (o : Option A) → ((x : A) → IsAskFor count (length f.hosts) call (deed x)) → Right count f call n s (if_found f none deed o)
if_right n count f s call none deed None each = tt
if_right n count f s call none deed (Some x) each = (each x, tt)

file_right : (n count : ℕ) (f : FrontState) (s : CoreState) (call : CallItem) (fh : List ℕ) (plan : ℕ → CallPlan) → ((file : ℕ) → exported count fh ≡ Some file → Right count f call n s (plan file)) → Right count f call n s (on_file plan (exported count fh))
file_right n count f s call fh plan each = go (exported count fh) refl where
  go : (o : Option ℕ) → exported count fh ≡ o → Right count f call n s (on_file plan o)
  go None e = tt
  go (Some file) e = each file e

planned_right : (n count : ℕ) (f : FrontState) (s : CoreState) (call : CallItem) → Right count f call n s (planned count f s call)
unfolding planned
planned_right n count f s Null = tt
planned_right n count f s (Granted a) = tt
planned_right n count f s (Test a) = at_right n count f s (Test a) a.lock _ refl (λ at file. (((a.lock.fh, refl, file), refl, refl, refl, refl, refl, refl), tt))
planned_right n count f s (Lock a) = at_right n count f s (Lock a) a.lock _ refl (λ at file. lock_right n count f s (Lock a) true a at refl refl refl refl file)
planned_right n count f s (NmLock a) = at_right n count f s (NmLock a) a.lock _ refl (λ at file. lock_right n count f s (NmLock a) false a at refl refl refl refl file)
planned_right n count f s (Cancel a) = at_right n count f s (Cancel a) a.lock _ refl (λ at file. if_right n count f s (Cancel a) _ _ _ (λ id. tt))
planned_right n count f s (Unlock a) = at_right n count f s (Unlock a) a.lock _ refl (λ at file. (((a.lock.fh, refl, file), refl, refl, refl, refl, refl, refl), tt))
planned_right n count f s (Share a) = file_right n count f s (Share a) a.fh _ (λ file is. (((a.fh, refl, is), refl, refl, refl, refl, refl, refl), tt))
planned_right n count f s (Unshare a) = file_right n count f s (Unshare a) a.fh _ (λ file is. if_right n count f s (Unshare a) _ _ _ (λ claim. tt))
planned_right n count f s (FreeAll a) = if_right n count f s (FreeAll a) _ _ _ (λ number. tt)

call_right : (n count : ℕ) (f : FrontState) (s : CoreState) (o : Option CallItem) (call : CallItem) → o ≡ Some call → AllByRecursion (λ d. IsAskFor count (length f.hosts) call d) (call_deeds n count f s o)
call_right n count f s None call e = absurd cc
call_right n count f s (Some other) call e = subst (λ (c : CallItem). AllByRecursion (λ d. IsAskFor count (length f.hosts) c d) (call_deeds n count f s (Some other))) (same other call e) (planned_right n count f s other) where
  same : (a b : CallItem) → Some a ≡ Some b → a ≡ b
  same a b e = cc

abbrev Rights : Exports → Fronts → CallItem → List Deed → Type 0
Rights exports f call ds = AllByRecursion (λ d. IsAskFor (length exports.files) (length f.nlm.hosts) call d) ds

program_right : (n : ℕ) (exports : Exports) (f : Fronts) (s : CoreState) (conn : ℕ) (r : RequestItem) (program : Program) (call : CallItem) → program ≡ Nlm → call_in r ≡ Some call → Rights exports f call (program_own n exports f s conn r program).deeds
program_right n exports f s conn r program call is e =
    subst (λ (p : Program). Rights exports f call (program_own n exports f s conn r p).deeds) (sym is) (call_right n (length exports.files) f.nlm s (call_in r) call e)

nlm_asking : (n : ℕ) (s : Whole) (number : ℕ) (bytes : List ℕ) → AreNlmAsks n s number bytes
nlm_asking n s number bytes = λ rpc r asked nlm call e.
    subst (λ (kind : Option Kind). Rights s.exports s.front call (message_own n s.exports s.front s.core kind number bytes).deeds) (sym rpc)
    (subst (λ (incoming : IncomingItem). Rights s.exports s.front call (record_own n s.exports s.front s.core number incoming).deeds) (sym asked)
    (program_right n s.exports s.front s.core number r r.program call nlm e))

-- of NFSv4
abbrev NfsRights : ℕ → Exports → Fronts → CoreState → RequestItem → List Deed → Type 0
NfsRights n exports f s r ds = AreRequestAsks n exports (smb_opens f) f.nfs s r ds

nfs_asking : (n : ℕ) (s : Whole) (number : ℕ) (bytes : List ℕ) → AreNfsAsks n s number bytes
nfs_asking n s number bytes = λ rpc r asked nfs.
    subst (λ (kind : Option Kind). NfsRights n s.exports s.front s.core r (message_own n s.exports s.front s.core kind number bytes).deeds) (sym rpc)
    (subst (λ (incoming : IncomingItem). NfsRights n s.exports s.front s.core r (record_own n s.exports s.front s.core number incoming).deeds) (sym asked)
    (subst (λ (p : Program). NfsRights n s.exports s.front s.core r (program_own n s.exports s.front s.core number r p).deeds) (sym nfs)
    (request_asks n s.exports (smb_opens s.front) s.front.nfs s.core r)))

-- of SMB
smb_asking : (n : ℕ) (s : Whole) (number : ℕ) (bytes : List ℕ) → AreSmbAsks n s number bytes
smb_asking n s number bytes = λ packet.
    subst (λ (kind : Option Kind). AreMessageAsks s.exports.files s.front.smb.state s.core number bytes (message_own n s.exports s.front s.core kind number bytes).deeds) (sym packet)
    (message_asks n s.exports (nfs_opens s.front) s.front.smb s.core number bytes)

asking_by : (n : ℕ) (s : Whole) (event : Event) → IsAskingBy n s event
asking_by n s (Message number bytes) = (nlm_asking n s number bytes, nfs_asking n s number bytes, smb_asking n s number bytes)
asking_by n s event = tt

pub always_asking : (head : Head) (es : List Entry) → Always IsAsking (start_of head) es
always_asking head es =
    always IsAsking (λ n s e free. each_round n s e.event (λ r. IsAskingBy n r.found r.cause) ((λ t good. asking_by n t e.event), (λ t conn message good. asking_by n t (Message conn message))) (begun_good s.core free.good)) head es

-- ---- a machine that doesn't

-- one makes a reclaim of each ask
pub always_reclaims_is : (count hosts : ℕ) (call : CallItem) (left : Rooms) (a : Ask) → reclaims call ≡ false → a.reclaim ≡ true → IsAskFor count hosts call (Asks left a) → ⊥
always_reclaims_is count hosts call left a plain asked right = both_ways (reclaims call) plain (sym right.1 ∙ asked)

-- and one of each ask of NFSv4
pub nfs_always_reclaims_is : (files : List (List ℕ)) (current : Option ℕ) (op : OpItem) (left : Rooms) (a : Ask) → says_reclaim op ≡ false → a.reclaim ≡ true → IsItsAsk files current op left a → ⊥
nfs_always_reclaims_is files current op left a plain asked right = both_ways (says_reclaim op) plain (sym right.reclaim ∙ asked)

-- What holds of the core and of the lists once a message is answered: what the reply says is done is done (MS-SMB2 3.3.5.6, 3.3.5.8 to
-- 3.3.5.10, 3.3.5.14, 3.3.5.16, 3.3.5.22).
use Rattle.std.specs.Prelude.{◌≡◌, ◌+◌, ◌==◌, ℕ, true, false, List, [], ◌∷◌, ◌++◌, map, Some}
use Rattle.xl_base.specs.Lists.{IsIn}
use Rattle.xl_base.specs.declared.event.Out.{Out}
use Rattle.xl_base.specs.declared.name.Owner.TheVariants as owners
use Rattle.xl_matrix.specs.Blocks.{is_cache}
use Rattle.xl_matrix.specs.declared.claim.Claim.{Claim}
use Rattle.xl_matrix.specs.declared.claim.What.TheVariants.{Share}
use Rattle.xl_cache.specs.Levels.{state_of}
use Rattle.xl_smb.specs.Calls.{CallItem, Cancel, Create, Close, Lock, Logoff, OplockBreak, TreeDisconnect}
use Rattle.xl_smb.specs.Creates.{CreateCallItem}
use Rattle.xl_smb.specs.Locks.{LockItem, elements_of}
use Rattle.xl_smb.specs.declared.breaks.Break.{Break as Acknowledgement}
use Rattle.xl_smb.specs.declared.breaks.Break.TheVariants as breaks
use Rattle.xl_smb.specs.declared.file.FileId.{FileId}
use Rattle.xl_smb.specs.declared.head.SmbHead.{SmbHead}
use Rattle.xl_smb.specs.declared.lease.Lease.{Lease}
use Rattle.xl_smb.specs.declared.lock.CloseCall.{CloseCall}
use Rattle.xl_smb_state.specs.Links.{AreDistinct, IsSound}
use Rattle.xl_smb_state.specs.State.{Lists, client_of, covers_holder, lease_of, open_of}
use Rattle.xl_smb_state.specs.declared.row.Lease.{Lease as LeaseRow}
use Rattle.xl_smb_state.specs.declared.row.Open.{Open}
use Rattle.xl_smb_state.specs.declared.row.Place.{Place}
use Rattle.xl_smb_state.specs.declared.row.Scope.{Scope}
use Rattle.xl_smb_state.specs.declared.row.Scope.TheVariants as scope
use Rattle.xl_wait.specs.Waiting.{is_waiting}
use Rattle.xl_wait.specs.declared.waiter.Waiter.{Waiter}
use Rattle.xl_core.specs.Ids.{id_of}
use Rattle.xl_core.specs.Places.{CacheOf, RangesOf, ShareOf, held_at}
use Rattle.xl_core.specs.Settle.{waits_as}
use Rattle.xl_core.specs.State.{CoreState}
use Rattle.xl_smb_locks.specs.Elements.{unlocks_first}
use Rattle.xl_smb_locks.specs.Levels.{first_kind, lease_party, level_held}
use Rattle.xl_smb_locks.specs.declared.levels.Caching.{Caching}
use Rattle.xl_front_smb.specs.Checks.{open_named}
use Rattle.xl_front_smb.specs.Ending.{numbers_under}
use Rattle.xl_front_smb.specs.Files.{access_of, deny_of, open_row}
use Rattle.xl_front_smb.specs.FrontSmb.{sent_by}
use Rattle.xl_front_smb.specs.Laws.{IsAckOf, IsInSession, IsLeased, IsOnTree, IsRequest, rows_but}
use Rattle.xl_front_smb.specs.Locks.{request_named}
use Rattle.xl_front_smb.specs.Replies.{reply_of}
use Rattle.xl_front_smb.specs.Texts.{file_spelled}
use Rattle.xl_front_smb.specs.declared.told.Told.{Told}
use Rattle.xl_front_smb.specs.declared.told.Told.TheVariants as said
use Rattle.xl_smb_laws.specs.LockLaws.{IsOfOpen, all_unlocked, held_as}
use Rattle.xl_smb_laws.specs.OpenRights.{LeavesNothing}

-- If a LOCK of an open is answered that it is done, its ranges are held behind those that the open had on its file; if it unlocks, each
-- has taken out one that is equal.
pub record IsLockTold (l : Lists) (s : CoreState) (conn : ℕ) (h : SmbHead) (c : LockItem) (answer : Told) (t : CoreState) : Type 0 where
  pub locks : (client : List ℕ) (session : ℕ) (place : Place) (number : ℕ) (row : Open) → IsOfOpen s l conn h client c.file_id session place number row → unlocks_first (elements_of c.elements) ≡ false → answer ≡ said.Locked → held_at t (RangesOf row.file number) ≡ held_at s (RangesOf row.file number) ++ map held_as (elements_of c.elements)
  pub unlocks : (client : List ℕ) (session : ℕ) (place : Place) (number : ℕ) (row : Open) → IsOfOpen s l conn h client c.file_id session place number row → unlocks_first (elements_of c.elements) ≡ true → answer ≡ said.Locked → held_at t (RangesOf row.file number) ≡ all_unlocked (elements_of c.elements) (held_at s (RangesOf row.file number))

-- if a CREATE of a file is answered that it is open, the open of the next number has just the share of the file that was asked for, and is
-- in the lists, on its tree connect and under the lease that it asks for, if it does
pub record IsCreateTold (files : List (List ℕ)) (l : Lists) (s : CoreState) (conn : ℕ) (h : SmbHead) (c : CreateCallItem) (answer : Told) (t : CoreState) (m : Lists) : Type 0 where
  pub share : (client : List ℕ) (session file id : ℕ) (cache : Caching) (place : Place) → IsOnTree s l conn h client session place → file_spelled files c.name ≡ Some file → answer ≡ said.Opened id cache → held_at t (ShareOf file (owners.Open (s.counter + 1))) ≡ Share (access_of c.desired_access) (deny_of (access_of c.desired_access) c.share_access) ∷ []
  pub row : (client : List ℕ) (session file id : ℕ) (cache : Caching) (place : Place) → IsOnTree s l conn h client session place → file_spelled files c.name ≡ Some file → answer ≡ said.Opened id cache → (open_of (s.counter + 1) m ≡ Some (open_row file client place c)) × IsLeased m (s.counter + 1) (open_row file client place c)

-- a CLOSE of an open is answered that it is closed, and neither a share nor a range of it is held; nor is it in the lists, where all others
-- stay
pub record IsCloseTold (l : Lists) (s : CoreState) (conn : ℕ) (h : SmbHead) (c : CloseCall) (answer : Told) (t : CoreState) (m : Lists) : Type 0 where
  pub told : (client : List ℕ) (session : ℕ) (place : Place) (number : ℕ) → IsOnTree s l conn h client session place → open_named s l conn c.file_id ≡ Some number → answer ≡ said.Closed
  pub held : (client : List ℕ) (session : ℕ) (place : Place) (number : ℕ) → IsOnTree s l conn h client session place → open_named s l conn c.file_id ≡ Some number → (claim : Claim) → IsIn claim t.claims → claim.owner ≡ owners.Open number → is_cache claim.what ≡ true
  pub row : (client : List ℕ) (session : ℕ) (place : Place) (number : ℕ) → IsOnTree s l conn h client session place → open_named s l conn c.file_id ≡ Some number → AreDistinct l → m.opens ≡ rows_but (λ e. number == e.0) l.opens

-- Nothing is left of what was under it: nothing that was held of its opens, or of a lease whose opens they all were; of the opens in the
-- lists just the others; and nobody who waits for one of its opens, or for one that a request under it was to make.
pub record IsGone (under : Scope) (l : Lists) (s : CoreState) (t : CoreState) (m : Lists) : Type 0 where
  pub held : LeavesNothing s.names under l t
  pub opens : m.opens ≡ rows_but (λ e. covers_holder under e.1.holder) l.opens
  pub waits : (number : ℕ) (w : Waiter) → IsIn number (numbers_under under l) → IsIn w t.waiters → waits_as number w ≡ false

-- a LOGOFF in a session is answered that it is done, and nothing is left of the session, nor the session, nor a tree connect of it
pub record IsLogoffTold (l : Lists) (s : CoreState) (conn : ℕ) (h : SmbHead) (answer : Told) (t : CoreState) (m : Lists) : Type 0 where
  pub told : (client : List ℕ) (session : ℕ) → IsInSession s l conn h client session → answer ≡ said.LoggedOff
  pub gone : (client : List ℕ) (session : ℕ) → IsInSession s l conn h client session → IsSound l → AreDistinct l → IsGone (scope.Session session) l s t m
  pub sessions : (client : List ℕ) (session : ℕ) → IsInSession s l conn h client session → AreDistinct l → m.sessions ≡ rows_but (λ e. session == e.0) l.sessions
  pub trees : (client : List ℕ) (session : ℕ) → IsInSession s l conn h client session → AreDistinct l → m.trees ≡ rows_but (λ e. e.1.session == session) l.trees

-- and so a TREE_DISCONNECT, of its tree connect
pub record IsDisconnectTold (l : Lists) (s : CoreState) (conn : ℕ) (h : SmbHead) (answer : Told) (t : CoreState) (m : Lists) : Type 0 where
  pub told : (client : List ℕ) (session : ℕ) (place : Place) → IsOnTree s l conn h client session place → answer ≡ said.Disconnected
  pub gone : (client : List ℕ) (session : ℕ) (place : Place) → IsOnTree s l conn h client session place → IsSound l → AreDistinct l → IsGone (scope.Tree place.tree) l s t m
  pub trees : (client : List ℕ) (session : ℕ) (place : Place) → IsOnTree s l conn h client session place → AreDistinct l → m.trees ≡ rows_but (λ e. place.tree == e.0) l.trees

-- if an OPLOCK_BREAK of an oplock is answered that this level is left, the open is named so, and has an oplock of that level on its file
abbrev pub IsOplockTold : Lists → CoreState → ℕ → SmbHead → ℕ → FileId → Told → CoreState → Type 0
IsOplockTold l s conn h level id answer t = (client : List ℕ) (session number named left : ℕ) (row : Open) → IsAckOf s l conn h client id level session number row → answer ≡ said.Acknowledged named left
    → (named ≡ id_of s number) × (left ≡ level) × (level_held t row.file number ≡ left)

-- and if one of a lease is answered that this state is left, that is what was acknowledged, and what the lease has on its file
abbrev pub IsLeaseTold : Lists → CoreState → ℕ → SmbHead → Lease → Told → CoreState → Type 0
IsLeaseTold l s conn h lease answer t = (client : List ℕ) (session : ℕ) (left : Lease) (row : LeaseRow) → IsInSession s l conn h client session → lease_of (record { client = client; key = lease.key }) l ≡ Some row → answer ≡ said.Answered left
    → (left.key ≡ lease.key) × (left.state ≡ lease.state) × (state_of (first_kind (held_at t (CacheOf row.file (lease_party s.names client lease.key)))) ≡ left.state)

abbrev pub IsBreakTold : Lists → CoreState → ℕ → SmbHead → Acknowledgement → Told → CoreState → Type 0
IsBreakTold l s conn h (breaks.Oplock level id) answer t = IsOplockTold l s conn h level id answer t
IsBreakTold l s conn h (breaks.Lease lease) answer t = IsLeaseTold l s conn h lease answer t

-- whom a CANCEL names waits no more
abbrev pub IsCancelTold : Lists → ℕ → SmbHead → CoreState → Type 0
IsCancelTold l conn h t = (client : List ℕ) (id : ℕ) → client_of conn l ≡ Some client → request_named conn l h.message_id h.route ≡ Some id → is_waiting id t.waiters ≡ false

-- the core t and the lists m are as this answer to the call says
abbrev pub IsAsTold : List (List ℕ) → Lists → CoreState → ℕ → SmbHead → CallItem → Told → CoreState → Lists → Type 0
IsAsTold files l s conn h (Lock c) answer t m = IsLockTold l s conn h c answer t
IsAsTold files l s conn h (Create c) answer t m = IsCreateTold files l s conn h c answer t m
IsAsTold files l s conn h (Close c) answer t m = IsCloseTold l s conn h c answer t m
IsAsTold files l s conn h Logoff answer t m = IsLogoffTold l s conn h answer t m
IsAsTold files l s conn h TreeDisconnect answer t m = IsDisconnectTold l s conn h answer t m
IsAsTold files l s conn h (OplockBreak b) answer t m = IsBreakTold l s conn h b answer t
IsAsTold files l s conn h Cancel answer t m = IsCancelTold l conn h t
IsAsTold files l s conn h call answer t m = Unit {0}

-- The last of these replies to a message is the one to its request, which tells an answer, and the core and the lists are as that says.
abbrev pub AreAsTold : List (List ℕ) → Lists → CoreState → ℕ → List ℕ → List Out → CoreState → Lists → Type 0
AreAsTold files l s conn bytes replies t m = (h : SmbHead) (call : CallItem) → IsRequest bytes h call
    → (answer : Told) × (finals : List Out) × (replies ≡ finals ++ sent_by conn (reply_of h answer)) × IsAsTold files l s conn h call answer t m

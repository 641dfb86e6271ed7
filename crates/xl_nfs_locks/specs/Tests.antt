-- LOCKT (RFC 7530 16.11).
use Rattle.std.specs.Prelude.{ℕ, ◌==◌, false, if◌then◌else◌, List, [], Option, Some, None}
use Rattle.xl_nfs.specs.Locks.{LockTestArgsItem}
use Rattle.xl_nfs.specs.declared.status.NfsStatus.TheVariants as statuses
use Rattle.xl_nfs_state.specs.State.{NfsLists}
use Rattle.xl_nfs_state.specs.declared.client.ClientRow.{ClientRow}
use Rattle.xl_nfs_state.specs.declared.owner.OwnerKind.TheVariants as kinds
use Rattle.xl_core.specs.State.{CoreState}
use Rattle.xl_core.specs.declared.ask.Answer.{Answer}
use Rattle.xl_nfs_locks.specs.Denials.{lock_told}
use Rattle.xl_nfs_locks.specs.Ranges.{last_byte, test_ask}
use Rattle.xl_core.specs.Ids.{number_in}
use Rattle.xl_nfs_opens.specs.Files.{root}
use Rattle.xl_nfs_opens.specs.Opens.{all_rooms, client_in, is_granted}
use Rattle.xl_plan.specs.Plans.{Does, Asking}
use Rattle.xl_nfs_opens.specs.Plans.{Plan}
use Rattle.xl_nfs_opens.specs.Renewing.{renewing}
use Rattle.xl_nfs_opens.specs.declared.opener.Opener.{Opener}
use Rattle.xl_nfs_opens.specs.declared.told.Told.{Told}
use Rattle.xl_nfs_opens.specs.declared.told.Told.TheVariants.{Ended, Free}

-- a lock owner of this client
abbrev pub locker_of : ClientRow → List ℕ → Opener
locker_of c owner = record { client = c.number; id = c.id; verifier = c.details.verifier; kind = kinds.Lock; owner = owner }

abbrev pub tested_told : CoreState → NfsLists → Answer → Told
tested_told s l answer = if is_granted answer then Free else lock_told s l false answer

abbrev pub test_to : NfsLists → Option ℕ → LockTestArgsItem → ℕ → Opener → Option ℕ → Plan
test_to l current a file o None = Does [] l (Ended statuses.Inval, current)
test_to l current a file o (Some last) = Asking all_rooms (test_ask o file a.kind a.offset last) (λ answer t. Does [] l (tested_told t l answer, current))

abbrev pub test_of : NfsLists → Option ℕ → LockTestArgsItem → ℕ → Option ClientRow → Plan
test_of l current a file None = Does [] l (Ended statuses.StaleClientId, current)
test_of l current a file (Some c) = test_to l current a file (locker_of c a.owner.owner) (last_byte a.offset a.len)

-- locks are on files, not on the root (NFS-10)
abbrev pub test_at : CoreState → NfsLists → LockTestArgsItem → Option ℕ → Plan
test_at s l a None = Does [] l (Ended statuses.NoFileHandle, None)
test_at s l a (Some at) = if at == root then Does [] l (Ended statuses.IsDir, Some at) else test_of l (Some at) a at (client_in s l a.owner.clientid)

-- the client is renewed before
unfoldable pub lock_test : CoreState → NfsLists → Option ℕ → LockTestArgsItem → Plan
lock_test s l current a = renewing l (number_in s a.owner.clientid) (λ t. test_at t l a current)

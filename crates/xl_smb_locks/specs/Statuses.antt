-- Statuses, as numbers and by what the core answers (MS-ERREF 2.3).
use Rattle.std.specs.Prelude.{ℕ}
use Rattle.xl_core.specs.declared.ask.Answer.{Answer}
use Rattle.xl_core.specs.declared.ask.Answer.TheVariants as answers
use Rattle.xl_smb_locks.specs.declared.locking.Locking.{Locking}
use Rattle.xl_smb_locks.specs.declared.locking.Locking.TheVariants as locking
use Rattle.xl_smb_locks.specs.declared.status.SmbStatus.{SmbStatus}
use Rattle.xl_smb_locks.specs.declared.status.SmbStatus.TheVariants as status

abbrev pub status_number : SmbStatus → ℕ
status_number status.Unsuccessful = 0xC0000001
status_number status.InvalidParameter = 0xC000000D
status_number status.ObjectNameNotFound = 0xC0000034
status_number status.ObjectNameCollision = 0xC0000035
status_number status.SharingViolation = 0xC0000043
status_number status.LockNotGranted = 0xC0000055
status_number status.RangeNotLocked = 0xC000007E
status_number status.InsufficientResources = 0xC000009A
status_number status.NotSupported = 0xC00000BB
status_number status.NetworkNameDeleted = 0xC00000C9
status_number status.BadNetworkName = 0xC00000CC
status_number status.RequestNotAccepted = 0xC00000D0
status_number status.InvalidOplockProtocol = 0xC00000E3
status_number status.Cancelled = 0xC0000120
status_number status.FileClosed = 0xC0000128
status_number status.InvalidDeviceState = 0xC0000184
status_number status.InvalidLockRange = 0xC00001A1
status_number status.UserSessionDeleted = 0xC0000203

-- STATUS_SUCCESS, and STATUS_PENDING of a request that waits
abbrev pub status_success : ℕ
status_success = 0

abbrev pub status_pending : ℕ
status_pending = 0x103

-- what an ask comes to by the core's answer: it fails with this status if something is against it for good, and else for want of room
abbrev pub comes_to : SmbStatus → Answer → Locking
comes_to conflict (answers.Granted c) = locking.Done
comes_to conflict (answers.Queued id) = locking.Waits id
comes_to conflict (answers.Conflict c) = locking.Failed conflict
comes_to conflict answer = locking.Failed status.InsufficientResources

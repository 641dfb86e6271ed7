use Rattle.xl_smb_laws.proofs.LockCauseLaws.{flags_exclusive, flags_exclusive_now, flags_shared, flags_shared_now, flags_unlock, past_is}
use Rattle.xl_smb_laws.proofs.locking.ranges_are_read_by_their_flags.Goals as goal

pub returns-clause-shared : goal.returns-clause-shared
returns-clause-shared c = flags_shared

pub returns-clause-exclusive : goal.returns-clause-exclusive
returns-clause-exclusive c = flags_exclusive

pub returns-clause-shared_now : goal.returns-clause-shared_now
returns-clause-shared_now c = flags_shared_now

pub returns-clause-exclusive_now : goal.returns-clause-exclusive_now
returns-clause-exclusive_now c = flags_exclusive_now

pub returns-clause-unlock : goal.returns-clause-unlock
returns-clause-unlock c = flags_unlock

pub returns-clause-past : goal.returns-clause-past
returns-clause-past c = past_is

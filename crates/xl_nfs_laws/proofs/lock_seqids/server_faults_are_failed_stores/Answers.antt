use Rattle.xl_nfs_laws.proofs.ServerFaultLaws.{lock_fair, unlock_sound}
use Rattle.xl_nfs_laws.proofs.lock_seqids.server_faults_are_failed_stores.Goals as goal

pub returns-clause-locks : goal.returns-clause-locks
returns-clause-locks c = lock_fair

pub returns-clause-unlocks : goal.returns-clause-unlocks
returns-clause-unlocks c = unlock_sound

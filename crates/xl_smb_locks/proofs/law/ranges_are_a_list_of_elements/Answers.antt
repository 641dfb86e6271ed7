use Rattle.xl_smb_locks.proofs.ExactLaws.{locks_exactly, unlocks_exactly}
use Rattle.xl_smb_locks.proofs.law.ranges_are_a_list_of_elements.Goals as goal

pub returns-clause-locked : goal.returns-clause-locked
returns-clause-locked c = locks_exactly

pub returns-clause-unlocked : goal.returns-clause-unlocked
returns-clause-unlocked c = λ e es. unlocks_exactly e es

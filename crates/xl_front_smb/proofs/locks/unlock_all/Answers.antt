use Rattle.xl_front_smb.proofs.LockLaws.{unlocks_done}
use Rattle.xl_front_smb.proofs.locks.unlock_all.Goals as goal

pub returns-clause-done : goal.returns-clause-done
returns-clause-done g c =
    λ n. unlocks_done n c.args.core.now c.unlock.new.core c.args.state.now c.args.number c.args.row.now c.args.elements.now c.in_ok-locking.locking c.told_as.result c.new.result c.in_ok-locking.ensures.told c.in_ok-locking.ensures.state c.told_as.ensures.value c.new.ensures

use Rattle.xl_core.proofs.FrameLaws.{may_be_made}
use Rattle.xl_plan.proofs.KeeperLaws.{hands_by}
use Rattle.xl_smb_locks.proofs.UnlockLaws.{unlock_said, unlock_leaves}
use Rattle.xl_smb_locks.proofs.unlocking.unlock_one.Goals as goal

pub returns-clause-state : goal.returns-clause-state
returns-clause-state g c =
    unlock_said c.ask.new.self.made _ _ _ _ _ _ _ _ c.requires.ready.good c.unlock_ask-request.ensures.open c.unlock_ask-request.ensures.value (c.in_ok-answer.ensures.state c.ask.new.self.made (may_be_made c.ask.new.self))

pub returns-clause-leaves : goal.returns-clause-leaves
returns-clause-leaves g c =
    unlock_leaves c.ask.new.self.made _ _ _ _ _ _ _ _ c.unlock_ask-request.ensures.value (c.in_ok-answer.ensures.state c.ask.new.self.made (may_be_made c.ask.new.self)) c.in_ok-answer.ensures.on c.requires.ready.good c.unlock_ask-request.ensures.open c.in_ok-answer.ensures.good

pub returns-clause-keeper : goal.returns-clause-keeper
returns-clause-keeper g c = hands_by g.K.Keeper.held g.K.Keeper.given g.K.Keeper.faults g.K.Keeper.left c.args.core.now c.ask.new.self c.args.keeper.now c.ask.new.keeper c.in_ok-answer.ensures.keeper c.in_ok-answer.ensures.on

use Rattle.xl_core.proofs.FrameLaws.{may_be_made}
use Rattle.xl_plan.proofs.BudgetLaws.{ask_leaves}
use Rattle.xl_plan.proofs.KeeperLaws.{hands_by}
use Rattle.xl_smb_locks.proofs.LeaveLaws.{open_names}
use Rattle.xl_smb_locks.proofs.locking.asked.Goals as goal

pub returns-clause-leaves : goal.returns-clause-leaves
returns-clause-leaves g c =
    ask_leaves c.ask.new.self.made _ _ _ _ _ _ (c.in_ok-answer.ensures.state c.ask.new.self.made (may_be_made c.ask.new.self)) c.in_ok-answer.ensures.on c.requires.unnamed.fit c.requires.ready.good c.in_ok-answer.ensures.good (open_names _ c.requires.unnamed)

pub returns-clause-keeper : goal.returns-clause-keeper
returns-clause-keeper g c = hands_by g.K.Keeper.held g.K.Keeper.given g.K.Keeper.faults g.K.Keeper.left c.args.core.now c.ask.new.self c.args.keeper.now c.ask.new.keeper c.in_ok-answer.ensures.keeper c.in_ok-answer.ensures.on

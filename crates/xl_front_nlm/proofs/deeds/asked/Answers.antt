use Rattle.xl_core.proofs.FrameLaws.{may_be_made}
use Rattle.xl_plan.proofs.BudgetLaws.{ask_leaves}
use Rattle.xl_plan.proofs.KeeperLaws.{hands_by}
use Rattle.xl_front_nlm.proofs.deeds.asked.Goals as goal

pub returns-clause-leaves : goal.returns-clause-leaves
returns-clause-leaves g c =
    ask_leaves c.ask.new.self.made _ _ _ _ _ _ (c.in_ok-answer.ensures.state c.ask.new.self.made (may_be_made c.ask.new.self)) c.in_ok-answer.ensures.on c.requires.fit c.requires.ready.core.good c.in_ok-answer.ensures.good c.requires.small

pub returns-clause-keeper : goal.returns-clause-keeper
returns-clause-keeper g c = hands_by g.K.Keeper.held g.K.Keeper.given g.K.Keeper.faults g.K.Keeper.left c.args.core.now c.ask.new.self c.args.keeper.now c.ask.new.keeper c.in_ok-answer.ensures.keeper c.in_ok-answer.ensures.on

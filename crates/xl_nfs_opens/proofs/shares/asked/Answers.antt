use Rattle.xl_plan.proofs.BudgetLaws.{ask_leaves}
use Rattle.xl_plan.proofs.KeeperLaws.{told_on}
use Rattle.xl_nfs_opens.proofs.LeaveLaws.{may_be_made}
use Rattle.xl_nfs_opens.proofs.shares.asked.Goals as goal

pub returns-clause-leaves : goal.returns-clause-leaves
returns-clause-leaves g c =
    let t = c.ask.new.self in
    ask_leaves t.made _ c.args.core.now t c.args.request c.in_ok-answer.answer c.in_ok-answer.effects (c.in_ok-answer.ensures.state t.made (may_be_made t)) c.in_ok-answer.ensures.on c.requires.fit c.requires.ready.good c.in_ok-answer.ensures.good c.requires.nfs

pub returns-clause-keeper : goal.returns-clause-keeper
returns-clause-keeper g c = λ before told. told_on _ _ _ _ before c.in_ok-answer.ensures.keeper c.in_ok-answer.ensures.on told

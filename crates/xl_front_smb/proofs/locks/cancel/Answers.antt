use Rattle.xl_plan.proofs.BudgetLaws.{leaves_self}
use Rattle.xl_front_smb.proofs.LockLaws.{cancel_leaves_by}
use Rattle.xl_plan.proofs.KeeperLaws.{cancel_quiet}
use Rattle.xl_front_smb.proofs.locks.cancel.Goals as goal

pub returns-clause-leaves : goal.returns-clause-leaves
returns-clause-leaves c =
    cancel_leaves_by c.args.core.now c.cancel.new.self c.in-Some.id c.in_ok-effects.effects c.queue.result.now c.is_waiting.result c.in_ok-effects.ensures.state c.is_waiting.ensures c.queue.ensures c.if-not-is_waiting.false c.in_ok-effects.ensures.good

pub returns-in_default-clause-leaves : goal.returns-in_default-clause-leaves
returns-in_default-clause-leaves c = leaves_self c.args.core.now 0 0 c.requires.ready

pub returns-then-not-is_waiting-clause-leaves : goal.returns-then-not-is_waiting-clause-leaves
returns-then-not-is_waiting-clause-leaves c = leaves_self c.args.core.now 0 0 c.requires.ready

pub returns-clause-quiet : goal.returns-clause-quiet
returns-clause-quiet c = cancel_quiet c.args.core.now c.cancel.new.self c.in-Some.id c.in_ok-effects.effects c.in_ok-effects.ensures.state

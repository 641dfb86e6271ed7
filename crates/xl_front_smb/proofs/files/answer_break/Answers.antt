use Rattle.xl_plan.proofs.BudgetLaws.{ack_leaves}
use Rattle.xl_plan.proofs.KeeperLaws.{ack_quiet}
use Rattle.xl_front_smb.proofs.files.answer_break.Goals as goal

pub returns-clause-leaves : goal.returns-clause-leaves
returns-clause-leaves c = ack_leaves c.args.core.now c.ack-effects.new.self c.args.cache.now c.args.to c.ack-effects.result c.ack-effects.ensures.state c.requires.held c.requires.runs c.ack-effects.ensures.good

pub returns-clause-quiet : goal.returns-clause-quiet
returns-clause-quiet c = ack_quiet c.args.core.now c.ack-effects.new.self c.args.cache.now c.args.to c.ack-effects.result c.ack-effects.ensures.state

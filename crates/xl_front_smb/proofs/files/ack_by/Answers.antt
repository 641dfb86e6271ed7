use Rattle.std.proofs.Common.{rules, None}
use Rattle.xl_matrix.specs.declared.claim.What.TheVariants.{Cache}
use Rattle.xl_plan.proofs.BudgetLaws.{leaves_self}
use Rattle.xl_plan.proofs.KeeperLaws.{quiet_self}
use Rattle.xl_front_smb.proofs.AckLaws.{by_what, rests}
use Rattle.xl_front_smb.proofs.files.ack_by.Goals as goal

pub returns-in-Cache-default-None-clause-done : goal.returns-in-Cache-default-None-clause-done
returns-in-Cache-default-None-clause-done c = λ n l. by_what n c.args.core.now l c.args.id c.args.level c.args.cache.now (Cache c.in-Cache-default-None.kind None) _ (search rules) (rests n c.args.core.now l _ _ _ c.is_refused.ensures (c.ack_resting.ensures.done n c.args.core.now l))

pub returns-in-Cache-default-None-clause-leaves : goal.returns-in-Cache-default-None-clause-leaves
returns-in-Cache-default-None-clause-leaves c = leaves_self c.args.core.now 0 0 c.requires.ready

pub returns-in-Share : goal.returns-in-Share
returns-in-Share c = record { done = search rules; leaves = leaves_self _ _ _ c.requires.ready; quiet = quiet_self c.args.core.now; answer = search rules }

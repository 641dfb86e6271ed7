use Rattle.std.proofs.Common.{List, ap, rules}
use Rattle.xl_core.specs.Ticks.{behind_told}
use Rattle.xl_core.specs.declared.ask.Effect.{Effect}
use Rattle.xl_plan.proofs.BudgetLaws.{leaves_self}
use Rattle.xl_plan.proofs.KeeperLaws.{quiet_self, quiet_then}
use Rattle.xl_smb_locks.proofs.LeaveLaws.{leaves_on}
use Rattle.xl_front_smb.specs.Ending.{all_ended}
use Rattle.xl_front_smb.proofs.EndLaws.{ended_step}
use Rattle.xl_front_smb.proofs.ending.end_all.Goals as goal

pub opens-init : goal.opens-init
opens-init c = (ap (λ (es : List Effect). behind_told es (all_ended c.args.leavers.now c.args.core.now)) c.new-effects.ensures, leaves_self _ 0 0 c.requires.ready, quiet_self _)

pub opens-preserved : goal.opens-preserved
opens-preserved c = (search (rules, ended_step), leaves_on _ _ _ c.opens.invariant.1 c.in_ok-end_one.ensures.leaves, quiet_then _ _ _ c.opens.invariant.2 c.in_ok-end_one.ensures.quiet)

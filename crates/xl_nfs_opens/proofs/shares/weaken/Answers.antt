use Rattle.xl_plan.proofs.BudgetLaws.{weaken_leaves}
use Rattle.xl_plan.proofs.KeeperLaws.{weaken_quiet}
use Rattle.xl_nfs_opens.proofs.LeaveLaws.{weakens_told}
use Rattle.xl_nfs_opens.proofs.shares.weaken.Goals as goal

pub returns-then-share_has-clause-told : goal.returns-then-share_has-clause-told
returns-then-share_has-clause-told c = λ n. weakens_told n c.args.core.now c.args.share c.args.access c.args.deny

pub returns-then-share_has-clause-leaves : goal.returns-then-share_has-clause-leaves
returns-then-share_has-clause-leaves c = weaken_leaves _ _ _ _ _ _ c.weaken-effects.ensures.state c.weaken-effects.ensures.good

pub returns-then-share_has-clause-quiet : goal.returns-then-share_has-clause-quiet
returns-then-share_has-clause-quiet c = weaken_quiet _ _ _ _ _ _ c.weaken-effects.ensures.state

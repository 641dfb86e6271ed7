use Rattle.xl_plan.proofs.PlanLaws.{kept_so}
use Rattle.xl_nfs_laws.specs.Orderly.{IsOrderly}
use Rattle.xl_nfs_laws.proofs.OpenOrderLaws.{close_keeps, confirm_keeps, downgrade_keeps, open_keeps, return_keeps}
use Rattle.xl_nfs_opens.specs.Closing.{close, deleg_return, open_confirm}
use Rattle.xl_nfs_opens.specs.Downgrades.{open_downgrade}
use Rattle.xl_nfs_opens.specs.Opens.{open_file}
use Rattle.xl_nfs_laws.proofs.open_order.stateids_stay_orderly.Goals as goal

pub returns-clause-start : goal.returns-clause-start
returns-clause-start c = record { rising = tt; apart = tt; held = tt }

pub returns-clause-opens : goal.returns-clause-opens
returns-clause-opens c = λ n files others s l current a orderly. kept_so IsOrderly n s l (open_file files others s l current a) orderly (open_keeps files others s l current a orderly)

pub returns-clause-confirms : goal.returns-clause-confirms
returns-clause-confirms c = λ n s l current a orderly. kept_so IsOrderly n s l (open_confirm s l current a) orderly (confirm_keeps s l current a orderly)

pub returns-clause-downgrades : goal.returns-clause-downgrades
returns-clause-downgrades c = λ n s l current a orderly. kept_so IsOrderly n s l (open_downgrade s l current a) orderly (downgrade_keeps s l current a orderly)

pub returns-clause-closes : goal.returns-clause-closes
returns-clause-closes c = λ n s l current a orderly. kept_so IsOrderly n s l (close s l current a) orderly (close_keeps s l current a orderly)

pub returns-clause-returns : goal.returns-clause-returns
returns-clause-returns c = λ n s l current stateid orderly. kept_so IsOrderly n s l (deleg_return s l current stateid) orderly (return_keeps s l current stateid orderly)

use Rattle.xl_plan.proofs.BudgetLaws.{leaves_self}
use Rattle.std.proofs.Common.{sym, ◌∙◌}
use Rattle.xl_front_smb.proofs.PlanLaws.{close_done}
use Rattle.xl_front_smb.proofs.files.close.Goals as goal

pub returns-clause-done : goal.returns-clause-done
returns-clause-done c =
    λ n. close_done n c.args.core.now c.args.state.now c.args.conn c.args.client.now c.args.head.now c.args.id c.in-Some.session c.in-Some-tree_named._place c.in-Some-open_named.number _
    (sym c.session_named.ensures.value ∙ c.in-Some.is) (sym c.tree_named.ensures.value ∙ c.in-Some-tree_named.is) (sym c.open_named.ensures.value ∙ c.in-Some-open_named.is) (c.in_ok-done.ensures.done n)

pub returns-in_default-clause-leaves : goal.returns-in_default-clause-leaves
returns-in_default-clause-leaves c = leaves_self _ _ _ c.requires.ready

pub returns-in_default-tree_named-clause-leaves : goal.returns-in_default-tree_named-clause-leaves
returns-in_default-tree_named-clause-leaves c = leaves_self _ _ _ c.requires.ready

pub returns-in_default-open_named-clause-leaves : goal.returns-in_default-open_named-clause-leaves
returns-in_default-open_named-clause-leaves c = leaves_self _ _ _ c.requires.ready

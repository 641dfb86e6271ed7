use Rattle.xl_plan.proofs.BudgetLaws.{leaves_self}
use Rattle.xl_front_smb.proofs.PlanLaws.{connect_done}
use Rattle.xl_front_smb.proofs.sessions.connect.Goals as goal

pub returns-clause-done : goal.returns-clause-done
returns-clause-done c =
    λ n. connect_done n c.args.core.now c.args.state.now c.args.conn c.args.path.now c.args.session c.counter.result c.in_ok-has_room_for_tree.field-0 c.is_share.result _ c.counter.ensures c.in_ok-has_room_for_tree.ensures c.is_share.ensures c.if-not-branch.false c.if-not-is_share.false (c.in_ok-done.ensures.done n)

pub returns-then-not-branch-clause-leaves : goal.returns-then-not-branch-clause-leaves
returns-then-not-branch-clause-leaves c = leaves_self _ _ _ c.requires.ready

pub returns-then-not-is_share-clause-leaves : goal.returns-then-not-is_share-clause-leaves
returns-then-not-is_share-clause-leaves c = leaves_self _ _ _ c.requires.ready

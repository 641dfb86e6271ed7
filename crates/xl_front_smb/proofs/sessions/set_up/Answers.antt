use Rattle.xl_plan.proofs.BudgetLaws.{leaves_self}
use Rattle.xl_front_smb.proofs.PlanLaws.{set_up_done}
use Rattle.xl_front_smb.proofs.sessions.set_up.Goals as goal

pub returns-clause-done : goal.returns-clause-done
returns-clause-done c =
    λ n. set_up_done n c.args.core.now c.args.state.now c.args.conn c.counter.result c.in_ok-has_room_for_session.field-0 _ c.counter.ensures c.in_ok-has_room_for_session.ensures c.if-not-branch.false (c.in_ok-done.ensures.done n)

pub returns-then-not-branch-clause-leaves : goal.returns-then-not-branch-clause-leaves
returns-then-not-branch-clause-leaves c = leaves_self _ _ _ c.requires.ready

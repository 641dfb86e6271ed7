use Rattle.xl_house.specs.Whole.{ground_of}
use Rattle.xl_house.proofs.HearLaws.{ok_with, on_ok, part_is_done}
use Rattle.xl_plan.proofs.BudgetLaws.{leaves_then, may_before}
use Rattle.xl_house.proofs.frames.do_message.Goals as goal

pub returns-clause-state : goal.returns-clause-state
returns-clause-state g c = λ n. ok_with c.settle_frames.result _ _ _
    (λ leaves last is may. part_is_done n (ground_of c.args.ground.now) c.args.going _ last c.args.frame c.args.message.now _ _ _ _ _ _ c.in_ok-sent.sent _ _ (c.in_ok-sent.ensures.heard n (may_before n 0 _ _ leaves may)) c.take_last-sent.ensures c.in_ok-going.ensures (is may))
    c.settle_frames.ensures.leaves (c.settle_frames.ensures.state n)

pub returns-clause-leaves : goal.returns-clause-leaves
returns-clause-leaves g c = on_ok c.settle_frames.result _ _ (λ leaves. leaves_then _ _ _ 3 0 c.in_ok-sent.ensures.leaves leaves) c.settle_frames.ensures.leaves

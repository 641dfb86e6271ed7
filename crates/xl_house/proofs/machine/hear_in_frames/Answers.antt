use Rattle.xl_plan.proofs.BudgetLaws.{may_before}
use Rattle.xl_house.specs.State.{as_found}
use Rattle.xl_house.specs.Whole.{whole_of}
use Rattle.xl_house.proofs.HearLaws.{ok_with}
use Rattle.xl_house.proofs.RunLaws.{begun_leaves, begun_ready, begun_runs}
use Rattle.xl_house.proofs.machine.hear_in_frames.Goals as goal

pub run_frames-requires : goal.run_frames-requires
run_frames-requires g c = record { ready = begun_ready _ _ c.in_ok-going.going c.args.machine.now.paused c.requires.ready c.in_ok-going.ensures.leaves c.in_ok-going.ensures.owed }

pub returns-clause-gone : goal.returns-clause-gone
returns-clause-gone g c = λ n. ok_with c.run_frames.result _ _ _
    (λ leaves last is may. begun_runs n (as_found (whole_of c.args.exports.now c.args.machine.now)) c.args.event.now c.begin_frames.new.machine.connections.items (c.in_ok-going.going, c.begin_frames.new.machine.layers.front, c.begin_frames.new.machine.layers.core) _ (c.in_ok-going.ensures.begun n (may_before n _ _ _ leaves may)) c.begin_frames.ensures.connections (is may))
    c.run_frames.ensures.leaves (c.run_frames.ensures.run n)

pub returns-clause-leaves : goal.returns-clause-leaves
returns-clause-leaves g c = ok_with c.run_frames.result _ _ _
    (λ leaves last ends. begun_leaves _ _ _ c.in_ok-going.going last c.args.machine.now.paused c.in_ok-going.ensures.leaves c.in_ok-going.ensures.owed leaves ends)
    c.run_frames.ensures.leaves c.run_frames.ensures.owed

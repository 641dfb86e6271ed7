use Rattle.xl_work.specs.Lives.{tally}
use Rattle.xl_work.proofs.LifeLaws.{serving_done}
use Rattle.xl_work.proofs.ServeLaws.{held_back}
use Rattle.xl_work.proofs.serve.serve.Goals as goal

pub returns-clause-served : goal.returns-clause-served
returns-clause-served g c told before s = serving_done told before _ _ _ _ _ _ (c.turns.invariant.serving told before s) c.turns.invariant.place c.turns.invariant.settled c.turns.invariant.caught

pub returns-in-Err-clause-runs : goal.returns-in-Err-clause-runs
returns-in-Err-clause-runs g c open_gate some n is =
    let before = tally g.L.Lane.asked g.L.Lane.lost g.L.Lane.faults g.L.Lane.ended c.turns.worker.lane in
    let after = tally g.L.Lane.asked g.L.Lane.lost g.L.Lane.faults g.L.Lane.ended c.turn.new.worker.lane in
    absurd (cc (open_gate, held_back g.H.Serial.may_halt (g.G.Gate.is_open c.args.gate.now) c.args.post.turns c.turn.new.worker.pass.view before after c.in-Err.end n c.in-Err.ensures.end is))

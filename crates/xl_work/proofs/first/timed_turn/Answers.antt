use Rattle.std.proofs.Common.{sym, subst, ◌∙◌, ◌+◌, ap}
use Rattle.xl_base.specs.Memory.{counted}
use Rattle.xl_work.specs.Lives.{is_whole, tally}
use Rattle.xl_work.specs.Ticks.{IsTimed}
use Rattle.xl_work.proofs.CrewLaws.{rose_more, turn_waited}
use Rattle.xl_work.proofs.ServeLaws.{err_gives, held_back, if_err_as, on_err, on_ok, part_held}
use Rattle.xl_work.proofs.TickLaws.{ticking_timed}
use Rattle.xl_work.proofs.first.timed_turn.Goals as goal

pub returns-in_err-tick-clause-timed : goal.returns-in_err-tick-clause-timed
returns-in_err-tick-clause-timed g c done asked told told2 told3 before ticking rose tells =
    err_gives c.from_residual.result c.in_err-tick.field-0.0 _ c.from_residual.ensures.1
    (subst (λ whole. IsTimed whole asked (g.L.Lane.asked c.tick.new.timed.worker.lane) told before told3 c.tick.new.timed.pass.view) (sym c.in_err-tick.ensures.part) (c.in_err-tick.ensures.cut (g.G.Gate.is_open c.args.gate.now) done asked (g.L.Lane.asked c.tick.new.timed.worker.lane) told told2 told3 before ticking tells))

pub returns-in_err-settle-clause-timed : goal.returns-in_err-settle-clause-timed
returns-in_err-settle-clause-timed g c done asked told told2 told3 before ticking rose tells =
    err_gives c.from_residual-in_err-settle.result c.in_err-settle.field-0.0 _ c.from_residual-in_err-settle.ensures.1
    (ticking_timed told before (g.G.Gate.is_open c.args.gate.now) (is_whole (g.G.Gate.is_open c.args.gate.now) c.in_err-settle.field-0.0) c.tick.new.timed.ticks (done + 1) asked (g.L.Lane.asked c.settle.new.worker.lane) told3 c.tick.new.timed.pass.view (c.in_ok-tick.ensures.ticking (g.G.Gate.is_open c.args.gate.now) done told told2 told3 before ticking tells) (λ whole. absurd (cc (whole, c.in_err-settle.ensures.part))))

pub returns-clause-ticking : goal.returns-clause-ticking
returns-clause-ticking g c open_gate done told told2 told3 before ticking tells = on_ok c.turn.result _ (c.in_ok-tick.ensures.ticking open_gate done told told2 told3 before ticking tells)

pub returns-clause-timed : goal.returns-clause-timed
returns-clause-timed g c done asked told told2 told3 before ticking rose tells =
    let open_gate = g.G.Gate.is_open c.args.gate.now in
    let entered = c.in_ok-tick.ensures.ticking open_gate done told told2 told3 before ticking tells in
    if_err_as c.turn.result Unit _ _
    (λ end _ is. ticking_timed told before open_gate (is_whole open_gate end) c.tick.new.timed.ticks (done + 1) asked (g.L.Lane.asked c.turn.new.worker.lane) told3 c.tick.new.timed.pass.view entered
    (λ whole.
    let waited = turn_waited g.H.Serial.may_halt c.turn.new.worker.pass.view open_gate c.args.post.turns (tally g.L.Lane.asked g.L.Lane.lost g.L.Lane.faults g.L.Lane.ended c.settle.new.worker.lane) (tally g.L.Lane.asked g.L.Lane.lost g.L.Lane.faults g.L.Lane.ended c.turn.new.worker.lane) end is whole in
    (waited.0, rose_more done asked (g.L.Lane.asked c.args.timed.now.worker.lane) (g.L.Lane.asked c.turn.new.worker.lane) (rose waited.0) (waited.1 ∙ ap counted (c.settle.ensures.quiet.asked ∙ c.tick.ensures.quiet.asked)))))
    (on_err c.turn.result Unit tt) c.turn.ensures.end

pub returns-in_err-tick-clause-held : goal.returns-in_err-tick-clause-held
returns-in_err-tick-clause-held g c = err_gives c.from_residual.result c.in_err-tick.field-0.0 _ c.from_residual.ensures.1 (λ n is. part_held (g.G.Gate.is_open c.args.gate.now) c.in_err-tick.field-0.0 n c.in_err-tick.ensures.part is)

pub returns-in_err-settle-clause-held : goal.returns-in_err-settle-clause-held
returns-in_err-settle-clause-held g c = err_gives c.from_residual-in_err-settle.result c.in_err-settle.field-0.0 _ c.from_residual-in_err-settle.ensures.1 (λ n is. part_held (g.G.Gate.is_open c.args.gate.now) c.in_err-settle.field-0.0 n c.in_err-settle.ensures.part is)

pub returns-clause-held : goal.returns-clause-held
returns-clause-held g c =
    let before = tally g.L.Lane.asked g.L.Lane.lost g.L.Lane.faults g.L.Lane.ended c.settle.new.worker.lane in
    let after = tally g.L.Lane.asked g.L.Lane.lost g.L.Lane.faults g.L.Lane.ended c.turn.new.worker.lane in
    if_err_as c.turn.result Unit _ _ (λ end _ is n same. held_back g.H.Serial.may_halt (g.G.Gate.is_open c.args.gate.now) c.args.post.turns c.turn.new.worker.pass.view before after end n is same) (on_err c.turn.result Unit tt) c.turn.ensures.end

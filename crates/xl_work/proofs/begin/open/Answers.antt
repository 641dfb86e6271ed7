use Rattle.std.proofs.Common.{ap, sym, subst, List, Option}
use Rattle.xl_base.specs.declared.lane.Link.{Link}
use Rattle.xl_work.specs.declared.worker.Conn.{Conn}
use Rattle.xl_work.specs.declared.worker.Live.{Live}
use Rattle.xl_work.specs.Lives.{Nothing, Unopened, IsServing}
use Rattle.xl_work.proofs.LifeLaws.{in_time_of}
use Rattle.xl_work.proofs.ServeLaws.{err_gives, none_still, serving_fresh}
use Rattle.xl_work.proofs.begin.open.Goals as goal

pub returns-in_err-ask-clause-left : goal.returns-in_err-ask-clause-left
returns-in_err-ask-clause-left g c told before s = err_gives c.from_residual.result c.in_err-ask.field-0.0 _ c.from_residual.ensures.1 (c.in_err-ask.ensures.left told before (Unopened c.args.kind) s)

pub returns-in_err-number-clause-left : goal.returns-in_err-number-clause-left
returns-in_err-number-clause-left g c told before s =
    err_gives c.from_residual-in_err-number.result c.in_err-number.field-0.0 _ c.from_residual-in_err-number.ensures.1 (c.in_err-number.ensures.left (g.G.Gate.is_open c.args.gate.now) told before (Unopened c.args.kind) (c.ask.ensures.serving told before (Unopened c.args.kind) s))

pub returns-clause-serving : goal.returns-clause-serving
returns-clause-serving g c told before s =
    let same = c.in_ok-number.ensures.same in
    let rest = c.in_ok-number.ensures.rest in
    subst (λ (z : Option (List Link) × Option Live × List Conn). IsServing told before z.0 c.enter.new.worker.pass.view z.2 z.1 Nothing) (λ i. (sym (ap g.L.Lane.told same.0) i, sym c.put_in.ensures i, (sym rest.0 i).items))
    (serving_fresh told before _ _ _ _ _ c.new.result c.args.kind c.in_ok-number.number (none_still _ _ c.ask.ensures.still c.requires.idle) (c.ask.ensures.serving told before (Unopened c.args.kind) s) c.in_ok-number.ensures.called
    (in_time_of g.H.Serial.first g.H.Serial.lawful c.enter.new.worker.pass.view g.H.Serial.in_time c.in_ok-number.ensures.lawful) c.new.ensures.conn c.new.ensures.cutter c.new.ensures.from c.new.ensures.runs)

use Rattle.std.proofs.Common.{◌∙◌, ap, sym, subst, List, Option, option_map}
use Rattle.xl_base.specs.declared.lane.Link.{Link}
use Rattle.xl_work.specs.declared.worker.Conn.{Conn}
use Rattle.xl_work.specs.declared.worker.Live.{Live}
use Rattle.xl_work.specs.Lives.{Nothing, IsServing, with_end}
use Rattle.xl_work.proofs.LifeLaws.{in_time_of, serving_ended}
use Rattle.xl_work.proofs.ServeLaws.{err_gives, at_number, at_still}
use Rattle.xl_work.proofs.ending.enter_end.Goals as goal

pub returns-in_err-ask-clause-left : goal.returns-in_err-ask-clause-left
returns-in_err-ask-clause-left g c told before s = err_gives c.from_residual.result c.in_err-ask.field-0.0 _ c.from_residual.ensures.1 (c.in_err-ask.ensures.left told before Nothing s)

pub returns-in_err-enter-clause-left : goal.returns-in_err-enter-clause-left
returns-in_err-enter-clause-left g c told before s =
    err_gives c.from_residual-in_err-enter.result c.in_err-enter.field-0.0 _ c.from_residual-in_err-enter.ensures.1 (c.in_err-enter.ensures.left (g.G.Gate.is_open c.args.gate.now) told before Nothing (c.ask.ensures.serving told before Nothing s))

pub returns-clause-serving : goal.returns-clause-serving
returns-clause-serving g c told before s =
    let same = c.in_ok-enter.ensures.same in
    let rest = c.in_ok-enter.ensures.rest in
    subst (λ (z : Option (List Link) × Option Live × List Conn). IsServing told before z.0 c.enter.new.worker.pass.view z.2 z.1 Nothing) (λ i. (sym (ap g.L.Lane.told same.0) i, sym (c.note_end.ensures ∙ ap (option_map with_end) same.1) i, (sym rest.0 i).items))
    (serving_ended told before _ _ _ _ _ c.in-Some.number _ (c.ask.ensures.serving told before Nothing s) c.in_ok-enter.ensures.called (in_time_of g.H.Serial.first g.H.Serial.lawful c.enter.new.worker.pass.view g.H.Serial.in_time c.in_ok-enter.ensures.lawful)
    (at_still c.in-Some.number _ _ c.ask.ensures.still (at_number c.in-Some.number _ c.in-Some.ensures)) (c.ask.ensures.over c.requires.over))

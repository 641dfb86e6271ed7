use Rattle.std.proofs.Common.{◌∙◌, ap, sym, subst, arith, List, Option, option_map}
use Rattle.xl_base.specs.declared.lane.Link.{Link}
use Rattle.xl_work.specs.declared.worker.Conn.{Conn}
use Rattle.xl_work.specs.declared.worker.Live.{Live}
use Rattle.xl_work.specs.Lives.{Nothing, Received, IsServing, steady}
use Rattle.xl_work.proofs.LifeLaws.{in_time_of, serving_taken, serving_entered}
use Rattle.xl_work.proofs.ServeLaws.{err_gives, at_taken, at_still, quiet_then, steady_still, steady_taken}
use Rattle.xl_work.proofs.lane.enter_messages.Goals as goal

pub returns-in_err-ask-clause-left : goal.returns-in_err-ask-clause-left
returns-in_err-ask-clause-left g c told before s =
    err_gives c.from_residual.result c.in_err-ask.field-0.0 _ c.from_residual.ensures.1 (c.in_err-ask.ensures.left told before (Received c.in-Some.message) (serving_taken told before _ _ _ _ _ _ (c.messages.invariant.serving told before s) c.in-Some.ensures))

pub messages-preserved : goal.messages-preserved
messages-preserved g c =
    let done = c.in_ok-ask.ensures.done in
    let low = c.messages.invariant.low in
    let same = c.in_ok-enter.ensures.same in
    let rest = c.in_ok-enter.ensures.rest in record {
      desk = c.enter.ensures.desk ∙ c.ask.ensures.desk ∙ c.messages.invariant.desk;
      place = c.enter.ensures.place;
      serving = λ told before s.
          subst (λ (z : Option (List Link) × Option Live × List Conn). IsServing told before z.0 c.enter.new.worker.pass.view z.2 z.1 Nothing) (λ i. (sym (ap g.L.Lane.told same.0) i, sym same.1 i, (sym rest.0 i).items))
          (serving_entered told before _ _ _ _ _ c.in-Some.conn _ c.in-Some.message
          (c.ask.ensures.serving told before (Received c.in-Some.message) (serving_taken told before _ _ _ _ _ _ (c.messages.invariant.serving told before s) c.in-Some.ensures)) c.in_ok-enter.ensures.called
          (in_time_of g.H.Serial.first g.H.Serial.lawful c.enter.new.worker.pass.view g.H.Serial.in_time c.in_ok-enter.ensures.lawful) (at_still c.in-Some.conn _ _ c.ask.ensures.still (at_taken _ _ _ c.in-Some.ensures)));
      steady = ap (option_map steady) same.1 ∙ steady_still _ _ c.ask.ensures.still ∙ steady_taken _ _ _ c.in-Some.ensures ∙ c.messages.invariant.steady;
      conns = rest.0 ∙ c.ask.ensures.conns ∙ c.messages.invariant.conns;
      low = omega (arith, rest.1);
      high = omega (arith, rest.1);
      passes = λ is. rest.1 ∙ c.ask.ensures.passes is ∙ c.messages.invariant.passes is;
      quiet = quiet_then _ _ _ c.messages.invariant.quiet (quiet_then _ _ _ c.ask.ensures.quiet c.enter.ensures.quiet);
    }

pub returns-in_err-enter-clause-left : goal.returns-in_err-enter-clause-left
returns-in_err-enter-clause-left g c told before s =
    err_gives c.from_residual-in_err-enter.result c.in_err-enter.field-0.0 _ c.from_residual-in_err-enter.ensures.1
    (c.in_err-enter.ensures.left (g.G.Gate.is_open c.args.gate.now) told before (Received c.in-Some.message) (c.ask.ensures.serving told before (Received c.in-Some.message) (serving_taken told before _ _ _ _ _ _ (c.messages.invariant.serving told before s) c.in-Some.ensures)))

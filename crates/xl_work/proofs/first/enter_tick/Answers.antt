use Rattle.std.proofs.Common.{ap, ◌∙◌, refl, sym, subst}
use Rattle.xl_base.specs.declared.lane_end.LaneEnd.TheVariants as lane_end
use Rattle.xl_work.specs.Lives.{Nothing, is_whole}
use Rattle.xl_work.specs.Lives.{IsBroken}
use Rattle.xl_work.proofs.CallLaws.{goes_self, refused_none}
use Rattle.xl_work.proofs.CrewLaws.{broken_heard, broken_part, cut_broken}
use Rattle.xl_work.proofs.LifeLaws.{refused_cut, refused_is_part, serving_left}
use Rattle.xl_work.proofs.ServeLaws.{err_gives, serving_starved}
use Rattle.xl_work.proofs.first.enter_tick.Goals as goal

pub returns-in_err-ask-clause-left : goal.returns-in_err-ask-clause-left
returns-in_err-ask-clause-left g c told before s = err_gives c.from_residual.result c.in_err-ask.field-0.0 _ c.from_residual.ensures.1 (c.in_err-ask.ensures.left told before Nothing s)

pub returns-in_err-ask-clause-broken : goal.returns-in_err-ask-clause-broken
returns-in_err-ask-clause-broken g c v hears others = err_gives c.from_residual.result c.in_err-ask.field-0.0 _ c.from_residual.ensures.1 (broken_heard g.H.Serial.may_halt c.ask.new.worker.pass.view v hears _ _ c.in_err-ask.field-0.0 c.in_err-ask.ensures.broken)

pub returns-in-Ok-catch_up-clause-left : goal.returns-in-Ok-catch_up-clause-left
returns-in-Ok-catch_up-clause-left g c told before s =
    serving_left told before (g.G.Gate.is_open c.args.gate.now) c.end_of.result _ _ _ _ Nothing (c.catch_up.ensures.serving told before Nothing (c.ask.ensures.serving told before Nothing s)) c.catch_up.ensures.place (ap (is_whole (g.G.Gate.is_open c.args.gate.now)) c.end_of.ensures ∙ refused_is_part (g.G.Gate.is_open c.args.gate.now) c.in-Err.refused) (λ _. c.in-Ok-catch_up.ensures.caught)

pub returns-in-Ok-catch_up-clause-broken : goal.returns-in-Ok-catch_up-clause-broken
returns-in-Ok-catch_up-clause-broken g c v worker hears =
    subst (λ end. IsBroken g.H.Serial.may_halt (g.G.Gate.is_open c.args.gate.now) c.args.post.turns v end) (sym c.end_of.ensures)
    (cut_broken g.H.Serial.may_halt c.call.new.pass.view v hears (g.G.Gate.is_open c.args.gate.now) c.args.post.turns _ (refused_cut g.H.Serial.may_halt _ c.call.new.pass.view c.call.new.pass.view c.in-Err.refused c.in-Err.ensures.refused (goes_self c.call.new.pass.view)))

pub returns-in-Err-catch_up-clause-left : goal.returns-in-Err-catch_up-clause-left
returns-in-Err-catch_up-clause-left g c told before s = serving_starved told before _ lane_end.NoMemory _ _ _ _ Nothing (c.catch_up.ensures.serving told before Nothing (c.ask.ensures.serving told before Nothing s)) c.catch_up.ensures.place refl

pub returns-in-Ok-catch_up-clause-none : goal.returns-in-Ok-catch_up-clause-none
returns-in-Ok-catch_up-clause-none g c = refused_none g.H.Serial.may_halt _ _ c.in-Err.refused c.in-Err.ensures.refused

pub returns-in_err-ask-clause-part : goal.returns-in_err-ask-clause-part
returns-in_err-ask-clause-part g c = err_gives c.from_residual.result c.in_err-ask.field-0.0 _ c.from_residual.ensures.1 (broken_part g.H.Serial.may_halt c.ask.new.worker.pass.view (g.G.Gate.is_open c.args.gate.now) c.args.post.turns c.in_err-ask.field-0.0 c.in_err-ask.ensures.broken)

pub returns-in-Ok-catch_up-clause-part : goal.returns-in-Ok-catch_up-clause-part
returns-in-Ok-catch_up-clause-part g c = ap (is_whole (g.G.Gate.is_open c.args.gate.now)) c.end_of.ensures ∙ refused_is_part (g.G.Gate.is_open c.args.gate.now) c.in-Err.refused

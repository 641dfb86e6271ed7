use Rattle.std.proofs.Common.{sym, subst}
use Rattle.xl_work.specs.Calls.{IsCut}
use Rattle.xl_work.proofs.LifeLaws.{in_time_of, refused_left, refused_starved, refused_cut}
use Rattle.xl_work.proofs.lane.enter.Goals as goal

pub returns-in-Ok-catch_up-clause-left : goal.returns-in-Ok-catch_up-clause-left
returns-in-Ok-catch_up-clause-left g c open_gate told before hand s =
    refused_left told before open_gate g.H.Serial.may_halt c.in-Err.refused c.end_of.result _ _ c.args.worker.now.pass.view c.call.new.pass.view c.catch_up.new.worker.pass.view _ _ _ _ hand s c.in-Err.ensures.refused (in_time_of g.H.Serial.first g.H.Serial.lawful c.call.new.pass.view g.H.Serial.in_time c.call.ensures.lawful) (c.catch_up.ensures.serving told before hand) c.catch_up.ensures.place c.in-Ok-catch_up.ensures.caught c.end_of.ensures

pub returns-in-Ok-catch_up-clause-cut : goal.returns-in-Ok-catch_up-clause-cut
returns-in-Ok-catch_up-clause-cut g c = subst (λ end. IsCut g.H.Serial.may_halt c.catch_up.new.worker.pass.view end) (sym c.end_of.ensures) (refused_cut g.H.Serial.may_halt c.args.worker.now.pass.view c.call.new.pass.view c.catch_up.new.worker.pass.view c.in-Err.refused c.in-Err.ensures.refused c.catch_up.ensures.goes)

pub returns-in-Err-catch_up-clause-left : goal.returns-in-Err-catch_up-clause-left
returns-in-Err-catch_up-clause-left g c open_gate told before hand s =
    refused_starved told before open_gate g.H.Serial.may_halt c.in-Err.refused _ _ c.args.worker.now.pass.view c.call.new.pass.view c.catch_up.new.worker.pass.view _ _ _ _ hand s c.in-Err.ensures.refused (in_time_of g.H.Serial.first g.H.Serial.lawful c.call.new.pass.view g.H.Serial.in_time c.call.ensures.lawful) (c.catch_up.ensures.serving told before hand) c.catch_up.ensures.place

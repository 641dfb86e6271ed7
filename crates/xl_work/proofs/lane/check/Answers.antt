use Rattle.xl_work.proofs.LifeLaws.{in_time_of, refused_left, refused_starved}
use Rattle.xl_work.proofs.lane.check.Goals as goal

pub returns-in-Ok-catch_up-clause-left : goal.returns-in-Ok-catch_up-clause-left
returns-in-Ok-catch_up-clause-left g c open_gate told before hand s =
    refused_left told before open_gate g.H.Serial.may_halt c.in-Err.refused c.end_of.result _ _ c.args.worker.now.pass.view c.check.new.pass.view c.catch_up.new.worker.pass.view _ _ _ _ hand s c.in-Err.ensures.refused (in_time_of g.H.Serial.first g.H.Serial.lawful c.check.new.pass.view g.H.Serial.in_time c.in-Err.ensures.lawful) (c.catch_up.ensures.serving told before hand) c.catch_up.ensures.place c.in-Ok-catch_up.ensures.caught c.end_of.ensures

pub returns-in-Err-catch_up-clause-left : goal.returns-in-Err-catch_up-clause-left
returns-in-Err-catch_up-clause-left g c open_gate told before hand s =
    refused_starved told before open_gate g.H.Serial.may_halt c.in-Err.refused _ _ c.args.worker.now.pass.view c.check.new.pass.view c.catch_up.new.worker.pass.view _ _ _ _ hand s c.in-Err.ensures.refused (in_time_of g.H.Serial.first g.H.Serial.lawful c.check.new.pass.view g.H.Serial.in_time c.in-Err.ensures.lawful) (c.catch_up.ensures.serving told before hand) c.catch_up.ensures.place

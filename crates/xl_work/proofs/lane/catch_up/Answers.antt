use Rattle.std.proofs.Common.{Some, subst, sym, ◌∙◌}
use Rattle.xl_work.specs.Lives.{IsServing}
use Rattle.xl_work.proofs.LifeLaws.{in_time_of, serving_looked, caught_unsent, caught_sent}
use Rattle.xl_work.proofs.lane.catch_up.Goals as goal

pub returns-in_default-clause-serving : goal.returns-in_default-clause-serving
returns-in_default-clause-serving g c told before hand s = serving_looked told before _ _ _ _ _ hand s c.see.ensures.looked.goes c.see.ensures.looked.none (in_time_of g.H.Serial.first g.H.Serial.lawful c.see.new.pass.view g.H.Serial.in_time c.see.ensures.lawful)

pub returns-then-live-clause-serving : goal.returns-then-live-clause-serving
returns-then-live-clause-serving g c told before hand s =
    serving_looked told before _ _ _ _ (Some c.in-Some.live) hand (subst (λ live. IsServing told before (g.L.Lane.told c.args.worker.now.lane) c.args.worker.now.pass.view c.args.worker.now.conns.items live hand) c.in-Some.is s) c.see-then-live.ensures.looked.goes c.see-then-live.ensures.looked.none (in_time_of g.H.Serial.first g.H.Serial.lawful c.see-then-live.new.pass.view g.H.Serial.in_time c.see-then-live.ensures.lawful)

pub returns-in_default-looked-clause-serving : goal.returns-in_default-looked-clause-serving
returns-in_default-looked-clause-serving g c told before hand s =
    serving_looked told before _ _ _ _ (Some c.in-Some.live) hand (subst (λ live. IsServing told before (g.L.Lane.told c.args.worker.now.lane) c.args.worker.now.pass.view c.args.worker.now.conns.items live hand) c.in-Some.is s) c.look-looked.ensures.looked.goes c.look-looked.ensures.looked.none (in_time_of g.H.Serial.first g.H.Serial.lawful c.look-looked.new.pass.view g.H.Serial.in_time c.look-looked.ensures.lawful)

pub returns-then-is_empty-clause-serving : goal.returns-then-is_empty-clause-serving
returns-then-is_empty-clause-serving g c told before hand s =
    caught_unsent told before _ _ _ _ _ c.in-Some.live hand _ _ _ s c.in-Some.is c.look-looked.ensures.looked (in_time_of g.H.Serial.first g.H.Serial.lawful c.look-looked.new.pass.view g.H.Serial.in_time c.look-looked.ensures.lawful) c.in-Ok.ensures.bytes c.as_slice-sent.ensures.value (sym c.is_empty.ensures ∙ c.if-is_empty.true) c.in-Ok.ensures.end

pub returns-clause-serving : goal.returns-clause-serving
returns-clause-serving g c told before hand s =
    subst (λ failed. IsServing told before (g.L.Lane.told c.send.new.self) c.look-looked.new.pass.view c.args.worker.now.conns.items (Some (record c.in-Some.live { from = c.in-Ok.end; failed = failed })) hand) (sym c.is_failed-live.ensures)
    (caught_sent told before _ _ _ _ _ _ c.in-Some.live hand _ _ _ _ s c.in-Some.is c.if-live.false c.look-looked.ensures.looked (in_time_of g.H.Serial.first g.H.Serial.lawful c.look-looked.new.pass.view g.H.Serial.in_time c.look-looked.ensures.lawful) c.in-Ok.ensures.bytes c.as_slice-sent.ensures.value c.in-Ok.ensures.end c.send.ensures.told)

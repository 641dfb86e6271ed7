use Rattle.std.proofs.Common.{subst, sym, ◌∙◌, true, ◌≡◌, IfSome}
use Rattle.xl_work.specs.Crews.{tells_lane}
use Rattle.xl_work.proofs.LifeLaws.{in_time_of}
use Rattle.xl_work.proofs.RestLaws.{rested_failed, rested_sent, rested_starved, rested_still, rested_unsent}
use Rattle.xl_work.proofs.rest.send_rest.Goals as goal

pub returns-in_default-clause-rested : goal.returns-in_default-clause-rested
returns-in_default-clause-rested g c open_gate =
    rested_still (tells_lane g.L.Lane.told g.L.Lane.asked g.L.Lane.lost g.L.Lane.faults g.L.Lane.ended) open_gate _ _ _ c.see.ensures.looked.goes (in_time_of g.H.Serial.first g.H.Serial.lawful c.see.new.pass.view g.H.Serial.in_time c.see.ensures.lawful) c.requires.place (subst (λ live. IfSome live (λ l. l.failed ≡ true)) (sym c.in_default.is) tt)

pub returns-then-live-clause-rested : goal.returns-then-live-clause-rested
returns-then-live-clause-rested g c open_gate =
    rested_failed (tells_lane g.L.Lane.told g.L.Lane.asked g.L.Lane.lost g.L.Lane.faults g.L.Lane.ended) open_gate _ _ c.args.done.now c.in-Some.live c.see-then-live.ensures.looked.goes (in_time_of g.H.Serial.first g.H.Serial.lawful c.see-then-live.new.pass.view g.H.Serial.in_time c.see-then-live.ensures.lawful) c.requires.place c.in-Some.is c.if-live.true

pub returns-in_default-looked-clause-rested : goal.returns-in_default-looked-clause-rested
returns-in_default-looked-clause-rested g c open_gate =
    rested_starved (tells_lane g.L.Lane.told g.L.Lane.asked g.L.Lane.lost g.L.Lane.faults g.L.Lane.ended) open_gate _ _ c.args.done.now c.in-Some.live c.look-looked.ensures.looked.goes (in_time_of g.H.Serial.first g.H.Serial.lawful c.look-looked.new.pass.view g.H.Serial.in_time c.look-looked.ensures.lawful) c.requires.place c.in-Some.is

pub returns-then-is_empty-clause-rested : goal.returns-then-is_empty-clause-rested
returns-then-is_empty-clause-rested g c open_gate =
    rested_unsent (tells_lane g.L.Lane.told g.L.Lane.asked g.L.Lane.lost g.L.Lane.faults g.L.Lane.ended) open_gate _ _ _ c.in-Some.live _ _ _ c.look-looked.ensures.looked.goes (in_time_of g.H.Serial.first g.H.Serial.lawful c.look-looked.new.pass.view g.H.Serial.in_time c.look-looked.ensures.lawful) c.in-Some.is c.in-Ok.ensures.bytes c.as_slice-sent.ensures.value (sym c.is_empty.ensures ∙ c.if-is_empty.true) c.in-Ok.ensures.end

pub returns-clause-rested : goal.returns-clause-rested
returns-clause-rested g c open_gate =
    rested_sent (tells_lane g.L.Lane.told g.L.Lane.asked g.L.Lane.lost g.L.Lane.faults g.L.Lane.ended) open_gate _ _ _ c.in-Some.live _ _ _ _ _ _ c.look-looked.ensures.looked.goes (in_time_of g.H.Serial.first g.H.Serial.lawful c.look-looked.new.pass.view g.H.Serial.in_time c.look-looked.ensures.lawful) c.in-Some.is c.if-live.false c.in-Ok.ensures.bytes c.as_slice-sent.ensures.value c.in-Ok.ensures.end c.send.ensures.told
    record { asked = c.send.ensures.asked; lost = c.send.ensures.lost; later = c.send.ensures.later; ended = c.send.ensures.ended } c.is_failed-live.ensures

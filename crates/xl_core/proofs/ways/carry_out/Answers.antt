use Rattle.std.proofs.Common.{◌≡◌, List, subst, sym, ◌∙◌}
use Rattle.xl_core.specs.Blockers.{passage_of}
use Rattle.xl_core.specs.InFront.{in_front_of}
use Rattle.xl_core.specs.declared.blockers.Passage.TheVariants.{Open}
use Rattle.xl_wait.specs.declared.waiter.Waiter.{Waiter}
use Rattle.xl_core.specs.Whole.{state_of}
use Rattle.xl_core.proofs.PassageLaws.{opens, quiet_so, way_rests, way_begun, passage_then}
use Rattle.xl_core.proofs.WayCode.{begun_few}
use Rattle.xl_core.proofs.ways.carry_out.Goals as goal

pub returns-then-not-begins_some-clause-way : goal.returns-then-not-begins_some-clause-way
returns-then-not-begins_some-clause-way c =
    λ claims. quiet_so _ (state_of c.args.parts.now) c.new.result
    (way_rests (in_front_of c.args.front c.args.parts.now.queue) c.args.plea.now c.args.claim.now claims (state_of c.args.parts.now) c.args.plan c.requires.passage (sym c.begins_some.ensures ∙ c.if-not-begins_some.true)) c.new.ensures

pub begin_breaks-requires-clause-plan : goal.begin_breaks-requires-clause-plan
begin_breaks-requires-clause-plan c = (opens (in_front_of c.args.front c.args.parts.now.queue) (state_of c.args.parts.now) c.args.claim.now c.args.plan c.requires.passage).1

pub returns-clause-way : goal.returns-clause-way
returns-clause-way c =
    λ claims. way_begun (in_front_of c.args.front c.args.parts.now.queue) c.args.plea.now c.args.claim.now claims (state_of c.args.parts.now) c.args.plan c.requires.passage (sym c.begins_some.ensures ∙ c.if-not-begins_some.false) ∙ c.in_ok-told.ensures.state

pub returns-clause-passage : goal.returns-clause-passage
returns-clause-passage c =
    let then = passage_then (in_front_of c.args.front c.args.parts.now.queue) (state_of c.args.parts.now) (state_of c.begin_breaks.new.parts) c.args.claim.now c.args.plan c.plan_then-left.result c.moment_after.result c.in_ok-told.told c.requires.passage c.in_ok-told.ensures.state c.moment_after.ensures c.plan_then-left.ensures in
    subst (λ (ws : List Waiter). Open c.plan_then-left.result ≡ passage_of (in_front_of c.args.front ws) (state_of c.begin_breaks.new.parts) c.args.claim.now) (sym c.begin_breaks.ensures.queue) then

pub returns-clause-few : goal.returns-clause-few
returns-clause-few c = begun_few _ (state_of c.args.parts.now) (state_of c.begin_breaks.new.parts) c.in_ok-told.told c.requires.good c.in_ok-told.ensures.state

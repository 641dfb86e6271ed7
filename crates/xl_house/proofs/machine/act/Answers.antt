use Rattle.std.proofs.Common.{◌∙◌}
use Rattle.xl_core.specs.Stores.{Telling}
use Rattle.xl_plan.proofs.KeeperLaws.{told_begun}
use Rattle.xl_plan.specs.Keepers.{IsTold, telling}
use Rattle.xl_house.specs.Machine.{connected}
use Rattle.xl_house.specs.Sifting.{paused_left}
use Rattle.xl_house.specs.Whole.{whole_of}
use Rattle.xl_house.proofs.ActedLaws.{acted_gives, acted_kept, acted_made, may_allowed, owed_after}
use Rattle.xl_house.proofs.machine.act.Goals as goal

pub returns-clause-step : goal.returns-clause-step
returns-clause-step g c =
    rw (c.hear_all.ensures.place)
    (acted_made (whole_of c.args.exports.now c.args.machine.now) c.args.event.now c.in_ok-paused.field-0 c.hear_all.new.machine.layers.front c.hear_all.new.machine.layers.core c.begin_step.new.self c.connect.new.connections.items c.made-stores.result c.requires.goes_on (λ n may. c.in_ok-paused.ensures.gone n may) (c.in_ok-connect.ensures ∙ (λ i. connected (c.hear_all.ensures.connections i) (c.hear_all.ensures.place i) c.args.event.now)) c.begin_step.ensures.state c.made-stores.ensures)

pub returns-clause-allowed : goal.returns-clause-allowed
returns-clause-allowed g c = λ n left.
    let before : Telling = telling g.K.Keeper.held g.K.Keeper.given g.K.Keeper.faults g.K.Keeper.left c.args.keeper.now in
    let now : Telling = telling g.K.Keeper.held g.K.Keeper.given g.K.Keeper.faults g.K.Keeper.left c.hear_all.new.keeper in
    let told : IsTold before c.hear_all.new.machine.layers.core now = c.in_ok-paused.ensures.keeper before (told_begun c.args.machine.now.layers.core before c.requires.holds) in
    rw (c.hear_all.ensures.place)
    (acted_gives (whole_of c.args.exports.now c.args.machine.now) c.args.event.now c.in_ok-paused.field-0 c.hear_all.new.machine.layers.front c.hear_all.new.machine.layers.core c.begin_step.new.self c.connect.new.connections.items c.made-stores.result n c.requires.goes_on (λ n may. c.in_ok-paused.ensures.gone n may) (c.in_ok-connect.ensures ∙ (λ i. connected (c.hear_all.ensures.connections i) (c.hear_all.ensures.place i) c.args.event.now)) c.begin_step.ensures.state c.made-stores.ensures (may_allowed before now c.hear_all.new.machine.layers.core n told left))

pub returns-clause-keeper : goal.returns-clause-keeper
returns-clause-keeper g c =
    let before : Telling = telling g.K.Keeper.held g.K.Keeper.given g.K.Keeper.faults g.K.Keeper.left c.args.keeper.now in
    let now : Telling = telling g.K.Keeper.held g.K.Keeper.given g.K.Keeper.faults g.K.Keeper.left c.hear_all.new.keeper in
    let told : IsTold before c.hear_all.new.machine.layers.core now = c.in_ok-paused.ensures.keeper before (told_begun c.args.machine.now.layers.core before c.requires.holds) in
    acted_kept (whole_of c.args.exports.now c.args.machine.now) c.args.event.now c.in_ok-paused.field-0 c.hear_all.new.machine.layers.front c.hear_all.new.machine.layers.core c.begin_step.new.self c.connect.new.connections.items c.made-stores.result before now c.requires.goes_on c.requires.free (λ n may. c.in_ok-paused.ensures.gone n may) (c.in_ok-connect.ensures ∙ (λ i. connected (c.hear_all.ensures.connections i) (c.hear_all.ensures.place i) c.args.event.now)) c.begin_step.ensures.state c.made-stores.ensures told

pub returns-clause-short : goal.returns-clause-short
returns-clause-short g c = (owed_after _ _ _ _ _ c.requires.ready c.in_ok-paused.ensures.leaves c.begin_step.ensures.state).1

pub returns-clause-numbers : goal.returns-clause-numbers
returns-clause-numbers g c = (owed_after _ _ _ _ _ c.requires.ready c.in_ok-paused.ensures.leaves c.begin_step.ensures.state).0

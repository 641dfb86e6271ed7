use Rattle.std.proofs.Common.{ap, subst, ◌∙◌}
use Rattle.xl_base.specs.Stable.{Stable, raised}
use Rattle.xl_core.specs.Stores.{Telling}
use Rattle.xl_plan.specs.Keepers.{telling}
use Rattle.xl_house.specs.Starts.{IsStored}
use Rattle.xl_house.proofs.StartLaws.{stored_is}
use Rattle.xl_house.proofs.start.raise.Goals as goal

pub returns-in-Stored-clause-stored : goal.returns-in-Stored-clause-stored
returns-in-Stored-clause-stored g c =
    let before : Telling = telling g.K.Keeper.held g.K.Keeper.given g.K.Keeper.faults g.K.Keeper.left c.args.keeper.now in
    let now : Telling = telling g.K.Keeper.held g.K.Keeper.given g.K.Keeper.faults g.K.Keeper.left c.store.new.self in
    subst (λ (x : Stable). IsStored x before now) (c.raise_epoch.ensures ∙ ap raised c.in-Ok.ensures)
    (stored_is c.store.result c.raise_epoch.new.self before now c.in-Stored.is c.store.ensures.held c.store.ensures.given c.store.ensures.left c.store.ensures.counts)

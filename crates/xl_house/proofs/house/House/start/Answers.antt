use Rattle.std.proofs.Common.{◌∙◌, sym}
use Rattle.xl_plan.specs.Keepers.{telling}
use Rattle.xl_house.proofs.StartLaws.{of_ok, stored_from}
use Rattle.xl_house.proofs.house.House.start.Goals as goal
use Rattle.xl_house.proofs.house.House.start.Goals.{in-Some, in-None}

pub returns-in-Ok-clause-stored : goal.returns-in-Ok-clause-stored
returns-in-Ok-clause-stored g c =
    rw c.begin.ensures (elim c.match-fault.branch [
      | in-Some w ↦ (let clash = sym w.raised-is ∙ c.in-Ok.is in absurd cc)
      | in-None w ↦
          rw w.keeper-is
          (stored_from _ _ (telling g.K.Keeper.held g.K.Keeper.given g.K.Keeper.faults g.K.Keeper.left c.load-record.new.keeper) _ c.load-record.ensures.held c.load-record.ensures.given (c.load-record.ensures.still w.in-None.is) c.load-record.ensures.left
          (of_ok _ w.raise-raised.result c.in-Ok.begun (sym w.raised-is ∙ c.in-Ok.is) w.raise-raised.ensures.stored))
    ])

pub returns-in-Ok-clause-loaded : goal.returns-in-Ok-clause-loaded
returns-in-Ok-clause-loaded g c =
    rw c.begin.ensures (elim c.match-fault.branch [
      | in-Some w ↦ (let clash = sym w.raised-is ∙ c.in-Ok.is in absurd cc)
      | in-None w ↦ c.load-record.ensures.loaded w.in-None.is
    ])

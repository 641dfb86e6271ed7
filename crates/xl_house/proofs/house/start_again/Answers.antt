use Rattle.xl_base.specs.declared.halt.Halt.TheVariants.{JournalFull}
use Rattle.xl_house.proofs.StartLaws.{handed_back}
use Rattle.xl_house.proofs.house.start_again.Goals as goal

pub returns-in_err-make_room-clause-full : goal.returns-in_err-make_room-clause-full
returns-in_err-make_room-clause-full g c = λ count. handed_back _ _ c.make_room.result c.from_residual.result c.in_err-make_room.field-0.0 (JournalFull count) _ c.in_err-make_room.was c.from_residual.ensures.1 (c.make_room.ensures.full count)

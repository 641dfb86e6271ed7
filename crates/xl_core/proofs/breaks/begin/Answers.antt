use Rattle.std.proofs.Common.{Some, refl}
use Rattle.xl_matrix.specs.declared.claim.What.TheVariants.{Cache}
use Rattle.xl_table.proofs.InsertLaws.{sound_changed_other}
use Rattle.xl_core.proofs.breaks.begin.Goals as goal

pub change-requires-clause-sound : goal.change-requires-clause-sound
change-requires-clause-sound c = sound_changed_other c.args.begun.now.0 (Cache c.in-Cache.kind (Some (record { target = c.args.begun.now.1; deadline = c.args.deadline }))) c.args.table.now c.requires.sound refl

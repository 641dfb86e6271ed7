use Rattle.std.proofs.Common.{◌≡◌, drop}
use Rattle.xl_core.specs.Ticks.{behind_told}
use Rattle.xl_plan.specs.Keepers.{IsQuiet}
use Rattle.xl_front_smb.specs.Ending.{all_ended}
use Rattle.xl_front_smb.specs.Short.{Leaves}
use Rattle.xl_front_smb.proofs.ending.end_all.Given as goal

abbrev pub invariant-opens : goal.invariant-opens
invariant-opens l = (behind_told l.effects (all_ended (drop l.leaver-index l.leavers) l.core) ≡ all_ended l.leavers l.initial.core) × Leaves 0 l.initial.core l.core × IsQuiet l.initial.core l.core

use Rattle.std.proofs.Common.{drop}
use Rattle.xl_plan.specs.Keepers.{HandsTo}
use Rattle.xl_smb_locks.specs.Short.{Leaves}
use Rattle.xl_smb_locks.proofs.UnlockLaws.{ComeOn}
use Rattle.xl_smb_locks.proofs.unlocking.unlock.Given as goal

abbrev pub invariant-elements : goal.invariant-elements
invariant-elements g l =
    ComeOn l.number l.row l.initial.core l.elements l.core (drop l.element-index l.elements) × Leaves 0 l.initial.core l.core × HandsTo g.K.Keeper.held g.K.Keeper.given g.K.Keeper.faults g.K.Keeper.left l.initial.core l.core l.initial.keeper l.keeper

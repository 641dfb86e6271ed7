use Rattle.std.proofs.Common.{◌≡◌, length}
use Rattle.xl_front_smb.specs.Texts.{spells}
use Rattle.xl_front_smb.proofs.texts.spells.Given as goal

abbrev pub invariant-units : goal.invariant-units
invariant-units l = spells l.rest l.left ≡ spells l.text l.name

abbrev pub decreases-units : goal.decreases-units
decreases-units l = length l.rest

use Rattle.std.proofs.Common.{◌≡◌}
use Rattle.xl_smb.specs.Compounds.{is_over_from, is_over}
use Rattle.xl_smb.proofs.compound.is_over.Given as goal

abbrev pub invariant-parts : goal.invariant-parts
invariant-parts l = is_over_from l.left l.rest ≡ is_over l.frame

abbrev pub decreases-parts : goal.decreases-parts
decreases-parts l = l.left

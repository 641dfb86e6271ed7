use Rattle.std.proofs.Common.{◌≡◌, ◌++◌, map}
use Rattle.xl_smb.specs.Compounds.{shown_part, parts_from, parts_of}
use Rattle.xl_smb.proofs.compound.parts_of.Given as goal

abbrev pub invariant-parts : goal.invariant-parts
invariant-parts l = map shown_part l.parts.items ++ parts_from l.left l.rest ≡ parts_of l.frame

abbrev pub decreases-parts : goal.decreases-parts
decreases-parts l = l.left

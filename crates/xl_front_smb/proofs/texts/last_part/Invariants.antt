use Rattle.std.proofs.Common.{◌≡◌, length}
use Rattle.xl_front_smb.specs.Texts.{part_behind}
use Rattle.xl_front_smb.proofs.texts.last_part.Given as goal

abbrev pub invariant-units : goal.invariant-units
invariant-units l = part_behind l.part l.rest ≡ part_behind l.path l.path

abbrev pub decreases-units : goal.decreases-units
decreases-units l = length l.rest

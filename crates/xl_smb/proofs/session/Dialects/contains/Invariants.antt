use Rattle.std.proofs.Common.{◌≡◌, ◌==◌, length}
use Rattle.std.specs.List.{list_any}
use Rattle.xl_smb.specs.Sessions.{dialects_of}
use Rattle.xl_smb.proofs.session.Dialects.contains.Given as goal

abbrev pub invariant-dialects : goal.invariant-dialects
invariant-dialects l = list_any (λ offered. offered == l.dialect) (dialects_of l.rest) ≡ list_any (λ offered. offered == l.dialect) (dialects_of l.self.0.now)

abbrev pub decreases-dialects : goal.decreases-dialects
decreases-dialects l = length l.rest

use Rattle.std.proofs.Common.{◌≡◌, length}
use Rattle.std.specs.Prelude.{option_map}
use Rattle.xl_smb.specs.Leases.{first_of}
use Rattle.xl_smb.proofs.lease.first_of.Given as goal

abbrev pub invariant-contexts : goal.invariant-contexts
invariant-contexts l = first_of (option_map (λ w. (w.0.now, w.1)) l.wanted) l.rest ≡ first_of (option_map (λ w. (w.0.now, w.1)) l.wanted) l.list

abbrev pub decreases-contexts : goal.decreases-contexts
decreases-contexts l = length l.rest

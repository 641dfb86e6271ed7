use Rattle.std.proofs.Common.{◌≡◌, ◌++◌, map}
use Rattle.std.specs.List.{filter}
use Rattle.xl_core.specs.Leases.{has_ended}
use Rattle.xl_core.proofs.lease.ended_ids.Given as goal

abbrev pub invariant-leases : goal.invariant-leases
invariant-leases l = l.ids.items ++ map (λ e. e.0) (filter (has_ended l.now) l.id-iterator) ≡ map (λ e. e.0) (filter (has_ended l.now) l.leases.entries)

use Rattle.std.proofs.Common.{◌≡◌, not, ◌++◌, drop}
use Rattle.std.specs.List.{filter}
use Rattle.xl_base.specs.Stable.{same_name}
use Rattle.xl_core.proofs.stores.without_name.Given as goal

abbrev pub invariant-names : goal.invariant-names
invariant-names l = (l.shorter.epoch ≡ l.stable.epoch) × (l.shorter.names ++ filter (λ held. not (same_name held l.name)) (drop l.held-index l.names) ≡ filter (λ held. not (same_name held l.name)) l.names)

use Rattle.std.proofs.Common.{◌≡◌, ◌++◌, drop}
use Rattle.std.specs.List.{filter}
use Rattle.xl_grace.specs.Grace.{is_back}
use Rattle.xl_grace.proofs.grace.Grace.shorter.Given as goal

abbrev pub invariant-names : goal.invariant-names
invariant-names l = (l.shorter.epoch ≡ l.stable.epoch) × (l.shorter.names ++ filter (λ name. is_back name l.self) (drop l.name-index l.names) ≡ filter (λ name. is_back name l.self) l.names)

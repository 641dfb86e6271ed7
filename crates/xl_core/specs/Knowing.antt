-- Who may reclaim in the grace that runs is whom the record has.
use Rattle.std.specs.Prelude.{◌≡◌, map, Some}
use Rattle.xl_grace.specs.Grace.{Running}
use Rattle.xl_core.specs.State.{CoreState}

-- while grace runs those who may reclaim in it are those of the record, in order
abbrev pub KnowsRecord : CoreState → Type 0
KnowsRecord s = (g : Running) → s.grace ≡ Some g → map (λ one. one.name) g.reclaimants ≡ s.stable.names

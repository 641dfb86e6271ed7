use Rattle.std.proofs.Common.{◌∙◌}
use Rattle.xl_nfs_state.proofs.FiledLaws.{length_filed, distinct_numbers, distinct_names}
use Rattle.xl_nfs_state.proofs.filed.Filed.len.Goals as goal

pub returns-clause-len : goal.returns-clause-len
returns-clause-len g c = rw c.self.view_is at (c.count_entries.ensures.len ∙ length_filed g.R.Row.number g.R.Row.name c.self.inside.rows c.self.inside.numbers.entries c.self.inside.names.entries c.self.invariant)

pub returns-clause-numbers : goal.returns-clause-numbers
returns-clause-numbers g c = rw c.self.view_is at (distinct_numbers g.R.Row.number g.R.Row.name c.self.inside.rows c.self.inside.numbers.entries c.self.inside.names.entries c.self.invariant g.R.Number.PartialEq.eq c.count_entries.ensures.numbers)

pub returns-clause-names : goal.returns-clause-names
returns-clause-names g c = rw c.self.view_is at (distinct_names g.R.Row.number g.R.Row.name c.self.inside.rows c.self.inside.numbers.entries c.self.inside.names.entries c.self.invariant g.R.Name.PartialEq.eq c.count_entries.ensures.names)

use Rattle.std.proofs.Common.{◌∙◌}
use Rattle.xl_nfs_state.proofs.FiledLaws.{found_number}
use Rattle.xl_nfs_state.proofs.filed.Filed.find_number.Goals as goal

pub returns : goal.returns
returns g c = rw c.self.view_is at (c.find.ensures ∙ found_number g.R.Row.number g.R.Row.name c.self.inside.rows c.self.inside.numbers.entries c.self.inside.names.entries (g.Q.Equivalent.equivalent c.args.number) c.self.invariant)

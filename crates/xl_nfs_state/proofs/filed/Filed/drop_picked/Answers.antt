use Rattle.xl_nfs_state.proofs.FiledLaws.{dropped_filed, dropped_rows}
use Rattle.xl_nfs_state.proofs.filed.Filed.drop_picked.Goals as goal

pub invariant_of-self : goal.invariant_of-self
invariant_of-self g c =
    dropped_filed (g.P.Picks.picks c.args.which.now) c.self.inside.rows c.keep_rows.new.rows c.keep_rows.ensures g.R.Row.number g.R.Row.name c.self.inside.numbers.entries c.keep_entries.new.entries.entries c.self.inside.names.entries c.keep_entries-2.new.entries.entries c.self.invariant c.keep_entries.ensures c.keep_entries-2.ensures

pub returns : goal.returns
returns g c =
    rw c.self.view_is at (dropped_rows (g.P.Picks.picks c.args.which.now) c.self.inside.rows c.keep_rows.new.rows c.keep_rows.ensures g.R.Row.number g.R.Row.name c.self.inside.numbers.entries c.keep_entries.new.entries.entries c.self.inside.names.entries c.keep_entries-2.new.entries.entries c.self.invariant c.keep_entries.ensures c.keep_entries-2.ensures)

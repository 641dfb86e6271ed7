use Rattle.xl_nfs_state.proofs.FiledLaws.{changed_filed, changed_rows}
use Rattle.xl_nfs_state.proofs.filed.Filed.change.Goals as goal

pub invariant_of-self : goal.invariant_of-self
invariant_of-self g c =
    changed_filed (g.C.Change.after c.args.to) c.self.inside.rows c.write.new.rows g.R.Row.number (g.Q.Equivalent.equivalent c.args.number) g.R.Number.PartialEq.eq g.met.R.Number.Eq.laws.refl g.R.Row.name (g.met.C.Change.keeps_number c.args.to) (g.met.C.Change.keeps_name c.args.to) c.self.inside.numbers.entries c.self.inside.names.entries c.self.invariant c.write.ensures.rows

pub returns : goal.returns
returns g c =
    rw c.self.view_is at (changed_rows (g.C.Change.after c.args.to) c.self.inside.rows c.write.new.rows g.R.Row.number (g.Q.Equivalent.equivalent c.args.number) g.R.Number.PartialEq.eq g.met.R.Number.Eq.laws.refl g.R.Row.name (g.met.C.Change.keeps_number c.args.to) (g.met.C.Change.keeps_name c.args.to) c.self.inside.numbers.entries c.self.inside.names.entries c.self.invariant c.write.ensures.rows c.write.ensures.distinct)

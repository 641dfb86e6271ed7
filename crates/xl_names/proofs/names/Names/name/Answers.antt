use Rattle.xl_names.proofs.NameLaws.{number_at}
use Rattle.xl_names.proofs.names.Names.name.Goals as goal

pub returns-clause-number : goal.returns-clause-number
returns-clause-number c = rw c.self.view_is at (number_at c.self.inside.set.keys c.index.result.now c.args.id c.self.invariant.0 c.index.ensures)

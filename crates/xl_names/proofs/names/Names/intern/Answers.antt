use Rattle.xl_names.proofs.names.Names.intern.Goals as goal

pub returns-clause-full : goal.returns-clause-full
returns-clause-full c = rw c.self.view_is at c.enter.ensures.full

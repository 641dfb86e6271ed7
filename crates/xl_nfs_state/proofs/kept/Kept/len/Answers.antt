use Rattle.xl_nfs_state.proofs.ResultMapLaws.{kept_distinct}
use Rattle.xl_nfs_state.proofs.kept.Kept.len.Goals as goal

pub returns-clause-owners : goal.returns-clause-owners
returns-clause-owners c = rw c.self.view_is at (kept_distinct c.self.inside.results.entries c.len.ensures.unique)

use Rattle.std.proofs.Common.{◌∙◌}
use Rattle.xl_nfs_state.proofs.ResultMapLaws.{kept_found}
use Rattle.xl_nfs_state.proofs.kept.Kept.find.Goals as goal

pub returns : goal.returns
returns c = rw c.self.view_is at (c.get.ensures.value ∙ kept_found c.args.owner c.self.inside.results.entries)

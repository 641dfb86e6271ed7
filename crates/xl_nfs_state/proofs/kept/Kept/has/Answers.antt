use Rattle.std.proofs.Common.{◌∙◌}
use Rattle.xl_nfs_state.proofs.ResultMapLaws.{kept_there}
use Rattle.xl_nfs_state.proofs.kept.Kept.has.Goals as goal

pub returns : goal.returns
returns c = c.is_some.ensures ∙ kept_there c.find.result c.args.owner c.args.self.now c.find.ensures

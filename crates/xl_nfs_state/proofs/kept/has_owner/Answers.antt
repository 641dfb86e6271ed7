use Rattle.std.proofs.Common.{ap, is_some, ◌∙◌}
use Rattle.xl_nfs_state.specs.State.{is_owner}
use Rattle.xl_nfs_state.proofs.ResultMapLaws.{some_copied, some_found}
use Rattle.xl_nfs_state.proofs.kept.has_owner.Goals as goal

pub returns : goal.returns
returns c = c.is_some.ensures ∙ some_copied c.find_number.result ∙ ap is_some c.find_number.ensures ∙ some_found (is_owner c.args.number) c.args.owners.now

use Rattle.std.proofs.Common.{ap, ◌∙◌, is_some}
use Rattle.std.specs.List.{find}
use Rattle.xl_nfs_state.specs.State.{is_kept}
use Rattle.xl_nfs_state.proofs.ResultMapLaws.{kept_changed}
use Rattle.xl_nfs_state.proofs.kept.Kept.change.Goals as goal

pub returns : goal.returns
returns c =
    rw c.self.view_is at (kept_changed c.insert.result c.args.owner c.args.bytes c.self.inside.results.entries c.insert.new.self.entries c.insert.ensures.entries c.insert.ensures.absent (ap (λ ks. is_some (find (is_kept c.args.owner) ks)) c.self.view_is ∙ c.requires))

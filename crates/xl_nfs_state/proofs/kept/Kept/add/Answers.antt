use Rattle.std.proofs.Common.{ap, ◌∙◌}
use Rattle.std.specs.List.{find}
use Rattle.xl_nfs_state.specs.State.{is_kept}
use Rattle.xl_nfs_state.proofs.ResultMapLaws.{kept_added}
use Rattle.xl_nfs_state.proofs.kept.Kept.add.Goals as goal

pub returns-clause-ok : goal.returns-clause-ok
returns-clause-ok c =
    rw c.self.view_is at (kept_added c.self.inside.results.entries c.insert.new.self.entries c.args.row c.in_ok-insert.ensures.entries (ap (find (is_kept c.args.row.owner)) c.self.view_is ∙ c.requires))

use Rattle.std.proofs.Common.{ap, map, not, ◌==◌, ◌∙◌}
use Rattle.xl_nfs_state.specs.Rows.{kept_row}
use Rattle.xl_nfs_state.proofs.ResultMapLaws.{kept_left}
use Rattle.xl_nfs_state.proofs.kept.Kept.drop.Goals as goal

pub returns : goal.returns
returns c = rw c.self.view_is at (ap (map kept_row) c.drop_result.ensures ∙ kept_left (λ owner. not (c.args.owner == owner)) c.self.inside.results.entries)

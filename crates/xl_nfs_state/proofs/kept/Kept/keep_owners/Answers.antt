use Rattle.std.proofs.Common.{ap, map, ◌∙◌}
use Rattle.std.specs.List.{list_any}
use Rattle.xl_nfs_state.specs.Rows.{kept_row}
use Rattle.xl_nfs_state.specs.State.{is_owner}
use Rattle.xl_nfs_state.proofs.ResultMapLaws.{kept_left}
use Rattle.xl_nfs_state.proofs.kept.Kept.keep_owners.Goals as goal

pub returns : goal.returns
returns c = rw c.self.view_is at (ap (map kept_row) c.keep_results.ensures ∙ kept_left (λ owner. list_any (is_owner owner) c.args.owners.now) c.self.inside.results.entries)

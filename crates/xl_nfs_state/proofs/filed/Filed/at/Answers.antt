use Rattle.std.proofs.Common.{◌∙◌}
use Rattle.xl_nfs_state.specs.Filed.{places}
use Rattle.xl_nfs_state.proofs.FiledLaws.{row_at_place}
use Rattle.xl_nfs_state.proofs.filed.Filed.at.Goals as goal

pub returns : goal.returns
returns g c = rw c.self.view_is at (c.row_at.ensures ∙ row_at_place c.self.inside.rows (places c.self.inside.numbers.entries) c.args.place c.self.invariant.held)

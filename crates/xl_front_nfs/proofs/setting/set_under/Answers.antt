use Rattle.std.proofs.Common.{◌∙◌}
use Rattle.xl_front_nfs.specs.Clients.{with_row}
use Rattle.xl_front_nfs.proofs.setting.set_under.Goals as goal

pub returns : goal.returns
returns c = c.in_ok-enter.ensures ∙ (λ i. with_row (c.drop_number.ensures.lists i) (c.in_ok-row.ensures i))

use Rattle.std.proofs.Common.{ap, ◌∙◌}
use Rattle.std.specs.List.{list_any}
use Rattle.xl_table.specs.Relock.{is_range_by}
use Rattle.xl_core.proofs.LineLaws.{any_blocking}
use Rattle.xl_core.proofs.blockers.has_blocking.Goals as goal

pub returns : goal.returns
returns c = c.any_range_by.ensures ∙ ap (list_any (is_range_by c.args.owner)) (c.deref.ensures.value ∙ c.in_ok-blocking.ensures) ∙ any_blocking c.args.owner c.args.parts.now.table c.args.asked.now

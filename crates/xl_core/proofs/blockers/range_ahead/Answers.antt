use Rattle.std.proofs.Common.{sym, ◌∙◌}
use Rattle.xl_core.specs.Whole.{state_of}
use Rattle.xl_core.proofs.LineLaws.{range_is_first}
use Rattle.xl_core.proofs.blockers.range_ahead.Goals as goal

pub returns : goal.returns
returns c = c.in_ok-first.ensures ∙ range_is_first c.args.front (state_of c.args.parts.now) c.args.ask.now c.args.parts.now.queue c.requires.line (sym c.is_a_range.ensures ∙ c.if-not-is_a_range.false)

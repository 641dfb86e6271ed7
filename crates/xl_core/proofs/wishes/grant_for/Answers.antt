use Rattle.std.proofs.Common.{sym, ◌∙◌}
use Rattle.xl_core.specs.Whole.{state_of}
use Rattle.xl_core.proofs.AskWishLaws.{none_wished}
use Rattle.xl_core.proofs.wishes.grant_for.Goals as goal

pub returns-then-is_empty-clause-state : goal.returns-then-is_empty-clause-state
returns-then-is_empty-clause-state c = none_wished c.args.kinds.now c.args.answer (state_of c.args.parts.now) (sym c.is_empty.ensures ∙ c.if-is_empty.true)

use Rattle.std.proofs.Common.{sym, ◌∙◌}
use Rattle.xl_core.specs.Blockers.{before_number}
use Rattle.xl_core.specs.Whole.{state_of}
use Rattle.xl_core.proofs.PassageLaws.{held_behind, held_by_none}
use Rattle.xl_core.proofs.settling.waits_behind.Goals as goal

pub returns-in-Some : goal.returns-in-Some
returns-in-Some c = held_behind (before_number c.args.waiter.now.id c.args.parts.now.queue) (state_of c.args.parts.now) c.args.waiter.now c.args.claim.now _ c.requires.free (sym c.in-Some.is ∙ c.in_ok-range_ahead.ensures)

pub returns-in-None : goal.returns-in-None
returns-in-None c = held_by_none (before_number c.args.waiter.now.id c.args.parts.now.queue) (state_of c.args.parts.now) c.args.waiter.now c.args.claim.now c.requires.free (sym c.in-None.is ∙ c.in_ok-range_ahead.ensures)

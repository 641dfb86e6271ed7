use Rattle.std.proofs.Common.{sym, ◌∙◌}
use Rattle.xl_core.specs.Whole.{state_of}
use Rattle.xl_core.proofs.TickCode.{ends_here}
use Rattle.xl_core.proofs.ticking.end_grace.Goals as goal

pub returns-then-branch-clause-state : goal.returns-then-branch-clause-state
returns-then-branch-clause-state g c = λ n may.
    ends_here n (state_of c.args.parts.now) (state_of c.store.new.parts) c.end.new.self c.in_ok-shorter.shorter c.in_ok-store.field-0 (sym c.is_over.ensures ∙ c.if-not-is_over.false) (c.in_ok-store.ensures.may n) may c.if-branch.true c.in_ok-shorter.ensures c.in_ok-store.ensures.state c.end.ensures.ended

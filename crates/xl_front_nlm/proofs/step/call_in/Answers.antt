use Rattle.std.proofs.Common.{sym, ◌∙◌}
use Rattle.xl_programs.specs.Programs.{shown_request}
use Rattle.xl_front_nlm.proofs.StepLaws.{call_is_read}
use Rattle.xl_front_nlm.proofs.step.call_in.Goals as goal

pub returns-clause-call : goal.returns-clause-call
returns-clause-call c = sym (call_is_read (shown_request c.args.request.now) _ _ _ c.in-Ok.ensures.exact c.left.ensures (sym c.is_empty.ensures ∙ c.if-not-is_empty.false))

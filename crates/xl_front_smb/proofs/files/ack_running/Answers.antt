use Rattle.std.proofs.Common.{sym, ◌∙◌}
use Rattle.xl_front_smb.proofs.AckLaws.{ran_refused, ran_taken}
use Rattle.xl_front_smb.proofs.files.ack_running.Goals as goal

pub returns-then-is_refused-clause-done : goal.returns-then-is_refused-clause-done
returns-then-is_refused-clause-done c = λ n l. ran_refused n c.args.core.now l c.args.id c.args.level c.args.cache.now c.args.kind c.args.running _ (sym c.is_refused.ensures ∙ c.if-is_refused.true) (c.answer_break.ensures.done n l)

pub returns-clause-done : goal.returns-clause-done
returns-clause-done c = λ n l. ran_taken n c.args.core.now l c.args.id c.args.level c.args.cache.now c.args.kind c.args.running _ _ _ (sym c.is_refused.ensures ∙ c.if-is_refused.false) c.left_at-left.ensures c.oplock_level.ensures (c.answer_break-2.ensures.done n l)

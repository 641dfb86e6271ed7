use Rattle.std.proofs.Common.{sym, ◌∙◌}
use Rattle.xl_core.proofs.DeedCalls.{empty_unlocked}
use Rattle.xl_core.proofs.decide.unlock.Goals as goal

pub returns-then-is_posix-2-clause-answer : goal.returns-then-is_posix-2-clause-answer
returns-then-is_posix-2-clause-answer c = rw c.in-Empty.is (empty_unlocked _ _ _ c.requires.good (sym c.is_posix-in-Empty.ensures ∙ c.if-is_posix-2.true))

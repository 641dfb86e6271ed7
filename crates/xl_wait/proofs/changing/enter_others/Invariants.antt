use Rattle.std.proofs.Common.{◌≡◌, ◌++◌, ◌+◌, ◌≤◌, length}
use Rattle.xl_wait.specs.Lines.{standing, IsLine}
use Rattle.xl_wait.specs.Waiting.{without_all}
use Rattle.xl_wait.proofs.changing.enter_others.Given as goal

abbrev pub invariant-all : goal.invariant-all
invariant-all l = (standing l.line ++ without_all l.left l.waiter-iterator.rest.items ≡ without_all l.fn.ids l.fn.all.items) × (length (standing l.line) + length l.waiter-iterator.rest.items ≤ length l.fn.all.items) × IsLine l.line

use Rattle.std.proofs.Common.{◌≡◌, ◌++◌}
use Rattle.xl_smb_locks.proofs.finals.push_all.Given as goal

abbrev pub invariant-loop-out : goal.invariant-loop-out
invariant-loop-out l = l.outs ++ l.out-iterator.rest.items ≡ l.fn.outs ++ l.fn.more

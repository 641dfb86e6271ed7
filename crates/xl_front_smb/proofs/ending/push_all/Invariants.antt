use Rattle.std.proofs.Common.{◌≡◌, ◌++◌}
use Rattle.xl_front_smb.proofs.ending.push_all.Given as goal

abbrev pub invariant-loop-effect : goal.invariant-loop-effect
invariant-loop-effect l = l.effects ++ l.effect-iterator.rest.items ≡ l.fn.effects ++ l.fn.more

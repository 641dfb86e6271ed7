use Rattle.std.proofs.Common.{◌≡◌, ◌++◌, length}
use Rattle.std.specs.List.{AllByRecursion}
use Rattle.xl_smb.specs.Compounds.{compound, IsWhole}
use Rattle.xl_smb.proofs.compound.put_messages.Given as goal

abbrev pub invariant-messages : goal.invariant-messages
invariant-messages l = (l.out.items ++ compound l.rest ≡ l.fn.out.items ++ compound l.messages) × AllByRecursion IsWhole l.rest

abbrev pub decreases-messages : goal.decreases-messages
decreases-messages l = length l.rest

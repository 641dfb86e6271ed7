use Rattle.std.proofs.Common.{◌≡◌, ◌++◌, drop}
use Rattle.xl_front_smb.specs.Ending.{without_party}
use Rattle.xl_front_smb.proofs.ending.push_creates.Given as goal

abbrev pub invariant-creates : goal.invariant-creates
invariant-creates l = l.leavers.items ++ without_party (drop l.number-index l.creates) ≡ l.initial.leavers.items ++ without_party l.creates

use Rattle.std.proofs.Common.{◌+◌, length}
use Rattle.xl_adapters.proofs.link.send.Given as goal

abbrev pub decreases-writes : goal.decreases-writes
decreases-writes l = length l.rest + l.waits

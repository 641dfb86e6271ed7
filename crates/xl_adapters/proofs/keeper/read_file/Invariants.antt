use Rattle.std.proofs.Common.{◌+◌, ◌-◌, length}
use Rattle.xl_base.specs.RecordFile.{most_record_bytes}
use Rattle.xl_adapters.proofs.keeper.read_file.Given as goal

abbrev pub decreases-reads : goal.decreases-reads
decreases-reads g l = most_record_bytes + 1 - length l.text.items

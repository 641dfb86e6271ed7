use Rattle.std.proofs.Common.{append_assoc, rules}
use Rattle.xl_base.specs.Codec.{big_endian}
use Rattle.xl_base.specs.RecordFile.{name_text}
use Rattle.xl_base.proofs.record_file.put_name.Goals as goal

pub returns : goal.returns
unfolding name_text big_endian
returns c = search (rules, append_assoc)

use Rattle.std.proofs.Common.{◌<◌, ◌^◌, length, rules}
use Rattle.xl_base.specs.Stable.{Stable}
use Rattle.xl_base.proofs.RecordFileLaws.{few_names}
use Rattle.xl_base.proofs.record_file.write_file.Goals as goal

pub overflow_cast-count : goal.overflow_cast-count
overflow_cast-count c =
    let stable : Stable = record { epoch = c.args.epoch; names = c.args.names.now } in
    let few : length c.args.names.now < 2 ^ 32 = few_names stable c.requires in
    search rules

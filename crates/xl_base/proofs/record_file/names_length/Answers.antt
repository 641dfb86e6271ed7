use Rattle.std.proofs.Common.{arith}
use Rattle.xl_base.proofs.RecordFileLaws.{length_on, length_is}
use Rattle.xl_base.proofs.record_file.names_length.Goals as goal

pub names-preserved : goal.names-preserved
names-preserved c = (
  length_on c.names.length c.name_length.result c.saturating_add-length.result _ c.names.name-index c.args.names.now c.name-item.result c.names-test.true c.name-item.is c.name_length.ensures c.saturating_add-length.ensures c.names.invariant.0,
  omega (arith, c.saturating_add-length.ensures),
)

pub returns : goal.returns
returns c = length_is c.names.length c.names.name-index c.args.names.now c.names-test.false c.names.invariant.1 c.names.invariant.0

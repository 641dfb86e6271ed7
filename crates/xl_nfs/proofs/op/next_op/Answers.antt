use Rattle.xl_base.proofs.CodecLaws.{found_on, only_on}
use Rattle.xl_nfs.specs.Ops.{shown_op, op}
use Rattle.xl_nfs.proofs.op.next_op.Goals as goal

pub returns-clause-found : goal.returns-clause-found
returns-clause-found c = found_on shown_op (op.codec) c.args.args.now.rest.now c.read_op.new.xdr.rest.now c.read_op.result c.args.args.now.bytes c.read_op.ensures

pub returns-clause-only : goal.returns-clause-only
returns-clause-only c = only_on shown_op (op.codec) c.args.args.now.rest.now c.read_op.new.xdr.rest.now c.read_op.result c.read_op.ensures

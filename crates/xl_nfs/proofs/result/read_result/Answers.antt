use Rattle.xl_base.proofs.CodecLaws.{found_on, only_on}
use Rattle.xl_nfs.specs.Results.{shown_result, nfs_result}
use Rattle.xl_nfs.proofs.result.read_result.Goals as goal

pub returns-clause-found : goal.returns-clause-found
returns-clause-found c = found_on shown_result (nfs_result.codec) c.args.body.now.rest.now c.read_whole.new.xdr.rest.now c.read_whole.result c.args.body.now.bytes c.read_whole.ensures

pub returns-clause-only : goal.returns-clause-only
returns-clause-only c = only_on shown_result (nfs_result.codec) c.args.body.now.rest.now c.read_whole.new.xdr.rest.now c.read_whole.result c.read_whole.ensures

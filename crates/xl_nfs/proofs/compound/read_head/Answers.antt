use Rattle.xl_base.proofs.CodecLaws.{found_on, only_on}
use Rattle.xl_nfs.specs.Compounds.{shown_compound_head, compound_head}
use Rattle.xl_nfs.proofs.compound.read_head.Goals as goal

pub returns-clause-found : goal.returns-clause-found
returns-clause-found c = found_on shown_compound_head (compound_head.codec) c.args.args.now.rest.now c.read_compound_head.new.xdr.rest.now c.read_compound_head.result c.args.args.now.bytes c.read_compound_head.ensures

pub returns-clause-only : goal.returns-clause-only
returns-clause-only c = only_on shown_compound_head (compound_head.codec) c.args.args.now.rest.now c.read_compound_head.new.xdr.rest.now c.read_compound_head.result c.read_compound_head.ensures

use Rattle.xl_base.proofs.CodecLaws.{found_on, only_on}
use Rattle.xl_nlm.specs.Items.{shown_call}
use Rattle.xl_nlm.specs.Arguments.{arguments_of}
use Rattle.xl_nlm.proofs.reading.read.Goals as goal

pub returns-clause-found : goal.returns-clause-found
unfolding arguments_of
returns-clause-found c = found_on shown_call ((arguments_of c.args.proc).codec) c.args.args.now.rest.now c.read_arguments.new.args.rest.now c.read_arguments.result c.args.args.now.bytes c.read_arguments.ensures

pub returns-clause-only : goal.returns-clause-only
unfolding arguments_of
returns-clause-only c = λ call rest same fit is. only_on shown_call ((arguments_of c.args.proc).codec) c.args.args.now.rest.now c.read_arguments.new.args.rest.now c.read_arguments.result c.read_arguments.ensures call rest (same, fit) is

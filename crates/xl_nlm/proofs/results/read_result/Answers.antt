use Rattle.xl_base.proofs.CodecLaws.{found_on, only_on}
use Rattle.xl_nlm.specs.Items.{shown_reply}
use Rattle.xl_nlm.specs.Replies.{results_of}
use Rattle.xl_nlm.proofs.results.read_result.Goals as goal

pub returns-clause-found : goal.returns-clause-found
unfolding results_of
returns-clause-found c = found_on shown_reply ((results_of c.args.proc).codec) c.args.body.now.rest.now c.read_results.new.body.rest.now c.read_results.result c.args.body.now.bytes c.read_results.ensures

pub returns-clause-only : goal.returns-clause-only
unfolding results_of
returns-clause-only c = λ r rest fits is. only_on shown_reply ((results_of c.args.proc).codec) c.args.body.now.rest.now c.read_results.new.body.rest.now c.read_results.result c.read_results.ensures r rest fits is

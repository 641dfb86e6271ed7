use Rattle.std.proofs.Common.{arith}
use Rattle.xl_base.proofs.CodecLaws.{found_by, only_by}
use Rattle.xl_rpc.specs.Calls.{shown_head}
use Rattle.xl_rpc.proofs.CallLaws.{call_codec}
use Rattle.xl_rpc.proofs.call.read_call.Goals as goal

pub returns-clause-found : goal.returns-clause-found
returns-clause-found c = found_by (λ x. (shown_head x.head, x.args.rest.now)) call_codec c.args.bytes.now c.read_head.result (λ i. omega (arith, c.type_inv.bytes i)) c.read_head.ensures.exact

pub returns-clause-only : goal.returns-clause-only
returns-clause-only c = only_by (λ x. (shown_head x.head, x.args.rest.now)) call_codec c.args.bytes.now c.read_head.result c.read_head.ensures.exact

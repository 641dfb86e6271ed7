use Rattle.std.proofs.Common.{arith}
use Rattle.xl_base.proofs.CodecLaws.{found_by, only_by}
use Rattle.xl_rpc.proofs.ReplyLaws.{reply_codec}
use Rattle.xl_rpc.proofs.reply.read_reply.Goals as goal

pub returns-clause-found : goal.returns-clause-found
returns-clause-found c = found_by (λ r. ((r.xid, r.verdict), r.body.rest.now)) reply_codec c.args.bytes.now c.read_all.result (λ i. omega (arith, c.type_inv.bytes i)) c.read_all.ensures

pub returns-clause-only : goal.returns-clause-only
returns-clause-only c = λ xid v rest small fit is. only_by (λ r. ((r.xid, r.verdict), r.body.rest.now)) reply_codec c.args.bytes.now c.read_all.result c.read_all.ensures (xid, v) rest (small, fit) is

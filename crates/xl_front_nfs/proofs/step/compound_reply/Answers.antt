use Rattle.std.proofs.Common.{rules}
use Rattle.xl_front_nfs.proofs.ReplyLaws.{compound_little}
use Rattle.xl_front_nfs.proofs.step.compound_reply.Goals as goal

pub returns-clause-little : goal.returns-clause-little
returns-clause-little c = compound_little _ c.args.xid c.args.tag.now c.args.status c.args.count c.args.results.now (search rules) c.requires.tag c.requires.few

use Rattle.xl_smb.proofs.MessageLaws.{message_found}
use Rattle.xl_smb.proofs.message.read.Goals as goal

pub returns-clause-found : goal.returns-clause-found
returns-clause-found c = message_found c.args.frame.now c.message_at.result c.type_inv.frame c.message_at.ensures

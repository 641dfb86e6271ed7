use Rattle.xl_smb_laws.proofs.ReplyHeadLaws.{final_carries}
use Rattle.xl_smb_laws.proofs.replying.final_replies_repeat_their_requests.Goals as goal

pub returns : goal.returns
returns c = final_carries

use Rattle.xl_smb_frames.proofs.FrameLaws.{refusal_stands}
use Rattle.xl_smb_frames.proofs.frame.refusal.Goals as goal

pub write-requires : goal.write-requires
write-requires c = refusal_stands _ _ _ c.reply_head.ensures c.requires

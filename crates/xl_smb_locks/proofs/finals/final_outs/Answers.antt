use Rattle.xl_smb.specs.Replies.{shown_reply}
use Rattle.xl_smb_locks.proofs.FinalLaws.{final_stands}
use Rattle.xl_smb_locks.proofs.finals.final_outs.Goals as goal

pub write-requires : goal.write-requires
write-requires c =
    final_stands c.args.id c.command_by.result c.status_of.result c.args.row.now.request c.args.row.now.header c.final_head-head.result c.args.said c.in_ok-contexts.contexts.items (shown_reply c.final_body.result) c.final_head-head.ensures c.command_by.ensures c.status_of.ensures c.final_body.ensures c.requires
    c.in_ok-contexts.ensures.list c.in_ok-contexts.ensures.little c.in_ok-contexts.ensures.within

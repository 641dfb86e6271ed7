use Rattle.std.proofs.Common.{option_map, ap, sym, ◌∙◌}
use Rattle.xl_smb.specs.Replies.{shown_reply}
use Rattle.xl_front_smb.proofs.ReplyLaws.{reply_stands}
use Rattle.xl_front_smb.proofs.replies.reply_of.Goals as goal

pub write-requires : goal.write-requires
write-requires c =
    reply_stands c.args.head.now c.head_by.result c.args.told c.in_ok-contexts.contexts.items (shown_reply c.in-Some.body) c.head_by.ensures (ap (option_map shown_reply) (sym c.in-Some.is) ∙ c.body_of.ensures) c.requires
    c.in_ok-contexts.ensures.list c.in_ok-contexts.ensures.little c.in_ok-contexts.ensures.within

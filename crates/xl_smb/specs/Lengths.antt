-- How many bytes a message is spelled in.
use Rattle.std.specs.Prelude.{ℕ, ◌+◌, length}
use Rattle.xl_layout.specs.Layouts.{padding}
use Rattle.xl_smb.specs.Calls.{CallItem}
use Rattle.xl_smb.specs.Calls as call
use Rattle.xl_smb.specs.Replies.{ReplyItem}
use Rattle.xl_smb.specs.Replies as reply
use Rattle.xl_smb.specs.Messages.{MessageItem, Call, Reply, Told}
use Rattle.xl_smb.specs.declared.breaks.Break.{Break}
use Rattle.xl_smb.specs.declared.breaks.Break.TheVariants as held
use Rattle.xl_smb.specs.declared.breaks.Notice.{Notice}
use Rattle.xl_smb.specs.declared.breaks.Notice.TheVariants as told

abbrev pub break_length : Break → ℕ
break_length (held.Oplock level file_id) = 24
break_length (held.Lease lease) = 36

abbrev pub notice_length : Notice → ℕ
notice_length (told.Oplock level file_id) = 24
notice_length (told.Lease lease) = 44

abbrev pub call_length : CallItem → ℕ
call_length (call.Negotiate c) = 36 + length c.dialects
call_length (call.SessionSetup c) = 24 + length c.buffer
call_length call.Logoff = 4
call_length (call.TreeConnect path) = 8 + length path
call_length call.TreeDisconnect = 4
call_length (call.Create c) = 56 + length c.name + padding (120 + length c.name) (length c.contexts) + length c.contexts
call_length (call.Close c) = 24
call_length (call.Lock c) = 24 + length c.elements
call_length call.Cancel = 4
call_length call.Echo = 4
call_length (call.OplockBreak b) = break_length b
call_length call.Other = 0

abbrev pub reply_length : ReplyItem → ℕ
reply_length (reply.Negotiate r) = 64 + length r.buffer
reply_length (reply.SessionSetup r) = 8 + length r.buffer
reply_length reply.Logoff = 4
reply_length (reply.TreeConnect r) = 16
reply_length reply.TreeDisconnect = 4
reply_length (reply.Create r) = 88 + length r.contexts
reply_length (reply.Close r) = 60
reply_length reply.Lock = 4
reply_length reply.Echo = 4
reply_length (reply.OplockBreak b) = break_length b
reply_length reply.Error = 9
reply_length reply.Other = 0

abbrev pub message_length : MessageItem → ℕ
message_length (Call h c) = 64 + call_length c
message_length (Reply h r) = 64 + reply_length r
message_length (Told n) = 64 + notice_length n

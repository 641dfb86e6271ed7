-- Replies, by their command and status.
use Rattle.std.specs.Prelude.{◌≡◌, ℕ, ◌<◌, ◌^◌, Bool, true, false, length, Option, Some, None}
use Rattle.xl_layout.specs.Layouts.{made, reserved}
use Rattle.xl_layout.specs.Forms.{Form, Body, unread, reads, Spelling, no_body, by_form}
use Rattle.xl_smb.specs.Bodies.{form}
use Rattle.xl_smb.specs.Sessions.{NegotiateReplyItem, shown_negotiate_reply, negotiate_reply, SetupReplyItem, shown_setup_reply, setup_reply, tree_reply, empty}
use Rattle.xl_smb.specs.Creates.{CreateReplyItem, shown_create_reply, create_reply, CreateReplyHas}
use Rattle.xl_smb.specs.Locks.{close_reply}
use Rattle.xl_smb.specs.Breaks.{break_form, break_spelling}
use Rattle.xl_smb.specs.declared.breaks.Break.{Break}
use Rattle.xl_smb.specs.declared.reply.SmbReply.{SmbReply}
use Rattle.xl_smb.specs.declared.reply.SmbReply.TheVariants as reply
use Rattle.xl_smb.specs.declared.command.Command.{Command}
use Rattle.xl_smb.specs.declared.command.Command.TheVariants as command
use Rattle.xl_smb.specs.declared.lock.CloseReply.{CloseReply}
use Rattle.xl_smb.specs.declared.session.TreeConnectReply.{TreeConnectReply}

-- a reply without where its parts lie in memory
pub data ReplyItem : Type 0 where
  Negotiate : NegotiateReplyItem → ReplyItem
  SessionSetup : SetupReplyItem → ReplyItem
  Logoff : ReplyItem
  TreeConnect : TreeConnectReply → ReplyItem
  TreeDisconnect : ReplyItem
  Create : CreateReplyItem → ReplyItem
  Close : CloseReply → ReplyItem
  Lock : ReplyItem
  Echo : ReplyItem
  OplockBreak : Break → ReplyItem
  Error : ReplyItem
  Other : ReplyItem

abbrev pub shown_reply : SmbReply → ReplyItem
shown_reply (reply.Negotiate r) = Negotiate (shown_negotiate_reply r)
shown_reply (reply.SessionSetup r) = SessionSetup (shown_setup_reply r)
shown_reply reply.Logoff = Logoff
shown_reply (reply.TreeConnect r) = TreeConnect r
shown_reply reply.TreeDisconnect = TreeDisconnect
shown_reply (reply.Create r) = Create (shown_create_reply r)
shown_reply (reply.Close r) = Close r
shown_reply reply.Lock = Lock
shown_reply reply.Echo = Echo
shown_reply (reply.OplockBreak b) = OplockBreak b
shown_reply reply.Error = Error
shown_reply reply.Other = Other

-- ---- the body of each command, if it begins with this size

-- at status 0; of CANCEL and of a command that is not known it is not looked at (SMB-6)
abbrev pub success_body : ℕ → Option Command → Body ReplyItem
success_body size (Some command.Negotiate) = reads Negotiate negotiate_reply
success_body size (Some command.SessionSetup) = reads SessionSetup setup_reply
success_body size (Some command.Logoff) = reads (λ _. Logoff) empty
success_body size (Some command.TreeConnect) = reads TreeConnect tree_reply
success_body size (Some command.TreeDisconnect) = reads (λ _. TreeDisconnect) empty
success_body size (Some command.Create) = reads Create create_reply
success_body size (Some command.Close) = reads Close close_reply
success_body size (Some command.Lock) = reads (λ _. Lock) empty
success_body size (Some command.Cancel) = unread Other
success_body size (Some command.Echo) = reads (λ _. Echo) empty
success_body size (Some command.OplockBreak) = reads OplockBreak (break_form size)
success_body size None = unread Other

-- at another status: the error form, 8 bytes and its data, which is not looked at; one zero byte stands for no data
-- (MS-SMB2 2.2.2) (SMB-3)
unfoldable pub error : Form (Unit {0})
error = form 9 8 (reserved 7 (made tt))

abbrev pub error_body : Body ReplyItem
error_body = reads (λ _. Error) error

-- ---- how a reply is spelled

abbrev pub reply_spelling : ReplyItem → Spelling
reply_spelling (Negotiate r) = by_form negotiate_reply r
reply_spelling (SessionSetup r) = by_form setup_reply r
reply_spelling Logoff = by_form empty tt
reply_spelling (TreeConnect r) = by_form tree_reply r
reply_spelling TreeDisconnect = by_form empty tt
reply_spelling (Create r) = by_form create_reply r
reply_spelling (Close r) = by_form close_reply r
reply_spelling Lock = by_form empty tt
reply_spelling Echo = by_form empty tt
reply_spelling (OplockBreak b) = break_spelling b
reply_spelling Error = by_form error tt
reply_spelling Other = no_body

-- whether a command has a reply of its own at status 0
abbrev pub has_reply : Option Command → Bool
has_reply (Some command.Cancel) = false
has_reply (Some _) = true
has_reply None = false

-- whether this is what a command answers at status 0
abbrev pub Answers : Option Command → ReplyItem → Type 0
Answers c (Negotiate r) = c ≡ Some command.Negotiate
Answers c (SessionSetup r) = c ≡ Some command.SessionSetup
Answers c Logoff = c ≡ Some command.Logoff
Answers c (TreeConnect r) = c ≡ Some command.TreeConnect
Answers c TreeDisconnect = c ≡ Some command.TreeDisconnect
Answers c (Create r) = c ≡ Some command.Create
Answers c (Close r) = c ≡ Some command.Close
Answers c Lock = c ≡ Some command.Lock
Answers c Echo = c ≡ Some command.Echo
Answers c (OplockBreak b) = c ≡ Some command.OplockBreak
Answers c Error = ⊥
Answers c Other = has_reply c ≡ false

-- what it takes of a reply to be spelled, beside numbers that fit their fields
abbrev pub ReplyHas : ReplyItem → Type 0
ReplyHas (Negotiate r) = length r.buffer < 2 ^ 16
ReplyHas (SessionSetup r) = length r.buffer < 2 ^ 16
ReplyHas Logoff = Unit {0}
ReplyHas (TreeConnect r) = Unit {0}
ReplyHas TreeDisconnect = Unit {0}
ReplyHas (Create r) = CreateReplyHas r
ReplyHas (Close r) = Unit {0}
ReplyHas Lock = Unit {0}
ReplyHas Echo = Unit {0}
ReplyHas (OplockBreak b) = Unit {0}
ReplyHas Error = Unit {0}
ReplyHas Other = Unit {0}

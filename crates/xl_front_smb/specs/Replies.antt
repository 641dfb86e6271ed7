-- How what a request is answered is spelled (MS-SMB2 2.2, 3.3.4.1).
use Rattle.std.specs.Prelude.{◌≡◌, ℕ, min, max, ◌==◌, if◌then◌else◌, List, [], Option, Some, None}
use Rattle.xl_smb.specs.Heads.{number_of}
use Rattle.xl_smb.specs.Messages.{Reply, spelling}
use Rattle.xl_smb.specs.Places.{zeros}
use Rattle.xl_smb.specs.Replies.{ReplyItem, Negotiate, SessionSetup, Logoff, TreeConnect, TreeDisconnect, Close, Echo, OplockBreak, Error}
use Rattle.xl_smb.specs.Sessions.{NegotiateReplyItem, SetupReplyItem}
use Rattle.xl_smb.specs.declared.breaks.Break.TheVariants as held
use Rattle.xl_smb.specs.declared.command.Command.{Command}
use Rattle.xl_smb.specs.declared.command.Command.TheVariants as command
use Rattle.xl_smb.specs.declared.head.Route.{Route}
use Rattle.xl_smb.specs.declared.head.Route.TheVariants.{Tree, Async}
use Rattle.xl_smb.specs.declared.head.SmbHead.{SmbHead}
use Rattle.xl_smb.specs.declared.lock.CloseReply.{CloseReply}
use Rattle.xl_smb.specs.declared.session.TreeConnectReply.{TreeConnectReply}
use Rattle.xl_smb_locks.specs.Finals.{final_body, final_contexts}
use Rattle.xl_smb_locks.specs.Levels.{file_id, file_of}
use Rattle.xl_smb_locks.specs.declared.finals.FinalReply.TheVariants as said
use Rattle.xl_smb_locks.specs.Statuses.{status_number, status_pending, status_success}
use Rattle.xl_front_smb.specs.declared.told.Told.{Told}
use Rattle.xl_front_smb.specs.declared.told.Told.TheVariants as told

-- ---- the header: that of the request, as a reply

-- the credits that were asked for, at least 1 and at most 512 (3.3.1.2) (SMB-13)
unfoldable pub credits_for : ℕ → ℕ
credits_for asked = min 512 (max 1 asked)

-- the tree connect that a request names; one of the asynchronous form names none (SMB-11)
abbrev pub tree_id : Route → ℕ
tree_id (Tree id) = id
tree_id (Async id) = 0

-- CreditCharge, command, number, tree connect and session are those of the request, except for the session that is set
-- up and the share that is connected to (SMB-13)
unfoldable pub reply_head : SmbHead → ℕ → ℕ → ℕ → SmbHead
reply_head h status tree session = record {
  credit_charge = h.credit_charge;
  status = status;
  command = h.command;
  credits = credits_for h.credits;
  flags = 1;
  next_command = 0;
  message_id = h.message_id;
  route = Tree tree;
  session_id = session;
  signature = zeros 16;
}

-- STATUS_PENDING names the AsyncId in the place of the tree connect (SMB-25)
unfoldable pub pending_head : SmbHead → ℕ → SmbHead
pending_head h id = record {
  credit_charge = h.credit_charge;
  status = status_pending;
  command = h.command;
  credits = credits_for h.credits;
  flags = 3;
  next_command = 0;
  message_id = h.message_id;
  route = Async id;
  session_id = h.session_id;
  signature = zeros 16;
}

abbrev pub head_by : SmbHead → Told → SmbHead
head_by h (told.Failed status) = reply_head h (status_number status) (tree_id h.route) h.session_id
head_by h (told.SetUp session) = reply_head h status_success (tree_id h.route) session
head_by h (told.Connected tree) = reply_head h status_success tree h.session_id
head_by h (told.Pending id) = pending_head h id
head_by h _ = reply_head h status_success (tree_id h.route) h.session_id

-- ---- the body

-- SMB 2.1 with signing enabled, leases, and 65,536 bytes at most of each kind; nothing is said of server and clock
abbrev pub negotiated : NegotiateReplyItem
negotiated = record { security_mode = 1; dialect = 0x0210; server_guid = zeros 16; capabilities = 2; max_transact = 65536; max_read = 65536; max_write = 65536; system_time = 0; start_time = 0; buffer = [] }

-- a guest's session (SMB-14)
abbrev pub set_up : SetupReplyItem
set_up = record { flags = 1; buffer = [] }

-- a disk, to which all access is allowed
abbrev pub connected : TreeConnectReply
connected = record { share_type = 1; flags = 0; capabilities = 0; maximal_access = 0x001F01FF }

abbrev pub closed : CloseReply
closed = record { flags = 0; status = file_of 0 }

-- the contexts: those of a file that is open
abbrev pub contexts_of : Told → List ℕ
contexts_of (told.Opened id cache) = final_contexts (said.Opened id cache)
contexts_of _ = []

abbrev pub body_of : Told → Option ReplyItem
body_of told.Nothing = None
body_of (told.Failed status) = Some (final_body (said.Failed status))
body_of told.Negotiated = Some (Negotiate negotiated)
body_of (told.SetUp session) = Some (SessionSetup set_up)
body_of told.LoggedOff = Some Logoff
body_of (told.Connected tree) = Some (TreeConnect connected)
body_of told.Disconnected = Some TreeDisconnect
body_of (told.Opened id cache) = Some (final_body (said.Opened id cache))
body_of (told.Acknowledged id level) = Some (OplockBreak (held.Oplock level (file_id id)))
body_of (told.Answered lease) = Some (OplockBreak (held.Lease lease))
body_of told.Closed = Some (Close closed)
body_of told.Locked = Some (final_body said.Locked)
body_of (told.Pending id) = Some Error
body_of told.Echoed = Some Echo

-- ---- the reply

abbrev pub spelled : SmbHead → Option ReplyItem → Option (List ℕ)
spelled h None = None
spelled h (Some body) = Some (spelling (Reply h body))

-- a CANCEL gets no reply, whatever becomes of it (3.3.5.16) (SMB-9)
unfoldable pub reply_of : SmbHead → Told → Option (List ℕ)
reply_of h t = if h.command == number_of command.Cancel then None else spelled (head_by h t) (body_of t)

-- whether a request of this command is answered so if it succeeds
abbrev pub IsAnswer : Option Command → Told → Type 0
IsAnswer c told.Nothing = Unit {0}
IsAnswer c (told.Failed status) = Unit {0}
IsAnswer c told.Negotiated = c ≡ Some command.Negotiate
IsAnswer c (told.SetUp session) = c ≡ Some command.SessionSetup
IsAnswer c told.LoggedOff = c ≡ Some command.Logoff
IsAnswer c (told.Connected tree) = c ≡ Some command.TreeConnect
IsAnswer c told.Disconnected = c ≡ Some command.TreeDisconnect
IsAnswer c (told.Opened id cache) = c ≡ Some command.Create
IsAnswer c (told.Acknowledged id level) = c ≡ Some command.OplockBreak
IsAnswer c (told.Answered lease) = c ≡ Some command.OplockBreak
IsAnswer c told.Closed = c ≡ Some command.Close
IsAnswer c told.Locked = c ≡ Some command.Lock
IsAnswer c (told.Pending id) = Unit {0}
IsAnswer c told.Echoed = c ≡ Some command.Echo

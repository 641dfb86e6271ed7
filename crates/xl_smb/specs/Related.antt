-- A part that is related to the one before it (MS-SMB2 2.2.1.2, 3.3.5.2.7.2) takes over what that one had or was given: its
-- session, its tree connect, and its open. So filled in, it is a message alone, and is answered as one.
use Rattle.std.specs.Prelude.{ℕ, ◌-◌, ◌^◌, Bool, true, false, not, ◌&&◌, ◌||◌, ◌==◌, nat_lt, bit_and, bit_or, List, [], ◌∷◌, ◌++◌, length, take, drop, Option, Some, None, Result, Ok, Err, if◌then◌else◌}
use Rattle.std.specs.Int.{w64}
use Rattle.xl_base.specs.Codec.{little_endian}
use Rattle.xl_layout.specs.Forms.{size_found}
use Rattle.xl_layout.specs.Places.{joined}
use Rattle.xl_smb.specs.Files.{file_id_at}
use Rattle.xl_smb.specs.Heads.{number_of, is_set, head, head_of}
use Rattle.xl_smb.specs.declared.command.Command.TheVariants as command
use Rattle.xl_smb.specs.declared.fault.SmbBad.{SmbBad}
use Rattle.xl_smb.specs.declared.file.FileId.{FileId}
use Rattle.xl_smb.specs.declared.head.Route.{Route}
use Rattle.xl_smb.specs.declared.head.Route.TheVariants.{Tree, Async}
use Rattle.xl_smb.specs.declared.head.SmbHead.{SmbHead}
use Rattle.xl_smb.specs.declared.related.Before.{Before}

-- SMB2_FLAGS_RELATED_OPERATIONS
abbrev pub related_operations : ℕ
related_operations = 4

abbrev pub is_related : SmbHead → Bool
is_related h = is_set related_operations h.flags

-- what a part takes over from the one before it, if there is one and it is related to that (SMB-32)
abbrev pub taken_over : SmbHead → Option Before → Option Before
taken_over h before = if is_related h then before else None

-- ---- session and tree connect

-- the header of a message alone: with no NextCommand, and without the flag of a related part; what takes over a tree connect
-- names it, and so is of the synchronous form
unfoldable pub resolved_head : Option Before → SmbHead → SmbHead
resolved_head None h = record h { flags = bit_and h.flags 0xFFFFFFFB; next_command = 0 }
resolved_head (Some before) h = record h { flags = bit_and h.flags 0xFFFFFFF9; next_command = 0; route = Tree before.tree_id; session_id = before.session_id }

-- ---- the open

-- all ones, in the place of the open that the part before named or made
abbrev pub is_unnamed : FileId → Bool
is_unnamed id = (id.persistent == 2 ^ 64 - 1) && (id.volatile == 2 ^ 64 - 1)

-- what no open is called, as its halves differ (SMB-12)
abbrev pub no_file : FileId
no_file = record { persistent = 0; volatile = 2 ^ 64 - 1 }

abbrev pub file_or_none : Option FileId → FileId
file_or_none None = no_file
file_or_none (Some id) = id

-- a body of this command names an open, from its byte 8 on: CLOSE, LOCK, and an acknowledgement that is of no lease
abbrev pub is_of_open : ℕ → List ℕ → Bool
is_of_open n body = (n == number_of command.Close) || ((n == number_of command.Lock) || ((n == number_of command.OplockBreak) && not (size_found body == 36)))

-- the open that a body names
abbrev pub open_in : ℕ → List ℕ → Option FileId
open_in n body = if nat_lt (length body) 24 then None else if is_of_open n body then Some (file_id_at 8 body) else None

-- a body that names this open
unfoldable pub with_open : FileId → List ℕ → List ℕ
with_open id body = joined (take 8 body ∷ little_endian w64 id.persistent ∷ little_endian w64 id.volatile ∷ drop 24 body ∷ [])

abbrev pub body_by : Option FileId → List ℕ → Option FileId → List ℕ
body_by file body None = body
body_by file body (Some id) = if is_unnamed id then with_open (file_or_none file) body else body

abbrev pub resolved_body : Option Before → ℕ → List ℕ → List ℕ
resolved_body None n body = body
resolved_body (Some before) n body = body_by before.file_id body (open_in n body)

-- ---- a part as a message alone

abbrev pub resolved_by : Option Before → List ℕ → Result SmbHead SmbBad → List ℕ
resolved_by before bytes (Err fault) = bytes
resolved_by before bytes (Ok h) = head (resolved_head before h) ++ resolved_body before h.command (drop 64 bytes)

unfoldable pub resolved : Option Before → List ℕ → List ℕ
resolved before bytes = resolved_by before bytes (head_of bytes)

-- it names the open of a part that neither named nor made one (SMB-32)
abbrev pub lacks_open : Option FileId → Bool
lacks_open None = true
lacks_open (Some id) = false

abbrev pub is_unnamed_in : Option FileId → Bool
is_unnamed_in None = false
is_unnamed_in (Some id) = is_unnamed id

abbrev pub is_nameless : Option Before → ℕ → List ℕ → Bool
is_nameless None n body = false
is_nameless (Some before) n body = lacks_open before.file_id && is_unnamed_in (open_in n body)

-- ---- what a part leaves to the one behind it

-- a tree connect that a reply names; that of the request, if the reply is asynchronous
abbrev pub route_tree : Route → ℕ
route_tree (Tree id) = id
route_tree (Async id) = 0

abbrev pub tree_left : Route → Route → ℕ
tree_left (Tree id) asked = id
tree_left (Async id) asked = route_tree asked

-- the open that a reply to CREATE says was made
abbrev pub made_in : SmbHead → List ℕ → Option FileId
made_in h body = if (h.command == number_of command.Create) && (h.status == 0) && not (nat_lt (length body) 88) then Some (file_id_at 64 body) else None

abbrev pub either_file : Option FileId → Option FileId → Option FileId
either_file (Some made) named = Some made
either_file None named = named

-- a status of severity error (MS-ERREF 2.3)
abbrev pub failure_in : ℕ → Option ℕ
failure_in status = if nat_lt status 0xC0000000 then None else Some status

-- by the header and the body of its request, and those of its reply: a session that is set up and a share that is connected to
-- are named there
unfoldable pub left_by : SmbHead → List ℕ → SmbHead → List ℕ → Before
left_by request asked reply told = record {
  session_id = reply.session_id;
  tree_id = tree_left reply.route request.route;
  file_id = either_file (made_in reply told) (open_in request.command asked);
  failed = failure_in reply.status;
}

-- ---- replies

-- a message with another header
unfoldable pub with_head : SmbHead → List ℕ → List ℕ
with_head h bytes = head h ++ drop 64 bytes

-- a reply to a related part has its flag too (SMB-32)
abbrev pub related_head : SmbHead → SmbHead
related_head h = record h { flags = bit_or h.flags related_operations }

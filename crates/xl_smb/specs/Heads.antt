-- The header of a message, 64 bytes (MS-SMB2 2.2.1).
use Rattle.std.specs.Prelude.{◌≡◌, ℕ, ◌+◌, ◌-◌, ◌<◌, ◌^◌, Bool, true, false, not, ◌&&◌, ◌==◌, bit_and, List, [], ◌∷◌, ◌++◌, length, bytes_eq, nat_lt, Option, Some, None, Result, Ok, Err, if◌then◌else◌}
use Rattle.std.specs.Int.{w32, w64}
use Rattle.xl_base.specs.Codec.{little_endian}
use Rattle.xl_layout.specs.Places.{joined, bytes_at, u32_at, u64_at}
use Rattle.xl_layout.specs.Layouts.{Layout, made, u16, u32, u64, raw, read, fields}
use Rattle.xl_smb.specs.declared.command.Command.{Command}
use Rattle.xl_smb.specs.declared.command.Command.TheVariants.{Negotiate, SessionSetup, Logoff, TreeConnect, TreeDisconnect, Create, Close, Lock, Cancel, Echo, OplockBreak}
use Rattle.xl_smb.specs.declared.fault.SmbBad.{SmbBad}
use Rattle.xl_smb.specs.declared.fault.SmbBad.TheVariants.{Short, Magic}
use Rattle.xl_smb.specs.declared.head.Route.{Route}
use Rattle.xl_smb.specs.declared.head.Route.TheVariants.{Tree, Async}
use Rattle.xl_smb.specs.declared.head.SmbHead.{SmbHead}

-- ---- commands (MS-SMB2 2.2.1.2)

abbrev pub number_of : Command → ℕ
number_of Negotiate = 0
number_of SessionSetup = 1
number_of Logoff = 2
number_of TreeConnect = 3
number_of TreeDisconnect = 4
number_of Create = 5
number_of Close = 6
number_of Lock = 10
number_of Cancel = 12
number_of Echo = 13
number_of OplockBreak = 18

abbrev pub command_of : ℕ → Option Command
command_of n =
    if n == 0 then Some Negotiate else if n == 1 then Some SessionSetup else if n == 2 then Some Logoff
    else if n == 3 then Some TreeConnect else if n == 4 then Some TreeDisconnect else if n == 5 then Some Create
    else if n == 6 then Some Close else if n == 10 then Some Lock else if n == 12 then Some Cancel
    else if n == 13 then Some Echo else if n == 18 then Some OplockBreak else None

-- ---- fields

-- the mark, and the header's size
abbrev pub mark : List ℕ
mark = 0xFE ∷ 0x53 ∷ 0x4D ∷ 0x42 ∷ 64 ∷ 0 ∷ []

unfoldable pub has_mark : List ℕ → Bool
has_mark frame = bytes_eq (bytes_at 6 0 frame) mark

-- whether this flag is set
abbrev pub is_set : ℕ → ℕ → Bool
is_set flag flags = not (bit_and flags flag == 0)

-- flags (MS-SMB2 2.2.1.1, 2.2.1.2): a reply or a notice, and the asynchronous form
abbrev pub server_to_redir : ℕ
server_to_redir = 1

abbrev pub async_command : ℕ
async_command = 2

abbrev pub is_reply : SmbHead → Bool
is_reply h = is_set server_to_redir h.flags

-- the tree in the last four of eight bytes, or the pending request in all of them
unfoldable pub route : Route → List ℕ
route (Tree id) = little_endian w32 0 ++ little_endian w32 id
route (Async id) = little_endian w64 id

-- the pending request in the asynchronous form
abbrev pub route_of : ℕ → List ℕ → Route
route_of flags bytes = if is_set async_command flags then Async (u64_at 0 bytes) else Tree (u32_at 4 bytes)

unfoldable pub head_fields : Layout SmbHead
head_fields = raw 6 (λ _. mark) λ _. u16 (λ h. h.credit_charge) λ credit_charge. u32 (λ h. h.status) λ status. u16 (λ h. h.command) λ command. u16 (λ h. h.credits) λ credits. u32 (λ h. h.flags) λ flags.
    u32 (λ h. h.next_command) λ next_command. u64 (λ h. h.message_id) λ message_id. raw 8 (λ h. route h.route) λ to. u64 (λ h. h.session_id) λ session_id. raw 16 (λ h. h.signature) λ signature.
    made (record { credit_charge = credit_charge; status = status; command = command; credits = credits; flags = flags; next_command = next_command; message_id = message_id; route = route_of flags to; session_id = session_id; signature = signature })

unfoldable pub head_at : List ℕ → SmbHead
head_at frame = read head_fields 0 64 frame frame

unfoldable pub head : SmbHead → List ℕ
head h = joined (fields head_fields 64 h)

-- the header, or why there is none
unfoldable pub head_of : List ℕ → Result SmbHead SmbBad
head_of frame = if nat_lt (length frame) 64 then Err Short else if has_mark frame then Ok (head_at frame) else Err Magic

-- the tree connect 0
abbrev pub is_no_tree : Route → Bool
is_no_tree (Tree id) = id == 0
is_no_tree (Async id) = false

-- the header of a notice, which no request asked for (MS-SMB2 2.2.23) (SMB-5)
unfoldable pub is_notice : SmbHead → Bool
is_notice h = (h.status == 0) && (h.command == number_of OplockBreak) && (h.flags == server_to_redir) && (h.credits == 0) && (h.message_id == 2 ^ 64 - 1) && (h.session_id == 0) && is_no_tree h.route

-- ---- what fits its fields, which each value in memory does

abbrev pub RouteFits : Route → Type 0
RouteFits (Tree id) = id < 2 ^ 32
RouteFits (Async id) = id < 2 ^ 64

pub record HeadFits (h : SmbHead) : Type 0 where
  pub credit_charge : h.credit_charge < 2 ^ 16
  pub status : h.status < 2 ^ 32
  pub command : h.command < 2 ^ 16
  pub credits : h.credits < 2 ^ 16
  pub flags : h.flags < 2 ^ 32
  pub next_command : h.next_command < 2 ^ 32
  pub message_id : h.message_id < 2 ^ 64
  pub route : RouteFits h.route
  pub session_id : h.session_id < 2 ^ 64
  pub signature : length h.signature ≡ 16

-- whether a route is of the asynchronous form, and whether the flags say the same of a header
abbrev pub is_async : Route → Bool
is_async (Tree id) = false
is_async (Async id) = true

abbrev pub HasForm : SmbHead → Type 0
HasForm h = is_set async_command h.flags ≡ is_async h.route

-- the flags of a reply in the form of this route
abbrev pub reply_flags : Route → ℕ
reply_flags (Tree id) = server_to_redir
reply_flags (Async id) = server_to_redir + async_command

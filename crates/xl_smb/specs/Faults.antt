-- Which fault the bytes of a frame show, if any, by tables: the forms that a body may have, and the parts that it names.
use Rattle.std.specs.Prelude.{ℕ, ◌*◌, Bool, ◌&&◌, ◌==◌, List, [], ◌∷◌, length, drop, nat_lt, Option, Some, None, if◌then◌else◌}
use Rattle.xl_layout.specs.Places.{bytes_at, u16_at, u32_at, lies}
use Rattle.xl_layout.specs.Layouts.{all_stand}
use Rattle.xl_layout.specs.Forms.{size_found, has_form, first_fault}
use Rattle.xl_smb.specs.Heads.{command_of, has_mark, is_reply, head_at, is_notice}
use Rattle.xl_smb.specs.Leases.{are_contexts}
use Rattle.xl_smb.specs.declared.command.Command.{Command}
use Rattle.xl_smb.specs.declared.command.Command.TheVariants as command
use Rattle.xl_smb.specs.declared.fault.SmbBad.{SmbBad}
use Rattle.xl_smb.specs.declared.fault.SmbBad.TheVariants.{Short, Magic, Size, Offset}
use Rattle.xl_smb.specs.declared.head.SmbHead.{SmbHead}

-- ---- forms: the size with which a body begins, and the bytes of its fixed part, by the size that it shows; None if no body
-- is looked at

-- of a request; an odd size counts the first byte behind the fixed part, and that of LOCK its first range (SMB-3)
abbrev pub call_form : ℕ → Option Command → Option (ℕ × ℕ)
call_form size (Some command.Negotiate) = Some (36, 36)
call_form size (Some command.SessionSetup) = Some (25, 24)
call_form size (Some command.Logoff) = Some (4, 4)
call_form size (Some command.TreeConnect) = Some (9, 8)
call_form size (Some command.TreeDisconnect) = Some (4, 4)
call_form size (Some command.Create) = Some (57, 56)
call_form size (Some command.Close) = Some (24, 24)
call_form size (Some command.Lock) = Some (48, 24)
call_form size (Some command.Cancel) = Some (4, 4)
call_form size (Some command.Echo) = Some (4, 4)
call_form size (Some command.OplockBreak) = Some (if size == 36 then (36, 36) else (24, 24))
call_form size None = None

-- of a reply at status 0
abbrev pub success_form : ℕ → Option Command → Option (ℕ × ℕ)
success_form size (Some command.Negotiate) = Some (65, 64)
success_form size (Some command.SessionSetup) = Some (9, 8)
success_form size (Some command.Logoff) = Some (4, 4)
success_form size (Some command.TreeConnect) = Some (16, 16)
success_form size (Some command.TreeDisconnect) = Some (4, 4)
success_form size (Some command.Create) = Some (89, 88)
success_form size (Some command.Close) = Some (60, 60)
success_form size (Some command.Lock) = Some (4, 4)
success_form size (Some command.Cancel) = None
success_form size (Some command.Echo) = Some (4, 4)
success_form size (Some command.OplockBreak) = Some (if size == 36 then (36, 36) else (24, 24))
success_form size None = None

-- of a notice, of the error form, and of the rest
unfoldable pub form_of : ℕ → SmbHead → Option (ℕ × ℕ)
form_of size h =
    if is_notice h then Some (if size == 44 then (44, 44) else (24, 24))
    else if is_reply h then (if h.status == 0 then success_form size (command_of h.command) else Some (9, 8))
    else call_form size (command_of h.command)

-- ---- parts

-- whether so many bytes at a place lie within the frame (SMB-2), and are contexts, each of which lies within them
unfoldable pub contexts_lie : ℕ → ℕ → List ℕ → Bool
contexts_lie start count frame = lies start count frame && are_contexts (bytes_at count start frame)

-- whether each part that a request's body names lies within the frame: dialects, buffer, path, name, contexts, ranges
abbrev pub call_parts : Option Command → List ℕ → List ℕ → List Bool
call_parts (Some command.Negotiate) frame body = lies 36 (2 * u16_at 2 body) body ∷ []
call_parts (Some command.SessionSetup) frame body = lies (u16_at 12 body) (u16_at 14 body) frame ∷ []
call_parts (Some command.TreeConnect) frame body = lies (u16_at 4 body) (u16_at 6 body) frame ∷ []
call_parts (Some command.Create) frame body = lies (u16_at 44 body) (u16_at 46 body) frame ∷ contexts_lie (u32_at 48 body) (u32_at 52 body) frame ∷ []
call_parts (Some command.Lock) frame body = lies 24 (24 * u16_at 2 body) body ∷ []
call_parts _ frame body = []

-- of a reply at status 0: buffer, contexts
abbrev pub success_parts : Option Command → List ℕ → List ℕ → List Bool
success_parts (Some command.Negotiate) frame body = lies (u16_at 56 body) (u16_at 58 body) frame ∷ []
success_parts (Some command.SessionSetup) frame body = lies (u16_at 4 body) (u16_at 6 body) frame ∷ []
success_parts (Some command.Create) frame body = contexts_lie (u32_at 80 body) (u32_at 84 body) frame ∷ []
success_parts _ frame body = []

-- notices and the error form name none
unfoldable pub parts_lie : SmbHead → List ℕ → List ℕ → List Bool
parts_lie h frame body =
    if is_notice h then []
    else if is_reply h then (if h.status == 0 then success_parts (command_of h.command) frame body else [])
    else call_parts (command_of h.command) frame body

-- ---- the fault, the first of these

-- of a body with this header: another size or a fixed part that is cut, and a part that does not lie in the frame (SMB-1)
unfoldable pub body_fault : SmbHead → List ℕ → List ℕ → Option SmbBad
body_fault h frame body = first_fault (Size h.command) Offset (size_found body) (has_form (form_of (size_found body) h) body) (all_stand (parts_lie h frame body))

-- of a frame, in this order (SMB-1)
unfoldable pub fault_of : List ℕ → Option SmbBad
fault_of frame =
    if nat_lt (length frame) 64 then Some Short
    else if has_mark frame then body_fault (head_at frame) frame (drop 64 frame)
    else Some Magic

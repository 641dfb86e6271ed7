-- CLOSE and LOCK. The reply to LOCK has no field.
use Rattle.std.specs.Prelude.{ℕ, List}
use Rattle.xl_layout.specs.Places.{whole_of, u32_at, u64_at}
use Rattle.xl_layout.specs.Layouts.{made, array, reserved, u16, u32}
use Rattle.xl_layout.specs.Forms.{Form}
use Rattle.xl_smb.specs.Bodies.{form}
use Rattle.xl_smb.specs.Files.{file_id, file_status}
use Rattle.xl_smb.specs.declared.file.FileId.{FileId}
use Rattle.xl_smb.specs.declared.lock.CloseCall.{CloseCall}
use Rattle.xl_smb.specs.declared.lock.CloseReply.{CloseReply}
use Rattle.xl_smb.specs.declared.lock.LockCall.{LockCall}
use Rattle.xl_smb.specs.declared.lock.LockElement.{LockElement}

-- CLOSE request (MS-SMB2 2.2.15): 24 bytes
unfoldable pub close_call : Form CloseCall
close_call = form 24 24 (u16 (λ c. c.flags) λ flags. reserved 4 (file_id (λ c. c.file_id) λ id. made (record { flags = flags; file_id = id })))

-- CLOSE reply (MS-SMB2 2.2.16): 60 bytes
unfoldable pub close_reply : Form CloseReply
close_reply = form 60 60 (u16 (λ r. r.flags) λ flags. reserved 4 (file_status (λ r. r.status) λ status. made (record { flags = flags; status = status })))

-- ---- LOCK request (MS-SMB2 2.2.26): 24 bytes, then the ranges of 24 bytes each; its size counts the first of them

pub record LockItem : Type 0 where
  pub sequence : ℕ
  pub file_id : FileId
  pub elements : List ℕ

abbrev pub shown_lock : LockCall → LockItem
shown_lock c = record { sequence = c.sequence; file_id = c.file_id; elements = c.elements.0.now }

unfoldable pub lock_call : Form LockItem
lock_call = form 48 24 (array 24 (λ c. c.elements) λ elements. u32 (λ c. c.sequence) λ sequence. file_id (λ c. c.file_id) λ id. made (record { sequence = sequence; file_id = id; elements = elements }))

-- a range (MS-SMB2 2.2.26.1), and the ranges in their order
unfoldable pub element_at : List ℕ → LockElement
element_at bytes = record { offset = u64_at 0 bytes; length = u64_at 8 bytes; flags = u32_at 16 bytes }

abbrev pub elements_of : List ℕ → List LockElement
elements_of bytes = whole_of element_at 24 bytes

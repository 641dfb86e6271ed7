-- CREATE.
use Rattle.std.specs.Prelude.{◌≡◌, ℕ, ◌<◌, ◌^◌, true, List, length, Some}
use Rattle.xl_layout.specs.Layouts.{U32, Layout, made, part, aligned, reserved, byte, u32}
use Rattle.xl_layout.specs.Forms.{Form}
use Rattle.xl_smb.specs.Bodies.{buffer, form}
use Rattle.xl_smb.specs.Files.{file_id, file_status}
use Rattle.xl_smb.specs.Leases.{are_contexts}
use Rattle.xl_smb.specs.declared.create.CreateCall.{CreateCall}
use Rattle.xl_smb.specs.declared.create.CreateReply.{CreateReply}
use Rattle.xl_smb.specs.declared.file.FileId.{FileId}
use Rattle.xl_smb.specs.declared.file.FileStatus.{FileStatus}

-- contexts, each of which lies within them, and whose offset is 0 if there are none (MS-SMB2 2.2.13.2)
abbrev pub contexts : {A : Type 0} → (A → List ℕ) → (List ℕ → Layout A) → Layout A
contexts get rest = part (record { offset = U32; count = U32; empty_at_0 = true; test = Some are_contexts }) get rest

-- ---- CREATE request (MS-SMB2 2.2.13): 56 bytes, then the name, and the contexts

pub record CreateCallItem : Type 0 where
  pub oplock_level : ℕ
  pub desired_access : ℕ
  pub share_access : ℕ
  pub disposition : ℕ
  pub options : ℕ
  pub name : List ℕ
  pub contexts : List ℕ

abbrev pub shown_create_call : CreateCall → CreateCallItem
shown_create_call c = record { oplock_level = c.oplock_level; desired_access = c.desired_access; share_access = c.share_access; disposition = c.disposition; options = c.options; name = c.name.now; contexts = c.contexts.0.now }

-- the contexts are written from a multiple of 8 on (SMB-8)
unfoldable pub create_call : Form CreateCallItem
create_call = form 57 56 (reserved 1 (byte (λ c. c.oplock_level) λ oplock_level. reserved 20 (u32 (λ c. c.desired_access) λ desired_access. reserved 4 (
    u32 (λ c. c.share_access) λ share_access. u32 (λ c. c.disposition) λ disposition. u32 (λ c. c.options) λ options. buffer (λ c. c.name) λ name. aligned (λ c. c.contexts) (contexts (λ c. c.contexts) λ list.
    made (record { oplock_level = oplock_level; desired_access = desired_access; share_access = share_access; disposition = disposition; options = options; name = name; contexts = list }))))))

-- what it takes to be spelled, beside numbers that fit their fields
pub record CreateCallHas (c : CreateCallItem) : Type 0 where
  pub name : length c.name < 2 ^ 16
  pub contexts : length c.contexts < 2 ^ 32
  pub within : are_contexts c.contexts ≡ true

-- ---- CREATE reply (MS-SMB2 2.2.14): 88 bytes, then the contexts

pub record CreateReplyItem : Type 0 where
  pub oplock_level : ℕ
  pub action : ℕ
  pub status : FileStatus
  pub file_id : FileId
  pub contexts : List ℕ

abbrev pub shown_create_reply : CreateReply → CreateReplyItem
shown_create_reply r = record { oplock_level = r.oplock_level; action = r.action; status = r.status; file_id = r.file_id; contexts = r.contexts.0.now }

unfoldable pub create_reply : Form CreateReplyItem
create_reply = form 89 88 (byte (λ r. r.oplock_level) λ oplock_level. reserved 1 (u32 (λ r. r.action) λ action. file_status (λ r. r.status) λ status. reserved 4 (file_id (λ r. r.file_id) λ id. contexts (λ r. r.contexts) λ list.
    made (record { oplock_level = oplock_level; action = action; status = status; file_id = id; contexts = list }))))

pub record CreateReplyHas (r : CreateReplyItem) : Type 0 where
  pub contexts : length r.contexts < 2 ^ 32
  pub within : are_contexts r.contexts ≡ true

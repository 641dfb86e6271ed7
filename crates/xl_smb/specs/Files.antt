-- What an open is called, and what a file is.
use Rattle.std.specs.Prelude.{ℕ, List}
use Rattle.xl_layout.specs.Layouts.{Layout, made, u32, u64, read}
use Rattle.xl_smb.specs.declared.file.FileId.{FileId}
use Rattle.xl_smb.specs.declared.file.FileStatus.{FileStatus}

-- ---- the name of an open, 16 bytes (MS-SMB2 2.2.14.1)

abbrev pub file_id : {A : Type 0} → (A → FileId) → (FileId → Layout A) → Layout A
file_id get rest = u64 (λ a. (get a).persistent) λ persistent. u64 (λ a. (get a).volatile) λ volatile. rest (record { persistent = persistent; volatile = volatile })

abbrev pub file_id_at : ℕ → List ℕ → FileId
file_id_at place body = read (file_id (λ id. id) (λ id. made id)) place 0 body body

-- ---- what a file is, 52 bytes from place 8 on in the replies to CREATE and CLOSE (MS-SMB2 2.2.14, 2.2.16)

abbrev pub file_status : {A : Type 0} → (A → FileStatus) → (FileStatus → Layout A) → Layout A
file_status get rest = u64 (λ a. (get a).created) λ created. u64 (λ a. (get a).accessed) λ accessed. u64 (λ a. (get a).written) λ written. u64 (λ a. (get a).changed) λ changed.
    u64 (λ a. (get a).allocated) λ allocated. u64 (λ a. (get a).end_of_file) λ end_of_file. u32 (λ a. (get a).attributes) λ attributes.
    rest (record { created = created; accessed = accessed; written = written; changed = changed; allocated = allocated; end_of_file = end_of_file; attributes = attributes })

abbrev pub status_at : List ℕ → FileStatus
status_at body = read (file_status (λ status. status) (λ status. made status)) 8 0 body body

-- OPLOCK_BREAK: acknowledgements and their replies, which have the same forms, and notices.
use Rattle.std.specs.Prelude.{ℕ, ◌==◌, [], if◌then◌else◌}
use Rattle.xl_layout.specs.Layouts.{made, reserved, byte, u32, u64, raw}
use Rattle.xl_layout.specs.Forms.{Form, Spelling, by_form}
use Rattle.xl_smb.specs.Bodies.{form}
use Rattle.xl_smb.specs.Files.{file_id}
use Rattle.xl_smb.specs.declared.file.FileId.{FileId}
use Rattle.xl_smb.specs.declared.lease.Lease.{Lease}
use Rattle.xl_smb.specs.declared.breaks.Break.{Break}
use Rattle.xl_smb.specs.declared.breaks.Break.TheVariants as held
use Rattle.xl_smb.specs.declared.breaks.Notice.{Notice}
use Rattle.xl_smb.specs.declared.breaks.Notice.TheVariants as told
use Rattle.xl_smb.specs.declared.breaks.LeaseNotice.{LeaseNotice}

-- a form of 24 bytes: a level and an open (MS-SMB2 2.2.23.1, 2.2.24.1, 2.2.25.1)
abbrev pub oplock : {A : Type 0} → (A → ℕ × FileId) → (ℕ → FileId → A) → Form A
oplock get make = form 24 24 (byte (λ a. (get a).0) λ level. reserved 5 (file_id (λ a. (get a).1) λ id. made (make level id)))

-- what these fields are of a break of a lease, which isn't made of them; the fields of a lease likewise
abbrev pub no_oplock : ℕ × FileId
no_oplock = (0, record { persistent = 0; volatile = 0 })

-- ---- acknowledgements and their replies: of an oplock, and 36 bytes of a lease (MS-SMB2 2.2.24.2, 2.2.25.2)

abbrev pub oplock_of : Break → ℕ × FileId
oplock_of (held.Oplock level id) = (level, id)
oplock_of (held.Lease l) = no_oplock

abbrev pub lease_in : Break → Lease
lease_in (held.Oplock level id) = record { key = []; state = 0; flags = 0; duration = 0 }
lease_in (held.Lease l) = l

unfoldable pub oplock_break : Form Break
oplock_break = oplock oplock_of (λ level id. held.Oplock level id)

unfoldable pub lease_break : Form Break
lease_break = form 36 36 (reserved 2 (u32 (λ b. (lease_in b).flags) λ flags. raw 16 (λ b. (lease_in b).key) λ key. u32 (λ b. (lease_in b).state) λ state. u64 (λ b. (lease_in b).duration) λ duration.
    made (held.Lease (record { key = key; state = state; flags = flags; duration = duration }))))

-- of a lease by its size, and else of an oplock (SMB-7)
abbrev pub break_form : ℕ → Form Break
break_form size = if size == 36 then lease_break else oplock_break

abbrev pub break_spelling : Break → Spelling
break_spelling (held.Oplock level id) = by_form oplock_break (held.Oplock level id)
break_spelling (held.Lease l) = by_form lease_break (held.Lease l)

-- ---- notices: of an oplock, and 44 bytes of a lease (MS-SMB2 2.2.23.2)

abbrev pub oplock_told : Notice → ℕ × FileId
oplock_told (told.Oplock level id) = (level, id)
oplock_told (told.Lease n) = no_oplock

abbrev pub lease_told : Notice → LeaseNotice
lease_told (told.Oplock level id) = record { flags = 0; key = []; current = 0; new = 0 }
lease_told (told.Lease n) = n

unfoldable pub oplock_notice : Form Notice
oplock_notice = oplock oplock_told (λ level id. told.Oplock level id)

unfoldable pub lease_notice : Form Notice
lease_notice = form 44 44 (reserved 2 (u32 (λ n. (lease_told n).flags) λ flags. raw 16 (λ n. (lease_told n).key) λ key. u32 (λ n. (lease_told n).current) λ current. u32 (λ n. (lease_told n).new) λ new. reserved 12 (
    made (told.Lease (record { flags = flags; key = key; current = current; new = new })))))

-- of a lease by its size, and else of an oplock (SMB-7)
abbrev pub notice_form : ℕ → Form Notice
notice_form size = if size == 44 then lease_notice else oplock_notice

abbrev pub notice_spelling : Notice → Spelling
notice_spelling (told.Oplock level id) = by_form oplock_notice (told.Oplock level id)
notice_spelling (told.Lease n) = by_form lease_notice (told.Lease n)

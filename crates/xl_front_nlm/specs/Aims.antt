-- What a lock names.
use Rattle.std.specs.Prelude.{ℕ, ◌+◌, ◌-◌, ◌^◌, ◌==◌, ◌&&◌, nat_le, nat_lt, if◌then◌else◌, List, Option, Some, None, Result, Ok, Err}
use Rattle.std.specs.Option.{option_and_then}
use Rattle.xl_base.specs.Handles.{file_at}
use Rattle.xl_nlm.specs.Items.{LockItem}
use Rattle.xl_front_nlm.specs.declared.aim.Aim.{Aim}
use Rattle.xl_front_nlm.specs.declared.outcome.Outcome.{Outcome}
use Rattle.xl_front_nlm.specs.declared.outcome.Outcome.TheVariants.{NoFile, TooBig}

-- the number of the file of a handle, if it is one of the exported files, of which there are so many
abbrev pub exported : ℕ → List ℕ → Option ℕ
exported count fh = option_and_then (λ file. if nat_le 1 file && nat_le file count then Some file else None) (file_at fh)

-- the last byte of a range; a length of 0 reaches the last byte that there is, and none passes it (NLM-4)
abbrev pub last_of : ℕ → ℕ → Option ℕ
last_of offset len =
    if len == 0 then (if nat_lt offset (2 ^ 64) then Some (2 ^ 64 - 1) else None)
    else if nat_le (offset + len) (2 ^ 64) then Some (offset + len - 1)
    else None

-- the length by which a range is sent; one that reaches the last byte has length 0
abbrev pub length_of : ℕ → ℕ → ℕ
length_of first last = if last == 2 ^ 64 - 1 then 0 else last + 1 - first

abbrev pub aimed_at : LockItem → ℕ → Option ℕ → Result Aim Outcome
aimed_at l file None = Err TooBig
aimed_at l file (Some last) = Ok (record { file = file; first = l.l_offset; last = last })

abbrev pub aimed_in : LockItem → Option ℕ → Result Aim Outcome
aimed_in l None = Err NoFile
aimed_in l (Some file) = aimed_at l file (last_of l.l_offset l.l_len)

-- the bytes that a lock names, or why it names none: no exported file has its handle, or they pass the last byte (NLM-4)
unfoldable pub aimed : ℕ → LockItem → Result Aim Outcome
aimed count l = aimed_in l (exported count l.fh)

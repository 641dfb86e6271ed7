-- The record file: its form, the epoch, how many names there are, and for each name a byte for its protocol, the length of
-- the name, the name and, in the form `XLR2`, its mark behind the mark's length. Numbers are big-endian.
use Rattle.std.specs.Prelude.{◌≡◌, ℕ, ◌==◌, ◌<◌, ◌≤◌, ◌^◌, zero, suc, Bool, true, if◌then◌else◌, List, [], ◌∷◌, ◌++◌, length, take, codes, bytes_eq, nat_lt, Option, Some, None, Result, Ok, Err}
use Rattle.std.specs.Int.{w16, w32}
use Rattle.std.specs.List.{AllByRecursion, list_all}
use Rattle.xl_base.specs.declared.name.Protocol.{Protocol}
use Rattle.xl_base.specs.declared.name.Protocol.TheVariants.{Nlm, Nfs, Smb}
use Rattle.xl_base.specs.declared.stable.Mark.{Mark}
use Rattle.xl_base.specs.declared.stable.Mark.TheVariants.{Verifier, State}
use Rattle.xl_base.specs.declared.stable.Recorded.{Recorded}
use Rattle.xl_base.specs.declared.record_file.RecordForm.{RecordForm}
use Rattle.xl_base.specs.declared.record_file.RecordForm.TheVariants.{Unmarked, Marked}
use Rattle.xl_base.specs.declared.record_file.RecordBad.{RecordBad}
use Rattle.xl_base.specs.declared.record_file.RecordBad.TheVariants as bad
use Rattle.xl_base.specs.Codec.{big_endian, ◌>>=◌, pair_at, as_at, guard_at, tagged_at, fixed_at, big_endian_at}
use Rattle.xl_base.specs.Stable.{Stable, mark_bytes, is_recorded, is_recordable, put_name, IsWhole}

-- ---- the two forms

-- a file of names alone begins so, and one of names with their marks
abbrev pub magic_of : RecordForm → List ℕ
magic_of Unmarked = codes "XLR1"
magic_of Marked = codes "XLR2"

-- the form of a file: what doesn't begin as the older one is taken for the newer
abbrev pub form_of : List ℕ → RecordForm
form_of bytes = if bytes_eq (take 4 bytes) (codes "XLR1") then Unmarked else Marked

-- bytes of a record file as it is written, at most
abbrev pub most_record_bytes : ℕ
most_record_bytes = 131072

-- bytes of a file of this form, at most
abbrev pub most_bytes_of : RecordForm → ℕ
most_bytes_of Unmarked = 65536
most_bytes_of Marked = most_record_bytes

-- the fault that an error names; want of memory is none
abbrev pub fault_of : RecordBad → Option RecordBad
fault_of bad.NoMemory = None
fault_of fault = Some fault

-- ---- spelling

-- 1 for NFSv4, 2 for NLM; no SMB client is recorded
abbrev pub kind_of : Protocol → ℕ
kind_of Nfs = 1
kind_of Nlm = 2
kind_of Smb = 0

-- a mark behind its length, or a zero alone if there is none; the older form has no marks
abbrev pub mark_text : RecordForm → Option Mark → List ℕ
mark_text Unmarked mark = []
mark_text Marked None = 0 ∷ []
mark_text Marked (Some mark) = length (mark_bytes mark) ∷ mark_bytes mark

unfoldable pub name_text : RecordForm → Recorded → List ℕ
name_text form name = (kind_of name.protocol ∷ []) ++ (big_endian w16 (length name.name) ++ (name.name ++ mark_text form name.mark))

abbrev pub names_text : RecordForm → List Recorded → List ℕ
names_text form [] = []
names_text form (name ∷ names) = name_text form name ++ names_text form names

-- the file of a record in this form
unfoldable pub file_text : RecordForm → Stable → List ℕ
file_text form stable = magic_of form ++ (big_endian w32 stable.epoch ++ (big_endian w32 (length stable.names) ++ names_text form stable.names))

-- the file of a record as it is written (RECORD-5)
abbrev pub record_text : Stable → List ℕ
record_text stable = file_text Marked stable

-- the form keeps this mark
abbrev pub KeepsMark : RecordForm → Option Mark → Type 0
KeepsMark Unmarked mark = mark ≡ None
KeepsMark Marked mark = IsWhole mark

-- the length of the name has a spelling, and the form keeps its mark
abbrev pub Fits : RecordForm → Recorded → Type 0
Fits form name = (length name.name < 2 ^ 16) × KeepsMark form name.mark

-- a name that has a spelling
abbrev pub IsSpelled : RecordForm → Recorded → Type 0
IsSpelled form name = (is_recordable name ≡ true) × Fits form name

-- the bytes are the file of the record, in the form in which they begin
abbrev pub IsFileOf : Stable → List ℕ → Type 0
IsFileOf stable bytes = (bytes ≡ file_text (form_of bytes) stable) × (length bytes ≤ most_bytes_of (form_of bytes)) × AllByRecursion (Fits (form_of bytes)) stable.names

-- names of at most 65,535 bytes
abbrev pub are_short : List Recorded → Bool
are_short names = list_all (λ name. nat_lt (length name.name) 65536) names

-- a record that has a file, as it is written (RECORD-5)
abbrev pub HasFile : Stable → Type 0
HasFile stable = (length (record_text stable) ≤ most_record_bytes) × (are_short stable.names ≡ true)

-- ---- reading

abbrev pub magic_at : RecordForm → List ℕ → Result (List ℕ × List ℕ) RecordBad
magic_at form bytes = guard_at (λ magic. bytes_eq magic (magic_of form)) bad.Magic (fixed_at bad.Magic 4) bytes

abbrev pub protocol_at : List ℕ → Result (Protocol × List ℕ) RecordBad
protocol_at [] = Err bad.Cut
protocol_at (kind ∷ bytes) = if kind == 1 then Ok (Nfs, bytes) else if kind == 2 then Ok (Nlm, bytes) else Err (bad.Kind kind)

-- a name behind its length
abbrev pub text_at : List ℕ → Result (List ℕ × List ℕ) RecordBad
text_at bytes = tagged_at (big_endian_at bad.Cut w16) (λ n. fixed_at bad.Cut n) bytes

-- bytes of a mark of this protocol: an NFSv4 client's verifier, the state of an NLM client's host; no SMB client has one
abbrev pub mark_length : Protocol → ℕ
mark_length Nfs = 8
mark_length Nlm = 4
mark_length Smb = 0

abbrev pub mark_of : Protocol → List ℕ → Mark
mark_of Nlm bytes = State bytes
mark_of _ bytes = Verifier bytes

-- a mark behind its length, or none behind a zero; in the older form there is none
unfoldable pub mark_at : RecordForm → Protocol → List ℕ → Result (Option Mark × List ℕ) RecordBad
mark_at Unmarked protocol bytes = Ok (None, bytes)
mark_at Marked protocol [] = Err bad.Cut
mark_at Marked protocol (n ∷ bytes) = if n == 0 then Ok (None, bytes) else if n == mark_length protocol then as_at (λ mark. Some (mark_of protocol mark)) (fixed_at bad.Cut n) bytes else Err (bad.Mark n)

unfoldable pub name_at : RecordForm → List ℕ → Result (Recorded × List ℕ) RecordBad
name_at form bytes = as_at (λ p. record { protocol = p.0; name = p.1.0; mark = p.1.1 }) (pair_at protocol_at (λ protocol. pair_at text_at (λ _. mark_at form protocol))) bytes

-- the record with a name more, behind the others
abbrev pub added : Recorded → Stable → Stable
added name stable = record { epoch = stable.epoch; names = stable.names ++ name ∷ [] }

-- the record with the name: in its place with its mark, or behind the others if it is new
abbrev pub with_name : Recorded → Stable → Stable
with_name name stable = record { epoch = stable.epoch; names = put_name name stable.names }

-- so many names, put behind those that are read already
unfoldable pub names_at : RecordForm → ℕ → Stable → List ℕ → Result (Stable × List ℕ) RecordBad
names_at form zero stable bytes = Ok (stable, bytes)
names_at form (suc count) stable bytes = name_at form bytes >>= λ x. if is_recorded x.0 stable.names then Err bad.Twice else names_at form count (added x.0 stable) x.1

-- nothing behind it
abbrev pub ended : {A : Type 0} → A × List ℕ → Result A RecordBad
ended (x, []) = Ok x
ended (x, byte ∷ bytes) = Err bad.Extra

-- the record of a file of this form, or the first fault: its length first, then as it is read
unfoldable pub file_at : RecordForm → List ℕ → Result Stable RecordBad
file_at form bytes = if nat_lt (most_bytes_of form) (length bytes) then Err (bad.Long (length bytes)) else
    magic_at form bytes >>= λ magic. big_endian_at bad.Cut w32 magic.1 >>= λ epoch. big_endian_at bad.Cut w32 epoch.1 >>= λ count.
    names_at form count.0 (record { epoch = epoch.0; names = [] }) count.1 >>= ended

-- the record of a file in the form in which it begins (RECORD-6)
abbrev pub record_at : List ℕ → Result Stable RecordBad
record_at bytes = file_at (form_of bytes) bytes

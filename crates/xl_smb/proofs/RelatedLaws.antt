-- The header of a part that is filled in is read again.
use Rattle.std.proofs.Common.{◌≡◌, ℕ, Bool, true, false, cond, ltb, List, ◌++◌, length, drop, Option, Some, None, Result, Ok, Err, refl, sym, ap, ◌∙◌, arith}
use Rattle.std.specs.Prelude.{bit_and}
use Rattle.std.specs.Int.Bits.{and_zero_r}
use Rattle.std.proofs.lemmas.Bool.{le-ltb}
use Rattle.std.proofs.lemmas.List.{length-append}
use Rattle.std.proofs.lemmas.Nat.{and_assoc}
use Rattle.xl_smb.specs.Heads.{is_set, async_command, is_async, HasForm, HeadFits, has_mark, route_of, head_fields, head_at, head_of, head}
use Rattle.xl_smb.specs.Related.{resolved_head, resolved_body, resolved}
use Rattle.xl_smb.specs.declared.fault.SmbBad.{SmbBad}
use Rattle.xl_smb.specs.declared.head.SmbHead.{SmbHead}
use Rattle.xl_smb.specs.declared.related.Before.{Before}
use Rattle.xl_smb.proofs.HeadLaws.{head_again, head_length, mark_stands}

-- a header says by its flags which form it has
form_by : (flags : ℕ) (bytes : List ℕ) (b : Bool) → is_set async_command flags ≡ b → is_async (route_of flags bytes) ≡ b
form_by flags bytes true is = rw is refl
form_by flags bytes false is = rw is refl

form_at : (frame : List ℕ) → HasForm (head_at frame)
unfolding head_at head_fields
form_at frame = sym (form_by _ _ _ refl)

-- flags without that of a related part say the same of the form, and without both that it is synchronous
keeps_form : (flags : ℕ) → is_set async_command (bit_and flags 0xFFFFFFFB) ≡ is_set async_command flags
keeps_form flags = rw (and_assoc 2 flags 0xFFFFFFFB) refl

is_sync : (flags : ℕ) → is_set async_command (bit_and flags 0xFFFFFFF9) ≡ false
is_sync flags = rw (and_assoc 2 flags 0xFFFFFFF9, and_zero_r flags) refl

-- and what is no reply stays none, and is not related
pub keeps_request : (flags : ℕ) → is_set 1 (bit_and flags 0xFFFFFFFB) ≡ is_set 1 flags
keeps_request flags = rw (and_assoc 1 flags 0xFFFFFFFB) refl

pub keeps_taken_request : (flags : ℕ) → is_set 1 (bit_and flags 0xFFFFFFF9) ≡ is_set 1 flags
keeps_taken_request flags = rw (and_assoc 1 flags 0xFFFFFFF9) refl

pub is_alone : (flags : ℕ) → is_set 4 (bit_and flags 0xFFFFFFFB) ≡ false
is_alone flags = rw (and_assoc 4 flags 0xFFFFFFFB, and_zero_r flags) refl

pub is_taken_alone : (flags : ℕ) → is_set 4 (bit_and flags 0xFFFFFFF9) ≡ false
is_taken_alone flags = rw (and_assoc 4 flags 0xFFFFFFF9, and_zero_r flags) refl

resolved_form : (before : Option Before) (frame : List ℕ) → HasForm (resolved_head before (head_at frame))
unfolding resolved_head
resolved_form None frame = keeps_form (head_at frame).flags ∙ form_at frame
resolved_form (Some before) frame = is_sync (head_at frame).flags

there : (h : SmbHead) (body : List ℕ) → HeadFits h → HasForm h → head_of (head h ++ body) ≡ Ok h
unfolding head_of
there h body fits form =
    let whole : ltb (length (head h ++ body)) 64 ≡ false = le-ltb _ _ (omega (arith, head_length h fits form, length-append (head h) body)) in
    rw (whole, mark_stands h body, head_again h body fits form) refl

-- what is read as a header is that at the front
read_at : (bytes : List ℕ) (h : SmbHead) → head_of bytes ≡ Ok h → head_at bytes ≡ h
unfolding head_of
read_at bytes h is = by_tests (ltb (length bytes) 64) (has_mark bytes) is
  where
    by_tests : (short marked : Bool) → cond short (Err SmbBad.Short) (cond marked (Ok (head_at bytes)) (Err SmbBad.Magic)) ≡ Ok h → head_at bytes ≡ h
    by_tests false true eq = search
    by_tests true marked eq = absurd cc
    by_tests false false eq = absurd cc

-- a part's header, once it is filled in
abbrev pub Reads : Option Before → List ℕ → List ℕ → Type 0
Reads before bytes message = (h : SmbHead) → head_of bytes ≡ Ok h → head_of message ≡ Ok (resolved_head before h)

same_head : (bytes : List ℕ) (h k : SmbHead) → head_of bytes ≡ Ok h → head_of bytes ≡ Ok k → k ≡ h
same_head bytes h k first second = sym (read_at bytes k second) ∙ read_at bytes h first

abbrev told : Option Before → SmbHead → Result SmbHead SmbBad
told before h = Ok (resolved_head before h)

pub resolved_reads : (before : Option Before) (bytes : List ℕ) (k : SmbHead) → head_of bytes ≡ Ok k → HeadFits (resolved_head before k) → Reads before bytes (resolved before bytes)
unfolding resolved
resolved_reads before bytes k read fits h is =
    rw read (there (resolved_head before k) (resolved_body before k.command (drop 64 bytes)) fits (rw (sym (read_at bytes k read)) (resolved_form before bytes))) ∙ ap (told before) (same_head bytes h k is read)

pub unread_reads : (before : Option Before) (bytes : List ℕ) (e : SmbBad) → head_of bytes ≡ Err e → Reads before bytes (resolved before bytes)
unread_reads before bytes e none h is = absurd cc

pub message_reads : (before : Option Before) (bytes message : List ℕ) → message ≡ resolved before bytes → Reads before bytes (resolved before bytes) → Reads before bytes message
message_reads before bytes message is reads h read = ap head_of is ∙ reads h read

-- Leases and the contexts of CREATE that carry them.
use Rattle.std.specs.Prelude.{ℕ, zero, suc, ◌&&◌, ◌||◌, not, Bool, false, ◌==◌, List, ◌∷◌, length, drop, bytes_eq, codes, nat_lt, Option, Some, None, option_map, Result, Ok, Err, is_ok, if◌then◌else◌}
use Rattle.std.specs.Int.{w16, w32}
use Rattle.xl_base.specs.Codec.{little_endian, ◌>>=◌}
use Rattle.xl_layout.specs.Places.{joined, zeros}
use Rattle.xl_layout.specs.Layouts.{U16, U32, Layout, made, reserved, part, aligned, u32, u64, raw, read, parts_at, all_stand, fields}
use Rattle.xl_smb.specs.Bodies.{buffer}
use Rattle.xl_smb.specs.declared.fault.SmbBad.{SmbBad}
use Rattle.xl_smb.specs.declared.fault.SmbBad.TheVariants.{Offset}
use Rattle.xl_smb.specs.declared.lease.Context.{Context}
use Rattle.xl_smb.specs.declared.lease.Lease.{Lease}

-- ---- contexts (MS-SMB2 2.2.13.2): a head of 16 bytes, and a name and data at places within the list

pub record ContextItem : Type 0 where
  -- how far the next one is from here, 0 in the last
  pub next : ℕ
  pub name : List ℕ
  pub content : List ℕ

abbrev pub shown_context : Context → ContextItem
shown_context c = record { next = c.next; name = c.name.now; content = c.content.now }

unfoldable pub context_fields : Layout ContextItem
context_fields = u32 (λ c. c.next) λ next. buffer (λ c. c.name) λ name. reserved 2 (aligned (λ c. c.content) (
    part (record { offset = U16; count = U32; empty_at_0 = false; test = None }) (λ c. c.content) λ content. made (record { next = next; name = name; content = content })))

-- the context at the front of a list
unfoldable pub context_at : List ℕ → Result ContextItem SmbBad
context_at list = if not (nat_lt (length list) 16) && all_stand (parts_at context_fields 0 16 list list) then Ok (read context_fields 0 16 list list) else Err Offset

-- ---- the contexts of a list, one after the other

-- a context of this name and this length, or none at all
abbrev pub is_wanted : Option (List ℕ × ℕ) → ContextItem → Bool
is_wanted None c = false
is_wanted (Some wanted) c = bytes_eq c.name wanted.0 && (length c.content == wanted.1)

-- the context itself if it is wanted, nothing if it is the last, or what the next one comes to
abbrev pub among : Option (List ℕ × ℕ) → ContextItem → (ℕ → Result (Option ContextItem) SmbBad) → Result (Option ContextItem) SmbBad
among wanted c others = if is_wanted wanted c then Ok (Some c) else if c.next == 0 then Ok None else others c.next

-- the first of at most so many contexts that is wanted, None if none is, or why one leaves the list
unfoldable pub first_among : Option (List ℕ × ℕ) → ℕ → List ℕ → Result (Option ContextItem) SmbBad
first_among wanted zero list = Err Offset
first_among wanted (suc most) list = context_at list >>= λ c. among wanted c (λ next. first_among wanted most (drop next list))

-- a list has at most as many contexts as bytes
abbrev pub first_of : Option (List ℕ × ℕ) → List ℕ → Result (Option ContextItem) SmbBad
first_of wanted list = first_among wanted (length list) list

-- whether each context lies within the list
abbrev pub are_contexts : List ℕ → Bool
are_contexts list = (length list == 0) || is_ok (first_of None list)

-- the data of what was found
abbrev pub content_of : Result (Option ContextItem) SmbBad → Option (List ℕ)
content_of (Ok (Some c)) = Some c.content
content_of _ = None

-- the data of the first context of this name and this length
abbrev pub find : List ℕ → ℕ → List ℕ → Option (List ℕ)
find name size list = content_of (first_of (Some (name, size)) list)

-- ---- the lease's context, `RqLs` with 32 bytes (MS-SMB2 2.2.13.2.8, 2.2.14.2.10)

abbrev pub lease_fields : Layout Lease
lease_fields = raw 16 (λ l. l.key) λ key. u32 (λ l. l.state) λ state. u32 (λ l. l.flags) λ flags. u64 (λ l. l.duration) λ duration. made (record { key = key; state = state; flags = flags; duration = duration })

unfoldable pub lease_at : List ℕ → Lease
lease_at content = read lease_fields 0 32 content content

-- the lease of the first such context; contexts of another name or length are passed over (SMB-8)
abbrev pub lease_of : List ℕ → Option Lease
lease_of list = option_map lease_at (find (codes "RqLs") 32 list)

unfoldable pub lease_context : Lease → List ℕ
lease_context l = joined (little_endian w32 0 ∷ little_endian w16 16 ∷ little_endian w16 4 ∷ zeros 2 ∷ little_endian w16 24 ∷ little_endian w32 32 ∷ codes "RqLs" ∷ zeros 4 ∷ fields lease_fields 0 l)

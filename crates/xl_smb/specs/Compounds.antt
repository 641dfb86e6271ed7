-- Several messages in one frame (MS-SMB2 2.2.1, 3.3.4.1.3, 3.3.5.2.7): the parts of a frame, each a message from its header to
-- the next one, and a frame of messages.
use Rattle.std.specs.Prelude.{◌≡◌, ℕ, zero, suc, ◌+◌, ◌-◌, ◌%◌, ◌≤◌, Bool, true, false, not, ◌&&◌, ◌==◌, nat_lt, List, [], ◌∷◌, ◌++◌, length, take, drop, map, Option, Some, None, Result, Ok, Err, if◌then◌else◌}
use Rattle.std.specs.Int.{w32}
use Rattle.xl_base.specs.Codec.{little_endian}
use Rattle.xl_base.specs.Limits.{most_message_bytes}
use Rattle.xl_layout.specs.Places.{joined, zeros, u32_at}
use Rattle.xl_smb.specs.Heads.{is_reply, has_mark, head_at, head_of}
use Rattle.xl_smb.specs.declared.compound.Behind.{Behind}
use Rattle.xl_smb.specs.declared.compound.Behind.TheVariants as behind
use Rattle.xl_smb.specs.declared.compound.SmbPart.{SmbPart}
use Rattle.xl_smb.specs.declared.fault.SmbBad.{SmbBad}
use Rattle.xl_smb.specs.declared.head.SmbHead.{SmbHead}

-- ---- a part

-- What stands behind a part: nothing; nothing that is read, as NextCommand is out of order; or these bytes, from the next
-- header on.
pub data Rest : Type 0 where
  Last : Rest
  Astray : Rest
  Goes : List ℕ → Rest

pub record Part : Type 0 where
  pub head : SmbHead
  pub bytes : List ℕ
  pub behind : Rest

abbrev pub shown_rest : Behind → Rest
shown_rest behind.Last = Last
shown_rest behind.Astray = Astray
shown_rest (behind.Next bytes) = Goes bytes.now

abbrev pub shown_part : SmbPart → Part
shown_part p = record { head = p.head; bytes = p.bytes.now; behind = shown_rest p.behind }

-- whether NextCommand leads to another header in so many bytes: it is a multiple of 8, not less than a header, and leaves at
-- least one (MS-SMB2 3.3.5.2.7) (SMB-30)
abbrev pub leads_on : ℕ → ℕ → Bool
leads_on way count = (way % 8 == 0) && not (nat_lt way 64) && not (nat_lt count (way + 64))

-- the bytes of a part whose NextCommand is this, and what stands behind it
abbrev pub own_bytes : ℕ → List ℕ → List ℕ
own_bytes way bytes = if leads_on way (length bytes) then take way bytes else bytes

abbrev pub rest_at : ℕ → List ℕ → Rest
rest_at way bytes = if leads_on way (length bytes) then Goes (drop way bytes) else if way == 0 then Last else Astray

abbrev pub part_of : SmbHead → List ℕ → Part
part_of h bytes = record { head = h; bytes = own_bytes h.next_command bytes; behind = rest_at h.next_command bytes }

-- what has no header, and what is a reply by its flags, is no part (SMB-9)
abbrev pub part_by : List ℕ → Result SmbHead SmbBad → Option Part
part_by bytes (Err fault) = None
part_by bytes (Ok h) = if is_reply h then None else Some (part_of h bytes)

-- the part at the front of these bytes
unfoldable pub part_at : List ℕ → Option Part
part_at bytes = part_by bytes (head_of bytes)

-- ---- the parts

-- the parts of a frame that are done (SMB-31)
abbrev pub most_parts : ℕ
most_parts = 64

-- the bytes from the next header on, if there is one
abbrev pub next_of : Rest → Option (List ℕ)
next_of Last = None
next_of Astray = None
next_of (Goes bytes) = Some bytes

-- a part, if there is one, and those behind it
abbrev pub with_rest : (List ℕ → List Part) → Option (List ℕ) → List Part
with_rest parts None = []
with_rest parts (Some bytes) = parts bytes

abbrev pub with_part : (List ℕ → List Part) → Option Part → List Part
with_part parts None = []
with_part parts (Some p) = p ∷ with_rest parts (next_of p.behind)

-- so many parts at most
unfoldable pub parts_from : ℕ → List ℕ → List Part
parts_from zero bytes = []
parts_from (suc n) bytes = with_part (parts_from n) (part_at bytes)

abbrev pub parts_of : List ℕ → List Part
parts_of frame = parts_from most_parts frame

-- the bytes of parts, one behind the other
abbrev pub bytes_of : List Part → List ℕ
bytes_of ps = joined (map (λ p. p.bytes) ps)

abbrev pub next_by : Option Part → Option (List ℕ)
next_by None = None
next_by (Some p) = next_of p.behind

unfoldable pub next_at : List ℕ → Option (List ℕ)
next_at bytes = next_by (part_at bytes)

-- whether the last of so many parts leads on to another, whatever that is (SMB-31)
abbrev pub goes_over : (List ℕ → Bool) → Option (List ℕ) → Bool
goes_over over None = false
goes_over over (Some bytes) = over bytes

unfoldable pub is_over_from : ℕ → List ℕ → Bool
is_over_from zero bytes = true
is_over_from (suc n) bytes = goes_over (is_over_from n) (next_at bytes)

-- whether a frame has more parts than are done
abbrev pub is_over : List ℕ → Bool
is_over frame = is_over_from most_parts frame

-- ---- a frame of messages

-- how many zeros bring so many bytes to a multiple of 8
unfoldable pub gap : ℕ → ℕ
gap count = (8 - count % 8) % 8

-- how far it is from the header of a message of so many bytes to the next one
abbrev pub way : ℕ → ℕ
way count = count + gap count

-- a message with its NextCommand, which stands at byte 20, and padded (SMB-33)
unfoldable pub linked : List ℕ → List ℕ
linked message = joined (take 20 message ∷ little_endian w32 (way (length message)) ∷ drop 24 message ∷ take (gap (length message)) (zeros 8) ∷ [])

-- a message that is followed by another, or isn't
abbrev pub linked_if : Bool → List ℕ → List ℕ
linked_if true message = linked message
linked_if false message = message

-- the messages in one frame: each but the last is linked to the next
abbrev pub compound : List (List ℕ) → List ℕ
compound [] = []
compound (message ∷ []) = message
compound (message ∷ messages) = linked message ++ compound messages

-- what it takes to be put into a frame: a header, no more bytes than a frame may have
pub record IsWhole (message : List ℕ) : Type 0 where
  pub long : 64 ≤ length message
  pub short : length message ≤ most_message_bytes

-- and to be found there again: the mark, and no NextCommand of its own
pub record IsAlone (message : List ℕ) : Type 0 where
  pub whole : IsWhole message
  pub marked : has_mark message ≡ true
  pub alone : (head_at message).next_command ≡ 0

-- ---- a frame that is taken apart

-- so many messages at most, each up to where its NextCommand says that the next one begins
unfoldable pub pieces : ℕ → List ℕ → List (List ℕ)
pieces zero frame = []
pieces (suc n) frame = if u32_at 20 frame == 0 then frame ∷ [] else take (u32_at 20 frame) frame ∷ pieces n (drop (u32_at 20 frame) frame)

-- the messages as they stand in their frame
abbrev pub links : List (List ℕ) → List (List ℕ)
links [] = []
links (message ∷ []) = message ∷ []
links (message ∷ messages) = linked message ∷ links messages

-- the header of a message that is linked
abbrev pub linked_head : List ℕ → SmbHead
linked_head message = record (head_at message) { next_command = way (length message) }

-- the parts that requests are in one frame
abbrev pub parts_in : List (List ℕ) → List Part
parts_in [] = []
parts_in (message ∷ []) = record { head = head_at message; bytes = message; behind = Last } ∷ []
parts_in (message ∷ messages) = record { head = linked_head message; bytes = linked message; behind = Goes (compound messages) } ∷ parts_in messages

-- a message that is a request
pub record IsRequest (message : List ℕ) : Type 0 where
  pub alone : IsAlone message
  pub request : is_reply (head_at message) ≡ false

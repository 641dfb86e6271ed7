-- Frames on a byte stream: record marking of ONC RPC over TCP (RFC 5531 11), and the direct TCP transport of SMB 2
-- (MS-SMB2 2.1).
use Rattle.std.specs.Prelude.{ℕ, zero, suc, ◌+◌, ◌-◌, ◌^◌, Bool, true, ◌==◌, ◌&&◌, not, nat_le, nat_lt, if◌then◌else◌, List, [], ◌∷◌, ◌++◌, length, take, drop, get_or, Option, Some, None}
use Rattle.std.specs.Int.{w32, to_be_bytes, from_be_bytes, bytes_high_first}
use Rattle.xl_base.specs.Limits.{most_message_bytes}
use Rattle.xl_base.specs.declared.event.Kind.{Kind}
use Rattle.xl_base.specs.declared.event.Kind.TheVariants.{Rpc, Smb}
use Rattle.xl_frame.specs.declared.fault.FrameBad.{FrameBad}
use Rattle.xl_frame.specs.declared.fault.FrameBad.TheVariants.{Long, Fragments, Empty, Marker}

-- the four bytes in front of a message of so many bytes: for RPC the top bit, which marks a last fragment, and the
-- length in the 31 bits below it; for SMB a zero byte, and the length in three bytes, the highest first
abbrev pub header : Kind → ℕ → List ℕ
header Rpc count = to_be_bytes w32 (2 ^ 31 + count)
header Smb count = 0 ∷ bytes_high_first 3 count

-- a message in one frame
abbrev pub wrapped : Kind → List ℕ → List ℕ
wrapped kind bytes = header kind (length bytes) ++ bytes

-- ---- fragments: four bytes, read as a number with the highest byte first, and so many bytes as they say. An RPC record
-- is its fragments joined; an SMB message is one fragment.

-- whether the fragment is the last of its message, which RPC's top bit says
abbrev pub is_last : Kind → ℕ → Bool
is_last Rpc number = nat_le (2 ^ 31) number
is_last Smb number = true

-- how many bytes it has: what RPC's 31 bits below the top bit say, and SMB's 24 bits below a byte of zero
abbrev pub count_of : Kind → ℕ → ℕ
count_of Rpc number = if nat_le (2 ^ 31) number then number - 2 ^ 31 else number
count_of Smb number = number

-- the fault of a message that would have so many bytes
abbrev pub long_fault : ℕ → Option FrameBad
long_fault count = if nat_lt most_message_bytes count then Some (Long count) else None

-- the fault of a record's fragment, if the record may have so many fragments more, of at most 64, and has the sum of
-- bytes without this one (WIRE-2)
abbrev pub record_fault : ℕ → ℕ → Bool → ℕ → Option FrameBad
record_fault left sum last count = if not last && count == 0 then Some Empty else if left == 0 then Some (Fragments 65) else long_fault (sum + count)

-- the fault that a header shows: its first byte, and all four as a number
abbrev pub fault_of : Kind → ℕ → ℕ → ℕ → ℕ → Option FrameBad
fault_of Rpc left sum first number = record_fault left sum (is_last Rpc number) (count_of Rpc number)
fault_of Smb left sum first number = if first == 0 then long_fault number else Some (Marker first)

-- what stands at the front of bytes: no whole fragment; a fault; the bytes of a fragment that isn't the last, or is, and
-- the bytes behind it
pub data Fragment : Type 0 where
  Short : Fragment
  Faulty : FrameBad → Fragment
  More : List ℕ → List ℕ → Fragment
  Last : List ℕ → List ℕ → Fragment

-- the fragment of this fault, or of so many bytes, behind whose header these bytes stand
abbrev pub judged : Option FrameBad → Bool → ℕ → List ℕ → Fragment
judged (Some fault) last count rest = Faulty fault
judged None last count rest = if nat_lt (length rest) count then Short else if last then Last (take count rest) (drop count rest) else More (take count rest) (drop count rest)

abbrev pub under : Kind → ℕ → ℕ → ℕ → ℕ → List ℕ → Fragment
under kind left sum first number rest = judged (fault_of kind left sum first number) (is_last kind number) (count_of kind number) rest

-- a header is judged once its four bytes stand (WIRE-2)
unfoldable pub fragment_at : Kind → ℕ → ℕ → List ℕ → Fragment
fragment_at kind left sum bytes = if nat_lt (length bytes) 4 then Short else under kind left sum (get_or (take 4 bytes) 0 0) (from_be_bytes w32 (take 4 bytes)) (drop 4 bytes)

-- ---- messages

-- what stands at the front of a stream: a whole message and the bytes behind its frame, less than a frame, or a fault
pub data Front : Type 0 where
  Whole : List ℕ → List ℕ → Front
  Part : Front
  Broken : FrameBad → Front

-- bytes in front of those of the message
abbrev pub joined : List ℕ → Front → Front
joined body (Whole message rest) = Whole (body ++ message) rest
joined body Part = Part
joined body (Broken fault) = Broken fault

-- goes on behind a fragment that isn't the last
abbrev pub beyond : (ℕ → List ℕ → Front) → ℕ → Fragment → Front
beyond next sum Short = Part
beyond next sum (Faulty fault) = Broken fault
beyond next sum (Last body rest) = Whole body rest
beyond next sum (More body rest) = joined body (next (sum + length body) rest)

-- the message that may have so many fragments more, and has the sum of bytes so far
unfoldable pub message_at : Kind → ℕ → ℕ → List ℕ → Front
message_at kind zero sum bytes = beyond (λ _ _. Part) sum (fragment_at kind 0 sum bytes)
message_at kind (suc left) sum bytes = beyond (message_at kind left) sum (fragment_at kind (suc left) sum bytes)

-- a message has at most 64 fragments
abbrev pub front_of : Kind → List ℕ → Front
front_of kind bytes = message_at kind 64 0 bytes

-- ---- streams

-- what a stream of bytes is cut into: the messages of its whole frames in order, the bytes behind them, and the fault
-- of the first bad place. Behind a bad place nothing is kept: the rest is [] there (WIRE-2).
pub record Framed : Type 0 where
  pub frames : List (List ℕ)
  pub rest : List ℕ
  pub bad : Option FrameBad

-- messages in front of the others
abbrev pub with_frames : List (List ℕ) → Framed → Framed
with_frames messages framed = record { frames = messages ++ framed.frames; rest = framed.rest; bad = framed.bad }

-- goes on behind a whole frame
abbrev pub cut : (List ℕ → Framed) → List ℕ → Front → Framed
cut next bytes (Whole message rest) = with_frames (message ∷ []) (next rest)
cut next bytes Part = record { frames = []; rest = bytes; bad = None }
cut next bytes (Broken fault) = record { frames = []; rest = []; bad = Some fault }

-- the first frames of the bytes, at most so many
unfoldable pub frames_within : ℕ → Kind → List ℕ → Framed
frames_within zero kind bytes = record { frames = []; rest = bytes; bad = None }
frames_within (suc most) kind bytes = cut (frames_within most kind) bytes (front_of kind bytes)

-- the frames of a stream, which are no more than its bytes, as each has four bytes at least
unfoldable pub frames : Kind → List ℕ → Framed
frames kind stream = frames_within (length stream) kind stream

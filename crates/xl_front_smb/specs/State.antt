-- What the front keeps (MS-SMB2 3.3.1), and how a connection begins.
use Rattle.std.specs.Prelude.{ℕ, ◌||◌, nat_le, if◌then◌else◌, length, None, is_some}
use Rattle.xl_smb_state.specs.Links.{most_connections}
use Rattle.xl_smb_state.specs.State.{Lists, nothing, connection_of, connection_added}
use Rattle.xl_front_smb.specs.declared.front.SmbFront.{SmbFront}

-- the lists of its state
abbrev pub FrontSmb : Type 0
FrontSmb = SmbFront

-- the front at a start
abbrev pub empty_smb_front : FrontSmb
empty_smb_front = record { state = nothing }

-- how many opens SMB has
abbrev pub opens_held : FrontSmb → ℕ
opens_held f = length f.state.opens

abbrev pub connection_begun : Lists → ℕ → Lists
connection_begun l number = if is_some (connection_of number l) || nat_le most_connections (length l.connections) then l else connection_added number (record { client = None }) l

-- A connection of this number opens, on which nobody has negotiated yet; one that is there already, and one beyond 64,
-- changes nothing (HOUSE-3).
unfoldable pub smb_begin : FrontSmb → ℕ → FrontSmb
smb_begin f number = record { state = connection_begun f.state number }

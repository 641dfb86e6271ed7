-- A request that waited is answered at last: its frame goes on.
use Rattle.std.specs.Prelude.{ℕ, Bool, if◌then◌else◌, List, [], ◌∷◌, drop, Option, Some, None, Result, Ok, Err}
use Rattle.xl_smb.specs.Heads.{head_of}
use Rattle.xl_smb.specs.Related.{either_file, failure_in, left_by, related_head, with_head}
use Rattle.xl_smb.specs.declared.fault.SmbBad.{SmbBad}
use Rattle.xl_smb.specs.declared.head.Route.{Route}
use Rattle.xl_smb.specs.declared.head.Route.TheVariants.{Tree, Async}
use Rattle.xl_smb.specs.declared.head.SmbHead.{SmbHead}
use Rattle.xl_smb.specs.declared.related.Before.{Before}
use Rattle.xl_smb_frames.specs.declared.frame.Frame.{Frame}
use Rattle.xl_smb_frames.specs.declared.frame.Paused.{Paused}

-- the AsyncId that a message names
abbrev pub async_in : Route → Option ℕ
async_in (Tree id) = None
async_in (Async id) = Some id

abbrev pub async_by : Result SmbHead SmbBad → Option ℕ
async_by (Err fault) = None
async_by (Ok h) = async_in h.route

unfoldable pub async_id : List ℕ → Option ℕ
async_id bytes = async_by (head_of bytes)

-- what the request leaves to the part behind it, by its final reply: the open that it made, and its error
abbrev pub before_by : Before → SmbHead → List ℕ → Before
before_by b h body = record b { file_id = either_file (left_by h [] h body).file_id b.file_id; failed = failure_in h.status }

abbrev pub final_by : Bool → List ℕ → SmbHead → List ℕ
final_by related final h = if related then with_head (related_head h) final else final

abbrev pub woken_by : Paused → List ℕ → Result SmbHead SmbBad → Frame
woken_by p final (Err fault) = record { conn = p.conn; before = Some p.before; rest = []; left = 0; replies = final ∷ []; after = [] }
woken_by p final (Ok h) = record { conn = p.conn; before = Some (before_by p.before h (drop 64 final)); rest = p.rest; left = p.left; replies = final_by p.related final h ∷ []; after = [] }

-- The final reply and those to the parts behind it are one frame, which goes on with these parts (SMB-35).
unfoldable pub woken : Paused → List ℕ → Frame
woken p final = woken_by p final (head_of final)

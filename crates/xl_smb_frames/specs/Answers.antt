-- A part of a frame is answered.
use Rattle.std.specs.Prelude.{ℕ, ◌-◌, Bool, true, false, not, ◌&&◌, ◌==◌, if◌then◌else◌, List, [], ◌∷◌, ◌++◌, drop, Option, Some, None, Result, Ok, Err}
use Rattle.xl_smb.specs.Compounds.{Part, Rest, next_of, part_at}
use Rattle.xl_smb.specs.Heads.{head_of}
use Rattle.xl_smb.specs.Related.{is_nameless, is_related, left_by, related_head, resolved, resolved_head, taken_over, with_head}
use Rattle.xl_smb.specs.declared.fault.SmbBad.{SmbBad}
use Rattle.xl_smb.specs.declared.head.Route.{Route}
use Rattle.xl_smb.specs.declared.head.Route.TheVariants.{Tree, Async}
use Rattle.xl_smb.specs.declared.head.SmbHead.{SmbHead}
use Rattle.xl_smb.specs.declared.related.Before.{Before}
use Rattle.xl_smb_locks.specs.Statuses.{status_number, status_pending}
use Rattle.xl_smb_locks.specs.declared.status.SmbStatus.TheVariants.{FileClosed}
use Rattle.xl_smb_frames.specs.Frames.{invalid_parameter}
use Rattle.xl_smb_frames.specs.declared.answers.Course.{Course}
use Rattle.xl_smb_frames.specs.declared.answers.Told.{Told}
use Rattle.xl_smb_frames.specs.declared.frame.Frame.{Frame}
use Rattle.xl_smb_frames.specs.declared.frame.Paused.{Paused}

-- ---- the reply of a part

-- what names the open of a part that has none is refused where that open is looked for (SMB-34)
abbrev pub named_head : Option Before → Part → SmbHead → SmbHead
named_head before p h = if is_nameless before p.head.command (drop 64 p.bytes) && (h.status == status_number FileClosed) then record h { status = invalid_parameter } else h

abbrev pub marked_by : Option Before → Part → List ℕ → Result SmbHead SmbBad → List ℕ
marked_by before p reply (Err fault) = reply
marked_by before p reply (Ok h) = with_head (related_head (named_head before p h)) reply

-- the reply to a part as that of a message alone; a related one has the flag of one (SMB-32)
unfoldable pub said : Option Before → Part → List ℕ → List ℕ
said before p reply = if is_related p.head then marked_by (taken_over p.head before) p reply (head_of reply) else reply

-- ---- what the part leaves

abbrev pub left_with : Option Before → Part → List ℕ → Result SmbHead SmbBad → Option Before
left_with before p reply (Err fault) = None
left_with before p reply (Ok h) = Some (left_by (resolved_head before p.head) (drop 64 (resolved before p.bytes)) h (drop 64 reply))

-- what it leaves to the part behind it
abbrev pub left_in : Option Before → Part → List ℕ → Option Before
left_in before p reply = left_with (taken_over p.head before) p reply (head_of reply)

-- the AsyncId, if the part waits
abbrev pub waits_at : SmbHead → Route → Option ℕ
waits_at h (Tree id) = None
waits_at h (Async id) = if h.status == status_pending then Some id else None

abbrev pub waits_by : Result SmbHead SmbBad → Option ℕ
waits_by (Err fault) = None
waits_by (Ok h) = waits_at h h.route

unfoldable pub waits : List ℕ → Option ℕ
waits reply = waits_by (head_of reply)

-- the bytes behind a part, from the next header on; empty if there are none
abbrev pub bytes_or_none : Option (List ℕ) → List ℕ
bytes_or_none None = []
bytes_or_none (Some bytes) = bytes

abbrev pub rest_of : Part → List ℕ
rest_of p = bytes_or_none (next_of p.behind)

-- ---- the frame behind it

-- how many parts may be done behind a part, if so many with it
abbrev pub fewer : ℕ → List ℕ → ℕ
fewer left [] = 0
fewer left (b ∷ bs) = left - 1

abbrev pub is_none : List ℕ → Bool
is_none [] = true
is_none (b ∷ bs) = false

-- what stands with a part that waits under this AsyncId, and leaves this
abbrev pub paused_with : Course → Part → ℕ → List ℕ → Option Before → Option Paused
paused_with c p id rest None = None
paused_with c p id rest (Some before) = Some (record { conn = c.conn; waiter = id; related = is_related p.head; before = before; rest = rest; left = fewer c.left rest })

-- a message alone leaves nothing with its waiter
abbrev pub paused : Course → Part → ℕ → List ℕ → Option Before → Option Paused
paused c p id rest before = if not (is_related p.head) && is_none rest then None else paused_with c p id rest before

-- one reply more
abbrev pub reply_added : Told → List ℕ → Told
reply_added told reply = record told { replies = told.replies ++ reply ∷ [] }

-- nothing more of it is done
abbrev pub ended : Course → Told → Frame
ended c told = record { conn = c.conn; before = c.before; rest = []; left = 0; replies = told.replies; after = told.after }

-- With a part that waits the frame ends: what stands behind it stands with the waiter (SMB-35).
abbrev pub turned : Course → Part → Told → Option Before → Option ℕ → Frame × Option Paused
turned c p told before None = (record { conn = c.conn; before = before; rest = rest_of p; left = fewer c.left (rest_of p); replies = told.replies; after = told.after }, None)
turned c p told before (Some id) = (ended c told, paused c p id (rest_of p) before)

abbrev pub part_answered : Course → Part → Told → List ℕ → Frame × Option Paused
part_answered c p told reply = turned c p (reply_added told (said c.before p reply)) (left_in c.before p (said c.before p reply)) (waits reply)

abbrev pub answered_by : Course → Told → List ℕ → Option Part → Frame × Option Paused
answered_by c told reply None = (ended c told, None)
answered_by c told reply (Some p) = part_answered c p told reply

-- The frame behind its next part, which is answered so as a message alone; and if that waits what stands with it.
unfoldable pub answered : Frame → List ℕ → Frame × Option Paused
answered f reply = answered_by (record { conn = f.conn; before = f.before; left = f.left }) (record { replies = f.replies; after = f.after }) reply (part_at f.rest)

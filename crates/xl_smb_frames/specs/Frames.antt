-- Frames that are being answered, and how their replies are sent.
use Rattle.std.specs.Prelude.{ℕ, Bool, true, false, not, ◌&&◌, nat_lt, if◌then◌else◌, List, [], ◌∷◌, length, Option, Some, None, is_some}
use Rattle.std.specs.List.{list_any}
use Rattle.xl_base.specs.Limits.{most_message_bytes}
use Rattle.xl_base.specs.declared.event.Out.{Out}
use Rattle.xl_programs.specs.Sent.{sent_to}
use Rattle.xl_smb.specs.Compounds.{Part, compound, is_over, most_parts, next_of, part_at}
use Rattle.xl_smb.specs.Messages.{Reply, spelling}
use Rattle.xl_smb.specs.Related.{is_related, resolved_head}
use Rattle.xl_smb.specs.Replies.{Error}
use Rattle.xl_smb.specs.declared.head.SmbHead.{SmbHead}
use Rattle.xl_smb_locks.specs.Statuses.{status_number}
use Rattle.xl_smb_locks.specs.declared.status.SmbStatus.TheVariants.{InvalidParameter}
use Rattle.xl_front_smb.specs.Replies.{reply_head, tree_id}
use Rattle.xl_smb_frames.specs.declared.frame.Frame.{Frame}

-- ---- which frames have parts

-- whether it leads on to a second part
abbrev pub leads_on : Part → Bool
leads_on p = is_some (next_of p.behind)

abbrev pub alone_by : Option Part → Bool
alone_by None = true
alone_by (Some p) = not (leads_on p) && not (is_related p.head)

-- A frame of one message, which is related to none; what is no request is answered as one (SMB-34).
unfoldable pub is_alone : List ℕ → Bool
is_alone bytes = alone_by (part_at bytes)

-- ---- refusals

abbrev pub invalid_parameter : ℕ
invalid_parameter = status_number InvalidParameter

-- the reply to a request of this header that fails so
unfoldable pub refusal : SmbHead → ℕ → List ℕ
refusal h status = spelling (Reply (reply_head h status (tree_id h.route) h.session_id) Error)

-- ---- a frame as it comes

-- its first part is refused
abbrev pub refused_by : Option Part → List (List ℕ)
refused_by None = []
refused_by (Some p) = refusal (resolved_head None p.head) invalid_parameter ∷ []

-- A frame that came by this connection. If it has more parts than are done, nothing of it is done (SMB-31).
unfoldable pub opened : ℕ → List ℕ → Frame
opened conn bytes =
    if is_over bytes then record { conn = conn; before = None; rest = []; left = 0; replies = refused_by (part_at bytes); after = [] }
    else record { conn = conn; before = None; rest = bytes; left = most_parts; replies = []; after = [] }

-- ---- what is sent

-- what may stand in a frame
abbrev pub is_whole : List ℕ → Bool
is_whole reply = not (nat_lt (length reply) 64) && not (nat_lt most_message_bytes (length reply))

abbrev pub sent_if : Bool → ℕ → List ℕ → List Out
sent_if true conn bytes = sent_to conn bytes
sent_if false conn bytes = []

-- the frame of its replies fits a frame, and each of them has a header
abbrev pub may_be_sent : List (List ℕ) → Bool
may_be_sent [] = false
may_be_sent (reply ∷ replies) = not (list_any (λ r. not (is_whole r)) (reply ∷ replies)) && not (nat_lt most_message_bytes (length (compound (reply ∷ replies))))

-- The replies to its parts are sent as one frame (SMB-33), if there are any; one that answers nothing sends nothing.
unfoldable pub frame_sent : Frame → List Out
frame_sent f = sent_if (may_be_sent f.replies) f.conn (compound f.replies)

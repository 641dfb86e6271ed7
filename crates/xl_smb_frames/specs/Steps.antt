-- What is done next of a frame.
use Rattle.std.specs.Prelude.{ℕ, Bool, true, false, not, ◌&&◌, ◌||◌, ◌==◌, if◌then◌else◌, List, [], Option, Some, None, is_some}
use Rattle.xl_smb.specs.Compounds.{Part, Rest, Last, Astray, Goes, part_at}
use Rattle.xl_smb.specs.Heads.{number_of}
use Rattle.xl_smb.specs.Related.{failure_in, is_related, resolved, resolved_head, taken_over}
use Rattle.xl_smb.specs.declared.command.Command.TheVariants as command
use Rattle.xl_smb.specs.declared.related.Before.{Before}
use Rattle.xl_smb_frames.specs.Frames.{invalid_parameter, leads_on, refusal}
use Rattle.xl_smb_frames.specs.declared.frame.Frame.{Frame}
use Rattle.xl_smb_frames.specs.declared.steps.Step.{Step}
use Rattle.xl_smb_frames.specs.declared.steps.Step.TheVariants.{Ends, Replied, Asked}

-- no part of it is done yet
abbrev pub is_first : Frame → Bool
is_first f = not (is_some f.before)

-- its NextCommand is out of order
abbrev pub is_astray : Rest → Bool
is_astray Astray = true
is_astray _ = false

-- what can't be one of several
abbrev pub is_unfit : ℕ → Bool
is_unfit n = (n == number_of command.Negotiate) || (n == number_of command.Cancel)

-- a CANCEL that is alone in its frame, which gets no reply (SMB-9)
abbrev pub is_silent : Frame → Part → Bool
is_silent f p = is_first f && not (leads_on p) && (p.head.command == number_of command.Cancel)

-- it is out of order among several, or related to none (SMB-34)
abbrev pub is_refused : Frame → Part → Bool
is_refused f p = is_astray p.behind || is_unfit p.head.command || (is_first f && is_related p.head)

-- the error of the part before, which a related one takes over
abbrev pub failed_before : Option Before → Option ℕ
failed_before None = None
failed_before (Some before) = before.failed

abbrev pub error_by : Option ℕ → Option ℕ
error_by None = None
error_by (Some status) = failure_in status

-- why it isn't done, if it isn't: it is refused, or is related to one that failed and answers the same (SMB-34)
abbrev pub undone_by : Frame → Part → Option ℕ
undone_by f p = if is_refused f p then Some invalid_parameter else error_by (failed_before (taken_over p.head f.before))

abbrev pub judged : Frame → Part → Option ℕ → Step
judged f p (Some status) = Replied (refusal (resolved_head (taken_over p.head f.before) p.head) status)
judged f p None = Asked (resolved (taken_over p.head f.before) p.bytes)

abbrev pub step_by : Frame → Option Part → Step
step_by f None = Ends
step_by f (Some p) = if is_silent f p then Ends else judged f p (undone_by f p)

-- The next part of a frame: there is none, or it is answered so and not done, or it is done as this message alone.
unfoldable pub next_step : Frame → Step
next_step f = if f.left == 0 then Ends else step_by f (part_at f.rest)

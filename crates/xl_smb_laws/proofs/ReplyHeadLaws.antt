-- What the headers of replies repeat.
use Rattle.std.proofs.Common.{◌≡◌, ℕ, ◌≤◌, Bool, true, false, if◌then◌else◌, List, Option, Some, None, refl, sym, arith}
use Rattle.std.specs.Prelude.{◌==◌}
use Rattle.std.proofs.lemmas.Bool.Decides.{nat_tests}
use Rattle.xl_smb.specs.Replies.{ReplyItem}
use Rattle.xl_smb.specs.declared.head.SmbHead.{SmbHead}
use Rattle.xl_smb_state.specs.declared.row.Request.{Request}
use Rattle.xl_smb_state.specs.declared.row.Request.TheVariants as request
use Rattle.xl_smb_state.specs.declared.row.Waiting.{Waiting}
use Rattle.xl_smb_state.proofs.RowLaws.{none_some, same_Some, some_none}
use Rattle.xl_smb_locks.specs.Finals.{command_by, final_body, final_head, final_reply, final_status}
use Rattle.xl_smb_locks.specs.Statuses.{status_number}
use Rattle.xl_smb_locks.specs.declared.finals.FinalReply.{FinalReply}
use Rattle.xl_smb_locks.specs.declared.finals.FinalReply.TheVariants as saids
use Rattle.xl_smb_locks.specs.declared.status.SmbStatus.{SmbStatus}
use Rattle.xl_smb_locks.specs.declared.status.SmbStatus.TheVariants as status
use Rattle.xl_front_smb.specs.Replies.{body_of, credits_for, head_by, pending_head, reply_head, reply_of, spelled, tree_id}
use Rattle.xl_front_smb.specs.declared.told.Told.{Told}
use Rattle.xl_front_smb.specs.declared.told.Told.TheVariants as told
use Rattle.xl_smb_laws.specs.ReplyHeads.{IsFinalOf, IsReplyOf, RepeatsHead, Says, command_of_request}

-- ---- a reply

credits_least : (asked : ℕ) → 1 ≤ credits_for asked
unfolding credits_for
credits_least asked = grind (arith, nat_tests)

credits_most : (asked : ℕ) → credits_for asked ≤ 512
unfolding credits_for
credits_most asked = grind (arith, nat_tests)

credits_asked : (asked : ℕ) → 1 ≤ asked → asked ≤ 512 → credits_for asked ≡ asked
unfolding credits_for
credits_asked asked some few = grind (arith, nat_tests)

reply_repeats : (h : SmbHead) (status tree session : ℕ) → RepeatsHead h (reply_head h status tree session)
unfolding reply_head
reply_repeats h status tree session = record { message = refl; command = refl; charge = refl; reply = refl; form = refl; last = refl; least = credits_least h.credits; most = credits_most h.credits; asked = credits_asked h.credits }

pending_repeats : (h : SmbHead) (id : ℕ) → RepeatsHead h (pending_head h id)
unfolding pending_head
pending_repeats h id = record { message = refl; command = refl; charge = refl; reply = refl; form = refl; last = refl; least = credits_least h.credits; most = credits_most h.credits; asked = credits_asked h.credits }

head_says : (h : SmbHead) (t : Told) → RepeatsHead h (head_by h t) × Says h t (head_by h t)
unfolding reply_head pending_head
head_says h (told.Failed said) = (reply_repeats h (status_number said) (tree_id h.route) h.session_id, (refl, refl, refl))
head_says h (told.SetUp session) = (reply_repeats h 0 (tree_id h.route) session, (refl, refl, refl))
head_says h (told.Connected tree) = (reply_repeats h 0 tree h.session_id, (refl, refl, refl))
head_says h (told.Pending id) = (pending_repeats h id, (refl, refl, refl))
head_says h told.Nothing = (reply_repeats h 0 (tree_id h.route) h.session_id, (refl, refl, refl))
head_says h told.Negotiated = (reply_repeats h 0 (tree_id h.route) h.session_id, (refl, refl, refl))
head_says h told.LoggedOff = (reply_repeats h 0 (tree_id h.route) h.session_id, (refl, refl, refl))
head_says h told.Disconnected = (reply_repeats h 0 (tree_id h.route) h.session_id, (refl, refl, refl))
head_says h (told.Opened id cache) = (reply_repeats h 0 (tree_id h.route) h.session_id, (refl, refl, refl))
head_says h (told.Acknowledged id level) = (reply_repeats h 0 (tree_id h.route) h.session_id, (refl, refl, refl))
head_says h (told.Answered lease) = (reply_repeats h 0 (tree_id h.route) h.session_id, (refl, refl, refl))
head_says h told.Closed = (reply_repeats h 0 (tree_id h.route) h.session_id, (refl, refl, refl))
head_says h told.Locked = (reply_repeats h 0 (tree_id h.route) h.session_id, (refl, refl, refl))
head_says h told.Echoed = (reply_repeats h 0 (tree_id h.route) h.session_id, (refl, refl, refl))

pub reply_carries : (h : SmbHead) (t : Told) (bytes : List ℕ) → reply_of h t ≡ Some bytes → IsReplyOf h t bytes
unfolding reply_of
reply_carries h t bytes e = by (h.command == 12) (body_of t) e
  where
    by : (b : Bool) (body : Option ReplyItem) → (if b then None else spelled (head_by h t) body) ≡ Some bytes → IsReplyOf h t bytes
    by true body e = absurd (none_some e)
    by false None e = absurd (none_some e)
    by false (Some body) e = record { head = head_by h t; body = body; spelled = sym (same_Some e); repeats = (head_says h t).0; says = (head_says h t).1 }

pub cancel_silent : (h : SmbHead) (t : Told) → (h.command == 12) ≡ true → reply_of h t ≡ None
unfolding reply_of
cancel_silent h t is = rw is refl

pub nothing_silent : (h : SmbHead) → reply_of h told.Nothing ≡ None
unfolding reply_of
nothing_silent h = by (h.command == 12) None refl
  where
    by : (b : Bool) (o : Option (List ℕ)) → o ≡ None → (if b then None else o) ≡ None
    by true o e = refl
    by false o e = e

no_body : (t : Told) → body_of t ≡ None → t ≡ told.Nothing
no_body told.Nothing e = refl
no_body (told.Failed status) e = absurd (some_none e)
no_body told.Negotiated e = absurd (some_none e)
no_body (told.SetUp session) e = absurd (some_none e)
no_body told.LoggedOff e = absurd (some_none e)
no_body (told.Connected tree) e = absurd (some_none e)
no_body told.Disconnected e = absurd (some_none e)
no_body (told.Opened id cache) e = absurd (some_none e)
no_body (told.Acknowledged id level) e = absurd (some_none e)
no_body (told.Answered lease) e = absurd (some_none e)
no_body told.Closed e = absurd (some_none e)
no_body told.Locked e = absurd (some_none e)
no_body (told.Pending id) e = absurd (some_none e)
no_body told.Echoed e = absurd (some_none e)

pub silent_nothing : (h : SmbHead) (t : Told) → (h.command == 12) ≡ false → reply_of h t ≡ None → t ≡ told.Nothing
unfolding reply_of
silent_nothing h t other e = no_body t (by (body_of t) (rw other at e))
  where
    by : (body : Option ReplyItem) → spelled (head_by h t) body ≡ None → body ≡ None
    by None e = refl
    by (Some body) e = absurd (some_none e)

-- ---- a final reply

ends : (s : SmbStatus) → (status_number s == 0x103) ≡ false
ends status.Unsuccessful = refl
ends status.InvalidParameter = refl
ends status.ObjectNameNotFound = refl
ends status.ObjectNameCollision = refl
ends status.SharingViolation = refl
ends status.LockNotGranted = refl
ends status.RangeNotLocked = refl
ends status.InsufficientResources = refl
ends status.NotSupported = refl
ends status.NetworkNameDeleted = refl
ends status.BadNetworkName = refl
ends status.RequestNotAccepted = refl
ends status.InvalidOplockProtocol = refl
ends status.Cancelled = refl
ends status.FileClosed = refl
ends status.InvalidDeviceState = refl
ends status.InvalidLockRange = refl
ends status.UserSessionDeleted = refl

same_command : (r : Request) → command_by r ≡ command_of_request r
same_command (request.Create made) = refl
same_command request.Lock = refl

over : (said : FinalReply) → (final_status said == 0x103) ≡ false
over (saids.Failed status) = ends status
over saids.Locked = refl
over (saids.Opened handle told) = refl

pub final_carries : (id : ℕ) (row : Waiting) (said : FinalReply) → IsFinalOf id row (final_reply id row said)
unfolding final_head
final_carries id row said = record {
  head = final_head id (command_by row.request) row.header (final_status said);
  body = final_body said;
  spelled = refl;
  message = refl;
  session = refl;
  charge = refl;
  command = same_command row.request;
  async = refl;
  reply = refl;
  form = refl;
  last = refl;
  credits = refl;
  ended = over said;
}

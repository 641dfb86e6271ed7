-- Whole messages, each all of a frame. A message whose flags don't say that it is a reply is a request.
use Rattle.std.specs.Prelude.{◌≡◌, ℕ, ◌-◌, ◌^◌, true, false, ◌==◌, List, ◌++◌, drop, Result, Ok, if◌then◌else◌}
use Rattle.xl_base.specs.Codec.{◌>>=◌}
use Rattle.xl_layout.specs.Places.{zeros}
use Rattle.xl_layout.specs.Forms.{size_found, Body, either_body, Spelling, spelled, SpellingFits}
use Rattle.xl_smb.specs.Bodies.{form_at, body_at}
use Rattle.xl_smb.specs.Heads.{number_of, command_of, server_to_redir, is_reply, HasForm, head_of, is_notice, head, HeadFits}
use Rattle.xl_smb.specs.Breaks.{notice_form, notice_spelling}
use Rattle.xl_smb.specs.Calls.{CallItem, shown_call, call_at, call_spelling, command_of_call, CallHas}
use Rattle.xl_smb.specs.Replies.{ReplyItem, Error, shown_reply, success_body, error_body, reply_spelling, Answers, ReplyHas}
use Rattle.xl_smb.specs.declared.breaks.Notice.{Notice}
use Rattle.xl_smb.specs.declared.command.Command.TheVariants.{OplockBreak}
use Rattle.xl_smb.specs.declared.fault.SmbBad.{SmbBad}
use Rattle.xl_smb.specs.declared.head.Route.TheVariants.{Tree}
use Rattle.xl_smb.specs.declared.head.SmbHead.{SmbHead}
use Rattle.xl_smb.specs.declared.message.SmbMessage.{SmbMessage}
use Rattle.xl_smb.specs.declared.message.SmbMessage.TheVariants as message

-- a message without where its parts lie in memory
pub data MessageItem : Type 0 where
  Call : SmbHead → CallItem → MessageItem
  Reply : SmbHead → ReplyItem → MessageItem
  Told : Notice → MessageItem

abbrev pub shown : SmbMessage → MessageItem
shown (message.Call h c) = Call h (shown_call c)
shown (message.Reply h r) = Reply h (shown_reply r)
shown (message.Notice n) = Told n

-- ---- reading

-- a reply has its command's form at status 0, and the error form at another (SMB-6)
abbrev pub reply_body : ℕ → SmbHead → Body ReplyItem
reply_body size h = either_body (h.status == 0) (success_body size (command_of h.command)) error_body

unfoldable pub reply_at : SmbHead → List ℕ → List ℕ → Result ReplyItem SmbBad
reply_at h frame body = body_at (reply_body (size_found body) h) h.command frame body

-- what a header and the body behind it tell
unfoldable pub told_at : SmbHead → List ℕ → List ℕ → Result MessageItem SmbBad
told_at h frame body =
    if is_notice h then (form_at (notice_form (size_found body)) (number_of OplockBreak) frame body >>= λ n. Ok (Told n))
    else if is_reply h then (reply_at h frame body >>= λ r. Ok (Reply h r))
    else call_at h.command frame body >>= λ c. Ok (Call h c)

unfoldable pub message_at : List ℕ → Result MessageItem SmbBad
message_at frame = head_of frame >>= λ h. told_at h frame (drop 64 frame)

-- ---- spelling

unfoldable pub notice_head : SmbHead
notice_head = record { credit_charge = 0; status = 0; command = number_of OplockBreak; credits = 0; flags = server_to_redir; next_command = 0; message_id = 2 ^ 64 - 1; route = Tree 0; session_id = 0; signature = zeros 16 }

-- the header of a message, and how what stands behind it is spelled
abbrev pub head_by : MessageItem → SmbHead
head_by (Call h c) = h
head_by (Reply h r) = h
head_by (Told n) = notice_head

abbrev pub body_by : MessageItem → Spelling
body_by (Call h c) = call_spelling c
body_by (Reply h r) = reply_spelling r
body_by (Told n) = notice_spelling n

unfoldable pub spelling : MessageItem → List ℕ
spelling m = head (head_by m) ++ spelled (body_by m)

-- what fits its fields
abbrev pub Fits : MessageItem → Type 0
Fits m = HeadFits (head_by m) × SpellingFits (body_by m)

-- whether a reply of this form stands behind this header
abbrev pub IsReplyTo : SmbHead → ReplyItem → Type 0
IsReplyTo h Error = (h.status == 0) ≡ false
IsReplyTo h r = (h.status ≡ 0) × Answers (command_of h.command) r

pub record CallStands (h : SmbHead) (c : CallItem) : Type 0 where
  pub request : is_reply h ≡ false
  pub form : HasForm h
  pub command : command_of h.command ≡ command_of_call c
  pub has : CallHas c

pub record ReplyStands (h : SmbHead) (r : ReplyItem) : Type 0 where
  pub reply : is_reply h ≡ true
  pub form : HasForm h
  pub no_notice : is_notice h ≡ false
  pub command : IsReplyTo h r
  pub has : ReplyHas r

-- what it takes beside that to be spelled
abbrev pub HasSpelling : MessageItem → Type 0
HasSpelling (Call h c) = CallStands h c
HasSpelling (Reply h r) = ReplyStands h r
HasSpelling (Told n) = Unit {0}

-- a message of this header
abbrev pub IsOf : SmbHead → MessageItem → Type 0
IsOf h (Call of c) = of ≡ h
IsOf h (Reply of r) = of ≡ h
IsOf h (Told n) = is_notice h ≡ true

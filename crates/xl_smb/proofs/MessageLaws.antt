-- What was written of a message is read again, and how long it is; what is read has a spelling; which fault is met.
use Rattle.std.proofs.Common.{◌≡◌, ℕ, ◌+◌, Bool, true, false, cond, ltb, eqb, List, [], ◌++◌, length, drop, Option, Some, None, Result, Ok, Err, refl, sym, ap, subst, ◌∙◌, inl, inr, arith, Fits as FitsWidth, w8, get_or}
use Rattle.std.specs.Prelude.{IfOk, if◌then◌else◌}
use Rattle.std.specs.Result.{result_err}
use Rattle.std.proofs.lemmas.Bool.{le-ltb, cases_Bool, eqb-true, false≢true}
use Rattle.std.proofs.lemmas.List.{drop_at, length-append}
use Rattle.xl_base.specs.Codec.{IsBytes, ◌>>=◌}
use Rattle.xl_base.specs.Results.{Gives}
use Rattle.xl_base.proofs.CodecLaws.{IsBytes-drop}
use Rattle.xl_layout.specs.Places.{u32_at}
use Rattle.xl_layout.specs.Forms.{size_found, Body, reads, Spelling, spelled}
use Rattle.xl_layout.proofs.LayoutLaws.{padding_length}
use Rattle.xl_layout.proofs.FormLaws.{IsRead, spelled_again, spelled_size, spelled_length, AllTold, body_found, seen_ok, seen_err, IsListed, body_fault as listed_fault}
use Rattle.xl_smb.specs.Bodies.{form_at, body_at}
use Rattle.xl_smb.specs.Heads.{command_of, server_to_redir, head_of, has_mark, is_set, is_reply, HasForm, head_fields, head_at, head, is_notice}
use Rattle.xl_smb.specs.Sessions.{negotiate_call, negotiate_reply, setup_call, setup_reply, tree_call, tree_reply, empty}
use Rattle.xl_smb.specs.Creates.{create_call, create_reply}
use Rattle.xl_smb.specs.Locks.{close_call, close_reply, lock_call}
use Rattle.xl_smb.specs.Breaks.{oplock_break, lease_break, oplock_notice, lease_notice, notice_form, notice_spelling}
use Rattle.xl_smb.specs.Calls.{CallItem, call_body, call_at, call_spelling, command_of_call, CallHas}
use Rattle.xl_smb.specs.Calls as call
use Rattle.xl_smb.specs.Replies.{ReplyItem, success_body, error, error_body, reply_spelling, has_reply, Answers, ReplyHas}
use Rattle.xl_smb.specs.Replies as reply
use Rattle.xl_smb.specs.Messages.{MessageItem, Call, Reply, Told, shown, IsOf, reply_body, reply_at, told_at, message_at, notice_head, head_by, body_by, spelling, Fits, IsReplyTo, HasSpelling}
use Rattle.xl_smb.specs.Lengths.{message_length}
use Rattle.xl_smb.specs.Faults.{call_form, success_form, form_of, contexts_lie, call_parts, success_parts, parts_lie, body_fault, fault_of}
use Rattle.xl_smb.specs.declared.breaks.Break.TheVariants as held
use Rattle.xl_smb.specs.declared.breaks.Notice.{Notice}
use Rattle.xl_smb.specs.declared.breaks.Notice.TheVariants as told
use Rattle.xl_smb.specs.declared.command.Command.{Command}
use Rattle.xl_smb.specs.declared.command.Command.TheVariants as command
use Rattle.xl_smb.specs.declared.fault.SmbBad.{SmbBad}
use Rattle.xl_smb.specs.declared.fault.SmbBad.TheVariants.{Short, Magic, Size, Offset}
use Rattle.xl_smb.specs.declared.head.SmbHead.{SmbHead}
use Rattle.xl_smb.specs.declared.message.SmbMessage.{SmbMessage}
use Rattle.xl_smb.proofs.HeadLaws.{head_again, head_length, mark_stands, notice_says}

-- ---- what is spelled is read again

-- behind the header, by the body for the size that is spelled
abbrev IsTold : {A : Type 0} → ℕ → (ℕ → Body A) → Spelling → A → Type 0
IsTold command b s a = IsRead 64 (Size command) Offset b s a

call_told : (n : ℕ) (c : CallItem) → IsTold n (λ size. call_body size (command_of_call c)) (call_spelling c) c
unfolding negotiate_call setup_call tree_call create_call close_call lock_call empty oplock_break lease_break
call_told n call.Other = λ _ _ _. refl
call_told n (call.OplockBreak (held.Oplock level id)) = (refl, (refl, refl, refl), λ _ _ read. rw read refl)
call_told n _ = (refl, (refl, refl, refl), λ _ _ read. rw read refl)

other_told : (n : ℕ) (c : Option Command) (size : ℕ) (frame body : List ℕ) → has_reply c ≡ false → body_at (success_body size c) n frame body ≡ Ok reply.Other
other_told n None size frame body none = refl
other_told n (Some command.Cancel) size frame body none = refl
other_told n (Some _) size frame body none = absurd cc

reply_told : (h : SmbHead) (r : ReplyItem) → IsReplyTo h r → IsTold h.command (λ size. reply_body size h) (reply_spelling r) r
unfolding negotiate_reply setup_reply tree_reply create_reply close_reply empty oplock_break lease_break error
reply_told h reply.Error is = rw is (refl, (refl, refl, refl), λ _ _ read. rw read refl)
reply_told h reply.Other is = rw (is.0) (λ size frame body. other_told h.command (command_of h.command) size frame body is.1)
reply_told h (reply.OplockBreak (held.Oplock level id)) is = rw (is.0, is.1) (refl, (refl, refl, refl), λ _ _ read. rw read refl)
reply_told h _ is = rw (is.0, is.1) (refl, (refl, refl, refl), λ _ _ read. rw read refl)

notice_told : (n : Notice) → IsTold 18 (λ size. reads Told (notice_form size)) (notice_spelling n) (Told n)
unfolding oplock_notice lease_notice
notice_told (told.Oplock level id) = (refl, (refl, refl, refl), λ _ _ read. rw read refl)
notice_told _ = (refl, (refl, refl, refl), λ _ _ read. rw read refl)

-- the header of a message says which form it has
form_by : (m : MessageItem) → HasSpelling m → HasForm (head_by m)
unfolding notice_head
form_by (Call h c) has = has.form
form_by (Reply h r) has = has.form
form_by (Told n) has = refl

opens : (m : MessageItem) → Fits m → HasSpelling m → message_at (spelling m) ≡ told_at (head_by m) (spelling m) (spelled (body_by m))
unfolding message_at head_of spelling
opens m fits has =
    let h = head_by m in
    let body = spelled (body_by m) in
    let long = head_length h fits.0 (form_by m has) in
    let whole : ltb (length (head h ++ body)) 64 ≡ false = le-ltb _ _ (omega (arith, long, length-append (head h) body)) in
    rw (whole, mark_stands h body, head_again h body fits.0 (form_by m has), drop_at (head h) body 64 long) refl

told_again : {A : Type 0} (m : MessageItem) (command : ℕ) (b : ℕ → Body A) (a : A) → Fits m → HasSpelling m → IsTold command b (body_by m) a → body_at (b (size_found (spelled (body_by m)))) command (spelling m) (spelled (body_by m)) ≡ Ok a
unfolding spelling
told_again m command b a fits has speaks = spelled_again (Size command) Offset b (body_by m) a (head (head_by m)) fits.1 (rw (head_length (head_by m) fits.0 (form_by m has)) speaks)

-- a request has no header of a notice
no_notice : (h : SmbHead) → is_reply h ≡ false → is_notice h ≡ false
no_notice h request =
    elim (cases_Bool (is_notice h)) [ inl is ↦ absurd (false≢true (sym request ∙ ap (λ (n : ℕ). is_set server_to_redir n) (notice_says h is).1)) | inr other ↦ other ]

pub message_again : (m : MessageItem) → Fits m → HasSpelling m → message_at (spelling m) ≡ Ok m
unfolding told_at reply_at call_at notice_head is_notice
message_again (Call h c) fits has =
    opens (Call h c) fits has ∙ rw (no_notice h has.request, has.request, has.command, told_again (Call h c) h.command (λ size. call_body size (command_of_call c)) c fits has (call_told h.command c)) refl
message_again (Reply h r) fits has =
    opens (Reply h r) fits has ∙ rw (has.no_notice, has.reply, told_again (Reply h r) h.command (λ size. reply_body size h) r fits has (reply_told h r has.command)) refl
message_again (Told n) fits has = opens (Told n) fits has ∙ told_again (Told n) 18 (λ size. reads Told (notice_form size)) (Told n) fits has (notice_told n)

-- ---- lengths

body_size : (m : MessageItem) → 64 + spelled_size (body_by m) ≡ message_length m
unfolding negotiate_call setup_call tree_call create_call close_call lock_call negotiate_reply setup_reply tree_reply create_reply close_reply empty error oplock_break lease_break oplock_notice lease_notice
body_size (Call h (call.Create c)) = omega (arith, padding_length (120 + length c.name) (length c.contexts))
body_size (Call h (call.OplockBreak (held.Oplock level id))) = refl
body_size (Call h _) = refl
body_size (Reply h (reply.OplockBreak (held.Oplock level id))) = refl
body_size (Reply h _) = refl
body_size (Told (told.Oplock level id)) = refl
body_size (Told _) = refl

pub message_has : (m : MessageItem) → Fits m → HasSpelling m → length (spelling m) ≡ message_length m
unfolding spelling
message_has m fits has = length-append (head (head_by m)) (spelled (body_by m)) ∙ rw (head_length (head_by m) fits.0 (form_by m has), spelled_length (body_by m) fits.1) (body_size m)

-- ---- what is read has a spelling

abbrev Asked : Option Command → CallItem → Type 0
Asked c x = (c ≡ command_of_call x) × CallHas x

-- and its form and its parts are those of the tables
call_listed : (size : ℕ) (c : Option Command) → AllTold (call_body size c) (Asked c) × IsListed (call_body size c) (call_form size c) (call_parts c)
unfolding negotiate_call setup_call tree_call create_call close_call lock_call empty oplock_break lease_break contexts_lie
call_listed size (Some command.Negotiate) = (λ b count long few _ _ _ _ _. (refl, (omega arith, omega arith)), (refl, λ _ _. refl))
call_listed size (Some command.SessionSetup) = (λ _ _ _ b short _ _. (refl, short), (refl, λ _ _. refl))
call_listed size (Some command.TreeConnect) = (λ _ b short _. (refl, short), (refl, λ _ _. refl))
call_listed size (Some command.Create) = (λ _ _ _ _ _ _ _ _ b short _ list few within. (refl, record { name = short; contexts = few; within = within }), (refl, λ _ _. refl))
call_listed size (Some command.Lock) = (λ b count long few _ _ _. (refl, (omega arith, omega arith)), (refl, λ _ _. refl))
call_listed size (Some command.Close) = (λ _ _ _ _. (refl, tt), (refl, λ _ _. refl))
call_listed size (Some command.OplockBreak) = elim (cases_Bool (eqb size 36)) [ inl is ↦ rw is (λ _ _ _ _ _. (refl, tt), (refl, λ _ _. refl)) | inr is ↦ rw is (λ _ _ _ _. (refl, tt), (refl, λ _ _. refl)) ]
call_listed size None = ((refl, tt), (refl, λ _ _. refl))
call_listed size (Some _) = (λ _. (refl, tt), (refl, λ _ _. refl))

success_listed : (size : ℕ) (c : Option Command) → AllTold (success_body size c) (λ r. Answers c r × ReplyHas r) × IsListed (success_body size c) (success_form size c) (success_parts c)
unfolding negotiate_reply setup_reply tree_reply create_reply close_reply empty oplock_break lease_break contexts_lie
success_listed size (Some command.Negotiate) = (λ _ _ _ _ _ _ _ _ _ _ b short _ _. (refl, short), (refl, λ _ _. refl))
success_listed size (Some command.SessionSetup) = (λ _ b short _. (refl, short), (refl, λ _ _. refl))
success_listed size (Some command.TreeConnect) = (λ _ _ _ _ _. (refl, tt), (refl, λ _ _. refl))
success_listed size (Some command.Create) = (λ _ _ _ _ _ _ _ _ _ _ _ _ _ list few within. (refl, record { contexts = few; within = within }), (refl, λ _ _. refl))
success_listed size (Some command.Close) = (λ _ _ _ _ _ _ _ _ _. (refl, tt), (refl, λ _ _. refl))
success_listed size (Some command.OplockBreak) = elim (cases_Bool (eqb size 36)) [ inl is ↦ rw is (λ _ _ _ _ _. (refl, tt), (refl, λ _ _. refl)) | inr is ↦ rw is (λ _ _ _ _. (refl, tt), (refl, λ _ _. refl)) ]
success_listed size (Some command.Cancel) = ((refl, tt), (refl, λ _ _. refl))
success_listed size None = ((refl, tt), (refl, λ _ _. refl))
success_listed size (Some _) = (λ _. (refl, tt), (refl, λ _ _. refl))

answered : (h : SmbHead) (r : ReplyItem) → h.status ≡ 0 → Answers (command_of h.command) r → IsReplyTo h r
answered h reply.Error status is = absurd is
answered h _ status is = (status, is)

reply_has : (h : SmbHead) (frame body : List ℕ) (r : ReplyItem) → IsBytes body → reply_at h frame body ≡ Ok r → IsReplyTo h r × ReplyHas r
unfolding reply_at error
reply_has h frame body r is e =
    elim (cases_Bool (eqb h.status 0)) [
      | inl success ↦ let c = command_of h.command in
          let has = body_found (Size h.command) Offset (success_body (size_found body) c) (λ r. Answers c r × ReplyHas r) frame body r is (success_listed (size_found body) c).0 (rw success at e) in
          (answered h r (eqb-true _ _ success) has.0, has.1)
      | inr failure ↦ body_found (Size h.command) Offset error_body (λ r. IsReplyTo h r × ReplyHas r) frame body r is (λ _. (failure, tt)) (rw failure at e)
    ]

told_has : (h : SmbHead) (frame body : List ℕ) (m : MessageItem) → IsBytes body → HasForm h → told_at h frame body ≡ Ok m → IsOf h m × HasSpelling m
unfolding told_at call_at
told_has h frame body m is form e =
    elim (cases_Bool (is_notice h)) [
      | inl told ↦ let n = seen_ok (form_at (notice_form (size_found body)) 18 frame body) Told m (rw told at e) in subst (λ (x : MessageItem). IsOf h x × HasSpelling x) n.2 (told, tt)
      | inr untold ↦ elim (cases_Bool (is_reply h)) [
        | inl answer ↦ let r = seen_ok _ _ m (rw (untold, answer) at e) in
            let has = reply_has h frame body r.0 is r.1 in
            subst (λ (x : MessageItem). IsOf h x × HasSpelling x) r.2 (refl, record { reply = answer; form = form; no_notice = untold; command = has.0; has = has.1 })
        | inr request ↦ let c = seen_ok _ _ m (rw (untold, request) at e) in
            let has = body_found (Size h.command) Offset _ (Asked (command_of h.command)) frame body c.0 is (call_listed (size_found body) (command_of h.command)).0 c.1 in
            subst (λ (x : MessageItem). IsOf h x × HasSpelling x) c.2 (refl, record { request = request; form = form; command = has.0; has = has.1 })
      ]
    ]

form_stands : (frame : List ℕ) → HasForm (head_at frame)
unfolding head_at head_fields
form_stands frame = elim (cases_Bool (is_set 2 (u32_at 16 frame))) [ inl set ↦ rw set refl | inr clear ↦ rw clear refl ]

message_stands : (frame : List ℕ) (m : MessageItem) → IsBytes frame → message_at frame ≡ Ok m → IsOf (head_at frame) m × HasSpelling m
unfolding message_at head_of
message_stands frame m is e = by (ltb (length frame) 64) (has_mark frame) e where
  by : (short marked : Bool) → ((if short then Err Short else if marked then Ok (head_at frame) else Err Magic) >>= λ h. told_at h frame (drop 64 frame)) ≡ Ok m → IsOf (head_at frame) m × HasSpelling m
  by false true e = told_has (head_at frame) frame (drop 64 frame) m (IsBytes-drop 64 frame is) (form_stands frame) e
  by false false e = absurd cc
  by true marked e = absurd cc

-- ---- which fault is met

notice_listed : (size : ℕ) → IsListed (reads Told (notice_form size)) (Some (cond (eqb size 44) (44, 44) (24, 24))) (λ _ _. [])
unfolding oplock_notice lease_notice
notice_listed size = elim (cases_Bool (eqb size 44)) [ inl is ↦ rw is (refl, λ _ _. refl) | inr is ↦ rw is (refl, λ _ _. refl) ]

told_fault : (h : SmbHead) (frame body : List ℕ) → result_err (told_at h frame body) ≡ body_fault h frame body
unfolding told_at reply_at call_at error form_of parts_lie body_fault
told_fault h frame body =
    let size = size_found body in
    let c = command_of h.command in
    elim (cases_Bool (is_notice h)) [
      | inl told ↦ rw (told, (notice_says h told).0) (listed_fault (Size 18) Offset (reads Told (notice_form size)) _ (λ _ _. []) frame body (notice_listed size))
      | inr untold ↦ rw untold (elim (cases_Bool (is_reply h)) [
        | inl answer ↦ rw answer (seen_err _ _ ∙ elim (cases_Bool (eqb h.status 0)) [
          | inl success ↦ rw success (listed_fault (Size h.command) Offset (success_body size c) _ (success_parts c) frame body (success_listed size c).1)
          | inr failure ↦ rw failure (listed_fault (Size h.command) Offset error_body (Some (9, 8)) (λ _ _. []) frame body (refl, λ _ _. refl))
        ])
        | inr request ↦ rw request (seen_err _ _ ∙ listed_fault (Size h.command) Offset (call_body size c) _ (call_parts c) frame body (call_listed size c).1)
      ])
    ]

-- The fault that reading gives is the first that the bytes show; there is a message just where they show none.
message_err : (frame : List ℕ) → result_err (message_at frame) ≡ fault_of frame
unfolding message_at head_of fault_of
message_err frame = by (ltb (length frame) 64) (has_mark frame) where
  by : (short marked : Bool) → result_err ((if short then Err Short else if marked then Ok (head_at frame) else Err Magic) >>= λ h. told_at h frame (drop 64 frame)) ≡ (if short then Some Short else if marked then body_fault (head_at frame) frame (drop 64 frame) else Some Magic)
  by false true = told_fault (head_at frame) frame (drop 64 frame)
  by false false = refl
  by true marked = refl

-- ---- the clauses of a reader, from the one that it gives what its definition gives

pub message_found : (frame : List ℕ) (r : Result SmbMessage SmbBad) → ((i : ℕ) → FitsWidth w8 (get_or frame i 0)) → Gives shown r (message_at frame) → IfOk r (λ message. IsOf (head_at frame) (shown message) × HasSpelling (shown message))
message_found frame (Ok message) is exact = message_stands frame (shown message) (λ i. omega (arith, is i)) exact
message_found frame (Err e) is exact = tt

pub message_fault : (frame : List ℕ) (r : Result SmbMessage SmbBad) → Gives shown r (message_at frame) → result_err r ≡ fault_of frame
message_fault frame (Ok message) exact = ap result_err (sym exact) ∙ message_err frame
message_fault frame (Err e) exact = ap result_err (sym exact) ∙ message_err frame

pub message_only : (frame : List ℕ) (r : Result SmbMessage SmbBad) → Gives shown r (message_at frame) → (m : MessageItem) → Fits m → HasSpelling m → frame ≡ spelling m → Gives shown r (Ok m)
message_only frame r exact m fits has is = subst (Gives shown r) (ap message_at is ∙ message_again m fits has) exact

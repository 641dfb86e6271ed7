-- Replies have a spelling, and fit a frame.
use Rattle.std.proofs.Common.{◌≡◌, ℕ, ◌+◌, ◌-◌, ◌≤◌, Bool, true, false, ◌&&◌, List, length, Some, None, refl, sym, ap, subst, ◌∙◌, arith}
use Rattle.std.specs.Prelude.{◌==◌, ◌^◌, nat_lt, if◌then◌else◌, Result, Ok, Err, is_ok}
use Rattle.std.proofs.lemmas.Bool.{false≢true}
use Rattle.std.proofs.lemmas.Bool.Decides.{nat_tests}
use Rattle.xl_base.specs.Limits.{most_message_bytes}
use Rattle.xl_smb.specs.Calls.{CallItem, command_of_call}
use Rattle.xl_smb.specs.Leases.{are_contexts}
use Rattle.xl_smb.specs.Heads.{command_of, has_mark, head_at, head_of, is_notice}
use Rattle.xl_smb.specs.Lengths.{reply_length}
use Rattle.xl_smb.specs.Messages.{CallStands, ReplyStands}
use Rattle.xl_smb.specs.Replies.{ReplyItem}
use Rattle.xl_smb.specs.declared.fault.SmbBad.{SmbBad}
use Rattle.xl_smb.specs.declared.fault.SmbBad.TheVariants.{Short, Magic}
use Rattle.xl_smb.specs.declared.head.SmbHead.{SmbHead}
use Rattle.xl_front_smb.specs.Replies.{credits_for, tree_id, reply_head, pending_head, head_by, contexts_of, body_of, IsAnswer}
use Rattle.xl_smb_locks.specs.Statuses.{status_number}
use Rattle.xl_smb_locks.proofs.FinalLaws.{fails}
use Rattle.xl_front_smb.specs.declared.told.Told.{Told}
use Rattle.xl_front_smb.specs.declared.told.Told.TheVariants as told

same_Some : {X : Type 0} {x y : X} → Some x ≡ Some y → x ≡ y
same_Some h = cc

none_some : {X : Type 0} {x : X} → None ≡ Some x → ⊥
none_some h = cc

-- ---- credits are granted, so no reply has a notice's header

granted : (asked : ℕ) → (credits_for asked == 0) ≡ false
unfolding credits_for
granted asked = grind (arith, nat_tests)

one_fails : (a b c d e f g : Bool) → d ≡ false → (a && b && c && d && e && f && g) ≡ false
one_fails a b c d e f g h = rw h (grind (arith, nat_tests))

no_notice : (h : SmbHead) (status tree session : ℕ) → is_notice (reply_head h status tree session) ≡ false
unfolding is_notice reply_head
no_notice h status tree session = one_fails (status == 0) (h.command == 18) true (credits_for h.credits == 0) (h.message_id == 2 ^ 64 - 1) (session == 0) (tree == 0) (granted h.credits)

-- ---- a reply stands behind its header

no_pending : (h : SmbHead) (id : ℕ) → is_notice (pending_head h id) ≡ false
unfolding is_notice pending_head
no_pending h id = refl

stands : (h : SmbHead) (t : Told) (body : ReplyItem) → body_of t ≡ Some body → IsAnswer (command_of h.command) t → length (contexts_of t) ≤ 56 → are_contexts (contexts_of t) ≡ true → ReplyStands (head_by h t) body
unfolding reply_head pending_head
stands h told.Nothing body e answer few within = absurd (none_some e)
stands h (told.Failed s) body e answer few within = subst (λ b. ReplyStands (reply_head h (status_number s) (tree_id h.route) h.session_id) b) (same_Some e) (record { reply = refl; form = refl; no_notice = no_notice h (status_number s) (tree_id h.route) h.session_id; command = fails s; has = tt })
stands h told.Negotiated body e answer few within = subst (λ b. ReplyStands (reply_head h 0 (tree_id h.route) h.session_id) b) (same_Some e) (record { reply = refl; form = refl; no_notice = no_notice h 0 (tree_id h.route) h.session_id; command = (refl, answer); has = omega arith })
stands h (told.SetUp session) body e answer few within = subst (λ b. ReplyStands (reply_head h 0 (tree_id h.route) session) b) (same_Some e) (record { reply = refl; form = refl; no_notice = no_notice h 0 (tree_id h.route) session; command = (refl, answer); has = omega arith })
stands h told.LoggedOff body e answer few within = subst (λ b. ReplyStands (reply_head h 0 (tree_id h.route) h.session_id) b) (same_Some e) (record { reply = refl; form = refl; no_notice = no_notice h 0 (tree_id h.route) h.session_id; command = (refl, answer); has = tt })
stands h (told.Connected tree) body e answer few within = subst (λ b. ReplyStands (reply_head h 0 tree h.session_id) b) (same_Some e) (record { reply = refl; form = refl; no_notice = no_notice h 0 tree h.session_id; command = (refl, answer); has = tt })
stands h told.Disconnected body e answer few within = subst (λ b. ReplyStands (reply_head h 0 (tree_id h.route) h.session_id) b) (same_Some e) (record { reply = refl; form = refl; no_notice = no_notice h 0 (tree_id h.route) h.session_id; command = (refl, answer); has = tt })
stands h (told.Opened id cache) body e answer few within = subst (λ b. ReplyStands (reply_head h 0 (tree_id h.route) h.session_id) b) (same_Some e) (record { reply = refl; form = refl; no_notice = no_notice h 0 (tree_id h.route) h.session_id; command = (refl, answer); has = record { contexts = omega (arith, few); within = within } })
stands h told.Closed body e answer few within = subst (λ b. ReplyStands (reply_head h 0 (tree_id h.route) h.session_id) b) (same_Some e) (record { reply = refl; form = refl; no_notice = no_notice h 0 (tree_id h.route) h.session_id; command = (refl, answer); has = tt })
stands h (told.Acknowledged id level) body e answer few within = subst (λ b. ReplyStands (reply_head h 0 (tree_id h.route) h.session_id) b) (same_Some e) (record { reply = refl; form = refl; no_notice = no_notice h 0 (tree_id h.route) h.session_id; command = (refl, answer); has = tt })
stands h (told.Answered lease) body e answer few within = subst (λ b. ReplyStands (reply_head h 0 (tree_id h.route) h.session_id) b) (same_Some e) (record { reply = refl; form = refl; no_notice = no_notice h 0 (tree_id h.route) h.session_id; command = (refl, answer); has = tt })
stands h told.Locked body e answer few within = subst (λ b. ReplyStands (reply_head h 0 (tree_id h.route) h.session_id) b) (same_Some e) (record { reply = refl; form = refl; no_notice = no_notice h 0 (tree_id h.route) h.session_id; command = (refl, answer); has = tt })
stands h (told.Pending id) body e answer few within = subst (λ b. ReplyStands (pending_head h id) b) (same_Some e) (record { reply = refl; form = refl; no_notice = no_pending h id; command = refl; has = tt })
stands h told.Echoed body e answer few within = subst (λ b. ReplyStands (reply_head h 0 (tree_id h.route) h.session_id) b) (same_Some e) (record { reply = refl; form = refl; no_notice = no_notice h 0 (tree_id h.route) h.session_id; command = (refl, answer); has = tt })

-- the header and the body as the code has them, with these contexts
pub reply_stands : (h head : SmbHead) (t : Told) (list : List ℕ) (body : ReplyItem) → head ≡ head_by h t → Some body ≡ body_of t → IsAnswer (command_of h.command) t → list ≡ contexts_of t → length list ≤ 56 → are_contexts list ≡ true → ReplyStands head body
reply_stands h head t list body is e answer by few within =
    subst (λ x. ReplyStands x body) (sym is) (stands h t body (sym e) answer (subst (λ (xs : List ℕ). length xs ≤ 56) by few) (ap are_contexts (sym by) ∙ within))

little : (t : Told) (body : ReplyItem) → body_of t ≡ Some body → length (contexts_of t) ≤ 56 → 64 + reply_length body ≤ most_message_bytes
little told.Nothing body e few = absurd (none_some e)
little (told.Failed s) body e few = subst (λ b. 64 + reply_length b ≤ most_message_bytes) (same_Some e) (omega arith)
little told.Negotiated body e few = subst (λ b. 64 + reply_length b ≤ most_message_bytes) (same_Some e) (omega arith)
little (told.SetUp session) body e few = subst (λ b. 64 + reply_length b ≤ most_message_bytes) (same_Some e) (omega arith)
little told.LoggedOff body e few = subst (λ b. 64 + reply_length b ≤ most_message_bytes) (same_Some e) (omega arith)
little (told.Connected tree) body e few = subst (λ b. 64 + reply_length b ≤ most_message_bytes) (same_Some e) (omega arith)
little told.Disconnected body e few = subst (λ b. 64 + reply_length b ≤ most_message_bytes) (same_Some e) (omega arith)
little (told.Opened id cache) body e few = subst (λ b. 64 + reply_length b ≤ most_message_bytes) (same_Some e) (omega (arith, few))
little told.Closed body e few = subst (λ b. 64 + reply_length b ≤ most_message_bytes) (same_Some e) (omega arith)
little (told.Acknowledged id level) body e few = subst (λ b. 64 + reply_length b ≤ most_message_bytes) (same_Some e) (omega arith)
little (told.Answered lease) body e few = subst (λ b. 64 + reply_length b ≤ most_message_bytes) (same_Some e) (omega arith)
little told.Locked body e few = subst (λ b. 64 + reply_length b ≤ most_message_bytes) (same_Some e) (omega arith)
little (told.Pending id) body e few = subst (λ b. 64 + reply_length b ≤ most_message_bytes) (same_Some e) (omega arith)
little told.Echoed body e few = subst (λ b. 64 + reply_length b ≤ most_message_bytes) (same_Some e) (omega arith)

pub reply_little : (t : Told) (list : List ℕ) (body : ReplyItem) → Some body ≡ body_of t → list ≡ contexts_of t → length list ≤ 56 → 64 + reply_length body ≤ most_message_bytes
reply_little t list body e by few = little t body (sym e) (subst (λ (xs : List ℕ). length xs ≤ 56) by few)

-- ---- the header of a message is that of its frame

abbrev the_head : SmbHead → Result SmbHead SmbBad → SmbHead
the_head h (Ok read) = read
the_head h (Err fault) = h

head_from : (short : Bool) (marked : Bool) (frame : List ℕ) (h : SmbHead) → (if short then Err Short else if marked then Ok (head_at frame) else Err Magic) ≡ Ok h → head_at frame ≡ h
head_from true marked frame h e = absurd (false≢true (ap (λ (r : Result SmbHead SmbBad). is_ok r) e))
head_from false true frame h e = ap (the_head h) e
head_from false false frame h e = absurd (false≢true (ap (λ (r : Result SmbHead SmbBad). is_ok r) e))

head_is : (frame : List ℕ) (h : SmbHead) → head_of frame ≡ Ok h → head_at frame ≡ h
unfolding head_of
head_is frame h e = head_from (nat_lt (length frame) 64) (has_mark frame) frame h e

pub answers_head : (frame : List ℕ) (h of : SmbHead) (call : CallItem) (t : Told) → head_of frame ≡ Ok h → of ≡ head_at frame → CallStands of call → IsAnswer (command_of_call call) t → IsAnswer (command_of h.command) t
answers_head frame h of call t e is stands answer =
    let same : of ≡ h = is ∙ head_is frame h e in
    subst (λ c. IsAnswer c t) (sym stands.command ∙ ap (λ (x : SmbHead). command_of x.command) same) answer

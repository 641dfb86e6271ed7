-- A message is sent the final replies to those whom it cancels, its own reply, and nothing besides.
use Rattle.std.proofs.Common.{◌≡◌, ℕ, Bool, true, false, List, [], ◌∷◌, ◌++◌, Option, Some, None, refl, sym, ap, subst, ◌∙◌, inl, inr}
use Rattle.std.specs.Prelude.{◌==◌, ◌⊎◌, if◌then◌else◌}
use Rattle.std.specs.Map.{keys_of}
use Rattle.xl_base.proofs.Members.{in_append_left}
use Rattle.xl_base.specs.Lists.{IsIn}
use Rattle.xl_base.specs.declared.journal.Exports.{Exports}
use Rattle.xl_smb.specs.Heads.{head_of}
use Rattle.xl_smb.specs.declared.head.SmbHead.{SmbHead}
use Rattle.xl_smb_state.proofs.LeaseLaws.{with_keeps}
use Rattle.xl_smb_state.specs.State.{Lists, waiting_added, waiting_dropped, waiting_of, with_open}
use Rattle.xl_smb_state.specs.declared.row.Waiting.{Waiting}
use Rattle.xl_core.specs.Deeds.{all_done, all_told_of, answers_of}
use Rattle.xl_core.specs.Decide.{ask}
use Rattle.xl_core.specs.State.{CoreState, drawn}
use Rattle.xl_core.specs.declared.ask.Effect.{Effect}
use Rattle.xl_wait.specs.Waiting.{no_rows}
use Rattle.xl_smb_locks.specs.Finals.{and_sent, dismissed, ended_with, final_reply, is_cancelled, request_ended}
use Rattle.xl_smb_locks.specs.declared.finals.FinalReply.TheVariants.{Failed}
use Rattle.xl_smb_locks.specs.Locks.{lock_told}
use Rattle.xl_smb_locks.specs.Statuses.{comes_to}
use Rattle.xl_smb_locks.specs.declared.locking.Locking.{Locking}
use Rattle.xl_smb_locks.specs.declared.locking.Locking.TheVariants as locking
use Rattle.xl_smb_locks.specs.declared.status.SmbStatus.TheVariants.{Cancelled, SharingViolation}
use Rattle.xl_front_smb.specs.FrontSmb.{deeds_for, finals_for, head_heard, plan_for, reply_for, sent_by, smb_deeds, smb_replies, smb_reply}
use Rattle.xl_front_smb.specs.Plans.{Plan, Fails, Does, Opens, Locks, answered_by, deeds_of, has_room_to_wait, lists_by}
use Rattle.xl_front_smb.specs.Replies.{reply_of}
use Rattle.xl_front_smb.specs.State.{FrontSmb}
use Rattle.xl_front_smb.specs.declared.told.Told.{Told}
use Rattle.xl_front_smb.specs.declared.told.Told.TheVariants as said
use Rattle.xl_smb_laws.specs.Heard.{AreFinals, IfSo, IsFinalThen, IsHeard, IsHeardBy, IsOneTo, IsOwnReply}
use Rattle.xl_smb_laws.specs.ReplyHeads.{IsReplyOf}
use Rattle.xl_smb_laws.proofs.AwaitedRequestLaws.{Sorts, requested_sorts}
use Rattle.xl_smb_laws.proofs.ReplyHeadLaws.{cancel_silent, final_carries, reply_carries, silent_nothing}

-- ---- final replies

final_row : (told : List Effect) (ids : List ℕ) (id : ℕ) (l : Lists) → ((m : Lists) → AreFinals told ids m (dismissed told ids m).0) → (o : Option Waiting) → IsFinalThen (AreFinals told ids) id o l (and_sent (ended_with id Cancelled o l) (dismissed told ids)).0
final_row told ids id l rest None = rest l
final_row told ids id l rest (Some row) = ((ended_with id Cancelled (Some row) l).0, (dismissed told ids (waiting_dropped id l)).0, refl, (final_reply id row (Failed Cancelled), final_carries id row (Failed Cancelled), refl), rest (waiting_dropped id l))

final_by : (told : List Effect) (ids : List ℕ) (id : ℕ) (l : Lists) → ((m : Lists) → AreFinals told ids m (dismissed told ids m).0) → (b : Bool)
    → (let outs = (if b then and_sent (request_ended id Cancelled l) (dismissed told ids) else dismissed told ids l).0 in IfSo b (IsFinalThen (AreFinals told ids) id (waiting_of id l) l outs) (AreFinals told ids l outs))
unfolding request_ended
final_by told ids id l rest true = final_row told ids id l rest (waiting_of id l)
final_by told ids id l rest false = rest l

finals_are : (told : List Effect) (ids : List ℕ) (l : Lists) → AreFinals told ids l (dismissed told ids l).0
finals_are told [] l = refl
finals_are told (id ∷ ids) l = final_by told ids id l (λ m. finals_are told ids m) (is_cancelled id told)

-- ---- its own reply

own_replied : (conn : ℕ) (h : SmbHead) (answer : Told) → IsOwnReply conn h answer (sent_by conn (reply_of h answer))
own_replied conn h answer = by (h.command == 12) refl (reply_of h answer) refl
  where
    by : (b : Bool) → (h.command == 12) ≡ b → (o : Option (List ℕ)) → reply_of h answer ≡ o → IfSo b (sent_by conn o ≡ []) (((answer ≡ said.Nothing) × (sent_by conn o ≡ [])) ⊎ IsOneTo conn (IsReplyOf h answer) (sent_by conn o))
    by true is o e = ap (λ (x : Option (List ℕ)). sent_by conn x) (sym e ∙ cancel_silent h answer is)
    by false other None e = inl (silent_nothing h answer other e, refl)
    by false other (Some bytes) e = inr (bytes, reply_carries h answer bytes e, refl)

-- ---- who waited goes on to wait until it is answered

lists_keep : (e : ℕ × Waiting) (after : Lists) (row : Waiting) (l : Lists) (r : Locking) → after.waiting ≡ l.waiting → IsIn e l.waiting → IsIn e (lists_by after row l r).waiting
lists_keep e after row l locking.Done same here = subst (λ (es : List (ℕ × Waiting)). IsIn e es) (sym same) here
lists_keep e after row l (locking.Failed status) same here = here
lists_keep e after row l (locking.Waits id) same here = by (has_room_to_wait l id)
  where
    by : (b : Bool) → IsIn e (if b then waiting_added id row l else l).waiting
    by true = in_append_left e l.waiting ((id, row) ∷ []) here
    by false = here

plan_keeps : (n : ℕ) (s : CoreState) (l : Lists) (plan : Plan) (e : ℕ × Waiting) → Sorts s l plan → IsIn e l.waiting → IsIn e (answered_by (all_done n s (deeds_of n s l plan)) l plan (answers_of n s (deeds_of n s l plan))).1.waiting
plan_keeps n s l (Fails status) e sorts here = here
plan_keeps n s l (Does ds lists told) e sorts here = subst (λ (es : List (ℕ × Waiting)). IsIn e es) (sym sorts.0) here
plan_keeps n s l (Opens left a number row id waiting) e sorts here = lists_keep e (with_open number row l) waiting l (comes_to SharingViolation (ask n left (drawn s) a).0) (ap (λ (m : Lists). m.waiting) (with_keeps number row l)) here
plan_keeps n s l (Locks a row) e sorts here = lists_keep e l row l (lock_told (ask n no_rows s a).0) refl here

-- ---- a message

heard_by : (n : ℕ) (exports : Exports) (others : ℕ) (f : FrontSmb) (s : CoreState) (conn : ℕ) (bytes : List ℕ) (h : Option SmbHead)
    → (let ds = deeds_for n exports others f s conn bytes h in
    IsHeardBy exports others f s conn bytes (answers_of n s ds) (all_told_of n s ds) (all_done n s ds) h
    (finals_for exports others f s conn bytes (answers_of n s ds) (all_told_of n s ds) (all_done n s ds) h ++ sent_by conn (reply_for exports others f s conn bytes (answers_of n s ds) (all_done n s ds) h)))
heard_by n exports others f s conn bytes None = refl
heard_by n exports others f s conn bytes (Some h) =
    let plan = plan_for exports others f s conn bytes h in
    let ds = deeds_of n s f.state plan in
    let told = all_told_of n s ds in
    let r = answered_by (all_done n s ds) f.state plan (answers_of n s ds) in (
      r.0,
      r.1,
      (dismissed told (keys_of r.1.waiting) r.1).0,
      sent_by conn (reply_of h r.0),
      refl,
      λ e here. plan_keeps n s f.state plan e (requested_sorts s exports.files others f.state conn bytes h) here,
      refl,
      finals_are told (keys_of r.1.waiting) r.1,
      own_replied conn h r.0,
    )

pub message_heard : (n : ℕ) (exports : Exports) (others : ℕ) (f : FrontSmb) (s : CoreState) (conn : ℕ) (bytes : List ℕ)
    → (let ds = smb_deeds n exports others f s conn bytes in IsHeard exports others f s conn bytes (answers_of n s ds) (all_told_of n s ds) (all_done n s ds) (smb_replies exports others f s conn bytes (answers_of n s ds) (all_told_of n s ds) (all_done n s ds)))
unfolding smb_deeds smb_replies smb_reply
message_heard n exports others f s conn bytes = heard_by n exports others f s conn bytes (head_heard (head_of bytes))

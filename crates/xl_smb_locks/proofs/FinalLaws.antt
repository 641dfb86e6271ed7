-- Final replies have a spelling and fit a frame, and are sent one after the other.
use Rattle.std.proofs.Common.{◌≡◌, ℕ, ◌+◌, ◌<◌, ◌≤◌, Bool, true, false, not, ◌&&◌, List, [], ◌∷◌, ◌++◌, length, Option, Some, None, is_some, refl, sym, ap, subst, ◌∙◌, arith, append_assoc, drop, get_or}
use Rattle.std.specs.Prelude.{◌==◌, ◌-◌, ◌^◌, nat_lt, IsTrue}
use Rattle.std.specs.List.{AllByRecursion}
use Rattle.std.proofs.lemmas.Bool.{false≢true, true≢false, ltb-true}
use Rattle.std.proofs.lemmas.List.{drop_more}
use Rattle.xl_base.specs.Limits.{most_message_bytes}
use Rattle.xl_base.specs.declared.event.Out.{Out}
use Rattle.xl_base.proofs.Members.{all_append}
use Rattle.xl_programs.specs.Sent.{FitsFrame}
use Rattle.xl_smb.specs.Heads.{is_notice}
use Rattle.xl_smb.specs.Messages.{ReplyStands}
use Rattle.xl_smb.specs.Lengths.{reply_length}
use Rattle.xl_smb.specs.Replies.{ReplyItem}
use Rattle.xl_smb.specs.declared.head.SmbHead.{SmbHead}
use Rattle.xl_smb_state.specs.Links.{IsHolderLinked, IsOpenLinked, most_opens}
use Rattle.xl_smb_state.specs.State.{Lists, open_of}
use Rattle.xl_smb_state.specs.declared.row.Header.{Header}
use Rattle.xl_smb_state.specs.declared.row.Open.{Open}
use Rattle.xl_smb_state.specs.declared.row.Request.{Request}
use Rattle.xl_smb_state.specs.declared.row.Request.TheVariants as request
use Rattle.xl_core.specs.declared.ask.Effect.{Effect}
use Rattle.xl_smb_locks.specs.Finals.{final_head, command_by, final_status, final_contexts, final_body, FitsRequest, holder_stands, may_stand, request_ended, is_cancelled, dismissed}
use Rattle.xl_smb.specs.Leases.{are_contexts}
use Rattle.xl_smb_locks.specs.declared.finals.FinalReply.{FinalReply}
use Rattle.xl_smb_locks.specs.declared.finals.FinalReply.TheVariants as said
use Rattle.xl_smb_locks.specs.Statuses.{status_number}
use Rattle.xl_smb_locks.specs.declared.status.SmbStatus.{SmbStatus}
use Rattle.xl_smb_locks.specs.declared.status.SmbStatus.TheVariants.{Cancelled}
use Rattle.xl_smb_locks.specs.declared.status.SmbStatus.TheVariants as status

-- ---- a final reply

-- no status of a failure is 0
pub fails : (s : SmbStatus) → (status_number s == 0) ≡ false
fails status.Unsuccessful = refl
fails status.InvalidParameter = refl
fails status.ObjectNameNotFound = refl
fails status.ObjectNameCollision = refl
fails status.SharingViolation = refl
fails status.LockNotGranted = refl
fails status.RangeNotLocked = refl
fails status.InsufficientResources = refl
fails status.NotSupported = refl
fails status.NetworkNameDeleted = refl
fails status.BadNetworkName = refl
fails status.RequestNotAccepted = refl
fails status.InvalidOplockProtocol = refl
fails status.Cancelled = refl
fails status.FileClosed = refl
fails status.InvalidDeviceState = refl
fails status.InvalidLockRange = refl
fails status.UserSessionDeleted = refl

third_fails : (a b c d e f : Bool) → (a && b && false && c && d && e && f) ≡ false
third_fails true true c d e f = refl
third_fails true false c d e f = refl
third_fails false b c d e f = refl

no_notice : (id command : ℕ) (h : Header) (status : ℕ) → is_notice (final_head id command h status) ≡ false
unfolding is_notice final_head
no_notice id command h status = third_fails (status == 0) (command == 18) true (h.message_id == 2 ^ 64 - 1) (h.session_id == 0) _

stands : (id : ℕ) (r : Request) (h : Header) (said : FinalReply) → FitsRequest said r → length (final_contexts said) ≤ 56 → are_contexts (final_contexts said) ≡ true → ReplyStands (final_head id (command_by r) h (final_status said)) (final_body said)
unfolding final_head
stands id r h (said.Failed status) fits few within = record { reply = refl; form = refl; no_notice = no_notice id (command_by r) h (status_number status); command = fails status; has = tt }
stands id request.Lock h said.Locked fits few within = record { reply = refl; form = refl; no_notice = no_notice id 10 h 0; command = (refl, refl); has = tt }
stands id (request.Create made) h said.Locked fits few within = absurd fits
stands id (request.Create made) h (said.Opened handle told) fits few within = record { reply = refl; form = refl; no_notice = no_notice id 5 h 0; command = (refl, refl); has = record { contexts = omega (arith, few); within = within } }
stands id request.Lock h (said.Opened handle told) fits few within = absurd fits

-- the header and the body as the code has them, with these contexts
pub final_stands : (id command status : ℕ) (r : Request) (h : Header) (head : SmbHead) (said : FinalReply) (list : List ℕ) (body : ReplyItem) → head ≡ final_head id command h status → command ≡ command_by r → status ≡ final_status said → body ≡ final_body said → FitsRequest said r → list ≡ final_contexts said → length list ≤ 56 → are_contexts list ≡ true → ReplyStands head body
final_stands id command status r h head said list body is same ends shown fits by few within =
    let head_is : head ≡ final_head id (command_by r) h (final_status said) = is ∙ (λ i. final_head id (same i) h (ends i)) in
    subst (λ x. ReplyStands x body) (sym head_is) (subst (λ x. ReplyStands (final_head id (command_by r) h (final_status said)) x) (sym shown) (stands id r h said fits (subst (λ (xs : List ℕ). length xs ≤ 56) by few) (ap are_contexts (sym by) ∙ within)))

little : (said : FinalReply) → length (final_contexts said) ≤ 56 → 64 + reply_length (final_body said) ≤ most_message_bytes
little (said.Failed status) few = omega arith
little said.Locked few = omega arith
little (said.Opened handle told) few = omega (arith, few)

-- it is short
pub final_little : (said : FinalReply) (list : List ℕ) (body : ReplyItem) → body ≡ final_body said → list ≡ final_contexts said → length list ≤ 56 → 64 + reply_length body ≤ most_message_bytes
final_little said list body shown by few = subst (λ x. 64 + reply_length x ≤ most_message_bytes) (sym shown) (little said (subst (λ (xs : List ℕ). length xs ≤ 56) by few))

-- ---- where an open may stand

stands_by : (a b c : Bool) → (a && (not b && c)) ≡ true → (a ≡ true) × (b ≡ false) × (c ≡ true)
stands_by true false true h = (refl, refl, refl)
stands_by true false false h = absurd (false≢true h)
stands_by true true c h = absurd (false≢true h)
stands_by false b c h = absurd (false≢true h)

none_of : {X : Type 0} (o : Option X) → is_some o ≡ false → o ≡ None
none_of None h = refl
none_of (Some x) h = absurd (true≢false h)

pub stand_linked : (l : Lists) (made : Open) (room new stands all : Bool) → all ≡ (room && (new && stands)) → (IsTrue stands → IsHolderLinked l made.client made.holder) → IsTrue all → IsOpenLinked l made
stand_linked l made room new stands all is linked h = linked (by room new stands (sym is ∙ h)) where
  by : (room new stands : Bool) → (room && (new && stands)) ≡ true → stands ≡ true
  by true true stands h = h
  by true false stands h = absurd (false≢true h)
  by false new stands h = absurd (false≢true h)

pub stand_room : (number : ℕ) (made : Open) (l : Lists) → may_stand number made l ≡ true → length l.opens < most_opens
stand_room number made l h = ltb-true (length l.opens) most_opens (stands_by (nat_lt (length l.opens) most_opens) (is_some (open_of number l)) (holder_stands made.holder made.client l) h).0

pub stand_new : (number : ℕ) (made : Open) (l : Lists) → may_stand number made l ≡ true → open_of number l ≡ None
stand_new number made l h = none_of (open_of number l) (stands_by (nat_lt (length l.opens) most_opens) (is_some (open_of number l)) (holder_stands made.holder made.client l) h).1

-- ---- one after the other

abbrev pub Sent : Type 0
Sent = List Out × Lists

-- these come first
abbrev pub behind : List Out → Sent → Sent
behind outs r = (outs ++ r.0, r.1)

-- nobody is told where nothing is told of
pub nobody : (ids : List ℕ) (l : Lists) → dismissed [] ids l ≡ ([], l)
nobody [] l = refl
nobody (id ∷ ids) l = nobody ids l

-- one of whom it is told
pub told_next : (told : List Effect) (ids : List ℕ) (i d : ℕ) (l m : Lists) (outs sent new : List Out) → i < length ids → is_cancelled (get_or ids i d) told ≡ true → request_ended (get_or ids i d) Cancelled l ≡ (sent, m) → new ≡ outs ++ sent
    → behind new (dismissed told (drop (i + 1) ids) m) ≡ behind outs (dismissed told (drop i ids) l)
told_next told ids i d l m outs sent new there is ended joined =
    let id = get_or ids i d in
    let rest = drop (i + 1) ids in
    let all : drop i ids ≡ id ∷ rest = drop_more ids i d there in
    let more = dismissed told rest m in
    let one : dismissed told (id ∷ rest) l ≡ (sent ++ more.0, more.1) = rw is (ap (λ (r : Sent). (r.0 ++ (dismissed told rest r.1).0, (dismissed told rest r.1).1)) ended) in
    (λ j. (joined j ++ more.0, more.1))
    ∙ (λ j. (append_assoc outs sent more.0 j, more.1))
    ∙ ap (behind outs) (sym one)
    ∙ ap (λ (xs : List ℕ). behind outs (dismissed told xs l)) (sym all)

-- one of whom it isn't
pub passed_next : (told : List Effect) (ids : List ℕ) (i d : ℕ) (l : Lists) (outs : List Out) → i < length ids → is_cancelled (get_or ids i d) told ≡ false
    → behind outs (dismissed told (drop (i + 1) ids) l) ≡ behind outs (dismissed told (drop i ids) l)
passed_next told ids i d l outs there is =
    let id = get_or ids i d in
    let rest = drop (i + 1) ids in
    let one : dismissed told (id ∷ rest) l ≡ dismissed told rest l = rw is refl in
    ap (behind outs) (sym one) ∙ ap (λ (xs : List ℕ). behind outs (dismissed told xs l)) (sym (drop_more ids i d there))

pub fit_both : (xs ys zs : List Out) → zs ≡ xs ++ ys → AllByRecursion FitsFrame xs → AllByRecursion FitsFrame ys → AllByRecursion FitsFrame zs
fit_both xs ys zs is first more = subst (λ (os : List Out). AllByRecursion FitsFrame os) (sym is) (all_append FitsFrame xs ys first more)

-- Who is told of a break, and of the end of a wait.
use Rattle.std.proofs.Common.{◌≡◌, ℕ, Bool, true, false, not, ◌&&◌, eqb, is_some, length, List, [], ◌∷◌, ◌++◌, Option, Some, None, refl, sym, ap, subst, ◌∙◌, inl, inr}
use Rattle.std.specs.Prelude.{nat_eq, nat_lt}
use Rattle.std.specs.Map.{lookup}
use Rattle.std.proofs.lemmas.Bool.{cases_Bool}
use Rattle.xl_base.specs.declared.event.Out.{Out}
use Rattle.xl_base.specs.declared.name.Party.{Party}
use Rattle.xl_base.specs.declared.name.Party.TheVariants as parties
use Rattle.xl_matrix.specs.declared.claim.CacheKind.{CacheKind}
use Rattle.xl_matrix.specs.declared.claim.Claim.{Claim}
use Rattle.xl_programs.specs.Sent.{sent_to}
use Rattle.xl_smb_state.proofs.LeaseLaws.{with_keeps}
use Rattle.xl_smb_state.proofs.RowLaws.{equal_self, some_none}
use Rattle.xl_smb_state.specs.Links.{most_opens}
use Rattle.xl_smb_state.specs.State.{Lists, open_of, lowest_open, waiting_of, waiting_dropped, with_open}
use Rattle.xl_smb_state.specs.declared.row.Holder.{Holder}
use Rattle.xl_smb_state.specs.declared.row.Holder.TheVariants as holder
use Rattle.xl_smb_state.specs.declared.row.Open.{Open}
use Rattle.xl_smb_state.specs.declared.row.Place.{Place}
use Rattle.xl_smb_state.specs.declared.row.Request.{Request}
use Rattle.xl_smb_state.specs.declared.row.Request.TheVariants as request
use Rattle.xl_smb_state.specs.declared.row.Waiting.{Waiting}
use Rattle.xl_core.specs.State.{CoreState}
use Rattle.xl_core.specs.declared.ask.Answer.{Answer}
use Rattle.xl_core.specs.declared.ask.Answer.TheVariants as answers
use Rattle.xl_core.specs.declared.ask.Effect.{Effect}
use Rattle.xl_core.specs.declared.ask.Effect.TheVariants as effects
use Rattle.xl_smb_locks.specs.Finals.{concluded, dismissed, ended_with, final_outs, final_reply, holder_stands, is_cancelled, refusal_of, replied, request_ended, may_stand, stood, succeeded, served_with, request_served, told_of, IsFinal}
use Rattle.xl_core.specs.Ids.{id_of}
use Rattle.xl_smb_locks.specs.Levels.{caching, notice_of, lease_notice_of, noticed_by, noticed_to, noticed_under, noticed}
use Rattle.std.specs.Prelude.{slice_get}
use Rattle.std.specs.Option.{option_and_then}
use Rattle.xl_base.specs.declared.name.Protocol.TheVariants.{Smb}
use Rattle.xl_names.specs.declared.name.Name.{Name}
use Rattle.xl_names.specs.declared.name.Name.TheVariants.{SmbLease}
use Rattle.xl_smb_locks.specs.declared.finals.FinalReply.TheVariants.{Failed, Opened}
use Rattle.xl_smb_locks.specs.declared.status.SmbStatus.{SmbStatus}
use Rattle.xl_smb_locks.specs.declared.status.SmbStatus.TheVariants.{Cancelled}
use Rattle.xl_smb_locks.proofs.FinalLaws.{stand_new}

-- ---- a break

pub holder_told : (s : CoreState) (l : Lists) (cache : Claim) (to : Option CacheKind) (call : Option ℕ) (number : ℕ) (row : Open) (place : Place) → cache.party ≡ parties.Open number → open_of number l ≡ Some row → row.holder ≡ holder.Tree place
    → told_of s (effects.Begun cache to call) l ≡ (sent_to place.connection (notice_of (id_of s number) to), l)
unfolding told_of
holder_told s l cache to call number row place party at held =
    ap (λ (p : Party). (noticed s p cache.what to l, l)) party
    ∙ ap (λ (o : Option Open). (noticed_to (notice_of (id_of s number) to) o, l)) at
    ∙ ap (λ (by : Holder). (noticed_by (notice_of (id_of s number) to) by, l)) held

pub nobody_told : (s : CoreState) (l : Lists) (cache : Claim) (to : Option CacheKind) (call : Option ℕ) (number : ℕ) → cache.party ≡ parties.Open number → open_of number l ≡ None → told_of s (effects.Begun cache to call) l ≡ ([], l)
unfolding told_of
nobody_told s l cache to call number party none =
    ap (λ (p : Party). (noticed s p cache.what to l, l)) party ∙ ap (λ (o : Option Open). (noticed_to (notice_of (id_of s number) to) o, l)) none

-- the lowest open of a lease hears of its break
pub lease_told : (s : CoreState) (l : Lists) (cache : Claim) (to : Option CacheKind) (call : Option ℕ) (number lowest : ℕ) (client key : List ℕ) (row : Open) (place : Place) → cache.party ≡ parties.Name Smb number → slice_get s.names number ≡ Some (SmbLease client key)
    → lowest_open (record { client = client; key = key }) l ≡ Some lowest → open_of lowest l ≡ Some row → row.holder ≡ holder.Tree place → told_of s (effects.Begun cache to call) l ≡ (sent_to place.connection (lease_notice_of key cache.what to), l)
unfolding told_of
lease_told s l cache to call number lowest client key row place party name low at held =
    ap (λ (p : Party). (noticed s p cache.what to l, l)) party
    ∙ ap (λ (o : Option Name). (noticed_under cache.what to l o, l)) name
    ∙ ap (λ (o : Option ℕ). (noticed_to (lease_notice_of key cache.what to) (option_and_then (λ n. open_of n l) o), l)) low
    ∙ ap (λ (o : Option Open). (noticed_to (lease_notice_of key cache.what to) o, l)) at
    ∙ ap (λ (by : Holder). (noticed_by (lease_notice_of key cache.what to) by, l)) held

-- ---- a request that waits no more

-- where a request waits no more the open may stand as before
holder_same : (by : Holder) (client : List ℕ) (id : ℕ) (l : Lists) → holder_stands by client (waiting_dropped id l) ≡ holder_stands by client l
holder_same (holder.Tree place) client id l = refl
holder_same (holder.Nobody until) client id l = refl

stand_same : (number id : ℕ) (made : Open) (l : Lists) → may_stand number made (waiting_dropped id l) ≡ may_stand number made l
stand_same number id made l = ap (λ (b : Bool). nat_lt (length l.opens) most_opens && (not (is_some (open_of number l)) && b)) (holder_same made.holder made.client id l)

-- what is said is as before too
said_same : (s : CoreState) (id : ℕ) (row : Waiting) (o : Option SmbStatus) (r : Request) (l : Lists) → row.request ≡ r → IsFinal id row (final_reply id row (concluded s row o l).0) l (replied id row (concluded s row o (waiting_dropped id l)))
said_same s id row (Some status) r l is = (refl, refl)
said_same s id row None request.Lock l is = subst (λ (x : Request). IsFinal id row (final_reply id row (succeeded s row x l).0) l (replied id row (succeeded s row x (waiting_dropped id l)))) (sym is) (refl, refl)
said_same s id row None (request.Create made) l is =
    subst (λ (x : Request). IsFinal id row (final_reply id row (succeeded s row x l).0) l (replied id row (succeeded s row x (waiting_dropped id l)))) (sym is)
    (subst (λ (b : Bool). IsFinal id row (final_reply id row (stood s row made (may_stand row.opened made l) l).0) l (replied id row (stood s row made b (waiting_dropped id l)))) (sym (stand_same row.opened id made l)) (by (may_stand row.opened made l)))
  where
    by : (b : Bool) → IsFinal id row (final_reply id row (stood s row made b l).0) l (replied id row (stood s row made b (waiting_dropped id l)))
    by true = (refl, ap (λ (m : Lists). m.waiting) (with_keeps row.opened made (waiting_dropped id l)))
    by false = (refl, refl)

pub served_final : (s : CoreState) (l : Lists) (party : Party) (id : ℕ) (answer : Answer) (row : Waiting) → waiting_of id l ≡ Some row → IsFinal id row (final_reply id row (concluded s row (refusal_of answer row.request) l).0) l (told_of s (effects.Served party id answer) l)
unfolding told_of request_served
served_final s l party id answer row at =
    subst (λ (o : Option Waiting). IsFinal id row (final_reply id row (concluded s row (refusal_of answer row.request) l).0) l (served_with s id answer o l)) (sym at) (said_same s id row (refusal_of answer row.request) row.request l refl)

pub cancelled_final : (told : List Effect) (l : Lists) (id : ℕ) (row : Waiting) → waiting_of id l ≡ Some row → is_cancelled id told ≡ true → IsFinal id row (final_reply id row (Failed Cancelled)) l (dismissed told (id ∷ []) l)
unfolding request_ended
cancelled_final told l id row at is = rw is (subst (λ (o : Option Waiting). IsFinal id row (final_reply id row (Failed Cancelled)) l ((ended_with id Cancelled o l).0 ++ [], (ended_with id Cancelled o l).1)) (sym at) (refl, refl))

-- and nothing for the effect that tells of it
pub cancelled_once : (s : CoreState) (l : Lists) (party : Party) (id : ℕ) → told_of s (effects.Cancelled party id) l ≡ ([], l)
unfolding told_of
cancelled_once s l party id = refl

-- ---- a CREATE that is granted

module _ (s : CoreState) (l : Lists) (party : Party) (id : ℕ) (claim : Claim) (row : Waiting) (made : Open) where
  pub granted_told : waiting_of id l ≡ Some row → row.request ≡ request.Create made → may_stand row.opened made l ≡ true
      → told_of s (effects.Served party id (answers.Granted claim)) l ≡ (final_outs id row (Opened (id_of s row.opened) (caching s row.opened made)), with_open row.opened made (waiting_dropped id l))
  unfolding told_of request_served
  granted_told at makes may =
      ap (λ (o : Option Waiting). served_with s id (answers.Granted claim) o l) at
      ∙ ap (λ (r : Request). replied id row (succeeded s row r (waiting_dropped id l))) makes
      ∙ ap (λ (b : Bool). replied id row (stood s row made b (waiting_dropped id l))) (stand_same row.opened id made l ∙ may)

  pub granted_stands : waiting_of id l ≡ Some row → row.request ≡ request.Create made → may_stand row.opened made l ≡ true → open_of row.opened (told_of s (effects.Served party id (answers.Granted claim)) l).1 ≡ Some made
  granted_stands at makes may =
      ap (λ (r : List Out × Lists). open_of row.opened r.1) (granted_told at makes may)
      ∙ ap (λ (m : Lists). open_of row.opened m) (with_keeps row.opened made (waiting_dropped id l))
      ∙ last_found row.opened made l.opens (stand_new row.opened made l may)
    where
      last_found : (number : ℕ) (new : Open) (es : List (ℕ × Open)) → lookup (nat_eq number) es ≡ None → lookup (nat_eq number) (es ++ (number, new) ∷ []) ≡ Some new
      last_found number new [] none = rw (equal_self number) refl
      last_found number new (e ∷ es) none =
          elim (cases_Bool (eqb number e.0)) [
            | inl here ↦ absurd (some_none (rw here at none))
            | inr other ↦ rw other (last_found number new es (rw other at none))
          ]

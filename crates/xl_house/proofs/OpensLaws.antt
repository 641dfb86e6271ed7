-- What telling of an effect leaves of SMB's lists, and what it sends to who waited.
use Rattle.std.proofs.Common.{◌≡◌, ℕ, Bool, true, false, ◌||◌, List, [], ◌∷◌, Option, Some, None, refl, sym, ap, ◌∙◌}
use Rattle.std.specs.Prelude.{nat_eq}
use Rattle.std.specs.List.{list_any}
use Rattle.std.specs.Map.{lookup}
use Rattle.std.proofs.lemmas.Bool.{true≢false}
use Rattle.xl_base.specs.declared.name.Owner.{Owner}
use Rattle.xl_base.specs.declared.name.Owner.TheVariants as owners
use Rattle.xl_base.specs.declared.name.Party.{Party}
use Rattle.xl_matrix.specs.Equal.{same_owners}
use Rattle.xl_matrix.specs.declared.claim.Claim.{Claim}
use Rattle.xl_matrix.specs.declared.claim.CacheKind.{CacheKind}
use Rattle.xl_smb_state.proofs.LeaseLaws.{with_keeps}
use Rattle.xl_smb_state.proofs.RowLaws.{equal_self, lookup_added}
use Rattle.xl_smb_state.specs.State.{Lists, open_of, waiting_dropped, waiting_of, with_open}
use Rattle.xl_smb_state.specs.declared.row.Open.{Open}
use Rattle.xl_smb_state.specs.declared.row.Request.{Request}
use Rattle.xl_smb_state.specs.declared.row.Request.TheVariants as request
use Rattle.xl_smb_state.specs.declared.row.Waiting.{Waiting}
use Rattle.xl_wait.specs.declared.waiter.Waiter.{Waiter}
use Rattle.xl_core.specs.Settle.{waits_as}
use Rattle.xl_core.specs.State.{CoreState}
use Rattle.xl_core.specs.declared.ask.Answer.{Answer}
use Rattle.xl_core.specs.declared.ask.Answer.TheVariants as answers
use Rattle.xl_core.specs.declared.ask.Effect.{Effect}
use Rattle.xl_core.specs.declared.ask.Effect.TheVariants as effects
use Rattle.xl_smb_locks.specs.Finals.{concluded, final_outs, may_stand, refusal_of, replied, request_served, served_with, stood, succeeded, told_of}
use Rattle.xl_smb_locks.specs.declared.finals.FinalReply.TheVariants.{Locked}
use Rattle.xl_smb_locks.specs.Levels.{cache_told, caching, level_held}
use Rattle.xl_smb_locks.specs.declared.status.SmbStatus.{SmbStatus}
use Rattle.xl_front_smb.specs.Checks.{is_open_on}
use Rattle.xl_front_smb.specs.FrontSmb.{smb_shown}
use Rattle.xl_front_smb.specs.State.{FrontSmb}

-- ---- what is so of opens stays

-- it stays where an open comes, and where opens and leases stand
pub record StaysSo (P : Lists → Type 0) : Type 0 where
  pub comes : (number : ℕ) (row : Open) (l : Lists) → P l → P (with_open number row l)
  pub same : (l m : Lists) → m.opens ≡ l.opens → m.leases ≡ l.leases → P l → P m

module _ (P : Lists → Type 0) (stays : StaysSo P) where
  stood_so : (s : CoreState) (row : Waiting) (made : Open) (stands : Bool) (l : Lists) → P l → P (stood s row made stands l).1
  stood_so s row made true l so = stays.comes row.opened made l so
  stood_so s row made false l so = so

  succeeded_so : (s : CoreState) (row : Waiting) (r : Request) (l : Lists) → P l → P (succeeded s row r l).1
  succeeded_so s row (request.Create made) l so = stood_so s row made (may_stand row.opened made l) l so
  succeeded_so s row request.Lock l so = so

  concluded_so : (s : CoreState) (row : Waiting) (refused : Option SmbStatus) (l : Lists) → P l → P (concluded s row refused l).1
  concluded_so s row None l so = succeeded_so s row row.request l so
  concluded_so s row (Some status) l so = so

  with_so : (s : CoreState) (id : ℕ) (answer : Answer) (o : Option Waiting) (l : Lists) → P l → P (served_with s id answer o l).1
  with_so s id answer None l so = so
  with_so s id answer (Some row) l so = concluded_so s row (refusal_of answer row.request) (waiting_dropped id l) (stays.same l (waiting_dropped id l) refl refl so)

  served_so : (s : CoreState) (id : ℕ) (answer : Answer) (l : Lists) → P l → P (request_served s id answer l).1
  unfolding request_served
  served_so s id answer l so = with_so s id answer (waiting_of id l) l so

  pub shown_so : (f : FrontSmb) (s : CoreState) (effect : Effect) → P f.state → P (smb_shown f s effect).1.state
  unfolding smb_shown told_of
  shown_so f s (effects.Served party id answer) so = served_so s id answer f.state so
  shown_so f s (effects.Cancelled party id) so = so
  shown_so f s (effects.Begun cache to call) so = so
  shown_so f s (effects.Expired client) so = so

-- an open that is there stays
pub open_stays : (k : ℕ) (found : Open) → StaysSo (λ (l : Lists). open_of k l ≡ Some found)
open_stays k found = record {
  comes = λ number row l at. ap (λ (m : Lists). open_of k m) (with_keeps number row l) ∙ lookup_added (nat_eq k) l.opens ((number, row) ∷ []) found at;
  same = λ l m opens leases at. ap (λ (es : List (ℕ × Open)). lookup (nat_eq k) es) opens ∙ at;
}

-- an open under a connection stays so where each open stays
pub stays_on : (conn k : ℕ) (l m : Lists) (o : Option Open) → ((found : Open) → open_of k l ≡ Some found → open_of k m ≡ Some found) → open_of k l ≡ o → is_open_on conn o ≡ true → is_open_on conn (open_of k m) ≡ true
stays_on conn k l m None stays at on = absurd (true≢false (sym on))
stays_on conn k l m (Some found) stays at on = ap (λ (o : Option Open). is_open_on conn o) (stays found at) ∙ on

-- ---- what tells of nobody that it waits no more leaves the lists

pub begun_shows : (f : FrontSmb) (s : CoreState) (cache : Claim) (to : Option CacheKind) (call : Option ℕ) → (smb_shown f s (effects.Begun cache to call)).1.state ≡ f.state
unfolding smb_shown told_of
begun_shows f s cache to call = refl

-- ---- who is granted

pub asks_as : (w : Waiter) (claim : Claim) (claims : List Claim) (number : ℕ) → w.asked ≡ claim ∷ claims → claim.owner ≡ owners.Open number → waits_as number w ≡ true
unfolding waits_as
asks_as w claim claims number asked owner =
    let own : same_owners claim.owner (owners.Open number) ≡ true = ap (λ (o : Owner). same_owners o (owners.Open number)) owner ∙ equal_self number in
    ap (λ (cs : List Claim). list_any (λ (c : Claim). same_owners c.owner (owners.Open number)) cs) asked
    ∙ ap (λ (b : Bool). b || list_any (λ (c : Claim). same_owners c.owner (owners.Open number)) claims) own

pub lock_told : (f : FrontSmb) (s : CoreState) (party : Party) (id : ℕ) (row : Waiting) (claim : Claim) → waiting_of id f.state ≡ Some row → row.request ≡ request.Lock → (smb_shown f s (effects.Served party id (answers.Granted claim))).0 ≡ final_outs id row Locked
unfolding smb_shown told_of request_served
lock_told f s party id row claim at locks =
    ap (λ (o : Option Waiting). (served_with s id (answers.Granted claim) o f.state).0) at ∙ ap (λ (r : Request). (replied id row (succeeded s row r (waiting_dropped id f.state))).0) locks

told_as : (t : CoreState) (counter number : ℕ) (row : Open) (key : Option (List ℕ)) → cache_told (record t { counter = counter }) number row key ≡ cache_told t number row key
unfolding cache_told level_held
told_as t counter number row None = refl
told_as t counter number row (Some key) = refl

-- what is told of an open's caches is no matter of the numbers that are given out
pub same_caching : (t : CoreState) (counter number : ℕ) (row : Open) → caching (record t { counter = counter }) number row ≡ caching t number row
same_caching t counter number row = told_as t counter number row row.lease

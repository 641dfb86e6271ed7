-- A CREATE that waited and is granted has its share; and an open comes to the lists only by such a grant.
use Rattle.std.proofs.Common.{◌≡◌, ℕ, Bool, true, false, List, [], ◌∷◌, map, Option, Some, None, refl, sym, ap, subst, ◌∙◌, inl, inr}
use Rattle.std.specs.Prelude.{◌⊎◌}
use Rattle.std.proofs.lemmas.Bool.{false≢true}
use Rattle.xl_base.proofs.Members.{all_in, in_append_right}
use Rattle.xl_base.specs.Lists.{IsIn}
use Rattle.xl_base.specs.declared.name.Owner.{Owner}
use Rattle.xl_base.specs.declared.name.Owner.TheVariants as owners
use Rattle.xl_base.specs.declared.name.Party.{Party}
use Rattle.xl_matrix.specs.Blocks.{is_share}
use Rattle.xl_matrix.specs.declared.claim.CacheKind.{CacheKind}
use Rattle.xl_matrix.specs.declared.claim.Claim.{Claim}
use Rattle.xl_matrix.specs.declared.claim.Rwd.{Rwd}
use Rattle.xl_matrix.specs.declared.claim.What.{What}
use Rattle.xl_matrix.specs.declared.claim.What.TheVariants as whats
use Rattle.xl_smb_state.proofs.LeaseLaws.{with_keeps}
use Rattle.xl_smb_state.proofs.RowLaws.{some_none}
use Rattle.xl_smb_state.specs.State.{Lists, open_of, waiting_dropped, waiting_of}
use Rattle.xl_smb_state.specs.declared.row.Open.{Open}
use Rattle.xl_smb_state.specs.declared.row.Request.{Request}
use Rattle.xl_smb_state.specs.declared.row.Request.TheVariants as request
use Rattle.xl_smb_state.specs.declared.row.Waiting.{Waiting}
use Rattle.xl_table.specs.Relock.{old_shares, shares_of, united_by, with_share}
use Rattle.xl_wait.specs.declared.waiter.Rooms.{Rooms}
use Rattle.xl_wait.specs.declared.waiter.Waiter.{Waiter}
use Rattle.xl_core.proofs.ChangeLaws.{granted_share}
use Rattle.xl_core.proofs.FrameLaws.{way_leaves}
use Rattle.xl_core.proofs.WishLaws.{wish_shares}
use Rattle.xl_core.specs.Causes.{IsTurn, Answered, WaitsOn, once_told}
use Rattle.xl_core.specs.Good.{IsGood}
use Rattle.xl_core.specs.Judge.{all_granted}
use Rattle.xl_core.specs.Places.{share_held}
use Rattle.xl_core.specs.Settle.{plea_again, way_again}
use Rattle.xl_core.specs.State.{CoreState}
use Rattle.xl_core.specs.Wishes.{wish_for, wish_of}
use Rattle.xl_core.specs.declared.ask.Answer.{Answer}
use Rattle.xl_core.specs.declared.ask.Answer.TheVariants as answers
use Rattle.xl_core.specs.declared.ask.Effect.{Effect}
use Rattle.xl_core.specs.declared.ask.Effect.TheVariants as effects
use Rattle.xl_smb_locks.specs.Finals.{concluded, may_stand, refusal_of, request_served, served_with, stood, succeeded, told_of}
use Rattle.xl_smb_locks.specs.declared.status.SmbStatus.{SmbStatus}
use Rattle.xl_front_smb.specs.FrontSmb.{smb_shown}
use Rattle.xl_front_smb.specs.State.{FrontSmb}
use Rattle.xl_smb_laws.specs.TiedRows.{HoldsShare}
use Rattle.xl_smb_laws.specs.WaitingRequests.{AreAwaited, AsksToOpen, IsAskerOf, IsAwaited, IsGranted}
use Rattle.xl_smb_laws.proofs.AwaitedRequestLaws.{row_in}
use Rattle.xl_smb_laws.proofs.GrantedCreateLaws.{granted_share as created_share, in_either, first_of, none_served, one_waiter, same_answer, same_id, served_grant, turn_of}
use Rattle.xl_smb_laws.proofs.TiedRowLaws.{came_or_was}

-- ---- what a turn grants

-- a share of an open is united with none
alone : (owner : Owner) (number : ℕ) (what : What) (old : List Claim) → owner ≡ owners.Open number → united_by owner what old ≡ what
unfolding united_by
alone owner number what old own = ap (λ (o : Owner). united_by o what old) own

-- what stands once one who waits for one share of an open is granted it
once_granted : (kinds : List CacheKind) (u : CoreState) (w : Waiter) (claim : Claim) (access deny : Rwd) (number : ℕ) → w.asked ≡ claim ∷ [] → claim.owner ≡ owners.Open number → claim.what ≡ whats.Share access deny
    → shares_of claim.file claim.owner (wish_for kinds (answers.Granted claim) (once_told u w (answers.Granted claim))).claims ≡ (access, deny) ∷ []
once_granted kinds u w claim access deny number asked own what =
    wish_shares (wish_of kinds claim) (once_told u w (answers.Granted claim)) claim.file claim.owner
    ∙ ap (λ (cs : List Claim). shares_of claim.file claim.owner (all_granted cs u.claims)) asked
    ∙ granted_share claim access deny u.claims what
    ∙ ap (λ (x : What). with_share x []) (alone claim.owner number claim.what (old_shares claim.file claim.owner u.claims) own ∙ what)

turn_shares : (n : ℕ) (left : Rooms) (s t : CoreState) (told : List Effect) (party : Party) (id : ℕ) (claim : Claim) (access deny : Rwd) (number : ℕ) → IsTurn n left s told t → IsIn (effects.Served party id (answers.Granted claim)) told
    → ((w : Waiter) → IsIn w s.waiters → w.id ≡ id → w.asked ≡ claim ∷ []) → claim.owner ≡ owners.Open number → claim.what ≡ whats.Share access deny → shares_of claim.file claim.owner t.claims ≡ (access, deny) ∷ []
turn_shares n left s t told party id claim access deny number turn here asks own what =
    elim (in_either (effects.Served party id (answers.Granted claim)) (way_again turn.before s turn.waiter).0 turn.told (subst (λ (es : List Effect). IsIn (effects.Served party id (answers.Granted claim)) es) turn.effects_are here)) [
      | inl begun ↦ absurd (none_served party id (answers.Granted claim) (way_again turn.before s turn.waiter).0 (way_leaves turn.before (plea_again s turn.waiter) turn.waiter.asked s) begun)
      | inr last ↦ elim turn.served [
        | WaitsOn none up same ↦ absurd (subst (λ (es : List Effect). IsIn (effects.Served party id (answers.Granted claim)) es) none last)
        | Answered answer is granted due new free ↦ elim (subst (λ (es : List Effect). IsIn (effects.Served party id (answers.Granted claim)) es) is last) [
          | inr none ↦ absurd none
          | inl one ↦ (
              let u : CoreState = (way_again turn.before s turn.waiter).1 in
              let w : Waiter = turn.waiter in
              let waits : IsIn w s.waiters = subst (λ (ws : List Waiter). IsIn w ws) (sym turn.stood) (in_append_right w turn.before (w ∷ turn.behind) (inl refl)) in
              let result : answer ≡ answers.Granted claim = same_answer one in
              ap (λ (x : CoreState). shares_of claim.file claim.owner x.claims) new
              ∙ ap (λ (a : Answer). shares_of claim.file claim.owner (wish_for w.wish a (once_told u w a)).claims) result
              ∙ once_granted w.wish u w claim access deny number (asks w waits (same_id one)) own what)
        ]
      ]
    ]

pub granted_holds : (n : ℕ) (left : Rooms) (s t : CoreState) (f : FrontSmb) (party : Party) (id : ℕ) (row : Waiting) (made : Open) (claim : Claim) → IsGood s → AreAwaited s f.state → IsGranted n left s t f.state party id row made claim → HoldsShare t row.opened made
granted_holds n left s t f party id row made claim good all is =
    let turn = turn_of n left s t is.told good is.turn in
    let grant = served_grant n left s t is.told party id claim turn is.served in
    let it = all_in (IsAwaited s f.state) (id, row) f.state.waiting all (row_in id f.state.waiting row is.waits) in
    let asks : AsksToOpen it.waiter row.opened made = subst (λ (r : Request). IsAskerOf it.waiter row.opened r) is.makes it.asker in
    let one : it.waiter ≡ grant.waiter = one_waiter s.waiters it.waiter grant.waiter good.apart it.waits grant.waits (it.number ∙ sym grant.number) in
    let asked : asks.claim ∷ [] ≡ claim ∷ grant.claims = sym asks.asked ∙ ap (λ (w : Waiter). w.asked) one ∙ grant.asked in
    let same : asks.claim ≡ claim = first_of asked in
    let has = created_share n left s t t f party id row made claim good all is in
    by turn (λ w here number. ap (λ (x : Waiter). x.asked) (one_waiter s.waiters w it.waiter good.apart here it.waits (number ∙ sym it.number)) ∙ asks.asked ∙ ap (λ (c : Claim). c ∷ []) same) has
    claim.what refl (subst (λ (c : Claim). is_share c.what ≡ true) same asks.share)
  where
    by : IsTurn n left s is.told t → ((w : Waiter) → IsIn w s.waiters → w.id ≡ id → w.asked ≡ claim ∷ []) → (claim.owner ≡ owners.Open row.opened) × (claim.file ≡ made.file) → (what : What) → claim.what ≡ what → is_share claim.what ≡ true → HoldsShare t row.opened made
    by turn asks has (whats.Share access deny) what share = (
      access,
      deny,
      ap (map share_held)
          (ap (λ (file : ℕ). shares_of file (owners.Open row.opened) t.claims) (sym has.1)
          ∙ ap (λ (owner : Owner). shares_of claim.file owner t.claims) (sym has.0)
          ∙ turn_shares n left s t is.told party id claim access deny row.opened turn is.served asks has.0 what),
    )
    by turn asks has (whats.Range extent exclusive) what share = absurd (false≢true (sym (ap is_share what) ∙ share))
    by turn asks has (whats.Cache kind running) what share = absurd (false≢true (sym (ap is_share what) ∙ share))

-- ---- what telling of an effect brings to the lists

-- only what is granted has no reason why it failed
granted_from : (answer : Answer) (r : Request) → refusal_of answer r ≡ None → (claim : Claim) × (answer ≡ answers.Granted claim)
granted_from (answers.Granted claim) r none = (claim, refl)
granted_from (answers.Queued id) r none = absurd (some_none none)
granted_from (answers.Conflict c) r none = absurd (some_none none)
granted_from (answers.Recall c) r none = absurd (some_none none)
granted_from (answers.Grace until) r none = absurd (some_none none)
granted_from (answers.NoGrace clock) r none = absurd (some_none none)
granted_from answers.NotRecorded r none = absurd (some_none none)
granted_from (answers.Full limit) r none = absurd (some_none none)
granted_from answers.NotHeld r none = absurd (some_none none)
granted_from answers.StoreFailed r none = absurd (some_none none)

-- a request waited to make this open, and was granted its share
pub record IsMade (id : ℕ) (answer : Answer) (l : Lists) (k : ℕ) (found : Open) : Type 0 where
  pub row : Waiting
  pub waits : waiting_of id l ≡ Some row
  pub makes : row.request ≡ request.Create found
  pub number : row.opened ≡ k
  pub claim : Claim
  pub granted : answer ≡ answers.Granted claim

module _ (s : CoreState) (id : ℕ) (answer : Answer) (l : Lists) (k : ℕ) (found : Open) where
  abbrev Was : Type 0
  Was = (open_of k l ≡ Some found) ⊎ IsMade id answer l k found

  by_stood : (row : Waiting) (made : Open) (stands : Bool) → waiting_of id l ≡ Some row → row.request ≡ request.Create made → refusal_of answer row.request ≡ None → open_of k (stood s row made stands (waiting_dropped id l)).1 ≡ Some found → Was
  by_stood row made false at makes none there = inl there
  by_stood row made true at makes none there =
      elim (came_or_was k row.opened made found l.opens (sym (ap (λ (m : Lists). open_of k m) (with_keeps row.opened made (waiting_dropped id l))) ∙ there)) [
        | inl was ↦ inl was
        | inr came ↦ (
            let grant = granted_from answer row.request none in
            inr (record { row = row; waits = at; makes = subst (λ (o : Open). row.request ≡ request.Create o) came.1 makes; number = came.0; claim = grant.0; granted = grant.1 }))
      ]

  by_request : (row : Waiting) (r : Request) → waiting_of id l ≡ Some row → row.request ≡ r → refusal_of answer row.request ≡ None → open_of k (succeeded s row r (waiting_dropped id l)).1 ≡ Some found → Was
  by_request row request.Lock at makes none there = inl there
  by_request row (request.Create made) at makes none there = by_stood row made (may_stand row.opened made (waiting_dropped id l)) at makes none there

  by_refusal : (row : Waiting) (o : Option SmbStatus) → waiting_of id l ≡ Some row → refusal_of answer row.request ≡ o → open_of k (concluded s row o (waiting_dropped id l)).1 ≡ Some found → Was
  by_refusal row (Some status) at is there = inl there
  by_refusal row None at is there = by_request row row.request at refl is there

  by_row : (o : Option Waiting) → waiting_of id l ≡ o → open_of k (served_with s id answer o l).1 ≡ Some found → Was
  by_row None at there = inl there
  by_row (Some row) at there = by_refusal row (refusal_of answer row.request) at refl there

  served_was : open_of k (request_served s id answer l).1 ≡ Some found → Was
  unfolding request_served
  served_was there = by_row (waiting_of id l) refl there

pub shown_was : (f : FrontSmb) (s : CoreState) (party : Party) (id : ℕ) (answer : Answer) (k : ℕ) (found : Open) → open_of k (smb_shown f s (effects.Served party id answer)).1.state ≡ Some found → (open_of k f.state ≡ Some found) ⊎ IsMade id answer f.state k found
unfolding smb_shown told_of
shown_was f s party id answer k found there = served_was s id answer f.state k found there

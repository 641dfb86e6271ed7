-- Each request that waits in the front's lists is a waiter of the core.
use Rattle.std.proofs.Common.{◌≡◌, ℕ, ◌+◌, ◌<◌, ◌≤◌, ◌&&◌, arith, Bool, true, false, not, eqb, List, [], ◌∷◌, ◌++◌, map, length, Option, Some, None, Ok, Err, Result, is_some, if◌then◌else◌, refl, sym, ap, subst, ◌∙◌, inl, inr}
use Rattle.std.proofs.lemmas.Bool.{and_right, cases_Bool, true≢false, false≢true, eqb-true}
use Rattle.std.proofs.lemmas.Map.Made.{IsDistinct-keys_filter}
use Rattle.std.specs.Prelude.{nat_eq, ◌==◌, ◌⊎◌, nat_lt, filter}
use Rattle.std.specs.List.{AllByRecursion, IsDistinct, list_any}
use Rattle.std.specs.Map.{keys_of, lookup, remove_entry}
use Rattle.xl_base.proofs.Members.{all_from, all_in, in_append_left, in_append_right, in_filter, in_filter_from}
use Rattle.xl_base.specs.Lists.{IsIn}
use Rattle.xl_base.specs.Stable.{same_protocol}
use Rattle.xl_base.specs.declared.journal.Exports.{Exports}
use Rattle.xl_base.specs.declared.name.Party.{Party}
use Rattle.xl_base.specs.declared.name.Protocol.TheVariants.{Smb}
use Rattle.xl_base.specs.declared.name.Owner.TheVariants as owners
use Rattle.xl_matrix.specs.Equal.{same_owners}
use Rattle.xl_matrix.specs.Owners.{posix}
use Rattle.xl_matrix.specs.declared.claim.Claim.{Claim}
use Rattle.xl_matrix.specs.declared.claim.Extent.{Extent}
use Rattle.xl_matrix.specs.declared.claim.Extent.TheVariants.{Bytes, Empty}
use Rattle.xl_matrix.specs.declared.claim.What.{What}
use Rattle.xl_names.specs.declared.name.Name.{Name}
use Rattle.xl_smb.specs.Calls.{CallItem, Negotiate, SessionSetup, Logoff, TreeConnect, TreeDisconnect, Create, Close, Lock, Cancel, Echo, OplockBreak, Other}
use Rattle.xl_smb.specs.Creates.{CreateCallItem}
use Rattle.xl_smb.specs.Heads.{command_of, head_of}
use Rattle.xl_smb.specs.Locks.{LockItem, elements_of}
use Rattle.xl_smb.specs.Messages.{MessageItem, Call, Reply, Told, message_at}
use Rattle.xl_smb.specs.Sessions.{NegotiateCallItem, dialects_of}
use Rattle.xl_smb.specs.declared.breaks.Break.{Break as Acknowledgement}
use Rattle.xl_matrix.specs.declared.claim.What.TheVariants as whats
use Rattle.xl_smb_state.specs.declared.row.Request.{Request}
use Rattle.xl_smb_state.specs.declared.row.Request.TheVariants as request
use Rattle.xl_smb.specs.declared.fault.SmbBad.{SmbBad}
use Rattle.xl_smb.specs.declared.file.FileId.{FileId}
use Rattle.xl_smb.specs.declared.head.SmbHead.{SmbHead}
use Rattle.xl_smb.specs.declared.lock.LockElement.{LockElement}
use Rattle.xl_smb_state.proofs.LeaseLaws.{with_keeps}
use Rattle.xl_smb_state.proofs.RowLaws.{equal_from, equal_self, lookup_added, lookup_removed, unequal_both, none_out, none_some, same_Some}
use Rattle.xl_smb_state.specs.Links.{AreDistinct, IsSound, has_place, most_opens}
use Rattle.xl_smb_state.specs.State.{Lists, client_of, closed, connection_added, connection_changed, connection_of, file_for, is_key, key_of, makes_open, open_of, opens_under, session_added, session_of, tree_added, sessions_on, waiting_added, waiting_of, creates_under, waiting_dropped, with_open}
use Rattle.xl_smb_state.specs.declared.row.Connection.{Connection}
use Rattle.xl_smb_state.specs.declared.row.Holder.TheVariants as holder
use Rattle.xl_smb_state.specs.declared.row.Lease.{Lease as LeaseRow}
use Rattle.xl_smb_state.specs.declared.row.LeaseKey.{LeaseKey}
use Rattle.xl_smb_state.specs.declared.row.Open.{Open}
use Rattle.xl_smb_state.specs.declared.row.Place.{Place}
use Rattle.xl_smb_state.specs.declared.row.Scope.{Scope}
use Rattle.xl_smb_state.specs.declared.row.Scope.TheVariants as scope
use Rattle.xl_smb_state.specs.declared.row.Waiting.{Waiting}
use Rattle.xl_wait.specs.Waiting.{no_rows, cancelled, is_waiting}
use Rattle.xl_wait.specs.declared.waiter.Rooms.{Rooms}
use Rattle.xl_wait.specs.declared.waiter.Waiter.{Waiter}
use Rattle.xl_core.proofs.DeedLists.{deeds_good}
use Rattle.xl_core.proofs.FrameLaws.{ask_frame, ask_quiet, way_leaves}
use Rattle.xl_core.proofs.SettleLaws.{open_waiters}
use Rattle.xl_core.proofs.WayAsks.{ask_there}
use Rattle.xl_core.specs.Askers.{asking_party, asked_claim, asked_claims, asked_whats, asker, is_client, owner_in, range_what}
use Rattle.xl_core.specs.Decide.{Answered as Asked, ask, decided, freed, plea_of, unlocked, waiter_of}
use Rattle.xl_core.specs.Deeds.{Deed, Cancels, Draws, all_done, all_told_of, Acks}
use Rattle.xl_core.specs.Frames.{come_by, who_left}
use Rattle.xl_core.specs.Good.{IsGood, IsWaiter}
use Rattle.xl_table.specs.declared.leaver.Leaver.{Leaver}
use Rattle.xl_table.specs.declared.leaver.Leaver.TheVariants as leavers
use Rattle.xl_core.specs.Settle.{all_cancelled, cancel as cancel_of, close_open as close_core, departed, end_party, gone, told_of_one, told_with, waits_as, waits_for, waits_with}
use Rattle.xl_core.specs.State.{CoreState, drawn}
use Rattle.xl_core.specs.Told.{party_protocol}
use Rattle.xl_core.specs.declared.ask.Answer.{Answer}
use Rattle.xl_core.specs.declared.ask.Answer.TheVariants as answers
use Rattle.xl_core.specs.declared.ask.Ask.{Ask}
use Rattle.xl_core.specs.declared.ask.Effect.{Effect}
use Rattle.xl_core.specs.declared.ask.Effect.TheVariants as effects
use Rattle.xl_core.specs.declared.ask.Who.{Who}
use Rattle.xl_core.specs.declared.ask.Who.TheVariants as who
use Rattle.xl_smb_locks.proofs.UnlockLaws.{any_stores, no_way}
use Rattle.xl_smb_locks.specs.Elements.{extent_of, is_count, unlock_fault}
use Rattle.xl_smb_locks.specs.Finals.{and_sent, cancels, concluded, dismissed, ended_with, is_cancelled, refusal_of, request_ended, told_of, request_served, served_with, may_stand, stood, succeeded}
use Rattle.xl_smb_locks.specs.Locks.{lock_ask, lock_told, range_of, unlock_ask, unlock_next, unlock_told, unlocks}
use Rattle.xl_smb_locks.specs.declared.locking.Locking.{Locking}
use Rattle.xl_smb_locks.specs.declared.status.SmbStatus.{SmbStatus}
use Rattle.xl_smb_locks.specs.declared.status.SmbStatus.TheVariants as statuses
use Rattle.xl_smb_laws.specs.WaitingRequests.{AreAwaited, AsksToOpen, IsAskerOf, IsAwaited, IsOnFile, IsUnder, IsUsedOn, serves_request}
use Rattle.xl_front_smb.specs.Checks.{file_number, id_of, is_fresh, is_open_on, negotiated_by, number_in}
use Rattle.xl_front_smb.specs.Ending.{all_closed, party_going, leavers_under, connection_gone, session_gone, ends, smb_end, all_dismissed, all_ended, numbers_under, requests_gone}
use Rattle.xl_front_smb.specs.Files.{acknowledge, close, close_open, create, has_room_for_open, key_asked, lease_key, is_key_elsewhere, open_as, open_ask, open_row, access_of, all_opens, deny_of}
use Rattle.xl_front_smb.specs.FrontSmb.{head_heard, plan_for, smb_shown, smb_step, stepped}
use Rattle.xl_front_smb.specs.Laws.{rows_but, waits_among}
use Rattle.xl_front_smb.specs.Locks.{cancel, cancel_named, lock, request_named}
use Rattle.xl_front_smb.specs.Owners.{is_session_on}
use Rattle.xl_front_smb.specs.Plans.{Plan, Fails, Does, Opens, Locks, Outcome, carried, has_room_to_wait, with_waiting, lists_as, opened_lists}
use Rattle.xl_front_smb.specs.Requests.{commanded, planned, read_as, requested}
use Rattle.xl_front_smb.specs.Sessions.{connect, connect_as, disconnect, has_room_for_session, has_room_for_tree, logoff, negotiate, offers, session_setup, set_up_as, tree_connect, tree_disconnect}
use Rattle.xl_front_smb.specs.State.{FrontSmb, empty_smb_front, smb_begin}
use Rattle.xl_front_smb.specs.Texts.{is_share}
use Rattle.xl_front_smb.specs.declared.told.Told.{Told as Answered}
use Rattle.xl_front_smb.specs.declared.told.Told.TheVariants as told
use Rattle.xl_front_smb.proofs.AskLaws.{queued_after}
use Rattle.xl_front_smb.proofs.EndLaws.{dismissed_keeps, ended_told, numbers_going}
use Rattle.xl_front_smb.proofs.GoneLaws.{done_without, end_without, gone_opens, out_one, all_gone_opens}
use Rattle.xl_smb_laws.proofs.LeaseKeyLaws.{AllUsed, LeasesStay, came_on, closed_leases, ended_leases, gone_leases, has_file, own_file, same_leases, used_by, used_for, used_still}
use Rattle.xl_smb_laws.proofs.PlaceLaws.{Keeps, Stays, apart_under, begun_place, changed_place, closed_place, disconnected_place, ended_place, keeps_all, keeps_by, keeps_self, logged_off_place, same_places, tree_place, under_still}
use Rattle.xl_front_smb.proofs.AckLaws.{not_false}
use Rattle.xl_smb_laws.proofs.PlanWalks.{by_client, by_open, by_session, by_tree, walk_acknowledge, walk_create, walk_lock, walk_refused}
use Rattle.xl_smb_laws.proofs.SmbWaiterLaws.{asks_of_smb}
use Rattle.xl_smb_laws.proofs.WaitConnectionLaws.{all_gone_waiting, closed_waiting, gone_waiting, stands_on}
use Rattle.xl_matrix.specs.declared.claim.CacheKind.{CacheKind}
use Rattle.xl_core.specs.BreakAnswers.{ack}
use Rattle.xl_smb_locks.proofs.FitLaws.{party_fits}

-- ---- rows that are taken out

removed_in : (t : ℕ → Bool) (es : List (ℕ × Waiting)) (e : ℕ × Waiting) → IsIn e (remove_entry t es) → IsIn e es
removed_in t [] e here = absurd here
removed_in t (x ∷ es) e here =
    elim (cases_Bool (t x.0)) [
      | inl out ↦ inr (rw out at here)
      | inr stays ↦ (let there : IsIn e (x ∷ remove_entry t es) = rw stays at here in elim there [ inl same ↦ inl same | inr rest ↦ inr (removed_in t es e rest) ])
    ]

other_left : (k : ℕ) (es : List (ℕ × Waiting)) (e : ℕ × Waiting) → IsDistinct nat_eq (keys_of es) → IsIn e (remove_entry (nat_eq k) es) → eqb k e.0 ≡ false
other_left k es e distinct here =
    let left : IsIn e (rows_but (λ (x : ℕ × Waiting). eqb k x.0) es) = subst (λ (xs : List (ℕ × Waiting)). IsIn e xs) (out_one k es distinct) here in
    false_of (eqb k e.0) (in_filter_from (λ (x : ℕ × Waiting). not (eqb k x.0)) e es left).1
  where
    false_of : (b : Bool) → not b ≡ true → b ≡ false
    false_of true h = absurd (false≢true h)
    false_of false h = refl

pub still_distinct : (k : ℕ) (es : List (ℕ × Waiting)) → IsDistinct nat_eq (keys_of es) → IsDistinct nat_eq (keys_of (remove_entry (nat_eq k) es))
still_distinct k es distinct = subst (λ (xs : List (ℕ × Waiting)). IsDistinct nat_eq (keys_of xs)) (sym (out_one k es distinct)) (IsDistinct-keys_filter nat_eq (λ (x : ℕ × Waiting). not (eqb k x.0)) es distinct)

pub ended_rows : (id : ℕ) (status : SmbStatus) (l : Lists) → ((request_ended id status l).1.waiting ≡ remove_entry (nat_eq id) l.waiting) × ((request_ended id status l).1.opens ≡ l.opens)
unfolding request_ended
ended_rows id status l = by (waiting_of id l) refl
  where
    by : (o : Option Waiting) → waiting_of id l ≡ o → ((ended_with id status o l).1.waiting ≡ remove_entry (nat_eq id) l.waiting) × ((ended_with id status o l).1.opens ≡ l.opens)
    by None e = (sym (none_out (nat_eq id) l.waiting e), refl)
    by (Some row) e = (refl, refl)

-- ---- requests that a message cancelled

dismissed_opens : (told : List Effect) (ids : List ℕ) (l : Lists) → (dismissed told ids l).1.opens ≡ l.opens
dismissed_opens told [] l = refl
dismissed_opens told (id ∷ ids) l =
    let after : Lists = (request_ended id statuses.Cancelled l).1 in
    by (is_cancelled id told) (dismissed_opens told ids after ∙ (ended_rows id statuses.Cancelled l).1) (dismissed_opens told ids l)
  where
    by : (b : Bool) → (dismissed told ids (request_ended id statuses.Cancelled l).1).1.opens ≡ l.opens → (dismissed told ids l).1.opens ≡ l.opens → (if b then and_sent (request_ended id statuses.Cancelled l) (dismissed told ids) else dismissed told ids l).1.opens ≡ l.opens
    by true first second = first
    by false first second = second

pub dismissed_in : (told : List Effect) (ids : List ℕ) (l : Lists) (e : ℕ × Waiting) → IsIn e (dismissed told ids l).1.waiting → IsIn e l.waiting
dismissed_in told [] l e here = here
dismissed_in told (id ∷ ids) l e here =
    let ended = request_ended id statuses.Cancelled l in
    by (is_cancelled id told) here
    (λ h. removed_in (nat_eq id) l.waiting e (subst (λ (es : List (ℕ × Waiting)). IsIn e es) (ended_rows id statuses.Cancelled l).0 (dismissed_in told ids ended.1 e h)))
    (λ h. dismissed_in told ids l e h)
  where
    by : (b : Bool) → IsIn e (if b then and_sent (request_ended id statuses.Cancelled l) (dismissed told ids) else dismissed told ids l).1.waiting → (IsIn e (dismissed told ids (request_ended id statuses.Cancelled l).1).1.waiting → IsIn e l.waiting) → (IsIn e (dismissed told ids l).1.waiting → IsIn e l.waiting) → IsIn e l.waiting
    by true h first second = first h
    by false h first second = second h

-- none of those stays
pub dismissed_out : (told : List Effect) (ids : List ℕ) (l : Lists) (e : ℕ × Waiting) → IsDistinct nat_eq (keys_of l.waiting) → IsIn e.0 ids → is_cancelled e.0 told ≡ true → IsIn e (dismissed told ids l).1.waiting → ⊥
dismissed_out told [] l e distinct named over here = named
dismissed_out told (id ∷ ids) l e distinct named over here =
    let after : Lists = (request_ended id statuses.Cancelled l).1 in
    let rows : after.waiting ≡ remove_entry (nat_eq id) l.waiting = (ended_rows id statuses.Cancelled l).0 in
    let distinct_then : IsDistinct nat_eq (keys_of after.waiting) = subst (λ (es : List (ℕ × Waiting)). IsDistinct nat_eq (keys_of es)) (sym rows) (still_distinct id l.waiting distinct) in
    let gone : id ≡ e.0 → IsIn e after.waiting → ⊥ = λ same h. true≢false (sym (subst (λ (k : ℕ). eqb id k ≡ true) same (equal_self id)) ∙ other_left id l.waiting e distinct (subst (λ (es : List (ℕ × Waiting)). IsIn e es) rows h)) in
    by (is_cancelled id told) refl here
    (λ h. elim named [ inl same ↦ gone same (dismissed_in told ids after e h) | inr rest ↦ dismissed_out told ids after e distinct_then rest over h ])
    (λ not_over h. elim named [ inl same ↦ true≢false (sym (subst (λ (k : ℕ). is_cancelled k told ≡ true) (sym same) over) ∙ not_over) | inr rest ↦ dismissed_out told ids l e distinct rest over h ])
  where
    by : (b : Bool) → is_cancelled id told ≡ b → IsIn e (if b then and_sent (request_ended id statuses.Cancelled l) (dismissed told ids) else dismissed told ids l).1.waiting → (IsIn e (dismissed told ids (request_ended id statuses.Cancelled l).1).1.waiting → ⊥) → (is_cancelled id told ≡ false → IsIn e (dismissed told ids l).1.waiting → ⊥) → ⊥
    by true is h first second = first h
    by false is h first second = second is h

-- ---- who waits for an open that ends

pub any_self : (k : ℕ) (ks : List ℕ) → list_any (nat_eq k) ks ≡ true → IsIn k ks
any_self k [] any = absurd (false≢true any)
any_self k (j ∷ ks) any = elim (cases_Bool (eqb k j)) [ inl same ↦ inl (equal_from k j same) | inr other ↦ inr (any_self k ks (rw other at any)) ]

-- the numbers of opens that are closed
abbrev pub numbers_in : List (ℕ × Option Party) → List ℕ
numbers_in going = map (λ e. e.0) going

pub waits_none : (going : List (ℕ × Option Party)) (w : Waiter) (opened : ℕ) → ((k : ℕ) → waits_as k w ≡ true → k ≡ opened) → list_any (nat_eq opened) (numbers_in going) ≡ false → waits_among going w ≡ false
waits_none [] w opened alone none = refl
waits_none (e ∷ going) w opened alone none =
    elim (cases_Bool (eqb opened e.0)) [
      | inl same ↦ (let f : true ≡ false = rw same at none in absurd (true≢false f))
      | inr other ↦ elim (cases_Bool (waits_as e.0 w)) [
        | inl waits ↦ absurd (true≢false (sym (subst (λ (k : ℕ). eqb k e.0 ≡ true) (alone e.0 waits) (equal_self e.0)) ∙ other))
        | inr no_wait ↦ rw no_wait (waits_none going w opened alone (rw other at none))
      ]
    ]

pub waits_some : (going : List (ℕ × Option Party)) (w : Waiter) (opened : ℕ) → waits_as opened w ≡ true → list_any (nat_eq opened) (numbers_in going) ≡ true → waits_among going w ≡ true
waits_some [] w opened own any = absurd (false≢true any)
waits_some (e ∷ going) w opened own any =
    elim (cases_Bool (eqb opened e.0)) [
      | inl same ↦ (let waits : waits_as e.0 w ≡ true = subst (λ (k : ℕ). waits_as k w ≡ true) (sym (equal_from opened e.0 same)) own in rw waits refl)
      | inr other ↦ elim (cases_Bool (waits_as e.0 w)) [
        | inl waits ↦ rw waits refl
        | inr no_wait ↦ rw no_wait (waits_some going w opened own (rw other at any))
      ]
    ]

pub any_left : {X : Type 0} (p : X → Bool) (xs ys : List X) → list_any p xs ≡ true → list_any p (xs ++ ys) ≡ true
any_left p [] ys any = absurd (false≢true any)
any_left p (x ∷ xs) ys any = elim (cases_Bool (p x)) [ inl here ↦ rw here refl | inr later ↦ rw later (any_left p xs ys (rw later at any)) ]

pub any_right : {X : Type 0} (p : X → Bool) (xs ys : List X) → list_any p ys ≡ true → list_any p (xs ++ ys) ≡ true
any_right p [] ys any = any
any_right p (x ∷ xs) ys any = elim (cases_Bool (p x)) [ inl here ↦ rw here refl | inr later ↦ rw later (any_right p xs ys any) ]

none_first : (p : ℕ → Bool) (xs ys : List ℕ) → list_any p (xs ++ ys) ≡ false → list_any p xs ≡ false
none_first p xs ys none = elim (cases_Bool (list_any p xs)) [ inl some ↦ absurd (true≢false (sym (any_left p xs ys some) ∙ none)) | inr stays ↦ stays ]

told_all : (w : Waiter) (ws : List Waiter) → IsIn w ws → is_cancelled w.id (map gone ws) ≡ true
told_all w [] here = absurd here
told_all w (v ∷ ws) here =
    elim (cases_Bool (eqb v.id w.id)) [
      | inl same ↦ rw same refl
      | inr other ↦ rw other (elim here [ inl first ↦ absurd (true≢false (sym (ap (λ (x : Waiter). eqb x.id w.id) first ∙ equal_self w.id) ∙ other)) | inr rest ↦ told_all w ws rest ])
    ]

-- one who waits is told of by its number
pub one_told : (w : Waiter) (ws : List Waiter) → IsIn w ws → is_cancelled w.id (told_of_one w.id ws) ≡ true
one_told w [] here = absurd here
one_told w (v ∷ ws) here =
    elim (cases_Bool (eqb v.id w.id)) [
      | inl same ↦ (let told : is_cancelled w.id (gone v ∷ []) ≡ true = rw same refl in rw same told)
      | inr other ↦ rw other (elim here [ inl first ↦ absurd (true≢false (sym (ap (λ (x : Waiter). eqb x.id w.id) first ∙ equal_self w.id) ∙ other)) | inr rest ↦ one_told w ws rest ])
    ]

-- under whichever name of the number
pub told_under : (w : Waiter) (ws : List Waiter) (id : ℕ) → IsIn w ws → w.id ≡ id → is_cancelled id (told_of_one id ws) ≡ true
told_under w ws id here same = subst (λ (k : ℕ). is_cancelled k (told_of_one k ws) ≡ true) same (one_told w ws here)

leaver_told : (s : CoreState) (leaver : Leaver) (w : Waiter) → IsIn w s.waiters → waits_with leaver w ≡ true → is_cancelled w.id (departed s leaver).0 ≡ true
unfolding told_with
leaver_told s leaver w here waits = told_all w (filter (waits_with leaver) s.waiters) (in_filter (waits_with leaver) w s.waiters here waits)

pub party_told : (s : CoreState) (party : Party) (w : Waiter) → IsIn w s.waiters → waits_for party w ≡ true → is_cancelled w.id (end_party s party).0 ≡ true
unfolding end_party
party_told s party w here waits = leaver_told s (leavers.Party party) w here waits

pub closed_told : (s : CoreState) (number : ℕ) (party : Option Party) (w : Waiter) → IsIn w s.waiters → waits_as number w ≡ true → is_cancelled w.id (close_core s number party).0 ≡ true
unfolding close_core
closed_told s number party w here waits = leaver_told s (leavers.Open number party) w here waits

pub ends_tell : (n : ℕ) (going : List (ℕ × Option Party)) (s : CoreState) (w : Waiter) → IsIn w s.waiters → waits_among going w ≡ true → is_cancelled w.id (all_told_of n s (ends going)) ≡ true
ends_tell n [] s w here among = absurd (false≢true among)
ends_tell n (e ∷ going) s w here among =
    let r = close_core s e.0 e.1 in
    elim (cases_Bool (waits_as e.0 w)) [
      | inl waits ↦ any_left (cancels w.id) r.0 (all_told_of n r.1 (ends going)) (closed_told s e.0 e.1 w here waits)
      | inr no_wait ↦ any_right (cancels w.id) r.0 (all_told_of n r.1 (ends going)) (ends_tell n going r.1 w ((open_waiters s e.0 e.1 w).1 (here, no_wait)) (rw no_wait at among))
    ]

-- ---- what a plan does to those who wait

-- each place stays
abbrev pub AllPlaces : Lists → Lists → Type 0
AllPlaces l m = (place : Place) (client : List ℕ) → has_place place client l ≡ true → has_place place client m ≡ true

-- the places stay of those who wait to make an open that is none of these
abbrev pub PlacesBut : List ℕ → Lists → Lists → Type 0
PlacesBut numbers l m = (e : ℕ × Waiting) → IsIn e l.waiting → makes_open e.1.request ≡ true → list_any (nat_eq e.1.opened) numbers ≡ false → (client : List ℕ) → has_place e.1.place client l ≡ true → has_place e.1.place client m ≡ true

-- nobody leaves, and no open, place or lease; or those of these numbers end, of opens no other goes, and no lease comes; or one
-- request is cancelled
abbrev pub Way : CoreState → Lists → List Deed → Lists → Type 0
Way s l deeds lists =
    (((n : ℕ) → (all_done n s deeds).waiters ≡ s.waiters) × (lists.opens ≡ l.opens) × AllPlaces l lists × (lists.leases ≡ l.leases))
    ⊎ (((going : List (ℕ × Option Party)) × (deeds ≡ ends going) × ((k : ℕ) → list_any (nat_eq k) (numbers_in going) ≡ false → open_of k lists ≡ open_of k l) × (AreDistinct l → PlacesBut (numbers_in going) l lists) × LeasesStay l lists)
    ⊎ ((id : ℕ) × (deeds ≡ Cancels id ∷ []) × (lists ≡ l)))

-- who waits for this
abbrev pub asker_of : Ask → ℕ → List Name → Waiter
asker_of a id names = waiter_of id a (asking_party a names) (asked_claims a (asked_whats a.act) names)

-- what is asked is for this open, and something
abbrev pub AsksFor : Ask → ℕ → Type 0
AsksFor a number = (id : ℕ) (names : List Name) → (waits_as number (asker_of a id names) ≡ true) × ((k : ℕ) → waits_as k (asker_of a id names) ≡ true → k ≡ number)

-- a LOCK of this row that waits for this is awaited
abbrev pub IsAsked : Lists → Ask → Waiting → Type 0
IsAsked l a row = (is_client a.owner a.party ≡ true) × AsksFor a row.opened × (row.request ≡ request.Lock) × (is_open_on row.place.connection (open_of row.opened l) ≡ true)

-- the open of the next number, which none has yet, is asked for at a place that is there
pub record IsNew (s : CoreState) (l : Lists) (a : Ask) (number : ℕ) (row : Open) (waiting : Waiting) : Type 0 where
  pub client : is_client a.owner a.party ≡ true
  pub asks : AsksFor a waiting.opened
  pub opened : waiting.opened ≡ number
  pub next : number ≡ s.counter + 1
  pub makes : waiting.request ≡ request.Create row
  pub held : row.holder ≡ holder.Tree waiting.place
  pub place : has_place waiting.place row.client l ≡ true
  pub free : is_some (open_of number l) ≡ false
  pub unused : is_key_elsewhere row.file (key_of (Some row)) l ≡ false
  pub asker : (id : ℕ) (names : List Name) → AsksToOpen (asker_of a id names) number row

abbrev pub Sorts : CoreState → Lists → Plan → Type 0
Sorts s l (Fails status) = Unit {0}
Sorts s l (Does deeds lists told) = (lists.waiting ≡ l.waiting) × Way s l deeds lists
Sorts s l (Opens left a number row id waiting) = IsNew s l a number row waiting
Sorts s l (Locks a row) = IsAsked l a row

-- a row is awaited, or is told to wait no more
abbrev Settled : Lists → Outcome → ℕ × Waiting → Type 0
Settled l r e = IsAwaited r.3 r.2 e ⊎ ((is_cancelled e.0 r.1 ≡ true) × (r.2.waiting ≡ l.waiting))

same_stays : (k : ℕ) (l m : Lists) → open_of k m ≡ open_of k l → Stays k l m
same_stays k l m same = λ c on. ap (is_open_on c) same ∙ on

pub moved : (s t : CoreState) (l m : Lists) (e : ℕ × Waiting) (is : IsAwaited s l e) → IsIn is.waiter t.waiters → Keeps l m e e.1.request → IsAwaited t m e
moved s t l m e is stays keeps = record { waiter = is.waiter; waits = stays; number = is.number; own = is.own; alone = is.alone; smb = is.smb; asker = is.asker; under = under_still l m e e.1.request keeps is.under }

-- rows that were there
in_same : (l m : Lists) (x : ℕ × Waiting) → m.waiting ≡ l.waiting → IsIn x m.waiting → IsIn x l.waiting
in_same l m x same here = subst (λ (es : List (ℕ × Waiting)). IsIn x es) same here

-- where of the opens none but those of these numbers went
keeps_but : (numbers : List ℕ) (l m : Lists) (e : ℕ × Waiting) → IsIn e l.waiting → open_of e.1.opened m ≡ open_of e.1.opened l → list_any (nat_eq e.1.opened) numbers ≡ false → PlacesBut numbers l m → LeasesStay l m
    → ((x : ℕ × Waiting) → IsIn x m.waiting → IsIn x l.waiting) → Keeps l m e e.1.request
keeps_but numbers l m e here same apart places leases rows =
    keeps_by l m e e.1.request (same_stays e.1.opened l m same)
    (λ made is. record {
      places = places e here (ap makes_open is) apart;
      opens = λ free. ap (λ (o : Option Open). is_some o) same ∙ free;
      rows = λ x there makes at. rows x there;
      keyed = λ key own. used_still l m key made.file leases rows;
    })

pub key_in : (es : List (ℕ × Waiting)) (e : ℕ × Waiting) → IsIn e es → IsIn e.0 (keys_of es)
key_in [] e here = absurd here
key_in (x ∷ es) e here = elim here [ inl same ↦ inl (ap (λ (y : ℕ × Waiting). y.0) same) | inr rest ↦ inr (key_in es e rest) ]

ending_settles : (n : ℕ) (s : CoreState) (l lists : Lists) (answer : Answered) (going : List (ℕ × Option Party)) (e : ℕ × Waiting) → IsIn e l.waiting → lists.waiting ≡ l.waiting → ((k : ℕ) → list_any (nat_eq k) (numbers_in going) ≡ false → open_of k lists ≡ open_of k l) → PlacesBut (numbers_in going) l lists → LeasesStay l lists → IsAwaited s l e
    → Settled l (answer, all_told_of n s (ends going), lists, all_done n s (ends going)) e
ending_settles n s l lists answer going e here same opens places leases is =
    elim (cases_Bool (list_any (nat_eq e.1.opened) (numbers_in going))) [
      | inl gone ↦ (
          let over : is_cancelled is.waiter.id (all_told_of n s (ends going)) ≡ true = ends_tell n going s is.waiter is.waits (waits_some going is.waiter e.1.opened is.own gone) in
          inr (subst (λ (k : ℕ). is_cancelled k (all_told_of n s (ends going)) ≡ true) is.number over, same))
      | inr stays ↦ inl (moved s (all_done n s (ends going)) l lists e is (((done_without n going s).waiters is.waiter).1 (is.waits, waits_none going is.waiter e.1.opened is.alone stays)) (keeps_but (numbers_in going) l lists e here (opens e.1.opened stays) stays places leases (λ x there. in_same l lists x same there)))
    ]

pub cancelled_in : (id : ℕ) (ws : List Waiter) (w : Waiter) → IsIn w ws → eqb w.id id ≡ false → IsIn w (cancelled id ws)
cancelled_in id [] w here other = absurd here
cancelled_in id (v ∷ ws) w here other =
    elim (cases_Bool (eqb v.id id)) [
      | inl same ↦ rw same (elim here [ inl first ↦ absurd (true≢false (sym (ap (λ (x : Waiter). eqb x.id id) (sym first) ∙ same) ∙ other)) | inr rest ↦ rest ])
      | inr differs ↦ rw differs (elim here [ inl first ↦ inl first | inr rest ↦ inr (cancelled_in id ws w rest other) ])
    ]

cancel_settles : (n : ℕ) (s : CoreState) (l : Lists) (id : ℕ) (answer : Answered) (e : ℕ × Waiting) → IsAwaited s l e → Settled l (answer, all_told_of n s (Cancels id ∷ []), l, all_done n s (Cancels id ∷ [])) e
unfolding cancel_of
cancel_settles n s l id answer e is =
    elim (cases_Bool (eqb id e.0)) [
      | inl same ↦ inr (any_left (cancels e.0) (told_of_one id s.waiters) [] (subst (λ (k : ℕ). is_cancelled e.0 (told_of_one k s.waiters) ≡ true) (equal_from id e.0 same) (told_under is.waiter s.waiters e.0 is.waits is.number)), refl)
      | inr other ↦ (
          let apart : eqb is.waiter.id id ≡ false = subst (λ (k : ℕ). eqb k id ≡ false) (sym is.number) (unequal_both id e.0 other) in
          inl (moved s (cancel_of s id).1 l l e is (cancelled_in id s.waiters is.waiter is.waits apart) (keeps_self l e e.1.request)))
    ]

way_settles : (n : ℕ) (s : CoreState) (l lists : Lists) (deeds : List Deed) (answer : Answered) (e : ℕ × Waiting) → AreDistinct l → IsIn e l.waiting → lists.waiting ≡ l.waiting → Way s l deeds lists → IsAwaited s l e → Settled l (answer, all_told_of n s deeds, lists, all_done n s deeds) e
way_settles n s l lists deeds answer e distinct here same way is =
    elim way [
      | inl stays ↦ inl (moved s (all_done n s deeds) l lists e is (subst (λ (ws : List Waiter). IsIn is.waiter ws) (sym (stays.0 n)) is.waits) (keeps_all l lists e e.1.request stays.1 (same_leases l lists stays.3) (stays.2 e.1.place) (λ x there. in_same l lists x same there)))
      | inr more ↦ elim more [
        | inl ending ↦ subst (λ (ds : List Deed). Settled l (answer, all_told_of n s ds, lists, all_done n s ds) e) (sym ending.1) (ending_settles n s l lists answer ending.0 e here same ending.2 (ending.3 distinct) ending.4 is)
        | inr one ↦
            subst (λ (ds : List Deed). Settled l (answer, all_told_of n s ds, lists, all_done n s ds) e) (sym one.1)
            (subst (λ (m : Lists). Settled l (answer, all_told_of n s (Cancels one.0 ∷ []), m, all_done n s (Cancels one.0 ∷ [])) e) (sym one.2) (cancel_settles n s l one.0 answer e is))
      ]
    ]

-- who waited still does behind an ask, and so does who comes
pub asked_waits : (n : ℕ) (left : Rooms) (s : CoreState) (a : Ask) → IsGood s → is_client a.owner a.party ≡ true → (ask n left s a).2.waiters ≡ s.waiters ++ come_by a (ask n left s a).0 s.names
asked_waits n left s a good client =
    (ask_frame n left s a good client).waiters
    ∙ ap (λ (ids : List ℕ). all_cancelled ids s.waiters ++ come_by a (ask n left s a).0 s.names) (ap who_left (ask_quiet n left s a good client) ∙ way_leaves s.waiters (plea_of left s a) (asked_claims a (asked_whats a.act) s.names) s)

pub drawn_waits : (s : CoreState) → (drawn s).waiters ≡ s.waiters
unfolding drawn
drawn_waits s = refl

drawn_counter : (s : CoreState) → (drawn s).counter ≡ s.counter + 1
unfolding drawn
drawn_counter s = refl

still_open : (c k number : ℕ) (row : Open) (es : List (ℕ × Open)) (o : Option Open) → lookup (nat_eq k) es ≡ o → is_open_on c o ≡ true → is_open_on c (lookup (nat_eq k) (es ++ (number, row) ∷ [])) ≡ true
still_open c k number row es None at on = absurd (false≢true on)
still_open c k number row es (Some x) at on = ap (is_open_on c) (lookup_added (nat_eq k) es ((number, row) ∷ []) x at) ∙ on

-- no open of another number comes with it
still_free : (k number : ℕ) (row : Open) (es : List (ℕ × Open)) → eqb k number ≡ false → is_some (lookup (nat_eq k) es) ≡ false → is_some (lookup (nat_eq k) (es ++ (number, row) ∷ [])) ≡ false
still_free k number row [] apart free = rw apart refl
still_free k number row (x ∷ es) apart free =
    elim (cases_Bool (eqb k x.0)) [
      | inl here ↦ (let f : true ≡ false = rw here at free in absurd (true≢false f))
      | inr other ↦ rw other (still_free k number row es apart (rw other at free))
    ]

pub in_append : {A : Type 0} (e : A) (xs ys : List A) → IsIn e (xs ++ ys) → IsIn e xs ⊎ IsIn e ys
in_append e [] ys here = inr here
in_append e (x ∷ xs) ys here = elim here [ inl same ↦ inl (inl same) | inr rest ↦ elim (in_append e xs ys rest) [ inl old ↦ inl (inr old) | inr new ↦ inr new ] ]

-- of a request that waits the row comes behind the others
with_in : (room : Bool) (id : ℕ) (row : Waiting) (l : Lists) (e : ℕ × Waiting) → IsIn e (if room then waiting_added id row l else l).waiting → IsIn e l.waiting ⊎ IsIn e ((id, row) ∷ [])
with_in true id row l e here = in_append e l.waiting ((id, row) ∷ []) here
with_in false id row l e here = inl here

with_opens : (room : Bool) (id : ℕ) (row : Waiting) (l : Lists) → (if room then waiting_added id row l else l).opens ≡ l.opens
with_opens true id row l = refl
with_opens false id row l = refl

with_places : (room : Bool) (id : ℕ) (row : Waiting) (l : Lists) → AllPlaces l (if room then waiting_added id row l else l)
with_places true id row l place client here = here
with_places false id row l place client here = here

-- those who wait with a key have it on this request's file, where it makes an open under its lease
abbrev Agrees : Request → ℕ × Waiting → Type 0
Agrees r e = (key : LeaseKey) (file other : ℕ) → file_for key e.1.request ≡ Some file → file_for key r ≡ Some other → other ≡ file

with_leases : (room : Bool) (id : ℕ) (row : Waiting) (l : Lists) → (if room then waiting_added id row l else l).leases ≡ l.leases
with_leases true id row l = refl
with_leases false id row l = refl

-- the key stays in use on its file alone
with_used : (room : Bool) (id : ℕ) (row : Waiting) (l : Lists) (key : LeaseKey) (file : ℕ) → ((other : ℕ) → file_for key row.request ≡ Some other → other ≡ file) → IsUsedOn key file l → IsUsedOn key file (if room then waiting_added id row l else l)
with_used room id row l key file agrees used = record {
  leases = subst (λ (es : List (LeaseKey × LeaseRow)). AllByRecursion (IsOnFile key file) es) (sym (with_leases room id row l)) used.leases;
  waiting = λ x here other is. elim (with_in room id row l x here) [
    | inl old ↦ used.waiting x old other is
    | inr came ↦ elim came [ inl new ↦ agrees other (ap (λ (y : ℕ × Waiting). file_for key y.1.request) new ∙ is) | inr none ↦ absurd none ]
  ];
}

-- what keeps the others once a request came that makes no open, or one of another number
others_kept : (l : Lists) (id : ℕ) (row : Waiting) (e : ℕ × Waiting) → (makes_open e.1.request ≡ true → makes_open row.request ≡ true → row.opened ≡ e.1.opened → ⊥) → Agrees row.request e → Keeps l (with_waiting id row l) e e.1.request
others_kept l id row e apart agrees =
    let room : Bool = has_room_to_wait l id in
    let m : Lists = with_waiting id row l in
    let same : open_of e.1.opened m ≡ open_of e.1.opened l = ap (λ (es : List (ℕ × Open)). lookup (nat_eq e.1.opened) es) (with_opens room id row l) in
    keeps_by l m e e.1.request (same_stays e.1.opened l m same) (λ made is. record {
      places = with_places room id row l e.1.place;
      opens = λ free. ap (λ (o : Option Open). is_some o) same ∙ free;
      rows = λ x here makes_too at. elim (with_in room id row l x here) [
        | inl old ↦ old
        | inr came ↦ elim came [
          | inl is_new ↦ absurd (apart (ap makes_open is) (ap (λ (y : ℕ × Waiting). makes_open y.1.request) is_new ∙ makes_too) (ap (λ (y : ℕ × Waiting). y.1.opened) is_new ∙ at))
          | inr none ↦ absurd none
        ]
      ];
      keyed = λ key own used. with_used room id row l key made.file (λ other at. agrees key made.file other (ap (file_for key) is ∙ has_file key made own) at) used;
    })

-- who waited still does, and so does the request that comes
queued_settle : (t s : CoreState) (l : Lists) (a : Ask) (row : Waiting) (id : ℕ) (names : List Name) (e : ℕ × Waiting) → t.waiters ≡ s.waiters ++ come_by a (answers.Queued id) names → is_client a.owner a.party ≡ true → AsksFor a row.opened → ((x : ℕ × Waiting) → IsIn x l.waiting → IsAwaited s l x)
    → ((x : ℕ × Waiting) → IsIn x l.waiting → Keeps l (with_waiting id row l) x x.1.request) → IsAskerOf (asker_of a id names) row.opened row.request → IsUnder (with_waiting id row l) (id, row) row.request
    → IsIn e (with_waiting id row l).waiting → IsAwaited t (with_waiting id row l) e
queued_settle t s l a row id names e queue client asks all kept asker under here =
    let new : Waiter = asker_of a id names in
    let is_new = asks id names in
    let left : Lists = with_waiting id row l in
    elim (with_in (has_room_to_wait l id) id row l e here) [
      | inl old ↦ (let is = all e old in moved s t l left e is (subst (λ (ws : List Waiter). IsIn is.waiter ws) (sym queue) (in_append_left is.waiter s.waiters (new ∷ []) is.waits)) (kept e old))
      | inr came ↦ elim came [
        | inl same ↦ subst (λ (x : ℕ × Waiting). IsAwaited t left x) same (record {
          waiter = new;
          waits = subst (λ (ws : List Waiter). IsIn new ws) (sym queue) (in_append_right new s.waiters (new ∷ []) (inl refl));
          number = refl;
          own = is_new.0;
          alone = is_new.1;
          smb = asks_of_smb a id row.opened names client is_new.0;
          asker = asker;
          under = under;
        })
        | inr none ↦ absurd none
      ]
    ]

-- a LOCK that comes makes no open
lock_queued : (t s : CoreState) (l : Lists) (a : Ask) (row : Waiting) (id : ℕ) (names : List Name) (e : ℕ × Waiting) → t.waiters ≡ s.waiters ++ come_by a (answers.Queued id) names → IsAsked l a row → ((x : ℕ × Waiting) → IsIn x l.waiting → IsAwaited s l x)
    → IsIn e (with_waiting id row l).waiting → IsAwaited t (with_waiting id row l) e
lock_queued t s l a row id names e queue asks all here =
    let m : Lists = with_waiting id row l in
    queued_settle t s l a row id names e queue asks.0 asks.1 all (λ x old. others_kept l id row x (λ makes made same. true≢false (sym made ∙ ap makes_open asks.2)) (λ key file other at it. absurd (none_some (ap (file_for key) (sym asks.2) ∙ it))))
    (subst (λ (r : Request). IsAskerOf (asker_of a id names) row.opened r) (sym asks.2) tt)
    (subst (λ (r : Request). IsUnder m (id, row) r) (sym asks.2) (ap (λ (es : List (ℕ × Open)). is_open_on row.place.connection (lookup (nat_eq row.opened) es)) (with_opens (has_room_to_wait l id) id row l) ∙ asks.3))
    here

-- an open that waits to be made has a number below the last that was given out
made_before : (s : CoreState) (l : Lists) (e : ℕ × Waiting) → IsGood s → IsAwaited s l e → makes_open e.1.request ≡ true → e.1.opened < s.counter
made_before s l e good is makes =
    let known : is.waiter.id ≤ s.counter = (all_in (IsWaiter s.names s.counter) is.waiter s.waiters good.waiters is.waits).0 in
    omega (arith, by e.1.request makes is.under, is.number, known)
  where
    by : (r : Request) → makes_open r ≡ true → IsUnder l e r → e.1.opened < e.0
    by request.Lock makes under = absurd (false≢true makes)
    by (request.Create made) makes under = under.earlier

-- nor has it the next one
not_next : (s : CoreState) (l : Lists) (e : ℕ × Waiting) (number : ℕ) → IsGood s → IsAwaited s l e → makes_open e.1.request ≡ true → number ≡ s.counter + 1 → number ≡ e.1.opened → ⊥
not_next s l e number good is makes next same = absurd (omega (arith, made_before s l e good is makes, next, same))

-- each that waits has its key in use on its file alone
all_used : (s : CoreState) (l : Lists) → ((x : ℕ × Waiting) → IsIn x l.waiting → IsAwaited s l x) → AllUsed l
all_used s l all x here key file at = used_by l x x.1.request key file (all x here).under at

-- so has the open that is asked for, and those who wait with its key agree with it
used_new : (s : CoreState) (l : Lists) (a : Ask) (number : ℕ) (row : Open) (waiting : Waiting) → AreDistinct l → IsNew s l a number row waiting → ((x : ℕ × Waiting) → IsIn x l.waiting → IsAwaited s l x) → (key : LeaseKey) → is_key key row.client row.lease ≡ true → IsUsedOn key row.file l
used_new s l a number row waiting distinct new before key own = used_for l row key (all_used s l before) distinct.leases new.unused own

agrees_row : (s : CoreState) (l : Lists) (a : Ask) (number : ℕ) (row : Open) (waiting : Waiting) → AreDistinct l → IsNew s l a number row waiting → ((x : ℕ × Waiting) → IsIn x l.waiting → IsAwaited s l x) → (x : ℕ × Waiting) → IsIn x l.waiting → Agrees (request.Create row) x
agrees_row s l a number row waiting distinct new before x here key file other at it =
    let own = own_file key other row it in
    sym own.1 ∙ sym ((used_new s l a number row waiting distinct new before key own.0).waiting x here file at)

agrees_new : (s : CoreState) (l : Lists) (a : Ask) (number : ℕ) (row : Open) (waiting : Waiting) → AreDistinct l → IsNew s l a number row waiting → ((x : ℕ × Waiting) → IsIn x l.waiting → IsAwaited s l x) → (x : ℕ × Waiting) → IsIn x l.waiting → Agrees waiting.request x
agrees_new s l a number row waiting distinct new before x here = subst (λ (r : Request). Agrees r x) (sym new.makes) (agrees_row s l a number row waiting distinct new before x here)

-- a CREATE that comes waits to make the open of the next number
create_queued : (t s u : CoreState) (l : Lists) (a : Ask) (number : ℕ) (row : Open) (waiting : Waiting) (id : ℕ) (names : List Name) (e : ℕ × Waiting) → t.waiters ≡ u.waiters ++ come_by a (answers.Queued id) names → IsGood s → AreDistinct l → number < id → IsNew s l a number row waiting
    → ((x : ℕ × Waiting) → IsIn x l.waiting → IsAwaited s l x) → ((x : ℕ × Waiting) → IsIn x l.waiting → IsAwaited u l x) → IsIn e (with_waiting id waiting l).waiting → IsAwaited t (with_waiting id waiting l) e
create_queued t s u l a number row waiting id names e queue good distinct later new before all here =
    let m : Lists = with_waiting id waiting l in
    let room : Bool = has_room_to_wait l id in
    let used = used_new s l a number row waiting distinct new before in
    queued_settle t u l a waiting id names e queue new.client new.asks all (λ x old. others_kept l id waiting x (λ makes made same. not_next s l x number good (before x old) makes new.next (sym new.opened ∙ same)) (agrees_new s l a number row waiting distinct new before x old))
    (subst (λ (r : Request). IsAskerOf (asker_of a id names) waiting.opened r) (sym new.makes) (subst (λ (k : ℕ). AsksToOpen (asker_of a id names) k row) (sym new.opened) (new.asker id names)))
    (subst (λ (r : Request). IsUnder m (id, waiting) r) (sym new.makes) (record {
      held = new.held;
      place = with_places room id waiting l waiting.place row.client new.place;
      free = ap (λ (es : List (ℕ × Open)). is_some (lookup (nat_eq waiting.opened) es)) (with_opens room id waiting l) ∙ ap (λ (k : ℕ). is_some (open_of k l)) new.opened ∙ new.free;
      earlier = subst (λ (k : ℕ). k < id) (sym new.opened) later;
      single = λ x there makes same. elim (with_in room id waiting l x there) [
        | inl old ↦ absurd (not_next s l x number good (before x old) makes new.next (sym new.opened ∙ sym same))
        | inr came ↦ elim came [ inl is_new ↦ ap (λ (y : ℕ × Waiting). y.0) (sym is_new) | inr none ↦ absurd none ]
      ];
      keyed = λ key own. with_used room id waiting l key row.file (λ other at. sym (own_file key other row (ap (file_for key) (sym new.makes) ∙ at)).1) (used key own);
    }))
    here

-- nobody comes, and of opens none goes
kept_settle : (t s : CoreState) (l m : Lists) (a : Ask) (answer : Answer) (names : List Name) (e : ℕ × Waiting) → t.waiters ≡ s.waiters ++ come_by a answer names → Keeps l m e e.1.request → IsAwaited s l e → IsAwaited t m e
kept_settle t s l m a answer names e queue stays is = moved s t l m e is (subst (λ (ws : List Waiter). IsIn is.waiter ws) (sym queue) (in_append_left is.waiter s.waiters (come_by a answer names) is.waits)) stays

still_waits : (t s : CoreState) (l : Lists) (a : Ask) (answer : Answer) (names : List Name) (e : ℕ × Waiting) → t.waiters ≡ s.waiters ++ come_by a answer names → IsAwaited s l e → IsAwaited t l e
still_waits t s l a answer names e queue is = kept_settle t s l l a answer names e queue (keeps_self l e e.1.request) is

locked_settle : (t s : CoreState) (l : Lists) (a : Ask) (row : Waiting) (answer : Answer) (names : List Name) (e : ℕ × Waiting) → t.waiters ≡ s.waiters ++ come_by a answer names → IsAsked l a row → ((x : ℕ × Waiting) → IsIn x l.waiting → IsAwaited s l x) → IsIn e (lists_as row l (lock_told answer)).waiting → IsAwaited t (lists_as row l (lock_told answer)) e
locked_settle t s l a row (answers.Queued id) names e queue asks all here = lock_queued t s l a row id names e queue asks all here
locked_settle t s l a row (answers.Granted c) names e queue asks all here = still_waits t s l a (answers.Granted c) names e queue (all e here)
locked_settle t s l a row (answers.Conflict c) names e queue asks all here = still_waits t s l a (answers.Conflict c) names e queue (all e here)
locked_settle t s l a row (answers.Recall c) names e queue asks all here = still_waits t s l a (answers.Recall c) names e queue (all e here)
locked_settle t s l a row (answers.Grace until) names e queue asks all here = still_waits t s l a (answers.Grace until) names e queue (all e here)
locked_settle t s l a row (answers.NoGrace clock) names e queue asks all here = still_waits t s l a (answers.NoGrace clock) names e queue (all e here)
locked_settle t s l a row answers.NotRecorded names e queue asks all here = still_waits t s l a answers.NotRecorded names e queue (all e here)
locked_settle t s l a row (answers.Full limit) names e queue asks all here = still_waits t s l a (answers.Full limit) names e queue (all e here)
locked_settle t s l a row answers.NotHeld names e queue asks all here = still_waits t s l a answers.NotHeld names e queue (all e here)
locked_settle t s l a row answers.StoreFailed names e queue asks all here = still_waits t s l a answers.StoreFailed names e queue (all e here)

-- the open of the next number stands beside those that wait to be made
came_places : (number : ℕ) (row : Open) (l : Lists) → AllPlaces l (with_open number row l)
came_places number row l place client here =
    let same = with_keeps number row l in
    same_places place client l (with_open number row l) (ap (λ (m : Lists). m.trees) same) (ap (λ (m : Lists). m.connections) same) here

came_open : (c k number : ℕ) (row : Open) (l : Lists) → is_open_on c (open_of k l) ≡ true → is_open_on c (open_of k (with_open number row l)) ≡ true
came_open c k number row l on = ap (λ (m : Lists). is_open_on c (open_of k m)) (with_keeps number row l) ∙ still_open c k number row l.opens (open_of k l) refl on

came_free : (k number : ℕ) (row : Open) (l : Lists) → eqb k number ≡ false → is_some (open_of k l) ≡ false → is_some (open_of k (with_open number row l)) ≡ false
came_free k number row l apart free = ap (λ (m : Lists). is_some (open_of k m)) (with_keeps number row l) ∙ still_free k number row l.opens apart free

came_waiting : (number : ℕ) (row : Open) (l : Lists) (x : ℕ × Waiting) → IsIn x (with_open number row l).waiting → IsIn x l.waiting
came_waiting number row l x here = subst (λ (es : List (ℕ × Waiting)). IsIn x es) (ap (λ (m : Lists). m.waiting) (with_keeps number row l)) here

came_used : (key : LeaseKey) (file number : ℕ) (row : Open) (l : Lists) → (is_key key row.client row.lease ≡ true → row.file ≡ file) → IsUsedOn key file l → IsUsedOn key file (with_open number row l)
came_used key file number row l same used = record { leases = came_on key file number row l same used.leases; waiting = λ x here other is. used.waiting x (came_waiting number row l x here) other is }

stood_beside : (s : CoreState) (l : Lists) (number : ℕ) (row : Open) (e : ℕ × Waiting) → IsGood s → number ≡ s.counter + 1 → IsAwaited s l e → Agrees (request.Create row) e → Keeps l (with_open number row l) e e.1.request
stood_beside s l number row e good next is agrees =
    keeps_by l (with_open number row l) e e.1.request (λ k on. came_open k e.1.opened number row l on) (λ made it. record {
      places = λ client here. came_places number row l e.1.place client here;
      opens = λ free. came_free e.1.opened number row l (apart (eqb e.1.opened number) refl (ap makes_open it)) free;
      rows = λ x here m at. came_waiting number row l x here;
      keyed = λ key own used. came_used key made.file number row l (λ mine. agrees key made.file row.file (ap (file_for key) it ∙ has_file key made own) (has_file key row mine)) used;
    })
  where
    apart : (b : Bool) → eqb e.1.opened number ≡ b → makes_open e.1.request ≡ true → eqb e.1.opened number ≡ false
    apart false at makes = at
    apart true at makes = absurd (not_next s l e number good is makes next (equal_from e.1.opened number at))

opened_settle : (t s u : CoreState) (l : Lists) (a : Ask) (number : ℕ) (row : Open) (waiting : Waiting) (answer : Answer) (names : List Name) (e : ℕ × Waiting) → t.waiters ≡ u.waiters ++ come_by a answer names → IsGood s → AreDistinct l → ((id : ℕ) → answer ≡ answers.Queued id → number < id) → IsNew s l a number row waiting
    → ((x : ℕ × Waiting) → IsIn x l.waiting → IsAwaited s l x) → ((x : ℕ × Waiting) → IsIn x l.waiting → IsAwaited u l x) → IsIn e (opened_lists l number row waiting answer).waiting → IsAwaited t (opened_lists l number row waiting answer) e
opened_settle t s u l a number row waiting (answers.Granted c) names e queue good distinct later new before all here =
    let old : IsIn e l.waiting = came_waiting number row l e here in
    kept_settle t u l (with_open number row l) a (answers.Granted c) names e queue (stood_beside s l number row e good new.next (before e old) (agrees_row s l a number row waiting distinct new before e old)) (all e old)
opened_settle t s u l a number row waiting (answers.Queued id) names e queue good distinct later new before all here = create_queued t s u l a number row waiting id names e queue good distinct (later id refl) new before all here
opened_settle t s u l a number row waiting (answers.Conflict c) names e queue good distinct later new before all here = still_waits t u l a (answers.Conflict c) names e queue (all e here)
opened_settle t s u l a number row waiting (answers.Recall c) names e queue good distinct later new before all here = still_waits t u l a (answers.Recall c) names e queue (all e here)
opened_settle t s u l a number row waiting (answers.Grace until) names e queue good distinct later new before all here = still_waits t u l a (answers.Grace until) names e queue (all e here)
opened_settle t s u l a number row waiting (answers.NoGrace clock) names e queue good distinct later new before all here = still_waits t u l a (answers.NoGrace clock) names e queue (all e here)
opened_settle t s u l a number row waiting answers.NotRecorded names e queue good distinct later new before all here = still_waits t u l a answers.NotRecorded names e queue (all e here)
opened_settle t s u l a number row waiting (answers.Full limit) names e queue good distinct later new before all here = still_waits t u l a (answers.Full limit) names e queue (all e here)
opened_settle t s u l a number row waiting answers.NotHeld names e queue good distinct later new before all here = still_waits t u l a answers.NotHeld names e queue (all e here)
opened_settle t s u l a number row waiting answers.StoreFailed names e queue good distinct later new before all here = still_waits t u l a answers.StoreFailed names e queue (all e here)

pub drawn_awaited : (s : CoreState) (l : Lists) (e : ℕ × Waiting) → IsAwaited s l e → IsAwaited (drawn s) l e
drawn_awaited s l e is = moved s (drawn s) l l e is (subst (λ (ws : List Waiter). IsIn is.waiter ws) (sym (drawn_waits s)) is.waits) (keeps_self l e e.1.request)

carried_settles : (n : ℕ) (s : CoreState) (l : Lists) (plan : Plan) (e : ℕ × Waiting) → IsGood s → AreDistinct l → AreAwaited s l → Sorts s l plan → IsIn e (carried n s l plan).2.waiting → Settled l (carried n s l plan) e
carried_settles n s l (Fails status) e good distinct all sorts here = inl (all_in (IsAwaited s l) e l.waiting all here)
carried_settles n s l (Does deeds lists told) e good distinct all sorts here =
    let old : IsIn e l.waiting = subst (λ (es : List (ℕ × Waiting)). IsIn e es) sorts.0 here in
    way_settles n s l lists deeds told e distinct old sorts.0 sorts.1 (all_in (IsAwaited s l) e l.waiting all old)
carried_settles n s l (Opens left a number row id waiting) e good distinct all sorts here =
    let u : CoreState = drawn s in
    let r = ask n left u a in
    inl (opened_settle r.2 s u l a number row waiting r.0 u.names e (asked_waits n left u a (deeds_good n s (Draws ∷ []) good (tt, tt)) sorts.client) good distinct
    (λ k at. omega (arith, sorts.next, drawn_counter s, queued_after n left u a k (deeds_good n s (Draws ∷ []) good (tt, tt)) sorts.client at)) sorts
    (λ x h. all_in (IsAwaited s l) x l.waiting all h) (λ x h. drawn_awaited s l x (all_in (IsAwaited s l) x l.waiting all h)) here)
carried_settles n s l (Locks a row) e good distinct all sorts here =
    let r = ask n no_rows s a in
    inl (locked_settle r.2 s l a row r.0 s.names e (asked_waits n no_rows s a good sorts.0) sorts (λ x h. all_in (IsAwaited s l) x l.waiting all h) here)

-- ---- so it is once those that were cancelled are gone

-- of the lists the requests alone change
dismissed_places : (told : List Effect) (ids : List ℕ) (l : Lists) → AllPlaces l (dismissed told ids l).1
dismissed_places told ids l place client here =
    let same = dismissed_keeps told ids l in
    same_places place client l (dismissed told ids l).1 (ap (λ (m : Lists). m.trees) same) (ap (λ (m : Lists). m.connections) same) here

dismissed_kept : (told : List Effect) (ids : List ℕ) (l : Lists) (e : ℕ × Waiting) → Keeps l (dismissed told ids l).1 e e.1.request
dismissed_kept told ids l e = keeps_all l (dismissed told ids l).1 e e.1.request (dismissed_opens told ids l) (same_leases l (dismissed told ids l).1 (ap (λ (m : Lists). m.leases) (dismissed_keeps told ids l))) (dismissed_places told ids l e.1.place) (dismissed_in told ids l)

answered_awaited : (n : ℕ) (s : CoreState) (l : Lists) (plan : Plan) → IsGood s → AreDistinct l → AreAwaited s l → Sorts s l plan → AreAwaited (carried n s l plan).3 (all_dismissed (carried n s l plan).1 (carried n s l plan).2).1
answered_awaited n s l plan good distinct all sorts =
    let r = carried n s l plan in
    let ids : List ℕ = keys_of r.2.waiting in
    let left : Lists = (dismissed r.1 ids r.2).1 in
    all_from (IsAwaited r.3 left) left.waiting (λ e here.
    (let there : IsIn e r.2.waiting = dismissed_in r.1 ids r.2 e here in
    elim (carried_settles n s l plan e good distinct all sorts there) [
      | inl is ↦ moved r.3 r.3 r.2 left e is is.waits (dismissed_kept r.1 ids r.2 e)
      | inr over ↦ absurd (dismissed_out r.1 ids r.2 e (subst (λ (es : List (ℕ × Waiting)). IsDistinct nat_eq (keys_of es)) (sym over.1) distinct.waiting) (key_in r.2.waiting e there) over.0 here)
    ]))

-- ---- opens that end

closed_apart : (k : ℕ) (numbers : List ℕ) (l : Lists) → list_any (nat_eq k) numbers ≡ false → open_of k (all_closed numbers l) ≡ open_of k l
closed_apart k [] l apart = refl
closed_apart k (number ∷ numbers) l apart =
    elim (cases_Bool (eqb k number)) [
      | inl same ↦ (let f : true ≡ false = rw same at apart in absurd (true≢false f))
      | inr other ↦ closed_apart k numbers (closed number l) (rw other at apart) ∙ lookup_removed k number l.opens (unequal_both k number other)
    ]

-- those that end are no fewer than those that are closed
closed_but : (k : ℕ) (under : Scope) (l : Lists) → list_any (nat_eq k) (numbers_under under l) ≡ false → open_of k (all_closed (opens_under under l) l) ≡ open_of k l
closed_but k under l apart = closed_apart k (opens_under under l) l (none_first (nat_eq k) (opens_under under l) (creates_under under l) apart)

-- who is none of those that are closed is under it no more than a request is that waits to make one
out_under : (names : List Name) (k : ℕ) (under : Scope) (l : Lists) → list_any (nat_eq k) (numbers_in (leavers_under names under l)) ≡ false → list_any (nat_eq k) (numbers_under under l) ≡ false
out_under names k under l apart = ap (list_any (nat_eq k)) (sym (numbers_going names under l)) ∙ apart

-- ---- unlocks: nobody who waits goes

freed_waits : (s : CoreState) (claim : Claim) (o : Option Claim) → (freed s claim o).2.waiters ≡ s.waiters
freed_waits s claim None = refl
freed_waits s claim (Some c) = refl

unlocked_waits : (s : CoreState) (claim : Claim) (x : Extent) → posix claim.owner ≡ false → (unlocked s claim x).2.waiters ≡ s.waiters
unfolding unlocked
unlocked_waits s claim (Bytes first last) own = rw own (freed_waits s claim _)
unlocked_waits s claim (Empty offset) own = freed_waits s claim _

decided_waits : (n : ℕ) (s : CoreState) (number : ℕ) (row : Open) (e : LockElement) → (decided n no_rows s (unlock_ask number row e)).2.waiters ≡ s.waiters
unfolding decided unlock_ask
decided_waits n s number row e = unlocked_waits s _ (extent_of e) refl

unlock_leaves_waiters : (n : ℕ) (s : CoreState) (number : ℕ) (row : Open) (e : LockElement) → (ask n no_rows s (unlock_ask number row e)).2.waiters ≡ s.waiters
unfolding unlock_ask decided
unlock_leaves_waiters n s number row e = ap (λ (r : Asked). r.2.waiters) (ask_there n no_rows s (unlock_ask number row e) (no_way s number row e)) ∙ decided_waits n s number row e

one_waits : (n : ℕ) (s : CoreState) (a : Ask) (answer : Answer) (rest : List Deed × Locking) → (ask n no_rows s a).2.waiters ≡ s.waiters → (all_done n (ask n no_rows s a).2 rest.0).waiters ≡ s.waiters → (all_done n s (unlock_told a answer rest).0).waiters ≡ s.waiters
one_waits n s a (answers.Granted c) rest first more = more
one_waits n s a (answers.Conflict c) rest first more = first
one_waits n s a (answers.Queued id) rest first more = first
one_waits n s a (answers.Recall c) rest first more = first
one_waits n s a (answers.Grace until) rest first more = first
one_waits n s a (answers.NoGrace clock) rest first more = first
one_waits n s a answers.NotRecorded rest first more = first
one_waits n s a (answers.Full limit) rest first more = first
one_waits n s a answers.NotHeld rest first more = first
one_waits n s a answers.StoreFailed rest first more = first

next_waits : (n : ℕ) (s : CoreState) (fault : Option SmbStatus) (next : List Deed × Locking) → (all_done n s next.0).waiters ≡ s.waiters → (all_done n s (unlock_next fault next).0).waiters ≡ s.waiters
next_waits n s None next same = same
next_waits n s (Some status) next same = refl

unlocks_wait : (n : ℕ) (s : CoreState) (number : ℕ) (row : Open) (es : List LockElement) → (all_done n s (unlocks s number row es).0).waiters ≡ s.waiters
unlocks_wait n s number row [] = refl
unlocks_wait n s number row (e ∷ es) =
    let a = unlock_ask number row e in
    let r = ask 0 no_rows s a in
    let rest = unlocks r.2 number row es in
    next_waits n s (unlock_fault e) (unlock_told a r.0 rest)
    (one_waits n s a r.0 rest (unlock_leaves_waiters n s number row e) (subst (λ (x : CoreState). (all_done n x rest.0).waiters ≡ s.waiters) (sym (ap (λ (x : Answer × List Effect × CoreState). x.2) (any_stores n s number row e))) (unlocks_wait n r.2 number row es ∙ unlock_leaves_waiters 0 s number row e)))

-- ---- locks

alone_for : (a : Ask) (names : List Name) (number k : ℕ) (xs : List What) → a.owner ≡ who.Open number → list_any (λ (c : Claim). same_owners c.owner (owners.Open k)) (asked_claims a xs names) ≡ true → k ≡ number
alone_for a names number k [] is any = absurd (false≢true any)
alone_for a names number k (x ∷ xs) is any =
    elim (cases_Bool (same_owners (asker a names) (owners.Open k))) [
      | inl same ↦ sym (eqb-true number k (sym (ap (λ (w : Who). same_owners (owner_in w names) (owners.Open k)) is) ∙ same))
      | inr other ↦ alone_for a names number k xs is (rw other at any)
    ]

own_for : (a : Ask) (names : List Name) (number : ℕ) (x : What) (xs : List What) → a.owner ≡ who.Open number → list_any (λ (c : Claim). same_owners c.owner (owners.Open number)) (asked_claims a (x ∷ xs) names) ≡ true
own_for a names number x xs is =
    let same : same_owners (asker a names) (owners.Open number) ≡ true = ap (λ (w : Who). same_owners (owner_in w names) (owners.Open number)) is ∙ equal_self number in
    rw same refl

asks_for : (conn number : ℕ) (row : Open) (es : List LockElement) → is_count (length es) ≡ true → AsksFor (lock_ask conn number row es) number
unfolding lock_ask waits_as
asks_for conn number row [] count = absurd (false≢true count)
asks_for conn number row (e ∷ es) count = λ id names.
    (own_for (lock_ask conn number row (e ∷ es)) names number (range_what (range_of e)) (map range_what (map range_of es)) refl, λ k any. alone_for (lock_ask conn number row (e ∷ es)) names number k (map range_what (map range_of (e ∷ es))) refl any)

lock_client : (conn number : ℕ) (row : Open) (es : List LockElement) → is_client (lock_ask conn number row es).owner (lock_ask conn number row es).party ≡ true
unfolding lock_ask
lock_client conn number row es = party_fits number row

made_for : (conn number : ℕ) (row : Open) (c : CreateCallItem) → AsksFor (open_ask conn number row c) number
unfolding open_ask waits_as
made_for conn number row c = λ id names.
    let a = open_ask conn number row c in
    let what = whats.Share (access_of c.desired_access) (deny_of (access_of c.desired_access) c.share_access) in
    (own_for a names number what [] refl, λ k any. alone_for a names number k (what ∷ []) refl any)

open_client : (conn number : ℕ) (row : Open) (c : CreateCallItem) → is_client (open_ask conn number row c).owner (open_ask conn number row c).party ≡ true
unfolding open_ask
open_client conn number row c = party_fits number row

share_asked : (conn number : ℕ) (row : Open) (c : CreateCallItem) (id : ℕ) (names : List Name) → AsksToOpen (asker_of (open_ask conn number row c) id names) number row
unfolding open_ask
share_asked conn number row c id names = record {
  claim = asked_claim (open_ask conn number row c) (whats.Share (access_of c.desired_access) (deny_of (access_of c.desired_access) c.share_access)) names;
  asked = refl;
  share = refl;
  file = refl;
  owner = refl;
  row = refl;
}

-- ---- each command

-- the lists stand
nothing_sorts : (s : CoreState) (l : Lists) (answer : Answered) → Sorts s l (Does [] l answer)
nothing_sorts s l answer = (refl, inl ((λ n. refl), refl, (λ place client here. here), refl))

draw_sorts : (s : CoreState) (l lists : Lists) (answer : Answered) → lists.waiting ≡ l.waiting → lists.opens ≡ l.opens → lists.leases ≡ l.leases → AllPlaces l lists → Sorts s l (Does (Draws ∷ []) lists answer)
draw_sorts s l lists answer rows opens leases places = (rows, inl ((λ n. drawn_waits s), opens, places, leases))

negotiate_sorts : (s : CoreState) (l : Lists) (conn : ℕ) (c : NegotiateCallItem) → Sorts s l (negotiate l conn c)
unfolding negotiate
negotiate_sorts s l conn c =
    let row : Connection = record { client = Some c.client_guid } in
    walk_refused (Sorts s l) (λ refusal. tt) ((not (is_fresh (connection_of conn l)), statuses.InvalidParameter) ∷ (length (dialects_of c.dialects) == 0, statuses.InvalidParameter) ∷ (not (offers c.dialects), statuses.NotSupported) ∷ [])
    (Does [] (connection_changed conn row l) told.Negotiated)
    (λ all. (refl, inl ((λ n. refl), refl, (λ place client here. changed_place conn row l place client (not_false (is_fresh (connection_of conn l)) all.0) here), refl)))

set_up_by : (s : CoreState) (l : Lists) (conn : ℕ) (room : Bool) → Sorts s l (if room then set_up_as s l conn (s.counter + 1) else Fails statuses.InsufficientResources)
set_up_by s l conn true = draw_sorts s l (session_added (s.counter + 1) (record { connection = conn }) l) (told.SetUp (id_of s (s.counter + 1))) refl refl refl (λ place client here. here)
set_up_by s l conn false = tt

setup_by : (s : CoreState) (l : Lists) (conn : ℕ) (h : SmbHead) (new : Bool) → h.session_id == 0 ≡ new → Sorts s l (session_setup s l conn h)
unfolding session_setup
setup_by s l conn h true is = rw is (set_up_by s l conn (has_room_for_session l conn (s.counter + 1)))
setup_by s l conn h false is = rw is (by_session (Sorts s l) (λ number. is_session_on conn (session_of number l)) (λ session. Does [] l (told.SetUp h.session_id)) (number_in s h.session_id) tt (λ k on. nothing_sorts s l (told.SetUp h.session_id)))

logoff_sorts : (s : CoreState) (l : Lists) (conn : ℕ) (h : SmbHead) → Sorts s l (logoff s l conn h)
unfolding logoff
logoff_sorts s l conn h =
    by_session (Sorts s l) (λ number. is_session_on conn (session_of number l)) _ (number_in s h.session_id) tt
    (λ k on.
    (let closes : Lists = all_closed (opens_under (scope.Session k) l) l in (
      gone_waiting k closes ∙ closed_waiting (opens_under (scope.Session k) l) l,
      inr (inl (
        leavers_under s.names (scope.Session k) l,
        refl,
        (λ j apart. ap (λ (es : List (ℕ × Open)). lookup (nat_eq j) es) (gone_opens k closes) ∙ closed_but j (scope.Session k) l (out_under s.names j (scope.Session k) l apart)),
        (λ distinct e here makes apart client stands. logged_off_place (opens_under (scope.Session k) l) k l e.1.place client distinct (apart_under (scope.Session k) l e here makes (out_under s.names e.1.opened (scope.Session k) l apart)) stands),
        (λ key file all. same_leases closes (session_gone k closes) (gone_leases k closes) key file (closed_leases (opens_under (scope.Session k) l) l key file all)),
      )),
    )))

connect_sorts : (s : CoreState) (l : Lists) (conn : ℕ) (h : SmbHead) (path : List ℕ) → Sorts s l (tree_connect s l conn h path)
unfolding tree_connect
connect_sorts s l conn h path =
    by_session (Sorts s l) (λ number. is_session_on conn (session_of number l)) (connect s l conn path) (number_in s h.session_id) tt
    (λ k on. walk_refused (Sorts s l) (λ refusal. tt) ((not (has_room_for_tree l conn (s.counter + 1)), statuses.InsufficientResources) ∷ (not (is_share path), statuses.BadNetworkName) ∷ []) (connect_as l conn k (s.counter + 1))
    (λ all. draw_sorts s l (tree_added (s.counter + 1) (record { connection = conn; session = k }) l) (told.Connected (s.counter + 1)) refl refl refl (λ place client here. tree_place (s.counter + 1) (record { connection = conn; session = k }) l place client here)))

disconnect_sorts : (s : CoreState) (l : Lists) (conn : ℕ) (client : List ℕ) (h : SmbHead) → Sorts s l (tree_disconnect s l conn client h)
unfolding tree_disconnect
disconnect_sorts s l conn client h =
    by_session (Sorts s l) (λ number. is_session_on conn (session_of number l)) _ (number_in s h.session_id) tt
    (λ k on. by_tree (Sorts s l) (disconnect s l) _ (has_place _ client l) tt (λ there. (
      closed_waiting (opens_under (scope.Tree _) l) l,
      inr (inl (
        leavers_under s.names (scope.Tree _) l,
        refl,
        (λ j apart. closed_but j (scope.Tree _) l (out_under s.names j (scope.Tree _) l apart)),
        (λ distinct e here makes apart client stands. disconnected_place (opens_under (scope.Tree _) l) _ l e.1.place client (apart_under (scope.Tree _) l e here makes (out_under s.names e.1.opened (scope.Tree _) l apart)) stands),
        closed_leases (opens_under (scope.Tree _) l) l,
      )),
    )))

opens_sorts : (s : CoreState) (others : ℕ) (l : Lists) (h : SmbHead) (client : List ℕ) (place : Place) (c : CreateCallItem) (file : ℕ) → has_place place client l ≡ true → is_key_elsewhere file (lease_key client (key_asked c)) l ≡ false → has_room_for_open others l (s.counter + 1) ≡ true → Sorts s l (open_as s others l h client place c file (s.counter + 1))
opens_sorts s others l h client place c file there unused is = record {
  client = open_client place.connection (s.counter + 1) (open_row file client place c) c;
  asks = made_for place.connection (s.counter + 1) (open_row file client place c) c;
  opened = refl;
  next = refl;
  makes = refl;
  held = refl;
  place = there;
  free = second (nat_lt (all_opens others l) most_opens) (is_some (open_of (s.counter + 1) l)) is;
  unused = unused;
  asker = share_asked place.connection (s.counter + 1) (open_row file client place c) c;
}
  where
    second : (a b : Bool) → (a && not b) ≡ true → b ≡ false
    second true false h = refl
    second true true h = absurd (false≢true h)
    second false b h = absurd (false≢true h)

create_sorts : (s : CoreState) (files : List (List ℕ)) (others : ℕ) (l : Lists) (conn : ℕ) (client : List ℕ) (h : SmbHead) (c : CreateCallItem) → Sorts s l (create s files others l conn client h c)
create_sorts s files others l conn client h c = walk_create (Sorts s l) (λ refusal. tt) s files others l conn client h c (λ place file on there unused room. opens_sorts s others l h client place c file there unused room)

close_open_sorts : (s : CoreState) (l : Lists) (number : ℕ) → Sorts s l (close_open s l number)
close_open_sorts s l number = (refl, inr (inl ((number, party_going s.names l number) ∷ [], refl, (λ j apart. closed_apart j (number ∷ []) l apart), (λ distinct e here makes apart client stands. closed_place (number ∷ []) l e.1.place client stands), closed_leases (number ∷ []) l)))

close_sorts : (s : CoreState) (l : Lists) (conn : ℕ) (client : List ℕ) (h : SmbHead) (id : FileId) → Sorts s l (close s l conn client h id)
unfolding close
close_sorts s l conn client h id =
    by_session (Sorts s l) (λ number. is_session_on conn (session_of number l)) _ (number_in s h.session_id) tt
    (λ k on. by_tree (Sorts s l) _ _ (has_place _ client l) tt (λ there. by_open (Sorts s l) (λ number. is_open_on conn (open_of number l)) (close_open s l) (file_number s id) tt (λ number under. close_open_sorts s l number)))

lock_sorts : (s : CoreState) (l : Lists) (conn : ℕ) (client : List ℕ) (h : SmbHead) (c : LockItem) → Sorts s l (lock s l conn client h c)
lock_sorts s l conn client h c =
    let es = elements_of c.elements in
    walk_lock (Sorts s l) (λ refusal. tt) s l conn client h c
    (λ number row at on. (refl, inl ((λ n. unlocks_wait n s number row es), refl, (λ p client here. here), refl)))
    (λ place number row at on count sound. (
      lock_client conn number row es,
      asks_for conn number row es count,
      refl,
      ap (λ (k : ℕ). is_open_on k (open_of number l)) (stands_on conn row.holder place row refl on) ∙ ap (is_open_on conn) at ∙ on,
    ))

cancel_waiting : (s : CoreState) (l : Lists) (id : ℕ) (waits : Bool) → is_waiting id s.waiters ≡ waits → Sorts s l (cancel_named s l (Some id))
cancel_waiting s l id true is = rw is (refl, inr (inr (id, refl, refl)))
cancel_waiting s l id false is = rw is (nothing_sorts s l told.Nothing)

cancel_by : (s : CoreState) (l : Lists) (o : Option ℕ) → Sorts s l (cancel_named s l o)
cancel_by s l None = nothing_sorts s l told.Nothing
cancel_by s l (Some id) = cancel_waiting s l id (is_waiting id s.waiters) refl

cancel_sorts : (s : CoreState) (l : Lists) (conn : ℕ) (h : SmbHead) → Sorts s l (cancel s l conn h)
unfolding cancel
cancel_sorts s l conn h = cancel_by s l (request_named conn l h.message_id h.route)

-- an acknowledgement lets those wait who did
acked_sorts : (s : CoreState) (l : Lists) (cache : Claim) (to : Option CacheKind) (answer : Answered) → Sorts s l (Does (Acks cache to ∷ []) l answer)
unfolding ack
acked_sorts s l cache to answer = (refl, inl ((λ n. refl), refl, (λ place client here. here), refl))

acknowledge_sorts : (s : CoreState) (l : Lists) (conn : ℕ) (client : List ℕ) (h : SmbHead) (b : Acknowledgement) → Sorts s l (acknowledge s l conn client h b)
acknowledge_sorts s l conn client h b = walk_acknowledge (Sorts s l) (λ refusal. tt) s l conn client (λ cache to t here may own quiet. acked_sorts s l cache to t) h b

-- ---- a request

commanded_sorts : (s : CoreState) (files : List (List ℕ)) (others : ℕ) (l : Lists) (conn : ℕ) (h : SmbHead) (call : CallItem) (client : List ℕ) → Sorts s l (commanded s files others l conn h call client)
unfolding commanded
commanded_sorts s files others l conn h (SessionSetup c) client = setup_by s l conn h (h.session_id == 0) refl
commanded_sorts s files others l conn h Logoff client = logoff_sorts s l conn h
commanded_sorts s files others l conn h (TreeConnect path) client = connect_sorts s l conn h path
commanded_sorts s files others l conn h TreeDisconnect client = disconnect_sorts s l conn client h
commanded_sorts s files others l conn h (Create c) client = create_sorts s files others l conn client h c
commanded_sorts s files others l conn h (Close c) client = close_sorts s l conn client h c.file_id
commanded_sorts s files others l conn h (Lock c) client = lock_sorts s l conn client h c
commanded_sorts s files others l conn h Cancel client = cancel_sorts s l conn h
commanded_sorts s files others l conn h Echo client = nothing_sorts s l told.Echoed
commanded_sorts s files others l conn h (OplockBreak b) client = acknowledge_sorts s l conn client h b
commanded_sorts s files others l conn h (Negotiate c) client = tt
commanded_sorts s files others l conn h Other client = tt

once_sorts : (s : CoreState) (files : List (List ℕ)) (others : ℕ) (l : Lists) (conn : ℕ) (h : SmbHead) (call : CallItem) → Sorts s l (negotiated_by (commanded s files others l conn h call) (client_of conn l))
once_sorts s files others l conn h call = by_client (Sorts s l) (commanded s files others l conn h call) (client_of conn l) tt (λ client. commanded_sorts s files others l conn h call client)

pub planned_sorts : (s : CoreState) (files : List (List ℕ)) (others : ℕ) (l : Lists) (conn : ℕ) (h : SmbHead) (call : CallItem) → Sorts s l (planned s files others l conn h call)
unfolding planned
planned_sorts s files others l conn h (Negotiate c) = negotiate_sorts s l conn c
planned_sorts s files others l conn h (SessionSetup c) = once_sorts s files others l conn h (SessionSetup c)
planned_sorts s files others l conn h Logoff = once_sorts s files others l conn h Logoff
planned_sorts s files others l conn h (TreeConnect path) = once_sorts s files others l conn h (TreeConnect path)
planned_sorts s files others l conn h TreeDisconnect = once_sorts s files others l conn h TreeDisconnect
planned_sorts s files others l conn h (Create c) = once_sorts s files others l conn h (Create c)
planned_sorts s files others l conn h (Close c) = once_sorts s files others l conn h (Close c)
planned_sorts s files others l conn h (Lock c) = once_sorts s files others l conn h (Lock c)
planned_sorts s files others l conn h Cancel = once_sorts s files others l conn h Cancel
planned_sorts s files others l conn h Echo = once_sorts s files others l conn h Echo
planned_sorts s files others l conn h (OplockBreak b) = once_sorts s files others l conn h (OplockBreak b)
planned_sorts s files others l conn h Other = once_sorts s files others l conn h Other

read_sorts : (s : CoreState) (files : List (List ℕ)) (others : ℕ) (l : Lists) (conn : ℕ) (m : Result MessageItem SmbBad) → Sorts s l (read_as s files others l conn m)
read_sorts s files others l conn (Ok (Call h call)) = planned_sorts s files others l conn h call
read_sorts s files others l conn (Ok (Reply h r)) = tt
read_sorts s files others l conn (Ok (Told t)) = tt
read_sorts s files others l conn (Err fault) = tt

pub requested_sorts : (s : CoreState) (files : List (List ℕ)) (others : ℕ) (l : Lists) (conn : ℕ) (bytes : List ℕ) (h : SmbHead) → Sorts s l (requested s files others l conn bytes h)
unfolding requested
requested_sorts s files others l conn bytes h =
    walk_refused (Sorts s l) (λ refusal. tt) ((not (h.next_command == 0), statuses.InvalidParameter) ∷ (nat_lt 18 h.command, statuses.InvalidParameter) ∷ (not (is_some (command_of h.command)), statuses.NotSupported) ∷ []) (read_as s files others l conn (message_at bytes)) (λ all. read_sorts s files others l conn (message_at bytes))

heard_awaited : (n : ℕ) (exports : Exports) (others : ℕ) (f : FrontSmb) (s : CoreState) (conn : ℕ) (bytes : List ℕ) (h : Option SmbHead) → IsGood s → AreDistinct f.state → AreAwaited s f.state → AreAwaited (stepped n exports others f s conn bytes h).3 (stepped n exports others f s conn bytes h).2.state
heard_awaited n exports others f s conn bytes None good distinct all = all
heard_awaited n exports others f s conn bytes (Some h) good distinct all = answered_awaited n s f.state (plan_for exports others f s conn bytes h) good distinct all (requested_sorts s exports.files others f.state conn bytes h)

pub step_awaited : (n : ℕ) (exports : Exports) (others : ℕ) (f : FrontSmb) (s : CoreState) (conn : ℕ) (bytes : List ℕ) → IsGood s → AreDistinct f.state → AreAwaited s f.state → AreAwaited (smb_step n exports others f s conn bytes).3 (smb_step n exports others f s conn bytes).2.state
unfolding smb_step
step_awaited n exports others f s conn bytes good distinct all = heard_awaited n exports others f s conn bytes (head_heard (head_of bytes)) good distinct all

-- ---- an effect

-- the request of this number is gone, and what keeps the others is left
abbrev Leaves : ℕ → Lists → Lists → Type 0
Leaves id l m = (m.waiting ≡ remove_entry (nat_eq id) l.waiting) × ((e : ℕ × Waiting) → eqb id e.0 ≡ false → IsUnder l e e.1.request → Keeps l m e e.1.request)

-- where of the lists no more changes
only_gone : (id : ℕ) (l m : Lists) → m.waiting ≡ remove_entry (nat_eq id) l.waiting → m.opens ≡ l.opens → m.leases ≡ l.leases → m.trees ≡ l.trees → m.connections ≡ l.connections → Leaves id l m
only_gone id l m rows opens leases trees connections =
    (rows, λ e other under. keeps_all l m e e.1.request opens (same_leases l m leases) (λ client here. same_places e.1.place client l m trees connections here) (λ x here. removed_in (nat_eq id) l.waiting x (subst (λ (es : List (ℕ × Waiting)). IsIn x es) rows here)))

-- the open that this one waited to make has a number that no other has
made_alone : (id : ℕ) (row : Waiting) (made : Open) (l : Lists) (e : ℕ × Waiting) → IsIn (id, row) l.waiting → row.request ≡ request.Create made → eqb id e.0 ≡ false → (r : Request) → makes_open r ≡ true → IsUnder l e r → eqb e.1.opened row.opened ≡ false
made_alone id row made l e here makes other request.Lock it under = absurd (false≢true it)
made_alone id row made l e here makes other (request.Create own) it under =
    elim (cases_Bool (eqb e.1.opened row.opened)) [
      | inr apart ↦ apart
      | inl same ↦ absurd (true≢false (sym (ap (λ (k : ℕ). eqb id k) (sym (under.single (id, row) here (ap makes_open makes) (equal_from e.1.opened row.opened same))) ∙ equal_self id) ∙ other))
    ]

stood_leaves : (s : CoreState) (id : ℕ) (row : Waiting) (made : Open) (stands : Bool) (l : Lists) → IsIn (id, row) l.waiting → row.request ≡ request.Create made → Leaves id l (stood s row made stands (waiting_dropped id l)).1
stood_leaves s id row made true l here makes =
    let d : Lists = waiting_dropped id l in
    let m : Lists = with_open row.opened made d in (
      ap (λ (x : Lists). x.waiting) (with_keeps row.opened made d),
      λ e other under. keeps_by l m e e.1.request (λ c on. came_open c e.1.opened row.opened made d on) (λ own it. record {
        places = λ client there. came_places row.opened made d e.1.place client there;
        opens = λ free. came_free e.1.opened row.opened made d (made_alone id row made l e here makes other e.1.request (ap makes_open it) under) free;
        rows = λ x there m at. removed_in (nat_eq id) l.waiting x (came_waiting row.opened made d x there);
        keyed = λ key mine used. came_used key own.file row.opened made d (λ too. used.waiting (id, row) here made.file (ap (file_for key) makes ∙ has_file key made too))
            (used_still l d key own.file (λ k f all. all) (λ x there. removed_in (nat_eq id) l.waiting x there) used);
      }),
    )
stood_leaves s id row made false l here makes = only_gone id l (waiting_dropped id l) refl refl refl refl refl

succeeded_leaves : (s : CoreState) (id : ℕ) (row : Waiting) (r : Request) (l : Lists) → IsIn (id, row) l.waiting → row.request ≡ r → Leaves id l (succeeded s row r (waiting_dropped id l)).1
succeeded_leaves s id row request.Lock l here makes = only_gone id l (waiting_dropped id l) refl refl refl refl refl
succeeded_leaves s id row (request.Create made) l here makes = stood_leaves s id row made (may_stand row.opened made (waiting_dropped id l)) l here makes

concluded_leaves : (s : CoreState) (id : ℕ) (row : Waiting) (refused : Option SmbStatus) (l : Lists) → IsIn (id, row) l.waiting → Leaves id l (concluded s row refused (waiting_dropped id l)).1
concluded_leaves s id row None l here = succeeded_leaves s id row row.request l here refl
concluded_leaves s id row (Some status) l here = only_gone id l (waiting_dropped id l) refl refl refl refl refl

pub row_in : (id : ℕ) (es : List (ℕ × Waiting)) (row : Waiting) → lookup (nat_eq id) es ≡ Some row → IsIn (id, row) es
row_in id [] row at = absurd (none_some at)
row_in id (x ∷ es) row at =
    elim (cases_Bool (eqb id x.0)) [
      | inl same ↦ inl (λ i. (equal_from id x.0 same i, same_Some (rw same at at) i))
      | inr other ↦ inr (row_in id es row (rw other at at))
    ]

pub served_rows : (s : CoreState) (id : ℕ) (answer : Answer) (l : Lists) → Leaves id l (request_served s id answer l).1
unfolding request_served
served_rows s id answer l = by (waiting_of id l) refl
  where
    by : (o : Option Waiting) → waiting_of id l ≡ o → Leaves id l (served_with s id answer o l).1
    by None e = only_gone id l l (sym (none_out (nat_eq id) l.waiting e)) refl refl refl refl
    by (Some row) e = concluded_leaves s id row (refusal_of answer row.request) l (row_in id l.waiting row e)

other_awaited : (s : CoreState) (l m : Lists) (id : ℕ) (e : ℕ × Waiting) → Leaves id l m → IsDistinct nat_eq (keys_of l.waiting) → IsIn e m.waiting → IsIn e l.waiting × (eqb id e.0 ≡ false) × (IsAwaited s l e → IsAwaited s m e)
other_awaited s l m id e leaves distinct here =
    let there : IsIn e (remove_entry (nat_eq id) l.waiting) = subst (λ (es : List (ℕ × Waiting)). IsIn e es) leaves.0 here in
    let apart : eqb id e.0 ≡ false = other_left id l.waiting e distinct there in
    (removed_in (nat_eq id) l.waiting e there, apart, (λ is. moved s s l m e is is.waits (leaves.1 e apart is.under)))

-- who waits once an effect is told waited before, is not told that it waits no more, and is awaited if it was
pub one_shown : (f : FrontSmb) (s : CoreState) (effect : Effect) (e : ℕ × Waiting) → IsDistinct nat_eq (keys_of f.state.waiting) → IsIn e (smb_shown f s effect).1.state.waiting
    → IsIn e f.state.waiting × (serves_request e.0 effect ≡ false) × (IsAwaited s f.state e → IsAwaited s (smb_shown f s effect).1.state e)
unfolding smb_shown told_of
one_shown f s (effects.Served party id answer) e distinct here =
    let other = other_awaited s f.state (request_served s id answer f.state).1 id e (served_rows s id answer f.state) distinct here in
    (other.0, and_right (same_protocol (party_protocol party) Smb) (eqb id e.0) other.1, other.2)
one_shown f s (effects.Cancelled party id) e distinct here = (here, refl, (λ is. is))
one_shown f s (effects.Begun claim to number) e distinct here = (here, refl, (λ is. is))
one_shown f s (effects.Expired client) e distinct here = (here, refl, (λ is. is))

pub shown_awaited : (f : FrontSmb) (s : CoreState) (effect : Effect) → IsDistinct nat_eq (keys_of f.state.waiting) → ((e : ℕ × Waiting) → IsIn e f.state.waiting → serves_request e.0 effect ≡ false → IsAwaited s f.state e) → AreAwaited s (smb_shown f s effect).1.state
shown_awaited f s effect distinct all =
    let left : Lists = (smb_shown f s effect).1.state in
    all_from (IsAwaited s left) left.waiting (λ e here. (let one = one_shown f s effect e distinct here in one.2 (all e one.0 one.1)))

-- ---- the end of a connection

-- the lists once the connection went with what came by it
abbrev pub gone_lists : ℕ → Lists → Lists
gone_lists conn l = requests_gone conn (connection_gone conn (all_closed (opens_under (scope.Connection conn) l) l))

pub gone_rows : (conn : ℕ) (l : Lists) → (gone_lists conn l).waiting ≡ filter (λ (x : ℕ × Waiting). not (eqb x.1.place.connection conn)) l.waiting
unfolding connection_gone
gone_rows conn l =
    let m : Lists = all_closed (opens_under (scope.Connection conn) l) l in
    ap (filter (λ (x : ℕ × Waiting). not (eqb x.1.place.connection conn))) (all_gone_waiting (sessions_on conn m) m ∙ closed_waiting (opens_under (scope.Connection conn) l) l)

gone_but : (conn k : ℕ) (l : Lists) → list_any (nat_eq k) (numbers_under (scope.Connection conn) l) ≡ false → open_of k (gone_lists conn l) ≡ open_of k l
unfolding connection_gone
gone_but conn k l apart =
    let m : Lists = all_closed (opens_under (scope.Connection conn) l) l in
    ap (λ (es : List (ℕ × Open)). lookup (nat_eq k) es) (all_gone_opens (sessions_on conn m) m) ∙ closed_but k (scope.Connection conn) l apart

-- no lease comes
gone_stay : (conn : ℕ) (l : Lists) → LeasesStay l (gone_lists conn l)
gone_stay conn l key file all =
    let m : Lists = all_closed (opens_under (scope.Connection conn) l) l in
    same_leases m (connection_gone conn m) (ended_leases conn m) key file (closed_leases (opens_under (scope.Connection conn) l) l key file all)

pub end_awaited : (f : FrontSmb) (s : CoreState) (conn : ℕ) → IsSound f.state → AreDistinct f.state → AreAwaited s f.state → AreAwaited (smb_end f s conn).2 (smb_end f s conn).1.state
unfolding smb_end
end_awaited f s conn sound distinct all =
    let going : List (ℕ × Option Party) = leavers_under s.names (scope.Connection conn) f.state in
    let told : List Effect = (all_ended going s).0 in
    let t : CoreState = (all_ended going s).1 in
    let l : Lists = gone_lists conn f.state in
    let ids : List ℕ = keys_of l.waiting in
    let left : Lists = (dismissed told ids l).1 in
    let rows = gone_rows conn f.state in
    let apart : IsDistinct nat_eq (keys_of l.waiting) = subst (λ (es : List (ℕ × Waiting)). IsDistinct nat_eq (keys_of es)) (sym rows) (IsDistinct-keys_filter nat_eq (λ (x : ℕ × Waiting). not (eqb x.1.place.connection conn)) f.state.waiting distinct.waiting) in
    all_from (IsAwaited t left) left.waiting (λ e here.
    (let there : IsIn e l.waiting = dismissed_in told ids l e here in
    let found = in_filter_from (λ (x : ℕ × Waiting). not (eqb x.1.place.connection conn)) e f.state.waiting (subst (λ (es : List (ℕ × Waiting)). IsIn e es) rows there) in
    let old : IsIn e f.state.waiting = found.0 in
    let before : (x : ℕ × Waiting) → IsIn x left.waiting → IsIn x f.state.waiting = λ x h. (in_filter_from (λ (y : ℕ × Waiting). not (eqb y.1.place.connection conn)) x f.state.waiting (subst (λ (es : List (ℕ × Waiting)). IsIn x es) rows (dismissed_in told ids l x h))).0 in
    let is = all_in (IsAwaited s f.state) e f.state.waiting all old in
    elim (cases_Bool (list_any (nat_eq e.1.opened) (numbers_in going))) [
      | inl gone ↦ (
          let over : is_cancelled is.waiter.id (all_told_of 0 s (ends going)) ≡ true = ends_tell 0 going s is.waiter is.waits (waits_some going is.waiter e.1.opened is.own gone) in
          let ended : is_cancelled e.0 told ≡ true = subst (λ (k : ℕ). is_cancelled k told ≡ true) is.number (subst (λ (es : List Effect). is_cancelled is.waiter.id es ≡ true) (ended_told 0 s going) over) in
          absurd (dismissed_out told ids l e apart (key_in l.waiting e there) ended here))
      | inr stays ↦ moved s t f.state left e is
          (((end_without f s conn).waiters is.waiter).1 (is.waits, waits_none going is.waiter e.1.opened is.alone stays))
          (let same : open_of e.1.opened left ≡ open_of e.1.opened f.state = ap (λ (es : List (ℕ × Open)). lookup (nat_eq e.1.opened) es) (dismissed_opens told ids l) ∙ gone_but conn e.1.opened f.state (out_under s.names e.1.opened (scope.Connection conn) f.state stays) in
          keeps_by f.state left e e.1.request (same_stays e.1.opened f.state left same) (λ made it. record {
            places = λ client here. ended_place f s conn e.1.place client sound distinct (not_so (eqb e.1.place.connection conn) found.1) here;
            opens = λ free. ap (λ (o : Option Open). is_some o) same ∙ free;
            rows = λ x h m at. before x h;
            keyed = λ key own. used_still f.state left key made.file (λ k file all_on. same_leases l left (ap (λ (m : Lists). m.leases) (dismissed_keeps told ids l)) k file (gone_stay conn f.state k file all_on)) before;
          }))
    ]))
  where
    not_so : (b : Bool) → not b ≡ true → b ≡ false
    not_so true h = absurd (false≢true h)
    not_so false h = refl

-- ---- so each row is a waiter

is_there : (ws : List Waiter) (w : Waiter) → IsIn w ws → is_waiting w.id ws ≡ true
is_there [] w here = absurd here
is_there (v ∷ ws) w here =
    elim (cases_Bool (eqb v.id w.id)) [
      | inl same ↦ rw same refl
      | inr other ↦ rw other (elim here [ inl first ↦ absurd (true≢false (sym (ap (λ (x : Waiter). eqb x.id w.id) first ∙ equal_self w.id) ∙ other)) | inr rest ↦ is_there ws w rest ])
    ]

pub all_wait : (s : CoreState) (l : Lists) → AreAwaited s l → AllByRecursion (λ (e : ℕ × Waiting). is_waiting e.0 s.waiters ≡ true) l.waiting
all_wait s l all = all_from (λ (e : ℕ × Waiting). is_waiting e.0 s.waiters ≡ true) l.waiting (λ e here. (let is = all_in (IsAwaited s l) e l.waiting all here in subst (λ (k : ℕ). is_waiting k s.waiters ≡ true) is.number (is_there s.waiters is.waiter is.waits)))

-- ---- a connection opens, and the core moves on

begun_awaited_by : (s : CoreState) (l : Lists) (number : ℕ) (b : Bool) → AreAwaited s l → AreAwaited s (if b then l else connection_added number (record { client = None }) l)
begun_awaited_by s l number true all = all
begun_awaited_by s l number false all =
    let m : Lists = connection_added number (record { client = None }) l in
    all_from (IsAwaited s m) l.waiting (λ e here.
    (let is = all_in (IsAwaited s l) e l.waiting all here in
    moved s s l m e is is.waits (keeps_all l m e e.1.request refl (λ key file on. on) (λ client there. begun_place number (record { client = None }) l e.1.place client there) (λ x there. there))))

pub begin_awaited : (f : FrontSmb) (s : CoreState) (number : ℕ) → AreAwaited s f.state → AreAwaited s (smb_begin f number).state
unfolding smb_begin
begin_awaited f s number all = begun_awaited_by s f.state number _ all

pub start_awaited : (s : CoreState) → AreAwaited s empty_smb_front.state
start_awaited s = tt

-- Each waiter of the core that asks for claims of an SMB open has its row.
use Rattle.std.proofs.Common.{◌≡◌, ℕ, Bool, true, false, not, ◌&&◌, if◌then◌else◌, eqb, is_some, List, [], ◌∷◌, ◌++◌, Option, Some, None, refl, sym, ap, subst, ◌∙◌, inl, inr, append-nil}
use Rattle.std.specs.Prelude.{nat_eq, nat_lt}
use Rattle.std.specs.List.{AllByRecursion, IsDistinct, list_any}
use Rattle.std.specs.Map.{keys_of, lookup, remove_entry}
use Rattle.std.proofs.lemmas.Bool.{cases_Bool, not-true, true≢false, false≢true}
use Rattle.std.proofs.lemmas.Map.Made.{IsDistinct-keys_filter}
use Rattle.xl_base.proofs.Members.{all_from, all_in, in_filter, in_filter_from}
use Rattle.xl_base.specs.Lists.{IsIn}
use Rattle.xl_base.specs.declared.journal.Exports.{Exports}
use Rattle.xl_base.specs.declared.name.Party.{Party}
use Rattle.xl_names.specs.declared.name.Name.{Name}
use Rattle.xl_smb.specs.Heads.{head_of}
use Rattle.xl_smb.specs.declared.head.SmbHead.{SmbHead}
use Rattle.xl_smb_state.proofs.LeaseLaws.{with_keeps}
use Rattle.xl_smb_state.proofs.RowLaws.{equal_from, equal_self, lookup_added, lookup_removed, none_some}
use Rattle.xl_smb_state.specs.Links.{AreDistinct, most_waiting}
use Rattle.xl_smb_state.specs.State.{Lists, connection_added, covers_holder, makes_open, open_of, opens_under, creates_under, keys_where, waiting_added, waiting_of}
use Rattle.xl_smb_state.specs.declared.row.Open.{Open}
use Rattle.xl_smb_state.specs.declared.row.Request.{Request}
use Rattle.xl_smb_state.specs.declared.row.Request.TheVariants as request
use Rattle.xl_smb_state.specs.declared.row.Scope.{Scope}
use Rattle.xl_smb_state.specs.declared.row.Scope.TheVariants as scope
use Rattle.xl_smb_state.specs.declared.row.Waiting.{Waiting}
use Rattle.xl_wait.specs.Waiting.{no_rows}
use Rattle.xl_wait.specs.declared.waiter.Rooms.{Rooms}
use Rattle.xl_wait.specs.declared.waiter.Waiter.{Waiter}
use Rattle.xl_core.proofs.DeedLaws.{deed_good}
use Rattle.xl_core.proofs.DeedLists.{deeds_good}
use Rattle.xl_core.proofs.FrameLaws.{ask_quiet, way_leaves}
use Rattle.xl_core.specs.Askers.{asked_claims, asked_whats, is_client, is_named}
use Rattle.xl_core.specs.Decide.{ask, plea_of}
use Rattle.xl_core.specs.Deeds.{Deed, Asks, GivesBack, Weakens, Acks, Cancels, Ends, Closes, Serves, Draws, Advances, Lapses, Renews, Expires, FailsStore, EndsGrace, AreFit, IsFitDeed, all_done, all_told_of, done, given}
use Rattle.xl_core.specs.Frames.{come_by, who_left}
use Rattle.xl_core.specs.Good.{IsGood}
use Rattle.xl_core.specs.Settle.{cancel, waits_as}
use Rattle.xl_core.specs.State.{CoreState, drawn}
use Rattle.xl_core.specs.declared.ask.Answer.{Answer}
use Rattle.xl_core.specs.declared.ask.Answer.TheVariants as answers
use Rattle.xl_core.specs.declared.ask.Ask.{Ask}
use Rattle.xl_core.specs.declared.ask.Effect.{Effect}
use Rattle.xl_core.specs.declared.ask.Effect.TheVariants as effects
use Rattle.xl_core.specs.declared.ask.Who.{Who}
use Rattle.xl_core.specs.declared.ask.Who.TheVariants as who
use Rattle.xl_smb_locks.specs.Finals.{and_sent, dismissed, is_cancelled, request_ended, request_served, told_of}
use Rattle.xl_smb_locks.specs.Locks.{lock_told}
use Rattle.xl_smb_locks.specs.declared.locking.Locking.{Locking}
use Rattle.xl_smb_locks.specs.declared.locking.Locking.TheVariants as locking
use Rattle.xl_smb_locks.specs.declared.status.SmbStatus.TheVariants as statuses
use Rattle.xl_smb_laws.specs.WaitingRequests.{AreAwaited, AreKept, AreLeft, IsAwaited, IsKept, IsUnder, ends_wait, is_open_ask}
use Rattle.xl_front_smb.specs.Checks.{is_open_on}
use Rattle.xl_front_smb.specs.Ending.{all_closed, all_dismissed, all_ended, ends, leavers_under, numbers_under, smb_end}
use Rattle.xl_front_smb.specs.FrontSmb.{head_heard, plan_for, smb_shown, smb_step, stepped}
use Rattle.xl_front_smb.specs.Laws.{IsLeased, waits_among}
use Rattle.xl_front_smb.specs.Plans.{Plan, Fails, Does, Opens, Locks, carried, deeds_of, has_room_to_wait, lists_as, opened_lists}
use Rattle.xl_front_smb.specs.State.{FrontSmb, empty_smb_front, smb_begin}
use Rattle.xl_smb_laws.proofs.AwaitedRequestLaws.{AsksFor, Sorts, Way, any_left, asked_waits, asker_of, dismissed_in, dismissed_out, drawn_awaited, drawn_waits, ended_rows, ends_tell, gone_lists, gone_rows, in_append, key_in, numbers_in, requested_sorts, row_in, served_rows, waits_none, waits_some}
use Rattle.xl_front_smb.proofs.EndLaws.{dismissed_keeps, ended_told, ended_done, numbers_going}
use Rattle.xl_front_smb.proofs.GoneLaws.{done_without, end_without}
use Rattle.xl_smb_laws.proofs.LeaseKeyLaws.{ended_leases, leased_with, stay_leased}
use Rattle.xl_smb_laws.proofs.StillUntoldLaws.{come_of, deed_moves, in_cancelled, moved_from, over_left, waits_still}
use Rattle.xl_smb_laws.proofs.RequestOwn.{requested_theirs}
use Rattle.xl_smb_laws.proofs.PlaceLaws.{apart_under, lookup_but}
use Rattle.xl_smb_laws.proofs.RoomLaws.{queued_kept}
use Rattle.xl_smb_laws.proofs.SmbWaiterLaws.{none_for}
use Rattle.xl_smb_laws.proofs.StillWaitingLaws.{cancelled_over, over}

-- ---- deeds that are no ask by an open

named_so : (p : Who) → not (is_named p) ≡ false → is_named p ≡ true
named_so (who.Named name) h = refl
named_so (who.Open number) h = absurd (true≢false h)

named_waits : (a : Ask) (names : List Name) (id k : ℕ) → not (is_named a.owner) ≡ false → waits_as k (asker_of a id names) ≡ false
unfolding waits_as
named_waits a names id k other = none_for a names k a.owner (asked_whats a.act) refl (named_so a.owner other)

named_kept : (l : Lists) (a : Ask) (answer : Answer) (names : List Name) (w : Waiter) → not (is_named a.owner) ≡ false → IsIn w (come_by a answer names) → IsKept l w
named_kept l a (answers.Queued id) names w other here =
    elim here [
      | inl same ↦ subst (λ (x : Waiter). IsKept l x) same (λ k asks. absurd (true≢false (sym asks ∙ named_waits a names id k other)))
      | inr none ↦ absurd none
    ]
named_kept l a (answers.Granted c) names w other here = absurd here
named_kept l a (answers.Conflict c) names w other here = absurd here
named_kept l a (answers.Recall c) names w other here = absurd here
named_kept l a (answers.Grace until) names w other here = absurd here
named_kept l a (answers.NoGrace clock) names w other here = absurd here
named_kept l a answers.NotRecorded names w other here = absurd here
named_kept l a (answers.Full limit) names w other here = absurd here
named_kept l a answers.NotHeld names w other here = absurd here
named_kept l a answers.StoreFailed names w other here = absurd here

come_kept : (n : ℕ) (s : CoreState) (l : Lists) (d : Deed) (w : Waiter) → is_open_ask d ≡ false → IsIn w (come_of n s d) → IsKept l w
come_kept n s l (Asks left a) w other here = named_kept l a (ask n left s a).0 s.names w other here
come_kept n s l (GivesBack claim) w other here = absurd here
come_kept n s l (Weakens share access deny) w other here = absurd here
come_kept n s l (Acks cache to) w other here = absurd here
come_kept n s l (Cancels id) w other here = absurd here
come_kept n s l (Ends party) w other here = absurd here
come_kept n s l (Closes number party) w other here = absurd here
come_kept n s l (Serves left) w other here = absurd here
come_kept n s l Draws w other here = absurd here
come_kept n s l (Advances now) w other here = absurd here
come_kept n s l (Lapses cache) w other here = absurd here
come_kept n s l (Renews client) w other here = absurd here
come_kept n s l (Expires client) w other here = absurd here
come_kept n s l (FailsStore stable) w other here = absurd here
come_kept n s l EndsGrace w other here = absurd here

deed_keeps : (n : ℕ) (s : CoreState) (l : Lists) (d : Deed) → IsGood s → IsFitDeed s d → is_open_ask d ≡ false → AreKept s l → AreKept (done n s d) l
deed_keeps n s l d good fit other kept =
    let t : CoreState = done n s d in
    all_from (IsKept l) t.waiters (λ w here. elim (moved_from s t (given n s d).1 (come_of n s d) w good (deed_moves n s d good fit) here) [
      | inl old ↦ all_in (IsKept l) w s.waiters kept old.0
      | inr new ↦ come_kept n s l d w other new
    ])

pub deeds_keep : (n : ℕ) (s : CoreState) (l : Lists) (ds : List Deed) → IsGood s → AreFit n s ds → AllByRecursion (λ (d : Deed). is_open_ask d ≡ false) ds → AreKept s l → AreKept (all_done n s ds) l
deeds_keep n s l [] good fit others kept = kept
deeds_keep n s l (d ∷ ds) good fit others kept = deeds_keep n (done n s d) l ds (deed_good n s d good fit.0) fit.1 others.1 (deed_keeps n s l d good fit.0 others.0 kept)

-- ---- rows that stay

not_told : (id : ℕ) (told : List Effect) → over id told ≡ false → is_cancelled id told ≡ false
not_told id told quiet = elim (cases_Bool (is_cancelled id told)) [ inl is ↦ absurd (true≢false (sym (cancelled_over id told is) ∙ quiet)) | inr no_more ↦ no_more ]

ended_stays : (id k : ℕ) (l : Lists) (row : Waiting) → eqb id k ≡ false → waiting_of k l ≡ Some row → waiting_of k (request_ended id statuses.Cancelled l).1 ≡ Some row
ended_stays id k l row other at = ap (λ (es : List (ℕ × Waiting)). lookup (nat_eq k) es) (ended_rows id statuses.Cancelled l).0 ∙ lookup_removed k id l.waiting other ∙ at

-- who isn't told of isn't dismissed
dismissed_stays : (told : List Effect) (ids : List ℕ) (l : Lists) (k : ℕ) (row : Waiting) → is_cancelled k told ≡ false → waiting_of k l ≡ Some row → waiting_of k (dismissed told ids l).1 ≡ Some row
dismissed_stays told [] l k row quiet at = at
dismissed_stays told (id ∷ ids) l k row quiet at =
    by (is_cancelled id told)
    (λ is. dismissed_stays told ids (request_ended id statuses.Cancelled l).1 k row quiet (ended_stays id k l row (apart is) at))
    (dismissed_stays told ids l k row quiet at)
    refl
  where
    apart : is_cancelled id told ≡ true → eqb id k ≡ false
    apart is = elim (cases_Bool (eqb id k)) [ inl same ↦ absurd (true≢false (sym (subst (λ (j : ℕ). is_cancelled j told ≡ true) (sym (equal_from id k same)) is) ∙ quiet)) | inr other ↦ other ]

    by : (b : Bool) → (is_cancelled id told ≡ true → waiting_of k (dismissed told ids (request_ended id statuses.Cancelled l).1).1 ≡ Some row) → waiting_of k (dismissed told ids l).1 ≡ Some row → is_cancelled id told ≡ b
        → waiting_of k (if b then and_sent (request_ended id statuses.Cancelled l) (dismissed told ids) else dismissed told ids l).1 ≡ Some row
    by true first second is = first is
    by false first second is = second

kept_then : (told : List Effect) (l m : Lists) (w : Waiter) → over w.id told ≡ false → ((row : Waiting) → waiting_of w.id l ≡ Some row → waiting_of w.id m ≡ Some row) → IsKept l w → IsKept (all_dismissed told m).1 w
kept_then told l m w quiet rows kept = λ k asks. let is = kept k asks in (is.0, dismissed_stays told (keys_of m.waiting) m w.id is.0 (not_told w.id told quiet) (rows is.0 is.1), is.2)

-- a row that comes behind the others
with_rows : (room : Bool) (id : ℕ) (row : Waiting) (l : Lists) (k : ℕ) (x : Waiting) → waiting_of k l ≡ Some x → waiting_of k (if room then waiting_added id row l else l) ≡ Some x
with_rows true id row l k x at = lookup_added (nat_eq k) l.waiting ((id, row) ∷ []) x at
with_rows false id row l k x at = at

last_found : (k : ℕ) (row : Waiting) (es : List (ℕ × Waiting)) → is_some (lookup (nat_eq k) es) ≡ false → lookup (nat_eq k) (es ++ (k, row) ∷ []) ≡ Some row
last_found k row [] none = rw (equal_self k) refl
last_found k row (e ∷ es) none =
    elim (cases_Bool (eqb k e.0)) [
      | inl here ↦ (let f : true ≡ false = rw here at none in absurd (true≢false f))
      | inr other ↦ rw other (last_found k row es (rw other at none))
    ]

with_new : (id : ℕ) (row : Waiting) (l : Lists) (room : Bool) → has_room_to_wait l id ≡ room → room ≡ true → waiting_of id (if room then waiting_added id row l else l) ≡ Some row
with_new id row l false is has = absurd (false≢true has)
with_new id row l true is has = last_found id row l.waiting (second (nat_lt _ most_waiting) (is_some (waiting_of id l)) is)
  where
    second : (a b : Bool) → (a && not b) ≡ true → b ≡ false
    second true false h = refl
    second true true h = absurd (false≢true h)
    second false b h = absurd (false≢true h)

locked_rows : (row : Waiting) (l : Lists) (r : Locking) (k : ℕ) (x : Waiting) → waiting_of k l ≡ Some x → waiting_of k (lists_as row l r) ≡ Some x
locked_rows row l locking.Done k x at = at
locked_rows row l (locking.Failed status) k x at = at
locked_rows row l (locking.Waits id) k x at = with_rows (has_room_to_wait l id) id row l k x at

opened_rows : (l : Lists) (number : ℕ) (row : Open) (waiting : Waiting) (answer : Answer) (k : ℕ) (x : Waiting) → waiting_of k l ≡ Some x → waiting_of k (opened_lists l number row waiting answer) ≡ Some x
opened_rows l number row waiting (answers.Granted c) k x at = ap (λ (m : Lists). waiting_of k m) (with_keeps number row l) ∙ at
opened_rows l number row waiting (answers.Queued id) k x at = with_rows (has_room_to_wait l id) id waiting l k x at
opened_rows l number row waiting (answers.Conflict c) k x at = at
opened_rows l number row waiting (answers.Recall c) k x at = at
opened_rows l number row waiting (answers.Grace until) k x at = at
opened_rows l number row waiting (answers.NoGrace clock) k x at = at
opened_rows l number row waiting answers.NotRecorded k x at = at
opened_rows l number row waiting (answers.Full limit) k x at = at
opened_rows l number row waiting answers.NotHeld k x at = at
opened_rows l number row waiting answers.StoreFailed k x at = at

-- ---- an ask

new_kept : (m : Lists) (a : Ask) (waiting : Waiting) (names : List Name) (w : Waiter) (answer : Answer) → AsksFor a waiting.opened → ((id : ℕ) → answer ≡ answers.Queued id → waiting_of id m ≡ Some waiting) → IsIn w (come_by a answer names) → IsKept m w
new_kept m a waiting names w (answers.Queued id) asks rows here =
    elim here [
      | inl same ↦ subst (λ (x : Waiter). IsKept m x) same (λ k own. (waiting, rows id refl, sym ((asks id names).1 k own)))
      | inr none ↦ absurd none
    ]
new_kept m a waiting names w (answers.Granted c) asks rows here = absurd here
new_kept m a waiting names w (answers.Conflict c) asks rows here = absurd here
new_kept m a waiting names w (answers.Recall c) asks rows here = absurd here
new_kept m a waiting names w (answers.Grace until) asks rows here = absurd here
new_kept m a waiting names w (answers.NoGrace clock) asks rows here = absurd here
new_kept m a waiting names w answers.NotRecorded asks rows here = absurd here
new_kept m a waiting names w (answers.Full limit) asks rows here = absurd here
new_kept m a waiting names w answers.NotHeld asks rows here = absurd here
new_kept m a waiting names w answers.StoreFailed asks rows here = absurd here

-- an ask tells of nobody that it waits no more
ask_silent : (n : ℕ) (left : Rooms) (u : CoreState) (a : Ask) (k : ℕ) → IsGood u → is_client a.owner a.party ≡ true → over k (ask n left u a).1 ≡ false
ask_silent n left u a k good client =
    let told : List Effect = (ask n left u a).1 in
    let none : who_left told ≡ [] = ap who_left (ask_quiet n left u a good client) ∙ way_leaves u.waiters (plea_of left u a) (asked_claims a (asked_whats a.act) u.names) u in
    elim (cases_Bool (over k told)) [ inl is ↦ absurd (subst (λ (ids : List ℕ). IsIn k ids) none (over_left k told is)) | inr quiet ↦ quiet ]

ask_keeps : (n : ℕ) (left : Rooms) (u : CoreState) (a : Ask) (l m : Lists) (waiting : Waiting) → IsGood u → is_client a.owner a.party ≡ true → AsksFor a waiting.opened → AreKept u l
    → ((k : ℕ) (x : Waiting) → waiting_of k l ≡ Some x → waiting_of k m ≡ Some x) → ((id : ℕ) → (ask n left u a).0 ≡ answers.Queued id → waiting_of id m ≡ Some waiting)
    → AreKept (ask n left u a).2 (all_dismissed ((ask n left u a).1 ++ []) m).1
ask_keeps n left u a l m waiting good client asks kept rows new =
    let r = ask n left u a in
    let left_then : Lists = (all_dismissed r.1 m).1 in
    subst (λ (told : List Effect). AreKept r.2 (all_dismissed told m).1) (sym (append-nil r.1))
    (all_from (IsKept left_then) r.2.waiters (λ w here. elim (in_append w u.waiters (come_by a r.0 u.names) (subst (λ (ws : List Waiter). IsIn w ws) (asked_waits n left u a good client) here)) [
      | inl old ↦ kept_then r.1 l m w (ask_silent n left u a w.id good client) (λ row at. rows w.id row at) (all_in (IsKept l) w u.waiters kept old)
      | inr came ↦ kept_then r.1 m m w (ask_silent n left u a w.id good client) (λ row at. at) (new_kept m a waiting u.names w r.0 asks new came)
    ]))

-- ---- a plan

ways_old : (n : ℕ) (s : CoreState) (l : Lists) (deeds : List Deed) (lists : Lists) (w : Waiter) → Way s l deeds lists → IsIn w (all_done n s deeds).waiters → IsIn w s.waiters
unfolding cancel
ways_old n s l deeds lists w way here =
    elim way [
      | inl stays ↦ subst (λ (ws : List Waiter). IsIn w ws) (stays.0 n) here
      | inr more ↦ elim more [
        | inl ending ↦ (((done_without n ending.0 s).waiters w).0 (subst (λ (ds : List Deed). IsIn w (all_done n s ds).waiters) ending.1 here)).0
        | inr one ↦ in_cancelled one.0 s.waiters w (subst (λ (ds : List Deed). IsIn w (all_done n s ds).waiters) one.1 here)
      ]
    ]

drawn_kept : (s : CoreState) (l : Lists) → AreKept s l → AreKept (drawn s) l
drawn_kept s l kept = subst (λ (ws : List Waiter). AllByRecursion (IsKept l) ws) (sym (drawn_waits s)) kept

carried_keeps : (n : ℕ) (s : CoreState) (l : Lists) (plan : Plan) → IsGood s → AreDistinct l → AreAwaited s l → AreKept s l → AreFit n s (deeds_of n s l plan) → Sorts s l plan
    → AreKept (carried n s l plan).3 (all_dismissed (carried n s l plan).1 (carried n s l plan).2).1
carried_keeps n s l (Fails status) good distinct awaited kept fit sorts = all_from (IsKept (all_dismissed [] l).1) s.waiters (λ w here. kept_then [] l l w refl (λ row at. at) (all_in (IsKept l) w s.waiters kept here))
carried_keeps n s l (Does deeds lists answer) good distinct awaited kept fit sorts =
    let told : List Effect = all_told_of n s deeds in
    let t : CoreState = all_done n s deeds in
    all_from (IsKept (all_dismissed told lists).1) t.waiters (λ w here.
    kept_then told l lists w (waits_still n s deeds w good fit here) (λ row at. ap (λ (es : List (ℕ × Waiting)). lookup (nat_eq w.id) es) sorts.0 ∙ at) (all_in (IsKept l) w s.waiters kept (ways_old n s l deeds lists w sorts.1 here)))
carried_keeps n s l (Opens left a number row id waiting) good distinct awaited kept fit sorts =
    let u : CoreState = drawn s in
    let sound : IsGood u = deeds_good n s (Draws ∷ []) good (tt, tt) in
    let m : Lists = opened_lists l number row waiting (ask n left u a).0 in
    let waits : AreAwaited u l = all_from (IsAwaited u l) l.waiting (λ e here. drawn_awaited s l e (all_in (IsAwaited s l) e l.waiting awaited here)) in
    ask_keeps n left u a l m waiting sound sorts.client sorts.asks (drawn_kept s l kept) (λ k x at. opened_rows l number row waiting (ask n left u a).0 k x at)
    (λ new at. subst (λ (answer : Answer). waiting_of new (opened_lists l number row waiting answer) ≡ Some waiting) (sym at)
    (with_new new waiting l (has_room_to_wait l new) refl (queued_kept n left u l a new sound fit.1.0 distinct.waiting waits at)))
carried_keeps n s l (Locks a row) good distinct awaited kept fit sorts =
    let m : Lists = lists_as row l (lock_told (ask n no_rows s a).0) in
    ask_keeps n no_rows s a l m row good sorts.0 sorts.1 kept (λ k x at. locked_rows row l (lock_told (ask n no_rows s a).0) k x at)
    (λ new at. subst (λ (answer : Answer). waiting_of new (lists_as row l (lock_told answer)) ≡ Some row) (sym at)
    (with_new new row l (has_room_to_wait l new) refl (queued_kept n no_rows s l a new good fit.0 distinct.waiting awaited at)))

heard_keeps : (n : ℕ) (exports : Exports) (others : ℕ) (f : FrontSmb) (s : CoreState) (conn : ℕ) (bytes : List ℕ) (h : Option SmbHead) → IsGood s → AreDistinct f.state → AreAwaited s f.state → AreKept s f.state
    → AreKept (stepped n exports others f s conn bytes h).3 (stepped n exports others f s conn bytes h).2.state
heard_keeps n exports others f s conn bytes None good distinct awaited kept = kept
heard_keeps n exports others f s conn bytes (Some h) good distinct awaited kept =
    carried_keeps n s f.state (plan_for exports others f s conn bytes h) good distinct awaited kept (requested_theirs n s exports.files others f.state conn bytes h).0 (requested_sorts s exports.files others f.state conn bytes h)

pub step_keeps : (n : ℕ) (exports : Exports) (others : ℕ) (f : FrontSmb) (s : CoreState) (conn : ℕ) (bytes : List ℕ) → IsGood s → AreDistinct f.state → AreAwaited s f.state → AreKept s f.state
    → AreKept (smb_step n exports others f s conn bytes).3 (smb_step n exports others f s conn bytes).2.state
unfolding smb_step
step_keeps n exports others f s conn bytes good distinct awaited kept = heard_keeps n exports others f s conn bytes (head_heard (head_of bytes)) good distinct awaited kept

-- ---- an effect

removed_kept : (id : ℕ) (l m : Lists) (w : Waiter) → m.waiting ≡ remove_entry (nat_eq id) l.waiting → eqb id w.id ≡ false → IsKept l w → IsKept m w
removed_kept id l m w rows other kept = λ k asks.
    let is = kept k asks in
    (is.0, ap (λ (es : List (ℕ × Waiting)). lookup (nat_eq w.id) es) rows ∙ lookup_removed w.id id l.waiting other ∙ is.1, is.2)

pub shown_keeps : (f : FrontSmb) (s : CoreState) (effect : Effect) → ((w : Waiter) → IsIn w s.waiters → ends_wait w.id effect ≡ false) → AreKept s f.state → AreKept s (smb_shown f s effect).1.state
unfolding smb_shown told_of
shown_keeps f s (effects.Served party id answer) others kept =
    let m : Lists = (request_served s id answer f.state).1 in
    all_from (IsKept m) s.waiters (λ w here. removed_kept id f.state m w (served_rows s id answer f.state).0 (others w here) (all_in (IsKept f.state) w s.waiters kept here))
shown_keeps f s (effects.Cancelled party id) others kept = kept
shown_keeps f s (effects.Begun claim to number) others kept = kept
shown_keeps f s (effects.Expired client) others kept = kept

-- ---- a connection

pub found_where : (test : Open → Bool) (es : List (ℕ × Open)) (k : ℕ) (row : Open) → lookup (nat_eq k) es ≡ Some row → test row ≡ true → list_any (nat_eq k) (keys_where test es) ≡ true
found_where test [] k row at passes = absurd (none_some at)
found_where test (e ∷ es) k row at passes =
    elim (cases_Bool (eqb k e.0)) [
      | inl same ↦ (
          let this : Some e.1 ≡ Some row = rw same at at in
          let passes_so : test e.1 ≡ true = subst (λ (r : Open). test r ≡ true) (sym (alike this)) passes in
          rw (passes_so, same) refl)
      | inr other ↦ (
          let later : list_any (nat_eq k) (keys_where test es) ≡ true = found_where test es k row (rw other at at) passes in
          elim (cases_Bool (test e.1)) [ inl here ↦ rw (here, other) later | inr apart ↦ rw apart later ])
    ]
  where
    alike : {x y : Open} → Some x ≡ Some y → x ≡ y
    alike h = cc

-- what a request waits for that came by a connection is under it
open_under : (conn k : ℕ) (l : Lists) (o : Option Open) → open_of k l ≡ o → is_open_on conn o ≡ true → list_any (nat_eq k) (numbers_under (scope.Connection conn) l) ≡ true
open_under conn k l None at on = absurd (false≢true on)
open_under conn k l (Some row) at on =
    any_left (nat_eq k) (opens_under (scope.Connection conn) l) (creates_under (scope.Connection conn) l) (found_where (λ (r : Open). covers_holder (scope.Connection conn) r.holder) l.opens k row at on)

under_conn : (conn : ℕ) (l : Lists) (e : ℕ × Waiting) (r : Request) → IsIn e l.waiting → e.1.request ≡ r → eqb e.1.place.connection conn ≡ true → IsUnder l e r → list_any (nat_eq e.1.opened) (numbers_under (scope.Connection conn) l) ≡ true
under_conn conn l e request.Lock here makes on under =
    open_under conn e.1.opened l (open_of e.1.opened l) refl (subst (λ (c : ℕ). is_open_on c (open_of e.1.opened l) ≡ true) (sym (equal_from e.1.place.connection conn on)) under)
under_conn conn l e (request.Create made) here makes on under =
    elim (cases_Bool (list_any (nat_eq e.1.opened) (numbers_under (scope.Connection conn) l))) [
      | inl is ↦ is
      | inr none ↦ absurd (true≢false (sym on ∙ apart_under (scope.Connection conn) l e here (ap makes_open makes) none))
    ]

ends_are_fit : (n : ℕ) (s : CoreState) (going : List (ℕ × Option Party)) → AreFit n s (ends going)
ends_are_fit n s [] = tt
ends_are_fit n s (e ∷ going) = (tt, ends_are_fit n (done n s (Closes e.0 e.1)) going)

pub end_keeps : (f : FrontSmb) (s : CoreState) (conn : ℕ) → IsGood s → AreAwaited s f.state → AreKept s f.state → AreKept (smb_end f s conn).2 (smb_end f s conn).1.state
unfolding smb_end
end_keeps f s conn good awaited kept =
    let going : List (ℕ × Option Party) = leavers_under s.names (scope.Connection conn) f.state in
    let told : List Effect = (all_ended going s).0 in
    let t : CoreState = (all_ended going s).1 in
    let l : Lists = gone_lists conn f.state in
    all_from (IsKept (all_dismissed told l).1) t.waiters (λ w here.
    (let old = ((end_without f s conn).waiters w).0 here in
    let there : IsIn w (all_done 0 s (ends going)).waiters = subst (λ (x : CoreState). IsIn w x.waiters) (sym (ended_done 0 s going)) here in
    let quiet : over w.id told ≡ false = subst (λ (es : List Effect). over w.id es ≡ false) (ended_told 0 s going) (waits_still 0 s (ends going) w good (ends_are_fit 0 s going) there) in
    λ k asks. (
    let is = all_in (IsKept f.state) w s.waiters kept old.0 k asks in
    let apart : eqb is.0.place.connection conn ≡ false = elsewhere w is.0 k old.1 asks is.1 is.2 in
    let stays : waiting_of w.id l ≡ Some is.0 = ap (λ (es : List (ℕ × Waiting)). lookup (nat_eq w.id) es) (gone_rows conn f.state) ∙ lookup_but (λ (x : ℕ × Waiting). eqb x.1.place.connection conn) w.id f.state.waiting is.0 is.1 apart in
    (is.0, dismissed_stays told (keys_of l.waiting) l w.id is.0 (not_told w.id told quiet) stays, is.2))))
  where
    -- who stays came by another connection
    elsewhere : (w : Waiter) (row : Waiting) (k : ℕ) → waits_among (leavers_under s.names (scope.Connection conn) f.state) w ≡ false → waits_as k w ≡ true → waiting_of w.id f.state ≡ Some row → row.opened ≡ k → eqb row.place.connection conn ≡ false
    elsewhere w row k among asks at same =
        elim (cases_Bool (eqb row.place.connection conn)) [
          | inr apart ↦ apart
          | inl on ↦ (
              let here : IsIn (w.id, row) f.state.waiting = row_in w.id f.state.waiting row at in
              let is = all_in (IsAwaited s f.state) (w.id, row) f.state.waiting awaited here in
              let named = under_conn conn f.state (w.id, row) row.request here refl on is.under in
              let any : list_any (nat_eq k) (numbers_in (leavers_under s.names (scope.Connection conn) f.state)) ≡ true = ap (list_any (nat_eq k)) (numbers_going s.names (scope.Connection conn) f.state) ∙ subst (λ (j : ℕ). list_any (nat_eq j) (numbers_under (scope.Connection conn) f.state) ≡ true) same named in
              absurd (true≢false (sym (waits_some (leavers_under s.names (scope.Connection conn) f.state) w k asks any) ∙ among)))
        ]

begun_by : (s : CoreState) (l : Lists) (number : ℕ) (b : Bool) → AreKept s l → AreKept s (if b then l else connection_added number (record { client = None }) l)
begun_by s l number true kept = kept
begun_by s l number false kept = kept

pub begin_keeps : (f : FrontSmb) (s : CoreState) (number : ℕ) → AreKept s f.state → AreKept s (smb_begin f number).state
unfolding smb_begin
begin_keeps f s number kept = begun_by s f.state number _ kept

pub start_keeps : (s : CoreState) → s.waiters ≡ [] → AreKept s empty_smb_front.state
start_keeps s none = subst (λ (ws : List Waiter). AllByRecursion (IsKept empty_smb_front.state) ws) (sym none) tt

-- ---- which rows stay where opens end

still_in : (k : ℕ) (es : List (ℕ × Waiting)) (e : ℕ × Waiting) → IsIn e es → eqb k e.0 ≡ false → IsIn e (remove_entry (nat_eq k) es)
still_in k [] e here other = absurd here
still_in k (x ∷ es) e here other =
    elim (cases_Bool (eqb k x.0)) [
      | inl same ↦ rw same (elim here [ inl first ↦ absurd (true≢false (sym same ∙ ap (λ (y : ℕ × Waiting). eqb k y.0) first ∙ other)) | inr rest ↦ rest ])
      | inr apart ↦ rw apart (elim here [ inl first ↦ inl first | inr rest ↦ inr (still_in k es e rest other) ])
    ]

dismissed_still : (told : List Effect) (ids : List ℕ) (l : Lists) (e : ℕ × Waiting) → is_cancelled e.0 told ≡ false → IsIn e l.waiting → IsIn e (dismissed told ids l).1.waiting
dismissed_still told [] l e quiet here = here
dismissed_still told (id ∷ ids) l e quiet here =
    by (is_cancelled id told)
    (λ is. dismissed_still told ids (request_ended id statuses.Cancelled l).1 e quiet (subst (λ (es : List (ℕ × Waiting)). IsIn e es) (sym (ended_rows id statuses.Cancelled l).0) (still_in id l.waiting e here (apart is))))
    (dismissed_still told ids l e quiet here)
    refl
  where
    apart : is_cancelled id told ≡ true → eqb id e.0 ≡ false
    apart is = elim (cases_Bool (eqb id e.0)) [ inl same ↦ absurd (true≢false (sym (subst (λ (j : ℕ). is_cancelled j told ≡ true) (sym (equal_from id e.0 same)) is) ∙ quiet)) | inr other ↦ other ]

    by : (b : Bool) → (is_cancelled id told ≡ true → IsIn e (dismissed told ids (request_ended id statuses.Cancelled l).1).1.waiting) → IsIn e (dismissed told ids l).1.waiting → is_cancelled id told ≡ b
        → IsIn e (if b then and_sent (request_ended id statuses.Cancelled l) (dismissed told ids) else dismissed told ids l).1.waiting
    by true first second is = first is
    by false first second is = second

module _ (n : ℕ) (s : CoreState) (l : Lists) (good : IsGood s) (awaited : AreAwaited s l) (going : List (ℕ × Option Party)) where
  abbrev told_then : List Effect
  told_then = all_told_of n s (ends going)

  -- a request for none of them isn't told of
  stays_untold : (e : ℕ × Waiting) → IsIn e l.waiting → list_any (nat_eq e.1.opened) (numbers_in going) ≡ false → is_cancelled e.0 told_then ≡ false
  stays_untold e here stays =
      let is = all_in (IsAwaited s l) e l.waiting awaited here in
      let there = ((done_without n going s).waiters is.waiter).1 (is.waits, waits_none going is.waiter e.1.opened is.alone stays) in
      not_told e.0 told_then (subst (λ (k : ℕ). over k told_then ≡ false) is.number (waits_still n s (ends going) is.waiter good (ends_are_fit n s going) there))

  -- one for one of them is
  goes_told : (e : ℕ × Waiting) → IsIn e l.waiting → list_any (nat_eq e.1.opened) (numbers_in going) ≡ true → is_cancelled e.0 told_then ≡ true
  goes_told e here gone =
      let is = all_in (IsAwaited s l) e l.waiting awaited here in
      subst (λ (k : ℕ). is_cancelled k told_then ≡ true) is.number (ends_tell n going s is.waiter is.waits (waits_some going is.waiter e.1.opened is.own gone))

  pub rows_left : (m : Lists) → IsDistinct nat_eq (keys_of m.waiting) → ((e : ℕ × Waiting) → IsIn e m.waiting → IsIn e l.waiting) → ((e : ℕ × Waiting) → IsIn e l.waiting → list_any (nat_eq e.1.opened) (numbers_in going) ≡ false → IsIn e m.waiting)
      → AreLeft (numbers_in going) l (all_dismissed told_then m).1
  rows_left m distinct from into = λ e. (
    λ here.
        let there : IsIn e m.waiting = dismissed_in told_then (keys_of m.waiting) m e here in
        let old : IsIn e l.waiting = from e there in
        (old, elim (cases_Bool (list_any (nat_eq e.1.opened) (numbers_in going))) [ inr stays ↦ stays | inl gone ↦ absurd (dismissed_out told_then (keys_of m.waiting) m e distinct (key_in m.waiting e there) (goes_told e old gone) here) ]),
    λ h. dismissed_still told_then (keys_of m.waiting) m e (stays_untold e h.0 h.1) (into e h.0 h.1),
  )

  pub same_left : (m : Lists) → AreDistinct l → m.waiting ≡ l.waiting → AreLeft (numbers_in going) l (all_dismissed told_then m).1
  same_left m distinct same =
      rows_left m (subst (λ (es : List (ℕ × Waiting)). IsDistinct nat_eq (keys_of es)) (sym same) distinct.waiting)
      (λ e here. subst (λ (es : List (ℕ × Waiting)). IsIn e es) same here)
      (λ e here apart. subst (λ (es : List (ℕ × Waiting)). IsIn e es) (sym same) here)

-- so it is of those that end with what is under it
pub under_left : (n : ℕ) (s : CoreState) (l : Lists) → IsGood s → AreAwaited s l → (under : Scope) (m : Lists) → AreDistinct l → m.waiting ≡ l.waiting → AreLeft (numbers_under under l) l (all_dismissed (all_told_of n s (ends (leavers_under s.names under l))) m).1
under_left n s l good awaited under m distinct same =
    let going : List (ℕ × Option Party) = leavers_under s.names under l in
    subst (λ (numbers : List ℕ). AreLeft numbers l (all_dismissed (all_told_of n s (ends going)) m).1) (numbers_going s.names under l) (same_left n s l good awaited going m distinct same)

pub end_left : (f : FrontSmb) (s : CoreState) (conn : ℕ) → IsGood s → AreDistinct f.state → AreAwaited s f.state → AreLeft (numbers_under (scope.Connection conn) f.state) f.state (smb_end f s conn).1.state
unfolding smb_end
end_left f s conn good distinct awaited =
    let l : Lists = f.state in
    let going : List (ℕ × Option Party) = leavers_under s.names (scope.Connection conn) l in
    let m : Lists = gone_lists conn l in
    let test : ℕ × Waiting → Bool = λ x. eqb x.1.place.connection conn in
    let rows = gone_rows conn l in
    subst (λ (told : List Effect). AreLeft (numbers_under (scope.Connection conn) l) l (all_dismissed told m).1) (ended_told 0 s going)
    (subst (λ (numbers : List ℕ). AreLeft numbers l (all_dismissed (all_told_of 0 s (ends going)) m).1) (numbers_going s.names (scope.Connection conn) l)
    (rows_left 0 s l good awaited going m
    (subst (λ (es : List (ℕ × Waiting)). IsDistinct nat_eq (keys_of es)) (sym rows) (IsDistinct-keys_filter nat_eq (λ (x : ℕ × Waiting). not (eqb x.1.place.connection conn)) l.waiting distinct.waiting))
    (λ e here. (in_filter_from (λ (x : ℕ × Waiting). not (eqb x.1.place.connection conn)) e l.waiting (subst (λ (es : List (ℕ × Waiting)). IsIn e es) rows here)).0)
    (λ e here apart. subst (λ (es : List (ℕ × Waiting)). IsIn e es) (sym rows) (in_filter (λ (x : ℕ × Waiting). not (eqb x.1.place.connection conn)) e l.waiting here (ap (λ (b : Bool). not b) (elsewhere e here apart))))))
  where
    elsewhere : (e : ℕ × Waiting) → IsIn e f.state.waiting → list_any (nat_eq e.1.opened) (numbers_in (leavers_under s.names (scope.Connection conn) f.state)) ≡ false → eqb e.1.place.connection conn ≡ false
    elsewhere e here apart =
        elim (cases_Bool (eqb e.1.place.connection conn)) [
          | inr other ↦ other
          | inl on ↦ absurd (true≢false (sym (under_conn conn f.state e e.1.request here refl on (all_in (IsAwaited s f.state) e f.state.waiting awaited here).under) ∙ ap (list_any (nat_eq e.1.opened)) (sym (numbers_going s.names (scope.Connection conn) f.state)) ∙ apart))
        ]

pub end_others : (f : FrontSmb) (s : CoreState) (conn : ℕ) → AllByRecursion (λ (e : ℕ × Waiting). eqb e.1.place.connection conn ≡ false) (smb_end f s conn).1.state.waiting
unfolding smb_end
end_others f s conn =
    let m : Lists = gone_lists conn f.state in
    let told : List Effect = (all_ended (leavers_under s.names (scope.Connection conn) f.state) s).0 in
    all_from (λ (e : ℕ × Waiting). eqb e.1.place.connection conn ≡ false) (all_dismissed told m).1.waiting
    (λ e here. not-true (eqb e.1.place.connection conn) (in_filter_from (λ (x : ℕ × Waiting). not (eqb x.1.place.connection conn)) e f.state.waiting (subst (λ (es : List (ℕ × Waiting)). IsIn e es) (gone_rows conn f.state) (dismissed_in told (keys_of m.waiting) m e here))).1)

-- ---- which opens stay under their leases

pub end_leased : (f : FrontSmb) (s : CoreState) (conn number : ℕ) (made : Open) → list_any (nat_eq number) (opens_under (scope.Connection conn) f.state) ≡ false → IsLeased f.state number made → IsLeased (smb_end f s conn).1.state number made
unfolding smb_end
end_leased f s conn number made apart leased =
    let numbers : List ℕ = opens_under (scope.Connection conn) f.state in
    let closes : Lists = all_closed numbers f.state in
    let m : Lists = gone_lists conn f.state in
    let told : List Effect = (all_ended (leavers_under s.names (scope.Connection conn) f.state) s).0 in
    leased_with m (all_dismissed told m).1 number made (ap (λ (x : Lists). x.leases) (dismissed_keeps told (keys_of m.waiting) m))
    (leased_with closes m number made (ended_leases conn closes) (stay_leased numbers number made f.state apart leased))

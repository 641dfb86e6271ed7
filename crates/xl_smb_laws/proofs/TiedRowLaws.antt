-- Each open in the lists has its share, whatever comes to the front.
use Rattle.std.proofs.Common.{◌≡◌, ℕ, ◌+◌, Bool, true, false, not, ◌||◌, if◌then◌else◌, eqb, List, [], ◌∷◌, ◌++◌, length, map, Option, Some, None, is_some, Ok, Err, Result, refl, sym, ap, subst, ◌∙◌, inl, inr}
use Rattle.std.specs.Prelude.{◌==◌, ◌⊎◌, nat_eq, nat_lt, nat_le}
use Rattle.std.specs.List.{AllByRecursion, IsDistinct}
use Rattle.std.specs.Map.{keys_of, lookup, remove_entry}
use Rattle.std.proofs.lemmas.Bool.{and_parts, cases_Bool, false≢true, true≢false}
use Rattle.std.proofs.lemmas.Map.Keys.{IsDistinct-head, IsDistinct-tail}
use Rattle.xl_base.proofs.Members.{all_in}
use Rattle.xl_base.specs.Lists.{IsIn}
use Rattle.xl_base.specs.declared.journal.Exports.{Exports}
use Rattle.xl_base.specs.declared.name.Party.{Party}
use Rattle.xl_matrix.specs.declared.claim.Claim.{Claim}
use Rattle.xl_matrix.specs.declared.claim.Rwd.{Rwd}
use Rattle.xl_names.specs.declared.name.Name.{Name}
use Rattle.xl_smb.specs.Calls.{CallItem, Cancel, Close, Create, Echo, Lock, Logoff, Negotiate, OplockBreak, Other, SessionSetup, TreeConnect, TreeDisconnect}
use Rattle.xl_smb.specs.Creates.{CreateCallItem}
use Rattle.xl_smb.specs.Heads.{command_of, head_of}
use Rattle.xl_smb.specs.Locks.{LockItem, elements_of}
use Rattle.xl_smb.specs.Messages.{Call, MessageItem, Reply, Told, message_at}
use Rattle.xl_smb.specs.Sessions.{NegotiateCallItem, dialects_of}
use Rattle.xl_smb.specs.declared.fault.SmbBad.{SmbBad}
use Rattle.xl_smb.specs.declared.file.FileId.{FileId}
use Rattle.xl_smb.specs.declared.head.SmbHead.{SmbHead}
use Rattle.xl_smb_state.proofs.LeaseLaws.{with_keeps}
use Rattle.xl_smb_state.proofs.RowLaws.{equal_from, lookup_removed, none_some, same_Some, unequal_both}
use Rattle.xl_smb_state.specs.Links.{AreDistinct, most_connections}
use Rattle.xl_smb_state.specs.State.{Lists, client_of, closed, connection_added, connection_changed, connection_of, covers, covers_holder, creates_under, made_in, makes_open, makes_under, open_of, opens_under, tree_dropped, waiting_added}
use Rattle.xl_smb_state.specs.declared.row.Open.{Open}
use Rattle.xl_smb_state.specs.declared.row.Request.{Request}
use Rattle.xl_smb_state.specs.declared.row.Request.TheVariants as request
use Rattle.xl_smb_state.specs.declared.row.Scope.{Scope}
use Rattle.xl_smb_state.specs.declared.row.Scope.TheVariants as scope
use Rattle.xl_smb_state.specs.declared.row.Waiting.{Waiting}
use Rattle.xl_wait.specs.Waiting.{is_waiting, no_rows}
use Rattle.xl_wait.specs.declared.waiter.Rooms.{Rooms}
use Rattle.xl_core.proofs.GoodLaws.{drawn_good}
use Rattle.xl_core.proofs.WayAsks.{ask_shared}
use Rattle.xl_core.specs.Decide.{ask}
use Rattle.xl_core.specs.Deeds.{Acks, Advances, AreFit, Asks, Cancels, Closes, Deed, Draws, Ends, EndsGrace, Expires, FailsStore, GivesBack, Lapses, Renews, Serves, Weakens, all_done, done}
use Rattle.xl_core.specs.Good.{IsGood}
use Rattle.xl_core.specs.Places.{share_held}
use Rattle.xl_core.specs.State.{CoreState, drawn}
use Rattle.xl_core.specs.declared.ask.Answer.{Answer}
use Rattle.xl_core.specs.declared.ask.Answer.TheVariants as answers
use Rattle.xl_core.specs.declared.ask.Ask.{Ask}
use Rattle.xl_plan.specs.Plans.{AllAt}
use Rattle.xl_smb_locks.proofs.FitLaws.{party_fits}
use Rattle.xl_smb_locks.proofs.UnlockLaws.{unlocks_are}
use Rattle.xl_smb_locks.specs.Locks.{lock_told}
use Rattle.xl_smb_locks.specs.declared.locking.Locking.{Locking}
use Rattle.xl_smb_locks.specs.declared.locking.Locking.TheVariants as locking
use Rattle.xl_smb_locks.specs.declared.status.SmbStatus.{SmbStatus}
use Rattle.xl_smb_locks.specs.declared.status.SmbStatus.TheVariants as status
use Rattle.xl_front_smb.specs.Checks.{file_number, is_fresh, is_open_on, negotiated_by, session_named}
use Rattle.xl_front_smb.specs.Ending.{all_closed, ends, leavers_under, numbers_under, session_gone, smb_end, smb_end_deeds}
use Rattle.xl_front_smb.specs.Files.{access_of, close, close_open, deny_of, open_ask}
use Rattle.xl_front_smb.specs.FrontSmb.{head_heard, plan_for, smb_step, stepped}
use Rattle.xl_front_smb.specs.Laws.{rows_but}
use Rattle.xl_front_smb.specs.Locks.{cancel, cancel_named, lock, request_named}
use Rattle.xl_front_smb.specs.Plans.{Does, Fails, Locks, Opens, Plan, carried, deeds_of, has_room_to_wait, lists_by, opened_lists, with_waiting}
use Rattle.xl_front_smb.specs.Requests.{commanded, planned, read_as, requested}
use Rattle.xl_front_smb.specs.Sessions.{connect, connect_as, disconnect, has_room_for_session, has_room_for_tree, logoff, negotiate, offers, session_setup, set_up_as, tree_connect, tree_disconnect}
use Rattle.xl_front_smb.specs.State.{FrontSmb, smb_begin}
use Rattle.xl_front_smb.specs.Texts.{is_share}
use Rattle.xl_front_smb.specs.declared.told.Told.TheVariants as told
use Rattle.xl_front_smb.proofs.EndLaws.{IsFound, dismissed_keeps, numbers_going}
use Rattle.xl_front_smb.proofs.GoneLaws.{end_opens, off_opens, opens_out}
use Rattle.xl_smb_laws.specs.TiedRows.{HoldsShare, SparesShare}
use Rattle.xl_smb_laws.specs.WaitingRequests.{AreAwaited, IsAwaited, IsUnder}
use Rattle.xl_smb_laws.proofs.AwaitedRequestLaws.{numbers_in}
use Rattle.xl_smb_laws.proofs.CancelLaws.{found_once}
use Rattle.xl_smb_laws.proofs.PlanWalks.{by_open, walk_acknowledge, walk_client, walk_created, walk_if, walk_lock, walk_refused, walk_session, walk_tree}
use Rattle.xl_smb_laws.proofs.RequestDeedLaws.{end_does}
use Rattle.xl_smb_laws.proofs.RequestOwn.{end_takes, in_append_from, requested_theirs}
use Rattle.xl_smb_laws.proofs.SharedOpenLaws.{deeds_keep_share}

-- each open in the lists has its share
abbrev pub HaveShares : CoreState → Lists → Type 0
HaveShares s l = (number : ℕ) (row : Open) → open_of number l ≡ Some row → HoldsShare s number row

-- ---- deeds of SMB, of which none closes this open

abbrev StandsBeside : ℕ → Deed → Type 0
StandsBeside k (Closes number party) = eqb k number ≡ false
StandsBeside k (GivesBack claim) = ⊥
StandsBeside k (Ends party) = ⊥
StandsBeside k deed = Unit {0}

one_spares : (k : ℕ) (s : CoreState) (d : Deed) → StandsBeside k d → SparesShare k s d
one_spares k s (Closes number party) own = own
one_spares k s (GivesBack claim) own = absurd own
one_spares k s (Ends party) own = absurd own
one_spares k s (Asks left a) own = tt
one_spares k s (Weakens share access deny) own = tt
one_spares k s (Acks cache to) own = tt
one_spares k s (Cancels id) own = tt
one_spares k s (Serves left) own = tt
one_spares k s Draws own = tt
one_spares k s (Advances now) own = tt
one_spares k s (Lapses cache) own = tt
one_spares k s (Renews client) own = tt
one_spares k s (Expires client) own = tt
one_spares k s (FailsStore stable) own = tt
one_spares k s EndsGrace own = tt

all_spare : (k n : ℕ) (s : CoreState) (ds : List Deed) → AllByRecursion (StandsBeside k) ds → AllAt (SparesShare k) n s ds
all_spare k n s [] all = tt
all_spare k n s (d ∷ ds) all = (one_spares k s d all.0, all_spare k n (done n s d) ds all.1)

-- ---- what an answer leaves of the lists

pub came_or_was : (k number : ℕ) (row found : Open) (es : List (ℕ × Open)) → lookup (nat_eq k) (es ++ (number, row) ∷ []) ≡ Some found → (lookup (nat_eq k) es ≡ Some found) ⊎ ((number ≡ k) × (row ≡ found))
came_or_was k number row found [] at =
    elim (cases_Bool (eqb k number)) [
      | inl same ↦ inr (equal_from k number same, same_Some (rw same at at))
      | inr apart ↦ absurd (none_some (rw apart at at))
    ]
came_or_was k number row found (e ∷ es) at =
    elim (cases_Bool (eqb k e.0)) [
      | inl same ↦ rw same (inl (rw same at at))
      | inr apart ↦ rw apart (came_or_was k number row found es (rw apart at at))
    ]

waits_was : (k id : ℕ) (row : Waiting) (l : Lists) (found : Open) → open_of k (with_waiting id row l) ≡ Some found → open_of k l ≡ Some found
waits_was k id row l found at = by (has_room_to_wait l id) at
  where
    by : (b : Bool) → open_of k (if b then waiting_added id row l else l) ≡ Some found → open_of k l ≡ Some found
    by true there = there
    by false there = there

abbrev Came : ℕ → ℕ → Open → Answer → Open → Type 0
Came k number row answer found = (g : Claim) × (answer ≡ answers.Granted g) × (number ≡ k) × (row ≡ found)

opened_was : (k number : ℕ) (row : Open) (waiting : Waiting) (l : Lists) (answer : Answer) (found : Open) → open_of k (opened_lists l number row waiting answer) ≡ Some found → (open_of k l ≡ Some found) ⊎ Came k number row answer found
opened_was k number row waiting l (answers.Granted g) found at =
    elim (came_or_was k number row found l.opens (sym (ap (λ (m : Lists). open_of k m) (with_keeps number row l)) ∙ at)) [
      | inl was ↦ inl was
      | inr came ↦ inr (g, refl, came.0, came.1)
    ]
opened_was k number row waiting l (answers.Queued id) found at = inl (waits_was k id waiting l found at)
opened_was k number row waiting l (answers.Conflict c) found at = inl at
opened_was k number row waiting l (answers.Recall c) found at = inl at
opened_was k number row waiting l (answers.Grace until) found at = inl at
opened_was k number row waiting l (answers.NoGrace clock) found at = inl at
opened_was k number row waiting l answers.NotRecorded found at = inl at
opened_was k number row waiting l (answers.Full limit) found at = inl at
opened_was k number row waiting l answers.NotHeld found at = inl at
opened_was k number row waiting l answers.StoreFailed found at = inl at

locked_was : (k : ℕ) (row : Waiting) (l : Lists) (r : Locking) (found : Open) → open_of k (lists_by l row l r) ≡ Some found → open_of k l ≡ Some found
locked_was k row l locking.Done found at = at
locked_was k row l (locking.Failed refusal) found at = at
locked_was k row l (locking.Waits id) found at = waits_was k id row l found at

-- ---- a plan

-- each open that is left was there, and is none of those that are closed; an open that comes is asked for
abbrev Ties : Lists → Plan → Type 0
Ties l (Fails refusal) = Unit {0}
Ties l (Does deeds lists t) = (k : ℕ) (row : Open) → open_of k lists ≡ Some row → (open_of k l ≡ Some row) × AllByRecursion (StandsBeside k) deeds
Ties l (Opens left a number row id waiting) = (conn : ℕ) × (c : CreateCallItem) × (a ≡ open_ask conn number row c)
Ties l (Locks a row) = Unit {0}

asked_share : (n : ℕ) (s : CoreState) (left : Rooms) (conn number : ℕ) (row : Open) (c : CreateCallItem) (g : Claim) → IsGood s → (ask n left (drawn s) (open_ask conn number row c)).0 ≡ answers.Granted g → HoldsShare (ask n left (drawn s) (open_ask conn number row c)).2 number row
unfolding open_ask
asked_share n s left conn number row c g good granted =
    let access : Rwd = access_of c.desired_access in
    let deny : Rwd = deny_of (access_of c.desired_access) c.share_access in
    (access, deny, ap (map share_held) (ask_shared n left (drawn s) (open_ask conn number row c) access deny g (drawn_good s good) (party_fits number row) refl refl granted))

carried_shares : (n : ℕ) (s : CoreState) (l : Lists) (plan : Plan) → IsGood s → AreFit n s (deeds_of n s l plan) → Ties l plan → HaveShares s l → HaveShares (carried n s l plan).3 (carried n s l plan).2
carried_shares n s l (Fails refusal) good fit ties have k row at = have k row at
carried_shares n s l (Does deeds lists t) good fit ties have k row at =
    let was = ties k row at in
    deeds_keep_share n s deeds row.file k good fit (all_spare k n s deeds was.1) (have k row was.0)
carried_shares n s l (Opens left a number row id waiting) good fit ties have k found at =
    elim (opened_was k number row waiting l (ask n left (drawn s) a).0 found at) [
      | inl was ↦ deeds_keep_share n s (Draws ∷ Asks left a ∷ []) found.file k good fit (tt, (tt, tt)) (have k found was)
      | inr came ↦ (
          let granted = ap (λ (x : Ask). (ask n left (drawn s) x).0) (sym ties.2) ∙ came.1 in
          let holds = asked_share n s left ties.0 number row ties.1 came.0 good granted in
          subst (λ (r : Open). HoldsShare (ask n left (drawn s) a).2 k r) came.3
          (subst (λ (j : ℕ). HoldsShare (ask n left (drawn s) a).2 j row) came.2
          (subst (λ (x : Ask). HoldsShare (ask n left (drawn s) x).2 number row) (sym ties.2) holds)))
    ]
carried_shares n s l (Locks a row) good fit ties have k found at =
    deeds_keep_share n s (Asks no_rows a ∷ []) found.file k good fit (tt, tt) (have k found (locked_was k row l (lock_told (ask n no_rows s a).0) found at))

-- ---- rows that are left

module _ {X : Type 0} where
  apart_none : (k : ℕ) (es : List (ℕ × X)) (row : X) → AllByRecursion (λ y. eqb k y ≡ false) (keys_of es) → lookup (nat_eq k) es ≡ Some row → ⊥
  apart_none k [] row all at = none_some at
  apart_none k (e ∷ es) row all at = apart_none k es row all.1 (rw all.0 at at)

  but_found : (test : X → Bool) (k : ℕ) (es : List (ℕ × X)) (row : X) → IsDistinct nat_eq (keys_of es) → lookup (nat_eq k) (rows_but (λ (e : ℕ × X). test e.1) es) ≡ Some row → (lookup (nat_eq k) es ≡ Some row) × (test row ≡ false)
  but_found test k [] row distinct at = absurd (none_some at)
  but_found test k (e ∷ es) row distinct at =
      elim (cases_Bool (test e.1)) [
        | inl out ↦ (
            let later = but_found test k es row (IsDistinct-tail nat_eq e.0 (keys_of es) distinct) (rw out at at) in
            elim (cases_Bool (eqb k e.0)) [
              | inl same ↦ absurd (apart_none e.0 es row (IsDistinct-head nat_eq e.0 (keys_of es) distinct) (subst (λ (j : ℕ). lookup (nat_eq j) es ≡ Some row) (sym (equal_from k e.0 same)) later.0))
              | inr apart ↦ rw apart later
            ])
        | inr stays ↦ (
            let there : lookup (nat_eq k) (e ∷ rows_but (λ (x : ℕ × X). test x.1) es) ≡ Some row = rw stays at at in
            elim (cases_Bool (eqb k e.0)) [
              | inl same ↦ (let is : e.1 ≡ row = same_Some (rw same at there) in rw same (ap (λ (x : X). Some x) is, subst (λ (x : X). test x ≡ false) is stays))
              | inr apart ↦ (let later = but_found test k es row (IsDistinct-tail nat_eq e.0 (keys_of es) distinct) (rw apart at there) in rw apart later)
            ])
      ]

  removed_gone : (n : ℕ) (es : List (ℕ × X)) (row : X) → IsDistinct nat_eq (keys_of es) → lookup (nat_eq n) (remove_entry (nat_eq n) es) ≡ Some row → ⊥
  removed_gone n [] row distinct at = none_some at
  removed_gone n (e ∷ es) row distinct at =
      let later = removed_gone n es row (IsDistinct-tail nat_eq e.0 (keys_of es) distinct) in
      let apart = apart_none e.0 es row (IsDistinct-head nat_eq e.0 (keys_of es) distinct) in
      by (eqb n e.0) refl later apart at
    where
      by : (b : Bool) → eqb n e.0 ≡ b → (lookup (nat_eq n) (remove_entry (nat_eq n) es) ≡ Some row → ⊥) → (lookup (nat_eq e.0) es ≡ Some row → ⊥) → lookup (nat_eq n) (if b then es else e ∷ remove_entry (nat_eq n) es) ≡ Some row → ⊥
      by true same later apart there = apart (subst (λ (j : ℕ). lookup (nat_eq j) es ≡ Some row) (sym (equal_from n e.0 same)) there)
      by false other later apart there = later (rw other at there)

-- ---- opens that end with what they are under

-- an open that a request waits to make is not there
made_apart : (under : Scope) (l : Lists) (k : ℕ) (es : List (ℕ × Waiting)) → ((e : ℕ × Waiting) → IsIn e es → makes_open e.1.request ≡ true → is_some (open_of e.1.opened l) ≡ false) → IsIn k (made_in under es) → is_some (open_of k l) ≡ false
made_apart under l k [] each here = absurd here
made_apart under l k (e ∷ es) each here =
    elim (cases_Bool (makes_under under e.1)) [
      | inr other ↦ made_apart under l k es (λ x there. each x (inr there)) (rw other at here)
      | inl makes ↦ (
          let there : IsIn k (e.1.opened ∷ made_in under es) = rw makes at here in
          elim there [
            | inl first ↦ subst (λ (j : ℕ). is_some (open_of j l) ≡ false) first (each e (inl refl) (and_parts (makes_open e.1.request) (covers under e.1.place) makes).0)
            | inr rest ↦ made_apart under l k es (λ x there. each x (inr there)) rest
          ])
    ]

free_of : (l : Lists) (e : ℕ × Waiting) (r : Request) → IsUnder l e r → makes_open r ≡ true → is_some (open_of e.1.opened l) ≡ false
free_of l e request.Lock under makes = absurd (false≢true makes)
free_of l e (request.Create made) under makes = under.free

abbrev IsUnmade : Lists → Type 0
IsUnmade l = (under : Scope) (k : ℕ) → IsIn k (creates_under under l) → is_some (open_of k l) ≡ false

unmade : (s : CoreState) (l : Lists) → AreAwaited s l → IsUnmade l
unmade s l awaited under k here = made_apart under l k l.waiting (λ e there makes. free_of l e e.1.request (all_in (IsAwaited s l) e l.waiting awaited there).under makes) here

ends_stand : (k : ℕ) (going : List (ℕ × Option Party)) → ((m : ℕ) → IsIn m (numbers_in going) → eqb k m ≡ false) → AllByRecursion (StandsBeside k) (ends going)
ends_stand k [] each = tt
ends_stand k (e ∷ going) each = (each e.0 (inl refl), ends_stand k going (λ m here. each m (inr here)))

module _ (names : List Name) (under : Scope) (l : Lists) (distinct : AreDistinct l) (none : IsUnmade l) where
  beside : (k : ℕ) (row : Open) → open_of k l ≡ Some row → covers_holder under row.holder ≡ false → (m : ℕ) → IsIn m (numbers_under under l) → eqb k m ≡ false
  beside k row at apart m here =
      elim (cases_Bool (eqb k m)) [
        | inr differs ↦ differs
        | inl same ↦ (
            let there : open_of m l ≡ Some row = subst (λ (j : ℕ). open_of j l ≡ Some row) (sym (equal_from k m same)) at in
            elim (in_append_from m (opens_under under l) (creates_under under l) here) [
              | inl held ↦ (
                  let found : covers_holder under row.holder ≡ true = subst (λ (o : Option Open). IsFound (λ (r : Open). covers_holder under r.holder) o) there (found_once (λ (r : Open). covers_holder under r.holder) l.opens m distinct.opens held) in
                  absurd (true≢false (sym found ∙ apart)))
              | inr made ↦ absurd (true≢false (sym (ap (λ (o : Option Open). is_some o) there) ∙ none under m made))
            ])
      ]

  ended_tie : (lists : Lists) → lists.opens ≡ rows_but (λ (e : ℕ × Open). covers_holder under e.1.holder) l.opens → (k : ℕ) (row : Open) → open_of k lists ≡ Some row → (open_of k l ≡ Some row) × AllByRecursion (StandsBeside k) (ends (leavers_under names under l))
  ended_tie lists opens k row at =
      let left = but_found (λ (r : Open). covers_holder under r.holder) k l.opens row distinct.opens (sym (ap (λ (es : List (ℕ × Open)). lookup (nat_eq k) es) opens) ∙ at) in
      (left.0, ends_stand k (leavers_under names under l) (λ m here. beside k row left.0 left.1 m (subst (λ (numbers : List ℕ). IsIn m numbers) (numbers_going names under l) here)))

-- ---- each command

module _ (s : CoreState) (files : List (List ℕ)) (others : ℕ) (l : Lists) (conn : ℕ) (h : SmbHead) (distinct : AreDistinct l) (none : IsUnmade l) where
  abbrev P : Plan → Type 0
  P plan = Ties l plan

  abbrev stop : (refusal : SmbStatus) → P (Fails refusal)
  stop refusal = tt

  negotiate_ties : (c : NegotiateCallItem) → P (negotiate l conn c)
  unfolding negotiate
  negotiate_ties c =
      let lists : Lists = connection_changed conn (record { client = Some c.client_guid }) l in
      walk_refused P stop ((not (is_fresh (connection_of conn l)), status.InvalidParameter) ∷ (length (dialects_of c.dialects) == 0, status.InvalidParameter) ∷ (not (offers c.dialects), status.NotSupported) ∷ [])
      (Does [] lists told.Negotiated) (λ all. λ k row at. (at, tt))

  setup_ties : (new : Bool) → h.session_id == 0 ≡ new → P (session_setup s l conn h)
  unfolding session_setup
  setup_ties true is = rw is (walk_if P stop (has_room_for_session l conn (s.counter + 1)) status.InsufficientResources (set_up_as s l conn (s.counter + 1)) (λ k row at. (at, (tt, tt))))
  setup_ties false is = rw is (walk_session P stop (λ session. Does [] l (told.SetUp h.session_id)) (session_named s l conn h.session_id) (λ session. λ k row at. (at, tt)))

  logoff_ties : P (logoff s l conn h)
  unfolding logoff
  logoff_ties =
      walk_session P stop _ (session_named s l conn h.session_id)
      (λ session. ended_tie s.names (scope.Session session) l distinct none (session_gone session (all_closed (opens_under (scope.Session session) l) l)) (off_opens session l distinct))

  connect_ties : (path : List ℕ) → P (tree_connect s l conn h path)
  unfolding tree_connect
  connect_ties path =
      walk_session P stop (connect s l conn path) (session_named s l conn h.session_id)
      (λ session. walk_refused P stop ((not (has_room_for_tree l conn (s.counter + 1)), status.InsufficientResources) ∷ (not (is_share path), status.BadNetworkName) ∷ []) (connect_as l conn session (s.counter + 1)) (λ all. λ k row at. (at, (tt, tt))))

  disconnect_ties : (client : List ℕ) → P (tree_disconnect s l conn client h)
  unfolding tree_disconnect
  disconnect_ties client =
      walk_session P stop _ (session_named s l conn h.session_id)
      (λ session. walk_tree P stop l conn session client h (disconnect s l)
      (λ place here there. ended_tie s.names (scope.Tree place.tree) l distinct none (tree_dropped place.tree (all_closed (opens_under (scope.Tree place.tree) l) l)) (opens_out (scope.Tree place.tree) l distinct.opens)))

  close_ties_one : (number : ℕ) → P (close_open s l number)
  close_ties_one number k row at =
      elim (cases_Bool (eqb number k)) [
        | inl same ↦ absurd (removed_gone number l.opens row distinct.opens (subst (λ (j : ℕ). open_of j (closed number l) ≡ Some row) (equal_from number k same) at))
        | inr apart ↦ (sym (lookup_removed k number l.opens apart) ∙ at, (unequal_both number k apart, tt))
      ]

  close_ties : (client : List ℕ) (id : FileId) → P (close s l conn client h id)
  unfolding close
  close_ties client id =
      walk_session P stop _ (session_named s l conn h.session_id)
      (λ session. walk_tree P stop l conn session client h _ (λ place here there. by_open P (λ number. is_open_on conn (open_of number l)) (close_open s l) (file_number s id) tt (λ number on. close_ties_one number)))

  cancel_ties : (o : Option ℕ) → P (cancel_named s l o)
  cancel_ties None = λ k row at. (at, tt)
  cancel_ties (Some id) =
      elim (cases_Bool (is_waiting id s.waiters)) [
        | inl e ↦ rw e (λ k row at. (at, (tt, tt)))
        | inr e ↦ rw e (λ k row at. (at, tt))
      ]

  lock_ties : (c : LockItem) (client : List ℕ) → P (lock s l conn client h c)
  lock_ties c client =
      walk_lock P stop s l conn client h c (λ number row at on. λ k found there. (there, unlocks_are (StandsBeside k) s number row (elements_of c.elements) (λ e. tt))) (λ place number row at on count fault. tt)

  once_ties : (call : CallItem) → ((client : List ℕ) → P (commanded s files others l conn h call client)) → P (negotiated_by (commanded s files others l conn h call) (client_of conn l))
  once_ties call rest = walk_client P stop (commanded s files others l conn h call) (client_of conn l) rest

  planned_ties : (call : CallItem) → P (planned s files others l conn h call)
  unfolding planned commanded cancel
  planned_ties (Negotiate c) = negotiate_ties c
  planned_ties (SessionSetup c) = once_ties (SessionSetup c) (λ client. setup_ties (h.session_id == 0) refl)
  planned_ties Logoff = once_ties Logoff (λ client. logoff_ties)
  planned_ties (TreeConnect path) = once_ties (TreeConnect path) (λ client. connect_ties path)
  planned_ties TreeDisconnect = once_ties TreeDisconnect (λ client. disconnect_ties client)
  planned_ties (Create c) = walk_created P stop s files others l conn h c (λ client place file here. (place.connection, c, refl))
  planned_ties (Close c) = once_ties (Close c) (λ client. close_ties client c.file_id)
  planned_ties (Lock c) = once_ties (Lock c) (λ client. lock_ties c client)
  planned_ties Cancel = once_ties Cancel (λ client. cancel_ties (request_named conn l h.message_id h.route))
  planned_ties Echo = once_ties Echo (λ client. λ k row at. (at, tt))
  planned_ties (OplockBreak b) = once_ties (OplockBreak b) (λ client. walk_acknowledge P stop s l conn client (λ cache to t here may own quiet. λ k row at. (at, (tt, tt))) h b)
  planned_ties Other = once_ties Other (λ client. tt)

  read_ties : (m : Result MessageItem SmbBad) → ((call : CallItem) (head : SmbHead) → P (planned s files others l conn head call)) → P (read_as s files others l conn m)
  read_ties (Ok (Call head call)) each = each call head
  read_ties (Ok (Reply head r)) each = tt
  read_ties (Ok (Told t)) each = tt
  read_ties (Err fault) each = tt

requested_ties : (s : CoreState) (files : List (List ℕ)) (others : ℕ) (l : Lists) (conn : ℕ) (bytes : List ℕ) (h : SmbHead) → AreDistinct l → IsUnmade l → Ties l (requested s files others l conn bytes h)
unfolding requested
requested_ties s files others l conn bytes h distinct none =
    walk_refused (Ties l) (λ refusal. tt) ((not (h.next_command == 0), status.InvalidParameter) ∷ (nat_lt 18 h.command, status.InvalidParameter) ∷ (not (is_some (command_of h.command)), status.NotSupported) ∷ []) (read_as s files others l conn (message_at bytes))
    (λ all. read_ties s files others l conn h distinct none (message_at bytes) (λ call head. planned_ties s files others l conn head distinct none call))

-- ---- a message, an end, an opening

heard_shares : (n : ℕ) (exports : Exports) (others : ℕ) (f : FrontSmb) (s : CoreState) (conn : ℕ) (bytes : List ℕ) (h : Option SmbHead) → IsGood s → AreDistinct f.state → AreAwaited s f.state → HaveShares s f.state → HaveShares (stepped n exports others f s conn bytes h).3 (stepped n exports others f s conn bytes h).2.state
heard_shares n exports others f s conn bytes None good distinct awaited have = have
heard_shares n exports others f s conn bytes (Some h) good distinct awaited have =
    let plan : Plan = plan_for exports others f s conn bytes h in
    let r = carried n s f.state plan in
    let all = carried_shares n s f.state plan good (requested_theirs n s exports.files others f.state conn bytes h).0 (requested_ties s exports.files others f.state conn bytes h distinct (unmade s f.state awaited)) have in
    λ k row at. all k row (sym (ap (λ (m : Lists). open_of k m) (dismissed_keeps r.1 (keys_of r.2.waiting) r.2)) ∙ at)

pub step_shares : (n : ℕ) (exports : Exports) (others : ℕ) (f : FrontSmb) (s : CoreState) (conn : ℕ) (bytes : List ℕ) → IsGood s → AreDistinct f.state → AreAwaited s f.state → HaveShares s f.state → HaveShares (smb_step n exports others f s conn bytes).3 (smb_step n exports others f s conn bytes).2.state
unfolding smb_step
step_shares n exports others f s conn bytes good distinct awaited have = heard_shares n exports others f s conn bytes (head_heard (head_of bytes)) good distinct awaited have

end_stands : (f : FrontSmb) (s : CoreState) (conn k : ℕ) (row : Open) → AreDistinct f.state → AreAwaited s f.state → open_of k (smb_end f s conn).1.state ≡ Some row → (open_of k f.state ≡ Some row) × AllByRecursion (StandsBeside k) (smb_end_deeds f s conn)
unfolding smb_end_deeds
end_stands f s conn k row distinct awaited at = ended_tie s.names (scope.Connection conn) f.state distinct (unmade s f.state awaited) (smb_end f s conn).1.state (end_opens f s conn distinct) k row at

pub end_shares : (f : FrontSmb) (s : CoreState) (conn : ℕ) → IsGood s → AreDistinct f.state → AreAwaited s f.state → HaveShares s f.state → HaveShares (smb_end f s conn).2 (smb_end f s conn).1.state
end_shares f s conn good distinct awaited have k row at =
    let ds : List Deed = smb_end_deeds f s conn in
    let was = end_stands f s conn k row distinct awaited at in
    subst (λ (t : CoreState). HoldsShare t k row) (sym (end_does 0 f s conn)) (deeds_keep_share 0 s ds row.file k good (end_takes 0 f s conn) (all_spare k 0 s ds was.1) (have k row was.0))

pub begun_shares : (s : CoreState) (f : FrontSmb) (conn : ℕ) → HaveShares s f.state → HaveShares s (smb_begin f conn).state
unfolding smb_begin
begun_shares s f conn have = by (is_some (connection_of conn f.state) || nat_le most_connections (length f.state.connections))
  where
    by : (b : Bool) → HaveShares s (if b then f.state else connection_added conn (record { client = None }) f.state)
    by true = have
    by false = have

-- deeds of others leave the lists, and spare each open
pub spared_shares : (n : ℕ) (s : CoreState) (l : Lists) (ds : List Deed) → IsGood s → AreFit n s ds → ((number : ℕ) → AllAt (SparesShare number) n s ds) → HaveShares s l → HaveShares (all_done n s ds) l
spared_shares n s l ds good fit spare have k row at = deeds_keep_share n s ds row.file k good fit (spare k) (have k row at)

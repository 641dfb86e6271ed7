-- A request is told that it waits exactly as a row of it comes.
use Rattle.std.proofs.Common.{◌≡◌, ℕ, ◌+◌, Bool, true, false, not, if◌then◌else◌, List, [], ◌∷◌, ◌++◌, length, Option, Some, None, refl, sym, ap, subst, ◌∙◌}
use Rattle.std.proofs.lemmas.Bool.{true≢false, false≢true}
use Rattle.std.specs.Prelude.{◌==◌}
use Rattle.xl_base.proofs.Members.{all_from, all_in}
use Rattle.xl_smb.specs.Calls.{CallItem, Cancel, Close, Create, Echo, Lock, Logoff, Negotiate, OplockBreak, Other, SessionSetup, TreeConnect, TreeDisconnect}
use Rattle.xl_smb.specs.Locks.{LockItem, elements_of}
use Rattle.xl_smb.specs.Sessions.{NegotiateCallItem, dialects_of}
use Rattle.xl_smb.specs.declared.file.FileId.{FileId}
use Rattle.xl_smb.specs.declared.head.SmbHead.{SmbHead}
use Rattle.xl_smb.specs.declared.lock.LockElement.{LockElement}
use Rattle.xl_smb_state.specs.Links.{AreDistinct}
use Rattle.xl_smb_state.specs.State.{Lists, client_of, connection_changed, connection_of, open_of, waiting_added}
use Rattle.xl_smb_state.specs.declared.row.Open.{Open}
use Rattle.xl_smb_state.specs.declared.row.Waiting.{Waiting}
use Rattle.xl_smb_state.proofs.LeaseLaws.{with_keeps}
use Rattle.xl_wait.specs.Waiting.{is_waiting, no_rows}
use Rattle.xl_core.specs.Decide.{ask}
use Rattle.xl_core.specs.Deeds.{AreFit, Deed}
use Rattle.xl_core.specs.Good.{IsGood}
use Rattle.xl_core.specs.State.{CoreState, drawn}
use Rattle.xl_core.specs.declared.ask.Answer.{Answer}
use Rattle.xl_core.specs.declared.ask.Answer.TheVariants as answers
use Rattle.xl_core.proofs.GoodLaws.{drawn_good}
use Rattle.xl_smb_locks.specs.Elements.{unlock_fault}
use Rattle.xl_smb_locks.specs.Locks.{lock_told, unlock_ask, unlock_next, unlock_told, unlocks}
use Rattle.xl_smb_locks.specs.declared.levels.Caching.{Caching}
use Rattle.xl_smb_locks.specs.declared.locking.Locking.{Locking}
use Rattle.xl_smb_locks.specs.declared.locking.Locking.TheVariants as locking
use Rattle.xl_smb_locks.specs.declared.status.SmbStatus.{SmbStatus}
use Rattle.xl_smb_locks.specs.declared.status.SmbStatus.TheVariants as status
use Rattle.xl_front_smb.specs.Checks.{file_number, is_fresh, is_open_on, negotiated_by, session_named}
use Rattle.xl_front_smb.specs.Files.{close, close_open}
use Rattle.xl_front_smb.specs.Laws.{outcome_of}
use Rattle.xl_front_smb.specs.Locks.{cancel, cancel_named, lock, request_named}
use Rattle.xl_front_smb.specs.Plans.{Does, Fails, Locks, Opens, Plan, carried, deeds_of, has_room_to_wait, lists_as, opened_lists, opened_told, told_as}
use Rattle.xl_front_smb.specs.Requests.{commanded, planned}
use Rattle.xl_front_smb.specs.Sessions.{connect, connect_as, disconnect, has_room_for_session, has_room_for_tree, logoff, negotiate, offers, session_setup, set_up_as, tree_connect, tree_disconnect}
use Rattle.xl_front_smb.specs.Texts.{is_share}
use Rattle.xl_front_smb.specs.declared.told.Told.{Told}
use Rattle.xl_front_smb.specs.declared.told.Told.TheVariants as told
use Rattle.xl_smb_laws.specs.ReplyHeads.{KeepsHead}
use Rattle.xl_smb_laws.specs.WaitingRequests.{AreAwaited, IsAwaited}
use Rattle.xl_smb_laws.proofs.AwaitedRequestLaws.{Sorts, drawn_awaited, planned_sorts}
use Rattle.xl_smb_laws.proofs.PlanWalks.{by_open, is_pending, walk_acknowledge, walk_client, walk_created, walk_if, walk_lock, walk_refused, walk_session, walk_tree}
use Rattle.xl_smb_laws.proofs.RequestOwn.{planned_theirs}
use Rattle.xl_smb_laws.proofs.RoomLaws.{queued_kept}
use Rattle.xl_smb_laws.proofs.WaitConnectionLaws.{stands_on}

-- a plan of a request that waits keeps of it what its header says, and no other is told that it waits
abbrev Comes : SmbHead → ℕ → CallItem → Plan → Type 0
Comes h conn call (Fails refused) = Unit {0}
Comes h conn call (Does deeds lists t) = is_pending t ≡ false
Comes h conn call (Opens left a number row id waiting) = KeepsHead h conn call waiting
Comes h conn call (Locks a row) = KeepsHead h conn call row

-- ---- each command

module _ (s : CoreState) (files : List (List ℕ)) (others : ℕ) (l : Lists) (conn : ℕ) (h : SmbHead) (call : CallItem) where
  abbrev P : Plan → Type 0
  P plan = Comes h conn call plan

  abbrev stop : (refused : SmbStatus) → P (Fails refused)
  stop refused = tt

  negotiate_comes : (c : NegotiateCallItem) → P (negotiate l conn c)
  unfolding negotiate
  negotiate_comes c =
      walk_refused P stop ((not (is_fresh (connection_of conn l)), status.InvalidParameter) ∷ (length (dialects_of c.dialects) == 0, status.InvalidParameter) ∷ (not (offers c.dialects), status.NotSupported) ∷ [])
      (Does [] (connection_changed conn (record { client = Some c.client_guid }) l) told.Negotiated) (λ all. refl)

  setup_comes : (new : Bool) → h.session_id == 0 ≡ new → P (session_setup s l conn h)
  unfolding session_setup
  setup_comes true is = rw is (walk_if P stop (has_room_for_session l conn (s.counter + 1)) status.InsufficientResources (set_up_as s l conn (s.counter + 1)) refl)
  setup_comes false is = rw is (walk_session P stop (λ session. Does [] l (told.SetUp h.session_id)) (session_named s l conn h.session_id) (λ session. refl))

  logoff_comes : P (logoff s l conn h)
  unfolding logoff
  logoff_comes = walk_session P stop _ (session_named s l conn h.session_id) (λ session. refl)

  connect_comes : (path : List ℕ) → P (tree_connect s l conn h path)
  unfolding tree_connect
  connect_comes path =
      walk_session P stop (connect s l conn path) (session_named s l conn h.session_id)
      (λ session. walk_refused P stop ((not (has_room_for_tree l conn (s.counter + 1)), status.InsufficientResources) ∷ (not (is_share path), status.BadNetworkName) ∷ []) (connect_as l conn session (s.counter + 1)) (λ all. refl))

  disconnect_comes : (client : List ℕ) → P (tree_disconnect s l conn client h)
  unfolding tree_disconnect
  disconnect_comes client =
      walk_session P stop _ (session_named s l conn h.session_id)
      (λ session. walk_tree P stop l conn session client h (disconnect s l) (λ place here there. refl))

  close_comes : (client : List ℕ) (id : FileId) → P (close s l conn client h id)
  unfolding close
  close_comes client id =
      walk_session P stop _ (session_named s l conn h.session_id)
      (λ session. walk_tree P stop l conn session client h _ (λ place here there. by_open P (λ number. is_open_on conn (open_of number l)) (close_open s l) (file_number s id) tt (λ number on. refl)))

  cancel_comes : (o : Option ℕ) → P (cancel_named s l o)
  cancel_comes None = refl
  cancel_comes (Some id) = by (is_waiting id s.waiters) refl
    where
      by : (b : Bool) → is_waiting id s.waiters ≡ b → P (cancel_named s l (Some id))
      by true is = rw is refl
      by false is = rw is refl

-- ---- LOCK

-- unlocks are done or fail
abbrev not_waits : Locking → Bool
not_waits (locking.Waits id) = false
not_waits _ = true

told_ends : (s : CoreState) (number : ℕ) (row : Open) (e : LockElement) (answer : Answer) (rest : List Deed × Locking) → not_waits rest.1 ≡ true → not_waits (unlock_told (unlock_ask number row e) answer rest).1 ≡ true
told_ends s number row e (answers.Granted c) rest ends = ends
told_ends s number row e (answers.Conflict c) rest ends = refl
told_ends s number row e (answers.Queued id) rest ends = refl
told_ends s number row e (answers.Recall c) rest ends = refl
told_ends s number row e (answers.Grace until) rest ends = refl
told_ends s number row e (answers.NoGrace clock) rest ends = refl
told_ends s number row e answers.NotRecorded rest ends = refl
told_ends s number row e (answers.Full limit) rest ends = refl
told_ends s number row e answers.NotHeld rest ends = refl
told_ends s number row e answers.StoreFailed rest ends = refl

next_ends : (fault : Option SmbStatus) (next : List Deed × Locking) → not_waits next.1 ≡ true → not_waits (unlock_next fault next).1 ≡ true
next_ends None next ends = ends
next_ends (Some refused) next ends = refl

unlocks_end : (s : CoreState) (number : ℕ) (row : Open) (es : List LockElement) → not_waits (unlocks s number row es).1 ≡ true
unlocks_end s number row [] = refl
unlocks_end s number row (e ∷ es) =
    let r = ask 0 no_rows s (unlock_ask number row e) in
    next_ends (unlock_fault e) (unlock_told (unlock_ask number row e) r.0 (unlocks r.2 number row es)) (told_ends s number row e r.0 (unlocks r.2 number row es) (unlocks_end r.2 number row es))

ended_told : (r : Locking) → not_waits r ≡ true → is_pending (told_as r) ≡ false
ended_told locking.Done ends = refl
ended_told (locking.Failed refused) ends = refl
ended_told (locking.Waits id) ends = absurd (false≢true ends)

lock_comes : (s : CoreState) (l : Lists) (conn : ℕ) (h : SmbHead) (c : LockItem) (client : List ℕ) → Comes h conn (Lock c) (lock s l conn client h c)
lock_comes s l conn h c client =
    walk_lock (λ plan. Comes h conn (Lock c) plan) (λ refusal. tt) s l conn client h c
    (λ number row at on. ended_told (unlocks s number row (elements_of c.elements)).1 (unlocks_end s number row (elements_of c.elements)))
    (λ place number row at on count sound. record { message = refl; session = refl; charge = refl; command = refl; connection = stands_on conn row.holder place row refl on })

-- ---- a request

module _ (s : CoreState) (files : List (List ℕ)) (others : ℕ) (l : Lists) (conn : ℕ) (h : SmbHead) where
  once_comes : (call : CallItem) → ((client : List ℕ) → Comes h conn call (commanded s files others l conn h call client)) → Comes h conn call (negotiated_by (commanded s files others l conn h call) (client_of conn l))
  once_comes call goes = walk_client (λ plan. Comes h conn call plan) (λ refused. tt) (commanded s files others l conn h call) (client_of conn l) goes

  planned_comes : (call : CallItem) → Comes h conn call (planned s files others l conn h call)
  unfolding planned commanded cancel
  planned_comes (Negotiate c) = negotiate_comes s files others l conn h (Negotiate c) c
  planned_comes (SessionSetup c) = once_comes (SessionSetup c) (λ client. setup_comes s files others l conn h (SessionSetup c) (h.session_id == 0) refl)
  planned_comes Logoff = once_comes Logoff (λ client. logoff_comes s files others l conn h Logoff)
  planned_comes (TreeConnect path) = once_comes (TreeConnect path) (λ client. connect_comes s files others l conn h (TreeConnect path) path)
  planned_comes TreeDisconnect = once_comes TreeDisconnect (λ client. disconnect_comes s files others l conn h TreeDisconnect client)
  planned_comes (Create c) = walk_created (λ plan. Comes h conn (Create c) plan) (λ refused. tt) s files others l conn h c (λ client place file here. record { message = refl; session = refl; charge = refl; command = refl; connection = here })
  planned_comes (Close c) = once_comes (Close c) (λ client. close_comes s files others l conn h (Close c) client c.file_id)
  planned_comes (Lock c) = once_comes (Lock c) (λ client. lock_comes s l conn h c client)
  planned_comes Cancel = once_comes Cancel (λ client. cancel_comes s files others l conn h Cancel (request_named conn l h.message_id h.route))
  planned_comes Echo = once_comes Echo (λ client. refl)
  planned_comes (OplockBreak b) = once_comes (OplockBreak b) (λ client. walk_acknowledge (λ plan. Comes h conn (OplockBreak b) plan) (λ refused. tt) s l conn client (λ cache to t here may own quiet. quiet) h b)
  planned_comes Other = once_comes Other (λ client. tt)

-- ---- what it comes to

failed_not : {refused : SmbStatus} {id : ℕ} → told.Failed refused ≡ told.Pending id → ⊥
failed_not e = cc

pending_is : (t : Told) (id : ℕ) → t ≡ told.Pending id → is_pending t ≡ true
pending_is t id e = ap (λ (x : Told). is_pending x) e

same_pending : {k id : ℕ} → told.Pending k ≡ told.Pending id → k ≡ id
same_pending e = cc

queued_for : (handle : ℕ) (cache : Caching) (id : ℕ) (answer : Answer) → opened_told handle cache answer ≡ told.Pending id → answer ≡ answers.Queued id
queued_for handle cache id (answers.Granted c) e = absurd (false≢true (pending_is (told.Opened handle cache) id e))
queued_for handle cache id (answers.Queued k) e = ap (λ (j : ℕ). answers.Queued j) (same_pending e)
queued_for handle cache id (answers.Conflict c) e = absurd (failed_not e)
queued_for handle cache id (answers.Recall c) e = absurd (failed_not e)
queued_for handle cache id (answers.Grace until) e = absurd (failed_not e)
queued_for handle cache id (answers.NoGrace clock) e = absurd (failed_not e)
queued_for handle cache id answers.NotRecorded e = absurd (failed_not e)
queued_for handle cache id (answers.Full limit) e = absurd (failed_not e)
queued_for handle cache id answers.NotHeld e = absurd (failed_not e)
queued_for handle cache id answers.StoreFailed e = absurd (failed_not e)

locked_for : (id : ℕ) (answer : Answer) → told_as (lock_told answer) ≡ told.Pending id → answer ≡ answers.Queued id
locked_for id (answers.Granted c) e = absurd (false≢true (pending_is told.Locked id e))
locked_for id (answers.Queued k) e = ap (λ (j : ℕ). answers.Queued j) (same_pending e)
locked_for id (answers.Conflict c) e = absurd (failed_not e)
locked_for id (answers.Recall c) e = absurd (failed_not e)
locked_for id (answers.Grace until) e = absurd (failed_not e)
locked_for id (answers.NoGrace clock) e = absurd (failed_not e)
locked_for id answers.NotRecorded e = absurd (failed_not e)
locked_for id (answers.Full limit) e = absurd (failed_not e)
locked_for id answers.NotHeld e = absurd (failed_not e)
locked_for id answers.StoreFailed e = absurd (failed_not e)

-- the row that comes
abbrev RowComes : Lists → SmbHead → ℕ → CallItem → ℕ → Lists → Type 0
RowComes l h conn call id m = (row : Waiting) × (m.waiting ≡ l.waiting ++ (id, row) ∷ []) × KeepsHead h conn call row

added : (l : Lists) (h : SmbHead) (conn : ℕ) (call : CallItem) (id : ℕ) (row : Waiting) (room : Bool) → room ≡ true → KeepsHead h conn call row → RowComes l h conn call id (if room then waiting_added id row l else l)
added l h conn call id row true has keeps = (row, refl, keeps)
added l h conn call id row false has keeps = absurd (false≢true has)

carried_comes : (n : ℕ) (s : CoreState) (l : Lists) (conn : ℕ) (h : SmbHead) (call : CallItem) (plan : Plan) (id : ℕ) → IsGood s → AreDistinct l → AreAwaited s l → AreFit n s (deeds_of n s l plan) → Comes h conn call plan
    → (carried n s l plan).0 ≡ told.Pending id → RowComes l h conn call id (carried n s l plan).2
carried_comes n s l conn h call (Fails refused) id good distinct awaited fit comes e = absurd (failed_not e)
carried_comes n s l conn h call (Does deeds lists t) id good distinct awaited fit comes e = absurd (true≢false (sym (pending_is t id e) ∙ comes))
carried_comes n s l conn h call (Opens left a number row handle waiting) id good distinct awaited fit comes e =
    let r = ask n left (drawn s) a in
    let at = queued_for handle _ id r.0 e in
    let waits : AreAwaited (drawn s) l = all_from (IsAwaited (drawn s) l) l.waiting (λ x here. drawn_awaited s l x (all_in (IsAwaited s l) x l.waiting awaited here)) in
    subst (λ (answer : Answer). RowComes l h conn call id (opened_lists l number row waiting answer)) (sym at)
    (added l h conn call id waiting (has_room_to_wait l id) (queued_kept n left (drawn s) l a id (drawn_good s good) fit.1.0 distinct.waiting waits at) comes)
carried_comes n s l conn h call (Locks a row) id good distinct awaited fit comes e =
    let r = ask n no_rows s a in
    let at = locked_for id r.0 e in
    subst (λ (answer : Answer). RowComes l h conn call id (lists_as row l (lock_told answer))) (sym at)
    (added l h conn call id row (has_room_to_wait l id) (queued_kept n no_rows s l a id good fit.0 distinct.waiting awaited at) comes)

-- no row comes
opened_stay : (l : Lists) (number : ℕ) (row : Open) (waiting : Waiting) (handle : ℕ) (cache : Caching) (answer : Answer) → is_pending (opened_told handle cache answer) ≡ false → (opened_lists l number row waiting answer).waiting ≡ l.waiting
opened_stay l number row waiting handle cache (answers.Granted c) quiet = ap (λ (m : Lists). m.waiting) (with_keeps number row l)
opened_stay l number row waiting handle cache (answers.Queued id) quiet = absurd (true≢false quiet)
opened_stay l number row waiting handle cache (answers.Conflict c) quiet = refl
opened_stay l number row waiting handle cache (answers.Recall c) quiet = refl
opened_stay l number row waiting handle cache (answers.Grace until) quiet = refl
opened_stay l number row waiting handle cache (answers.NoGrace clock) quiet = refl
opened_stay l number row waiting handle cache answers.NotRecorded quiet = refl
opened_stay l number row waiting handle cache (answers.Full limit) quiet = refl
opened_stay l number row waiting handle cache answers.NotHeld quiet = refl
opened_stay l number row waiting handle cache answers.StoreFailed quiet = refl

locked_stay : (row : Waiting) (l : Lists) (r : Locking) → is_pending (told_as r) ≡ false → (lists_as row l r).waiting ≡ l.waiting
locked_stay row l locking.Done quiet = refl
locked_stay row l (locking.Failed refused) quiet = refl
locked_stay row l (locking.Waits id) quiet = absurd (true≢false quiet)

carried_stay : (n : ℕ) (s : CoreState) (l : Lists) (plan : Plan) → Sorts s l plan → is_pending (carried n s l plan).0 ≡ false → (carried n s l plan).2.waiting ≡ l.waiting
carried_stay n s l (Fails refused) sorts quiet = refl
carried_stay n s l (Does deeds lists t) sorts quiet = sorts.0
carried_stay n s l (Opens left a number row handle waiting) sorts quiet = opened_stay l number row waiting handle _ (ask n left (drawn s) a).0 quiet
carried_stay n s l (Locks a row) sorts quiet = locked_stay row l (lock_told (ask n no_rows s a).0) quiet

quiet_or : (t : Told) → ((id : ℕ) → t ≡ told.Pending id → ⊥) → is_pending t ≡ false
quiet_or (told.Pending id) none = absurd (none id refl)
quiet_or told.Nothing none = refl
quiet_or (told.Failed refused) none = refl
quiet_or told.Negotiated none = refl
quiet_or (told.SetUp session) none = refl
quiet_or told.LoggedOff none = refl
quiet_or (told.Connected tree) none = refl
quiet_or told.Disconnected none = refl
quiet_or (told.Opened id cache) none = refl
quiet_or (told.Acknowledged id level) none = refl
quiet_or (told.Answered lease) none = refl
quiet_or told.Closed none = refl
quiet_or told.Locked none = refl
quiet_or told.Echoed none = refl

module _ (n : ℕ) (s : CoreState) (files : List (List ℕ)) (others : ℕ) (l : Lists) (conn : ℕ) (h : SmbHead) (call : CallItem) where
  pub row_comes : (id : ℕ) → IsGood s → AreDistinct l → AreAwaited s l → (outcome_of n s files others l conn h call).0 ≡ told.Pending id → RowComes l h conn call id (outcome_of n s files others l conn h call).2
  row_comes id good distinct awaited e = carried_comes n s l conn h call (planned s files others l conn h call) id good distinct awaited (planned_theirs n s files others l conn h call).0 (planned_comes s files others l conn h call) e

  pub no_row_comes : ((id : ℕ) → (outcome_of n s files others l conn h call).0 ≡ told.Pending id → ⊥) → (outcome_of n s files others l conn h call).2.waiting ≡ l.waiting
  no_row_comes none = carried_stay n s l (planned s files others l conn h call) (planned_sorts s files others l conn h call) (quiet_or (outcome_of n s files others l conn h call).0 none)

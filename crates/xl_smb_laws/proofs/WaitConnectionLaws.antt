-- Requests wait on the connection that they came by, and final replies go there.
use Rattle.std.proofs.Common.{◌≡◌, ℕ, ◌+◌, Bool, true, false, not, eqb, if◌then◌else◌, List, [], ◌∷◌, length, Option, Some, None, refl, sym, ap, subst, ◌∙◌, inl, inr}
use Rattle.std.specs.Prelude.{◌==◌, nat_lt, is_some, filter, Result, Ok, Err, nat_eq}
use Rattle.std.proofs.lemmas.Bool.{cases_Bool, false≢true, eqb-true}
use Rattle.xl_base.proofs.Members.{all_append, all_from, all_in}
use Rattle.xl_base.specs.declared.event.Out.{Out}
use Rattle.xl_base.specs.declared.journal.Exports.{Exports}
use Rattle.xl_smb.specs.Calls.{CallItem, Negotiate, SessionSetup, Logoff, TreeConnect, TreeDisconnect, Create, Close, Lock, Cancel, Echo, OplockBreak, Other}
use Rattle.xl_smb.specs.Creates.{CreateCallItem}
use Rattle.xl_smb.specs.Heads.{command_of, head_of}
use Rattle.xl_smb.specs.Locks.{LockItem}
use Rattle.xl_smb.specs.Messages.{MessageItem, Call, Reply, Told, message_at}
use Rattle.xl_smb.specs.Sessions.{NegotiateCallItem, dialects_of}
use Rattle.xl_smb.specs.declared.breaks.Break.{Break as Acknowledgement}
use Rattle.xl_smb.specs.declared.fault.SmbBad.{SmbBad}
use Rattle.xl_smb.specs.declared.file.FileId.{FileId}
use Rattle.xl_smb.specs.declared.head.SmbHead.{SmbHead}
use Rattle.xl_smb_state.specs.Links.{has_place}
use Rattle.xl_smb_state.specs.State.{Lists, connection_of, connection_changed, client_of, session_of, sessions_on, tree_dropped, trees_of, open_of, opens_under, closed, waiting_added, connection_added, covers_holder, session_added, tree_added}
use Rattle.xl_smb_state.specs.declared.row.Holder.{Holder}
use Rattle.xl_smb_state.specs.declared.row.Holder.TheVariants as holder
use Rattle.xl_smb_state.specs.declared.row.Open.{Open}
use Rattle.xl_smb_state.specs.declared.row.Place.{Place}
use Rattle.xl_smb_state.specs.declared.row.Scope.TheVariants as scope
use Rattle.xl_smb_state.specs.declared.row.Waiting.{Waiting}
use Rattle.xl_wait.specs.Waiting.{no_rows, is_waiting}
use Rattle.xl_core.specs.Decide.{ask}
use Rattle.xl_core.specs.State.{CoreState, drawn}
use Rattle.xl_core.specs.declared.ask.Answer.{Answer}
use Rattle.xl_core.specs.declared.ask.Answer.TheVariants as answers
use Rattle.xl_core.specs.declared.ask.Effect.{Effect}
use Rattle.xl_smb_locks.specs.Locks.{lock_told}
use Rattle.xl_smb_locks.specs.declared.locking.Locking.{Locking}
use Rattle.xl_smb_locks.specs.declared.locking.Locking.TheVariants as locking
use Rattle.xl_smb_locks.specs.declared.status.SmbStatus.TheVariants.{InvalidParameter, InsufficientResources, NotSupported, BadNetworkName}
use Rattle.xl_smb_locks.proofs.OnLaws.{GoesTo, AllGo, AreOn, told_on, dismissed_on, HeldOn, HolderOn, IsAt, MakesAt, WaitsOn, held_at, came_on}
pub use Rattle.xl_smb_locks.proofs.OnLaws.{IsOn, GoesTo}
use Rattle.xl_front_smb.specs.Checks.{is_fresh, is_open_on, file_number, number_in, negotiated_by}
use Rattle.xl_front_smb.specs.Ending.{all_closed, trees_dropped, session_gone, sessions_gone, connection_gone, smb_end, all_ended, leavers_under, requests_gone}
use Rattle.xl_front_smb.specs.Files.{create, close_open, close, acknowledge}
use Rattle.xl_front_smb.specs.FrontSmb.{sent_by, head_heard, plan_for, smb_shown, stepped, smb_step}
use Rattle.xl_front_smb.specs.Locks.{place_of, lock, request_named, cancel_named, cancel}
use Rattle.xl_front_smb.specs.Owners.{is_session_on}
use Rattle.xl_front_smb.specs.Plans.{Plan, Fails, Does, Opens, Locks, opened_lists, has_room_to_wait, lists_as, carried}
use Rattle.xl_front_smb.specs.Replies.{reply_of, tree_id}
use Rattle.xl_front_smb.specs.Requests.{commanded, planned, read_as, requested}
use Rattle.xl_front_smb.specs.Sessions.{offers, negotiate, has_room_for_session, set_up_as, session_setup, logoff, has_room_for_tree, connect_as, connect, tree_connect, disconnect, tree_disconnect}
use Rattle.xl_front_smb.specs.State.{FrontSmb, empty_smb_front, smb_begin}
use Rattle.xl_front_smb.specs.Texts.{is_share}
use Rattle.xl_front_smb.specs.declared.told.Told.TheVariants as told
use Rattle.xl_smb_laws.proofs.PlanWalks.{by_client, by_open, by_session, by_tree, walk_acknowledge, walk_create, walk_lock, walk_refused}
use Rattle.xl_smb_laws.proofs.RequestOwn.{removed_of}
use Rattle.xl_base.specs.Lists.{IsIn}
use Rattle.std.specs.List.{AllByRecursion, IsDistinct}
use Rattle.std.specs.Map.{keys_of, remove_entry}
use Rattle.std.proofs.lemmas.Map.Keys.{IsDistinct-cons, IsDistinct-head, IsDistinct-tail}
use Rattle.xl_front_smb.proofs.GoneLaws.{all_gone_opens, gone_opens, opens_out}
use Rattle.xl_front_smb.proofs.PlanLaws.{open_new}
use Rattle.xl_front_smb.specs.Laws.{rows_but}
use Rattle.std.proofs.lemmas.Map.Made.{IsDistinct-keys_filter}

-- ---- what a plan leaves of the requests that wait

-- the opens are of those that there were
pub record AreOf (new old : Lists) : Type 0 where
  pub opens : (e : ℕ × Open) → IsIn e new.opens → IsIn e old.opens
  pub distinct : IsDistinct nat_eq (keys_of old.opens) → IsDistinct nat_eq (keys_of new.opens)

same_opens : (new old : Lists) → new.opens ≡ old.opens → AreOf new old
same_opens new old same = record { opens = λ e here. subst (λ (es : List (ℕ × Open)). IsIn e es) same here; distinct = λ apart. subst (λ (es : List (ℕ × Open)). IsDistinct nat_eq (keys_of es)) (sym same) apart }

of_then : (a b c : Lists) → AreOf a b → AreOf b c → AreOf a c
of_then a b c first second = record { opens = λ e here. second.opens e (first.opens e here); distinct = λ apart. first.distinct (second.distinct apart) }

-- those that waited, and one more at most, which came by the connection; and of the opens one more at most, which is new and held
-- there
abbrev Keeps : Lists → ℕ → Plan → Type 0
Keeps l conn (Fails status) = Unit {0}
Keeps l conn (Does deeds lists told) = (lists.waiting ≡ l.waiting) × AreOf lists l
Keeps l conn (Opens left a number row id waiting) = (open_of number l ≡ None) × IsAt conn row.holder × (waiting.place.connection ≡ conn) × MakesAt conn waiting.request
Keeps l conn (Locks a row) = (row.place.connection ≡ conn) × MakesAt conn row.request

pub closed_waiting : (numbers : List ℕ) (l : Lists) → (all_closed numbers l).waiting ≡ l.waiting
closed_waiting [] l = refl
closed_waiting (number ∷ numbers) l = closed_waiting numbers (closed number l)

keys_apart : (t : ℕ → Bool) (k : ℕ) (es : List (ℕ × Open)) → AllByRecursion (λ j. eqb k j ≡ false) (keys_of es) → AllByRecursion (λ j. eqb k j ≡ false) (keys_of (remove_entry t es))
keys_apart t k [] all = tt
keys_apart t k (e ∷ es) all = elim (cases_Bool (t e.0)) [ inl out ↦ rw out all.1 | inr stays ↦ rw stays (all.0, keys_apart t k es all.1) ]

removed_apart : (t : ℕ → Bool) (es : List (ℕ × Open)) → IsDistinct nat_eq (keys_of es) → IsDistinct nat_eq (keys_of (remove_entry t es))
removed_apart t [] apart = apart
removed_apart t (e ∷ es) apart =
    elim (cases_Bool (t e.0)) [
      | inl out ↦ rw out (IsDistinct-tail nat_eq e.0 (keys_of es) apart)
      | inr stays ↦ rw stays (IsDistinct-cons nat_eq e.0 (keys_of (remove_entry t es)) (keys_apart t e.0 es (IsDistinct-head nat_eq e.0 (keys_of es) apart)) (removed_apart t es (IsDistinct-tail nat_eq e.0 (keys_of es) apart)))
    ]

closed_of : (number : ℕ) (l : Lists) → AreOf (closed number l) l
closed_of number l = record { opens = λ e here. removed_of (nat_eq number) l.opens e here; distinct = λ apart. removed_apart (nat_eq number) l.opens apart }

all_closed_of : (numbers : List ℕ) (l : Lists) → AreOf (all_closed numbers l) l
all_closed_of [] l = same_opens l l refl
all_closed_of (number ∷ numbers) l = of_then (all_closed numbers (closed number l)) (closed number l) l (all_closed_of numbers (closed number l)) (closed_of number l)

dropped_waiting : (numbers : List ℕ) (l : Lists) → (trees_dropped numbers l).waiting ≡ l.waiting
dropped_waiting [] l = refl
dropped_waiting (number ∷ numbers) l = dropped_waiting numbers (tree_dropped number l)

pub gone_waiting : (number : ℕ) (l : Lists) → (session_gone number l).waiting ≡ l.waiting
unfolding session_gone
gone_waiting number l = dropped_waiting (trees_of number l) l

pub all_gone_waiting : (numbers : List ℕ) (l : Lists) → (sessions_gone numbers l).waiting ≡ l.waiting
all_gone_waiting [] l = refl
all_gone_waiting (number ∷ numbers) l = all_gone_waiting numbers (session_gone number l) ∙ gone_waiting number l

-- ---- each command

negotiate_keeps : (l : Lists) (conn : ℕ) (c : NegotiateCallItem) → Keeps l conn (negotiate l conn c)
unfolding negotiate
negotiate_keeps l conn c =
    walk_refused (Keeps l conn) (λ refusal. tt) ((not (is_fresh (connection_of conn l)), InvalidParameter) ∷ (length (dialects_of c.dialects) == 0, InvalidParameter) ∷ (not (offers c.dialects), NotSupported) ∷ [])
    (Does [] (connection_changed conn (record { client = Some c.client_guid }) l) told.Negotiated)
    (λ all. (refl, same_opens (connection_changed conn (record { client = Some c.client_guid }) l) l refl))

set_up_by : (s : CoreState) (l : Lists) (conn : ℕ) (room : Bool) → Keeps l conn (if room then set_up_as s l conn (s.counter + 1) else Fails InsufficientResources)
set_up_by s l conn true = (refl, same_opens (session_added (s.counter + 1) (record { connection = conn }) l) l refl)
set_up_by s l conn false = tt

setup_by : (s : CoreState) (l : Lists) (conn : ℕ) (h : SmbHead) (new : Bool) → h.session_id == 0 ≡ new → Keeps l conn (session_setup s l conn h)
unfolding session_setup
setup_by s l conn h true is = rw is (set_up_by s l conn (has_room_for_session l conn (s.counter + 1)))
setup_by s l conn h false is = rw is (by_session (Keeps l conn) (λ number. is_session_on conn (session_of number l)) (λ session. Does [] l (told.SetUp h.session_id)) (number_in s h.session_id) tt (λ k on. (refl, same_opens l l refl)))

logoff_keeps : (s : CoreState) (l : Lists) (conn : ℕ) (h : SmbHead) → Keeps l conn (logoff s l conn h)
unfolding logoff
logoff_keeps s l conn h =
    by_session (Keeps l conn) (λ number. is_session_on conn (session_of number l)) _ (number_in s h.session_id) tt
    (λ k on. let m = all_closed (opens_under (scope.Session k) l) l in
    (gone_waiting k m ∙ closed_waiting (opens_under (scope.Session k) l) l, of_then (session_gone k m) m l (same_opens (session_gone k m) m (gone_opens k m)) (all_closed_of (opens_under (scope.Session k) l) l)))

connect_keeps : (s : CoreState) (l : Lists) (conn : ℕ) (h : SmbHead) (path : List ℕ) → Keeps l conn (tree_connect s l conn h path)
unfolding tree_connect
connect_keeps s l conn h path =
    by_session (Keeps l conn) (λ number. is_session_on conn (session_of number l)) (connect s l conn path) (number_in s h.session_id) tt
    (λ k on. walk_refused (Keeps l conn) (λ refusal. tt) ((not (has_room_for_tree l conn (s.counter + 1)), InsufficientResources) ∷ (not (is_share path), BadNetworkName) ∷ []) (connect_as l conn k (s.counter + 1))
    (λ all. (refl, same_opens (tree_added (s.counter + 1) (record { connection = conn; session = k }) l) l refl)))

disconnect_by : (s : CoreState) (l : Lists) (conn : ℕ) (place : Place) → Keeps l conn (disconnect s l place)
disconnect_by s l conn place =
    let m = all_closed (opens_under (scope.Tree place.tree) l) l in
    (closed_waiting (opens_under (scope.Tree place.tree) l) l, of_then (tree_dropped place.tree m) m l (same_opens (tree_dropped place.tree m) m refl) (all_closed_of (opens_under (scope.Tree place.tree) l) l))

disconnect_keeps : (s : CoreState) (l : Lists) (conn : ℕ) (client : List ℕ) (h : SmbHead) → Keeps l conn (tree_disconnect s l conn client h)
unfolding tree_disconnect
disconnect_keeps s l conn client h =
    by_session (Keeps l conn) (λ number. is_session_on conn (session_of number l)) _ (number_in s h.session_id) tt
    (λ k on. let place : Place = record { connection = conn; session = k; tree = tree_id h.route } in
    by_tree (Keeps l conn) (disconnect s l) place (has_place place client l) tt (λ there. disconnect_by s l conn place))

create_keeps : (s : CoreState) (files : List (List ℕ)) (others : ℕ) (l : Lists) (conn : ℕ) (client : List ℕ) (h : SmbHead) (c : CreateCallItem) → Keeps l conn (create s files others l conn client h c)
create_keeps s files others l conn client h c = walk_create (Keeps l conn) (λ refusal. tt) s files others l conn client h c (λ place file on there unused room. (open_new others l (s.counter + 1) room, on, on, on))

close_keeps : (s : CoreState) (l : Lists) (conn : ℕ) (client : List ℕ) (h : SmbHead) (id : FileId) → Keeps l conn (close s l conn client h id)
unfolding close
close_keeps s l conn client h id =
    by_session (Keeps l conn) (λ number. is_session_on conn (session_of number l)) _ (number_in s h.session_id) tt
    (λ k on. by_tree (Keeps l conn) _ _ (has_place _ client l) tt (λ there. by_open (Keeps l conn) (λ number. is_open_on conn (open_of number l)) (close_open s l) (file_number s id) tt (λ number under. (refl, closed_of number l))))

-- an open that is found stands on the connection
pub stands_on : (conn : ℕ) (by : Holder) (place : Place) (row : Open) → row.holder ≡ by → is_open_on conn (Some row) ≡ true → (place_of row.holder place).connection ≡ conn
stands_on conn (holder.Tree at) place row is on =
    ap (λ (h : Holder). (place_of h place).connection) is ∙ eqb-true at.connection conn (sym (ap (λ (h : Holder). covers_by conn h) is) ∙ on) where
      covers_by : ℕ → Holder → Bool
      covers_by conn by = is_open_on conn (Some (record row { holder = by }))
stands_on conn (holder.Nobody until) place row is on = absurd (false≢true (sym (ap (λ (h : Holder). is_open_on conn (Some (record row { holder = h }))) is) ∙ on))

lock_keeps : (s : CoreState) (l : Lists) (conn : ℕ) (client : List ℕ) (h : SmbHead) (c : LockItem) → Keeps l conn (lock s l conn client h c)
lock_keeps s l conn client h c =
    walk_lock (Keeps l conn) (λ refusal. tt) s l conn client h c (λ number row at on. (refl, same_opens l l refl)) (λ place number row at on count sound. (stands_on conn row.holder place row refl on, tt))

cancel_waiting : (s : CoreState) (l : Lists) (conn id : ℕ) (waits : Bool) → is_waiting id s.waiters ≡ waits → Keeps l conn (cancel_named s l (Some id))
cancel_waiting s l conn id true is = rw is (refl, same_opens l l refl)
cancel_waiting s l conn id false is = rw is (refl, same_opens l l refl)

cancel_by : (s : CoreState) (l : Lists) (conn : ℕ) (o : Option ℕ) → Keeps l conn (cancel_named s l o)
cancel_by s l conn None = (refl, same_opens l l refl)
cancel_by s l conn (Some id) = cancel_waiting s l conn id (is_waiting id s.waiters) refl

cancel_keeps : (s : CoreState) (l : Lists) (conn : ℕ) (h : SmbHead) → Keeps l conn (cancel s l conn h)
unfolding cancel
cancel_keeps s l conn h = cancel_by s l conn (request_named conn l h.message_id h.route)

acknowledge_keeps : (s : CoreState) (l : Lists) (conn : ℕ) (client : List ℕ) (h : SmbHead) (b : Acknowledgement) → Keeps l conn (acknowledge s l conn client h b)
acknowledge_keeps s l conn client h b = walk_acknowledge (Keeps l conn) (λ refusal. tt) s l conn client (λ cache to t here may own quiet. (refl, same_opens l l refl)) h b

-- ---- a request

commanded_keeps : (s : CoreState) (files : List (List ℕ)) (others : ℕ) (l : Lists) (conn : ℕ) (h : SmbHead) (call : CallItem) (client : List ℕ) → Keeps l conn (commanded s files others l conn h call client)
unfolding commanded
commanded_keeps s files others l conn h (SessionSetup c) client = setup_by s l conn h (h.session_id == 0) refl
commanded_keeps s files others l conn h Logoff client = logoff_keeps s l conn h
commanded_keeps s files others l conn h (TreeConnect path) client = connect_keeps s l conn h path
commanded_keeps s files others l conn h TreeDisconnect client = disconnect_keeps s l conn client h
commanded_keeps s files others l conn h (Create c) client = create_keeps s files others l conn client h c
commanded_keeps s files others l conn h (Close c) client = close_keeps s l conn client h c.file_id
commanded_keeps s files others l conn h (Lock c) client = lock_keeps s l conn client h c
commanded_keeps s files others l conn h Cancel client = cancel_keeps s l conn h
commanded_keeps s files others l conn h Echo client = (refl, same_opens l l refl)
commanded_keeps s files others l conn h (OplockBreak b) client = acknowledge_keeps s l conn client h b
commanded_keeps s files others l conn h (Negotiate c) client = tt
commanded_keeps s files others l conn h Other client = tt

once_keeps : (s : CoreState) (files : List (List ℕ)) (others : ℕ) (l : Lists) (conn : ℕ) (h : SmbHead) (call : CallItem) → Keeps l conn (negotiated_by (commanded s files others l conn h call) (client_of conn l))
once_keeps s files others l conn h call = by_client (Keeps l conn) (commanded s files others l conn h call) (client_of conn l) tt (λ client. commanded_keeps s files others l conn h call client)

planned_keeps : (s : CoreState) (files : List (List ℕ)) (others : ℕ) (l : Lists) (conn : ℕ) (h : SmbHead) (call : CallItem) → Keeps l conn (planned s files others l conn h call)
unfolding planned
planned_keeps s files others l conn h (Negotiate c) = negotiate_keeps l conn c
planned_keeps s files others l conn h (SessionSetup c) = once_keeps s files others l conn h (SessionSetup c)
planned_keeps s files others l conn h Logoff = once_keeps s files others l conn h Logoff
planned_keeps s files others l conn h (TreeConnect path) = once_keeps s files others l conn h (TreeConnect path)
planned_keeps s files others l conn h TreeDisconnect = once_keeps s files others l conn h TreeDisconnect
planned_keeps s files others l conn h (Create c) = once_keeps s files others l conn h (Create c)
planned_keeps s files others l conn h (Close c) = once_keeps s files others l conn h (Close c)
planned_keeps s files others l conn h (Lock c) = once_keeps s files others l conn h (Lock c)
planned_keeps s files others l conn h Cancel = once_keeps s files others l conn h Cancel
planned_keeps s files others l conn h Echo = once_keeps s files others l conn h Echo
planned_keeps s files others l conn h (OplockBreak b) = once_keeps s files others l conn h (OplockBreak b)
planned_keeps s files others l conn h Other = once_keeps s files others l conn h Other

read_keeps : (s : CoreState) (files : List (List ℕ)) (others : ℕ) (l : Lists) (conn : ℕ) (m : Result MessageItem SmbBad) → Keeps l conn (read_as s files others l conn m)
read_keeps s files others l conn (Ok (Call h call)) = planned_keeps s files others l conn h call
read_keeps s files others l conn (Ok (Reply h r)) = tt
read_keeps s files others l conn (Ok (Told t)) = tt
read_keeps s files others l conn (Err fault) = tt

requested_keeps : (s : CoreState) (files : List (List ℕ)) (others : ℕ) (l : Lists) (conn : ℕ) (bytes : List ℕ) (h : SmbHead) → Keeps l conn (requested s files others l conn bytes h)
unfolding requested
requested_keeps s files others l conn bytes h =
    walk_refused (Keeps l conn) (λ refusal. tt) ((not (h.next_command == 0), InvalidParameter) ∷ (nat_lt 18 h.command, InvalidParameter) ∷ (not (is_some (command_of h.command)), NotSupported) ∷ []) (read_as s files others l conn (message_at bytes)) (λ all. read_keeps s files others l conn (message_at bytes))

-- ---- so requests wait where they may

module _ (P : ℕ → Type 0) where
  -- the opens that are left
  of_on : (l lists : Lists) → lists.waiting ≡ l.waiting → AreOf lists l → IsOn P l → IsOn P lists
  of_on l lists same left on = record {
    waiting = subst (λ (rows : List (ℕ × Waiting)). AreOn P rows) (sym same) on.waiting;
    held = all_from (λ (e : ℕ × Open). HolderOn P e.1.holder) lists.opens (λ e here. all_in (λ (e : ℕ × Open). HolderOn P e.1.holder) e l.opens on.held (left.opens e here));
    distinct = left.distinct on.distinct;
  }

  with_on : (room : Bool) (id : ℕ) (row : Waiting) (l : Lists) → WaitsOn P row → IsOn P l → IsOn P (if room then waiting_added id row l else l)
  with_on true id row l here on = record { waiting = all_append (λ (e : ℕ × Waiting). WaitsOn P e.1) l.waiting ((id, row) ∷ []) on.waiting (here, tt); held = on.held; distinct = on.distinct }
  with_on false id row l here on = on

  opened_on : (l : Lists) (number : ℕ) (row : Open) (waiting : Waiting) (answer : Answer) → open_of number l ≡ None → HolderOn P row.holder → WaitsOn P waiting → IsOn P l → IsOn P (opened_lists l number row waiting answer)
  opened_on l number row waiting (answers.Granted c) new held waits on = came_on P number row l new held on
  opened_on l number row waiting (answers.Queued id) new held waits on = with_on (has_room_to_wait l id) id waiting l waits on
  opened_on l number row waiting (answers.Conflict c) new held waits on = on
  opened_on l number row waiting (answers.Recall c) new held waits on = on
  opened_on l number row waiting (answers.Grace until) new held waits on = on
  opened_on l number row waiting (answers.NoGrace clock) new held waits on = on
  opened_on l number row waiting answers.NotRecorded new held waits on = on
  opened_on l number row waiting (answers.Full limit) new held waits on = on
  opened_on l number row waiting answers.NotHeld new held waits on = on
  opened_on l number row waiting answers.StoreFailed new held waits on = on

  kept_on : (row : Waiting) (l : Lists) (r : Locking) → WaitsOn P row → IsOn P l → IsOn P (lists_as row l r)
  kept_on row l locking.Done here on = on
  kept_on row l (locking.Failed status) here on = on
  kept_on row l (locking.Waits id) here on = with_on (has_room_to_wait l id) id row l here on

  waits_at : (conn : ℕ) (row : Waiting) → P conn → row.place.connection ≡ conn → MakesAt conn row.request → WaitsOn P row
  waits_at conn row here on makes = (subst (λ (k : ℕ). P k) (sym on) here, subst (λ (k : ℕ). MakesAt k row.request) (sym on) makes)

  carried_on : (n : ℕ) (s : CoreState) (l : Lists) (conn : ℕ) (plan : Plan) → Keeps l conn plan → P conn → IsOn P l → IsOn P (carried n s l plan).2
  carried_on n s l conn (Fails status) keeps here on = on
  carried_on n s l conn (Does deeds lists told) keeps here on = of_on l lists keeps.0 keeps.1 on
  carried_on n s l conn (Opens left a number row id waiting) keeps here on =
      opened_on l number row waiting (ask n left (drawn s) a).0 keeps.0 (held_at P conn row.holder here keeps.1) (waits_at conn waiting here keeps.2 keeps.3) on
  carried_on n s l conn (Locks a row) keeps here on = kept_on row l (lock_told (ask n no_rows s a).0) (waits_at conn row here keeps.0 keeps.1) on

  replied_on : (conn : ℕ) (reply : Option (List ℕ)) → P conn → AllGo P (sent_by conn reply)
  replied_on conn None here = tt
  replied_on conn (Some bytes) here = (here, tt)

  heard_on : (n : ℕ) (exports : Exports) (others : ℕ) (f : FrontSmb) (s : CoreState) (conn : ℕ) (bytes : List ℕ) (h : Option SmbHead) → P conn → IsOn P f.state
      → AllGo P (stepped n exports others f s conn bytes h).0 × IsOn P (stepped n exports others f s conn bytes h).2.state
  heard_on n exports others f s conn bytes None here on = (tt, on)
  heard_on n exports others f s conn bytes (Some h) here on =
      let plan = plan_for exports others f s conn bytes h in
      let r = carried n s f.state plan in
      let left = carried_on n s f.state conn plan (requested_keeps s exports.files others f.state conn bytes h) here on in
      let gone = dismissed_on P r.1 (keys_of r.2.waiting) r.2 left in
      (all_append (λ (o : Out). GoesTo P o.dest) _ (sent_by conn (reply_of h r.0)) gone.0 (replied_on conn (reply_of h r.0) here), gone.1)

  -- what a message's step sends goes to connections of which it holds, and requests wait and opens are held on such, where it
  -- holds of the message's and of those on which requests wait and opens are held
  pub step_on : (n : ℕ) (exports : Exports) (others : ℕ) (f : FrontSmb) (s : CoreState) (conn : ℕ) (bytes : List ℕ) → P conn → IsOn P f.state
      → AllGo P (smb_step n exports others f s conn bytes).0 × IsOn P (smb_step n exports others f s conn bytes).2.state
  unfolding smb_step
  step_on n exports others f s conn bytes here on = heard_on n exports others f s conn bytes (head_heard (head_of bytes)) here on

  pub shown_on : (f : FrontSmb) (s : CoreState) (effect : Effect) → IsOn P f.state → AllGo P (smb_shown f s effect).0 × IsOn P (smb_shown f s effect).1.state
  unfolding smb_shown
  shown_on f s effect on = told_on P s effect f.state on

-- so it is at a start, and where a connection opens
pub empty_on : (P : ℕ → Type 0) → IsOn P empty_smb_front.state
unfolding IsDistinct
empty_on P = record { waiting = tt; held = tt; distinct = tt }

begun_by : (P : ℕ → Type 0) (l : Lists) (number : ℕ) (b : Bool) → IsOn P l → IsOn P (if b then l else connection_added number (record { client = None }) l)
begun_by P l number true on = on
begun_by P l number false on = record { waiting = on.waiting; held = on.held; distinct = on.distinct }

pub begin_on : (P : ℕ → Type 0) (f : FrontSmb) (number : ℕ) → IsOn P f.state → IsOn P (smb_begin f number).state
unfolding smb_begin
begin_on P f number on = begun_by P f.state number _ on

-- what holds of all these connections holds of those that others make of them
pub on_weaker : (P Q : ℕ → Type 0) (l : Lists) → ((k : ℕ) → P k → Q k) → IsOn P l → IsOn Q l
on_weaker P Q l weaker on = record {
  waiting = all_from (λ (e : ℕ × Waiting). WaitsOn Q e.1) l.waiting (λ e here. waits e.1 (all_in (λ (x : ℕ × Waiting). WaitsOn P x.1) e l.waiting on.waiting here));
  held = all_from (λ (e : ℕ × Open). HolderOn Q e.1.holder) l.opens (λ e here. holds e.1.holder (all_in (λ (x : ℕ × Open). HolderOn P x.1.holder) e l.opens on.held here));
  distinct = on.distinct;
}
  where
    holds : (by : Holder) → HolderOn P by → HolderOn Q by
    holds (holder.Tree place) is = weaker place.connection is
    holds (holder.Nobody until) is = tt

    waits : (row : Waiting) → WaitsOn P row → WaitsOn Q row
    waits row is = (weaker row.place.connection is.0, is.1)

-- the end of a connection leaves those that wait and are held on others
module _ (P Q : ℕ → Type 0) (conn : ℕ) (others : (other : ℕ) → eqb other conn ≡ false → P other → Q other) where
  kept_waiting : (rows : List (ℕ × Waiting)) → AreOn P rows → AreOn Q (filter (λ (e : ℕ × Waiting). not (eqb e.1.place.connection conn)) rows)
  kept_waiting [] on = tt
  kept_waiting (e ∷ es) on =
      elim (cases_Bool (eqb e.1.place.connection conn)) [
        | inl gone ↦ rw gone (kept_waiting es on.1)
        | inr stays ↦ rw stays ((others e.1.place.connection stays on.0.0, on.0.1), kept_waiting es on.1)
      ]

  kept_by : (by : Holder) → covers_holder (scope.Connection conn) by ≡ false → HolderOn P by → HolderOn Q by
  kept_by (holder.Tree place) apart on = others place.connection apart on
  kept_by (holder.Nobody until) apart on = tt

  kept_held : (rows : List (ℕ × Open)) → HeldOn P rows → HeldOn Q (rows_but (λ e. covers_holder (scope.Connection conn) e.1.holder) rows)
  kept_held [] on = tt
  kept_held (e ∷ es) on =
      elim (cases_Bool (covers_holder (scope.Connection conn) e.1.holder)) [
        | inl gone ↦ rw gone (kept_held es on.1)
        | inr stays ↦ rw stays (kept_by e.1.holder stays on.0, kept_held es on.1)
      ]

  gone_on : (l : Lists) → IsOn P l → IsOn Q (requests_gone conn (connection_gone conn (all_closed (opens_under (scope.Connection conn) l) l)))
  unfolding connection_gone
  gone_on l on =
      let closed_lists = all_closed (opens_under (scope.Connection conn) l) l in
      let sessions = sessions_on conn closed_lists in
      let rows = all_gone_waiting sessions closed_lists ∙ closed_waiting (opens_under (scope.Connection conn) l) l in
      let opens = all_gone_opens sessions closed_lists ∙ opens_out (scope.Connection conn) l on.distinct in
      record {
        waiting = subst (λ (es : List (ℕ × Waiting)). AreOn Q (filter (λ (e : ℕ × Waiting). not (eqb e.1.place.connection conn)) es)) (sym rows) (kept_waiting l.waiting on.waiting);
        held = subst (λ (es : List (ℕ × Open)). HeldOn Q es) (sym opens) (kept_held l.opens on.held);
        distinct = subst (λ (es : List (ℕ × Open)). IsDistinct nat_eq (keys_of es)) (sym opens) (IsDistinct-keys_filter nat_eq (λ (e : ℕ × Open). not (covers_holder (scope.Connection conn) e.1.holder)) l.opens on.distinct);
      }

  pub end_on : (f : FrontSmb) (s : CoreState) → IsOn P f.state → IsOn Q (smb_end f s conn).1.state
  unfolding smb_end
  end_on f s on =
      let l = requests_gone conn (connection_gone conn (all_closed (opens_under (scope.Connection conn) f.state) f.state)) in
      (dismissed_on Q (all_ended (leavers_under s.names (scope.Connection conn) f.state) s).0 (keys_of l.waiting) l (gone_on f.state on)).1

-- What a row of SMB's lists names is there, and no list outgrows its limit, whatever comes.
use Rattle.std.proofs.Common.{◌≡◌, ℕ, ◌+◌, ◌<◌, ◌≤◌, Bool, true, false, not, ◌&&◌, ◌||◌, if◌then◌else◌, eqb, is_some, length, List, [], ◌∷◌, ◌++◌, Option, Some, None, IfSome, refl, sym, ap, subst, ◌∙◌, inl, inr, arith}
use Rattle.std.specs.Prelude.{◌==◌, nat_eq, nat_le, nat_lt, filter, option_map, Result, Ok, Err}
use Rattle.std.specs.List.{IsDistinct}
use Rattle.std.specs.Map.{keys_of, lookup}
use Rattle.std.specs.Option.{option_and_then}
use Rattle.std.proofs.lemmas.Bool.{cases_Bool, eq-eqb, eqb-true, true≢false}
use Rattle.std.proofs.lemmas.Bool.Decides.{nat_tests}
use Rattle.xl_base.specs.declared.event.Event.{Event}
use Rattle.xl_base.specs.declared.event.Event.TheVariants as events
use Rattle.xl_base.specs.declared.event.Event.TheVariants.{Message, End, Called, Tick, Restart}
use Rattle.xl_base.specs.declared.event.Kind.{Kind}
use Rattle.xl_base.specs.declared.event.Kind.TheVariants.{Rpc, Smb}
use Rattle.xl_base.specs.declared.journal.Exports.{Exports}
use Rattle.xl_base.specs.declared.name.Protocol.{Protocol}
use Rattle.xl_base.specs.declared.name.Protocol.TheVariants as protocols
use Rattle.xl_programs.specs.Programs.{RequestItem, IncomingItem, Unanswered, Refused, Asked, incoming_at}
use Rattle.xl_programs.specs.declared.program.Program.{Program}
use Rattle.xl_programs.specs.declared.program.Program.TheVariants.{Nlm, Nfs}
use Rattle.xl_smb.specs.Calls.{CallItem, Negotiate, SessionSetup, Logoff, TreeConnect, TreeDisconnect, Create, Close, Lock, Cancel, Echo, OplockBreak, Other}
use Rattle.xl_smb.specs.Creates.{CreateCallItem}
use Rattle.xl_smb.specs.Heads.{command_of, head_of}
use Rattle.xl_smb.specs.Locks.{LockItem}
use Rattle.xl_smb.specs.Messages.{MessageItem, Call, Reply, Told, message_at}
use Rattle.xl_smb.specs.Sessions.{NegotiateCallItem, dialects_of}
use Rattle.xl_smb.specs.declared.breaks.Break.{Break as Acknowledgement}
use Rattle.xl_smb.specs.declared.fault.SmbBad.{SmbBad}
use Rattle.xl_smb.specs.declared.file.FileId.{FileId}
use Rattle.xl_smb.specs.declared.head.SmbHead.{SmbHead}
use Rattle.xl_smb_state.proofs.LeaseLaws.{same_lease_self, unlisted}
use Rattle.xl_smb_state.proofs.LinkLaws.{connection_added_sound, connection_changed_sound, connection_dropped_sound, lease_added_sound, lease_joined_sound, lease_left_sound, open_added_sound, open_dropped_sound, place_linked, session_added_sound, session_dropped_sound, tree_added_sound, tree_dropped_sound, waiting_added_sound, waiting_dropped_sound}
use Rattle.xl_smb_state.proofs.RowLaws.{some_none}
use Rattle.xl_smb_state.specs.Links.{AreDistinct, IsHolderLinked, IsOpenLinked, IsSound, has_place, is_under, most_connections, most_opens}
use Rattle.xl_smb_state.specs.State.{Lists, client_of, closed, come_under, connection_added, connection_changed, connection_of, is_key, lease_begun, lease_joined, lease_left, lease_of, open_added, open_of, opens_under, session_of, sessions_on, tree_dropped, trees_of, waiting_added, waiting_dropped, waiting_of, with_open}
use Rattle.xl_smb_state.specs.declared.row.Connection.{Connection}
use Rattle.xl_smb_state.specs.declared.row.Holder.{Holder}
use Rattle.xl_smb_state.specs.declared.row.Holder.TheVariants as holder
use Rattle.xl_smb_state.specs.declared.row.Lease.{Lease}
use Rattle.xl_smb_state.specs.declared.row.LeaseKey.{LeaseKey}
use Rattle.xl_smb_state.specs.declared.row.Open.{Open}
use Rattle.xl_smb_state.specs.declared.row.Place.{Place}
use Rattle.xl_smb_state.specs.declared.row.Request.{Request}
use Rattle.xl_smb_state.specs.declared.row.Request.TheVariants as request
use Rattle.xl_smb_state.specs.declared.row.Scope.{Scope}
use Rattle.xl_smb_state.specs.declared.row.Scope.TheVariants as scope
use Rattle.xl_smb_state.specs.declared.row.Session.{Session}
use Rattle.xl_smb_state.specs.declared.row.Waiting.{Waiting}
use Rattle.xl_wait.specs.Waiting.{is_waiting, no_rows}
use Rattle.xl_core.specs.Decide.{ask}
use Rattle.xl_core.specs.State.{CoreState, drawn}
use Rattle.xl_core.specs.Told.{told_to}
use Rattle.xl_core.specs.declared.ask.Answer.{Answer}
use Rattle.xl_core.specs.declared.ask.Answer.TheVariants as answers
use Rattle.xl_core.specs.declared.ask.Effect.{Effect}
use Rattle.xl_core.specs.declared.ask.Effect.TheVariants as effects
use Rattle.xl_smb_locks.proofs.FinalLaws.{stand_linked, stand_new, stand_room}
use Rattle.xl_smb_locks.specs.Finals.{and_sent, concluded, dismissed, ended_with, holder_stands, is_cancelled, may_stand, refusal_of, request_ended, request_served, served_with, stood, succeeded, told_of}
use Rattle.xl_smb_locks.specs.Locks.{lock_told}
use Rattle.xl_smb_locks.specs.declared.locking.Locking.{Locking}
use Rattle.xl_smb_locks.specs.declared.locking.Locking.TheVariants as locking
use Rattle.xl_smb_locks.specs.declared.status.SmbStatus.{SmbStatus}
use Rattle.xl_smb_locks.specs.declared.status.SmbStatus.TheVariants.{Cancelled, InsufficientResources, InvalidParameter, NotSupported, BadNetworkName}
use Rattle.xl_front_smb.proofs.EndLaws.{opens_stay, opens_step, session_free, sessions_step, tree_free, trees_step}
use Rattle.xl_front_smb.proofs.LockLaws.{wait_room}
use Rattle.xl_front_smb.proofs.PlanLaws.{open_new, open_within, session_room, tree_room}
use Rattle.xl_front_smb.specs.Checks.{file_number, is_fresh, is_open_on, negotiated_by, number_in}
use Rattle.xl_front_smb.specs.Ending.{all_closed, all_ended, connection_gone, leavers_under, requests_gone, session_gone, sessions_gone, smb_end, trees_dropped}
use Rattle.xl_front_smb.specs.Files.{acknowledge, close, close_open, create}
use Rattle.xl_front_smb.specs.FrontSmb.{head_heard, plan_for, smb_shown, smb_step, stepped}
use Rattle.xl_front_smb.specs.Locks.{cancel, cancel_named, lock, request_named}
use Rattle.xl_front_smb.specs.Owners.{is_session_on}
use Rattle.xl_front_smb.specs.Plans.{Plan, Fails, Does, Opens, Locks, carried, has_room_to_wait, lists_as, opened_lists}
use Rattle.xl_front_smb.specs.Replies.{tree_id}
use Rattle.xl_front_smb.specs.Requests.{commanded, planned, read_as, requested}
use Rattle.xl_front_smb.specs.Sessions.{connect, connect_as, disconnect, has_room_for_session, has_room_for_tree, logoff, negotiate, offers, session_setup, set_up_as, tree_connect, tree_disconnect}
use Rattle.xl_front_smb.specs.State.{FrontSmb, smb_begin}
use Rattle.xl_front_smb.specs.Texts.{is_share}
use Rattle.xl_front_smb.specs.declared.told.Told.TheVariants as told
use Rattle.xl_smb_laws.proofs.PlanWalks.{by_known, by_open, by_session, by_tree, walk_acknowledge, walk_create, walk_lock, walk_refused}
use Rattle.xl_house.specs.Machine.{heard}
use Rattle.xl_house.specs.Own.{begun_by, end_own, message_own, own_of, program_own, record_own}
use Rattle.xl_house.specs.State.{Whole, kind_of, nfs_opens}
use Rattle.xl_house.specs.Telling.{all_shown, settled, shown_by, showing, turns_sent}
use Rattle.xl_house.specs.declared.layers.Fronts.{Fronts}
use Rattle.xl_house.proofs.DistinctLaws.{closed_keyed, distinct, gone_keyed, keyed, tree_dropped_keyed}
use Rattle.xl_house.proofs.TurnLaws.{of_turns}

-- ---- what goes

closed_sound : (number : ℕ) (l : Lists) → IsSound l → IsSound (closed number l)
closed_sound number l sound = open_dropped_sound number (lease_left number l) (unlisted number l) (lease_left_sound number l sound)

closed_distinct : (number : ℕ) (l : Lists) → AreDistinct l → AreDistinct (closed number l)
closed_distinct number l d = distinct (closed number l) (closed_keyed number l (keyed l d)) d.waiting

-- the opens under something, and none is left
record Freed (under : Scope) (l : Lists) : Type 0 where
  sound : IsSound l
  distinct : AreDistinct l
  none : opens_under under l ≡ []

all_freed : (under : Scope) (numbers : List ℕ) (l : Lists) → opens_under under l ≡ numbers → IsSound l → AreDistinct l → Freed under (all_closed numbers l)
all_freed under [] l is sound d = record { sound = sound; distinct = d; none = is }
all_freed under (number ∷ numbers) l is sound d = all_freed under numbers (closed number l) (opens_step under l (number ∷ numbers) 0 0 d (omega arith) is) (closed_sound number l sound) (closed_distinct number l d)

-- and the tree connects of a session
record Bare (session : ℕ) (l : Lists) : Type 0 where
  sound : IsSound l
  distinct : AreDistinct l
  none : trees_of session l ≡ []

all_bare : (session : ℕ) (numbers : List ℕ) (l : Lists) → trees_of session l ≡ numbers → Freed (scope.Session session) l → Bare session (trees_dropped numbers l)
all_bare session [] l is freed = record { sound = freed.sound; distinct = freed.distinct; none = is }
all_bare session (number ∷ numbers) l is freed =
    all_bare session numbers (tree_dropped number l) (trees_step session l (number ∷ numbers) 0 0 freed.distinct (omega arith) is)
    (record {
      sound = tree_dropped_sound number l (tree_free session l (number ∷ numbers) 0 0 freed.sound freed.distinct (omega arith) is freed.none) freed.sound;
      distinct = distinct (tree_dropped number l) (tree_dropped_keyed number l (keyed l freed.distinct)) freed.distinct.waiting;
      none = freed.none;
    })

gone_sound : (number : ℕ) (l : Lists) → Freed (scope.Session number) l → IsSound (session_gone number l)
unfolding session_gone
gone_sound number l freed = (let bare = all_bare number (trees_of number l) l refl freed in session_dropped_sound number (trees_dropped (trees_of number l) l) bare.none bare.sound)

gone_waits : (numbers : List ℕ) (l : Lists) → (trees_dropped numbers l).waiting ≡ l.waiting
gone_waits [] l = refl
gone_waits (number ∷ numbers) l = gone_waits numbers (tree_dropped number l)

session_waits : (number : ℕ) (l : Lists) → (session_gone number l).waiting ≡ l.waiting
unfolding session_gone
session_waits number l = gone_waits (trees_of number l) l

gone_distinct : (number : ℕ) (l : Lists) → AreDistinct l → AreDistinct (session_gone number l)
gone_distinct number l d = distinct (session_gone number l) (gone_keyed number l (keyed l d)) (subst (λ (es : List (ℕ × Waiting)). IsDistinct nat_eq (keys_of es)) (sym (session_waits number l)) d.waiting)

-- and the sessions of a connection
record Ended (conn : ℕ) (l : Lists) : Type 0 where
  sound : IsSound l
  none : sessions_on conn l ≡ []

all_gone : (conn : ℕ) (numbers : List ℕ) (l : Lists) → sessions_on conn l ≡ numbers → Freed (scope.Connection conn) l → Ended conn (sessions_gone numbers l)
all_gone conn [] l is freed = record { sound = freed.sound; none = is }
all_gone conn (number ∷ numbers) l is freed =
    all_gone conn numbers (session_gone number l) (sessions_step conn l (number ∷ numbers) 0 0 freed.distinct (omega arith) is)
    (record {
      sound = gone_sound number l (record { sound = freed.sound; distinct = freed.distinct; none = session_free conn l (number ∷ numbers) 0 0 freed.sound freed.distinct (omega arith) is freed.none });
      distinct = gone_distinct number l freed.distinct;
      none = opens_stay (scope.Connection conn) l number ∙ freed.none;
    })

-- ---- an open that comes, and its lease

found_behind : (number : ℕ) (row : Open) (es : List (ℕ × Open)) → lookup (nat_eq number) es ≡ None → lookup (nat_eq number) (es ++ (number, row) ∷ []) ≡ Some row
found_behind number row [] none = rw (eq-eqb number number refl) refl
found_behind number row (e ∷ es) none = elim (cases_Bool (eqb number e.0)) [ inl here ↦ absurd (some_none (rw here at none)) | inr other ↦ rw other (found_behind number row es (rw other at none)) ]

lease_sound : (number file : ℕ) (key : LeaseKey) (o : Option Lease) (l : Lists) → lease_of key l ≡ o → is_under key file (open_of number l) ≡ true → IsSound l → IsSound (lease_begun number file key o l)
lease_sound number file key None l at under sound = lease_added_sound key (record { file = file; opens = number ∷ [] }) l (refl, (under, tt)) sound
lease_sound number file key (Some row) l at under sound = by (row.file == file) refl where
  by : (b : Bool) → (row.file == file) ≡ b → IsSound (if b then lease_joined key number l else l)
  by false is = sound
  by true is = lease_joined_sound key number l (subst (λ (o : Option Lease). IfSome o (λ r. is_under key r.file (open_of number l) ≡ true)) (sym at) (subst (λ (x : ℕ). is_under key x (open_of number l) ≡ true) (sym (eqb-true row.file file is)) under)) sound

with_sound : (number : ℕ) (row : Open) (l : Lists) → open_of number l ≡ None → IsOpenLinked l row → length l.opens < most_opens → IsSound l → IsSound (with_open number row l)
with_sound number row l none linked room sound = by row.lease refl where
  m : Lists
  m = open_added number row l

  there : IsSound m
  there = open_added_sound number row l linked room sound

  by : (lease : Option (List ℕ)) → row.lease ≡ lease → IsSound (come_under number row.file (option_map (λ key. record { client = row.client; key = key }) lease) m)
  by None is = there
  by (Some name) is =
      let key : LeaseKey = record { client = row.client; key = name } in
      lease_sound number row.file key (lease_of key m) m refl
      (ap (λ (o : Option Open). is_under key row.file o) (found_behind number row l.opens none)
      ∙ ap (λ (o : Option (List ℕ)). (row.file == row.file) && is_key key row.client o) is
      ∙ ap (λ (b : Bool). b && is_key key row.client (Some name)) (eq-eqb row.file row.file refl)
      ∙ same_lease_self key)
      there

-- ---- each command

abbrev Keeps : Lists → Plan → Type 0
Keeps l (Fails status) = Unit {0}
Keeps l (Does deeds lists told) = IsSound l → AreDistinct l → IsSound lists
Keeps l (Opens left a number row id waiting) = (open_of number l ≡ None) × IsOpenLinked l row × (length l.opens < most_opens)
Keeps l (Locks a row) = Unit {0}

not_not : (b : Bool) → not b ≡ false → b ≡ true
not_not true is = refl
not_not false is = absurd (true≢false is)

fresh_none : (o : Option Connection) → is_fresh o ≡ true → option_and_then (λ c. c.client) o ≡ None
fresh_none None is = refl
fresh_none (Some row) is = by row.client is where
  by : (client : Option (List ℕ)) → not (is_some client) ≡ true → client ≡ None
  by None h = refl
  by (Some guid) h = absurd (true≢false (sym h))

negotiate_keeps : (l : Lists) (conn : ℕ) (c : NegotiateCallItem) → Keeps l (negotiate l conn c)
unfolding negotiate
negotiate_keeps l conn c =
    walk_refused (Keeps l) (λ refusal. tt) ((not (is_fresh (connection_of conn l)), InvalidParameter) ∷ (length (dialects_of c.dialects) == 0, InvalidParameter) ∷ (not (offers c.dialects), NotSupported) ∷ [])
    (Does [] (connection_changed conn (record { client = Some c.client_guid }) l) told.Negotiated)
    (λ all sound d. connection_changed_sound conn (record { client = Some c.client_guid }) l (fresh_none (connection_of conn l) (not_not (is_fresh (connection_of conn l)) all.0)) sound)

set_up_by : (s : CoreState) (l : Lists) (conn : ℕ) (client : List ℕ) (room : Bool) → client_of conn l ≡ Some client → has_room_for_session l conn (s.counter + 1) ≡ room → Keeps l (if room then set_up_as s l conn (s.counter + 1) else Fails InsufficientResources)
set_up_by s l conn client false known is = tt
set_up_by s l conn client true known is = λ sound d. session_added_sound (s.counter + 1) (record { connection = conn }) l (ap is_some known) (session_room l conn (s.counter + 1) is) sound

setup_by : (s : CoreState) (l : Lists) (conn : ℕ) (client : List ℕ) (h : SmbHead) (new : Bool) → client_of conn l ≡ Some client → h.session_id == 0 ≡ new → Keeps l (session_setup s l conn h)
unfolding session_setup
setup_by s l conn client h true known is = rw is (set_up_by s l conn client (has_room_for_session l conn (s.counter + 1)) known refl)
setup_by s l conn client h false known is = rw is (by_session (Keeps l) (λ number. is_session_on conn (session_of number l)) (λ session. Does [] l (told.SetUp h.session_id)) (number_in s h.session_id) tt (λ k on sound d. sound))

logoff_keeps : (s : CoreState) (l : Lists) (conn : ℕ) (h : SmbHead) → Keeps l (logoff s l conn h)
unfolding logoff
logoff_keeps s l conn h =
    by_session (Keeps l) (λ number. is_session_on conn (session_of number l)) _ (number_in s h.session_id) tt
    (λ k on sound d. gone_sound k (all_closed (opens_under (scope.Session k) l) l) (all_freed (scope.Session k) (opens_under (scope.Session k) l) l refl sound d))

on_session : (conn : ℕ) (o : Option Session) → is_session_on conn o ≡ true → o ≡ Some (record { connection = conn })
on_session conn None on = absurd (true≢false (sym on))
on_session conn (Some row) on = (let same = eqb-true row.connection conn on in λ i. Some (record { connection = same i }))

connect_keeps : (s : CoreState) (l : Lists) (conn : ℕ) (h : SmbHead) (path : List ℕ) → Keeps l (tree_connect s l conn h path)
unfolding tree_connect
connect_keeps s l conn h path =
    by_session (Keeps l) (λ number. is_session_on conn (session_of number l)) (connect s l conn path) (number_in s h.session_id) tt
    (λ k on. walk_refused (Keeps l) (λ refusal. tt) ((not (has_room_for_tree l conn (s.counter + 1)), InsufficientResources) ∷ (not (is_share path), BadNetworkName) ∷ []) (connect_as l conn k (s.counter + 1))
    (λ all sound d. tree_added_sound (s.counter + 1) (record { connection = conn; session = k }) l (on_session conn (session_of k l) on) (tree_room l conn (s.counter + 1) (not_not (has_room_for_tree l conn (s.counter + 1)) all.0)) sound))

disconnect_keeps : (s : CoreState) (l : Lists) (conn : ℕ) (client : List ℕ) (h : SmbHead) → Keeps l (tree_disconnect s l conn client h)
unfolding tree_disconnect
disconnect_keeps s l conn client h =
    by_session (Keeps l) (λ number. is_session_on conn (session_of number l)) _ (number_in s h.session_id) tt
    (λ k on. let place : Place = record { connection = conn; session = k; tree = tree_id h.route } in
    by_tree (Keeps l) (disconnect s l) place (has_place place client l) tt
    (λ there sound d. let freed = all_freed (scope.Tree place.tree) (opens_under (scope.Tree place.tree) l) l refl sound d in
    tree_dropped_sound place.tree (all_closed (opens_under (scope.Tree place.tree) l) l) freed.none freed.sound))

create_keeps : (s : CoreState) (files : List (List ℕ)) (others : ℕ) (l : Lists) (conn : ℕ) (client : List ℕ) (h : SmbHead) (c : CreateCallItem) → Keeps l (create s files others l conn client h c)
create_keeps s files others l conn client h c =
    walk_create (Keeps l) (λ refusal. tt) s files others l conn client h c (λ place file on there unused room. (open_new others l (s.counter + 1) room, place_linked place client l there, open_within others l (s.counter + 1) room))

close_keeps : (s : CoreState) (l : Lists) (conn : ℕ) (client : List ℕ) (h : SmbHead) (id : FileId) → Keeps l (close s l conn client h id)
unfolding close
close_keeps s l conn client h id =
    by_session (Keeps l) (λ number. is_session_on conn (session_of number l)) _ (number_in s h.session_id) tt
    (λ k on. by_tree (Keeps l) _ _ (has_place _ client l) tt (λ there. by_open (Keeps l) (λ number. is_open_on conn (open_of number l)) (close_open s l) (file_number s id) tt (λ number under sound d. closed_sound number l sound)))

lock_keeps : (s : CoreState) (l : Lists) (conn : ℕ) (client : List ℕ) (h : SmbHead) (c : LockItem) → Keeps l (lock s l conn client h c)
lock_keeps s l conn client h c = walk_lock (Keeps l) (λ refusal. tt) s l conn client h c (λ number row at on sound d. sound) (λ place number row at on count fits. tt)

cancel_waiting : (s : CoreState) (l : Lists) (id : ℕ) (waits : Bool) → is_waiting id s.waiters ≡ waits → Keeps l (cancel_named s l (Some id))
cancel_waiting s l id true is = rw is (λ sound d. sound)
cancel_waiting s l id false is = rw is (λ sound d. sound)

cancel_by : (s : CoreState) (l : Lists) (o : Option ℕ) → Keeps l (cancel_named s l o)
cancel_by s l None = λ sound d. sound
cancel_by s l (Some id) = cancel_waiting s l id (is_waiting id s.waiters) refl

cancel_keeps : (s : CoreState) (l : Lists) (conn : ℕ) (h : SmbHead) → Keeps l (cancel s l conn h)
unfolding cancel
cancel_keeps s l conn h = cancel_by s l (request_named conn l h.message_id h.route)

acknowledge_keeps : (s : CoreState) (l : Lists) (conn : ℕ) (client : List ℕ) (h : SmbHead) (b : Acknowledgement) → Keeps l (acknowledge s l conn client h b)
acknowledge_keeps s l conn client h b = walk_acknowledge (Keeps l) (λ refusal. tt) s l conn client (λ cache to t here may own quiet sound d. sound) h b

commanded_keeps : (s : CoreState) (files : List (List ℕ)) (others : ℕ) (l : Lists) (conn : ℕ) (h : SmbHead) (call : CallItem) (client : List ℕ) → client_of conn l ≡ Some client → Keeps l (commanded s files others l conn h call client)
unfolding commanded
commanded_keeps s files others l conn h (SessionSetup c) client known = setup_by s l conn client h (h.session_id == 0) known refl
commanded_keeps s files others l conn h Logoff client known = logoff_keeps s l conn h
commanded_keeps s files others l conn h (TreeConnect path) client known = connect_keeps s l conn h path
commanded_keeps s files others l conn h TreeDisconnect client known = disconnect_keeps s l conn client h
commanded_keeps s files others l conn h (Create c) client known = create_keeps s files others l conn client h c
commanded_keeps s files others l conn h (Close c) client known = close_keeps s l conn client h c.file_id
commanded_keeps s files others l conn h (Lock c) client known = lock_keeps s l conn client h c
commanded_keeps s files others l conn h Cancel client known = cancel_keeps s l conn h
commanded_keeps s files others l conn h Echo client known = λ sound d. sound
commanded_keeps s files others l conn h (OplockBreak b) client known = acknowledge_keeps s l conn client h b
commanded_keeps s files others l conn h (Negotiate c) client known = tt
commanded_keeps s files others l conn h Other client known = tt

once_keeps : (s : CoreState) (files : List (List ℕ)) (others : ℕ) (l : Lists) (conn : ℕ) (h : SmbHead) (call : CallItem) → Keeps l (negotiated_by (commanded s files others l conn h call) (client_of conn l))
once_keeps s files others l conn h call = by_known (Keeps l) (commanded s files others l conn h call) (client_of conn l) tt (λ client known. commanded_keeps s files others l conn h call client known)

planned_keeps : (s : CoreState) (files : List (List ℕ)) (others : ℕ) (l : Lists) (conn : ℕ) (h : SmbHead) (call : CallItem) → Keeps l (planned s files others l conn h call)
unfolding planned
planned_keeps s files others l conn h (Negotiate c) = negotiate_keeps l conn c
planned_keeps s files others l conn h (SessionSetup c) = once_keeps s files others l conn h (SessionSetup c)
planned_keeps s files others l conn h Logoff = once_keeps s files others l conn h Logoff
planned_keeps s files others l conn h (TreeConnect path) = once_keeps s files others l conn h (TreeConnect path)
planned_keeps s files others l conn h TreeDisconnect = once_keeps s files others l conn h TreeDisconnect
planned_keeps s files others l conn h (Create c) = once_keeps s files others l conn h (Create c)
planned_keeps s files others l conn h (Close c) = once_keeps s files others l conn h (Close c)
planned_keeps s files others l conn h (Lock c) = once_keeps s files others l conn h (Lock c)
planned_keeps s files others l conn h Cancel = once_keeps s files others l conn h Cancel
planned_keeps s files others l conn h Echo = once_keeps s files others l conn h Echo
planned_keeps s files others l conn h (OplockBreak b) = once_keeps s files others l conn h (OplockBreak b)
planned_keeps s files others l conn h Other = once_keeps s files others l conn h Other

read_keeps : (s : CoreState) (files : List (List ℕ)) (others : ℕ) (l : Lists) (conn : ℕ) (m : Result MessageItem SmbBad) → Keeps l (read_as s files others l conn m)
read_keeps s files others l conn (Ok (Call h call)) = planned_keeps s files others l conn h call
read_keeps s files others l conn (Ok (Reply h r)) = tt
read_keeps s files others l conn (Ok (Told t)) = tt
read_keeps s files others l conn (Err fault) = tt

requested_keeps : (s : CoreState) (files : List (List ℕ)) (others : ℕ) (l : Lists) (conn : ℕ) (bytes : List ℕ) (h : SmbHead) → Keeps l (requested s files others l conn bytes h)
unfolding requested
requested_keeps s files others l conn bytes h =
    walk_refused (Keeps l) (λ refusal. tt) ((not (h.next_command == 0), InvalidParameter) ∷ (nat_lt 18 h.command, InvalidParameter) ∷ (not (is_some (command_of h.command)), NotSupported) ∷ []) (read_as s files others l conn (message_at bytes)) (λ all. read_keeps s files others l conn (message_at bytes))

-- ---- what is done

room_sound : (id : ℕ) (row : Waiting) (l : Lists) (room : Bool) → has_room_to_wait l id ≡ room → IsSound l → IsSound (if room then waiting_added id row l else l)
room_sound id row l true is sound = waiting_added_sound id row l (wait_room l id is) sound
room_sound id row l false is sound = sound

opened_sound : (l : Lists) (number : ℕ) (row : Open) (waiting : Waiting) (answer : Answer) → (open_of number l ≡ None) × IsOpenLinked l row × (length l.opens < most_opens) → IsSound l → IsSound (opened_lists l number row waiting answer)
opened_sound l number row waiting (answers.Granted c) new sound = with_sound number row l new.0 new.1 new.2 sound
opened_sound l number row waiting (answers.Queued id) new sound = room_sound id waiting l (has_room_to_wait l id) refl sound
opened_sound l number row waiting (answers.Conflict c) new sound = sound
opened_sound l number row waiting (answers.Recall c) new sound = sound
opened_sound l number row waiting (answers.Grace until) new sound = sound
opened_sound l number row waiting (answers.NoGrace clock) new sound = sound
opened_sound l number row waiting answers.NotRecorded new sound = sound
opened_sound l number row waiting (answers.Full limit) new sound = sound
opened_sound l number row waiting answers.NotHeld new sound = sound
opened_sound l number row waiting answers.StoreFailed new sound = sound

locked_sound : (row : Waiting) (l : Lists) (r : Locking) → IsSound l → IsSound (lists_as row l r)
locked_sound row l locking.Done sound = sound
locked_sound row l (locking.Failed status) sound = sound
locked_sound row l (locking.Waits id) sound = room_sound id row l (has_room_to_wait l id) refl sound

carried_sound : (n : ℕ) (s : CoreState) (l : Lists) (plan : Plan) → Keeps l plan → IsSound l → AreDistinct l → IsSound (carried n s l plan).2
carried_sound n s l (Fails status) keeps sound d = sound
carried_sound n s l (Does deeds lists told) keeps sound d = keeps sound d
carried_sound n s l (Opens left a number row id waiting) keeps sound d = opened_sound l number row waiting (ask n left (drawn s) a).0 keeps sound
carried_sound n s l (Locks a row) keeps sound d = locked_sound row l (lock_told (ask n no_rows s a).0) sound

ended_sound : (id : ℕ) (status : SmbStatus) (l : Lists) → IsSound l → IsSound (request_ended id status l).1
unfolding request_ended
ended_sound id status l sound = by (waiting_of id l) where
  by : (o : Option Waiting) → IsSound (ended_with id status o l).1
  by None = sound
  by (Some row) = waiting_dropped_sound id l sound

dismissed_sound : (told : List Effect) (ids : List ℕ) (l : Lists) → IsSound l → IsSound (dismissed told ids l).1
dismissed_sound told [] l sound = sound
dismissed_sound told (id ∷ ids) l sound = by (is_cancelled id told) (dismissed_sound told ids (request_ended id Cancelled l).1 (ended_sound id Cancelled l sound)) (dismissed_sound told ids l sound) where
  by : (b : Bool) → IsSound (dismissed told ids (request_ended id Cancelled l).1).1 → IsSound (dismissed told ids l).1 → IsSound (if b then and_sent (request_ended id Cancelled l) (dismissed told ids) else dismissed told ids l).1
  by true first other = first
  by false first other = other

-- ---- what comes to the front

heard_sound : (n : ℕ) (exports : Exports) (others : ℕ) (f : FrontSmb) (s : CoreState) (conn : ℕ) (bytes : List ℕ) (h : Option SmbHead) → IsSound f.state → AreDistinct f.state → IsSound (stepped n exports others f s conn bytes h).2.state
heard_sound n exports others f s conn bytes None sound d = sound
heard_sound n exports others f s conn bytes (Some h) sound d =
    let plan = plan_for exports others f s conn bytes h in
    let r = carried n s f.state plan in
    dismissed_sound r.1 (keys_of r.2.waiting) r.2 (carried_sound n s f.state plan (requested_keeps s exports.files others f.state conn bytes h) sound d)

step_sound : (n : ℕ) (exports : Exports) (others : ℕ) (f : FrontSmb) (s : CoreState) (conn : ℕ) (bytes : List ℕ) → IsSound f.state → AreDistinct f.state → IsSound (smb_step n exports others f s conn bytes).2.state
unfolding smb_step
step_sound n exports others f s conn bytes sound d = heard_sound n exports others f s conn bytes (head_heard (head_of bytes)) sound d

fewer_filtered : {X : Type 0} (t : X → Bool) (xs : List X) → length (filter t xs) ≤ length xs
fewer_filtered t [] = omega arith
fewer_filtered t (x ∷ xs) = elim (cases_Bool (t x)) [ inl stays ↦ rw stays (omega (arith, fewer_filtered t xs)) | inr goes ↦ rw goes (omega (arith, fewer_filtered t xs)) ]

-- those that wait may be fewer
requests_sound : (conn : ℕ) (l : Lists) → IsSound l → IsSound (requests_gone conn l)
requests_sound conn l sound = record {
  sessions = sound.sessions;
  trees = sound.trees;
  opens = sound.opens;
  leases = sound.leases;
  connections_most = sound.connections_most;
  sessions_most = sound.sessions_most;
  trees_most = sound.trees_most;
  opens_most = sound.opens_most;
  waiting_most = omega (arith, fewer_filtered (λ (e : ℕ × Waiting). not (e.1.place.connection == conn)) l.waiting, sound.waiting_most);
}

end_sound : (f : FrontSmb) (s : CoreState) (conn : ℕ) → IsSound f.state → AreDistinct f.state → IsSound (smb_end f s conn).1.state
unfolding smb_end connection_gone
end_sound f s conn sound d =
    let l : Lists = all_closed (opens_under (scope.Connection conn) f.state) f.state in
    let is = all_gone conn (sessions_on conn l) l refl (all_freed (scope.Connection conn) (opens_under (scope.Connection conn) f.state) f.state refl sound d) in
    let left : Lists = requests_gone conn (connection_gone conn l) in
    dismissed_sound (all_ended (leavers_under s.names (scope.Connection conn) f.state) s).0 (keys_of left.waiting) left
    (requests_sound conn (connection_gone conn l) (connection_dropped_sound conn (sessions_gone (sessions_on conn l) l) is.none is.sound))

few : (a b : ℕ) → nat_le b a ≡ false → a < b
few a b full = grind (arith, nat_tests, full)

begin_sound : (f : FrontSmb) (number : ℕ) → IsSound f.state → IsSound (smb_begin f number).state
unfolding smb_begin
begin_sound f number sound = by (is_some (connection_of number f.state)) (nat_le most_connections (length f.state.connections)) refl where
  by : (there full : Bool) → nat_le most_connections (length f.state.connections) ≡ full → IsSound (if there || full then f.state else connection_added number (record { client = None }) f.state)
  by true full is = sound
  by false true is = sound
  by false false is = connection_added_sound number (record { client = None }) f.state (few (length f.state.connections) most_connections is) sound

-- ---- an effect

holder_linked : (by : Holder) (client : List ℕ) (l : Lists) → holder_stands by client l ≡ true → IsHolderLinked l client by
holder_linked (holder.Tree place) client l stands = place_linked place client l stands
holder_linked (holder.Nobody until) client l stands = tt

stood_sound : (s : CoreState) (row : Waiting) (made : Open) (stands : Bool) (l : Lists) → may_stand row.opened made l ≡ stands → IsSound l → IsSound (stood s row made stands l).1
stood_sound s row made true l may sound =
    with_sound row.opened made l (stand_new row.opened made l may)
    (stand_linked l made (nat_lt (length l.opens) most_opens) (not (is_some (open_of row.opened l))) (holder_stands made.holder made.client l) (may_stand row.opened made l) refl (λ is. holder_linked made.holder made.client l is) may)
    (stand_room row.opened made l may) sound
stood_sound s row made false l may sound = sound

succeeded_sound : (s : CoreState) (row : Waiting) (r : Request) (l : Lists) → IsSound l → IsSound (succeeded s row r l).1
succeeded_sound s row (request.Create made) l sound = stood_sound s row made (may_stand row.opened made l) l refl sound
succeeded_sound s row request.Lock l sound = sound

concluded_sound : (s : CoreState) (row : Waiting) (refused : Option SmbStatus) (l : Lists) → IsSound l → IsSound (concluded s row refused l).1
concluded_sound s row None l sound = succeeded_sound s row row.request l sound
concluded_sound s row (Some status) l sound = sound

served_sound : (s : CoreState) (id : ℕ) (answer : Answer) (l : Lists) → IsSound l → IsSound (request_served s id answer l).1
unfolding request_served
served_sound s id answer l sound = by (waiting_of id l) where
  by : (o : Option Waiting) → IsSound (served_with s id answer o l).1
  by None = sound
  by (Some row) = concluded_sound s row (refusal_of answer row.request) (waiting_dropped id l) (waiting_dropped_sound id l sound)

shown_sound : (f : FrontSmb) (s : CoreState) (effect : Effect) → IsSound f.state → IsSound (smb_shown f s effect).1.state
unfolding smb_shown told_of
shown_sound f s (effects.Served party id answer) sound = served_sound s id answer f.state sound
shown_sound f s (effects.Cancelled party id) sound = sound
shown_sound f s (effects.Begun claim to number) sound = sound
shown_sound f s (effects.Expired client) sound = sound

-- ---- a round

by_sound : (exports : Exports) (f : Fronts) (s : CoreState) (effect : Effect) (p : Protocol) → IsSound f.smb.state → IsSound (shown_by exports f s effect p).1.smb.state
by_sound exports f s effect protocols.Nlm sound = sound
by_sound exports f s effect protocols.Nfs sound = sound
by_sound exports f s effect protocols.Smb sound = shown_sound f.smb s effect sound

all_sound : (exports : Exports) (f : Fronts) (s : CoreState) (told : List Effect) → IsSound f.smb.state → IsSound (all_shown exports f s told).1.smb.state
all_sound exports f s [] sound = sound
all_sound exports f s (effect ∷ told) sound = (let r = showing exports f s effect in all_sound exports r.1 r.2 told (by_sound exports f s effect (told_to effect) sound))

settled_sound : (n : ℕ) (exports : Exports) (f : Fronts) (s : CoreState) → IsSound f.smb.state → IsSound (settled n exports f s).1.smb.state
unfolding settled
settled_sound n exports f s sound =
    of_turns n exports (λ g t ts. IsSound g.smb.state → IsSound (turns_sent exports g t ts).1.smb.state) (λ g t is. is) (λ fuel g t u told e rest is. rest (all_sound exports g u told is)) f s sound

begun_sound : (f : Fronts) (place : ℕ) (kind : Kind) (room : Bool) → IsSound f.smb.state → IsSound (if room then begun_by f place kind else f).smb.state
begun_sound f place kind false sound = sound
begun_sound f place Rpc true sound = sound
begun_sound f place Smb true sound = begin_sound f.smb place sound

program_sound : (n : ℕ) (exports : Exports) (f : Fronts) (s : CoreState) (number : ℕ) (r : RequestItem) (program : Program) → IsSound f.smb.state → IsSound (program_own n exports f s number r program).given.2.smb.state
program_sound n exports f s number r Nlm sound = sound
program_sound n exports f s number r Nfs sound = sound

record_sound : (n : ℕ) (exports : Exports) (f : Fronts) (s : CoreState) (number : ℕ) (incoming : IncomingItem) → IsSound f.smb.state → IsSound (record_own n exports f s number incoming).given.2.smb.state
record_sound n exports f s number Unanswered sound = sound
record_sound n exports f s number (Refused xid verdict) sound = sound
record_sound n exports f s number (Asked r) sound = program_sound n exports f s number r r.program sound

message_sound : (n : ℕ) (exports : Exports) (f : Fronts) (s : CoreState) (kind : Option Kind) (number : ℕ) (bytes : List ℕ) → IsSound f.smb.state → AreDistinct f.smb.state → IsSound (message_own n exports f s kind number bytes).given.2.smb.state
message_sound n exports f s None number bytes sound d = sound
message_sound n exports f s (Some Rpc) number bytes sound d = record_sound n exports f s number (incoming_at bytes) sound
message_sound n exports f s (Some Smb) number bytes sound d = step_sound n exports (nfs_opens f) f.smb s number bytes sound d

gone_by_sound : (f : Fronts) (s : CoreState) (kind : Option Kind) (number : ℕ) → IsSound f.smb.state → AreDistinct f.smb.state → IsSound (end_own f s kind number).given.2.smb.state
gone_by_sound f s None number sound d = sound
gone_by_sound f s (Some Rpc) number sound d = sound
gone_by_sound f s (Some Smb) number sound d = end_sound f.smb s number sound d

given_sound : (n : ℕ) (s : Whole) (event : Event) → IsSound s.front.smb.state → AreDistinct s.front.smb.state → IsSound (own_of n s event).given.2.smb.state
given_sound n s (events.Open kind) sound d = begun_sound s.front s.place kind (nat_lt (length s.connections) most_connections) sound
given_sound n s (Message number bytes) sound d = message_sound n s.exports s.front s.core (kind_of s.connections number) number bytes sound d
given_sound n s (End number) sound d = gone_by_sound s.front s.core (kind_of s.connections number) number sound d
given_sound n s (Called number bytes) sound d = sound
given_sound n s (Tick now) sound d = sound
given_sound n s Restart sound d = sound

all_heard_sound : (n : ℕ) (s : Whole) (event : Event) → IsSound s.front.smb.state → AreDistinct s.front.smb.state → IsSound (heard n s event).1.smb.state
unfolding heard
all_heard_sound n s event sound d = (let g = (own_of n s event).given in all_sound s.exports g.2 g.3 g.1 (given_sound n s event sound d))

pub round_sound : (n : ℕ) (s : Whole) (event : Event) → IsSound s.front.smb.state → AreDistinct s.front.smb.state → (let h = heard n s event in IsSound (settled n s.exports h.1 h.2).1.smb.state)
round_sound n s event sound d = (let h = heard n s event in settled_sound n s.exports h.1 h.2 (all_heard_sound n s event sound d))

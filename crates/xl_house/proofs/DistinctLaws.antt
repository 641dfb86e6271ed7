-- No two rows of one of SMB's lists have one key, whatever comes.
use Rattle.std.proofs.Common.{◌≡◌, ℕ, ◌+◌, Bool, true, false, not, ◌&&◌, ◌||◌, if◌then◌else◌, is_some, length, List, [], ◌∷◌, ◌++◌, Option, Some, None, refl, sym, subst, inl, inr}
use Rattle.std.specs.Prelude.{◌==◌, nat_eq, nat_le, nat_lt, Result, Ok, Err}
use Rattle.std.specs.List.{AllByRecursion, IsDistinct, filter_map}
use Rattle.std.specs.Map.{keys_of, lookup, remove_entry, set_value}
use Rattle.std.proofs.lemmas.Bool.{both_ways, cases_Bool, true≢false}
use Rattle.std.proofs.lemmas.Map.{keys-set_value}
use Rattle.std.proofs.lemmas.Map.Keys.{IsDistinct-cons, IsDistinct-head, IsDistinct-tail}
use Rattle.xl_base.specs.declared.event.Event.{Event}
use Rattle.xl_base.specs.declared.event.Event.TheVariants as events
use Rattle.xl_base.specs.declared.event.Event.TheVariants.{Message, End, Called, Tick, Restart}
use Rattle.xl_base.specs.declared.event.Kind.{Kind}
use Rattle.xl_base.specs.declared.event.Kind.TheVariants.{Rpc, Smb}
use Rattle.xl_base.specs.declared.journal.Exports.{Exports}
use Rattle.xl_base.specs.declared.name.Protocol.{Protocol}
use Rattle.xl_base.specs.declared.name.Protocol.TheVariants as protocols
use Rattle.xl_programs.specs.Programs.{RequestItem, IncomingItem, Unanswered, Refused, Asked, incoming_at}
use Rattle.xl_programs.specs.declared.program.Program.{Program}
use Rattle.xl_programs.specs.declared.program.Program.TheVariants.{Nlm, Nfs}
use Rattle.xl_smb.specs.Calls.{CallItem, Negotiate, SessionSetup, Logoff, TreeConnect, TreeDisconnect, Create, Close, Lock, Cancel, Echo, OplockBreak, Other}
use Rattle.xl_smb.specs.Creates.{CreateCallItem}
use Rattle.xl_smb.specs.Heads.{command_of, head_of}
use Rattle.xl_smb.specs.Locks.{LockItem}
use Rattle.xl_smb.specs.Messages.{MessageItem, Call, Reply, Told, message_at}
use Rattle.xl_smb.specs.Sessions.{NegotiateCallItem, dialects_of}
use Rattle.xl_smb.specs.declared.breaks.Break.{Break as Acknowledgement}
use Rattle.xl_smb.specs.declared.fault.SmbBad.{SmbBad}
use Rattle.xl_smb.specs.declared.file.FileId.{FileId}
use Rattle.xl_smb.specs.declared.head.SmbHead.{SmbHead}
use Rattle.xl_smb_state.proofs.LeaseLaws.{same_lease_self}
use Rattle.xl_smb_state.proofs.LinkLaws.{same_lease_is}
use Rattle.xl_smb_state.proofs.RowLaws.{some_none, unequal_both}
use Rattle.xl_smb_state.specs.Links.{AreDistinct, has_place, most_connections, most_sessions, most_trees}
use Rattle.xl_smb_state.specs.State.{Lists, client_of, closed, come_under, connection_added, connection_changed, connection_of, is_empty, joined, kept_lease, key_of, lease_begun, lease_of, open_added, open_of, opens_under, same_lease, session_of, sessions_on, tree_dropped, tree_of, trees_of, trees_on, waiting_added, waiting_dropped, waiting_of, with_open, without}
use Rattle.xl_smb_state.specs.declared.row.Lease.{Lease}
use Rattle.xl_smb_state.specs.declared.row.LeaseKey.{LeaseKey}
use Rattle.xl_smb_state.specs.declared.row.Open.{Open}
use Rattle.xl_smb_state.specs.declared.row.Place.{Place}
use Rattle.xl_smb_state.specs.declared.row.Request.{Request}
use Rattle.xl_smb_state.specs.declared.row.Request.TheVariants as request
use Rattle.xl_smb_state.specs.declared.row.Scope.TheVariants as scope
use Rattle.xl_smb_state.specs.declared.row.Waiting.{Waiting}
use Rattle.xl_wait.specs.Waiting.{is_waiting, no_rows}
use Rattle.xl_core.specs.Decide.{ask}
use Rattle.xl_core.specs.State.{CoreState, drawn}
use Rattle.xl_core.specs.Told.{told_to}
use Rattle.xl_core.specs.declared.ask.Answer.{Answer}
use Rattle.xl_core.specs.declared.ask.Answer.TheVariants as answers
use Rattle.xl_core.specs.declared.ask.Effect.{Effect}
use Rattle.xl_core.specs.declared.ask.Effect.TheVariants as effects
use Rattle.xl_smb_locks.proofs.FinalLaws.{stand_new}
use Rattle.xl_smb_locks.specs.Finals.{and_sent, concluded, dismissed, ended_with, is_cancelled, may_stand, refusal_of, request_ended, request_served, served_with, stood, succeeded, told_of}
use Rattle.xl_smb_locks.specs.Locks.{lock_told}
use Rattle.xl_smb_locks.specs.declared.locking.Locking.{Locking}
use Rattle.xl_smb_locks.specs.declared.locking.Locking.TheVariants as locking
use Rattle.xl_smb_locks.specs.declared.status.SmbStatus.{SmbStatus}
use Rattle.xl_smb_locks.specs.declared.status.SmbStatus.TheVariants.{Cancelled, InsufficientResources, InvalidParameter, NotSupported, BadNetworkName}
use Rattle.xl_front_smb.proofs.PlanLaws.{open_new}
use Rattle.xl_front_smb.specs.Checks.{file_number, is_fresh, is_open_on, negotiated_by, number_in}
use Rattle.xl_front_smb.specs.Ending.{all_closed, all_ended, connection_gone, leavers_under, requests_gone, session_gone, sessions_gone, smb_end, trees_dropped}
use Rattle.xl_front_smb.specs.Files.{acknowledge, close, close_open, create}
use Rattle.xl_front_smb.specs.FrontSmb.{head_heard, plan_for, smb_shown, smb_step, stepped}
use Rattle.xl_front_smb.specs.Locks.{cancel, cancel_named, lock, request_named}
use Rattle.xl_front_smb.specs.Owners.{is_session_on}
use Rattle.xl_front_smb.specs.Plans.{Plan, Fails, Does, Opens, Locks, carried, has_room_to_wait, lists_as, opened_lists}
use Rattle.xl_front_smb.specs.Replies.{tree_id}
use Rattle.xl_front_smb.specs.Requests.{commanded, planned, read_as, requested}
use Rattle.xl_front_smb.specs.Sessions.{connect, connect_as, disconnect, has_room_for_session, has_room_for_tree, logoff, negotiate, offers, session_setup, set_up_as, tree_connect, tree_disconnect}
use Rattle.xl_front_smb.specs.State.{FrontSmb, smb_begin}
use Rattle.xl_front_smb.specs.Texts.{is_share}
use Rattle.xl_front_smb.specs.declared.told.Told.TheVariants as told
use Rattle.xl_smb_laws.proofs.PlanWalks.{by_client, by_open, by_session, by_tree, walk_acknowledge, walk_create, walk_lock, walk_refused}
use Rattle.xl_house.specs.Machine.{heard}
use Rattle.xl_house.specs.Own.{begun_by, end_own, message_own, own_of, program_own, record_own}
use Rattle.xl_house.specs.State.{Whole, kind_of, nfs_opens}
use Rattle.xl_house.specs.Telling.{all_shown, settled, shown_by, showing, turns_sent}
use Rattle.xl_house.specs.declared.layers.Fronts.{Fronts}
use Rattle.xl_house.proofs.ApartLaws.{begin_apart, end_apart, shown_apart, step_apart}
use Rattle.xl_house.proofs.TurnLaws.{of_turns}

-- ---- rows under keys

module _ {K X : Type 0} (same : K → K → Bool) where
  abbrev Apart : List (K × X) → Type 0
  Apart es = IsDistinct same (keys_of es)

  others_left : (t : K → Bool) (k : K) (es : List (K × X)) → AllByRecursion (λ j. same k j ≡ false) (keys_of es) → AllByRecursion (λ j. same k j ≡ false) (keys_of (remove_entry t es))
  others_left t k [] all = tt
  others_left t k (e ∷ es) all = elim (cases_Bool (t e.0)) [ inl out ↦ rw out all.1 | inr stays ↦ rw stays (all.0, others_left t k es all.1) ]

  removed : (t : K → Bool) (es : List (K × X)) → Apart es → Apart (remove_entry t es)
  removed t [] apart = apart
  removed t (e ∷ es) apart =
      elim (cases_Bool (t e.0)) [
        | inl out ↦ rw out (IsDistinct-tail same e.0 (keys_of es) apart)
        | inr stays ↦ rw stays (IsDistinct-cons same e.0 (keys_of (remove_entry t es)) (others_left t e.0 es (IsDistinct-head same e.0 (keys_of es) apart)) (removed t es (IsDistinct-tail same e.0 (keys_of es) apart)))
      ]

  changed : (t : K → Bool) (es : List (K × X)) (row : X) → Apart es → Apart (set_value t es row)
  changed t es row apart = subst (λ (ks : List K). IsDistinct same ks) (sym (keys-set_value t es row)) apart

  -- one that comes under a new key
  none_such : (k : K) (es : List (K × X)) → lookup (same k) es ≡ None → AllByRecursion (λ j. same k j ≡ false) (keys_of es)
  none_such k [] none = tt
  none_such k (e ∷ es) none = elim (cases_Bool (same k e.0)) [ inl here ↦ absurd (some_none (rw here at none)) | inr other ↦ (other, none_such k es (rw other at none)) ]

  all_behind : (j k : K) (row : X) (es : List (K × X)) → AllByRecursion (λ i. same j i ≡ false) (keys_of es) → same j k ≡ false → AllByRecursion (λ i. same j i ≡ false) (keys_of (es ++ (k, row) ∷ []))
  all_behind j k row [] all other = (other, tt)
  all_behind j k row (e ∷ es) all other = (all.0, all_behind j k row es all.1 other)

  behind : (sides : (j k : K) → same k j ≡ false → same j k ≡ false) (k : K) (row : X) (es : List (K × X)) → AllByRecursion (λ j. same k j ≡ false) (keys_of es) → Apart es → Apart (es ++ (k, row) ∷ [])
  behind sides k row [] none apart = IsDistinct-cons same k [] tt apart
  behind sides k row (e ∷ es) none apart =
      IsDistinct-cons same e.0 (keys_of (es ++ (k, row) ∷ [])) (all_behind e.0 k row es (IsDistinct-head same e.0 (keys_of es) apart) (sides e.0 k none.0)) (behind sides k row es none.1 (IsDistinct-tail same e.0 (keys_of es) apart))

  added : (sides : (j k : K) → same k j ≡ false → same j k ≡ false) (k : K) (row : X) (es : List (K × X)) → lookup (same k) es ≡ None → Apart es → Apart (es ++ (k, row) ∷ [])
  added sides k row es none apart = behind sides k row es (none_such k es none) apart

none_of : {X : Type 0} (o : Option X) → is_some o ≡ false → o ≡ None
none_of None none = refl
none_of (Some x) none = absurd (true≢false none)

nat_sides : (j k : ℕ) → nat_eq k j ≡ false → nat_eq j k ≡ false
nat_sides j k other = unequal_both k j other

lease_sides : (j k : LeaseKey) → same_lease k j ≡ false → same_lease j k ≡ false
lease_sides j k other = by (same_lease j k) refl where
  by : (b : Bool) → same_lease j k ≡ b → b ≡ false
  by false is = refl
  by true is = absurd (both_ways (same_lease k j) other (subst (λ (x : LeaseKey). same_lease k x ≡ true) (sym (same_lease_is j k is)) (same_lease_self k)))

-- the leases once an open left
lease_others : (number : ℕ) (k : LeaseKey) (es : List (LeaseKey × Lease)) → AllByRecursion (λ j. same_lease k j ≡ false) (keys_of es) → AllByRecursion (λ j. same_lease k j ≡ false) (keys_of (filter_map (kept_lease number) es))
lease_others number k [] all = tt
lease_others number k (e ∷ es) all = elim (cases_Bool (is_empty (without number e.1.opens))) [ inl out ↦ rw out (lease_others number k es all.1) | inr stays ↦ rw stays (all.0, lease_others number k es all.1) ]

lease_left_apart : (number : ℕ) (es : List (LeaseKey × Lease)) → IsDistinct same_lease (keys_of es) → IsDistinct same_lease (keys_of (filter_map (kept_lease number) es))
lease_left_apart number [] apart = apart
lease_left_apart number (e ∷ es) apart =
    elim (cases_Bool (is_empty (without number e.1.opens))) [
      | inl out ↦ rw out (lease_left_apart number es (IsDistinct-tail same_lease e.0 (keys_of es) apart))
      | inr stays ↦ rw stays (IsDistinct-cons same_lease e.0 (keys_of (filter_map (kept_lease number) es)) (lease_others number e.0 es (IsDistinct-head same_lease e.0 (keys_of es) apart)) (lease_left_apart number es (IsDistinct-tail same_lease e.0 (keys_of es) apart)))
    ]

-- ---- the lists, except for those that wait

pub record AreKeyed (l : Lists) : Type 0 where
  pub connections : IsDistinct nat_eq (keys_of l.connections)
  pub sessions : IsDistinct nat_eq (keys_of l.sessions)
  pub trees : IsDistinct nat_eq (keys_of l.trees)
  pub opens : IsDistinct nat_eq (keys_of l.opens)
  pub leases : IsDistinct same_lease (keys_of l.leases)

pub keyed : (l : Lists) → AreDistinct l → AreKeyed l
keyed l d = record { connections = d.connections; sessions = d.sessions; trees = d.trees; opens = d.opens; leases = d.leases }

pub distinct : (l : Lists) → AreKeyed l → IsDistinct nat_eq (keys_of l.waiting) → AreDistinct l
distinct l d waiting = record { connections = d.connections; sessions = d.sessions; trees = d.trees; opens = d.opens; leases = d.leases; waiting = waiting }

-- whoever waits
waits : (l : Lists) (rows : List (ℕ × Waiting)) → AreKeyed l → AreKeyed (record l { waiting = rows })
waits l rows d = record { connections = d.connections; sessions = d.sessions; trees = d.trees; opens = d.opens; leases = d.leases }

pub closed_keyed : (number : ℕ) (l : Lists) → AreKeyed l → AreKeyed (closed number l)
closed_keyed number l d = record { connections = d.connections; sessions = d.sessions; trees = d.trees; opens = removed nat_eq (nat_eq number) l.opens d.opens; leases = lease_left_apart number l.leases d.leases }

pub all_closed_keyed : (numbers : List ℕ) (l : Lists) → AreKeyed l → AreKeyed (all_closed numbers l)
all_closed_keyed [] l d = d
all_closed_keyed (number ∷ numbers) l d = all_closed_keyed numbers (closed number l) (closed_keyed number l d)

pub tree_dropped_keyed : (number : ℕ) (l : Lists) → AreKeyed l → AreKeyed (tree_dropped number l)
tree_dropped_keyed number l d = record { connections = d.connections; sessions = d.sessions; trees = removed nat_eq (nat_eq number) l.trees d.trees; opens = d.opens; leases = d.leases }

trees_dropped_keyed : (numbers : List ℕ) (l : Lists) → AreKeyed l → AreKeyed (trees_dropped numbers l)
trees_dropped_keyed [] l d = d
trees_dropped_keyed (number ∷ numbers) l d = trees_dropped_keyed numbers (tree_dropped number l) (tree_dropped_keyed number l d)

pub gone_keyed : (number : ℕ) (l : Lists) → AreKeyed l → AreKeyed (session_gone number l)
unfolding session_gone
gone_keyed number l d =
    let is = trees_dropped_keyed (trees_of number l) l d in
    let m : Lists = trees_dropped (trees_of number l) l in
    record { connections = is.connections; sessions = removed nat_eq (nat_eq number) m.sessions is.sessions; trees = is.trees; opens = is.opens; leases = is.leases }

pub all_gone_keyed : (numbers : List ℕ) (l : Lists) → AreKeyed l → AreKeyed (sessions_gone numbers l)
all_gone_keyed [] l d = d
all_gone_keyed (number ∷ numbers) l d = all_gone_keyed numbers (session_gone number l) (gone_keyed number l d)

-- an open that comes, and its lease
lease_keyed : (number file : ℕ) (key : LeaseKey) (o : Option Lease) (l : Lists) → lease_of key l ≡ o → AreKeyed l → AreKeyed (lease_begun number file key o l)
lease_keyed number file key None l at d = record { connections = d.connections; sessions = d.sessions; trees = d.trees; opens = d.opens; leases = added same_lease lease_sides key (record { file = file; opens = number ∷ [] }) l.leases at d.leases }
lease_keyed number file key (Some row) l at d = by (row.file == file) (lease_of key l) at where
  by : (b : Bool) (o : Option Lease) → o ≡ Some row → AreKeyed (if b then record l { leases = joined number o key l.leases } else l)
  by false o is = d
  by true None is = d
  by true (Some found) is = record { connections = d.connections; sessions = d.sessions; trees = d.trees; opens = d.opens; leases = changed same_lease (same_lease key) l.leases _ d.leases }

under_keyed : (number file : ℕ) (key : Option LeaseKey) (l : Lists) → AreKeyed l → AreKeyed (come_under number file key l)
under_keyed number file None l d = d
under_keyed number file (Some key) l d = lease_keyed number file key (lease_of key l) l refl d

with_keyed : (number : ℕ) (row : Open) (l : Lists) → open_of number l ≡ None → AreKeyed l → AreKeyed (with_open number row l)
with_keyed number row l none d =
    under_keyed number row.file (key_of (Some row)) (open_added number row l)
    (record { connections = d.connections; sessions = d.sessions; trees = d.trees; opens = added nat_eq nat_sides number row l.opens none d.opens; leases = d.leases })

-- ---- each command

-- what a plan leaves of them
abbrev Keeps : Lists → Plan → Type 0
Keeps l (Fails status) = Unit {0}
Keeps l (Does deeds lists told) = AreKeyed l → AreKeyed lists
Keeps l (Opens left a number row id waiting) = open_of number l ≡ None
Keeps l (Locks a row) = Unit {0}

negotiate_keeps : (l : Lists) (conn : ℕ) (c : NegotiateCallItem) → Keeps l (negotiate l conn c)
unfolding negotiate
negotiate_keeps l conn c =
    walk_refused (Keeps l) (λ refusal. tt) ((not (is_fresh (connection_of conn l)), InvalidParameter) ∷ (length (dialects_of c.dialects) == 0, InvalidParameter) ∷ (not (offers c.dialects), NotSupported) ∷ [])
    (Does [] (connection_changed conn (record { client = Some c.client_guid }) l) told.Negotiated)
    (λ all d. record { connections = changed nat_eq (nat_eq conn) l.connections (record { client = Some c.client_guid }) d.connections; sessions = d.sessions; trees = d.trees; opens = d.opens; leases = d.leases })

second : (a b : Bool) → (a && not b) ≡ true → b ≡ false
second true false h = refl
second true true h = absurd (true≢false (sym h))
second false b h = absurd (true≢false (sym h))

set_up_by : (s : CoreState) (l : Lists) (conn : ℕ) (room : Bool) → has_room_for_session l conn (s.counter + 1) ≡ room → Keeps l (if room then set_up_as s l conn (s.counter + 1) else Fails InsufficientResources)
set_up_by s l conn false is = tt
set_up_by s l conn true is = λ d. record {
  connections = d.connections;
  sessions = added nat_eq nat_sides (s.counter + 1) (record { connection = conn }) l.sessions (none_of (session_of (s.counter + 1) l) (second (nat_lt (length (sessions_on conn l)) most_sessions) (is_some (session_of (s.counter + 1) l)) is)) d.sessions;
  trees = d.trees;
  opens = d.opens;
  leases = d.leases;
}

setup_by : (s : CoreState) (l : Lists) (conn : ℕ) (h : SmbHead) (new : Bool) → h.session_id == 0 ≡ new → Keeps l (session_setup s l conn h)
unfolding session_setup
setup_by s l conn h true is = rw is (set_up_by s l conn (has_room_for_session l conn (s.counter + 1)) refl)
setup_by s l conn h false is = rw is (by_session (Keeps l) (λ number. is_session_on conn (session_of number l)) (λ session. Does [] l (told.SetUp h.session_id)) (number_in s h.session_id) tt (λ k on d. d))

logoff_keeps : (s : CoreState) (l : Lists) (conn : ℕ) (h : SmbHead) → Keeps l (logoff s l conn h)
unfolding logoff
logoff_keeps s l conn h =
    by_session (Keeps l) (λ number. is_session_on conn (session_of number l)) _ (number_in s h.session_id) tt
    (λ k on d. let m = all_closed (opens_under (scope.Session k) l) l in gone_keyed k m (all_closed_keyed (opens_under (scope.Session k) l) l d))

connect_by : (s : CoreState) (l : Lists) (conn k : ℕ) → not (has_room_for_tree l conn (s.counter + 1)) ≡ false → Keeps l (connect_as l conn k (s.counter + 1))
connect_by s l conn k room = λ d. record {
  connections = d.connections;
  sessions = d.sessions;
  trees = added nat_eq nat_sides (s.counter + 1) (record { connection = conn; session = k }) l.trees (none_of (tree_of (s.counter + 1) l) (second (nat_lt (length (trees_on conn l)) most_trees) (is_some (tree_of (s.counter + 1) l)) (has (has_room_for_tree l conn (s.counter + 1)) room))) d.trees;
  opens = d.opens;
  leases = d.leases;
} where
  has : (b : Bool) → not b ≡ false → b ≡ true
  has true is = refl
  has false is = absurd (true≢false is)

connect_keeps : (s : CoreState) (l : Lists) (conn : ℕ) (h : SmbHead) (path : List ℕ) → Keeps l (tree_connect s l conn h path)
unfolding tree_connect
connect_keeps s l conn h path =
    by_session (Keeps l) (λ number. is_session_on conn (session_of number l)) (connect s l conn path) (number_in s h.session_id) tt
    (λ k on. walk_refused (Keeps l) (λ refusal. tt) ((not (has_room_for_tree l conn (s.counter + 1)), InsufficientResources) ∷ (not (is_share path), BadNetworkName) ∷ []) (connect_as l conn k (s.counter + 1))
    (λ all. connect_by s l conn k all.0))

disconnect_keeps : (s : CoreState) (l : Lists) (conn : ℕ) (client : List ℕ) (h : SmbHead) → Keeps l (tree_disconnect s l conn client h)
unfolding tree_disconnect
disconnect_keeps s l conn client h =
    by_session (Keeps l) (λ number. is_session_on conn (session_of number l)) _ (number_in s h.session_id) tt
    (λ k on. let place : Place = record { connection = conn; session = k; tree = tree_id h.route } in
    by_tree (Keeps l) (disconnect s l) place (has_place place client l) tt
    (λ there d. tree_dropped_keyed place.tree (all_closed (opens_under (scope.Tree place.tree) l) l) (all_closed_keyed (opens_under (scope.Tree place.tree) l) l d)))

create_keeps : (s : CoreState) (files : List (List ℕ)) (others : ℕ) (l : Lists) (conn : ℕ) (client : List ℕ) (h : SmbHead) (c : CreateCallItem) → Keeps l (create s files others l conn client h c)
create_keeps s files others l conn client h c = walk_create (Keeps l) (λ refusal. tt) s files others l conn client h c (λ place file on there unused room. open_new others l (s.counter + 1) room)

close_keeps : (s : CoreState) (l : Lists) (conn : ℕ) (client : List ℕ) (h : SmbHead) (id : FileId) → Keeps l (close s l conn client h id)
unfolding close
close_keeps s l conn client h id =
    by_session (Keeps l) (λ number. is_session_on conn (session_of number l)) _ (number_in s h.session_id) tt
    (λ k on. by_tree (Keeps l) _ _ (has_place _ client l) tt (λ there. by_open (Keeps l) (λ number. is_open_on conn (open_of number l)) (close_open s l) (file_number s id) tt (λ number under d. closed_keyed number l d)))

lock_keeps : (s : CoreState) (l : Lists) (conn : ℕ) (client : List ℕ) (h : SmbHead) (c : LockItem) → Keeps l (lock s l conn client h c)
lock_keeps s l conn client h c = walk_lock (Keeps l) (λ refusal. tt) s l conn client h c (λ number row at on d. d) (λ place number row at on count sound. tt)

cancel_waiting : (s : CoreState) (l : Lists) (id : ℕ) (waits : Bool) → is_waiting id s.waiters ≡ waits → Keeps l (cancel_named s l (Some id))
cancel_waiting s l id true is = rw is (λ d. d)
cancel_waiting s l id false is = rw is (λ d. d)

cancel_by : (s : CoreState) (l : Lists) (o : Option ℕ) → Keeps l (cancel_named s l o)
cancel_by s l None = λ d. d
cancel_by s l (Some id) = cancel_waiting s l id (is_waiting id s.waiters) refl

cancel_keeps : (s : CoreState) (l : Lists) (conn : ℕ) (h : SmbHead) → Keeps l (cancel s l conn h)
unfolding cancel
cancel_keeps s l conn h = cancel_by s l (request_named conn l h.message_id h.route)

acknowledge_keeps : (s : CoreState) (l : Lists) (conn : ℕ) (client : List ℕ) (h : SmbHead) (b : Acknowledgement) → Keeps l (acknowledge s l conn client h b)
acknowledge_keeps s l conn client h b = walk_acknowledge (Keeps l) (λ refusal. tt) s l conn client (λ cache to t here may own quiet d. d) h b

commanded_keeps : (s : CoreState) (files : List (List ℕ)) (others : ℕ) (l : Lists) (conn : ℕ) (h : SmbHead) (call : CallItem) (client : List ℕ) → Keeps l (commanded s files others l conn h call client)
unfolding commanded
commanded_keeps s files others l conn h (SessionSetup c) client = setup_by s l conn h (h.session_id == 0) refl
commanded_keeps s files others l conn h Logoff client = logoff_keeps s l conn h
commanded_keeps s files others l conn h (TreeConnect path) client = connect_keeps s l conn h path
commanded_keeps s files others l conn h TreeDisconnect client = disconnect_keeps s l conn client h
commanded_keeps s files others l conn h (Create c) client = create_keeps s files others l conn client h c
commanded_keeps s files others l conn h (Close c) client = close_keeps s l conn client h c.file_id
commanded_keeps s files others l conn h (Lock c) client = lock_keeps s l conn client h c
commanded_keeps s files others l conn h Cancel client = cancel_keeps s l conn h
commanded_keeps s files others l conn h Echo client = λ d. d
commanded_keeps s files others l conn h (OplockBreak b) client = acknowledge_keeps s l conn client h b
commanded_keeps s files others l conn h (Negotiate c) client = tt
commanded_keeps s files others l conn h Other client = tt

once_keeps : (s : CoreState) (files : List (List ℕ)) (others : ℕ) (l : Lists) (conn : ℕ) (h : SmbHead) (call : CallItem) → Keeps l (negotiated_by (commanded s files others l conn h call) (client_of conn l))
once_keeps s files others l conn h call = by_client (Keeps l) (commanded s files others l conn h call) (client_of conn l) tt (λ client. commanded_keeps s files others l conn h call client)

planned_keeps : (s : CoreState) (files : List (List ℕ)) (others : ℕ) (l : Lists) (conn : ℕ) (h : SmbHead) (call : CallItem) → Keeps l (planned s files others l conn h call)
unfolding planned
planned_keeps s files others l conn h (Negotiate c) = negotiate_keeps l conn c
planned_keeps s files others l conn h (SessionSetup c) = once_keeps s files others l conn h (SessionSetup c)
planned_keeps s files others l conn h Logoff = once_keeps s files others l conn h Logoff
planned_keeps s files others l conn h (TreeConnect path) = once_keeps s files others l conn h (TreeConnect path)
planned_keeps s files others l conn h TreeDisconnect = once_keeps s files others l conn h TreeDisconnect
planned_keeps s files others l conn h (Create c) = once_keeps s files others l conn h (Create c)
planned_keeps s files others l conn h (Close c) = once_keeps s files others l conn h (Close c)
planned_keeps s files others l conn h (Lock c) = once_keeps s files others l conn h (Lock c)
planned_keeps s files others l conn h Cancel = once_keeps s files others l conn h Cancel
planned_keeps s files others l conn h Echo = once_keeps s files others l conn h Echo
planned_keeps s files others l conn h (OplockBreak b) = once_keeps s files others l conn h (OplockBreak b)
planned_keeps s files others l conn h Other = once_keeps s files others l conn h Other

read_keeps : (s : CoreState) (files : List (List ℕ)) (others : ℕ) (l : Lists) (conn : ℕ) (m : Result MessageItem SmbBad) → Keeps l (read_as s files others l conn m)
read_keeps s files others l conn (Ok (Call h call)) = planned_keeps s files others l conn h call
read_keeps s files others l conn (Ok (Reply h r)) = tt
read_keeps s files others l conn (Ok (Told t)) = tt
read_keeps s files others l conn (Err fault) = tt

requested_keeps : (s : CoreState) (files : List (List ℕ)) (others : ℕ) (l : Lists) (conn : ℕ) (bytes : List ℕ) (h : SmbHead) → Keeps l (requested s files others l conn bytes h)
unfolding requested
requested_keeps s files others l conn bytes h =
    walk_refused (Keeps l) (λ refusal. tt) ((not (h.next_command == 0), InvalidParameter) ∷ (nat_lt 18 h.command, InvalidParameter) ∷ (not (is_some (command_of h.command)), NotSupported) ∷ []) (read_as s files others l conn (message_at bytes)) (λ all. read_keeps s files others l conn (message_at bytes))

-- ---- what is done

room_keyed : (id : ℕ) (row : Waiting) (l : Lists) (room : Bool) → AreKeyed l → AreKeyed (if room then waiting_added id row l else l)
room_keyed id row l true d = waits l _ d
room_keyed id row l false d = d

opened_keyed : (l : Lists) (number : ℕ) (row : Open) (waiting : Waiting) (answer : Answer) → open_of number l ≡ None → AreKeyed l → AreKeyed (opened_lists l number row waiting answer)
opened_keyed l number row waiting (answers.Granted c) none d = with_keyed number row l none d
opened_keyed l number row waiting (answers.Queued id) none d = room_keyed id waiting l (has_room_to_wait l id) d
opened_keyed l number row waiting (answers.Conflict c) none d = d
opened_keyed l number row waiting (answers.Recall c) none d = d
opened_keyed l number row waiting (answers.Grace until) none d = d
opened_keyed l number row waiting (answers.NoGrace clock) none d = d
opened_keyed l number row waiting answers.NotRecorded none d = d
opened_keyed l number row waiting (answers.Full limit) none d = d
opened_keyed l number row waiting answers.NotHeld none d = d
opened_keyed l number row waiting answers.StoreFailed none d = d

locked_keyed : (row : Waiting) (l : Lists) (r : Locking) → AreKeyed l → AreKeyed (lists_as row l r)
locked_keyed row l locking.Done d = d
locked_keyed row l (locking.Failed status) d = d
locked_keyed row l (locking.Waits id) d = room_keyed id row l (has_room_to_wait l id) d

carried_keyed : (n : ℕ) (s : CoreState) (l : Lists) (plan : Plan) → Keeps l plan → AreKeyed l → AreKeyed (carried n s l plan).2
carried_keyed n s l (Fails status) keeps d = d
carried_keyed n s l (Does deeds lists told) keeps d = keeps d
carried_keyed n s l (Opens left a number row id waiting) keeps d = opened_keyed l number row waiting (ask n left (drawn s) a).0 keeps d
carried_keyed n s l (Locks a row) keeps d = locked_keyed row l (lock_told (ask n no_rows s a).0) d

ended_keyed : (id : ℕ) (status : SmbStatus) (l : Lists) → AreKeyed l → AreKeyed (request_ended id status l).1
unfolding request_ended
ended_keyed id status l d = by (waiting_of id l) where
  by : (o : Option Waiting) → AreKeyed (ended_with id status o l).1
  by None = d
  by (Some row) = waits l _ d

dismissed_keyed : (told : List Effect) (ids : List ℕ) (l : Lists) → AreKeyed l → AreKeyed (dismissed told ids l).1
dismissed_keyed told [] l d = d
dismissed_keyed told (id ∷ ids) l d = by (is_cancelled id told) (dismissed_keyed told ids (request_ended id Cancelled l).1 (ended_keyed id Cancelled l d)) (dismissed_keyed told ids l d) where
  by : (b : Bool) → AreKeyed (dismissed told ids (request_ended id Cancelled l).1).1 → AreKeyed (dismissed told ids l).1 → AreKeyed (if b then and_sent (request_ended id Cancelled l) (dismissed told ids) else dismissed told ids l).1
  by true first other = first
  by false first other = other

-- ---- what comes to the front

heard_keyed : (n : ℕ) (exports : Exports) (others : ℕ) (f : FrontSmb) (s : CoreState) (conn : ℕ) (bytes : List ℕ) (h : Option SmbHead) → AreKeyed f.state → AreKeyed (stepped n exports others f s conn bytes h).2.state
heard_keyed n exports others f s conn bytes None d = d
heard_keyed n exports others f s conn bytes (Some h) d =
    let plan = plan_for exports others f s conn bytes h in
    let r = carried n s f.state plan in
    dismissed_keyed r.1 (keys_of r.2.waiting) r.2 (carried_keyed n s f.state plan (requested_keeps s exports.files others f.state conn bytes h) d)

step_keyed : (n : ℕ) (exports : Exports) (others : ℕ) (f : FrontSmb) (s : CoreState) (conn : ℕ) (bytes : List ℕ) → AreKeyed f.state → AreKeyed (smb_step n exports others f s conn bytes).2.state
unfolding smb_step
step_keyed n exports others f s conn bytes d = heard_keyed n exports others f s conn bytes (head_heard (head_of bytes)) d

end_keyed : (f : FrontSmb) (s : CoreState) (conn : ℕ) → AreKeyed f.state → AreKeyed (smb_end f s conn).1.state
unfolding smb_end connection_gone
end_keyed f s conn d =
    let l : Lists = all_closed (opens_under (scope.Connection conn) f.state) f.state in
    let m : Lists = sessions_gone (sessions_on conn l) l in
    let is = all_gone_keyed (sessions_on conn l) l (all_closed_keyed (opens_under (scope.Connection conn) f.state) f.state d) in
    let left : Lists = requests_gone conn (connection_gone conn l) in
    dismissed_keyed (all_ended (leavers_under s.names (scope.Connection conn) f.state) s).0 (keys_of left.waiting) left
    (record { connections = removed nat_eq (nat_eq conn) m.connections is.connections; sessions = is.sessions; trees = is.trees; opens = is.opens; leases = is.leases })

begin_keyed : (f : FrontSmb) (number : ℕ) → AreKeyed f.state → AreKeyed (smb_begin f number).state
unfolding smb_begin
begin_keyed f number d = by (is_some (connection_of number f.state)) (nat_le most_connections (length f.state.connections)) refl where
  by : (there full : Bool) → is_some (connection_of number f.state) ≡ there → AreKeyed (if there || full then f.state else connection_added number (record { client = None }) f.state)
  by true full is = d
  by false true is = d
  by false false is = record { connections = added nat_eq nat_sides number (record { client = None }) f.state.connections (none_of (connection_of number f.state) is) d.connections; sessions = d.sessions; trees = d.trees; opens = d.opens; leases = d.leases }

stood_keyed : (s : CoreState) (row : Waiting) (made : Open) (stands : Bool) (l : Lists) → may_stand row.opened made l ≡ stands → AreKeyed l → AreKeyed (stood s row made stands l).1
stood_keyed s row made true l may d = with_keyed row.opened made l (stand_new row.opened made l may) d
stood_keyed s row made false l may d = d

succeeded_keyed : (s : CoreState) (row : Waiting) (r : Request) (l : Lists) → AreKeyed l → AreKeyed (succeeded s row r l).1
succeeded_keyed s row (request.Create made) l d = stood_keyed s row made (may_stand row.opened made l) l refl d
succeeded_keyed s row request.Lock l d = d

concluded_keyed : (s : CoreState) (row : Waiting) (refused : Option SmbStatus) (l : Lists) → AreKeyed l → AreKeyed (concluded s row refused l).1
concluded_keyed s row None l d = succeeded_keyed s row row.request l d
concluded_keyed s row (Some status) l d = d

served_keyed : (s : CoreState) (id : ℕ) (answer : Answer) (l : Lists) → AreKeyed l → AreKeyed (request_served s id answer l).1
unfolding request_served
served_keyed s id answer l d = by (waiting_of id l) where
  by : (o : Option Waiting) → AreKeyed (served_with s id answer o l).1
  by None = d
  by (Some row) = concluded_keyed s row (refusal_of answer row.request) (waiting_dropped id l) (waits l _ d)

shown_keyed : (f : FrontSmb) (s : CoreState) (effect : Effect) → AreKeyed f.state → AreKeyed (smb_shown f s effect).1.state
unfolding smb_shown told_of
shown_keyed f s (effects.Served party id answer) d = served_keyed s id answer f.state d
shown_keyed f s (effects.Cancelled party id) d = d
shown_keyed f s (effects.Begun claim to number) d = d
shown_keyed f s (effects.Expired client) d = d

-- ---- all lists

pub step_distinct : (n : ℕ) (exports : Exports) (others : ℕ) (f : FrontSmb) (s : CoreState) (conn : ℕ) (bytes : List ℕ) → AreDistinct f.state → AreDistinct (smb_step n exports others f s conn bytes).2.state
step_distinct n exports others f s conn bytes d = distinct _ (step_keyed n exports others f s conn bytes (keyed f.state d)) (step_apart n exports others f s conn bytes d.waiting)

pub end_distinct : (f : FrontSmb) (s : CoreState) (conn : ℕ) → AreDistinct f.state → AreDistinct (smb_end f s conn).1.state
end_distinct f s conn d = distinct _ (end_keyed f s conn (keyed f.state d)) (end_apart f s conn d.waiting)

pub begin_distinct : (f : FrontSmb) (number : ℕ) → AreDistinct f.state → AreDistinct (smb_begin f number).state
begin_distinct f number d = distinct _ (begin_keyed f number (keyed f.state d)) (begin_apart f number d.waiting)

pub shown_distinct : (f : FrontSmb) (s : CoreState) (effect : Effect) → AreDistinct f.state → AreDistinct (smb_shown f s effect).1.state
shown_distinct f s effect d = distinct _ (shown_keyed f s effect (keyed f.state d)) (shown_apart f s effect d.waiting)

-- ---- a round

by_distinct : (exports : Exports) (f : Fronts) (s : CoreState) (effect : Effect) (p : Protocol) → AreDistinct f.smb.state → AreDistinct (shown_by exports f s effect p).1.smb.state
by_distinct exports f s effect protocols.Nlm d = d
by_distinct exports f s effect protocols.Nfs d = d
by_distinct exports f s effect protocols.Smb d = shown_distinct f.smb s effect d

all_distinct : (exports : Exports) (f : Fronts) (s : CoreState) (told : List Effect) → AreDistinct f.smb.state → AreDistinct (all_shown exports f s told).1.smb.state
all_distinct exports f s [] d = d
all_distinct exports f s (effect ∷ told) d = (let r = showing exports f s effect in all_distinct exports r.1 r.2 told (by_distinct exports f s effect (told_to effect) d))

settled_distinct : (n : ℕ) (exports : Exports) (f : Fronts) (s : CoreState) → AreDistinct f.smb.state → AreDistinct (settled n exports f s).1.smb.state
unfolding settled
settled_distinct n exports f s d =
    of_turns n exports (λ g t ts. AreDistinct g.smb.state → AreDistinct (turns_sent exports g t ts).1.smb.state) (λ g t is. is) (λ fuel g t u told e rest is. rest (all_distinct exports g u told is)) f s d

begun_distinct : (f : Fronts) (place : ℕ) (kind : Kind) (room : Bool) → AreDistinct f.smb.state → AreDistinct (if room then begun_by f place kind else f).smb.state
begun_distinct f place kind false d = d
begun_distinct f place Rpc true d = d
begun_distinct f place Smb true d = begin_distinct f.smb place d

program_distinct : (n : ℕ) (exports : Exports) (f : Fronts) (s : CoreState) (number : ℕ) (r : RequestItem) (program : Program) → AreDistinct f.smb.state → AreDistinct (program_own n exports f s number r program).given.2.smb.state
program_distinct n exports f s number r Nlm d = d
program_distinct n exports f s number r Nfs d = d

record_distinct : (n : ℕ) (exports : Exports) (f : Fronts) (s : CoreState) (number : ℕ) (incoming : IncomingItem) → AreDistinct f.smb.state → AreDistinct (record_own n exports f s number incoming).given.2.smb.state
record_distinct n exports f s number Unanswered d = d
record_distinct n exports f s number (Refused xid verdict) d = d
record_distinct n exports f s number (Asked r) d = program_distinct n exports f s number r r.program d

message_distinct : (n : ℕ) (exports : Exports) (f : Fronts) (s : CoreState) (kind : Option Kind) (number : ℕ) (bytes : List ℕ) → AreDistinct f.smb.state → AreDistinct (message_own n exports f s kind number bytes).given.2.smb.state
message_distinct n exports f s None number bytes d = d
message_distinct n exports f s (Some Rpc) number bytes d = record_distinct n exports f s number (incoming_at bytes) d
message_distinct n exports f s (Some Smb) number bytes d = step_distinct n exports (nfs_opens f) f.smb s number bytes d

ended_distinct : (f : Fronts) (s : CoreState) (kind : Option Kind) (number : ℕ) → AreDistinct f.smb.state → AreDistinct (end_own f s kind number).given.2.smb.state
ended_distinct f s None number d = d
ended_distinct f s (Some Rpc) number d = d
ended_distinct f s (Some Smb) number d = end_distinct f.smb s number d

given_distinct : (n : ℕ) (s : Whole) (event : Event) → AreDistinct s.front.smb.state → AreDistinct (own_of n s event).given.2.smb.state
given_distinct n s (events.Open kind) d = begun_distinct s.front s.place kind (nat_lt (length s.connections) most_connections) d
given_distinct n s (Message number bytes) d = message_distinct n s.exports s.front s.core (kind_of s.connections number) number bytes d
given_distinct n s (End number) d = ended_distinct s.front s.core (kind_of s.connections number) number d
given_distinct n s (Called number bytes) d = d
given_distinct n s (Tick now) d = d
given_distinct n s Restart d = d

heard_distinct : (n : ℕ) (s : Whole) (event : Event) → AreDistinct s.front.smb.state → AreDistinct (heard n s event).1.smb.state
unfolding heard
heard_distinct n s event d = (let g = (own_of n s event).given in all_distinct s.exports g.2 g.3 g.1 (given_distinct n s event d))

pub round_distinct : (n : ℕ) (s : Whole) (event : Event) → AreDistinct s.front.smb.state → (let h = heard n s event in AreDistinct (settled n s.exports h.1 h.2).1.smb.state)
round_distinct n s event d = (let h = heard n s event in settled_distinct n s.exports h.1 h.2 (heard_distinct n s event d))

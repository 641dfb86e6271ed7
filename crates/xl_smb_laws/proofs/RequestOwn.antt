-- The core takes the deeds, and they are of the connection's opens.
use Rattle.std.proofs.Common.{◌≡◌, ℕ, ◌+◌, ◌≤◌, Bool, true, false, not, ◌&&◌, eqb, List, [], ◌∷◌, ◌++◌, ◌⊎◌, Option, Some, None, if◌then◌else◌, refl, sym, ap, subst, ◌∙◌, inl, inr, option_map}
use Rattle.std.specs.Prelude.{◌==◌, ◌^◌, nat_eq, nat_lt, length, is_some, Result, Ok, Err}
use Rattle.std.specs.List.{AllByRecursion, find}
use Rattle.std.specs.Map.{lookup, remove_entry}
use Rattle.std.proofs.lemmas.Bool.{cases_Bool, false≢true, and_parts}
use Rattle.xl_base.proofs.Members.{in_append_left, in_append_right}
use Rattle.xl_base.specs.Lists.{IsIn}
use Rattle.xl_base.specs.declared.journal.Exports.{Exports}
use Rattle.xl_base.specs.declared.name.Party.{Party}
use Rattle.xl_smb.specs.Calls.{CallItem, Negotiate, SessionSetup, Logoff, TreeConnect, TreeDisconnect, Create, Close, Lock, Cancel, Echo, OplockBreak, Other}
use Rattle.xl_smb.specs.Creates.{CreateCallItem}
use Rattle.xl_smb.specs.Heads.{command_of, head_of}
use Rattle.xl_smb.specs.Messages.{MessageItem, Call, Reply, Told, message_at}
use Rattle.xl_smb.specs.Sessions.{NegotiateCallItem, dialects_of}
use Rattle.xl_smb.specs.declared.breaks.Break.{Break}
use Rattle.xl_smb.specs.declared.fault.SmbBad.{SmbBad}
use Rattle.xl_smb.specs.declared.file.FileId.{FileId}
use Rattle.xl_smb.specs.declared.head.Route.{Route}
use Rattle.xl_smb.specs.declared.head.Route.TheVariants.{Tree, Async}
use Rattle.xl_smb.specs.declared.head.SmbHead.{SmbHead}
use Rattle.xl_smb.specs.declared.lock.LockElement.{LockElement}
use Rattle.xl_smb.specs.Locks.{LockItem, elements_of}
use Rattle.xl_smb_state.specs.Links.{is_tree_at, is_client, has_place}
use Rattle.xl_smb_state.specs.State.{Lists, keys_where, connection_of, connection_changed, client_of, session_of, tree_of, open_of, covers, covers_holder, creates_under, opens_under, is_last_open, closed, waiting_of, waiting_under, is_message}
use Rattle.xl_smb_state.specs.declared.row.Open.{Open}
use Rattle.xl_smb_state.specs.declared.row.Place.{Place}
use Rattle.xl_smb_state.specs.declared.row.Request.TheVariants as request
use Rattle.xl_smb_state.specs.declared.row.Scope.{Scope}
use Rattle.xl_smb_state.specs.declared.row.Scope.TheVariants as scope
use Rattle.xl_smb_state.specs.declared.row.Tree as tree
use Rattle.xl_smb_state.specs.declared.row.Waiting.{Waiting}
use Rattle.xl_smb_state.proofs.RowLaws.{none_some, same_Some, equal_from, equal_self}
use Rattle.xl_core.specs.Deeds.{Cancels, AreFit}
use Rattle.xl_names.specs.declared.name.Name.{Name}
use Rattle.xl_core.specs.declared.ask.Who.{Who}
use Rattle.xl_core.specs.declared.ask.Who.TheVariants as who
use Rattle.xl_wait.specs.Waiting.{is_waiting}
use Rattle.xl_smb_locks.specs.Elements.{lock_fault}
use Rattle.xl_smb_locks.specs.Levels.{party_for, party_of, lease_party}
use Rattle.xl_smb_locks.specs.Locks.{unlock_ask, lock_ask, unlocks}
use Rattle.xl_smb_locks.proofs.FitLaws.{lock_fits, lock_owns, unlock_fits, unlock_owns}
use Rattle.xl_smb_locks.proofs.UnlockLaws.{unlocks_fit, unlocks_are}
use Rattle.xl_core.specs.State.{CoreState}
use Rattle.xl_core.specs.Settle.{close_open as close_core}
use Rattle.xl_front_smb.specs.Checks.{is_fresh, session_named, is_open_on, file_number, number_in, negotiated_by, in_session}
use Rattle.xl_front_smb.specs.Ending.{numbers_under, going_by, party_going, leavers, without_party, leavers_under, ends, smb_end_deeds}
use Rattle.xl_front_smb.specs.Files.{open_ask, open_row, open_as, create, close_open, close, acknowledge}
use Rattle.xl_front_smb.specs.Locks.{waiting_row, place_of, unlock_by, lock, came_by, request_named, cancel_named, cancel}
use Rattle.xl_front_smb.specs.FrontSmb.{head_heard, deeds_for, smb_deeds}
use Rattle.xl_front_smb.specs.Owners.{is_session_on, is_tree_on, is_on, IsLeaseOf, IsHolderOn, IsAskerOn, IsRowOn, IsAskedBy, IsPartyIn, IsOwn, AreOwn, is_end}
use Rattle.xl_front_smb.specs.Plans.{Plan, Fails, Does, Locks, deeds_of}
use Rattle.xl_front_smb.specs.Requests.{commanded, planned, read_as, requested}
use Rattle.xl_front_smb.specs.Sessions.{offers, negotiate, has_room_for_session, set_up_as, set_up, session_setup, logoff, has_room_for_tree, connect_as, connect, tree_connect, disconnect, tree_disconnect}
use Rattle.xl_front_smb.specs.State.{FrontSmb}
use Rattle.xl_front_smb.specs.Texts.{is_share}
use Rattle.xl_smb_locks.specs.declared.status.SmbStatus.TheVariants.{InvalidParameter, InsufficientResources, NotSupported, BadNetworkName}
use Rattle.xl_front_smb.specs.declared.told.Told.TheVariants.{Nothing, Negotiated, SetUp}
use Rattle.xl_front_smb.proofs.AskLaws.{open_fits, open_owns}
use Rattle.xl_front_smb.proofs.LockLaws.{counted}
use Rattle.xl_smb_laws.proofs.PlanWalks.{IsAcker, by_known, by_open, by_session, by_tree, walk_acknowledge, walk_create, walk_lock, walk_refused}

-- the core takes the plan's deeds, and they are the connection's
abbrev pub IsTheirs : ℕ → CoreState → Lists → ℕ → Plan → Type 0
IsTheirs n s l conn plan = AreFit n s (deeds_of n s l plan) × AllByRecursion (IsOwn s.names conn l s.counter) (deeds_of n s l plan)

-- ---- opens that are closed, with what goes with them

ends_fit : (n : ℕ) (s : CoreState) (going : List (ℕ × Option Party)) → AreFit n s (ends going)
ends_fit n s [] = tt
ends_fit n s (e ∷ going) = (tt, ends_fit n (close_core s e.0 e.1).1 going)

ends_in : (names : List Name) (conn : ℕ) (l : Lists) (last : ℕ) (under : Scope) (going : List (ℕ × Option Party)) → is_on conn l under ≡ true
    → ((e : ℕ × Option Party) → IsIn e going → IsIn e.0 (numbers_under under l) × IsPartyIn names l.opens e.0 e.1) → AllByRecursion (IsOwn names conn l last) (ends going)
ends_in names conn l last under [] on within = tt
ends_in names conn l last under (e ∷ going) on within = (
  let this = within e (inl refl) in ((under, on, this.0), this.1),
  ends_in names conn l last under going on (λ d later. within d (inr later)),
)

-- a row that is found is there
row_in : (es : List (ℕ × Open)) (number : ℕ) (row : Open) → lookup (nat_eq number) es ≡ Some row → IsIn (number, row) es
row_in [] number row at = absurd (none_some at)
row_in (e ∷ es) number row at =
    elim (cases_Bool (eqb number e.0)) [
      | inl same ↦ inl (λ i. (equal_from number e.0 same i, same_Some (rw same at at) i))
      | inr apart ↦ inr (row_in es number row (rw apart at at))
    ]

pub removed_of : (t : ℕ → Bool) (es : List (ℕ × Open)) (e : ℕ × Open) → IsIn e (remove_entry t es) → IsIn e es
removed_of t [] e here = absurd here
removed_of t (x ∷ es) e here =
    elim (cases_Bool (t x.0)) [
      | inl out ↦ inr (rw out at here)
      | inr stays ↦ (let there : IsIn e (x ∷ remove_entry t es) = rw stays at here in elim there [ inl same ↦ inl same | inr rest ↦ inr (removed_of t es e rest) ])
    ]

party_in_last : (names : List Name) (number : ℕ) (row : Open) (es : List (ℕ × Open)) (last : Bool) → IsIn (number, row) es → IsPartyIn names es number (if last then Some (party_of names number row) else None)
party_in_last names number row es true here = (row, here, refl)
party_in_last names number row es false here = tt

party_in_by : (names : List Name) (l m : Lists) (number : ℕ) (found : Option Open) → open_of number m ≡ found → ((e : ℕ × Open) → IsIn e m.opens → IsIn e l.opens) → IsPartyIn names l.opens number (going_by names m number found)
party_in_by names l m number None at within = tt
party_in_by names l m number (Some row) at within = party_in_last names number row l.opens (is_last_open number m) (within (number, row) (row_in m.opens number row at))

going_in : (names : List Name) (l m : Lists) (number : ℕ) → ((e : ℕ × Open) → IsIn e m.opens → IsIn e l.opens) → IsPartyIn names l.opens number (party_going names m number)
going_in names l m number within = party_in_by names l m number (open_of number m) refl within

leavers_in : (names : List Name) (l m : Lists) (numbers : List ℕ) → ((e : ℕ × Open) → IsIn e m.opens → IsIn e l.opens) → (e : ℕ × Option Party) → IsIn e (leavers names m numbers) → IsIn e.0 numbers × IsPartyIn names l.opens e.0 e.1
leavers_in names l m [] within e here = absurd here
leavers_in names l m (number ∷ numbers) within e here =
    elim here [
      | inl is ↦ subst (λ (d : ℕ × Option Party). IsIn d.0 (number ∷ numbers) × IsPartyIn names l.opens d.0 d.1) is (inl refl, going_in names l m number within)
      | inr later ↦ (let rest = leavers_in names l (closed number m) numbers (λ d there. within d (removed_of (nat_eq number) m.opens d there)) e later in (inr rest.0, rest.1))
    ]

creates_in : (names : List Name) (l : Lists) (numbers : List ℕ) (e : ℕ × Option Party) → IsIn e (without_party numbers) → IsIn e.0 numbers × IsPartyIn names l.opens e.0 e.1
creates_in names l [] e here = absurd here
creates_in names l (number ∷ numbers) e here =
    elim here [
      | inl is ↦ subst (λ (d : ℕ × Option Party). IsIn d.0 (number ∷ numbers) × IsPartyIn names l.opens d.0 d.1) is (inl refl, tt)
      | inr later ↦ (let rest = creates_in names l numbers e later in (inr rest.0, rest.1))
    ]

pub in_append_from : {A : Type 0} (x : A) (xs ys : List A) → IsIn x (xs ++ ys) → IsIn x xs ⊎ IsIn x ys
in_append_from x [] ys here = inr here
in_append_from x (y ∷ xs) ys here = elim here [ inl is ↦ inl (inl is) | inr later ↦ elim (in_append_from x xs ys later) [ inl own ↦ inl (inr own) | inr other ↦ inr other ] ]

under_in : (names : List Name) (l : Lists) (under : Scope) (e : ℕ × Option Party) → IsIn e (leavers_under names under l) → IsIn e.0 (numbers_under under l) × IsPartyIn names l.opens e.0 e.1
under_in names l under e here =
    elim (in_append_from e (leavers names l (opens_under under l)) (without_party (creates_under under l)) here) [
      | inl own ↦ (let r = leavers_in names l l (opens_under under l) (λ d there. there) e own in (in_append_left e.0 (opens_under under l) (creates_under under l) r.0, r.1))
      | inr made ↦ (let r = creates_in names l (creates_under under l) e made in (in_append_right e.0 (opens_under under l) (creates_under under l) r.0, r.1))
    ]

ends_own : (n : ℕ) (s : CoreState) (l : Lists) (conn : ℕ) (under : Scope) → is_on conn l under ≡ true → AreFit n s (ends (leavers_under s.names under l)) × AllByRecursion (IsOwn s.names conn l s.counter) (ends (leavers_under s.names under l))
ends_own n s l conn under on = (ends_fit n s (leavers_under s.names under l), ends_in s.names conn l s.counter under (leavers_under s.names under l) on (under_in s.names l under))

-- a row that is found, and passes, is among those that pass
found_in : {X : Type 0} (test : X → Bool) (es : List (ℕ × X)) (number : ℕ) (row : X) → lookup (nat_eq number) es ≡ Some row → test row ≡ true → IsIn number (keys_where test es)
found_in test [] number row at is = absurd (none_some at)
found_in test (e ∷ es) number row at is =
    elim (cases_Bool (eqb number e.0)) [
      | inl same ↦
          let this : test e.1 ≡ true = ap test (same_Some (rw same at at)) ∙ is in
          rw this (inl (equal_from number e.0 same))
      | inr apart ↦ elim (cases_Bool (test e.1)) [
        | inl k ↦ rw k (inr (found_in test es number row (rw apart at at) is))
        | inr k ↦ rw k (found_in test es number row (rw apart at at) is)
      ]
    ]

open_in : (conn number : ℕ) (l : Lists) (found : Option Open) → open_of number l ≡ found → is_open_on conn found ≡ true → IsIn number (opens_under (scope.Connection conn) l)
open_in conn number l None at is = absurd (false≢true is)
open_in conn number l (Some row) at is = found_in (λ (r : Open). covers_holder (scope.Connection conn) r.holder) l.opens number row at is

tree_from : (place : Place) (found : Option tree.Tree) → is_tree_at place found ≡ true → is_tree_on place.connection found ≡ true
tree_from place None h = absurd (false≢true h)
tree_from place (Some row) h = (and_parts (row.connection == place.connection) (row.session == place.session) h).0

place_on : (l : Lists) (client : List ℕ) (place : Place) → has_place place client l ≡ true → is_on place.connection l (scope.Tree place.tree) ≡ true
place_on l client place h = tree_from place (tree_of place.tree l) (and_parts (is_tree_at place (tree_of place.tree l)) (is_client client (client_of place.connection l)) h).0

-- ---- each command

negotiate_theirs : (n : ℕ) (s : CoreState) (l : Lists) (conn : ℕ) (c : NegotiateCallItem) → IsTheirs n s l conn (negotiate l conn c)
unfolding negotiate
negotiate_theirs n s l conn c =
    walk_refused (IsTheirs n s l conn) (λ refusal. (tt, tt)) ((not (is_fresh (connection_of conn l)), InvalidParameter) ∷ (length (dialects_of c.dialects) == 0, InvalidParameter) ∷ (not (offers c.dialects), NotSupported) ∷ [])
    (Does [] (connection_changed conn (record { client = Some c.client_guid }) l) Negotiated) (λ all. (tt, tt))

set_up_by : (n : ℕ) (s : CoreState) (l : Lists) (conn : ℕ) (room : Bool) → IsTheirs n s l conn (if room then set_up_as s l conn (s.counter + 1) else Fails InsufficientResources)
set_up_by n s l conn true = ((tt, tt), (tt, tt))
set_up_by n s l conn false = (tt, tt)

setup_by : (n : ℕ) (s : CoreState) (l : Lists) (conn id : ℕ) (new : Bool) → IsTheirs n s l conn (if new then set_up s l conn else in_session (λ session. Does [] l (SetUp id)) (session_named s l conn id))
setup_by n s l conn id true = set_up_by n s l conn (has_room_for_session l conn (s.counter + 1))
setup_by n s l conn id false = by_session (IsTheirs n s l conn) (λ number. is_session_on conn (session_of number l)) (λ session. Does [] l (SetUp id)) (number_in s id) (tt, tt) (λ k is. (tt, tt))

setup_theirs : (n : ℕ) (s : CoreState) (l : Lists) (conn : ℕ) (h : SmbHead) → IsTheirs n s l conn (session_setup s l conn h)
unfolding session_setup
setup_theirs n s l conn h = setup_by n s l conn h.session_id (h.session_id == 0)

logoff_theirs : (n : ℕ) (s : CoreState) (l : Lists) (conn : ℕ) (h : SmbHead) → IsTheirs n s l conn (logoff s l conn h)
unfolding logoff
logoff_theirs n s l conn h =
    by_session (IsTheirs n s l conn) (λ number. is_session_on conn (session_of number l)) _ (number_in s h.session_id) (tt, tt) (λ k is. ends_own n s l conn (scope.Session k) is)

connect_theirs : (n : ℕ) (s : CoreState) (l : Lists) (conn : ℕ) (h : SmbHead) (path : List ℕ) → IsTheirs n s l conn (tree_connect s l conn h path)
unfolding tree_connect
connect_theirs n s l conn h path =
    by_session (IsTheirs n s l conn) (λ number. is_session_on conn (session_of number l)) (connect s l conn path) (number_in s h.session_id) (tt, tt)
    (λ k is. walk_refused (IsTheirs n s l conn) (λ refusal. (tt, tt)) ((not (has_room_for_tree l conn (s.counter + 1)), InsufficientResources) ∷ (not (is_share path), BadNetworkName) ∷ []) (connect_as l conn k (s.counter + 1)) (λ all. ((tt, tt), (tt, tt))))

disconnect_theirs : (n : ℕ) (s : CoreState) (l : Lists) (conn : ℕ) (client : List ℕ) (h : SmbHead) → IsTheirs n s l conn (tree_disconnect s l conn client h)
unfolding tree_disconnect
disconnect_theirs n s l conn client h =
    let P = IsTheirs n s l conn in
    by_session P (λ number. is_session_on conn (session_of number l)) _ (number_in s h.session_id) (tt, tt)
    (λ k is. by_tree P (disconnect s l) _ (has_place _ client l) (tt, tt) (λ there. ends_own n s l conn (scope.Tree _) (place_on l client _ there)))

-- an ask of an open that is new, or stands under the connection
asked_own : (conn : ℕ) (l : Lists) (last number : ℕ) (row : Open) (owner party : Who) → owner ≡ who.Open number → party ≡ party_for number row → IsAskerOn conn l last number → IsRowOn conn l number row → IsAskedBy conn l last owner party
asked_own conn l last number row owner party is same on of = subst (λ (x : Who). IsAskedBy conn l last x party) (sym is) (on, row, of, same)

module _ (n : ℕ) (s : CoreState) (others : ℕ) (l : Lists) (conn : ℕ) (h : SmbHead) (client : List ℕ) (known : client_of conn l ≡ Some client) where
  opens_theirs : (place : Place) (c : CreateCallItem) (file : ℕ) → IsTheirs n s l conn (open_as s others l h client place c file (s.counter + 1))
  opens_theirs place c file =
      let row = open_row file client place c in
      let owns = open_owns place.connection (s.counter + 1) row c in
      let a = open_ask place.connection (s.counter + 1) row c in
      let fits = open_fits place.connection (s.counter + 1) row c refl in
      ((tt, (fits.fit, tt)), (tt, ((asked_own conn l s.counter (s.counter + 1) row a.owner a.party owns.0 owns.1 (inl refl) (inr known), fits.reclaim, fits.monitored), tt)))

  create_theirs : (files : List (List ℕ)) (c : CreateCallItem) → IsTheirs n s l conn (create s files others l conn client h c)
  create_theirs files c = walk_create (IsTheirs n s l conn) (λ refusal. (tt, tt)) s files others l conn client h c (λ place file on there unused room. opens_theirs place c file)

close_theirs : (n : ℕ) (s : CoreState) (l : Lists) (conn : ℕ) (client : List ℕ) (h : SmbHead) (id : FileId) → IsTheirs n s l conn (close s l conn client h id)
unfolding close
close_theirs n s l conn client h id =
    let P = IsTheirs n s l conn in
    by_session P (λ number. is_session_on conn (session_of number l)) _ (number_in s h.session_id) (tt, tt)
    (λ k is. by_tree P _ _ (has_place _ client l) (tt, tt)
    (λ there. by_open P (λ number. is_open_on conn (open_of number l)) (close_open s l) (file_number s id) (tt, tt)
    (λ number on. (
      (tt, tt),
      (
        (
          (scope.Connection conn, equal_self conn, in_append_left number (opens_under (scope.Connection conn) l) (creates_under (scope.Connection conn) l) (open_in conn number l (open_of number l) refl on)),
          going_in s.names l l number (λ e here. here),
        ),
        tt,
      ),
    ))))

-- ---- LOCK

unlock_theirs : (n : ℕ) (s : CoreState) (l : Lists) (conn number : ℕ) (row : Open) (es : List LockElement) → open_of number l ≡ Some row → IsIn number (opens_under (scope.Connection conn) l) → IsTheirs n s l conn (unlock_by l (unlocks s number row es))
unlock_theirs n s l conn number row es at there = (
  unlocks_fit n s number row es,
  unlocks_are (IsOwn s.names conn l s.counter) s number row es
      (λ e.
      let owns = unlock_owns number row e in
      let fits = unlock_fits number row e in
      (asked_own conn l s.counter number row (unlock_ask number row e).owner (unlock_ask number row e).party owns.0 owns.1 (inr there) (inl (row_in l.opens number row at)), fits.reclaim, fits.monitored)),
)

locks_theirs : (n : ℕ) (s : CoreState) (l : Lists) (conn : ℕ) (row : Waiting) (number : ℕ) (held : Open) (es : List LockElement) → lock_fault es ≡ None → 1 ≤ length es → open_of number l ≡ Some held → IsIn number (opens_under (scope.Connection conn) l)
    → IsTheirs n s l conn (Locks (lock_ask conn number held es) row)
locks_theirs n s l conn row number held es fault some at there =
    let a = lock_ask conn number held es in
    let owns = lock_owns conn number held es in
    let fits = lock_fits conn number held es fault some in
    ((fits.fit, tt), ((asked_own conn l s.counter number held a.owner a.party owns.0 owns.1 (inr there) (inl (row_in l.opens number held at)), fits.reclaim, fits.monitored), tt))

lock_theirs : (n : ℕ) (s : CoreState) (l : Lists) (conn : ℕ) (client : List ℕ) (h : SmbHead) (c : LockItem) → IsTheirs n s l conn (lock s l conn client h c)
lock_theirs n s l conn client h c =
    let es = elements_of c.elements in
    walk_lock (IsTheirs n s l conn) (λ refusal. (tt, tt)) s l conn client h c
    (λ number row at on. unlock_theirs n s l conn number row es at (open_in conn number l (Some row) at on))
    (λ place number row at on count sound. locks_theirs n s l conn (waiting_row h (place_of row.holder place) number request.Lock) number row es sound (counted (length es) count) at (open_in conn number l (Some row) at on))

-- ---- CANCEL

-- the request that is named waits under the connection
request_at : (conn id : ℕ) (l : Lists) (found : Option Waiting) → waiting_of id l ≡ found → came_by conn found ≡ true → IsIn id (waiting_under (scope.Connection conn) l)
request_at conn id l None at is = absurd (false≢true is)
request_at conn id l (Some row) at is = found_in (λ (r : Waiting). covers (scope.Connection conn) r.place) l.waiting id row at is

first_in : (conn message id : ℕ) (es : List (ℕ × Waiting)) → option_map (λ e. e.0) (find (λ e. is_message conn message e.1) es) ≡ Some id → IsIn id (keys_where (λ (r : Waiting). covers (scope.Connection conn) r.place) es)
first_in conn message id [] h = absurd (none_some h)
first_in conn message id (e ∷ es) h =
    elim (cases_Bool (is_message conn message e.1)) [
      | inl here ↦ rw (and_parts (e.1.place.connection == conn) (e.1.header.message_id == message) here).0 (inl (same_Some (rw here at h)))
      | inr other ↦ elim (cases_Bool (e.1.place.connection == conn)) [
        | inl on ↦ rw on (inr (first_in conn message id es (rw other at h)))
        | inr apart ↦ rw apart (first_in conn message id es (rw other at h))
      ]
    ]

async_in : (conn id : ℕ) (l : Lists) (number : ℕ) (small came : Bool) → came_by conn (waiting_of id l) ≡ came → (if small && came then Some id else None) ≡ Some number → IsIn number (waiting_under (scope.Connection conn) l)
async_in conn id l number true true is h = subst (λ (k : ℕ). IsIn k (waiting_under (scope.Connection conn) l)) (same_Some h) (request_at conn id l (waiting_of id l) refl is)
async_in conn id l number true false is h = absurd (none_some h)
async_in conn id l number false came is h = absurd (none_some h)

pub named_in : (conn : ℕ) (l : Lists) (message : ℕ) (route : Route) (number : ℕ) → request_named conn l message route ≡ Some number → IsIn number (waiting_under (scope.Connection conn) l)
named_in conn l message (Async id) number h = async_in conn id l number (nat_lt id (2 ^ 32)) (came_by conn (waiting_of id l)) refl h
named_in conn l message (Tree tree) number h = first_in conn message number l.waiting h

cancel_waiting : (n : ℕ) (s : CoreState) (l : Lists) (conn id : ℕ) (waits : Bool) → is_waiting id s.waiters ≡ waits → IsIn id (waiting_under (scope.Connection conn) l) → IsTheirs n s l conn (if waits then Does (Cancels id ∷ []) l Nothing else Does [] l Nothing)
cancel_waiting n s l conn id true is there = ((is, tt), (there, tt))
cancel_waiting n s l conn id false is there = (tt, tt)

cancel_theirs_by : (n : ℕ) (s : CoreState) (l : Lists) (conn : ℕ) (o : Option ℕ) → ((number : ℕ) → o ≡ Some number → IsIn number (waiting_under (scope.Connection conn) l)) → IsTheirs n s l conn (cancel_named s l o)
cancel_theirs_by n s l conn None there = (tt, tt)
cancel_theirs_by n s l conn (Some id) there = cancel_waiting n s l conn id (is_waiting id s.waiters) refl (there id refl)

cancel_theirs : (n : ℕ) (s : CoreState) (l : Lists) (conn : ℕ) (h : SmbHead) → IsTheirs n s l conn (cancel s l conn h)
unfolding cancel
cancel_theirs n s l conn h = cancel_theirs_by n s l conn (request_named conn l h.message_id h.route) (named_in conn l h.message_id h.route)

-- ---- acknowledgements

lease_own : (names : List Name) (conn : ℕ) (l : Lists) (client key : List ℕ) (party : Party) → client_of conn l ≡ Some client → party ≡ lease_party names client key → IsHolderOn names conn l party
lease_own names conn l client key party known is =
    subst (λ (p : Party). IsHolderOn names conn l p) (sym is) (subst (λ (o : Option (List ℕ)). IsLeaseOf names o (lease_party names client key)) (sym known) (key, refl))

acker_on : (s : CoreState) (l : Lists) (conn : ℕ) (client : List ℕ) (party : Party) → client_of conn l ≡ Some client → IsAcker s l conn client party → IsHolderOn s.names conn l party
acker_on s l conn client party known own =
    elim own [
      | inl one ↦ subst (λ (p : Party). IsHolderOn s.names conn l p) (sym one.2) (open_in conn one.0 l (open_of one.0 l) refl one.1)
      | inr leased ↦ lease_own s.names conn l client leased.0 party known leased.1
    ]

acknowledge_theirs : (n : ℕ) (s : CoreState) (l : Lists) (conn : ℕ) (client : List ℕ) (h : SmbHead) (b : Break) → client_of conn l ≡ Some client → IsTheirs n s l conn (acknowledge s l conn client h b)
acknowledge_theirs n s l conn client h b known =
    walk_acknowledge (IsTheirs n s l conn) (λ refusal. (tt, tt)) s l conn client (λ cache to t here may own quiet. (((here, may), tt), (acker_on s l conn client cache.party known own, tt))) h b

-- ---- a request

commanded_theirs : (n : ℕ) (s : CoreState) (files : List (List ℕ)) (others : ℕ) (l : Lists) (conn : ℕ) (h : SmbHead) (call : CallItem) (client : List ℕ) → client_of conn l ≡ Some client → IsTheirs n s l conn (commanded s files others l conn h call client)
unfolding commanded
commanded_theirs n s files others l conn h (SessionSetup c) client known = setup_theirs n s l conn h
commanded_theirs n s files others l conn h Logoff client known = logoff_theirs n s l conn h
commanded_theirs n s files others l conn h (TreeConnect path) client known = connect_theirs n s l conn h path
commanded_theirs n s files others l conn h TreeDisconnect client known = disconnect_theirs n s l conn client h
commanded_theirs n s files others l conn h (Create c) client known = create_theirs n s others l conn h client known files c
commanded_theirs n s files others l conn h (Close c) client known = close_theirs n s l conn client h c.file_id
commanded_theirs n s files others l conn h (Lock c) client known = lock_theirs n s l conn client h c
commanded_theirs n s files others l conn h Cancel client known = cancel_theirs n s l conn h
commanded_theirs n s files others l conn h Echo client known = (tt, tt)
commanded_theirs n s files others l conn h (OplockBreak b) client known = acknowledge_theirs n s l conn client h b known
commanded_theirs n s files others l conn h (Negotiate c) client known = (tt, tt)
commanded_theirs n s files others l conn h Other client known = (tt, tt)

once_theirs : (n : ℕ) (s : CoreState) (files : List (List ℕ)) (others : ℕ) (l : Lists) (conn : ℕ) (h : SmbHead) (call : CallItem) → IsTheirs n s l conn (negotiated_by (commanded s files others l conn h call) (client_of conn l))
once_theirs n s files others l conn h call = by_known (IsTheirs n s l conn) (commanded s files others l conn h call) (client_of conn l) (tt, tt) (λ client at. commanded_theirs n s files others l conn h call client at)

pub planned_theirs : (n : ℕ) (s : CoreState) (files : List (List ℕ)) (others : ℕ) (l : Lists) (conn : ℕ) (h : SmbHead) (call : CallItem) → IsTheirs n s l conn (planned s files others l conn h call)
unfolding planned
planned_theirs n s files others l conn h (Negotiate c) = negotiate_theirs n s l conn c
planned_theirs n s files others l conn h (SessionSetup c) = once_theirs n s files others l conn h (SessionSetup c)
planned_theirs n s files others l conn h Logoff = once_theirs n s files others l conn h Logoff
planned_theirs n s files others l conn h (TreeConnect path) = once_theirs n s files others l conn h (TreeConnect path)
planned_theirs n s files others l conn h TreeDisconnect = once_theirs n s files others l conn h TreeDisconnect
planned_theirs n s files others l conn h (Create c) = once_theirs n s files others l conn h (Create c)
planned_theirs n s files others l conn h (Close c) = once_theirs n s files others l conn h (Close c)
planned_theirs n s files others l conn h (Lock c) = once_theirs n s files others l conn h (Lock c)
planned_theirs n s files others l conn h Cancel = once_theirs n s files others l conn h Cancel
planned_theirs n s files others l conn h Echo = once_theirs n s files others l conn h Echo
planned_theirs n s files others l conn h (OplockBreak b) = once_theirs n s files others l conn h (OplockBreak b)
planned_theirs n s files others l conn h Other = once_theirs n s files others l conn h Other

read_theirs : (n : ℕ) (s : CoreState) (files : List (List ℕ)) (others : ℕ) (l : Lists) (conn : ℕ) (m : Result MessageItem SmbBad) → IsTheirs n s l conn (read_as s files others l conn m)
read_theirs n s files others l conn (Ok (Call h call)) = planned_theirs n s files others l conn h call
read_theirs n s files others l conn (Ok (Reply h r)) = (tt, tt)
read_theirs n s files others l conn (Ok (Told t)) = (tt, tt)
read_theirs n s files others l conn (Err fault) = (tt, tt)

pub requested_theirs : (n : ℕ) (s : CoreState) (files : List (List ℕ)) (others : ℕ) (l : Lists) (conn : ℕ) (bytes : List ℕ) (h : SmbHead) → IsTheirs n s l conn (requested s files others l conn bytes h)
unfolding requested
requested_theirs n s files others l conn bytes h =
    walk_refused (IsTheirs n s l conn) (λ refusal. (tt, tt)) ((not (h.next_command == 0), InvalidParameter) ∷ (nat_lt 18 h.command, InvalidParameter) ∷ (not (is_some (command_of h.command)), NotSupported) ∷ []) (read_as s files others l conn (message_at bytes))
    (λ all. read_theirs n s files others l conn (message_at bytes))

heard_theirs : (n : ℕ) (exports : Exports) (others : ℕ) (f : FrontSmb) (s : CoreState) (conn : ℕ) (bytes : List ℕ) (h : Option SmbHead) → AreFit n s (deeds_for n exports others f s conn bytes h) × AreOwn f s conn (deeds_for n exports others f s conn bytes h)
heard_theirs n exports others f s conn bytes None = (tt, tt)
heard_theirs n exports others f s conn bytes (Some h) = requested_theirs n s exports.files others f.state conn bytes h

pub step_takes : (n : ℕ) (exports : Exports) (others : ℕ) (f : FrontSmb) (s : CoreState) (conn : ℕ) (bytes : List ℕ) → AreFit n s (smb_deeds n exports others f s conn bytes)
unfolding smb_deeds
step_takes n exports others f s conn bytes = (heard_theirs n exports others f s conn bytes (head_heard (head_of bytes))).0

pub step_own : (n : ℕ) (exports : Exports) (others : ℕ) (f : FrontSmb) (s : CoreState) (conn : ℕ) (bytes : List ℕ) → AreOwn f s conn (smb_deeds n exports others f s conn bytes)
unfolding smb_deeds
step_own n exports others f s conn bytes = (heard_theirs n exports others f s conn bytes (head_heard (head_of bytes))).1

-- ---- the end of a connection

pub end_takes : (n : ℕ) (f : FrontSmb) (s : CoreState) (conn : ℕ) → AreFit n s (smb_end_deeds f s conn)
unfolding smb_end_deeds
end_takes n f s conn = ends_fit n s (leavers_under s.names (scope.Connection conn) f.state)

pub end_own : (f : FrontSmb) (s : CoreState) (conn : ℕ) → AreOwn f s conn (smb_end_deeds f s conn)
unfolding smb_end_deeds
end_own f s conn = (ends_own 0 s f.state conn (scope.Connection conn) (equal_self conn)).1

only_ends : (going : List (ℕ × Option Party)) → AllByRecursion (λ d. is_end d ≡ true) (ends going)
only_ends [] = tt
only_ends (e ∷ going) = (refl, only_ends going)

pub ends_alone : (f : FrontSmb) (s : CoreState) (conn : ℕ) → AllByRecursion (λ d. is_end d ≡ true) (smb_end_deeds f s conn)
unfolding smb_end_deeds
ends_alone f s conn = only_ends (leavers_under s.names (scope.Connection conn) f.state)

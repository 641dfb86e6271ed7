-- Sessions, tree connects and opens have numbers that were given out, whatever is asked, begins or ends.
use Rattle.std.proofs.Common.{◌≡◌, ℕ, ◌+◌, ◌≤◌, Bool, true, false, not, ◌&&◌, ◌||◌, if◌then◌else◌, eqb, List, [], ◌∷◌, length, Option, Some, None, is_some, Ok, Err, Result, refl, sym, subst, inl, inr, arith}
use Rattle.std.specs.Prelude.{◌==◌, nat_eq, nat_lt, nat_le}
use Rattle.std.specs.List.{AllByRecursion}
use Rattle.std.specs.Map.{keys_of, lookup, remove_entry}
use Rattle.std.proofs.lemmas.Bool.{cases_Bool, false≢true, eqb-true}
use Rattle.std.proofs.lemmas.Bool.Decides.{nat_tests}
use Rattle.xl_base.proofs.Members.{all_append, all_from, all_in, all_weaker, in_filter_from}
use Rattle.xl_base.specs.declared.journal.Exports.{Exports}
use Rattle.xl_names.specs.declared.name.Name.{Name}
use Rattle.xl_smb.specs.Calls.{CallItem, Cancel, Close, Create, Echo, Lock, Logoff, Negotiate, OplockBreak, Other, SessionSetup, TreeConnect, TreeDisconnect}
use Rattle.xl_smb.specs.Heads.{command_of, head_of}
use Rattle.xl_smb.specs.Locks.{LockItem, elements_of}
use Rattle.xl_smb.specs.Messages.{Call, MessageItem, Reply, Told, message_at}
use Rattle.xl_smb.specs.Sessions.{NegotiateCallItem, dialects_of}
use Rattle.xl_smb.specs.declared.fault.SmbBad.{SmbBad}
use Rattle.xl_smb.specs.declared.file.FileId.{FileId}
use Rattle.xl_smb.specs.declared.head.SmbHead.{SmbHead}
use Rattle.xl_smb_state.proofs.LeaseLaws.{with_keeps}
use Rattle.xl_smb_state.proofs.RowLaws.{all_removed, none_some, same_Some}
use Rattle.xl_smb_state.specs.Links.{most_connections}
use Rattle.xl_smb_state.specs.State.{Lists, client_of, closed, connection_added, connection_changed, connection_of, open_of, opens_under, session_of, sessions_on, tree_dropped, tree_of, trees_of, trees_on, waiting_dropped, waiting_of, with_open}
use Rattle.xl_smb_state.specs.declared.row.Open.{Open}
use Rattle.xl_smb_state.specs.declared.row.Request.{Request}
use Rattle.xl_smb_state.specs.declared.row.Request.TheVariants as request
use Rattle.xl_smb_state.specs.declared.row.Scope.TheVariants as scope
use Rattle.xl_smb_state.specs.declared.row.Waiting.{Waiting}
use Rattle.xl_wait.specs.Waiting.{is_waiting, no_rows}
use Rattle.xl_core.proofs.DeedLists.{deeds_good}
use Rattle.xl_core.proofs.FrameLaws.{ack_frame, ask_frame, cancel_frame, close_open_frame, drawn_frame}
use Rattle.xl_core.proofs.GoodLaws.{drawn_good}
use Rattle.xl_core.specs.Decide.{ask}
use Rattle.xl_core.specs.Deeds.{Acks, Advances, AreFit, Asks, Cancels, Closes, Deed, Draws, Ends, EndsGrace, Expires, FailsStore, GivesBack, IsFitDeed, Lapses, Renews, Serves, Weakens, all_done, done}
use Rattle.xl_core.specs.Good.{IsGood}
use Rattle.xl_core.specs.State.{CoreState, drawn}
use Rattle.xl_core.specs.declared.ask.Answer.{Answer}
use Rattle.xl_core.specs.declared.ask.Answer.TheVariants as answers
use Rattle.xl_core.specs.declared.ask.Effect.{Effect}
use Rattle.xl_core.specs.declared.ask.Effect.TheVariants as effects
use Rattle.xl_smb_locks.specs.Finals.{concluded, dismissed, ended_with, is_cancelled, may_stand, refusal_of, request_ended, request_served, served_with, stood, succeeded, told_of}
use Rattle.xl_smb_locks.specs.Locks.{lock_told, unlocks}
use Rattle.xl_smb_locks.specs.declared.locking.Locking.{Locking}
use Rattle.xl_smb_locks.specs.declared.locking.Locking.TheVariants as locking
use Rattle.xl_smb_locks.specs.declared.status.SmbStatus.{SmbStatus}
use Rattle.xl_smb_locks.specs.declared.status.SmbStatus.TheVariants as status
use Rattle.xl_front_smb.specs.Checks.{file_number, is_fresh, is_open_on, kept_if, negotiated_by, open_named, session_named}
use Rattle.xl_front_smb.specs.Ending.{all_closed, all_ended, ends, leavers_under, party_going, connection_gone, requests_gone, session_gone, sessions_gone, smb_end, trees_dropped}
use Rattle.xl_front_smb.specs.Files.{all_opens, close, close_open, has_room_for_open}
use Rattle.xl_front_smb.specs.FrontSmb.{head_heard, plan_for, smb_shown, smb_step, stepped}
use Rattle.xl_front_smb.specs.Locks.{cancel, cancel_named, lock, request_named}
use Rattle.xl_front_smb.specs.Owners.{IsOwn}
use Rattle.xl_front_smb.specs.Plans.{Does, Fails, Locks, Opens, Plan, carried, has_room_to_wait, lists_as, opened_lists, told_as, with_waiting}
use Rattle.xl_front_smb.specs.Requests.{commanded, planned, read_as, requested}
use Rattle.xl_front_smb.specs.Sessions.{connect, connect_as, disconnect, has_room_for_session, has_room_for_tree, logoff, negotiate, offers, session_setup, set_up_as, tree_connect, tree_disconnect}
use Rattle.xl_front_smb.specs.State.{FrontSmb, empty_smb_front, smb_begin}
use Rattle.xl_front_smb.specs.Texts.{is_share}
use Rattle.xl_front_smb.specs.declared.told.Told.{Told as Answered}
use Rattle.xl_front_smb.specs.declared.told.Told.TheVariants as told
use Rattle.xl_smb_laws.specs.Beginnings.{AreNumbered}
use Rattle.xl_smb_laws.proofs.PlanWalks.{by_open, walk_acknowledge, walk_client, walk_created, walk_if, walk_lock, walk_refused, walk_session, walk_tree}
use Rattle.xl_smb_laws.proofs.RequestOwn.{IsTheirs, requested_theirs}

-- ---- what has no number

nothing_at : {X : Type 0} (last : ℕ) (es : List (ℕ × X)) → AllByRecursion (λ e. e.0 ≤ last) es → lookup (nat_eq (last + 1)) es ≡ None
nothing_at last [] all = refl
nothing_at last (e ∷ es) all =
    let other : eqb (last + 1) e.0 ≡ false = after last e.0 all.0 in
    rw other (nothing_at last es all.1)
  where
    after : (last k : ℕ) → k ≤ last → eqb (last + 1) k ≡ false
    after last k le = grind (arith, nat_tests)

pub no_session : (s : CoreState) (l : Lists) → AreNumbered s.counter l → session_of (s.counter + 1) l ≡ None
no_session s l numbered = nothing_at s.counter l.sessions numbered.sessions

pub no_tree : (s : CoreState) (l : Lists) → AreNumbered s.counter l → tree_of (s.counter + 1) l ≡ None
no_tree s l numbered = nothing_at s.counter l.trees numbered.trees

pub no_open : (s : CoreState) (l : Lists) → AreNumbered s.counter l → open_of (s.counter + 1) l ≡ None
no_open s l numbered = nothing_at s.counter l.opens numbered.opens

free_and : {X : Type 0} (few : Bool) (o : Option X) → o ≡ None → (few && not (is_some o)) ≡ few
free_and true None none = refl
free_and false None none = refl
free_and few (Some x) none = absurd (none_some (sym none))

pub session_room : (s : CoreState) (l : Lists) (conn : ℕ) → AreNumbered s.counter l → has_room_for_session l conn (s.counter + 1) ≡ nat_lt (length (sessions_on conn l)) 16
session_room s l conn numbered = free_and (nat_lt (length (sessions_on conn l)) 16) (session_of (s.counter + 1) l) (no_session s l numbered)

pub tree_room : (s : CoreState) (l : Lists) (conn : ℕ) → AreNumbered s.counter l → has_room_for_tree l conn (s.counter + 1) ≡ nat_lt (length (trees_on conn l)) 16
tree_room s l conn numbered = free_and (nat_lt (length (trees_on conn l)) 16) (tree_of (s.counter + 1) l) (no_tree s l numbered)

pub open_room : (s : CoreState) (l : Lists) (others : ℕ) → AreNumbered s.counter l → has_room_for_open others l (s.counter + 1) ≡ nat_lt (all_opens others l) 4096
open_room s l others numbered = free_and (nat_lt (all_opens others l) 4096) (open_of (s.counter + 1) l) (no_open s l numbered)

-- what is named as an open is there
there_on : (conn : ℕ) (o : Option Open) → is_open_on conn o ≡ true → (row : Open) × (o ≡ Some row)
there_on conn None on = absurd (false≢true on)
there_on conn (Some row) on = (row, refl)

kept_there : (conn number k : ℕ) (l : Lists) (b : Bool) → is_open_on conn (open_of k l) ≡ b → (if b then Some k else None) ≡ Some number → (row : Open) × (open_of number l ≡ Some row)
kept_there conn number k l true on at = there_on conn (open_of number l) (subst (λ (j : ℕ). is_open_on conn (open_of j l) ≡ true) (same_Some at) on)
kept_there conn number k l false on at = absurd (none_some at)

named_by : (conn number : ℕ) (l : Lists) (o : Option ℕ) → kept_if (λ k. is_open_on conn (open_of k l)) o ≡ Some number → (row : Open) × (open_of number l ≡ Some row)
named_by conn number l None at = absurd (none_some at)
named_by conn number l (Some k) at = kept_there conn number k l (is_open_on conn (open_of k l)) refl at

pub named_there : (s : CoreState) (l : Lists) (conn number : ℕ) (id : FileId) → open_named s l conn id ≡ Some number → (row : Open) × (open_of number l ≡ Some row)
named_there s l conn number id at = named_by conn number l (file_number s id) at

-- ---- lists

keys_later : {X : Type 0} (last more : ℕ) (es : List (ℕ × X)) → last ≤ more → AllByRecursion (λ e. e.0 ≤ last) es → AllByRecursion (λ e. e.0 ≤ more) es
keys_later {X = X} last more es le all = all_weaker (λ (e : ℕ × X). e.0 ≤ last) (λ (e : ℕ × X). e.0 ≤ more) es (λ e h. omega (arith, le, h)) all

pub later_numbered : (last more : ℕ) (l : Lists) → last ≤ more → AreNumbered last l → AreNumbered more l
later_numbered last more l le numbered = record {
  sessions = keys_later last more l.sessions le numbered.sessions;
  trees = keys_later last more l.trees le numbered.trees;
  opens = keys_later last more l.opens le numbered.opens;
  waiting = all_weaker (λ (e : ℕ × Waiting). e.1.opened ≤ last) (λ (e : ℕ × Waiting). e.1.opened ≤ more) l.waiting (λ e h. omega (arith, le, h)) numbered.waiting;
}

keys_removed : {X : Type 0} (last : ℕ) (t : ℕ → Bool) (es : List (ℕ × X)) → AllByRecursion (λ e. e.0 ≤ last) es → AllByRecursion (λ e. e.0 ≤ last) (remove_entry t es)
keys_removed {X = X} last t es all = all_removed (λ (e : ℕ × X). e.0 ≤ last) t es all

closed_numbered : (last number : ℕ) (l : Lists) → AreNumbered last l → AreNumbered last (closed number l)
closed_numbered last number l numbered = record { sessions = numbered.sessions; trees = numbered.trees; opens = keys_removed last (nat_eq number) l.opens numbered.opens; waiting = numbered.waiting }

all_closed_numbered : (last : ℕ) (numbers : List ℕ) (l : Lists) → AreNumbered last l → AreNumbered last (all_closed numbers l)
all_closed_numbered last [] l numbered = numbered
all_closed_numbered last (number ∷ numbers) l numbered = all_closed_numbered last numbers (closed number l) (closed_numbered last number l numbered)

tree_numbered : (last number : ℕ) (l : Lists) → AreNumbered last l → AreNumbered last (tree_dropped number l)
tree_numbered last number l numbered = record { sessions = numbered.sessions; trees = keys_removed last (nat_eq number) l.trees numbered.trees; opens = numbered.opens; waiting = numbered.waiting }

trees_numbered : (last : ℕ) (numbers : List ℕ) (l : Lists) → AreNumbered last l → AreNumbered last (trees_dropped numbers l)
trees_numbered last [] l numbered = numbered
trees_numbered last (number ∷ numbers) l numbered = trees_numbered last numbers (tree_dropped number l) (tree_numbered last number l numbered)

session_numbered : (last number : ℕ) (l : Lists) → AreNumbered last l → AreNumbered last (session_gone number l)
unfolding session_gone
session_numbered last number l numbered =
    let m : AreNumbered last (trees_dropped (trees_of number l) l) = trees_numbered last (trees_of number l) l numbered in
    record { sessions = keys_removed last (nat_eq number) (trees_dropped (trees_of number l) l).sessions m.sessions; trees = m.trees; opens = m.opens; waiting = m.waiting }

sessions_numbered : (last : ℕ) (numbers : List ℕ) (l : Lists) → AreNumbered last l → AreNumbered last (sessions_gone numbers l)
sessions_numbered last [] l numbered = numbered
sessions_numbered last (number ∷ numbers) l numbered = sessions_numbered last numbers (session_gone number l) (session_numbered last number l numbered)

gone_numbered : (last conn : ℕ) (l : Lists) → AreNumbered last l → AreNumbered last (connection_gone conn l)
unfolding connection_gone
gone_numbered last conn l numbered =
    let m : AreNumbered last (sessions_gone (sessions_on conn l) l) = sessions_numbered last (sessions_on conn l) l numbered in
    record { sessions = m.sessions; trees = m.trees; opens = m.opens; waiting = m.waiting }

requests_numbered : (last conn : ℕ) (l : Lists) → AreNumbered last l → AreNumbered last (requests_gone conn l)
requests_numbered last conn l numbered = record {
  sessions = numbered.sessions;
  trees = numbered.trees;
  opens = numbered.opens;
  waiting = all_from (λ (e : ℕ × Waiting). e.1.opened ≤ last) (requests_gone conn l).waiting (λ e here. all_in (λ (x : ℕ × Waiting). x.1.opened ≤ last) e l.waiting numbered.waiting (in_filter_from (λ x. not (eqb x.1.place.connection conn)) e l.waiting here).0);
}

dropped_numbered : (last id : ℕ) (l : Lists) → AreNumbered last l → AreNumbered last (waiting_dropped id l)
dropped_numbered last id l numbered = record { sessions = numbered.sessions; trees = numbered.trees; opens = numbered.opens; waiting = all_removed (λ (e : ℕ × Waiting). e.1.opened ≤ last) (nat_eq id) l.waiting numbered.waiting }

ended_numbered : (last id : ℕ) (refusal : SmbStatus) (l : Lists) → AreNumbered last l → AreNumbered last (request_ended id refusal l).1
unfolding request_ended
ended_numbered last id refusal l numbered = by (waiting_of id l)
  where
    by : (o : Option Waiting) → AreNumbered last (ended_with id refusal o l).1
    by None = numbered
    by (Some row) = dropped_numbered last id l numbered

dismissed_numbered : (last : ℕ) (heard : List Effect) (ids : List ℕ) (l : Lists) → AreNumbered last l → AreNumbered last (dismissed heard ids l).1
dismissed_numbered last heard [] l numbered = numbered
dismissed_numbered last heard (id ∷ ids) l numbered =
    elim (cases_Bool (is_cancelled id heard)) [
      | inl e ↦ rw e (dismissed_numbered last heard ids (request_ended id status.Cancelled l).1 (ended_numbered last id status.Cancelled l numbered))
      | inr e ↦ rw e (dismissed_numbered last heard ids l numbered)
    ]

opened_numbered : (last number : ℕ) (row : Open) (l : Lists) → number ≤ last → AreNumbered last l → AreNumbered last (with_open number row l)
opened_numbered last number row l le numbered =
    subst (AreNumbered last) (sym (with_keeps number row l))
    (record { sessions = numbered.sessions; trees = numbered.trees; opens = all_append (λ (e : ℕ × Open). e.0 ≤ last) l.opens ((number, row) ∷ []) numbered.opens (le, tt); waiting = numbered.waiting })

waits_numbered : (last id : ℕ) (row : Waiting) (l : Lists) → row.opened ≤ last → AreNumbered last l → AreNumbered last (with_waiting id row l)
waits_numbered last id row l le numbered =
    elim (cases_Bool (has_room_to_wait l id)) [
      | inl e ↦ rw e (record { sessions = numbered.sessions; trees = numbered.trees; opens = numbered.opens; waiting = all_append (λ (x : ℕ × Waiting). x.1.opened ≤ last) l.waiting ((id, row) ∷ []) numbered.waiting (le, tt) })
      | inr e ↦ rw e numbered
    ]

-- ---- numbers that deeds give out

abbrev deed_draws : Deed → ℕ
deed_draws Draws = 1
deed_draws deed = 0

abbrev draws : List Deed → ℕ
draws [] = 0
draws (d ∷ ds) = deed_draws d + draws ds

deed_rises : (n : ℕ) (s : CoreState) (names : List Name) (conn : ℕ) (l : Lists) (last : ℕ) (d : Deed) → IsGood s → IsFitDeed s d → IsOwn names conn l last d → s.counter + deed_draws d ≤ (done n s d).counter
deed_rises n s names conn l last Draws good fit own = (let frame = drawn_frame s in omega (arith, frame.counter))
deed_rises n s names conn l last (Asks left a) good fit own = (let frame = ask_frame n left s a good fit.party in omega (arith, frame.counter))
deed_rises n s names conn l last (Closes number party) good fit own = (let frame = close_open_frame s number party good in omega (arith, frame.counter))
deed_rises n s names conn l last (Acks cache to) good fit own = (let frame = ack_frame s cache to in omega (arith, frame.counter))
deed_rises n s names conn l last (Cancels id) good fit own = (let frame = cancel_frame s id fit in omega (arith, frame.counter))
deed_rises n s names conn l last (GivesBack claim) good fit own = absurd own
deed_rises n s names conn l last (Weakens share access deny) good fit own = absurd own
deed_rises n s names conn l last (Ends party) good fit own = absurd own
deed_rises n s names conn l last (Serves left) good fit own = absurd own
deed_rises n s names conn l last (Advances now) good fit own = absurd own
deed_rises n s names conn l last (Lapses cache) good fit own = absurd own
deed_rises n s names conn l last (Renews id) good fit own = absurd own
deed_rises n s names conn l last (Expires id) good fit own = absurd own
deed_rises n s names conn l last (FailsStore stable) good fit own = absurd own
deed_rises n s names conn l last EndsGrace good fit own = absurd own

pub deeds_rise : (n : ℕ) (s : CoreState) (names : List Name) (conn : ℕ) (l : Lists) (last : ℕ) (ds : List Deed) → IsGood s → AreFit n s ds → AllByRecursion (IsOwn names conn l last) ds → s.counter + draws ds ≤ (all_done n s ds).counter
deeds_rise n s names conn l last [] good fit own = omega arith
deeds_rise n s names conn l last (d ∷ ds) good fit own =
    let one = deed_rises n s names conn l last d good fit.0 own.0 in
    let rest = deeds_rise n (done n s d) names conn l last ds (deeds_good n s (d ∷ []) good (fit.0, tt)) fit.1 own.1 in
    omega (arith, one, rest)

-- ---- plans

-- what is kept of it has numbers that were given out, once its deeds gave out some
abbrev Numbers : ℕ → Plan → Type 0
Numbers last (Fails refusal) = Unit {0}
Numbers last (Does deeds lists t) = AreNumbered (last + draws deeds) lists
Numbers last (Opens left a number row id waiting) = (number ≤ last + 1) × (waiting.opened ≤ last + 1)
Numbers last (Locks a row) = row.opened ≤ last

does_numbers : (last : ℕ) (deeds : List Deed) (lists : Lists) (t : Answered) → AreNumbered last lists → Numbers last (Does deeds lists t)
does_numbers last deeds lists t numbered = later_numbered last (last + draws deeds) lists (omega arith) numbered

open_answered : (last number : ℕ) (row : Open) (waiting : Waiting) (l : Lists) (answer : Answer) → number ≤ last → waiting.opened ≤ last → AreNumbered last l → AreNumbered last (opened_lists l number row waiting answer)
open_answered last number row waiting l (answers.Granted c) le opened numbered = opened_numbered last number row l le numbered
open_answered last number row waiting l (answers.Queued id) le opened numbered = waits_numbered last id waiting l opened numbered
open_answered last number row waiting l (answers.Conflict c) le opened numbered = numbered
open_answered last number row waiting l (answers.Recall c) le opened numbered = numbered
open_answered last number row waiting l (answers.Grace until) le opened numbered = numbered
open_answered last number row waiting l (answers.NoGrace clock) le opened numbered = numbered
open_answered last number row waiting l answers.NotRecorded le opened numbered = numbered
open_answered last number row waiting l (answers.Full limit) le opened numbered = numbered
open_answered last number row waiting l answers.NotHeld le opened numbered = numbered
open_answered last number row waiting l answers.StoreFailed le opened numbered = numbered

lock_answered : (last : ℕ) (row : Waiting) (l : Lists) (r : Locking) → row.opened ≤ last → AreNumbered last l → AreNumbered last (lists_as row l r)
lock_answered last row l locking.Done le numbered = numbered
lock_answered last row l (locking.Failed refusal) le numbered = numbered
lock_answered last row l (locking.Waits id) le numbered = waits_numbered last id row l le numbered

-- numbers are given out on from there, and what is kept has some
abbrev StaysNumbered : CoreState → CoreState → Lists → Type 0
StaysNumbered s t l = (s.counter ≤ t.counter) × AreNumbered t.counter l

carried_numbered : (n : ℕ) (s : CoreState) (l : Lists) (conn : ℕ) (plan : Plan) → IsGood s → IsTheirs n s l conn plan → AreNumbered s.counter l → Numbers s.counter plan → StaysNumbered s (carried n s l plan).3 (carried n s l plan).2
carried_numbered n s l conn (Fails refusal) good own numbered few = (omega arith, numbered)
carried_numbered n s l conn (Does deeds lists t) good own numbered few =
    let up = deeds_rise n s s.names conn l s.counter deeds good own.0 own.1 in
    (omega (arith, up), later_numbered (s.counter + draws deeds) (all_done n s deeds).counter lists up few)
carried_numbered n s l conn (Opens left a number row id waiting) good own numbered few =
    let t : CoreState = drawn s in
    let r = ask n left t a in
    let first = drawn_frame s in
    let frame = ask_frame n left t a (drawn_good s good) own.0.1.0.party in
    let up : s.counter + 1 ≤ r.2.counter = omega (arith, first.counter, frame.counter) in
    (omega (arith, up), open_answered r.2.counter number row waiting l r.0 (omega (arith, up, few.0)) (omega (arith, up, few.1)) (later_numbered s.counter r.2.counter l (omega (arith, up)) numbered))
carried_numbered n s l conn (Locks a row) good own numbered few =
    let r = ask n no_rows s a in
    let frame = ask_frame n no_rows s a good own.0.0.party in
    let up : s.counter ≤ r.2.counter = omega (arith, frame.counter) in
    (up, lock_answered r.2.counter row l (lock_told r.0) (omega (arith, up, few)) (later_numbered s.counter r.2.counter l up numbered))

-- ---- each command

key_given : (last number : ℕ) (es : List (ℕ × Open)) (row : Open) → AllByRecursion (λ e. e.0 ≤ last) es → lookup (nat_eq number) es ≡ Some row → number ≤ last
key_given last number [] row all at = absurd (none_some at)
key_given last number (e ∷ es) row all at =
    elim (cases_Bool (eqb number e.0)) [
      | inl same ↦ (let is = eqb-true number e.0 same in subst (λ (k : ℕ). k ≤ last) (sym is) all.0)
      | inr other ↦ key_given last number es row all.1 (rw other at at)
    ]

module _ (s : CoreState) (files : List (List ℕ)) (others : ℕ) (l : Lists) (conn : ℕ) (h : SmbHead) (numbered : AreNumbered s.counter l) where
  abbrev P : Plan → Type 0
  P plan = Numbers s.counter plan

  abbrev stop : (refusal : SmbStatus) → P (Fails refusal)
  stop refusal = tt

  negotiate_numbers : (c : NegotiateCallItem) → P (negotiate l conn c)
  unfolding negotiate
  negotiate_numbers c =
      let lists : Lists = connection_changed conn (record { client = Some c.client_guid }) l in
      walk_refused P stop ((not (is_fresh (connection_of conn l)), status.InvalidParameter) ∷ (length (dialects_of c.dialects) == 0, status.InvalidParameter) ∷ (not (offers c.dialects), status.NotSupported) ∷ [])
      (Does [] lists told.Negotiated) (λ all. does_numbers s.counter [] lists told.Negotiated (record { sessions = numbered.sessions; trees = numbered.trees; opens = numbered.opens; waiting = numbered.waiting }))

  same_numbers : (deeds : List Deed) (t : Answered) → P (Does deeds l t)
  same_numbers deeds t = does_numbers s.counter deeds l t numbered

  setup_begins : (number : ℕ) → number ≤ s.counter + 1 → P (set_up_as s l conn number)
  setup_begins number le =
      let up : AreNumbered (s.counter + 1) l = later_numbered s.counter (s.counter + 1) l (omega arith) numbered in
      record { sessions = all_append (λ e. e.0 ≤ s.counter + 1) l.sessions ((number, record { connection = conn }) ∷ []) up.sessions (le, tt); trees = up.trees; opens = up.opens; waiting = up.waiting }

  setup_numbers : (new : Bool) → h.session_id == 0 ≡ new → P (session_setup s l conn h)
  unfolding session_setup
  setup_numbers true is = rw is (walk_if P stop (has_room_for_session l conn (s.counter + 1)) status.InsufficientResources (set_up_as s l conn (s.counter + 1)) (setup_begins (s.counter + 1) (omega arith)))
  setup_numbers false is = rw is (walk_session P stop (λ session. Does [] l (told.SetUp h.session_id)) (session_named s l conn h.session_id) (λ session. same_numbers [] (told.SetUp h.session_id)))

  logoff_numbers : P (logoff s l conn h)
  unfolding logoff
  logoff_numbers =
      walk_session P stop _ (session_named s l conn h.session_id)
      (λ session. does_numbers s.counter (ends (leavers_under s.names (scope.Session session) l)) (session_gone session (all_closed (opens_under (scope.Session session) l) l)) told.LoggedOff (session_numbered s.counter session (all_closed (opens_under (scope.Session session) l) l) (all_closed_numbered s.counter (opens_under (scope.Session session) l) l numbered)))

  connect_begins : (session number : ℕ) → number ≤ s.counter + 1 → P (connect_as l conn session number)
  connect_begins session number le =
      let up : AreNumbered (s.counter + 1) l = later_numbered s.counter (s.counter + 1) l (omega arith) numbered in
      record { sessions = up.sessions; trees = all_append (λ e. e.0 ≤ s.counter + 1) l.trees ((number, record { connection = conn; session = session }) ∷ []) up.trees (le, tt); opens = up.opens; waiting = up.waiting }

  connect_numbers : (path : List ℕ) → P (tree_connect s l conn h path)
  unfolding tree_connect
  connect_numbers path =
      walk_session P stop (connect s l conn path) (session_named s l conn h.session_id)
      (λ session. walk_refused P stop ((not (has_room_for_tree l conn (s.counter + 1)), status.InsufficientResources) ∷ (not (is_share path), status.BadNetworkName) ∷ []) (connect_as l conn session (s.counter + 1)) (λ all. connect_begins session (s.counter + 1) (omega arith)))

  disconnect_numbers : (client : List ℕ) → P (tree_disconnect s l conn client h)
  unfolding tree_disconnect
  disconnect_numbers client =
      walk_session P stop _ (session_named s l conn h.session_id)
      (λ session. walk_tree P stop l conn session client h (disconnect s l)
      (λ place here there. does_numbers s.counter (ends (leavers_under s.names (scope.Tree place.tree) l)) (tree_dropped place.tree (all_closed (opens_under (scope.Tree place.tree) l) l)) told.Disconnected (tree_numbered s.counter place.tree (all_closed (opens_under (scope.Tree place.tree) l) l) (all_closed_numbered s.counter (opens_under (scope.Tree place.tree) l) l numbered))))

  close_numbers : (client : List ℕ) (id : FileId) → P (close s l conn client h id)
  unfolding close
  close_numbers client id =
      walk_session P stop _ (session_named s l conn h.session_id)
      (λ session. walk_tree P stop l conn session client h _ (λ place here there. by_open P (λ number. is_open_on conn (open_of number l)) (close_open s l) (file_number s id) tt (λ number on. does_numbers s.counter (Closes number (party_going s.names l number) ∷ []) (closed number l) told.Closed (closed_numbered s.counter number l numbered))))

  cancel_numbers : (o : Option ℕ) → P (cancel_named s l o)
  cancel_numbers None = same_numbers [] told.Nothing
  cancel_numbers (Some id) =
      elim (cases_Bool (is_waiting id s.waiters)) [
        | inl e ↦ rw e (same_numbers (Cancels id ∷ []) told.Nothing)
        | inr e ↦ rw e (same_numbers [] told.Nothing)
      ]

  lock_numbers : (c : LockItem) (client : List ℕ) → P (lock s l conn client h c)
  lock_numbers c client = walk_lock P stop s l conn client h c (λ number row at on. same_numbers (unlocks s number row (elements_of c.elements)).0 (told_as (unlocks s number row (elements_of c.elements)).1)) (λ place number row at on count fault. key_given s.counter number l.opens row numbered.opens at)

  once_numbers : (call : CallItem) → ((client : List ℕ) → P (commanded s files others l conn h call client)) → P (negotiated_by (commanded s files others l conn h call) (client_of conn l))
  once_numbers call rest = walk_client P stop (commanded s files others l conn h call) (client_of conn l) rest

  planned_numbers : (call : CallItem) → P (planned s files others l conn h call)
  unfolding planned commanded cancel
  planned_numbers (Negotiate c) = negotiate_numbers c
  planned_numbers (SessionSetup c) = once_numbers (SessionSetup c) (λ client. setup_numbers (h.session_id == 0) refl)
  planned_numbers Logoff = once_numbers Logoff (λ client. logoff_numbers)
  planned_numbers (TreeConnect path) = once_numbers (TreeConnect path) (λ client. connect_numbers path)
  planned_numbers TreeDisconnect = once_numbers TreeDisconnect (λ client. disconnect_numbers client)
  planned_numbers (Create c) = walk_created P stop s files others l conn h c (λ client place file here. (omega arith, omega arith))
  planned_numbers (Close c) = once_numbers (Close c) (λ client. close_numbers client c.file_id)
  planned_numbers (Lock c) = once_numbers (Lock c) (λ client. lock_numbers c client)
  planned_numbers Cancel = once_numbers Cancel (λ client. cancel_numbers (request_named conn l h.message_id h.route))
  planned_numbers Echo = once_numbers Echo (λ client. same_numbers [] told.Echoed)
  planned_numbers (OplockBreak b) = once_numbers (OplockBreak b) (λ client. walk_acknowledge P stop s l conn client (λ cache to t here may own quiet. same_numbers (Acks cache to ∷ []) t) h b)
  planned_numbers Other = once_numbers Other (λ client. tt)

  read_numbers : (m : Result MessageItem SmbBad) → ((call : CallItem) (head : SmbHead) → P (planned s files others l conn head call)) → P (read_as s files others l conn m)
  read_numbers (Ok (Call head call)) each = each call head
  read_numbers (Ok (Reply head r)) each = tt
  read_numbers (Ok (Told t)) each = tt
  read_numbers (Err fault) each = tt

requested_numbers : (s : CoreState) (files : List (List ℕ)) (others : ℕ) (l : Lists) (conn : ℕ) (bytes : List ℕ) (h : SmbHead) → AreNumbered s.counter l → Numbers s.counter (requested s files others l conn bytes h)
unfolding requested
requested_numbers s files others l conn bytes h numbered =
    walk_refused (Numbers s.counter) (λ refusal. tt) ((not (h.next_command == 0), status.InvalidParameter) ∷ (nat_lt 18 h.command, status.InvalidParameter) ∷ (not (is_some (command_of h.command)), status.NotSupported) ∷ []) (read_as s files others l conn (message_at bytes))
    (λ all. read_numbers s files others l conn h numbered (message_at bytes) (λ call head. planned_numbers s files others l conn head numbered call))

-- ---- a message, a start, an effect, an end

heard_numbered : (n : ℕ) (exports : Exports) (others : ℕ) (f : FrontSmb) (s : CoreState) (conn : ℕ) (bytes : List ℕ) (h : Option SmbHead) → IsGood s → AreNumbered s.counter f.state → StaysNumbered s (stepped n exports others f s conn bytes h).3 (stepped n exports others f s conn bytes h).2.state
heard_numbered n exports others f s conn bytes None good numbered = (omega arith, numbered)
heard_numbered n exports others f s conn bytes (Some h) good numbered =
    let plan : Plan = plan_for exports others f s conn bytes h in
    let r = carried n s f.state plan in
    let stays = carried_numbered n s f.state conn plan good (requested_theirs n s exports.files others f.state conn bytes h) numbered (requested_numbers s exports.files others f.state conn bytes h numbered) in
    (stays.0, dismissed_numbered r.3.counter r.1 (keys_of r.2.waiting) r.2 stays.1)

pub step_numbered : (n : ℕ) (exports : Exports) (others : ℕ) (f : FrontSmb) (s : CoreState) (conn : ℕ) (bytes : List ℕ) → IsGood s → AreNumbered s.counter f.state → StaysNumbered s (smb_step n exports others f s conn bytes).3 (smb_step n exports others f s conn bytes).2.state
unfolding smb_step
step_numbered n exports others f s conn bytes good numbered = heard_numbered n exports others f s conn bytes (head_heard (head_of bytes)) good numbered

pub start_numbered : (last : ℕ) → AreNumbered last empty_smb_front.state
start_numbered last = record { sessions = tt; trees = tt; opens = tt; waiting = tt }

pub begun_numbered : (last : ℕ) (f : FrontSmb) (conn : ℕ) → AreNumbered last f.state → AreNumbered last (smb_begin f conn).state
unfolding smb_begin
begun_numbered last f conn numbered = by (is_some (connection_of conn f.state) || nat_le most_connections (length f.state.connections))
  where
    by : (b : Bool) → AreNumbered last (if b then f.state else connection_added conn (record { client = None }) f.state)
    by true = numbered
    by false = record { sessions = numbered.sessions; trees = numbered.trees; opens = numbered.opens; waiting = numbered.waiting }

row_given : (last id : ℕ) (es : List (ℕ × Waiting)) (row : Waiting) → AllByRecursion (λ e. e.1.opened ≤ last) es → lookup (nat_eq id) es ≡ Some row → row.opened ≤ last
row_given last id [] row all at = absurd (none_some at)
row_given last id (e ∷ es) row all at =
    elim (cases_Bool (eqb id e.0)) [
      | inl same ↦ subst (λ (w : Waiting). w.opened ≤ last) (same_Some (rw same at at)) all.0
      | inr other ↦ row_given last id es row all.1 (rw other at at)
    ]

stood_numbered : (last : ℕ) (s : CoreState) (row : Waiting) (made : Open) (stands : Bool) (l : Lists) → row.opened ≤ last → AreNumbered last l → AreNumbered last (stood s row made stands l).1
stood_numbered last s row made true l le numbered = opened_numbered last row.opened made l le numbered
stood_numbered last s row made false l le numbered = numbered

succeeded_numbered : (last : ℕ) (s : CoreState) (row : Waiting) (r : Request) (l : Lists) → row.opened ≤ last → AreNumbered last l → AreNumbered last (succeeded s row r l).1
succeeded_numbered last s row (request.Create made) l le numbered = stood_numbered last s row made (may_stand row.opened made l) l le numbered
succeeded_numbered last s row request.Lock l le numbered = numbered

concluded_numbered : (last : ℕ) (s : CoreState) (row : Waiting) (refused : Option SmbStatus) (l : Lists) → row.opened ≤ last → AreNumbered last l → AreNumbered last (concluded s row refused l).1
concluded_numbered last s row None l le numbered = succeeded_numbered last s row row.request l le numbered
concluded_numbered last s row (Some refusal) l le numbered = numbered

served_numbered : (last : ℕ) (s : CoreState) (id : ℕ) (answer : Answer) (l : Lists) → AreNumbered last l → AreNumbered last (request_served s id answer l).1
unfolding request_served
served_numbered last s id answer l numbered = by (waiting_of id l) refl
  where
    by : (o : Option Waiting) → waiting_of id l ≡ o → AreNumbered last (served_with s id answer o l).1
    by None at = numbered
    by (Some row) at = concluded_numbered last s row (refusal_of answer row.request) (waiting_dropped id l) (row_given last id l.waiting row numbered.waiting at) (dropped_numbered last id l numbered)

pub shown_numbered : (last : ℕ) (f : FrontSmb) (s : CoreState) (effect : Effect) → AreNumbered last f.state → AreNumbered last (smb_shown f s effect).1.state
unfolding smb_shown told_of
shown_numbered last f s (effects.Begun claim to number) numbered = numbered
shown_numbered last f s (effects.Served party id answer) numbered = served_numbered last s id answer f.state numbered
shown_numbered last f s (effects.Cancelled party id) numbered = numbered
shown_numbered last f s (effects.Expired client) numbered = numbered

pub end_numbered : (last : ℕ) (f : FrontSmb) (s : CoreState) (conn : ℕ) → AreNumbered last f.state → AreNumbered last (smb_end f s conn).1.state
unfolding smb_end
end_numbered last f s conn numbered =
    let numbers : List ℕ = opens_under (scope.Connection conn) f.state in
    let m : Lists = all_closed numbers f.state in
    let left : Lists = requests_gone conn (connection_gone conn m) in
    dismissed_numbered last (all_ended (leavers_under s.names (scope.Connection conn) f.state) s).0 (keys_of left.waiting) left (requests_numbered last conn (connection_gone conn m) (gone_numbered last conn m (all_closed_numbered last numbers f.state numbered)))

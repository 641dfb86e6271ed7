-- Each ask of a request is of the operation that makes it.
use Rattle.std.proofs.Common.{◌≡◌, ℕ, Bool, true, false, List, [], ◌∷◌, ◌++◌, Option, Some, None, Result, Ok, Err, refl, ap, subst, ◌∙◌, inl, inr}
use Rattle.std.proofs.lemmas.Bool.{cases_Bool}
use Rattle.std.specs.Bool.{◌==◌}
use Rattle.std.specs.List.{AllByRecursion, filter, find}
use Rattle.std.specs.Option.{option_and_then}
use Rattle.std.specs.Prelude.{◌||◌, ◌⊎◌, if◌then◌else◌, length}
use Rattle.std.proofs.lemmas.Option.{same_Some}
use Rattle.xl_base.proofs.Members.{all_append}
use Rattle.xl_base.specs.Handles.{file_at}
use Rattle.xl_base.specs.declared.journal.Exports.{Exports}
use Rattle.xl_base.specs.declared.stable.Mark.TheVariants.{Verifier}
use Rattle.xl_matrix.specs.declared.claim.Claim.{Claim}
use Rattle.xl_matrix.specs.declared.claim.Rwd.{Rwd}
use Rattle.xl_names.specs.declared.name.Name.TheVariants.{NfsParty}
use Rattle.xl_nfs.specs.Basics.{OwnerItem}
use Rattle.xl_nfs.specs.Clients.{SetClientIdArgsItem}
use Rattle.xl_nfs.specs.Locks.{LockArgsItem, LockTestArgsItem, NewLockerItem, LockerItem, New, Known}
use Rattle.xl_nfs.specs.Opens.{OpenArgsItem}
use Rattle.xl_nfs.specs.Ops.{OpItem, Close, DelegReturn, GetFh, Lock, LockT, LockU, Lookup, Open, OpenConfirm, OpenDowngrade, PutFh, PutRootFh, Renew, SetClientId, SetClientIdConfirm, ReleaseLockOwner, NotSupported, Illegal}
use Rattle.xl_nfs.specs.declared.basics.LockType.{LockType}
use Rattle.xl_nfs.specs.declared.basics.Stateid.{Stateid}
use Rattle.xl_nfs.specs.declared.clients.ClientConfirm.{ClientConfirm}
use Rattle.xl_nfs.specs.declared.locks.KnownLocker.{KnownLocker}
use Rattle.xl_nfs.specs.declared.locks.UnlockArgs.{UnlockArgs}
use Rattle.xl_nfs.specs.declared.opens.CloseArgs.{CloseArgs}
use Rattle.xl_nfs.specs.declared.opens.OpenConfirmArgs.{OpenConfirmArgs}
use Rattle.xl_nfs.specs.declared.opens.OpenDowngradeArgs.{OpenDowngradeArgs}
use Rattle.xl_nfs.specs.declared.status.NfsStatus.{NfsStatus}
use Rattle.xl_nfs.specs.declared.status.NfsStatus.TheVariants as statuses
use Rattle.xl_nfs_state.specs.State.{NfsLists, is_client, is_client_named, is_kept, is_owner, is_whose, without_owner}
use Rattle.xl_nfs_state.specs.declared.client.ClientRow.{ClientRow}
use Rattle.xl_nfs_state.specs.declared.kept.KeptRow.{KeptRow}
use Rattle.xl_nfs_state.specs.declared.owner.OwnerKind.{OwnerKind}
use Rattle.xl_nfs_state.specs.declared.owner.OwnerKind.TheVariants as kinds
use Rattle.xl_nfs_state.specs.declared.owner.OwnerRow.{OwnerRow}
use Rattle.xl_nfs_state.specs.declared.owner.SeqidState.{SeqidState}
use Rattle.xl_nfs_state.specs.declared.stateid.StateidRow.{StateidRow}
use Rattle.xl_nfs_state.specs.declared.stateid.Whose.TheVariants as whose
use Rattle.xl_programs.specs.Programs.{RequestItem}
use Rattle.xl_core.specs.Deeds.{Deed, Asks, Draws, Ends, Renews, all_done, done}
use Rattle.xl_core.specs.Decide.{ask}
use Rattle.xl_core.specs.Ids.{number_in}
use Rattle.xl_core.specs.Settle.{share_has}
use Rattle.xl_core.specs.State.{CoreState}
use Rattle.xl_core.specs.declared.ask.Answer.{Answer}
use Rattle.xl_core.specs.declared.ask.Ask.{Ask}
use Rattle.xl_core.specs.declared.ask.Who.TheVariants.{Named}
use Rattle.xl_plan.proofs.BindLaws.{bind_does}
use Rattle.xl_plan.specs.Plans.{Tells, deeds_of, carried}
use Rattle.xl_nfs_opens.specs.Asks.{all_ones, unlock_ask}
use Rattle.xl_nfs_opens.specs.Checks.{found, unless, refused_by}
use Rattle.xl_nfs_opens.specs.Closing.{checked, checked_as, counts, standing_fault, confirm_done, open_confirm, opener_named, opener_by, lock_owner, gives_up, ends_locks, locks_under, share_of_open, close_done, close, Returning, returned, cache_of, return_done, deleg_return}
use Rattle.xl_nfs_opens.specs.Downgrades.{weakens, downgrade_fault, downgrade_done, open_downgrade}
use Rattle.xl_nfs_opens.specs.Opens.{asked_fault, rights_of, file_claimed, is_astray, opened_file, judged, repeated, share_held, gives, given_up, gives_all, share_ask, all_rooms, wish_of, granted_wish, open_held, is_granted, draws_for, granted_by, answered, has_room, open_on, open_by, open_as, open_judged, opener_of, open_of, client_in, open_at, claim_client, open_claimed, open_file, reclaims}
use Rattle.xl_nfs_opens.specs.Owners.{is_named}
use Rattle.xl_nfs_opens.specs.Plans.{Plan}
use Rattle.xl_nfs_opens.specs.Renewing.{renewals_by, renewals, renewing, state_client}
use Rattle.xl_nfs_opens.specs.Seqids.{is_room_for}
use Rattle.xl_nfs_opens.specs.declared.opener.Checked.{Checked}
use Rattle.xl_nfs_opens.specs.declared.opener.Judged.{Judged}
use Rattle.xl_nfs_opens.specs.declared.opener.Judged.TheVariants as judgements
use Rattle.xl_nfs_opens.specs.declared.opener.Opener.{Opener}
use Rattle.xl_nfs_opens.proofs.CheckLaws.{checks}
use Rattle.xl_nfs_locks.specs.FirstLocks.{join_again, join_answered, join_as, join_checked, join_of, join_standing, join_to, joined_by, both_of, found_joined, locker_under, lock_named, lock_new, lock_by, lock}
use Rattle.xl_nfs_locks.specs.Locks.{access_above, lock_answered, lock_by_owner, lock_end, lock_known, lock_standing, lock_to}
use Rattle.xl_nfs_locks.specs.Ranges.{last_byte, lock_ask, may_lock, test_ask}
use Rattle.xl_nfs_locks.specs.Releases.{holds_any, release_of, release}
use Rattle.xl_nfs_locks.specs.Tests.{locker_of, test_at, test_of, test_to, lock_test}
use Rattle.xl_nfs_locks.specs.Unlocks.{unlock_status, unlocked_as, unlock_by_owner, unlock_to, unlock_standing, unlock}
use Rattle.xl_nfs_locks.specs.declared.joining.BothOwners.{BothOwners}
use Rattle.xl_nfs_locks.specs.declared.joining.Joined.{Joined}
use Rattle.xl_nfs_locks.specs.declared.joining.Joined.TheVariants.{Bad, Again, Joins}
use Rattle.xl_nfs.specs.Outcomes.{is_ok}
use Rattle.xl_front_nfs.specs.Clients.{number_kept, renew, set_by, set_client_id, set_client_id_confirm, without_named}
use Rattle.xl_front_nfs.specs.FrontNfs.{Called, Garbage, Null, Refused, Compound, call_in, call_deeds, nfs_deeds}
use Rattle.xl_front_nfs.specs.Handles.{put_root_fh, put_file, put_fh, get_fh, look_up}
use Rattle.xl_front_nfs.specs.State.{FrontNfs}
use Rattle.xl_front_nfs.specs.Steps.{planned, Step, Runs, Garbled, Cut, Course, CoursePlan, begun, step_plan, goes_on, compound}
use Rattle.xl_nfs_laws.specs.AskedRequests.{IsAskedBy, IsAsking, IfRun, IsOfClient, AreAllAsking, AreAskingBy, AreRequestAsks}
use Rattle.xl_nfs_laws.proofs.RequestOwn.{ArePlain, By, confirm_by, get_by, look_by, of_step, put_by, renew_by, set_by_none}

-- the asks among these are the operation's
abbrev Asked : List (List ℕ) → List ClientRow → Option ℕ → OpItem → List Deed → Type 0
Asked files clients current op ds = AllByRecursion (λ d. IsAskedBy files clients current op d) ds

-- so are those of a plan
abbrev Right : List (List ℕ) → List ClientRow → Option ℕ → OpItem → ℕ → CoreState → Plan → Type 0
Right files clients current op n s plan = Asked files clients current op (deeds_of n s plan)

-- ---- whose an owner is

-- its client is a confirmed one, by its id string and its verifier
abbrev OfClient : List ClientRow → Opener → Type 0
OfClient clients o = (number : ℕ) × (c : ClientRow) × (find (is_client number true) clients ≡ Some c) × (o.id ≡ c.id) × (o.verifier ≡ c.details.verifier)

-- so an ask of its own is
its_client : (clients : List ClientRow) (o : Opener) (a : Ask) → OfClient clients o → a.party ≡ Named (NfsParty o.id) → a.mark ≡ Some (Verifier o.verifier) → IsOfClient clients a
its_client clients o a of party mark =
    record {
      number = of.0;
      client = of.1;
      found = of.2;
      party = party ∙ ap (λ (id : List ℕ). Named (NfsParty id)) of.3;
      mark = mark ∙ ap (λ (verifier : List ℕ). Some (Verifier verifier)) of.4;
    }

-- who is found by a clientid
clientid_of : (clients : List ClientRow) (number : Option ℕ) (c : ClientRow) → option_and_then (λ (m : ℕ). find (is_client m true) clients) number ≡ Some c → (m : ℕ) × (find (is_client m true) clients ≡ Some c)
clientid_of clients None c e = absurd cc
clientid_of clients (Some number) c e = (number, e)

-- the owner of a number
named_of : (clients : List ClientRow) (number : ℕ) (c : Option ClientRow) (w : Option OwnerRow) (o : Opener) → find (is_client number true) clients ≡ c → opener_named c w ≡ Some o → OfClient clients o
named_of clients number None w o found e = absurd cc
named_of clients number (Some c) None o found e = absurd cc
named_of clients number (Some c) (Some w) o found e =
    subst (λ (x : Opener). OfClient clients x) (same_Some (record { client = c.number; id = c.id; verifier = c.details.verifier; kind = w.name.kind; owner = w.name.owner }) o e) (number, c, found, refl, refl)

owner_of : (l : NfsLists) (client owner : ℕ) (o : Opener) → opener_by l client owner ≡ Some o → OfClient l.clients o
unfolding opener_by
owner_of l client owner o e = named_of l.clients client (find (is_client client true) l.clients) (find (is_owner owner) l.owners) o refl e

-- a lock owner of the client of a clientid
locker_is : (clients : List ClientRow) (number : Option ℕ) (c : ClientRow) (owner : List ℕ) → option_and_then (λ (m : ℕ). find (is_client m true) clients) number ≡ Some c → OfClient clients (locker_of c owner)
locker_is clients number c owner e = (let found = clientid_of clients number c e in (found.0, c, found.1, refl, refl))

under_of : (clients : List ClientRow) (number : Option ℕ) (r : StateidRow) (owner : List ℕ) (c : Option ClientRow) (o : Opener) → option_and_then (λ (m : ℕ). find (is_client m true) clients) number ≡ c → locker_under r owner c ≡ Some o → OfClient clients o
under_of clients number r owner None o found e = absurd cc
under_of clients number r owner (Some c) o found e =
    elim (cases_Bool (c.number == r.client)) [
      | inl is ↦ subst (λ (y : Opener). OfClient clients y) (same_Some (locker_of c owner) o (rw is at e)) (locker_is clients number c owner found)
      | inr differs ↦ (let none : None ≡ Some o = rw differs at e in absurd cc)
    ]

-- ---- without asks, and one behind another

plain_right : (files : List (List ℕ)) (clients : List ClientRow) (current : Option ℕ) (op : OpItem) (n : ℕ) (s : CoreState) (Client : List ℕ → Type 0) (ds : List Deed) → ArePlain n s Client ds → Asked files clients current op ds
plain_right files clients current op n s Client [] by = tt
plain_right files clients current op n s Client (Draws ∷ ds) by = (tt, plain_right files clients current op n (done n s Draws) Client ds by.1)
plain_right files clients current op n s Client (Ends party ∷ ds) by = (tt, plain_right files clients current op n (done n s (Ends party)) Client ds by.1)
plain_right files clients current op n s Client (Renews id ∷ ds) by = (tt, plain_right files clients current op n (done n s (Renews id)) Client ds by.1)
plain_right files clients current op n s Client (d ∷ ds) by = absurd by.0

both_right : (files : List (List ℕ)) (clients : List ClientRow) (current : Option ℕ) (op : OpItem) (ds es : List Deed) → Asked files clients current op ds → Asked files clients current op es → Asked files clients current op (ds ++ es)
both_right files clients current op ds es first second = all_append (λ d. IsAskedBy files clients current op d) ds es first second

row_right : (files : List (List ℕ)) (clients : List ClientRow) (current : Option ℕ) (op : OpItem) (o : Option ClientRow) → Asked files clients current op (renewals_by o)
row_right files clients current op None = tt
row_right files clients current op (Some r) = (tt, tt)

renewals_right : (files : List (List ℕ)) (clients : List ClientRow) (current : Option ℕ) (op : OpItem) (l : NfsLists) (who : Option ℕ) → Asked files clients current op (renewals l who)
renewals_right files clients current op l None = tt
renewals_right files clients current op l (Some number) = row_right files clients current op (find (is_client number true) l.clients)

renewing_right : (files : List (List ℕ)) (clients : List ClientRow) (current : Option ℕ) (op : OpItem) (n : ℕ) (s : CoreState) (l : NfsLists) (who : Option ℕ) (rest : CoreState → Plan) → ((t : CoreState) → Right files clients current op n t (rest t)) → Right files clients current op n s (renewing l who rest)
renewing_right files clients current op n s l who rest later =
    let t = all_done n s (renewals l who) in
    both_right files clients current op (renewals l who) (deeds_of n t (rest t)) (renewals_right files clients current op l who) (later t)

gives_right : (files : List (List ℕ)) (clients : List ClientRow) (current : Option ℕ) (op : OpItem) (share : Option Claim) → Asked files clients current op (gives share)
gives_right files clients current op None = tt
gives_right files clients current op (Some claim) = (tt, tt)

all_right : (files : List (List ℕ)) (clients : List ClientRow) (current : Option ℕ) (op : OpItem) (s : CoreState) (o : Opener) (rs : List StateidRow) → Asked files clients current op (gives_all s o rs)
all_right files clients current op s o [] = tt
all_right files clients current op s o (r ∷ rs) =
    let share = share_held s o r.file in
    both_right files clients current op (gives share) (gives_all (given_up s share) o rs) (gives_right files clients current op share) (all_right files clients current op (given_up s share) o rs)

repeat_right : (files : List (List ℕ)) (clients : List ClientRow) (op : OpItem) (n : ℕ) (s : CoreState) (l : NfsLists) (current : Option ℕ) (o : Option KeptRow) → Right files clients current op n s (repeated s l current o)
repeat_right files clients op n s l current None = tt
repeat_right files clients op n s l current (Some k) = tt

-- what passes the check of its stateid is on the file of the current handle
counts_right : (files : List (List ℕ)) (clients : List ClientRow) (op : OpItem) (n : ℕ) (s : CoreState) (l : NfsLists) (current : Option ℕ) (kind : OwnerKind) (number seqid : ℕ) (stateid : Stateid) (rest : StateidRow → ℕ → SeqidState → Plan)
    → ((r : StateidRow) (w : ℕ) (v : SeqidState) → current ≡ Some r.file → Right files clients current op n s (rest r w v)) → Right files clients current op n s (counts s l current rest (checked_as kind s l current number seqid stateid))
counts_right files clients op n s l current kind number seqid stateid rest each =
    checks (λ c. Right files clients current op n s (counts s l current rest c)) kind s l current number seqid stateid (λ _. tt) (λ _ _. tt) tt (λ _ _ _ _ _ _ _ _. tt) (λ w. repeat_right files clients op n s l current (find (is_kept w) l.kept))
    (λ r w o file is live next. each r w o.seqids file)

-- ---- OPEN

-- what is opened is what is claimed
abbrev IsClaimed : Option ℕ → Result ℕ NfsStatus → Type 0
IsClaimed claimed (Ok file) = claimed ≡ Some file
IsClaimed claimed (Err status) = Unit {0}

astray_claims : (astray : Bool) (file : ℕ) → IsClaimed (Some file) (refused_by Err ((astray, statuses.BadStateid) ∷ []) (Ok file))
astray_claims true file = tt
astray_claims false file = refl

claimed_claims : (astray : ℕ → Bool) (claimed : Option ℕ) → IsClaimed claimed (found claimed (Err statuses.NoEnt) (λ file. refused_by Err ((astray file, statuses.BadStateid) ∷ []) (Ok file)))
claimed_claims astray None = tt
claimed_claims astray (Some file) = astray_claims (astray file) file

fault_claims : (astray : ℕ → Bool) (fault : Option NfsStatus) (claimed : Option ℕ) → IsClaimed claimed (unless fault Err (found claimed (Err statuses.NoEnt) (λ file. refused_by Err ((astray file, statuses.BadStateid) ∷ []) (Ok file))))
fault_claims astray None claimed = claimed_claims astray claimed
fault_claims astray (Some status) claimed = tt

opened_claims : (files : List (List ℕ)) (s : CoreState) (l : NfsLists) (client at : ℕ) (a : OpenArgsItem) → IsClaimed (file_claimed files at a.claim) (opened_file files s l client at a)
unfolding opened_file
opened_claims files s l client at a = fault_claims (λ file. is_astray s l client file a.claim) (asked_fault at a) (file_claimed files at a.claim)

drawn_right : (files : List (List ℕ)) (clients : List ClientRow) (current : Option ℕ) (op : OpItem) (write : Option Bool) → Asked files clients current op (draws_for write)
drawn_right files clients current op None = tt
drawn_right files clients current op (Some write) = (tt, tt)

granted_right : (files : List (List ℕ)) (clients : List ClientRow) (current : Option ℕ) (op : OpItem) (n : ℕ) (s : CoreState) (l : NfsLists) (o : Opener) (a : OpenArgsItem) (file : ℕ) (confirmed : Bool) (write : Option Bool) (r : Option StateidRow) → Right files clients current op n s (granted_by s l o a file confirmed write r)
granted_right files clients current op n s l o a file confirmed write None = (tt, drawn_right files clients current op write)
granted_right files clients current op n s l o a file confirmed write (Some r) = drawn_right files clients current op write

answered_right : (files : List (List ℕ)) (clients : List ClientRow) (current : Option ℕ) (op : OpItem) (n : ℕ) (s : CoreState) (l : NfsLists) (at : Option ℕ) (o : Opener) (a : OpenArgsItem) (file : ℕ) (confirmed : Bool) (wish : Option Bool) (answer : Answer) → Right files clients current op n s (answered l at o a file confirmed wish answer s)
answered_right files clients current op n s l at o a file confirmed wish answer =
    elim (cases_Bool (is_granted answer)) [
      | inl e ↦ rw e (granted_right files clients current op n s l o a file (confirmed || reclaims a.claim) (granted_wish s o file wish) (open_held l o file))
      | inr e ↦ rw e tt
    ]

share_right : (files : List (List ℕ)) (clients : List ClientRow) (at : ℕ) (wish : Option Bool) (o : Opener) (a : OpenArgsItem) (file : ℕ) → OfClient clients o → file_claimed files at a.claim ≡ Some file → IsAskedBy files clients (Some at) (Open a) (Asks all_rooms (share_ask wish o a file))
unfolding share_ask
share_right files clients at wish o a file of claimed = (record { file = claimed; act = refl; reclaim = refl; monitored = refl; blocking = refl; awaits = refl; room = refl; rows = refl }, its_client clients o (share_ask wish o a file) of refl refl)

on_right : (files : List (List ℕ)) (clients : List ClientRow) (at n others : ℕ) (s : CoreState) (l : NfsLists) (o : Opener) (a : OpenArgsItem) (confirmed : Bool) (file : ℕ) → OfClient clients o → file_claimed files at a.claim ≡ Some file → Right files clients (Some at) (Open a) n s (open_on others s l (Some at) o a confirmed file)
on_right files clients at n others s l o a confirmed file of claimed =
    elim (cases_Bool (has_room others l o file)) [
      | inl e ↦ rw e (let wish = wish_of s l o a confirmed file in let r = ask n all_rooms s (share_ask wish o a file) in (share_right files clients at wish o a file of claimed, answered_right files clients (Some at) (Open a) n r.2 l (Some at) o a file confirmed wish r.0))
      | inr e ↦ rw e tt
    ]

open_right : (files : List (List ℕ)) (clients : List ClientRow) (at n others : ℕ) (s : CoreState) (l : NfsLists) (o : Opener) (a : OpenArgsItem) (confirmed : Bool) (r : Result ℕ NfsStatus) → OfClient clients o → IsClaimed (file_claimed files at a.claim) r → Right files clients (Some at) (Open a) n s (open_by others s l (Some at) o a confirmed r)
open_right files clients at n others s l o a confirmed (Ok file) of claimed = on_right files clients at n others s l o a confirmed file of claimed
open_right files clients at n others s l o a confirmed (Err status) of claimed = tt

as_right : (files : List (List ℕ)) (clients : List ClientRow) (at n others : ℕ) (s : CoreState) (l : NfsLists) (o : Opener) (a : OpenArgsItem) (confirmed : Bool) → OfClient clients o → Right files clients (Some at) (Open a) n s (open_as files others s l (Some at) at o a confirmed)
unfolding open_as
as_right files clients at n others s l o a confirmed of = open_right files clients at n others s l o a confirmed (opened_file files s l o.client at a) of (opened_claims files s l o.client at a)

judged_right : (files : List (List ℕ)) (clients : List ClientRow) (at n others : ℕ) (s : CoreState) (l : NfsLists) (o : Opener) (a : OpenArgsItem) (j : Judged) → OfClient clients o → Right files clients (Some at) (Open a) n s (open_judged files others s l (Some at) at o a j)
judged_right files clients at n others s l o a judgements.Bad of = tt
judged_right files clients at n others s l o a (judgements.Repeats number) of = repeat_right files clients (Open a) n s l (Some at) (find (is_kept number) l.kept)
judged_right files clients at n others s l o a (judgements.Anew number) of =
    let rs = filter (is_whose (whose.Owner number)) l.stateids in
    let ds = gives_all s o rs in
    let t = all_done n s ds in
    let m = without_owner number l in
    both_right files clients (Some at) (Open a) ds (deeds_of n t (open_as files others t m (Some at) at o a false)) (all_right files clients (Some at) (Open a) s o rs) (as_right files clients at n others t m o a false of)
judged_right files clients at n others s l o a judgements.New of = as_right files clients at n others s l o a false of
judged_right files clients at n others s l o a judgements.Next of = as_right files clients at n others s l o a true of

opener_right : (files : List (List ℕ)) (at n others : ℕ) (s : CoreState) (l : NfsLists) (a : OpenArgsItem) (c : Option ClientRow) → client_in s l a.owner.clientid ≡ c → Right files l.clients (Some at) (Open a) n s (open_of files others s l (Some at) at a c)
opener_right files at n others s l a None is = tt
opener_right files at n others s l a (Some c) is =
    let found = clientid_of l.clients (number_in s a.owner.clientid) c is in
    judged_right files l.clients at n others s l (opener_of c a) a (judged l (opener_of c a) a.seqid) (found.0, c, found.1, refl, refl)

at_right : (files : List (List ℕ)) (n others : ℕ) (s : CoreState) (l : NfsLists) (a : OpenArgsItem) (current : Option ℕ) → Right files l.clients current (Open a) n s (open_at files others s l a current)
at_right files n others s l a None = tt
at_right files n others s l a (Some at) = opener_right files at n others s l a (client_in s l a.owner.clientid) refl

file_right : (files : List (List ℕ)) (n others : ℕ) (s : CoreState) (l : NfsLists) (current : Option ℕ) (a : OpenArgsItem) → Right files l.clients current (Open a) n s (open_file files others s l current a)
unfolding open_file open_claimed
file_right files n others s l current a =
    renewing_right files l.clients current (Open a) n s l (number_in s a.owner.clientid) (λ t. renewing l (claim_client t l a.claim) (λ u. open_at files others u l a current))
    (λ t. renewing_right files l.clients current (Open a) n t l (claim_client t l a.claim) (λ u. open_at files others u l a current) (λ u. at_right files n others u l a current))

-- ---- OPEN_CONFIRM, OPEN_DOWNGRADE, CLOSE, DELEGRETURN

confirmed_right : (files : List (List ℕ)) (clients : List ClientRow) (op : OpItem) (n : ℕ) (s : CoreState) (l : NfsLists) (current : Option ℕ) (a : OpenConfirmArgs) (r : StateidRow) (w : ℕ) (v : SeqidState) (fault : Option NfsStatus) → Right files clients current op n s (confirm_done s l current a r w v fault)
confirmed_right files clients op n s l current a r w v None = tt
confirmed_right files clients op n s l current a r w v (Some status) = tt

confirm_right : (files : List (List ℕ)) (n : ℕ) (s : CoreState) (l : NfsLists) (current : Option ℕ) (a : OpenConfirmArgs) → Right files l.clients current (OpenConfirm a) n s (open_confirm s l current a)
unfolding open_confirm
confirm_right files n s l current a =
    renewing_right files l.clients current (OpenConfirm a) n s l (state_client s l a.stateid) (λ t. counts t l current (λ r w v. confirm_done t l current a r w v (standing_fault r v a.stateid.seqid false)) (checked t l current 20 a.seqid a.stateid))
    (λ t. counts_right files l.clients (OpenConfirm a) n t l current kinds.Open 20 a.seqid a.stateid (λ r w v. confirm_done t l current a r w v (standing_fault r v a.stateid.seqid false))
    (λ r w v file. confirmed_right files l.clients (OpenConfirm a) n t l current a r w v (standing_fault r v a.stateid.seqid false)))

weakened_right : (files : List (List ℕ)) (clients : List ClientRow) (current : Option ℕ) (op : OpItem) (share : Option Claim) (access deny : Rwd) → Asked files clients current op (weakens share access deny)
weakened_right files clients current op None access deny = tt
weakened_right files clients current op (Some claim) access deny =
    elim (cases_Bool (share_has claim.what access deny)) [
      | inl e ↦ rw e (tt, tt)
      | inr e ↦ rw e tt
    ]

downgraded_right : (files : List (List ℕ)) (clients : List ClientRow) (op : OpItem) (n : ℕ) (s : CoreState) (l : NfsLists) (current : Option ℕ) (a : OpenDowngradeArgs) (r : StateidRow) (w : ℕ) (v : SeqidState) (fault : Option NfsStatus) → Right files clients current op n s (downgrade_done s l current a r w v fault)
downgraded_right files clients op n s l current a r w v None = weakened_right files clients current op (share_of_open s l r w) (rights_of a.access) (rights_of a.deny)
downgraded_right files clients op n s l current a r w v (Some status) = tt

downgrade_right : (files : List (List ℕ)) (n : ℕ) (s : CoreState) (l : NfsLists) (current : Option ℕ) (a : OpenDowngradeArgs) → Right files l.clients current (OpenDowngrade a) n s (open_downgrade s l current a)
unfolding open_downgrade
downgrade_right files n s l current a =
    renewing_right files l.clients current (OpenDowngrade a) n s l (state_client s l a.stateid) (λ t. counts t l current (λ r w v. downgrade_done t l current a r w v (downgrade_fault r v a)) (checked t l current 21 a.seqid a.stateid))
    (λ t. counts_right files l.clients (OpenDowngrade a) n t l current kinds.Open 21 a.seqid a.stateid (λ r w v. downgrade_done t l current a r w v (downgrade_fault r v a))
    (λ r w v file. downgraded_right files l.clients (OpenDowngrade a) n t l current a r w v (downgrade_fault r v a)))

-- the locks under the open go, on its file
given_right : (files : List (List ℕ)) (clients : List ClientRow) (current : Option ℕ) (a : CloseArgs) (file : ℕ) (o : Option Opener) → ((x : Opener) → o ≡ Some x → OfClient clients x) → current ≡ Some file → Asked files clients current (Close a) (gives_up file o)
given_right files clients current a file None of at = tt
given_right files clients current a file (Some o) of at = ((record { file = at; act = refl; reclaim = refl; monitored = refl; blocking = refl; awaits = refl; room = refl; rows = refl }, its_client clients o (unlock_ask o file 0 all_ones) (of o refl) refl refl), tt)

under_right : (files : List (List ℕ)) (current : Option ℕ) (a : CloseArgs) (l : NfsLists) (r : StateidRow) (qs : List StateidRow) → current ≡ Some r.file → Asked files l.clients current (Close a) (ends_locks l r qs)
under_right files current a l r [] at = tt
under_right files current a l r (q ∷ qs) at =
    let o = opener_by l r.client (lock_owner q.holder) in
    both_right files l.clients current (Close a) (gives_up r.file o) (ends_locks l r qs) (given_right files l.clients current a r.file o (λ x e. owner_of l r.client (lock_owner q.holder) x e) at) (under_right files current a l r qs at)

closed_right : (files : List (List ℕ)) (n : ℕ) (s : CoreState) (l : NfsLists) (current : Option ℕ) (a : CloseArgs) (r : StateidRow) (w : ℕ) (v : SeqidState) (fault : Option NfsStatus) → current ≡ Some r.file → Right files l.clients current (Close a) n s (close_done s l current a r w v fault)
closed_right files n s l current a r w v None at =
    let qs = locks_under l r.number in
    let ds = ends_locks l r qs in
    let share = share_of_open (all_done n s ds) l r w in
    both_right files l.clients current (Close a) ds (gives share) (under_right files current a l r qs at) (gives_right files l.clients current (Close a) share)
closed_right files n s l current a r w v (Some status) at = tt

close_right : (files : List (List ℕ)) (n : ℕ) (s : CoreState) (l : NfsLists) (current : Option ℕ) (a : CloseArgs) → Right files l.clients current (Close a) n s (close s l current a)
unfolding close
close_right files n s l current a =
    renewing_right files l.clients current (Close a) n s l (state_client s l a.stateid) (λ t. counts t l current (λ r w v. close_done t l current a r w v (standing_fault r v a.stateid.seqid true)) (checked t l current 4 a.seqid a.stateid))
    (λ t. counts_right files l.clients (Close a) n t l current kinds.Open 4 a.seqid a.stateid (λ r w v. close_done t l current a r w v (standing_fault r v a.stateid.seqid true))
    (λ r w v file. closed_right files n t l current a r w v (standing_fault r v a.stateid.seqid true) file))

returned_right : (files : List (List ℕ)) (clients : List ClientRow) (op : OpItem) (n : ℕ) (s : CoreState) (l : NfsLists) (current : Option ℕ) (x : Returning) → Right files clients current op n s (return_done s l current x)
returned_right files clients op n s l current (Err status) = tt
returned_right files clients op n s l current (Ok r) = gives_right files clients current op (cache_of s l r)

return_right : (files : List (List ℕ)) (n : ℕ) (s : CoreState) (l : NfsLists) (current : Option ℕ) (stateid : Stateid) → Right files l.clients current (DelegReturn stateid) n s (deleg_return s l current stateid)
unfolding deleg_return
return_right files n s l current stateid =
    renewing_right files l.clients current (DelegReturn stateid) n s l (state_client s l stateid) (λ t. return_done t l current (returned t l current stateid)) (λ t. returned_right files l.clients (DelegReturn stateid) n t l current (returned t l current stateid))

-- ---- LOCK by a known owner

-- what a lock may end at is the last byte of its range
abbrev IsEnd : Option ℕ → Result ℕ NfsStatus → Type 0
IsEnd end (Ok last) = end ≡ Some last
IsEnd end (Err status) = Unit {0}

ends_at : (kind : LockType) (access : ℕ) (end : Option ℕ) → IsEnd end (lock_end kind access end)
ends_at kind access None = tt
ends_at kind access (Some last) =
    elim (cases_Bool (may_lock kind access)) [
      | inl e ↦ rw e refl
      | inr e ↦ rw e tt
    ]

range_right : (files : List (List ℕ)) (clients : List ClientRow) (current : Option ℕ) (a : LockArgsItem) (o : Opener) (file last : ℕ) → OfClient clients o → current ≡ Some file → last_byte a.offset a.len ≡ Some last → IsAskedBy files clients current (Lock a) (Asks all_rooms (lock_ask o file a.kind a.reclaim a.offset last))
range_right files clients current a o file last of at ends = (record { file = at; act = (last, ends, refl); reclaim = refl; monitored = refl; blocking = refl; awaits = refl; room = refl; rows = refl }, its_client clients o (lock_ask o file a.kind a.reclaim a.offset last) of refl refl)

lock_answered_right : (files : List (List ℕ)) (clients : List ClientRow) (op : OpItem) (n : ℕ) (s : CoreState) (l : NfsLists) (current : Option ℕ) (r : StateidRow) (w : ℕ) (v : SeqidState) (seqid : ℕ) (reclaim : Bool) (answer : Answer) → Right files clients current op n s (lock_answered l current r w v seqid reclaim answer s)
lock_answered_right files clients op n s l current r w v seqid reclaim answer =
    elim (cases_Bool (is_granted answer)) [
      | inl e ↦ rw e tt
      | inr e ↦ rw e tt
    ]

lock_owner_right : (files : List (List ℕ)) (clients : List ClientRow) (n : ℕ) (s : CoreState) (l : NfsLists) (current : Option ℕ) (a : LockArgsItem) (r : StateidRow) (w : ℕ) (v : SeqidState) (seqid last : ℕ) (o : Option Opener) → ((x : Opener) → o ≡ Some x → OfClient clients x) → current ≡ Some r.file → last_byte a.offset a.len ≡ Some last → Right files clients current (Lock a) n s (lock_by_owner l current a r w v seqid last o)
lock_owner_right files clients n s l current a r w v seqid last None of at ends = tt
lock_owner_right files clients n s l current a r w v seqid last (Some o) of at ends =
    (let q = ask n all_rooms s (lock_ask o r.file a.kind a.reclaim a.offset last) in (range_right files clients current a o r.file last (of o refl) at ends, lock_answered_right files clients (Lock a) n q.2 l current r w v seqid a.reclaim q.0))

lock_to_right : (files : List (List ℕ)) (n : ℕ) (s : CoreState) (l : NfsLists) (current : Option ℕ) (a : LockArgsItem) (r : StateidRow) (w : ℕ) (v : SeqidState) (seqid : ℕ) (e : Result ℕ NfsStatus) → current ≡ Some r.file → IsEnd (last_byte a.offset a.len) e → Right files l.clients current (Lock a) n s (lock_to l current a r w v seqid e)
lock_to_right files n s l current a r w v seqid (Err status) at ends = tt
lock_to_right files n s l current a r w v seqid (Ok last) at ends = lock_owner_right files l.clients n s l current a r w v seqid last (opener_by l r.client w) (λ x e. owner_of l r.client w x e) at ends

lock_standing_right : (files : List (List ℕ)) (n : ℕ) (s : CoreState) (l : NfsLists) (current : Option ℕ) (a : LockArgsItem) (r : StateidRow) (w : ℕ) (v : SeqidState) (seqid : ℕ) (fault : Option NfsStatus) → current ≡ Some r.file → Right files l.clients current (Lock a) n s (lock_standing l current a r w v seqid fault)
lock_standing_right files n s l current a r w v seqid (Some status) at = tt
lock_standing_right files n s l current a r w v seqid None at =
    let access = access_above l r.holder in
    lock_to_right files n s l current a r w v seqid (lock_end a.kind access (last_byte a.offset a.len)) at (ends_at a.kind access (last_byte a.offset a.len))

known_right : (files : List (List ℕ)) (n : ℕ) (s : CoreState) (l : NfsLists) (current : Option ℕ) (a : LockArgsItem) (x : KnownLocker) → Right files l.clients current (Lock a) n s (lock_known s l current a x)
unfolding lock_known
known_right files n s l current a x =
    renewing_right files l.clients current (Lock a) n s l (state_client s l x.stateid) (λ t. counts t l current (λ r w v. lock_standing l current a r w v x.seqid (standing_fault r v x.stateid.seqid true)) (checked_as kinds.Lock t l current 12 x.seqid x.stateid))
    (λ t. counts_right files l.clients (Lock a) n t l current kinds.Lock 12 x.seqid x.stateid (λ r w v. lock_standing l current a r w v x.seqid (standing_fault r v x.stateid.seqid true))
    (λ r w v file. lock_standing_right files n t l current a r w v x.seqid (standing_fault r v x.stateid.seqid true) file))

-- ---- LOCK under an open

joined_right : (files : List (List ℕ)) (clients : List ClientRow) (op : OpItem) (n : ℕ) (s : CoreState) (l : NfsLists) (current : Option ℕ) (b : BothOwners) (o : Opener) (r : StateidRow) (q : Option StateidRow) → Right files clients current op n s (joined_by s l current b o r q)
joined_right files clients op n s l current b o r None = (tt, tt)
joined_right files clients op n s l current b o r (Some q) = tt

join_answered_right : (files : List (List ℕ)) (clients : List ClientRow) (op : OpItem) (n : ℕ) (s : CoreState) (l : NfsLists) (current : Option ℕ) (b : BothOwners) (o : Opener) (r : StateidRow) (q : Option StateidRow) (reclaim : Bool) (answer : Answer) → Right files clients current op n s (join_answered l current b o r q reclaim answer s)
join_answered_right files clients op n s l current b o r q reclaim answer =
    elim (cases_Bool (is_granted answer)) [
      | inl e ↦ rw e (joined_right files clients op n s l current b o r q)
      | inr e ↦ rw e tt
    ]

join_to_right : (files : List (List ℕ)) (clients : List ClientRow) (n : ℕ) (s : CoreState) (l : NfsLists) (current : Option ℕ) (a : LockArgsItem) (b : BothOwners) (o : Opener) (r : StateidRow) (q : Option StateidRow) (e : Result ℕ NfsStatus) → OfClient clients o → current ≡ Some r.file → IsEnd (last_byte a.offset a.len) e → Right files clients current (Lock a) n s (join_to l current a b o r q e)
join_to_right files clients n s l current a b o r q (Err status) of at ends = tt
join_to_right files clients n s l current a b o r q (Ok last) of at ends =
    elim (cases_Bool (is_room_for o l)) [
      | inl e ↦ rw e (let x = ask n all_rooms s (lock_ask o r.file a.kind a.reclaim a.offset last) in (range_right files clients current a o r.file last of at ends, join_answered_right files clients (Lock a) n x.2 l current b o r q a.reclaim x.0))
      | inr e ↦ rw e tt
    ]

again_right : (files : List (List ℕ)) (clients : List ClientRow) (op : OpItem) (n : ℕ) (s : CoreState) (l : NfsLists) (current : Option ℕ) (b : BothOwners) (k : Option KeptRow) → Right files clients current op n s (join_again l current b k)
again_right files clients op n s l current b None = tt
again_right files clients op n s l current b (Some k) = tt

join_as_right : (files : List (List ℕ)) (clients : List ClientRow) (n : ℕ) (s : CoreState) (l : NfsLists) (current : Option ℕ) (a : LockArgsItem) (b : BothOwners) (o : Opener) (r : StateidRow) (j : Joined) → OfClient clients o → current ≡ Some r.file → Right files clients current (Lock a) n s (join_as l current a b o r j)
join_as_right files clients n s l current a b o r Bad of at = tt
join_as_right files clients n s l current a b o r (Again owner) of at = again_right files clients (Lock a) n s l current b (find (is_kept owner) l.kept)
join_as_right files clients n s l current a b o r (Joins q) of at = join_to_right files clients n s l current a b o r q (lock_end a.kind r.standing.access (last_byte a.offset a.len)) of at (ends_at a.kind r.standing.access (last_byte a.offset a.len))

join_of_right : (files : List (List ℕ)) (clients : List ClientRow) (n : ℕ) (s : CoreState) (l : NfsLists) (current : Option ℕ) (a : LockArgsItem) (x : NewLockerItem) (b : BothOwners) (r : StateidRow) (o : Option Opener) → ((y : Opener) → o ≡ Some y → OfClient clients y) → current ≡ Some r.file → Right files clients current (Lock a) n s (join_of l current a x b r o)
join_of_right files clients n s l current a x b r None of at = tt
join_of_right files clients n s l current a x b r (Some o) of at = join_as_right files clients n s l current a b o r (found_joined l r o x.lock_seqid) (of o refl) at

join_standing_right : (files : List (List ℕ)) (n : ℕ) (s : CoreState) (l : NfsLists) (current : Option ℕ) (a : LockArgsItem) (x : NewLockerItem) (b : BothOwners) (r : StateidRow) (fault : Option NfsStatus) → current ≡ Some r.file → Right files l.clients current (Lock a) n s (join_standing s l current a x b r fault)
join_standing_right files n s l current a x b r (Some status) at = tt
join_standing_right files n s l current a x b r None at =
    let c = client_in s l x.owner.clientid in
    join_of_right files l.clients n s l current a x b r (locker_under r x.owner.owner c) (λ y e. under_of l.clients (number_in s x.owner.clientid) r x.owner.owner c y refl e) at

new_right : (files : List (List ℕ)) (n : ℕ) (s : CoreState) (l : NfsLists) (current : Option ℕ) (a : LockArgsItem) (x : NewLockerItem) → Right files l.clients current (Lock a) n s (lock_new s l current a x)
unfolding lock_new lock_named
new_right files n s l current a x =
    renewing_right files l.clients current (Lock a) n s l (state_client s l x.open_stateid) (λ t. renewing l (number_in t x.owner.clientid) (λ u. join_checked u l current a x (checked u l current 12 x.open_seqid x.open_stateid)))
    (λ t. renewing_right files l.clients current (Lock a) n t l (number_in t x.owner.clientid) (λ u. join_checked u l current a x (checked u l current 12 x.open_seqid x.open_stateid))
    (λ u. counts_right files l.clients (Lock a) n u l current kinds.Open 12 x.open_seqid x.open_stateid (λ r w v. join_standing u l current a x (both_of x w v) r (standing_fault r v x.open_stateid.seqid true))
    (λ r w v file. join_standing_right files n u l current a x (both_of x w v) r (standing_fault r v x.open_stateid.seqid true) file)))

by_right : (files : List (List ℕ)) (n : ℕ) (s : CoreState) (l : NfsLists) (current : Option ℕ) (a : LockArgsItem) (x : LockerItem) → Right files l.clients current (Lock a) n s (lock_by s l current a x)
by_right files n s l current a (New x) = new_right files n s l current a x
by_right files n s l current a (Known x) = known_right files n s l current a x

lock_right : (files : List (List ℕ)) (n : ℕ) (s : CoreState) (l : NfsLists) (current : Option ℕ) (a : LockArgsItem) → Right files l.clients current (Lock a) n s (lock s l current a)
unfolding lock
lock_right files n s l current a = by_right files n s l current a a.locker

-- ---- LOCKT, LOCKU, RELEASE_LOCKOWNER

test_to_right : (files : List (List ℕ)) (clients : List ClientRow) (n : ℕ) (s : CoreState) (l : NfsLists) (a : LockTestArgsItem) (file : ℕ) (o : Opener) (last : Option ℕ) → OfClient clients o → last_byte a.offset a.len ≡ last → Right files clients (Some file) (LockT a) n s (test_to l (Some file) a file o last)
test_to_right files clients n s l a file o None of ends = tt
test_to_right files clients n s l a file o (Some last) of ends = ((record { file = refl; act = (last, ends, refl); reclaim = refl; monitored = refl; blocking = refl; awaits = refl; room = refl; rows = refl }, its_client clients o (test_ask o file a.kind a.offset last) of refl refl), tt)

test_of_right : (files : List (List ℕ)) (clients : List ClientRow) (n : ℕ) (s : CoreState) (l : NfsLists) (a : LockTestArgsItem) (file : ℕ) (c : Option ClientRow) → ((x : ClientRow) → c ≡ Some x → OfClient clients (locker_of x a.owner.owner)) → Right files clients (Some file) (LockT a) n s (test_of l (Some file) a file c)
test_of_right files clients n s l a file None of = tt
test_of_right files clients n s l a file (Some c) of = test_to_right files clients n s l a file (locker_of c a.owner.owner) (last_byte a.offset a.len) (of c refl) refl

test_at_right : (files : List (List ℕ)) (n : ℕ) (s : CoreState) (l : NfsLists) (a : LockTestArgsItem) (current : Option ℕ) → Right files l.clients current (LockT a) n s (test_at s l a current)
test_at_right files n s l a None = tt
test_at_right files n s l a (Some at) =
    elim (cases_Bool (at == 0)) [
      | inl e ↦ rw e tt
      | inr e ↦ rw e (test_of_right files l.clients n s l a at (client_in s l a.owner.clientid) (λ c e. locker_is l.clients (number_in s a.owner.clientid) c a.owner.owner e))
    ]

test_right : (files : List (List ℕ)) (n : ℕ) (s : CoreState) (l : NfsLists) (current : Option ℕ) (a : LockTestArgsItem) → Right files l.clients current (LockT a) n s (lock_test s l current a)
unfolding lock_test
test_right files n s l current a = renewing_right files l.clients current (LockT a) n s l (number_in s a.owner.clientid) (λ t. test_at t l a current) (λ t. test_at_right files n t l a current)

unlocked_right : (files : List (List ℕ)) (clients : List ClientRow) (op : OpItem) (n : ℕ) (s : CoreState) (l : NfsLists) (current : Option ℕ) (a : UnlockArgs) (r : StateidRow) (w : ℕ) (v : SeqidState) (status : NfsStatus) → Right files clients current op n s (unlocked_as s l current a r w v status)
unlocked_right files clients op n s l current a r w v status =
    elim (cases_Bool (is_ok status)) [
      | inl e ↦ rw e tt
      | inr e ↦ rw e tt
    ]

unlock_owner_right : (files : List (List ℕ)) (clients : List ClientRow) (n : ℕ) (s : CoreState) (l : NfsLists) (current : Option ℕ) (a : UnlockArgs) (r : StateidRow) (w : ℕ) (v : SeqidState) (last : ℕ) (o : Option Opener) → ((x : Opener) → o ≡ Some x → OfClient clients x) → current ≡ Some r.file → last_byte a.offset a.len ≡ Some last → Right files clients current (LockU a) n s (unlock_by_owner l current a r w v last o)
unlock_owner_right files clients n s l current a r w v last None of at ends = tt
unlock_owner_right files clients n s l current a r w v last (Some o) of at ends =
    let q = ask n all_rooms s (unlock_ask o r.file a.offset last) in
    ((record { file = at; act = (last, ends, refl); reclaim = refl; monitored = refl; blocking = refl; awaits = refl; room = refl; rows = refl }, its_client clients o (unlock_ask o r.file a.offset last) (of o refl) refl refl), unlocked_right files clients (LockU a) n q.2 l current a r w v (unlock_status q.0))

unlock_to_right : (files : List (List ℕ)) (n : ℕ) (s : CoreState) (l : NfsLists) (current : Option ℕ) (a : UnlockArgs) (r : StateidRow) (w : ℕ) (v : SeqidState) (last : Option ℕ) → current ≡ Some r.file → last_byte a.offset a.len ≡ last → Right files l.clients current (LockU a) n s (unlock_to l current a r w v last)
unlock_to_right files n s l current a r w v None at ends = tt
unlock_to_right files n s l current a r w v (Some last) at ends = unlock_owner_right files l.clients n s l current a r w v last (opener_by l r.client w) (λ x e. owner_of l r.client w x e) at ends

unlock_standing_right : (files : List (List ℕ)) (n : ℕ) (s : CoreState) (l : NfsLists) (current : Option ℕ) (a : UnlockArgs) (r : StateidRow) (w : ℕ) (v : SeqidState) (fault : Option NfsStatus) → current ≡ Some r.file → Right files l.clients current (LockU a) n s (unlock_standing l current a r w v fault)
unlock_standing_right files n s l current a r w v (Some status) at = tt
unlock_standing_right files n s l current a r w v None at = unlock_to_right files n s l current a r w v (last_byte a.offset a.len) at refl

unlock_right : (files : List (List ℕ)) (n : ℕ) (s : CoreState) (l : NfsLists) (current : Option ℕ) (a : UnlockArgs) → Right files l.clients current (LockU a) n s (unlock s l current a)
unfolding unlock
unlock_right files n s l current a =
    renewing_right files l.clients current (LockU a) n s l (state_client s l a.stateid) (λ t. counts t l current (λ r w v. unlock_standing l current a r w v (standing_fault r v a.stateid.seqid true)) (checked_as kinds.Lock t l current 14 a.seqid a.stateid))
    (λ t. counts_right files l.clients (LockU a) n t l current kinds.Lock 14 a.seqid a.stateid (λ r w v. unlock_standing l current a r w v (standing_fault r v a.stateid.seqid true))
    (λ r w v file. unlock_standing_right files n t l current a r w v (standing_fault r v a.stateid.seqid true) file))

released_right : (files : List (List ℕ)) (clients : List ClientRow) (op : OpItem) (n : ℕ) (s : CoreState) (l : NfsLists) (current : Option ℕ) (owner : List ℕ) (c : Option ClientRow) → Right files clients current op n s (release_of s l current owner c)
released_right files clients op n s l current owner None = tt
released_right files clients op n s l current owner (Some c) =
    elim (cases_Bool (holds_any s c.id owner)) [
      | inl e ↦ rw e tt
      | inr e ↦ rw e tt
    ]

release_right : (files : List (List ℕ)) (n : ℕ) (s : CoreState) (l : NfsLists) (current : Option ℕ) (a : OwnerItem) → Right files l.clients current (ReleaseLockOwner a) n s (release s l current a)
unfolding release
release_right files n s l current a = renewing_right files l.clients current (ReleaseLockOwner a) n s l (number_in s a.clientid) (λ t. release_of t l current a.owner (client_in t l a.clientid)) (λ t. released_right files l.clients (ReleaseLockOwner a) n t l current a.owner (client_in t l a.clientid))

-- ---- the table

-- an operation that asks for nothing
by_plain : (files : List (List ℕ)) (clients : List ClientRow) (current : Option ℕ) (op : OpItem) (n : ℕ) (s : CoreState) (plan : Plan) (Client : List ℕ → Type 0) → By n s Client plan → Right files clients current op n s plan
by_plain files clients current op n s plan Client by = plain_right files clients current op n s Client (deeds_of n s plan) by

nobody : List ℕ → Type 0
nobody id = ⊥

pub plan_asks : (files : List (List ℕ)) (n others : ℕ) (s : CoreState) (l : NfsLists) (current : Option ℕ) (op : OpItem) → Right files l.clients current op n s (planned files others s l current op)
unfolding planned put_root_fh put_fh set_client_id
plan_asks files n others s l current PutRootFh = tt
plan_asks files n others s l current (PutFh fh) = by_plain files l.clients current (PutFh fh) n s (put_file (length files) l current (file_at fh)) nobody (put_by n (length files) s l current (file_at fh) nobody)
plan_asks files n others s l current GetFh = by_plain files l.clients current GetFh n s (get_fh l current) nobody (get_by n s l current nobody)
plan_asks files n others s l current (Lookup name) = by_plain files l.clients current (Lookup name) n s (look_up files l current name) nobody (look_by n files s l current name nobody)
plan_asks files n others s l current (SetClientId a) =
    let m = without_named a.id l in
    let kept = number_kept a.verifier (find (is_client_named a.id true) m.clients) in
    by_plain files l.clients current (SetClientId a) n s (set_by s m current a kept) nobody (set_by_none n s m current a kept nobody)
plan_asks files n others s l current (SetClientIdConfirm a) = by_plain files l.clients current (SetClientIdConfirm a) n s (set_client_id_confirm s l current a) (λ id. is_named s l a.clientid true id ⊎ is_named s l a.clientid false id) (confirm_by n s l current a)
plan_asks files n others s l current (Renew clientid) = by_plain files l.clients current (Renew clientid) n s (renew s l current clientid) (λ id. is_named s l clientid true id) (renew_by n s l current clientid)
plan_asks files n others s l current (Open a) = file_right files n others s l current a
plan_asks files n others s l current (OpenConfirm a) = confirm_right files n s l current a
plan_asks files n others s l current (OpenDowngrade a) = downgrade_right files n s l current a
plan_asks files n others s l current (Close a) = close_right files n s l current a
plan_asks files n others s l current (DelegReturn stateid) = return_right files n s l current stateid
plan_asks files n others s l current (Lock a) = lock_right files n s l current a
plan_asks files n others s l current (LockT a) = test_right files n s l current a
plan_asks files n others s l current (LockU a) = unlock_right files n s l current a
plan_asks files n others s l current (ReleaseLockOwner a) = release_right files n s l current a
plan_asks files n others s l current (NotSupported number) = tt
plan_asks files n others s l current (Illegal number) = tt

-- ---- a request

one_asks : (files : List (List ℕ)) (others n : ℕ) (c : Course) (s : CoreState) (l : NfsLists) (step : Step) → IsAsking files c l.clients step (deeds_of n s (step_plan files others c s l step))
unfolding step_plan
one_asks files others n c s l (Runs op) = of_step n files others c s l op (λ ds. Asked files l.clients c.current op ds) (plan_asks files n others s l c.current op)
one_asks files others n c s l (Garbled number) = refl
one_asks files others n c s l Cut = refl

all_ask : (files : List (List ℕ)) (others n : ℕ) (c : Course) (s : CoreState) (l : NfsLists) (steps : List Step) → AreAllAsking files others n c s l steps (deeds_of n s (compound files others c s l steps))
all_ask files others n c s l [] = refl
all_ask files others n c s l (step ∷ steps) =
    let plan : CoursePlan = step_plan files others c s l step in
    let r = carried n s l plan in
    let next : Course → CoreState → NfsLists → CoursePlan = λ d t m. if goes_on d then compound files others d t m steps else Tells d in
    (deeds_of n s plan, deeds_of n r.3 (next r.0 r.3 r.2), bind_does n s l plan next, one_asks files others n c s l step, more (goes_on r.0) r.0 r.3 r.2 (all_ask files others n r.0 r.3 r.2 steps))
  where
    more : (on : Bool) (d : Course) (t : CoreState) (m : NfsLists) → AreAllAsking files others n d t m steps (deeds_of n t (compound files others d t m steps))
        → (let ds = deeds_of n t (if on then compound files others d t m steps else Tells d) in IfRun on (AreAllAsking files others n d t m steps ds) (ds ≡ []))
    more true d t m rest = rest
    more false d t m rest = refl

call_asks : (n : ℕ) (files : List (List ℕ)) (others : ℕ) (f : FrontNfs) (s : CoreState) (call : Called) → AreAskingBy n files others f s call (call_deeds n files others f s call)
call_asks n files others f s Garbage = refl
call_asks n files others f s Null = refl
call_asks n files others f s (Refused tag status) = refl
call_asks n files others f s (Compound tag steps) = all_ask files others n begun s f.state steps

pub request_asks : (n : ℕ) (exports : Exports) (others : ℕ) (f : FrontNfs) (s : CoreState) (r : RequestItem) → AreRequestAsks n exports others f s r (nfs_deeds n exports others f s r)
request_asks n exports others f s r = call_asks n exports.files others f s (call_in r)

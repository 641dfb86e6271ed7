-- Each stateid has a number that was given out, whatever is asked, expires or goes.
use Rattle.std.proofs.Common.{ℕ, true, false, length, List, [], ◌∷◌, ◌++◌, Option, Some, None, inl, inr}
use Rattle.std.proofs.lemmas.Bool.{cases_Bool}
use Rattle.std.specs.Bool.{◌==◌}
use Rattle.std.specs.List.{find}
use Rattle.std.specs.Prelude.{nat_le}
use Rattle.xl_base.specs.Handles.{file_at}
use Rattle.xl_base.specs.declared.event.Moment.{Moment}
use Rattle.xl_base.specs.declared.journal.Exports.{Exports}
use Rattle.xl_nfs.specs.Clients.{SetClientIdArgsItem}
use Rattle.xl_nfs.specs.Ops.{OpItem, Close, DelegReturn, GetFh, Lock, LockT, LockU, Lookup, Open, OpenConfirm, OpenDowngrade, PutFh, PutRootFh, Renew, SetClientId, SetClientIdConfirm, ReleaseLockOwner, NotSupported, Illegal}
use Rattle.xl_nfs_state.specs.State.{NfsLists, is_client, is_client_named, without_client}
use Rattle.xl_nfs_state.specs.declared.client.ClientRow.{ClientRow}
use Rattle.xl_names.specs.declared.name.Name.TheVariants.{NfsParty}
use Rattle.xl_programs.specs.Programs.{RequestItem}
use Rattle.xl_core.specs.Askers.{party_named}
use Rattle.xl_core.specs.Deeds.{Renews}
use Rattle.xl_core.specs.Good.{IsGood}
use Rattle.xl_core.specs.State.{CoreState}
use Rattle.xl_core.specs.declared.ask.Effect.{Effect}
use Rattle.xl_core.specs.declared.ask.Effect.TheVariants.{Expired}
use Rattle.xl_nfs_laws.proofs.OpenNumberLaws.{AreFew, carried_few, close_few, confirm_few, does_few, downgrade_few, less_given, open_few, return_few}
use Rattle.xl_nfs_laws.proofs.LockNumberLaws.{lock_few, release_few, test_few, unlock_few}
use Rattle.xl_nfs_opens.specs.Files.{file_named}
use Rattle.xl_core.specs.Ids.{number_in}
use Rattle.xl_nfs_laws.specs.StateidNumbers.{AreGivenOut, StayGivenOut}
use Rattle.xl_plan.specs.Plans.{deeds_of}
use Rattle.xl_nfs_opens.specs.Plans.{Plan, carried}
use Rattle.xl_front_nfs.specs.Clients.{come, confirm_found, confirm_held, confirm_number, confirm_over, confirmed_by, draws, ends, has_room, number_kept, renew, renew_found, renew_number, set_by, set_client_id, set_client_id_confirm, without_found, without_named, without_number}
use Rattle.xl_front_nfs.specs.FrontNfs.{Called, Garbage, Null, Refused, Compound, call_in, nfs_step, replied}
use Rattle.xl_front_nfs.specs.Handles.{found_file, get_fh, look_up, put_fh, put_file, put_root_fh}
use Rattle.xl_front_nfs.specs.State.{FrontNfs, empty_nfs_front, forgotten, lists_shown, nfs_shown, nfs_tick}
use Rattle.xl_front_nfs.specs.Steps.{planned}
use Rattle.xl_plan.proofs.PlanLaws.{fit_at, plan_good}
use Rattle.xl_nfs_laws.proofs.RequestDeedLaws.{compound_keeps}
use Rattle.xl_nfs_laws.proofs.RequestOwn.{plan_own}

-- ---- operations on handles

put_few : (last count : ℕ) (l : NfsLists) (current o : Option ℕ) → AreGivenOut last l → AreFew last (put_file count l current o)
put_few last count l current None given = tt
put_few last count l current (Some file) given = elim (cases_Bool (nat_le file count)) [ inl e ↦ rw e (does_few last [] l given) | inr e ↦ rw e tt ]

get_few : (last : ℕ) (l : NfsLists) (current : Option ℕ) → AreGivenOut last l → AreFew last (get_fh l current)
unfolding get_fh
get_few last l None given = tt
get_few last l (Some file) given = does_few last [] l given

found_few : (last : ℕ) (l : NfsLists) (current o : Option ℕ) → AreGivenOut last l → AreFew last (found_file l current o)
found_few last l current None given = tt
found_few last l current (Some file) given = does_few last [] l given

look_few : (last : ℕ) (files : List (List ℕ)) (l : NfsLists) (current : Option ℕ) (name : List ℕ) → AreGivenOut last l → AreFew last (look_up files l current name)
unfolding look_up
look_few last files l None name given = tt
look_few last files l (Some file) name given =
    elim (cases_Bool (file == 0)) [
      | inr e ↦ rw e tt
      | inl e ↦ rw e (elim (cases_Bool (length name == 0)) [
        | inl d ↦ rw d tt
        | inr d ↦ rw d (found_few last l (Some file) (file_named files name) given)
      ])
    ]

-- ---- operations of clients

renew_few : (last : ℕ) (l : NfsLists) (current : Option ℕ) (o : Option ℕ) → AreGivenOut last l → AreFew last (renew_number l current o)
renew_few last l current None given = tt
renew_few last l current (Some number) given = by (find (is_client number true) l.clients)
  where
    by : (o : Option ClientRow) → AreFew last (renew_found l current o)
    by None = tt
    by (Some r) = does_few last (Renews r.id ∷ []) l given

found_given : (last : ℕ) (l : NfsLists) (o : Option ClientRow) → AreGivenOut last l → AreGivenOut last (without_found l o)
found_given last l None given = given
found_given last l (Some r) given = given

set_few : (last : ℕ) (s : CoreState) (l : NfsLists) (current : Option ℕ) (a : SetClientIdArgsItem) (kept : Option ℕ) → AreGivenOut last l → AreFew last (set_by s l current a kept)
set_few last s l current a kept given =
    elim (cases_Bool (has_room l)) [
      | inl e ↦ rw e (does_few last (draws kept) l given)
      | inr e ↦ rw e (does_few last [] l given)
    ]

come_given : (last : ℕ) (l : NfsLists) (number : ℕ) (r : ClientRow) → AreGivenOut last l → AreGivenOut last (come l number r)
come_given last l number r given = less_given last (λ q. number == q.client) l given

over_few : (last : ℕ) (s : CoreState) (l : NfsLists) (current : Option ℕ) (number : ℕ) (r : ClientRow) (o : Option ClientRow) → AreGivenOut last l → AreFew last (confirm_over s l current number r o)
over_few last s l current number r None given = does_few last (Renews r.id ∷ []) (come l number r) (come_given last l number r given)
over_few last s l current number r (Some o) given =
    elim (cases_Bool (o.number == number)) [
      | inl e ↦ rw e (does_few last (Renews r.id ∷ []) l given)
      | inr e ↦ rw e (does_few last (ends (party_named s.names (NfsParty r.id)) ++ Renews r.id ∷ []) (come (without_client o.number l) number r) (come_given last (without_client o.number l) number r (less_given last (λ q. o.number == q.client) l given)))
    ]

held_few : (last : ℕ) (l : NfsLists) (current : Option ℕ) (verifier : List ℕ) (o : Option ClientRow) → AreGivenOut last l → AreFew last (confirm_held l current verifier o)
held_few last l current verifier None given = tt
held_few last l current verifier (Some r) given = does_few last (Renews r.id ∷ []) l given

found_number_few : (last : ℕ) (s : CoreState) (l : NfsLists) (current : Option ℕ) (number : ℕ) (verifier : List ℕ) (o : Option ClientRow) → AreGivenOut last l → AreFew last (confirm_found s l current number verifier o)
found_number_few last s l current number verifier None given = held_few last l current verifier (find (is_client number true) l.clients) given
found_number_few last s l current number verifier (Some r) given =
    let m = without_number number l in
    over_few last s m current number r (find (is_client_named r.id true) m.clients) given

number_few : (last : ℕ) (s : CoreState) (l : NfsLists) (current : Option ℕ) (verifier : List ℕ) (o : Option ℕ) → AreGivenOut last l → AreFew last (confirm_number s l current verifier o)
number_few last s l current verifier None given = tt
number_few last s l current verifier (Some number) given = found_number_few last s l current number verifier (confirmed_by verifier (find (is_client number false) l.clients)) given

-- ---- an operation

item_few : (files : List (List ℕ)) (others : ℕ) (s : CoreState) (l : NfsLists) (current : Option ℕ) (item : OpItem) → AreGivenOut s.counter l → AreFew s.counter (planned files others s l current item)
unfolding planned put_root_fh put_fh renew set_client_id set_client_id_confirm
item_few files others s l current PutRootFh given = does_few s.counter [] l given
item_few files others s l current (PutFh fh) given = put_few s.counter (length files) l current (file_at fh) given
item_few files others s l current GetFh given = get_few s.counter l current given
item_few files others s l current (Lookup name) given = look_few s.counter files l current name given
item_few files others s l current (SetClientId a) given = (let m = without_named a.id l in set_few s.counter s m current a (number_kept a.verifier (find (is_client_named a.id true) m.clients)) (found_given s.counter l (find (is_client_named a.id false) l.clients) given))
item_few files others s l current (SetClientIdConfirm a) given = number_few s.counter s l current a.verifier (number_in s a.clientid) given
item_few files others s l current (Renew clientid) given = renew_few s.counter l current (number_in s clientid) given
item_few files others s l current (Open a) given = open_few files others s l current a given
item_few files others s l current (OpenConfirm a) given = confirm_few s l current a given
item_few files others s l current (OpenDowngrade a) given = downgrade_few s l current a given
item_few files others s l current (Close a) given = close_few s l current a given
item_few files others s l current (DelegReturn stateid) given = return_few s l current stateid given
item_few files others s l current (Lock a) given = lock_few s l current a given
item_few files others s l current (LockT a) given = test_few s l current a given
item_few files others s l current (LockU a) given = unlock_few s l current a given
item_few files others s l current (ReleaseLockOwner a) given = release_few s l current a given
item_few files others s l current (Illegal number) given = tt
item_few files others s l current (NotSupported number) given = tt

pub item_given : (n : ℕ) (files : List (List ℕ)) (others : ℕ) (s : CoreState) (l : NfsLists) (current : Option ℕ) (item : OpItem) → IsGood s → AreGivenOut s.counter l → StayGivenOut s (carried n s l (planned files others s l current item))
item_given n files others s l current item good given = carried_few n s l (planned files others s l current item) _ good (plan_own n files others s l current item good) given (item_few files others s l current item given)

pub item_good : (n : ℕ) (files : List (List ℕ)) (others : ℕ) (s : CoreState) (l : NfsLists) (current : Option ℕ) (item : OpItem) → IsGood s → IsGood (carried n s l (planned files others s l current item)).4
item_good n files others s l current item good =
    let plan : Plan = planned files others s l current item in
    plan_good n s l plan good (fit_at n s (deeds_of n s plan) (plan_own n files others s l current item good).0)

-- ---- a request

-- the state is good, and stateids have numbers that were given out
abbrev IsNumbered : CoreState → NfsLists → Type 0
IsNumbered s l = IsGood s × AreGivenOut s.counter l

call_given : (n : ℕ) (files : List (List ℕ)) (others : ℕ) (f : FrontNfs) (s : CoreState) (xid : ℕ) (called : Called) → IsGood s → AreGivenOut s.counter f.state → AreGivenOut (replied n files others f s xid called).3.counter (replied n files others f s xid called).2.state
call_given n files others f s xid (Compound tag steps) good given = (compound_keeps IsNumbered n files others s f.state steps (λ t m current op is. (item_good n files others t m current op is.0, (item_given n files others t m current op is.0 is.1).1)) (good, given)).1
call_given n files others f s xid Garbage good given = given
call_given n files others f s xid Null good given = given
call_given n files others f s xid (Refused tag status) good given = given

pub request_given : (n : ℕ) (exports : Exports) (others : ℕ) (f : FrontNfs) (s : CoreState) (conn : ℕ) (r : RequestItem) → IsGood s → AreGivenOut s.counter f.state → AreGivenOut (nfs_step n exports others f s conn r).3.counter (nfs_step n exports others f s conn r).2.state
unfolding nfs_step
request_given n exports others f s conn r good given = call_given n exports.files others f s r.xid (call_in r) good given

-- ---- a start, and time

pub start_given : (last : ℕ) → AreGivenOut last empty_nfs_front.state
start_given last = tt

pub tick_given : (last : ℕ) (f : FrontNfs) (now : Moment) → AreGivenOut last f.state → AreGivenOut last (nfs_tick f now).state
unfolding nfs_tick
tick_given last f now given = given

forgotten_given : (last : ℕ) (l : NfsLists) (o : Option ClientRow) → AreGivenOut last l → AreGivenOut last (forgotten l o)
forgotten_given last l None given = given
forgotten_given last l (Some r) given = less_given last (λ q. r.number == q.client) l given

shown_by : (last : ℕ) (l : NfsLists) (effect : Effect) → AreGivenOut last l → AreGivenOut last (lists_shown l effect)
shown_by last l (Expired id) given = forgotten_given last l (find (is_client_named id true) l.clients) given
shown_by last l effect given = given

pub shown_given : (last : ℕ) (f : FrontNfs) (effect : Effect) → AreGivenOut last f.state → AreGivenOut last (nfs_shown f effect).state
unfolding nfs_shown
shown_given last f effect given = shown_by last f.state effect given

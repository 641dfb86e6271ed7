-- Owners and stateids stay orderly, whatever is asked, expires or goes; and which owners stay as they are.
use Rattle.std.proofs.Common.{◌≡◌, ℕ, true, false, not, length, List, Option, Some, None, Ok, Err, refl, inl, inr, true≢false}
use Rattle.std.proofs.lemmas.Bool.{cases_Bool}
use Rattle.std.specs.Bool.{◌==◌}
use Rattle.std.specs.List.{find}
use Rattle.std.specs.Prelude.{nat_le}
use Rattle.xl_base.proofs.Members.{in_filter_from}
use Rattle.xl_base.specs.Handles.{file_at}
use Rattle.xl_base.specs.Lists.{IsIn}
use Rattle.xl_base.specs.declared.event.Moment.{Moment}
use Rattle.xl_base.specs.declared.journal.Exports.{Exports}
use Rattle.xl_nfs.specs.Basics.{OwnerItem}
use Rattle.xl_nfs.specs.Clients.{SetClientIdArgsItem}
use Rattle.xl_nfs.specs.Locks.{LockTestArgsItem}
use Rattle.xl_nfs.specs.Ops.{OpItem, Close, DelegReturn, GetFh, Lock, LockT, LockU, Lookup, Open, OpenConfirm, OpenDowngrade, PutFh, PutRootFh, Renew, SetClientId, SetClientIdConfirm, ReleaseLockOwner, NotSupported, Illegal}
use Rattle.xl_nfs_state.specs.State.{NfsLists, is_client, is_client_named, is_owner, is_owner_named, without_client}
use Rattle.xl_nfs_state.specs.declared.client.ClientRow.{ClientRow}
use Rattle.xl_nfs_state.specs.declared.owner.OwnerKind.TheVariants as kinds
use Rattle.xl_nfs_state.specs.declared.owner.OwnerRow.{OwnerRow}
use Rattle.xl_programs.specs.Programs.{RequestItem}
use Rattle.xl_core.specs.Deeds.{all_done}
use Rattle.xl_core.specs.State.{CoreState}
use Rattle.xl_core.specs.declared.ask.Effect.{Effect}
use Rattle.xl_core.specs.declared.ask.Effect.TheVariants.{Expired}
use Rattle.xl_plan.proofs.PlanLaws.{kept_so}
use Rattle.xl_nfs_laws.proofs.OpenOrderLaws.{Keeps, close_keeps, confirm_keeps, downgrade_keeps, open_keeps, return_keeps, same_orderly}
use Rattle.xl_nfs_laws.proofs.ListOrderLaws.{client_goes}
use Rattle.xl_nfs_laws.proofs.LockOrderLaws.{lock_keeps, release_keeps, test_keeps, unlock_keeps}
use Rattle.xl_nfs_locks.specs.Ranges.{last_byte}
use Rattle.xl_nfs_locks.specs.Releases.{holds_any, release, release_of, released, without_found as without_owner_found}
use Rattle.xl_nfs_locks.specs.Tests.{lock_test, locker_of, test_at, test_of, test_to}
use Rattle.xl_nfs_opens.specs.Closing.{Returning, deleg_return, return_done, returned}
use Rattle.xl_nfs_opens.specs.Files.{file_named}
use Rattle.xl_core.specs.Ids.{number_in}
use Rattle.xl_nfs_laws.specs.Orderly.{IsOrderly}
use Rattle.xl_nfs_opens.specs.Plans.{carried}
use Rattle.xl_nfs_opens.specs.Opens.{client_in}
use Rattle.xl_nfs_opens.specs.Renewing.{renewals, state_client}
use Rattle.xl_front_nfs.specs.Clients.{come, come_again, confirm_found, confirm_held, confirm_number, confirm_over, confirmed_by, has_room, number_kept, renew, renew_found, renew_number, set_by, set_client_id, set_client_id_confirm, without_found, without_named, without_number}
use Rattle.xl_front_nfs.specs.FrontNfs.{Called, Garbage, Null, Refused, Compound, call_in, nfs_step, replied}
use Rattle.xl_front_nfs.specs.Handles.{found_file, get_fh, look_up, put_fh, put_file, put_root_fh}
use Rattle.xl_nfs_laws.specs.OwnerRequests.{has_seqid}
use Rattle.xl_front_nfs.specs.State.{FrontNfs, forgotten, lists_shown, nfs_shown, nfs_tick}
use Rattle.xl_front_nfs.specs.Steps.{planned}
use Rattle.xl_nfs_laws.proofs.RequestDeedLaws.{compound_keeps}

-- ---- operations on handles

put_keeps : (count : ℕ) (l : NfsLists) (current o : Option ℕ) → IsOrderly l → Keeps (put_file count l current o)
put_keeps count l current None orderly = tt
put_keeps count l current (Some file) orderly = elim (cases_Bool (nat_le file count)) [ inl e ↦ rw e orderly | inr e ↦ rw e tt ]

get_keeps : (l : NfsLists) (current : Option ℕ) → IsOrderly l → Keeps (get_fh l current)
unfolding get_fh
get_keeps l None orderly = tt
get_keeps l (Some file) orderly = orderly

found_keeps : (l : NfsLists) (current o : Option ℕ) → IsOrderly l → Keeps (found_file l current o)
found_keeps l current None orderly = tt
found_keeps l current (Some file) orderly = orderly

look_keeps : (files : List (List ℕ)) (l : NfsLists) (current : Option ℕ) (name : List ℕ) → IsOrderly l → Keeps (look_up files l current name)
unfolding look_up
look_keeps files l None name orderly = tt
look_keeps files l (Some file) name orderly =
    elim (cases_Bool (file == 0)) [
      | inr e ↦ rw e tt
      | inl e ↦ rw e (elim (cases_Bool (length name == 0)) [
        | inl d ↦ rw d tt
        | inr d ↦ rw d (found_keeps l (Some file) (file_named files name) orderly)
      ])
    ]

-- ---- operations of clients

renew_keeps : (l : NfsLists) (current : Option ℕ) (o : Option ℕ) → IsOrderly l → Keeps (renew_number l current o)
renew_keeps l current None orderly = tt
renew_keeps l current (Some number) orderly = by (find (is_client number true) l.clients)
  where
    by : (o : Option ClientRow) → Keeps (renew_found l current o)
    by None = tt
    by (Some r) = orderly

without_orderly : (l : NfsLists) (o : Option ClientRow) → IsOrderly l → IsOrderly (without_found l o)
without_orderly l None orderly = orderly
without_orderly l (Some r) orderly = same_orderly l _ refl refl orderly

set_keeps : (s : CoreState) (l : NfsLists) (current : Option ℕ) (a : SetClientIdArgsItem) (kept : Option ℕ) → IsOrderly l → Keeps (set_by s l current a kept)
set_keeps s l current a kept orderly =
    elim (cases_Bool (has_room l)) [
      | inl e ↦ rw e (same_orderly l _ refl refl orderly)
      | inr e ↦ rw e orderly
    ]

come_orderly : (l : NfsLists) (number : ℕ) (r : ClientRow) → IsOrderly l → IsOrderly (come l number r)
come_orderly l number r orderly = same_orderly (without_client number l) (come l number r) refl refl (client_goes l number orderly)

over_keeps : (s : CoreState) (l : NfsLists) (current : Option ℕ) (number : ℕ) (r : ClientRow) (o : Option ClientRow) → IsOrderly l → Keeps (confirm_over s l current number r o)
over_keeps s l current number r None orderly = come_orderly l number r orderly
over_keeps s l current number r (Some o) orderly =
    elim (cases_Bool (o.number == number)) [
      | inl e ↦ rw e (same_orderly l (come_again l number r) refl refl orderly)
      | inr e ↦ rw e (come_orderly (without_client o.number l) number r (client_goes l o.number orderly))
    ]

held_keeps : (l : NfsLists) (current : Option ℕ) (verifier : List ℕ) (o : Option ClientRow) → IsOrderly l → Keeps (confirm_held l current verifier o)
held_keeps l current verifier None orderly = tt
held_keeps l current verifier (Some r) orderly = orderly

found_number_keeps : (s : CoreState) (l : NfsLists) (current : Option ℕ) (number : ℕ) (verifier : List ℕ) (o : Option ClientRow) → IsOrderly l → Keeps (confirm_found s l current number verifier o)
found_number_keeps s l current number verifier None orderly = held_keeps l current verifier (find (is_client number true) l.clients) orderly
found_number_keeps s l current number verifier (Some r) orderly =
    let m = without_number number l in
    over_keeps s m current number r (find (is_client_named r.id true) m.clients) (same_orderly l m refl refl orderly)

number_keeps : (s : CoreState) (l : NfsLists) (current : Option ℕ) (verifier : List ℕ) (o : Option ℕ) → IsOrderly l → Keeps (confirm_number s l current verifier o)
number_keeps s l current verifier None orderly = tt
number_keeps s l current verifier (Some number) orderly = found_number_keeps s l current number verifier (confirmed_by verifier (find (is_client number false) l.clients)) orderly

-- ---- an operation

item_keeps : (files : List (List ℕ)) (others : ℕ) (s : CoreState) (l : NfsLists) (current : Option ℕ) (item : OpItem) → IsOrderly l → Keeps (planned files others s l current item)
unfolding planned put_root_fh put_fh renew set_client_id set_client_id_confirm
item_keeps files others s l current PutRootFh orderly = orderly
item_keeps files others s l current (PutFh fh) orderly = put_keeps (length files) l current (file_at fh) orderly
item_keeps files others s l current GetFh orderly = get_keeps l current orderly
item_keeps files others s l current (Lookup name) orderly = look_keeps files l current name orderly
item_keeps files others s l current (SetClientId a) orderly = (let m = without_named a.id l in set_keeps s m current a (number_kept a.verifier (find (is_client_named a.id true) m.clients)) (without_orderly l (find (is_client_named a.id false) l.clients) orderly))
item_keeps files others s l current (SetClientIdConfirm a) orderly = number_keeps s l current a.verifier (number_in s a.clientid) orderly
item_keeps files others s l current (Renew clientid) orderly = renew_keeps l current (number_in s clientid) orderly
item_keeps files others s l current (Open a) orderly = open_keeps files others s l current a orderly
item_keeps files others s l current (OpenConfirm a) orderly = confirm_keeps s l current a orderly
item_keeps files others s l current (OpenDowngrade a) orderly = downgrade_keeps s l current a orderly
item_keeps files others s l current (Close a) orderly = close_keeps s l current a orderly
item_keeps files others s l current (DelegReturn stateid) orderly = return_keeps s l current stateid orderly
item_keeps files others s l current (Lock a) orderly = lock_keeps s l current a orderly
item_keeps files others s l current (LockT a) orderly = test_keeps s l current a orderly
item_keeps files others s l current (LockU a) orderly = unlock_keeps s l current a orderly
item_keeps files others s l current (ReleaseLockOwner a) orderly = release_keeps s l current a orderly
item_keeps files others s l current (Illegal number) orderly = tt
item_keeps files others s l current (NotSupported number) orderly = tt

-- ---- a request

pub item_orderly : (n : ℕ) (files : List (List ℕ)) (others : ℕ) (s : CoreState) (l : NfsLists) (current : Option ℕ) (item : OpItem) → IsOrderly l → IsOrderly (carried n s l (planned files others s l current item)).3
item_orderly n files others s l current item orderly = kept_so IsOrderly n s l (planned files others s l current item) orderly (item_keeps files others s l current item orderly)

call_orderly : (n : ℕ) (files : List (List ℕ)) (others : ℕ) (f : FrontNfs) (s : CoreState) (xid : ℕ) (called : Called) → IsOrderly f.state → IsOrderly (replied n files others f s xid called).2.state
call_orderly n files others f s xid (Compound tag steps) orderly = compound_keeps (λ t m. IsOrderly m) n files others s f.state steps (λ t m current op is. item_orderly n files others t m current op is) orderly
call_orderly n files others f s xid Garbage orderly = orderly
call_orderly n files others f s xid Null orderly = orderly
call_orderly n files others f s xid (Refused tag status) orderly = orderly

pub request_orderly : (n : ℕ) (exports : Exports) (others : ℕ) (f : FrontNfs) (s : CoreState) (conn : ℕ) (r : RequestItem) → IsOrderly f.state → IsOrderly (nfs_step n exports others f s conn r).2.state
unfolding nfs_step
request_orderly n exports others f s conn r orderly = call_orderly n exports.files others f s r.xid (call_in r) orderly

-- ---- time

pub tick_orderly : (f : FrontNfs) (now : Moment) → IsOrderly f.state → IsOrderly (nfs_tick f now).state
unfolding nfs_tick
tick_orderly f now orderly = same_orderly f.state (nfs_tick f now).state refl refl orderly

forgotten_orderly : (l : NfsLists) (o : Option ClientRow) → IsOrderly l → IsOrderly (forgotten l o)
forgotten_orderly l None orderly = orderly
forgotten_orderly l (Some r) orderly = client_goes l r.number orderly

shown_by : (l : NfsLists) (effect : Effect) → IsOrderly l → IsOrderly (lists_shown l effect)
shown_by l (Expired id) orderly = forgotten_orderly l (find (is_client_named id true) l.clients) orderly
shown_by l effect orderly = orderly

pub shown_orderly : (f : FrontNfs) (effect : Effect) → IsOrderly f.state → IsOrderly (nfs_shown f effect).state
unfolding nfs_shown
shown_orderly f effect orderly = shown_by f.state effect orderly

-- ---- owners that stay as they are

-- whatever it comes to, each owner stood so before
abbrev Stood : NfsLists → NfsLists → Type 0
Stood l m = (o : OwnerRow) → IsIn o m.owners → IsIn o l.owners

come_stood : (l : NfsLists) (number : ℕ) (r : ClientRow) → Stood l (come l number r)
come_stood l number r o here = (in_filter_from (λ x. not (number == x.name.client)) o l.owners here).0

over_stood : (n : ℕ) (s : CoreState) (l m : NfsLists) (current : Option ℕ) (number : ℕ) (r : ClientRow) (x : Option ClientRow) → Stood l m → Stood l (carried n s l (confirm_over s m current number r x)).3
over_stood n s l m current number r None stood = λ o here. stood o (come_stood m number r o here)
over_stood n s l m current number r (Some x) stood =
    elim (cases_Bool (x.number == number)) [
      | inl e ↦ rw e stood
      | inr e ↦ rw e (λ o here. stood o (in_filter_from (λ y. not (x.number == y.name.client)) o m.owners (come_stood (without_client x.number m) number r o here)).0)
    ]

held_stood : (n : ℕ) (s : CoreState) (l : NfsLists) (current : Option ℕ) (verifier : List ℕ) (x : Option ClientRow) → Stood l (carried n s l (confirm_held l current verifier x)).3
held_stood n s l current verifier None = λ o here. here
held_stood n s l current verifier (Some r) = λ o here. here

number_stood : (n : ℕ) (s : CoreState) (l : NfsLists) (current : Option ℕ) (verifier : List ℕ) (x : Option ℕ) → Stood l (carried n s l (confirm_number s l current verifier x)).3
number_stood n s l current verifier None = λ o here. here
number_stood n s l current verifier (Some number) = by (confirmed_by verifier (find (is_client number false) l.clients))
  where
    by : (x : Option ClientRow) → Stood l (carried n s l (confirm_found s l current number verifier x)).3
    by None = held_stood n s l current verifier (find (is_client number true) l.clients)
    by (Some r) = (let m = without_number number l in over_stood n s l m current number r (find (is_client_named r.id true) m.clients) (λ o here. here))

put_stood : (n : ℕ) (s : CoreState) (count : ℕ) (l : NfsLists) (current : Option ℕ) (x : Option ℕ) → Stood l (carried n s l (put_file count l current x)).3
put_stood n s count l current None = λ o here. here
put_stood n s count l current (Some file) = elim (cases_Bool (nat_le file count)) [ inl e ↦ rw e (λ o here. here) | inr e ↦ rw e (λ o here. here) ]

get_stood : (n : ℕ) (s : CoreState) (l : NfsLists) (current : Option ℕ) → Stood l (carried n s l (get_fh l current)).3
unfolding get_fh
get_stood n s l None = λ o here. here
get_stood n s l (Some file) = λ o here. here

look_stood : (n : ℕ) (s : CoreState) (files : List (List ℕ)) (l : NfsLists) (current : Option ℕ) (name : List ℕ) → Stood l (carried n s l (look_up files l current name)).3
unfolding look_up
look_stood n s files l None name = λ o here. here
look_stood n s files l (Some file) name =
    elim (cases_Bool (file == 0)) [
      | inr e ↦ rw e (λ o here. here)
      | inl e ↦ rw e (elim (cases_Bool (length name == 0)) [
        | inl d ↦ rw d (λ o here. here)
        | inr d ↦ rw d (by (file_named files name))
      ])
    ]
  where
    by : (x : Option ℕ) → Stood l (carried n s l (found_file l (Some file) x)).3
    by None = λ o here. here
    by (Some found) = λ o here. here

set_stood : (n : ℕ) (s : CoreState) (l m : NfsLists) (current : Option ℕ) (a : SetClientIdArgsItem) (kept : Option ℕ) → Stood l m → Stood l (carried n s l (set_by s m current a kept)).3
set_stood n s l m current a kept stood =
    elim (cases_Bool (has_room m)) [
      | inl e ↦ rw e stood
      | inr e ↦ rw e stood
    ]

without_stood : (l : NfsLists) (x : Option ClientRow) → Stood l (without_found l x)
without_stood l None = λ o here. here
without_stood l (Some r) = λ o here. here

renew_stood : (n : ℕ) (s : CoreState) (l : NfsLists) (current : Option ℕ) (x : Option ℕ) → Stood l (carried n s l (renew_number l current x)).3
renew_stood n s l current None = λ o here. here
renew_stood n s l current (Some number) = by (find (is_client number true) l.clients)
  where
    by : (x : Option ClientRow) → Stood l (carried n s l (renew_found l current x)).3
    by None = λ o here. here
    by (Some r) = λ o here. here

test_stood : (n : ℕ) (s : CoreState) (l : NfsLists) (current : Option ℕ) (a : LockTestArgsItem) → Stood l (carried n s l (lock_test s l current a)).3
unfolding lock_test
test_stood n s l current a = λ o here. looked o current here
  where
    t : CoreState
    t = all_done n s (renewals l (number_in s a.owner.clientid))

    to : (at : ℕ) (c : ClientRow) (last : Option ℕ) → Stood l (carried n t l (test_to l (Some at) a at (locker_of c a.owner.owner) last)).3
    to at c None = λ o here. here
    to at c (Some last) = λ o here. here

    of : (at : ℕ) (c : Option ClientRow) → Stood l (carried n t l (test_of l (Some at) a at c)).3
    of at None = λ o here. here
    of at (Some c) = to at c (last_byte a.offset a.len)

    looked : (o : OwnerRow) (current : Option ℕ) → IsIn o (carried n t l (test_at t l a current)).3.owners → IsIn o l.owners
    looked o None here = here
    looked o (Some number) here = elim (cases_Bool (number == 0)) [ inl e ↦ (rw e at here) | inr e ↦ of number (client_in t l a.owner.clientid) o (rw e at here) ]

release_stood : (n : ℕ) (s : CoreState) (l : NfsLists) (current : Option ℕ) (a : OwnerItem) → Stood l (carried n s l (release s l current a)).3
unfolding release released
release_stood n s l current a = λ o here. by (client_in t l a.clientid) o here
  where
    t : CoreState
    t = all_done n s (renewals l (number_in s a.clientid))

    gone : (x : Option OwnerRow) → Stood l (without_owner_found l x)
    gone None = λ o here. here
    gone (Some r) = λ o here. (in_filter_from (λ y. not (is_owner r.number y)) o l.owners here).0

    by : (c : Option ClientRow) → Stood l (carried n t l (release_of t l current a.owner c)).3
    by None = λ o here. here
    by (Some c) =
        elim (cases_Bool (holds_any t c.id a.owner)) [
          | inl e ↦ rw e (λ o here. here)
          | inr e ↦ rw e (gone (find (is_owner_named c.number kinds.Lock a.owner) l.owners))
        ]

return_stood : (n : ℕ) (s : CoreState) (l : NfsLists) (current : Option ℕ) (x : Returning) → Stood l (carried n s l (return_done s l current x)).3
return_stood n s l current (Err status) = λ o here. here
return_stood n s l current (Ok r) = λ o here. here

pub others_stood : (n : ℕ) (files : List (List ℕ)) (others : ℕ) (s : CoreState) (l : NfsLists) (current : Option ℕ) (item : OpItem) (o : OwnerRow) → has_seqid item ≡ false → IsIn o (carried n s l (planned files others s l current item)).3.owners → IsIn o l.owners
unfolding planned put_root_fh put_fh renew set_client_id set_client_id_confirm deleg_return
others_stood n files others s l current PutRootFh o none here = here
others_stood n files others s l current (PutFh fh) o none here = put_stood n s (length files) l current (file_at fh) o here
others_stood n files others s l current GetFh o none here = get_stood n s l current o here
others_stood n files others s l current (Lookup name) o none here = look_stood n s files l current name o here
others_stood n files others s l current (SetClientId a) o none here = (let m = without_named a.id l in set_stood n s l m current a (number_kept a.verifier (find (is_client_named a.id true) m.clients)) (without_stood l (find (is_client_named a.id false) l.clients)) o here)
others_stood n files others s l current (SetClientIdConfirm a) o none here = number_stood n s l current a.verifier (number_in s a.clientid) o here
others_stood n files others s l current (Renew clientid) o none here = renew_stood n s l current (number_in s clientid) o here
others_stood n files others s l current (Open a) o none here = absurd (true≢false none)
others_stood n files others s l current (OpenConfirm a) o none here = absurd (true≢false none)
others_stood n files others s l current (OpenDowngrade a) o none here = absurd (true≢false none)
others_stood n files others s l current (Close a) o none here = absurd (true≢false none)
others_stood n files others s l current (DelegReturn stateid) o none here =
    let t = all_done n s (renewals l (state_client s l stateid)) in
    return_stood n t l current (returned t l current stateid) o here
others_stood n files others s l current (Lock a) o none here = absurd (true≢false none)
others_stood n files others s l current (LockT a) o none here = test_stood n s l current a o here
others_stood n files others s l current (LockU a) o none here = absurd (true≢false none)
others_stood n files others s l current (ReleaseLockOwner a) o none here = release_stood n s l current a o here
others_stood n files others s l current (Illegal number) o none here = here
others_stood n files others s l current (NotSupported number) o none here = here

-- How operations end: what they tell has a spelling, and one that isn't OK leaves the current handle.
use Rattle.std.proofs.Common.{◌≡◌, ℕ, ◌<◌, ◌^◌, true, false, length, List, Option, Some, None, refl, inl, inr, arith}
use Rattle.std.proofs.lemmas.Bool.{cases_Bool, true≢false}
use Rattle.std.specs.Bool.{◌==◌}
use Rattle.std.specs.List.{find}
use Rattle.std.specs.Prelude.{nat_le, bytes_eq, if◌then◌else◌}
use Rattle.xl_base.specs.Handles.{file_at}
use Rattle.xl_nfs.specs.Clients.{SetClientIdArgsItem}
use Rattle.xl_nfs.specs.Ops.{OpItem, Close, DelegReturn, GetFh, Lock, LockT, LockU, Lookup, Open, OpenConfirm, OpenDowngrade, PutFh, PutRootFh, Renew, SetClientId, SetClientIdConfirm, ReleaseLockOwner, NotSupported, Illegal, op_number, OpFits, op}
use Rattle.xl_nfs.specs.Outcomes.{is_ok}
use Rattle.xl_nfs.specs.declared.status.NfsStatus.TheVariants as statuses
use Rattle.xl_nfs_state.specs.State.{NfsLists, is_client, is_client_named}
use Rattle.xl_nfs_state.specs.declared.client.ClientRow.{ClientRow}
use Rattle.xl_core.specs.State.{CoreState}
use Rattle.xl_front_nfs.specs.Clients.{renew_found, renew_number, renew, number_kept, has_room, set_by, without_named, set_client_id, without_number, confirm_over, confirm_held, confirmed_by, confirm_found, confirm_number, set_client_id_confirm}
use Rattle.xl_nfs_locks.proofs.EndLaws.{lock_ends, test_ends, unlock_ends, release_ends}
use Rattle.xl_core.specs.Ids.{number_in}
use Rattle.xl_front_nfs.specs.Handles.{put_root_fh, put_file, put_fh, get_fh, found_file, look_up}
use Rattle.xl_nfs_opens.specs.Files.{file_named}
use Rattle.xl_plan.proofs.PlanLaws.{ends_so}
use Rattle.xl_nfs_opens.proofs.EndLaws.{Well, Ends, fault, ended, open_ends, confirm_ends, downgrade_ends, close_ends, return_ends}
use Rattle.xl_nfs_opens.specs.Plans.{carried, status_of}
use Rattle.xl_nfs_opens.specs.Results.{ToldFits}
use Rattle.xl_front_nfs.specs.Steps.{planned}
use Rattle.xl_nfs_opens.specs.declared.told.Told.TheVariants.{Ended}
use Rattle.xl_nfs_opens.proofs.ResultLaws.{fault_fits, plain_15, plain_22, plain_24, plain_30, plain_36}

put_ends : (count : ℕ) (l : NfsLists) (current o : Option ℕ) → Ends 22 current (put_file count l current o)
put_ends count l current None = (plain_22 statuses.BadHandle, λ _. refl)
put_ends count l current (Some file) =
    elim (cases_Bool (nat_le file count)) [
      | inl e ↦ rw e (plain_22 statuses.Ok, λ no. absurd (true≢false no))
      | inr e ↦ rw e (plain_22 statuses.Stale, λ _. refl)
    ]

get_ends : (l : NfsLists) (current : Option ℕ) → Ends 10 current (get_fh l current)
unfolding get_fh
get_ends l None = ended 10 (omega arith) None statuses.NoFileHandle (fault statuses.NoFileHandle refl refl)
get_ends l (Some file) = (tt, λ _. refl)

found_ends : (l : NfsLists) (current o : Option ℕ) → Ends 15 current (found_file l current o)
found_ends l current None = (plain_15 statuses.NoEnt, λ _. refl)
found_ends l current (Some file) = (plain_15 statuses.Ok, λ no. absurd (true≢false no))

look_ends : (files : List (List ℕ)) (l : NfsLists) (current : Option ℕ) (name : List ℕ) → Ends 15 current (look_up files l current name)
unfolding look_up
look_ends files l None name = (plain_15 statuses.NoFileHandle, λ _. refl)
look_ends files l (Some file) name =
    elim (cases_Bool (file == 0)) [
      | inr e ↦ rw e (plain_15 statuses.NotDir, λ _. refl)
      | inl e ↦ rw e (elim (cases_Bool (length name == 0)) [
        | inl d ↦ rw d (plain_15 statuses.Inval, λ _. refl)
        | inr d ↦ rw d (found_ends l (Some file) (file_named files name))
      ])
    ]

renew_ends : (l : NfsLists) (current o : Option ℕ) → Ends 30 current (renew_number l current o)
renew_ends l current None = (plain_30 statuses.StaleClientId, λ _. refl)
renew_ends l current (Some number) = by (find (is_client number true) l.clients)
  where
    by : (o : Option ClientRow) → Ends 30 current (renew_found l current o)
    by None = (plain_30 statuses.StaleClientId, λ _. refl)
    by (Some r) = (plain_30 statuses.Ok, λ _. refl)

set_ends : (s : CoreState) (l : NfsLists) (current : Option ℕ) (a : SetClientIdArgsItem) (kept : Option ℕ) → Ends 35 current (set_by s l current a kept)
set_ends s l current a kept =
    elim (cases_Bool (has_room l)) [
      | inl e ↦ rw e (tt, λ _. refl)
      | inr e ↦ rw e (ended 35 (omega arith) current statuses.Resource (fault statuses.Resource refl refl))
    ]

over_ends : (s : CoreState) (l : NfsLists) (current : Option ℕ) (number : ℕ) (r : ClientRow) (o : Option ClientRow) → Ends 36 current (confirm_over s l current number r o)
over_ends s l current number r None = (plain_36 statuses.Ok, λ _. refl)
over_ends s l current number r (Some o) =
    elim (cases_Bool (o.number == number)) [
      | inl e ↦ rw e (plain_36 statuses.Ok, λ _. refl)
      | inr e ↦ rw e (plain_36 statuses.Ok, λ _. refl)
    ]

held_ends : (l : NfsLists) (current : Option ℕ) (verifier : List ℕ) (o : Option ClientRow) → Ends 36 current (confirm_held l current verifier o)
held_ends l current verifier None = (plain_36 statuses.StaleClientId, λ _. refl)
held_ends l current verifier (Some r) = (plain_36 (if bytes_eq r.details.confirm verifier then statuses.Ok else statuses.StaleClientId), λ _. refl)

confirmed_ends : (s : CoreState) (l : NfsLists) (current : Option ℕ) (number : ℕ) (verifier : List ℕ) (o : Option ClientRow) → Ends 36 current (confirm_found s l current number verifier o)
confirmed_ends s l current number verifier None = held_ends l current verifier (find (is_client number true) l.clients)
confirmed_ends s l current number verifier (Some r) = over_ends s (without_number number l) current number r (find (is_client_named r.id true) (without_number number l).clients)

number_ends : (s : CoreState) (l : NfsLists) (current : Option ℕ) (verifier : List ℕ) (o : Option ℕ) → Ends 36 current (confirm_number s l current verifier o)
number_ends s l current verifier None = (plain_36 statuses.StaleClientId, λ _. refl)
number_ends s l current verifier (Some number) = confirmed_ends s l current number verifier (confirmed_by verifier (find (is_client number false) l.clients))

pub plan_ends : (files : List (List ℕ)) (others : ℕ) (s : CoreState) (l : NfsLists) (current : Option ℕ) (item : OpItem) → op_number item < 2 ^ 32 → Ends (op_number item) current (planned files others s l current item)
unfolding planned put_root_fh put_fh renew set_client_id set_client_id_confirm
plan_ends files others s l current PutRootFh le = (plain_24 statuses.Ok, λ no. absurd (true≢false no))
plan_ends files others s l current (PutFh fh) le = put_ends (length files) l current (file_at fh)
plan_ends files others s l current GetFh le = get_ends l current
plan_ends files others s l current (Lookup name) le = look_ends files l current name
plan_ends files others s l current (SetClientId a) le =
    let m = without_named a.id l in
    set_ends s m current a (number_kept a.verifier (find (is_client_named a.id true) m.clients))
plan_ends files others s l current (SetClientIdConfirm a) le = number_ends s l current a.verifier (number_in s a.clientid)
plan_ends files others s l current (Renew clientid) le = renew_ends l current (number_in s clientid)
plan_ends files others s l current (Open a) le = open_ends files others s l current a
plan_ends files others s l current (OpenConfirm a) le = confirm_ends s l current a
plan_ends files others s l current (OpenDowngrade a) le = downgrade_ends s l current a
plan_ends files others s l current (Close a) le = close_ends s l current a
plan_ends files others s l current (DelegReturn stateid) le = return_ends s l current stateid
plan_ends files others s l current (Lock a) le = lock_ends s l current a
plan_ends files others s l current (LockT a) le = test_ends s l current a
plan_ends files others s l current (LockU a) le = unlock_ends s l current a
plan_ends files others s l current (ReleaseLockOwner a) le = release_ends s l current a
plan_ends files others s l current (Illegal number) le = ended number le current statuses.OpIllegal (fault statuses.OpIllegal refl refl)
plan_ends files others s l current (NotSupported number) le = ended number le current statuses.NotSupp (fault statuses.NotSupp refl refl)

-- what it tells has a spelling, and where it isn't OK the current handle stays
pub plan_well : (n : ℕ) (files : List (List ℕ)) (others : ℕ) (s : CoreState) (l : NfsLists) (current : Option ℕ) (item : OpItem) → op_number item < 2 ^ 32
    → (let r = carried n s l (planned files others s l current item) in ToldFits (op_number item) r.0 × (is_ok (status_of r.0) ≡ false → r.1 ≡ current))
plan_well n files others s l current item le = ends_so (Well (op_number item) current) n s l (planned files others s l current item) (plan_ends files others s l current item le)

-- of an operation that was read the number is one of 32 bits
pub number_small : (item : OpItem) → OpFits item → op_number item < 2 ^ 32
unfolding op
number_small item fits = fits.0

pub garbled_fits : (number : ℕ) → number < 2 ^ 32 → ToldFits number (Ended statuses.BadXdr)
garbled_fits number le = fault_fits number statuses.BadXdr le (record { ok = refl; denied = refl })

-- An operation renews each confirmed client that it names.
use Rattle.std.proofs.Common.{◌≡◌, ℕ, true, false, List, [], ◌∷◌, ◌++◌, Option, Some, None, option_map, refl, ap, ◌∙◌, inl, inr}
use Rattle.std.proofs.lemmas.Bool.{cases_Bool}
use Rattle.std.proofs.lemmas.Option.{same_Some}
use Rattle.std.specs.Bool.{◌==◌}
use Rattle.std.specs.List.{find}
use Rattle.std.specs.Option.{option_and_then}
use Rattle.xl_base.proofs.Members.{in_append_left, in_append_right}
use Rattle.xl_base.specs.Lists.{IsIn}
use Rattle.xl_names.specs.declared.name.Name.TheVariants.{NfsParty}
use Rattle.xl_nfs.specs.Locks.{LockArgsItem, LockerItem, New, Known}
use Rattle.xl_nfs.specs.Opens.{OpenArgsItem, OpenClaimItem, Null, Previous, DelegateCurrent, DelegatePrevious}
use Rattle.xl_nfs.specs.Ops.{OpItem, Close, DelegReturn, GetFh, Lock, LockT, LockU, Lookup, Open, OpenConfirm, OpenDowngrade, PutFh, PutRootFh, Renew, SetClientId, SetClientIdConfirm, ReleaseLockOwner, NotSupported, Illegal}
use Rattle.xl_nfs_state.specs.State.{NfsLists, is_client, is_client_named}
use Rattle.xl_nfs_state.specs.declared.client.ClientRow.{ClientRow}
use Rattle.xl_core.specs.Askers.{party_named}
use Rattle.xl_core.specs.Deeds.{Deed, Renews, all_done}
use Rattle.xl_core.specs.State.{CoreState}
use Rattle.xl_core.specs.Ticks.{renew as renew_lease}
use Rattle.xl_front_nfs.specs.Clients.{renew_found, renew_number, renew, ends, without_number, confirm_over, confirm_held, confirmed_by, confirm_found, confirm_number, set_client_id_confirm}
use Rattle.xl_front_nfs.specs.Steps.{planned}
use Rattle.xl_nfs_laws.specs.RequestOwners.{else_row, row_meant, IsToRenew}
use Rattle.xl_nfs_locks.specs.FirstLocks.{lock_named, lock_new, lock_by, lock}
use Rattle.xl_nfs_locks.specs.Locks.{lock_known}
use Rattle.xl_nfs_locks.specs.Releases.{release}
use Rattle.xl_nfs_locks.specs.Tests.{lock_test}
use Rattle.xl_nfs_locks.specs.Unlocks.{unlock}
use Rattle.xl_nfs_opens.specs.Closing.{open_confirm, close, deleg_return}
use Rattle.xl_nfs_opens.specs.Downgrades.{open_downgrade}
use Rattle.xl_core.specs.Ids.{number_in}
use Rattle.xl_nfs_opens.specs.Opens.{claim_client, open_claimed, open_file}
use Rattle.xl_nfs_opens.specs.Owners.{is_claimant, is_locker, Names}
use Rattle.xl_plan.specs.Plans.{deeds_of}
use Rattle.xl_nfs_opens.specs.Renewing.{number_of, state_numbered, state_client, renewals_by, renewals}

-- ---- behind a renewal

-- the id string of the confirmed client of this number
abbrev id_in : List ClientRow → Option ℕ → Option (List ℕ)
id_in clients who = option_map (λ r. r.id) (option_and_then (λ number. find (is_client number true) clients) who)

renewed_first : (l : NfsLists) (who : Option ℕ) (id : List ℕ) → id_in l.clients who ≡ Some id → IsIn (Renews id) (renewals l who)
renewed_first l None id is = absurd cc
renewed_first l (Some number) id is = by (find (is_client number true) l.clients) is
  where
    by : (o : Option ClientRow) → option_map (λ r. r.id) o ≡ Some id → IsIn (Renews id) (renewals_by o)
    by None e = absurd cc
    by (Some r) e = inl (ap Renews (same_Some r.id id e))

renewed_in : (l : NfsLists) (who : Option ℕ) (id : List ℕ) (ds : List Deed) → id_in l.clients who ≡ Some id → IsIn (Renews id) (renewals l who ++ ds)
renewed_in l who id ds is = in_append_left (Renews id) (renewals l who) ds (renewed_first l who id is)

-- who is named before another's lease is renewed is named then
pub number_then : (n : ℕ) (s : CoreState) (l : NfsLists) (who : Option ℕ) (clientid : ℕ) → number_in (all_done n s (renewals l who)) clientid ≡ number_in s clientid
unfolding renew_lease
number_then n s l None clientid = refl
number_then n s l (Some other) clientid = by (find (is_client other true) l.clients)
  where
    by : (o : Option ClientRow) → number_in (all_done n s (renewals_by o)) clientid ≡ number_in s clientid
    by None = refl
    by (Some r) = refl

other_then : (n : ℕ) (s : CoreState) (l : NfsLists) (who : Option ℕ) (other : List ℕ) → number_of (all_done n s (renewals l who)) other ≡ number_of s other
unfolding renew_lease number_of
other_then n s l None other = refl
other_then n s l (Some number) other = by (find (is_client number true) l.clients)
  where
    by : (o : Option ClientRow) → number_of (all_done n s (renewals_by o)) other ≡ number_of s other
    by None = refl
    by (Some r) = refl

-- ---- OPEN and LOCK, which may name two

claimant_then : (n : ℕ) (s : CoreState) (l : NfsLists) (who : Option ℕ) (claim : OpenClaimItem) (id : List ℕ) → is_claimant s l claim id → id_in l.clients (claim_client (all_done n s (renewals l who)) l claim) ≡ Some id
claimant_then n s l who (DelegateCurrent a) id is = ap (λ (o : Option ℕ). id_in l.clients (state_numbered l o)) (other_then n s l who a.stateid.other) ∙ is
claimant_then n s l who (Null name) id is = absurd is
claimant_then n s l who (Previous type) id is = absurd is
claimant_then n s l who (DelegatePrevious name) id is = absurd is

open_renews : (n : ℕ) (files : List (List ℕ)) (others : ℕ) (s : CoreState) (l : NfsLists) (current : Option ℕ) (a : OpenArgsItem) (id : List ℕ) → Names s l (Open a) id → IsIn (Renews id) (deeds_of n s (open_file files others s l current a))
unfolding open_file open_claimed
open_renews n files others s l current a id (inl is) = renewed_in l (number_in s a.owner.clientid) id _ is
open_renews n files others s l current a id (inr is) =
    let who = number_in s a.owner.clientid in
    let t = all_done n s (renewals l who) in
    in_append_right (Renews id) (renewals l who) _ (renewed_in l (claim_client t l a.claim) id _ (claimant_then n s l who a.claim id is))

lock_renews : (n : ℕ) (s : CoreState) (l : NfsLists) (current : Option ℕ) (a : LockArgsItem) (x : LockerItem) (id : List ℕ) → is_locker s l x id → IsIn (Renews id) (deeds_of n s (lock_by s l current a x))
unfolding lock_new lock_named lock_known
lock_renews n s l current a (New x) id (inl is) = renewed_in l (state_client s l x.open_stateid) id _ is
lock_renews n s l current a (New x) id (inr is) =
    let who = state_client s l x.open_stateid in
    let t = all_done n s (renewals l who) in
    in_append_right (Renews id) (renewals l who) _ (renewed_in l (number_in t x.owner.clientid) id _ (ap (λ (o : Option ℕ). id_in l.clients o) (number_then n s l who x.owner.clientid) ∙ is))
lock_renews n s l current a (Known x) id is = renewed_in l (state_client s l x.stateid) id _ is

-- ---- RENEW and SETCLIENTID_CONFIRM

renew_renews : (n : ℕ) (s : CoreState) (l : NfsLists) (current who : Option ℕ) (id : List ℕ) → id_in l.clients who ≡ Some id → IsIn (Renews id) (deeds_of n s (renew_number l current who))
renew_renews n s l current None id is = absurd cc
renew_renews n s l current (Some number) id is = by (find (is_client number true) l.clients) is
  where
    by : (o : Option ClientRow) → option_map (λ r. r.id) o ≡ Some id → IsIn (Renews id) (deeds_of n s (renew_found l current o))
    by None e = absurd cc
    by (Some r) e = inl (ap Renews (same_Some r.id id e))

confirm_renews : (n : ℕ) (s : CoreState) (l : NfsLists) (current : Option ℕ) (verifier : List ℕ) (who : Option ℕ) (id : List ℕ) → option_map (λ r. r.id) (option_and_then (λ number. row_meant l verifier number) who) ≡ Some id → IsIn (Renews id) (deeds_of n s (confirm_number s l current verifier who))
confirm_renews n s l current verifier None id is = absurd cc
confirm_renews n s l current verifier (Some number) id is = by (confirmed_by verifier (find (is_client number false) l.clients)) is
  where
    m : NfsLists
    m = without_number number l

    over : (r : ClientRow) (o : Option ClientRow) → r.id ≡ id → IsIn (Renews id) (deeds_of n s (confirm_over s m current number r o))
    over r None e = inl (ap Renews e)
    over r (Some o) e =
        elim (cases_Bool (o.number == number)) [
          | inl d ↦ rw d (inl (ap Renews e))
          | inr d ↦ rw d (in_append_right (Renews id) (ends (party_named s.names (NfsParty r.id))) (Renews r.id ∷ []) (inl (ap Renews e)))
        ]

    held : (o : Option ClientRow) → option_map (λ r. r.id) o ≡ Some id → IsIn (Renews id) (deeds_of n s (confirm_held l current verifier o))
    held None e = absurd cc
    held (Some r) e = inl (ap Renews (same_Some r.id id e))

    by : (o : Option ClientRow) → option_map (λ r. r.id) (else_row o (find (is_client number true) l.clients)) ≡ Some id → IsIn (Renews id) (deeds_of n s (confirm_found s l current number verifier o))
    by None e = held (find (is_client number true) l.clients) e
    by (Some r) e = over r (find (is_client_named r.id true) m.clients) (same_Some r.id id e)

-- ---- each operation

pub plan_renews : (n : ℕ) (files : List (List ℕ)) (others : ℕ) (s : CoreState) (l : NfsLists) (current : Option ℕ) (item : OpItem) (id : List ℕ) → IsToRenew s l item id → IsIn (Renews id) (deeds_of n s (planned files others s l current item))
unfolding planned renew set_client_id_confirm open_confirm open_downgrade close deleg_return lock lock_test unlock release
plan_renews n files others s l current PutRootFh id is = absurd is
plan_renews n files others s l current (PutFh fh) id is = absurd is
plan_renews n files others s l current GetFh id is = absurd is
plan_renews n files others s l current (Lookup name) id is = absurd is
plan_renews n files others s l current (SetClientId a) id is = absurd is
plan_renews n files others s l current (SetClientIdConfirm a) id is = confirm_renews n s l current a.verifier (number_in s a.clientid) id is
plan_renews n files others s l current (Renew clientid) id is = renew_renews n s l current (number_in s clientid) id is
plan_renews n files others s l current (Open a) id is = open_renews n files others s l current a id is
plan_renews n files others s l current (OpenConfirm a) id is = renewed_in l (state_client s l a.stateid) id _ is
plan_renews n files others s l current (OpenDowngrade a) id is = renewed_in l (state_client s l a.stateid) id _ is
plan_renews n files others s l current (Close a) id is = renewed_in l (state_client s l a.stateid) id _ is
plan_renews n files others s l current (DelegReturn stateid) id is = renewed_in l (state_client s l stateid) id _ is
plan_renews n files others s l current (Lock a) id is = lock_renews n s l current a a.locker id is
plan_renews n files others s l current (LockT a) id is = renewed_in l (number_in s a.owner.clientid) id _ is
plan_renews n files others s l current (LockU a) id is = renewed_in l (state_client s l a.stateid) id _ is
plan_renews n files others s l current (ReleaseLockOwner a) id is = renewed_in l (number_in s a.clientid) id _ is
plan_renews n files others s l current (NotSupported number) id is = absurd is
plan_renews n files others s l current (Illegal number) id is = absurd is

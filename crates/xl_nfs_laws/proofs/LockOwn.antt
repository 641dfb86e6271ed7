-- Whose the deeds of the operations on locks are, and that the core takes them.
use Rattle.std.proofs.Common.{◌≡◌, ℕ, ◌+◌, ◌-◌, ◌≤◌, Bool, true, false, List, [], Option, Some, None, Result, Ok, Err, option_map, refl, ap, subst, ◌∙◌, inl, inr, arith}
use Rattle.std.proofs.lemmas.Bool.{cases_Bool, or_parts}
use Rattle.std.proofs.lemmas.Bool.Decides.{nat_tests}
use Rattle.std.proofs.lemmas.Option.{same_Some}
use Rattle.std.specs.Bool.{◌==◌}
use Rattle.std.specs.List.{find}
use Rattle.std.specs.Prelude.{◌||◌, nat_le, nat_lt, if◌then◌else◌}
use Rattle.xl_names.specs.declared.name.Name.TheVariants.{NfsParty}
use Rattle.xl_nfs.specs.Basics.{OwnerItem}
use Rattle.xl_nfs.specs.Locks.{LockArgsItem, LockTestArgsItem, NewLockerItem, LockerItem, New, Known}
use Rattle.xl_nfs.specs.Ops.{Lock, LockT, LockU, ReleaseLockOwner}
use Rattle.xl_nfs.specs.Outcomes.{is_ok}
use Rattle.xl_nfs.specs.declared.basics.LockType.{LockType}
use Rattle.xl_nfs.specs.declared.locks.KnownLocker.{KnownLocker}
use Rattle.xl_nfs.specs.declared.locks.UnlockArgs.{UnlockArgs}
use Rattle.xl_nfs.specs.declared.status.NfsStatus.{NfsStatus}
use Rattle.xl_nfs_state.specs.State.{NfsLists, is_client, is_kept}
use Rattle.xl_nfs_state.specs.declared.client.ClientRow.{ClientRow}
use Rattle.xl_nfs_state.specs.declared.kept.KeptRow.{KeptRow}
use Rattle.xl_nfs_state.specs.declared.owner.SeqidState.{SeqidState}
use Rattle.xl_nfs_state.specs.declared.owner.OwnerKind.TheVariants as kinds
use Rattle.xl_nfs_state.specs.declared.stateid.StateidRow.{StateidRow}
use Rattle.xl_core.specs.Askers.{IsFit}
use Rattle.xl_core.specs.Clients.{IsOf}
use Rattle.xl_core.specs.Decide.{ask}
use Rattle.xl_core.specs.Deeds.{Asks}
use Rattle.xl_core.specs.Good.{IsGood}
use Rattle.xl_core.specs.State.{CoreState}
use Rattle.xl_core.specs.declared.ask.Answer.{Answer}
use Rattle.xl_core.specs.declared.ask.Ask.{Ask}
use Rattle.xl_nfs_locks.specs.FirstLocks.{join_again, join_answered, join_as, join_checked, join_of, join_standing, join_to, joined_by, both_of, found_joined, locker_under, lock_named, lock_new, lock_by, lock}
use Rattle.xl_nfs_locks.specs.Locks.{access_above, lock_answered, lock_by_owner, lock_end, lock_known, lock_standing, lock_to}
use Rattle.xl_nfs_locks.specs.Ranges.{last_byte, may_lock, lock_ask, test_ask}
use Rattle.xl_nfs_locks.specs.Releases.{holds_any, release_of, release}
use Rattle.xl_nfs_locks.specs.Tests.{locker_of, tested_told, test_at, test_of, test_to, lock_test}
use Rattle.xl_nfs_locks.specs.Unlocks.{unlock_status, unlocked_as, unlock_by_owner, unlock_to, unlock_standing, unlock}
use Rattle.xl_nfs_locks.specs.declared.joining.BothOwners.{BothOwners}
use Rattle.xl_nfs_locks.specs.declared.joining.Joined.{Joined}
use Rattle.xl_nfs_locks.specs.declared.joining.Joined.TheVariants.{Bad, Again, Joins}
use Rattle.xl_nfs_opens.specs.Asks.{all_ones, unlock_ask}
use Rattle.xl_nfs_opens.specs.Closing.{checked, standing_fault, opener_by}
use Rattle.xl_core.specs.Ids.{number_in}
use Rattle.xl_nfs_opens.specs.Opens.{all_rooms, client_in, is_granted}
use Rattle.xl_nfs_opens.specs.Owners.{is_named, is_holder, is_locker, Names}
use Rattle.xl_plan.specs.Plans.{Does, Asking}
use Rattle.xl_nfs_opens.specs.Plans.{Plan}
use Rattle.xl_nfs_opens.specs.Renewing.{state_client, renewing}
use Rattle.xl_nfs_opens.specs.Seqids.{is_room_for}
use Rattle.xl_nfs_opens.specs.declared.opener.Checked.{Checked}
use Rattle.xl_nfs_opens.specs.declared.opener.Checked.TheVariants.{Refused, Repeated, Passed}
use Rattle.xl_nfs_opens.specs.declared.opener.Opener.{Opener}
use Rattle.xl_nfs_opens.proofs.OpenOwn.{Owned, counts_own, repeat_own, renewing_own, named_as, by_number}
use Rattle.xl_nfs_opens.proofs.OwnerLaws.{own_client}
use Rattle.xl_nfs_opens.proofs.UnderLaws.{opener_is}

-- ---- ranges: the last byte isn't before the first

abbrev pub NotBefore : ℕ → Option ℕ → Type 0
NotBefore first None = Unit {0}
NotBefore first (Some last) = first ≤ last

last_in : (offset len : ℕ) → ((len == 0) || nat_lt all_ones offset) ≡ false → NotBefore offset (if len == all_ones then Some all_ones else if nat_le (offset + len) all_ones then Some (offset + len - 1) else None)
last_in offset len some =
    let parts = or_parts (len == 0) (nat_lt all_ones offset) some in
    elim (cases_Bool (len == all_ones)) [
      | inl d ↦ rw d (not_below all_ones offset parts.1)
      | inr d ↦ rw d (elim (cases_Bool (nat_le (offset + len) all_ones)) [
        | inl b ↦ rw b (grind (arith, nat_tests, parts.0))
        | inr b ↦ rw b tt
      ])
    ]
  where
    not_below : (a b : ℕ) → nat_lt a b ≡ false → b ≤ a
    not_below a b e = grind (arith, nat_tests, e)

pub last_not_before : (offset len : ℕ) → NotBefore offset (last_byte offset len)
unfolding last_byte
last_not_before offset len =
    elim (cases_Bool ((len == 0) || nat_lt all_ones offset)) [
      | inl e ↦ rw e tt
      | inr e ↦ rw e (last_in offset len e)
    ]

abbrev EndNotBefore : ℕ → Result ℕ NfsStatus → Type 0
EndNotBefore first (Ok last) = first ≤ last
EndNotBefore first (Err status) = Unit {0}

end_by : (kind : LockType) (access first : ℕ) (last : Option ℕ) → NotBefore first last → EndNotBefore first (lock_end kind access last)
end_by kind access first None le = tt
end_by kind access first (Some last) le =
    elim (cases_Bool (may_lock kind access)) [
      | inl e ↦ rw e le
      | inr e ↦ rw e tt
    ]

end_not_before : (kind : LockType) (access offset len : ℕ) → EndNotBefore offset (lock_end kind access (last_byte offset len))
end_not_before kind access offset len = end_by kind access offset (last_byte offset len) (last_not_before offset len)

-- ---- asks

pub lock_fits : (o : Opener) (file : ℕ) (kind : LockType) (reclaim : Bool) (first last : ℕ) → first ≤ last → IsFit (lock_ask o file kind reclaim first last)
lock_fits o file kind reclaim first last le = record { act = (le, tt); own = refl; party = own_client o.id; wish = refl }

test_fits : (o : Opener) (file : ℕ) (kind : LockType) (first last : ℕ) → first ≤ last → IsFit (test_ask o file kind first last)
test_fits o file kind first last le = record { act = le; own = refl; party = own_client o.id; wish = refl }

pub unlock_fits : (o : Opener) (file first last : ℕ) → first ≤ last → IsFit (unlock_ask o file first last)
unlock_fits o file first last le = record { act = le; own = refl; party = own_client o.id; wish = refl }

-- one ask of a client's, and then nothing more or what is its too
asks_own : (n : ℕ) (s : CoreState) (Client : List ℕ → Type 0) (id : List ℕ) (a : Ask) (rest : Answer → CoreState → Plan) → Client id → IsFit a → IsOf s (NfsParty id) (Asks all_rooms a) → ((answer : Answer) (t : CoreState) → Owned n t Client (rest answer t)) → Owned n s Client (Asking all_rooms a rest)
asks_own n s Client id a rest is fits of more =
    let r = ask n all_rooms s a in
    let later = more r.0 r.2 in
    ((fits, later.0), ((id, is, of), later.1))

-- ---- LOCK by a known owner

lock_answered_own : (n : ℕ) (l : NfsLists) (current : Option ℕ) (r : StateidRow) (owner : ℕ) (seqids : SeqidState) (seqid : ℕ) (reclaim : Bool) (Client : List ℕ → Type 0) (answer : Answer) (s : CoreState) → Owned n s Client (lock_answered l current r owner seqids seqid reclaim answer s)
lock_answered_own n l current r owner seqids seqid reclaim Client answer s =
    elim (cases_Bool (is_granted answer)) [
      | inl e ↦ rw e (tt, tt)
      | inr e ↦ rw e (tt, tt)
    ]

lock_owner_own : (n : ℕ) (s : CoreState) (l : NfsLists) (current : Option ℕ) (a : LockArgsItem) (r : StateidRow) (owner : ℕ) (seqids : SeqidState) (seqid last : ℕ) (Client : List ℕ → Type 0) (o : Option Opener) → a.offset ≤ last → ((x : Opener) → o ≡ Some x → Client x.id) → Owned n s Client (lock_by_owner l current a r owner seqids seqid last o)
lock_owner_own n s l current a r owner seqids seqid last Client None le each = (tt, tt)
lock_owner_own n s l current a r owner seqids seqid last Client (Some o) le each = asks_own n s Client o.id (lock_ask o r.file a.kind a.reclaim a.offset last) (lock_answered l current r owner seqids seqid a.reclaim) (each o refl) (lock_fits o r.file a.kind a.reclaim a.offset last le) refl (λ answer t. lock_answered_own n l current r owner seqids seqid a.reclaim Client answer t)

lock_to_own : (n : ℕ) (s : CoreState) (l : NfsLists) (current : Option ℕ) (a : LockArgsItem) (r : StateidRow) (owner : ℕ) (seqids : SeqidState) (seqid : ℕ) (Client : List ℕ → Type 0) (e : Result ℕ NfsStatus) → EndNotBefore a.offset e → ((c : ClientRow) → find (is_client r.client true) l.clients ≡ Some c → Client c.id) → Owned n s Client (lock_to l current a r owner seqids seqid e)
lock_to_own n s l current a r owner seqids seqid Client (Err status) le each = (tt, tt)
lock_to_own n s l current a r owner seqids seqid Client (Ok last) le each = lock_owner_own n s l current a r owner seqids seqid last Client (opener_by l r.client owner) le (λ x e. opener_is Client l r.client owner x each e)

lock_standing_own : (n : ℕ) (s : CoreState) (l : NfsLists) (current : Option ℕ) (a : LockArgsItem) (r : StateidRow) (owner : ℕ) (seqids : SeqidState) (seqid : ℕ) (Client : List ℕ → Type 0) (o : Option NfsStatus) → ((c : ClientRow) → find (is_client r.client true) l.clients ≡ Some c → Client c.id) → Owned n s Client (lock_standing l current a r owner seqids seqid o)
lock_standing_own n s l current a r owner seqids seqid Client (Some status) each = (tt, tt)
lock_standing_own n s l current a r owner seqids seqid Client None each = lock_to_own n s l current a r owner seqids seqid Client (lock_end a.kind (access_above l r.holder) (last_byte a.offset a.len)) (end_not_before a.kind (access_above l r.holder) a.offset a.len) each

known_own : (n : ℕ) (s : CoreState) (l : NfsLists) (current : Option ℕ) (a : LockArgsItem) (x : KnownLocker) → IsGood s → Owned n s (λ id. is_holder s l x.stateid id) (lock_known s l current a x)
unfolding lock_known
known_own n s l current a x good =
    counts_own n s l current kinds.Lock 12 x.seqid x.stateid (λ t r w v. lock_standing l current a r w v x.seqid (standing_fault r v x.stateid.seqid true)) good
    (λ t r w v left each. lock_standing_own n t l current a r w v x.seqid (λ id. is_holder s l x.stateid id) (standing_fault r v x.stateid.seqid true) each)

-- ---- LOCK under an open

joined_own : (n : ℕ) (s : CoreState) (l : NfsLists) (current : Option ℕ) (b : BothOwners) (o : Opener) (r : StateidRow) (Client : List ℕ → Type 0) (q : Option StateidRow) → Owned n s Client (joined_by s l current b o r q)
joined_own n s l current b o r Client None = ((tt, tt), (tt, tt))
joined_own n s l current b o r Client (Some q) = (tt, tt)

join_answered_own : (n : ℕ) (l : NfsLists) (current : Option ℕ) (b : BothOwners) (o : Opener) (r : StateidRow) (q : Option StateidRow) (reclaim : Bool) (Client : List ℕ → Type 0) (answer : Answer) (s : CoreState) → Owned n s Client (join_answered l current b o r q reclaim answer s)
join_answered_own n l current b o r q reclaim Client answer s =
    elim (cases_Bool (is_granted answer)) [
      | inl e ↦ rw e (joined_own n s l current b o r Client q)
      | inr e ↦ rw e (tt, tt)
    ]

join_to_own : (n : ℕ) (s : CoreState) (l : NfsLists) (current : Option ℕ) (a : LockArgsItem) (b : BothOwners) (o : Opener) (r : StateidRow) (q : Option StateidRow) (Client : List ℕ → Type 0) (e : Result ℕ NfsStatus) → EndNotBefore a.offset e → Client o.id → Owned n s Client (join_to l current a b o r q e)
join_to_own n s l current a b o r q Client (Err status) le is = (tt, tt)
join_to_own n s l current a b o r q Client (Ok last) le is =
    elim (cases_Bool (is_room_for o l)) [
      | inl e ↦ rw e (asks_own n s Client o.id (lock_ask o r.file a.kind a.reclaim a.offset last) (join_answered l current b o r q a.reclaim) is (lock_fits o r.file a.kind a.reclaim a.offset last le) refl (λ answer t. join_answered_own n l current b o r q a.reclaim Client answer t))
      | inr e ↦ rw e (tt, tt)
    ]

again_own : (n : ℕ) (s : CoreState) (l : NfsLists) (current : Option ℕ) (b : BothOwners) (Client : List ℕ → Type 0) (k : Option KeptRow) → Owned n s Client (join_again l current b k)
again_own n s l current b Client None = (tt, tt)
again_own n s l current b Client (Some k) = (tt, tt)

join_as_own : (n : ℕ) (s : CoreState) (l : NfsLists) (current : Option ℕ) (a : LockArgsItem) (b : BothOwners) (o : Opener) (r : StateidRow) (Client : List ℕ → Type 0) (j : Joined) → Client o.id → Owned n s Client (join_as l current a b o r j)
join_as_own n s l current a b o r Client Bad is = (tt, tt)
join_as_own n s l current a b o r Client (Again owner) is = again_own n s l current b Client (find (is_kept owner) l.kept)
join_as_own n s l current a b o r Client (Joins q) is = join_to_own n s l current a b o r q Client (lock_end a.kind r.standing.access (last_byte a.offset a.len)) (end_not_before a.kind r.standing.access a.offset a.len) is

join_of_own : (n : ℕ) (s : CoreState) (l : NfsLists) (current : Option ℕ) (a : LockArgsItem) (x : NewLockerItem) (b : BothOwners) (r : StateidRow) (Client : List ℕ → Type 0) (o : Option Opener) → ((y : Opener) → o ≡ Some y → Client y.id) → Owned n s Client (join_of l current a x b r o)
join_of_own n s l current a x b r Client None each = (tt, tt)
join_of_own n s l current a x b r Client (Some o) each = join_as_own n s l current a b o r Client (found_joined l r o x.lock_seqid) (each o refl)

under_is : (r : StateidRow) (owner : List ℕ) (Client : List ℕ → Type 0) (c : Option ClientRow) (o : Opener) → ((y : ClientRow) → c ≡ Some y → Client y.id) → locker_under r owner c ≡ Some o → Client o.id
under_is r owner Client None o each e = absurd cc
under_is r owner Client (Some c) o each e =
    elim (cases_Bool (c.number == r.client)) [
      | inl is ↦ subst (λ (y : Opener). Client y.id) (same_Some (locker_of c owner) o (rw is at e)) (each c refl)
      | inr differs ↦ (let none : None ≡ Some o = rw differs at e in absurd cc)
    ]

join_standing_own : (n : ℕ) (s : CoreState) (l : NfsLists) (current : Option ℕ) (a : LockArgsItem) (x : NewLockerItem) (b : BothOwners) (r : StateidRow) (Client : List ℕ → Type 0) (o : Option NfsStatus) → ((y : ClientRow) → client_in s l x.owner.clientid ≡ Some y → Client y.id) → Owned n s Client (join_standing s l current a x b r o)
join_standing_own n s l current a x b r Client (Some status) each = (tt, tt)
join_standing_own n s l current a x b r Client None each =
    let c = client_in s l x.owner.clientid in
    join_of_own n s l current a x b r Client (locker_under r x.owner.owner c) (λ y e. under_is r x.owner.owner Client c y each e)

join_checked_own : (n : ℕ) (s : CoreState) (l : NfsLists) (current : Option ℕ) (a : LockArgsItem) (x : NewLockerItem) (Client : List ℕ → Type 0) (c : Checked) → ((y : ClientRow) → client_in s l x.owner.clientid ≡ Some y → Client y.id) → Owned n s Client (join_checked s l current a x c)
join_checked_own n s l current a x Client (Refused status) each = (tt, tt)
join_checked_own n s l current a x Client (Repeated owner) each = repeat_own n s l current Client (find (is_kept owner) l.kept)
join_checked_own n s l current a x Client (Passed r owner seqids) each = join_standing_own n s l current a x (both_of x owner seqids) r Client (standing_fault r seqids x.open_stateid.seqid true) each

-- who is found by a clientid is named by it
in_named : (s : CoreState) (l : NfsLists) (clientid : ℕ) (y : ClientRow) → client_in s l clientid ≡ Some y → is_named s l clientid true y.id
in_named s l clientid y e = ap (λ (o : Option ClientRow). option_map (λ r. r.id) o) e

new_own : (n : ℕ) (s : CoreState) (l : NfsLists) (current : Option ℕ) (a : LockArgsItem) (x : NewLockerItem) → IsGood s → Owned n s (is_locker s l (New x)) (lock_new s l current a x)
unfolding lock_new lock_named
new_own n s l current a x good =
    let Client = is_locker s l (New x) in
    let who = state_client s l x.open_stateid in
    renewing_own n s l Client who (λ t. renewing l (number_in t x.owner.clientid) (λ u. join_checked u l current a x (checked u l current 12 x.open_seqid x.open_stateid))) good (λ number r e found. inl (by_number l who number r e found))
    (λ t stable left.
    let named = number_in t x.owner.clientid in
    renewing_own n t l Client named (λ u. join_checked u l current a x (checked u l current 12 x.open_seqid x.open_stateid)) left (λ number r e found. inr (named_as s t l x.owner.clientid r.id stable (by_number l named number r e found)))
    (λ u next kept. join_checked_own n u l current a x Client (checked u l current 12 x.open_seqid x.open_stateid) (λ y e. inr (named_as s u l x.owner.clientid y.id (next ∙ stable) (in_named u l x.owner.clientid y e)))))

by_own : (n : ℕ) (s : CoreState) (l : NfsLists) (current : Option ℕ) (a : LockArgsItem) (x : LockerItem) → IsGood s → Owned n s (is_locker s l x) (lock_by s l current a x)
by_own n s l current a (New x) good = new_own n s l current a x good
by_own n s l current a (Known x) good = known_own n s l current a x good

pub lock_own : (n : ℕ) (s : CoreState) (l : NfsLists) (current : Option ℕ) (a : LockArgsItem) → IsGood s → Owned n s (Names s l (Lock a)) (lock s l current a)
unfolding lock
lock_own n s l current a good = by_own n s l current a a.locker good

-- ---- LOCKT

named_own : (n : ℕ) (s : CoreState) (l : NfsLists) (clientid : ℕ) (by : CoreState → Plan) → IsGood s → ((t : CoreState) → t.stable ≡ s.stable → Owned n t (λ id. is_named s l clientid true id) (by t)) → Owned n s (λ id. is_named s l clientid true id) (renewing l (number_in s clientid) by)
named_own n s l clientid by good each = renewing_own n s l (λ id. is_named s l clientid true id) (number_in s clientid) by good (λ number r e found. by_number l (number_in s clientid) number r e found) (λ t stable left. each t stable)

test_to_own : (n : ℕ) (s : CoreState) (l : NfsLists) (current : Option ℕ) (a : LockTestArgsItem) (file : ℕ) (o : Opener) (Client : List ℕ → Type 0) (last : Option ℕ) → NotBefore a.offset last → Client o.id → Owned n s Client (test_to l current a file o last)
test_to_own n s l current a file o Client None le is = (tt, tt)
test_to_own n s l current a file o Client (Some last) le is = asks_own n s Client o.id (test_ask o file a.kind a.offset last) (λ answer t. Does [] l (tested_told t l answer, current)) is (test_fits o file a.kind a.offset last le) refl (λ answer t. (tt, tt))

test_of_own : (n : ℕ) (s : CoreState) (l : NfsLists) (current : Option ℕ) (a : LockTestArgsItem) (file : ℕ) (Client : List ℕ → Type 0) (c : Option ClientRow) → ((y : ClientRow) → c ≡ Some y → Client y.id) → Owned n s Client (test_of l current a file c)
test_of_own n s l current a file Client None each = (tt, tt)
test_of_own n s l current a file Client (Some c) each = test_to_own n s l current a file (locker_of c a.owner.owner) Client (last_byte a.offset a.len) (last_not_before a.offset a.len) (each c refl)

test_at_own : (n : ℕ) (s : CoreState) (l : NfsLists) (a : LockTestArgsItem) (Client : List ℕ → Type 0) (current : Option ℕ) → ((y : ClientRow) → client_in s l a.owner.clientid ≡ Some y → Client y.id) → Owned n s Client (test_at s l a current)
test_at_own n s l a Client None each = (tt, tt)
test_at_own n s l a Client (Some at) each =
    elim (cases_Bool (at == 0)) [
      | inl e ↦ rw e (tt, tt)
      | inr e ↦ rw e (test_of_own n s l (Some at) a at Client (client_in s l a.owner.clientid) each)
    ]

pub test_own : (n : ℕ) (s : CoreState) (l : NfsLists) (current : Option ℕ) (a : LockTestArgsItem) → IsGood s → Owned n s (Names s l (LockT a)) (lock_test s l current a)
unfolding lock_test
test_own n s l current a good = named_own n s l a.owner.clientid (λ t. test_at t l a current) good
    (λ t stable. test_at_own n t l a (λ id. is_named s l a.owner.clientid true id) current (λ y e. named_as s t l a.owner.clientid y.id stable (in_named t l a.owner.clientid y e)))

-- ---- LOCKU

unlocked_own : (n : ℕ) (s : CoreState) (l : NfsLists) (current : Option ℕ) (a : UnlockArgs) (r : StateidRow) (owner : ℕ) (seqids : SeqidState) (Client : List ℕ → Type 0) (status : NfsStatus) → Owned n s Client (unlocked_as s l current a r owner seqids status)
unlocked_own n s l current a r owner seqids Client status =
    elim (cases_Bool (is_ok status)) [
      | inl e ↦ rw e (tt, tt)
      | inr e ↦ rw e (tt, tt)
    ]

unlock_owner_own : (n : ℕ) (s : CoreState) (l : NfsLists) (current : Option ℕ) (a : UnlockArgs) (r : StateidRow) (owner : ℕ) (seqids : SeqidState) (last : ℕ) (Client : List ℕ → Type 0) (o : Option Opener) → a.offset ≤ last → ((x : Opener) → o ≡ Some x → Client x.id) → Owned n s Client (unlock_by_owner l current a r owner seqids last o)
unlock_owner_own n s l current a r owner seqids last Client None le each = (tt, tt)
unlock_owner_own n s l current a r owner seqids last Client (Some o) le each = asks_own n s Client o.id (unlock_ask o r.file a.offset last) (λ answer t. unlocked_as t l current a r owner seqids (unlock_status answer)) (each o refl) (unlock_fits o r.file a.offset last le) refl (λ answer t. unlocked_own n t l current a r owner seqids Client (unlock_status answer))

unlock_to_own : (n : ℕ) (s : CoreState) (l : NfsLists) (current : Option ℕ) (a : UnlockArgs) (r : StateidRow) (owner : ℕ) (seqids : SeqidState) (Client : List ℕ → Type 0) (last : Option ℕ) → NotBefore a.offset last → ((c : ClientRow) → find (is_client r.client true) l.clients ≡ Some c → Client c.id) → Owned n s Client (unlock_to l current a r owner seqids last)
unlock_to_own n s l current a r owner seqids Client None le each = (tt, tt)
unlock_to_own n s l current a r owner seqids Client (Some last) le each = unlock_owner_own n s l current a r owner seqids last Client (opener_by l r.client owner) le (λ x e. opener_is Client l r.client owner x each e)

unlock_standing_own : (n : ℕ) (s : CoreState) (l : NfsLists) (current : Option ℕ) (a : UnlockArgs) (r : StateidRow) (owner : ℕ) (seqids : SeqidState) (Client : List ℕ → Type 0) (o : Option NfsStatus) → ((c : ClientRow) → find (is_client r.client true) l.clients ≡ Some c → Client c.id) → Owned n s Client (unlock_standing l current a r owner seqids o)
unlock_standing_own n s l current a r owner seqids Client (Some status) each = (tt, tt)
unlock_standing_own n s l current a r owner seqids Client None each = unlock_to_own n s l current a r owner seqids Client (last_byte a.offset a.len) (last_not_before a.offset a.len) each

pub unlock_own : (n : ℕ) (s : CoreState) (l : NfsLists) (current : Option ℕ) (a : UnlockArgs) → IsGood s → Owned n s (Names s l (LockU a)) (unlock s l current a)
unfolding unlock
unlock_own n s l current a good =
    counts_own n s l current kinds.Lock 14 a.seqid a.stateid (λ t r w v. unlock_standing l current a r w v (standing_fault r v a.stateid.seqid true)) good
    (λ t r w v left each. unlock_standing_own n t l current a r w v (λ id. is_holder s l a.stateid id) (standing_fault r v a.stateid.seqid true) each)

-- ---- RELEASE_LOCKOWNER

release_of_own : (n : ℕ) (s : CoreState) (l : NfsLists) (current : Option ℕ) (owner : List ℕ) (Client : List ℕ → Type 0) (c : Option ClientRow) → Owned n s Client (release_of s l current owner c)
release_of_own n s l current owner Client None = (tt, tt)
release_of_own n s l current owner Client (Some c) =
    elim (cases_Bool (holds_any s c.id owner)) [
      | inl e ↦ rw e (tt, tt)
      | inr e ↦ rw e (tt, tt)
    ]

pub release_own : (n : ℕ) (s : CoreState) (l : NfsLists) (current : Option ℕ) (a : OwnerItem) → IsGood s → Owned n s (Names s l (ReleaseLockOwner a)) (release s l current a)
unfolding release
release_own n s l current a good = named_own n s l a.clientid (λ t. release_of t l current a.owner (client_in t l a.clientid)) good (λ t stable. release_of_own n t l current a.owner (λ id. is_named s l a.clientid true id) (client_in t l a.clientid))

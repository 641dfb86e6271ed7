-- What calls leave held and who waits behind them; what their replies repeat, and which bytes these name.
use Rattle.std.proofs.Common.{◌≡◌, ℕ, ℤ, ◌+◌, ◌-◌, ◌^◌, ◌<◌, ◌≤◌, Bool, true, false, not, eqb, if◌then◌else◌, List, [], ◌∷◌, Option, Some, None, Result, Ok, Err, refl, sym, ap, subst, ◌∙◌, inl, inr, arith, true≢false}
use Rattle.std.proofs.lemmas.Bool.{cases_Bool, and_parts, eqb-true}
use Rattle.std.proofs.lemmas.Bool.Decides.{nat_tests}
use Rattle.std.proofs.lemmas.Option.{same_Some}
use Rattle.std.specs.Bool.{◌==◌}
use Rattle.std.specs.List.{filter, find, slice_get}
use Rattle.std.specs.Prelude.{◌++◌, ◌&&◌, nat_lt, nat_le, option_map, bytes_eq}
use Rattle.xl_base.specs.Lists.{IsIn}
use Rattle.xl_base.specs.declared.name.Owner.{Owner}
use Rattle.xl_base.specs.declared.name.Owner.TheVariants as owners
use Rattle.xl_base.specs.declared.name.Party.TheVariants as parties
use Rattle.xl_base.specs.declared.name.Protocol.TheVariants.{Nlm}
use Rattle.xl_matrix.proofs.EqualLaws.{same_owners-true, same_owners-self}
use Rattle.xl_matrix.specs.Equal.{same_owners, same_parties, same_flag}
use Rattle.xl_matrix.specs.declared.claim.Claim.{Claim}
use Rattle.xl_matrix.specs.declared.claim.Extent.TheVariants.{Bytes, Empty}
use Rattle.xl_matrix.specs.declared.claim.What.{What}
use Rattle.xl_matrix.specs.declared.claim.What.TheVariants as whats
use Rattle.xl_names.proofs.NameLaws.{number_is, name_at, number_at}
use Rattle.xl_names.specs.Names.{number_of, is_kept}
use Rattle.xl_names.specs.declared.name.Name.{Name}
use Rattle.xl_names.specs.declared.name.Name.TheVariants.{NlmRange, NlmParty}
use Rattle.xl_nlm.specs.Items.{LockItem, TestArgsItem, LockArgsItem, UnlockArgsItem, CancelArgsItem, ShareArgsItem, NotifyItem, HolderItem, CallItem, Null, Test, Lock, Cancel, Unlock, Granted, Share, Unshare, NmLock, FreeAll}
use Rattle.xl_nlm.specs.declared.item.NlmStatus.{NlmStatus}
use Rattle.xl_nlm.specs.declared.item.NlmStatus.TheVariants as stats
use Rattle.xl_table.specs.Held.{is_of, is_share}
use Rattle.xl_table.specs.Relock.{is_share_of, shares_of, with_share}
use Rattle.xl_wait.specs.Waiting.{cancelled}
use Rattle.xl_wait.specs.declared.waiter.Waiter.{Waiter}
use Rattle.xl_core.proofs.ByteLaws.{granted_bytes, unlocked_bytes, unheld_bytes}
use Rattle.xl_core.proofs.DeedLeaves.{found_in, shares_of-given}
use Rattle.xl_core.proofs.WayAsks.{ask_due, ask_test, ask_shared}
use Rattle.xl_core.specs.Bytes.{AreBytes, byte_lock, no_lock}
use Rattle.xl_core.specs.Askers.{asker}
use Rattle.xl_core.specs.Causes.{stands_against, IsTestDue}
use Rattle.xl_core.specs.Decide.{ask}
use Rattle.xl_core.specs.Deeds.{GivesBack, Cancels}
use Rattle.xl_core.specs.Good.{IsGood}
use Rattle.xl_core.specs.Settle.{waits_for as waits_of, cancel, give_back, end_party}
use Rattle.xl_core.specs.State.{CoreState}
use Rattle.xl_core.specs.declared.ask.Answer.{Answer}
use Rattle.xl_core.specs.declared.ask.Answer.TheVariants as answers
use Rattle.xl_plan.specs.Plans.{carried}
use Rattle.xl_front_nlm.proofs.AimLaws.{aim_real}
use Rattle.xl_front_nlm.proofs.AskLaws.{own_client}
use Rattle.xl_front_nlm.specs.Aims.{exported, last_of, length_of, aimed}
use Rattle.xl_front_nlm.specs.Asks.{owner_of, rights_of, share_owner, share_ask, test_ask, lock_ask, unlock_ask}
use Rattle.xl_front_nlm.specs.Hosts.{rooms, host_rows, is_host, host_entered, hosts_after}
use Rattle.xl_front_nlm.specs.Left.{unlock_claim, test_claim, IsForThat, cookie_of, cookie_told, IsHolder}
use Rattle.xl_front_nlm.specs.Results.{answer_status, status_of, parts_by, owner_parts, holder_by, holder_of, test_holder, reply_of}
use Rattle.xl_front_nlm.specs.Serving.{if_found, lock_plan, planned, served}
use Rattle.xl_front_nlm.specs.Standing.{is_aimed, is_same, waits_for, waiter_by, does_wait}
use Rattle.xl_front_nlm.specs.State.{FrontState, noted}
use Rattle.xl_front_nlm.specs.Statuses.{lock_claim}
use Rattle.xl_front_nlm.specs.declared.aim.Aim.{Aim}
use Rattle.xl_front_nlm.specs.declared.outcome.Outcome.{Outcome}
use Rattle.xl_front_nlm.specs.declared.outcome.Outcome.TheVariants.{NotWaiting, Answered, Ended}

-- ---- a lock

-- the caller is a host once it came
pub host_came : (caller : List ℕ) (hosts : List (List ℕ)) → is_host caller (host_entered caller hosts) ≡ true
host_came caller hosts =
    elim (cases_Bool (is_host caller hosts)) [
      | inl e ↦ rw e e
      | inr e ↦ rw e (at_end hosts)
    ]
  where
    at_end : (hosts : List (List ℕ)) → is_host caller (hosts ++ caller ∷ []) ≡ true
    at_end [] = rw (own_client caller) refl
    at_end (h ∷ hs) =
        elim (cases_Bool (bytes_eq caller h)) [
          | inl e ↦ rw e refl
          | inr e ↦ rw e (at_end hs)
        ]

-- what a lock that is granted leaves: its bytes, and its caller among the hosts
abbrev IsLocked : FrontState → CoreState → LockArgsItem → Aim → FrontState → CoreState → Type 0
IsLocked f s a at g t = AreBytes (lock_claim f.hosts s a at) at.first at.last (byte_lock a.exclusive) s t × (is_host a.lock.caller_name g.hosts ≡ true)

-- the core is asked for it, and grants it
lock_asked : (monitored : Bool) (n : ℕ) (f : FrontState) (s : CoreState) (a : LockArgsItem) (at : Aim) → IsGood s → at.first ≤ at.last
    → (let r = ask n (rooms f.hosts) s (lock_ask monitored (host_rows a.lock.caller_name f.hosts) a at) in (answer : Answer) → r.0 ≡ answer → answer_status answer ≡ stats.Granted → IsLocked f s a at (noted r.0 a.lock.caller_name f) r.2)
lock_asked monitored n f s a at good ends (answers.Granted c) e told = (
  granted_bytes n (rooms f.hosts) s (lock_ask monitored (host_rows a.lock.caller_name f.hosts) a at) at.first at.last a.exclusive c good (record { act = (ends, tt); own = refl; party = own_client a.lock.caller_name; wish = refl }) refl refl e,
  ap (λ (x : Answer). is_host a.lock.caller_name (hosts_after x a.lock.caller_name f.hosts)) e ∙ host_came a.lock.caller_name f.hosts,
)
lock_asked monitored n f s a at good ends answers.NotHeld e told = absurd ((ask_due n (rooms f.hosts) s (lock_ask monitored (host_rows a.lock.caller_name f.hosts) a at) (whats.Range (Bytes at.first at.last) a.exclusive) answers.NotHeld refl).0 e)
lock_asked monitored n f s a at good ends (answers.Conflict c) e told = absurd cc
lock_asked monitored n f s a at good ends (answers.Queued id) e told = absurd cc
lock_asked monitored n f s a at good ends (answers.Recall c) e told = absurd cc
lock_asked monitored n f s a at good ends (answers.Grace until) e told = absurd cc
lock_asked monitored n f s a at good ends (answers.NoGrace clock) e told = absurd cc
lock_asked monitored n f s a at good ends answers.NotRecorded e told = absurd cc
lock_asked monitored n f s a at good ends (answers.Full limit) e told = absurd cc
lock_asked monitored n f s a at good ends answers.StoreFailed e told = absurd cc

locked_by : (monitored : Bool) (n : ℕ) (f : FrontState) (s : CoreState) (a : LockArgsItem) (at : Aim) → IsGood s → at.first ≤ at.last → (let r = carried n s f (lock_plan monitored f s a at) in status_of r.0 ≡ stats.Granted → IsLocked f s a at r.2 r.3)
locked_by monitored n f s a at good ends =
    elim (cases_Bool (does_wait s a at)) [
      | inl e ↦ rw e (λ told. absurd cc)
      | inr e ↦ rw e (λ told. lock_asked monitored n f s a at good ends (ask n (rooms f.hosts) s (lock_ask monitored (host_rows a.lock.caller_name f.hosts) a at)).0 refl told)
    ]

pub locks_are_held : (n count : ℕ) (f : FrontState) (s : CoreState) (a : LockArgsItem) (at : Aim) → IsGood s → aimed count a.lock ≡ Ok at → (let r = served n count f s (Lock a) in status_of r.0 ≡ stats.Granted
    → AreBytes (lock_claim f.hosts s a at) at.first at.last (byte_lock a.exclusive) s r.3 × (is_host a.lock.caller_name r.2.hosts ≡ true))
unfolding served planned
locks_are_held n count f s a at good e = rw e (locked_by true n f s a at good (aim_real count a.lock at e))

pub nm_locks_are_held : (n count : ℕ) (f : FrontState) (s : CoreState) (a : LockArgsItem) (at : Aim) → IsGood s → aimed count a.lock ≡ Ok at → (let r = served n count f s (NmLock a) in status_of r.0 ≡ stats.Granted
    → AreBytes (lock_claim f.hosts s a at) at.first at.last (byte_lock a.exclusive) s r.3 × (is_host a.lock.caller_name r.2.hosts ≡ true))
unfolding served planned
nm_locks_are_held n count f s a at good e = rw e (locked_by false n f s a at good (aim_real count a.lock at e))

-- ---- an unlock

unlock_asked : (n : ℕ) (f : FrontState) (s : CoreState) (a : UnlockArgsItem) (at : Aim) → IsGood s → at.first ≤ at.last
    → (let r = ask n (rooms f.hosts) s (unlock_ask a at) in (answer : Answer) → r.0 ≡ answer → answer_status answer ≡ stats.Granted → AreBytes (unlock_claim s a at) at.first at.last no_lock s r.2)
unlock_asked n f s a at good ends (answers.Granted c) e told =
    unlocked_bytes n (rooms f.hosts) s (unlock_ask a at) at.first at.last c good (record { act = ends; own = refl; party = own_client a.lock.caller_name; wish = refl }) refl ends refl e
unlock_asked n f s a at good ends answers.NotHeld e told =
    unheld_bytes n (rooms f.hosts) s (unlock_ask a at) at.first at.last good (record { act = ends; own = refl; party = own_client a.lock.caller_name; wish = refl }) refl ends refl e
unlock_asked n f s a at good ends (answers.Conflict c) e told = absurd cc
unlock_asked n f s a at good ends (answers.Queued id) e told = absurd cc
unlock_asked n f s a at good ends (answers.Recall c) e told = absurd cc
unlock_asked n f s a at good ends (answers.Grace until) e told = absurd cc
unlock_asked n f s a at good ends (answers.NoGrace clock) e told = absurd cc
unlock_asked n f s a at good ends answers.NotRecorded e told = absurd cc
unlock_asked n f s a at good ends (answers.Full limit) e told = absurd cc
unlock_asked n f s a at good ends answers.StoreFailed e told = absurd cc

pub unlocks_are_free : (n count : ℕ) (f : FrontState) (s : CoreState) (a : UnlockArgsItem) (at : Aim) → IsGood s → aimed count a.lock ≡ Ok at → (let r = served n count f s (Unlock a) in status_of r.0 ≡ stats.Granted → AreBytes (unlock_claim s a at) at.first at.last no_lock s r.3)
unfolding served planned
unlocks_are_free n count f s a at good e = rw e (λ told. unlock_asked n f s a at good (aim_real count a.lock at e) (ask n (rooms f.hosts) s (unlock_ask a at)).0 refl told)

-- ---- a share

share_asked : (n : ℕ) (f : FrontState) (s : CoreState) (a : ShareArgsItem) (file : ℕ) → IsGood s
    → (let q = share_ask (host_rows a.caller_name f.hosts) a file in let r = ask n (rooms f.hosts) s q in (answer : Answer) → r.0 ≡ answer → answer_status answer ≡ stats.Granted → (shares_of file (asker q s.names) r.2.claims ≡ (rights_of a.access, rights_of a.mode) ∷ []) × (is_host a.caller_name (noted r.0 a.caller_name f).hosts ≡ true))
share_asked n f s a file good (answers.Granted c) e told = (
  ask_shared n (rooms f.hosts) s (share_ask (host_rows a.caller_name f.hosts) a file) (rights_of a.access) (rights_of a.mode) c good (own_client a.caller_name) refl refl e,
  ap (λ (x : Answer). is_host a.caller_name (hosts_after x a.caller_name f.hosts)) e ∙ host_came a.caller_name f.hosts,
)
share_asked n f s a file good answers.NotHeld e told = absurd ((ask_due n (rooms f.hosts) s (share_ask (host_rows a.caller_name f.hosts) a file) (whats.Share (rights_of a.access) (rights_of a.mode)) answers.NotHeld refl).0 e)
share_asked n f s a file good (answers.Conflict c) e told = absurd cc
share_asked n f s a file good (answers.Queued id) e told = absurd cc
share_asked n f s a file good (answers.Recall c) e told = absurd cc
share_asked n f s a file good (answers.Grace until) e told = absurd cc
share_asked n f s a file good (answers.NoGrace clock) e told = absurd cc
share_asked n f s a file good answers.NotRecorded e told = absurd cc
share_asked n f s a file good (answers.Full limit) e told = absurd cc
share_asked n f s a file good answers.StoreFailed e told = absurd cc

pub shares_are_held : (n count : ℕ) (f : FrontState) (s : CoreState) (a : ShareArgsItem) (file : ℕ) → IsGood s → exported count a.fh ≡ Some file → (let r = served n count f s (Share a) in status_of r.0 ≡ stats.Granted
    → (shares_of file (asker (share_ask (host_rows a.caller_name f.hosts) a file) s.names) r.3.claims ≡ (rights_of a.access, rights_of a.mode) ∷ []) × (is_host a.caller_name r.2.hosts ≡ true))
unfolding served planned
shares_are_held n count f s a file good e = rw e (λ told. share_asked n f s a file good (ask n (rooms f.hosts) s (share_ask (host_rows a.caller_name f.hosts) a file)).0 refl told)

-- one that isn't found isn't there
no_more : (file : ℕ) (owner : Owner) (c : Claim) (cs : List Claim) (w : What) → c.what ≡ w → (if is_share w then Some c else find (is_share_of file owner) cs) ≡ None → (find (is_share_of file owner) cs ≡ None → shares_of file owner cs ≡ []) → with_share w (shares_of file owner cs) ≡ []
no_more file owner c cs (whats.Share access deny) is none rest = absurd cc
no_more file owner c cs (whats.Range extent exclusive) is none rest = rest none
no_more file owner c cs (whats.Cache kind running) is none rest = rest none

no_share : (file : ℕ) (owner : Owner) (cs : List Claim) → find (is_share_of file owner) cs ≡ None → shares_of file owner cs ≡ []
no_share file owner [] e = refl
no_share file owner (c ∷ cs) e =
    elim (cases_Bool (is_of file owner c)) [
      | inr other ↦ rw other (no_share file owner cs (rw other at e))
      | inl own ↦ rw own (no_more file owner c cs c.what refl (rw own at e) (no_share file owner cs))
    ]

share_given : (n : ℕ) (f : FrontState) (s : CoreState) (file number : ℕ) (o : Option Claim) → IsGood s → find (is_share_of file (owners.Name Nlm number)) s.claims ≡ o → shares_of file (owners.Name Nlm number) (carried n s f (if_found f Ended (λ claim. GivesBack claim) o)).3.claims ≡ []
unfolding give_back
share_given n f s file number None good e = no_share file (owners.Name Nlm number) s.claims e
share_given n f s file number (Some claim) good e =
    let found = found_in (is_share_of file (owners.Name Nlm number)) s.claims claim e in
    shares_of-given file (owners.Name Nlm number) claim s.claims good.single found.0 found.1

pub unshared_are_free : (n count : ℕ) (f : FrontState) (s : CoreState) (a : ShareArgsItem) (file number : ℕ) → IsGood s → exported count a.fh ≡ Some file → slice_get s.names number ≡ Some (share_owner a) → shares_of file (owners.Name Nlm number) (served n count f s (Unshare a)).3.claims ≡ []
unfolding served planned
unshared_are_free n count f s a file number good e named = rw (e, number_at s.names (share_owner a) number good.distinct named) (share_given n f s file number (find (is_share_of file (owners.Name Nlm number)) s.claims) good refl)

-- ---- a caller that is freed

pub freed_have_nothing : (n count : ℕ) (f : FrontState) (s : CoreState) (a : NotifyItem) (number : ℕ) → IsGood s → slice_get s.names number ≡ Some (NlmParty a.name)
    → (let t = (served n count f s (FreeAll a)).3 in (t.claims ≡ filter (λ c. not (same_parties c.party (parties.Name Nlm number))) s.claims) × (t.waiters ≡ filter (λ w. not (waits_of (parties.Name Nlm number) w)) s.waiters))
unfolding served planned end_party
freed_have_nothing n count f s a number good named = rw (number_at s.names (NlmParty a.name) number good.distinct named) (refl, refl)

pub unknown_have_nothing : (n count : ℕ) (f : FrontState) (s : CoreState) (a : NotifyItem) → is_kept (NlmParty a.name) s.names ≡ false → (served n count f s (FreeAll a)).3 ≡ s
unfolding served planned
unknown_have_nothing n count f s a new =
    let none : number_of (NlmParty a.name) s.names ≡ None = rw new at (number_is (NlmParty a.name) s.names) in
    rw none refl

-- ---- one who waits

same_flags : (a b : Bool) → same_flag a b ≡ true → a ≡ b
same_flags true true h = refl
same_flags false false h = refl
same_flags _ _ h = cc

flag_itself : (a : Bool) → same_flag a a ≡ true
flag_itself true = refl
flag_itself false = refl

same_number : (m n : ℕ) → (m == n) ≡ true → m ≡ n
same_number m n e = grind (arith, nat_tests)

same_numbers : (n : ℕ) → (n == n) ≡ true
same_numbers n = grind (arith, nat_tests)

waits_that : (s : CoreState) (l : LockItem) (exclusive : Bool) (at : Aim) (number : ℕ) (w : Waiter) → number_of (owner_of l) s.names ≡ Some number → waits_for (owners.Name Nlm number) at exclusive w ≡ true → IsForThat s l exclusive at w
waits_that s l exclusive at number w known is = by (slice_get w.asked 0) refl is
  where
    aim_is : (what : What) → is_aimed what at exclusive ≡ true → what ≡ whats.Range (Bytes at.first at.last) exclusive
    aim_is (whats.Range (Bytes first last) alone) h =
        let parts = and_parts (first == at.first) ((last == at.last) && same_flag alone exclusive) h in
        let more = and_parts (last == at.last) (same_flag alone exclusive) parts.1 in
        (λ i. whats.Range (Bytes (same_number first at.first parts.0 i) (same_number last at.last more.0 i)) (same_flags alone exclusive more.1 i))
    aim_is (whats.Range (Empty offset) alone) h = absurd cc
    aim_is (whats.Share access deny) h = absurd cc
    aim_is (whats.Cache kind running) h = absurd cc

    by : (o : Option Claim) → slice_get w.asked 0 ≡ o → is_same (owners.Name Nlm number) at exclusive o ≡ true → IsForThat s l exclusive at w
    by None e h = absurd cc
    by (Some c) e h =
        let parts = and_parts (c.file == at.file) (same_owners c.owner (owners.Name Nlm number) && is_aimed c.what at exclusive) h in
        let more = and_parts (same_owners c.owner (owners.Name Nlm number)) (is_aimed c.what at exclusive) parts.1 in
        record { claim = c; first = e; file = same_number c.file at.file parts.0; what = aim_is c.what more.1; number = number; owner = same_owners-true c.owner (owners.Name Nlm number) more.0; named = name_at s.names (owner_of l) number known }

-- and who waits for just that is found
that_is_found : (s : CoreState) (l : LockItem) (exclusive : Bool) (at : Aim) (number : ℕ) (w : Waiter) → IsGood s → number_of (owner_of l) s.names ≡ Some number → IsForThat s l exclusive at w → waits_for (owners.Name Nlm number) at exclusive w ≡ true
that_is_found s l exclusive at number w good known that =
    let same : that.number ≡ number = same_Some that.number number (sym (number_at s.names (owner_of l) that.number good.distinct that.named) ∙ known) in
    ap (λ (o : Option Claim). is_same (owners.Name Nlm number) at exclusive o) that.first
    ∙ (λ i. (that.file i == at.file) && (same_owners ((that.owner ∙ ap (λ (m : ℕ). owners.Name Nlm m) same) i) (owners.Name Nlm number) && is_aimed (that.what i) at exclusive))
    ∙ rw (same_numbers at.file, same_owners-self (owners.Name Nlm number), same_numbers at.first, same_numbers at.last, flag_itself exclusive) refl

-- nobody is found who waits for just that, so nobody does
none_waits : (p : Waiter → Bool) (ws : List Waiter) (w : Waiter) → find p ws ≡ None → IsIn w ws → p w ≡ true → ⊥
none_waits p [] w e there is = absurd there
none_waits p (v ∷ vs) w e there is =
    elim (cases_Bool (p v)) [
      | inl found ↦ absurd (some_found (rw found at e))
      | inr not_found ↦ elim there [
        | inl same ↦ absurd (true≢false (sym is ∙ ap p (sym same) ∙ not_found))
        | inr later ↦ none_waits p vs w (rw not_found at e) later is
      ]
    ]
  where
    some_found : Some v ≡ None → ⊥
    some_found e = cc

-- a CANCEL takes out one who waits for just that, and no other; if nobody does it does nothing
abbrev IsTakenOut : CoreState → LockItem → Bool → Aim → CoreState → Type 0
IsTakenOut s l exclusive at t = (w : Waiter) × IsIn w s.waiters × IsForThat s l exclusive at w × (t ≡ record s { waiters = cancelled w.id s.waiters })

found_out : (n : ℕ) (f : FrontState) (s : CoreState) (l : LockItem) (exclusive : Bool) (at : Aim) (number : ℕ) → IsGood s → number_of (owner_of l) s.names ≡ Some number → (o : Option Waiter) → find (waits_for (owners.Name Nlm number) at exclusive) s.waiters ≡ o
    → (let r = carried n s f (if_found f NotWaiting (λ id. Cancels id) (option_map (λ w. w.id) o)) in (status_of r.0 ≡ stats.Granted → IsTakenOut s l exclusive at r.3) × (status_of r.0 ≡ stats.Denied → ((w : Waiter) → IsIn w s.waiters → IsForThat s l exclusive at w → ⊥) × (r.3 ≡ s)))
unfolding cancel
found_out n f s l exclusive at number good known None e = (λ told. absurd cc, λ told. (λ w there that. none_waits (waits_for (owners.Name Nlm number) at exclusive) s.waiters w e there (that_is_found s l exclusive at number w good known that), refl))
found_out n f s l exclusive at number good known (Some w) e =
    let found = found_in (waits_for (owners.Name Nlm number) at exclusive) s.waiters w e in
    (λ told. (w, found.0, waits_that s l exclusive at number w known found.1, refl), λ told. absurd cc)

nobody_known : (n : ℕ) (f : FrontState) (s : CoreState) (l : LockItem) (exclusive : Bool) (at : Aim) → IsGood s → (o : Option ℕ) → number_of (owner_of l) s.names ≡ o
    → (let r = carried n s f (if_found f NotWaiting (λ id. Cancels id) (waiter_by s.waiters at exclusive o)) in (status_of r.0 ≡ stats.Granted → IsTakenOut s l exclusive at r.3) × (status_of r.0 ≡ stats.Denied → ((w : Waiter) → IsIn w s.waiters → IsForThat s l exclusive at w → ⊥) × (r.3 ≡ s)))
nobody_known n f s l exclusive at good (Some number) known = found_out n f s l exclusive at number good known (find (waits_for (owners.Name Nlm number) at exclusive) s.waiters) refl
nobody_known n f s l exclusive at good None known = (λ told. absurd cc, λ told. (λ w there that. unknown that, refl))
  where
    unknown : {w : Waiter} → IsForThat s l exclusive at w → ⊥
    unknown that = let e = sym known ∙ number_at s.names (owner_of l) that.number good.distinct that.named in absurd cc

pub cancels_take_out : (n count : ℕ) (f : FrontState) (s : CoreState) (a : CancelArgsItem) (at : Aim) → IsGood s → aimed count a.lock ≡ Ok at
    → (let r = served n count f s (Cancel a) in (status_of r.0 ≡ stats.Granted → (w : Waiter) × IsIn w s.waiters × IsForThat s a.lock a.exclusive at w × (r.3 ≡ record s { waiters = cancelled w.id s.waiters }))
    × (status_of r.0 ≡ stats.Denied → ((w : Waiter) → IsIn w s.waiters → IsForThat s a.lock a.exclusive at w → ⊥) × (r.3 ≡ s)))
unfolding served planned
cancels_take_out n count f s a at good e = rw e (nobody_known n f s a.lock a.exclusive at good (number_of (owner_of a.lock) s.names) refl)

-- ---- replies

pub cookie_repeated : (names : List Name) (call : CallItem) (outcome : Outcome) → cookie_told (reply_of names call outcome) ≡ cookie_of call
unfolding reply_of
cookie_repeated names Null outcome = refl
cookie_repeated names (Test a) outcome = refl
cookie_repeated names (Lock a) outcome = refl
cookie_repeated names (Cancel a) outcome = refl
cookie_repeated names (Unlock a) outcome = refl
cookie_repeated names (Granted a) outcome = refl
cookie_repeated names (Share a) outcome = refl
cookie_repeated names (Unshare a) outcome = refl
cookie_repeated names (NmLock a) outcome = refl
cookie_repeated names (FreeAll a) outcome = refl

pub length_reaches : (first last : ℕ) → first ≤ last → last < 2 ^ 64 → last_of first (length_of first last) ≡ Some last
length_reaches first last ends small =
    elim (cases_Bool (eqb last (2 ^ 64 - 1))) [
      | inl top ↦
          let at : last ≡ 2 ^ 64 - 1 = eqb-true last (2 ^ 64 - 1) top in
          let below : nat_lt first (2 ^ 64) ≡ true = grind (arith, nat_tests, ends, small) in
          rw top (rw below (ap Some (sym at)))
      | inr part ↦
          let some : (last + 1 - first == 0) ≡ false = grind (arith, nat_tests, ends) in
          let within : nat_le (first + (last + 1 - first)) (2 ^ 64) ≡ true = grind (arith, nat_tests, ends, small) in
          let reached : first + (last + 1 - first) - 1 ≡ last = omega (arith, ends) in
          rw part (rw some (rw within (ap Some reached)))
    ]

holder_is : (names : List Name) (c : Claim) → IsHolder names c (holder_of names c)
holder_is names c = record {
  mode = λ first last exclusive e. ap (λ (w : What). (holder_by (owner_parts names c.owner) w).exclusive) e;
  offset = λ first last exclusive e. ap (λ (w : What). (holder_by (owner_parts names c.owner) w).l_offset) e;
  length = λ first last exclusive e ends small. ap (λ (w : What). let h = holder_by (owner_parts names c.owner) w in last_of h.l_offset h.l_len) e ∙ length_reaches first last ends small;
  process = λ number caller svid oh e named. who c.what ∙ ap (λ (o : Owner). (owner_parts names o).0) e ∙ ap (λ (o : Option Name). (parts_by o).0) named;
  handle = λ number caller svid oh e named. whose c.what ∙ ap (λ (o : Owner). (owner_parts names o).1) e ∙ ap (λ (o : Option Name). (parts_by o).1) named;
}
  where
    who : (w : What) → (holder_by (owner_parts names c.owner) w).svid ≡ (owner_parts names c.owner).0
    who (whats.Range (Bytes first last) exclusive) = refl
    who (whats.Range (Empty offset) exclusive) = refl
    who (whats.Share access deny) = refl
    who (whats.Cache kind running) = refl

    whose : (w : What) → (holder_by (owner_parts names c.owner) w).oh ≡ (owner_parts names c.owner).1
    whose (whats.Range (Bytes first last) exclusive) = refl
    whose (whats.Range (Empty offset) exclusive) = refl
    whose (whats.Share access deny) = refl
    whose (whats.Cache kind running) = refl

-- what a denied TEST gives is a held range that stands against it
abbrev IsGiven : List Name → CoreState → Claim → Option HolderItem → Type 0
IsGiven names s claim told = (h : HolderItem) → told ≡ Some h → (c : Claim) × IsIn c s.claims × (stands_against claim c ≡ true) × IsHolder names c h

holder_given : (names : List Name) (s : CoreState) (a : TestArgsItem) (at : Aim) (answer : Answer) → IsTestDue s (test_ask a at) (test_claim s a at) answer → IsGiven names s (test_claim s a at) (test_holder names (Answered answer))
holder_given names s a at (answers.Conflict c) due = λ h e. (c, due.2, due.3, subst (IsHolder names c) (same_Some (holder_of names c) h e) (holder_is names c))
holder_given names s a at (answers.Granted c) due = λ h e. absurd cc
holder_given names s a at (answers.NoGrace clock) due = λ h e. absurd cc
holder_given names s a at (answers.Queued number) due = absurd due
holder_given names s a at (answers.Full limit) due = absurd due
holder_given names s a at (answers.Recall c) due = absurd due
holder_given names s a at (answers.Grace until) due = λ h e. absurd cc
holder_given names s a at answers.NotRecorded due = λ h e. absurd cc
holder_given names s a at answers.NotHeld due = absurd due
holder_given names s a at answers.StoreFailed due = absurd due

pub tests_give_a_holder : (names : List Name) (n count : ℕ) (f : FrontState) (s : CoreState) (a : TestArgsItem) (at : Aim) (h : HolderItem) → aimed count a.lock ≡ Ok at → test_holder names (served n count f s (Test a)).0 ≡ Some h
    → (c : Claim) × IsIn c s.claims × (stands_against (test_claim s a at) c ≡ true) × IsHolder names c h
unfolding served planned
tests_give_a_holder names n count f s a at h e = rw e (λ told. holder_given names s a at (ask n (rooms f.hosts) s (test_ask a at)).0 ((ask_test n (rooms f.hosts) s (test_ask a at) (Bytes at.first at.last) a.exclusive (ask n (rooms f.hosts) s (test_ask a at)).0 refl).0 refl) h told)

-- Why an ask or a turn is answered as it is, and what a turn leaves.
use Rattle.std.specs.Prelude.{◌≡◌, ℕ, ◌+◌, ◌<◌, ◌≤◌, Bool, true, false, ◌&&◌, ◌||◌, if◌then◌else◌, ◌⊎◌, List, [], ◌∷◌, ◌++◌, length, Option, Some, None, is_some}
use Rattle.std.specs.List.{AllByRecursion, list_any, slice_get}
use Rattle.xl_base.specs.Lists.{IsIn}
use Rattle.xl_cache.specs.BreakPlans.{is_obstacle}
use Rattle.xl_base.specs.declared.name.Owner.{Owner}
use Rattle.xl_matrix.specs.declared.claim.CacheKind.{CacheKind}
use Rattle.xl_matrix.specs.declared.claim.Claim.{Claim}
use Rattle.xl_matrix.specs.declared.claim.What.TheVariants.{Cache}
use Rattle.xl_matrix.specs.declared.claim.Extent.{Extent}
use Rattle.xl_table.specs.Elements.{element_held}
use Rattle.xl_core.specs.Judge.{all_granted, held_with, held_then, blocks_its_cache, reclaim_blocker, those_before, to_record}
use Rattle.xl_core.specs.Decide.{beside_of, is_back}
use Rattle.xl_core.specs.Standings.{asker_as, waiter_as, stores_name, stands, stands_alone, enters}
use Rattle.xl_core.specs.Stores.{may_record, unrecorded, bytes_with, record_left}
use Rattle.xl_base.specs.declared.stable.Recorded.{Recorded}
use Rattle.xl_core.specs.declared.standings.Standing.{Standing}
use Rattle.xl_core.specs.declared.standings.Standing.TheVariants.{Timely, Reclaims, Stays, Early, Unrecorded}
use Rattle.xl_names.specs.declared.name.Name.{Name}
use Rattle.xl_spans.specs.Spans.{within, mode_at}
use Rattle.xl_table.specs.Flat.{blocks}
use Rattle.xl_table.specs.Held.{is_range, is_share, spans_of}
use Rattle.xl_wait.specs.declared.waiter.Rooms.{Rooms}
use Rattle.xl_wait.specs.declared.waiter.Waiter.{Waiter}
use Rattle.xl_core.specs.State.{CoreState, aside_of}
use Rattle.xl_core.specs.Askers.{asker, asking_party, both_entered, asked_whats, asked_claim, asked_claims}
use Rattle.xl_table.specs.Least.{least}
use Rattle.xl_core.specs.Blockers.{is_barred, is_against, waits_for_asker, range_ahead, is_stopped, is_in_line, blocker, cache_against, test_blockers}
use Rattle.xl_core.specs.Limits.{grant_limits, wait_limits, wish_limits, IsRoom, IsLeastPassed}
use Rattle.xl_table.specs.Flat.{is_blocked}
use Rattle.xl_core.specs.Good.{AllBehind, caches_of, caches_beside, is_held_up, IsUp}
use Rattle.xl_table.specs.Relock.{most_claims, shares_of, relocked_in, granted_claims}
use Rattle.xl_core.specs.declared.ask.Act.{Act}
use Rattle.xl_core.specs.declared.ask.Act.TheVariants.{Share, Ranges}
use Rattle.xl_core.specs.declared.ask.Answer.{Answer}
use Rattle.xl_core.specs.declared.ask.Answer.TheVariants.{Granted, Conflict, Queued, Recall, Grace, NoGrace, NotRecorded, Full, NotHeld, StoreFailed}
use Rattle.xl_core.specs.declared.ask.Ask.{Ask}
use Rattle.xl_core.specs.declared.ask.Effect.{Effect}
use Rattle.xl_core.specs.declared.ask.Effect.TheVariants.{Served}
use Rattle.xl_core.specs.Settle.{way_again}
use Rattle.xl_core.specs.Wishes.{wish_for}
use Rattle.xl_wait.specs.Waiting.{cancelled}

-- the limits of an ask's grant, and of its wait (CORE-5)
abbrev pub limits_of_grant : Rooms → CoreState → Ask → Claim → List (ℕ × Bool)
limits_of_grant left s a claim = grant_limits left a.rows (held_then (beside_of a.reclaim a.wish) claim s.claims) (bytes_with (unrecorded (stores_name a) (asker_as a) s.stable) s.stable) (length (both_entered a s.names))

-- the limits that the ask's wait would meet (CORE-5)
abbrev pub limits_of_wait : Rooms → CoreState → Ask → List (ℕ × Bool)
limits_of_wait left s a = wait_limits left a.rows (length s.waiters) (length (both_entered a s.names))

-- ---- why an ask is answered so

-- who asks behind these waiters waits: for what blocks the claim for good if it waits for that, else for a cache in its way
-- if it awaits the answer to its break (CORE-3)
abbrev pub may_wait : List Waiter → CoreState → Ask → Claim → Bool
may_wait earlier s a claim = if is_stopped earlier s claim then a.blocking else a.awaits

-- it waits: for the end of grace, or for what is in its way
abbrev pub IsWaiting : Standing → List Waiter → CoreState → Ask → Claim → Type 0
IsWaiting Timely earlier s a claim = (may_wait earlier s a claim ≡ true) × (is_in_line earlier s claim ≡ true)
IsWaiting Stays earlier s a claim = Unit {0}
IsWaiting _ earlier s a claim = ⊥

-- nothing held blocks the claim, nor the delegation that is reclaimed with it, nor does the range of one who waits block it, unless
-- the ask is a reclaim
abbrev pub IsFree : CoreState → Ask → Claim → Type 0
IsFree s a claim = (is_blocked s.claims claim ≡ false) × (list_any (λ c. blocks_its_cache (beside_of a.reclaim a.wish) claim c) s.claims ≡ false) × (range_ahead (those_before (stands s a) s.waiters) s claim ≡ None)

-- the held claim blocks it, or the delegation that is reclaimed with it
abbrev pub blocks_either : Ask → Claim → Claim → Bool
blocks_either a claim c = blocks claim c || blocks_its_cache (beside_of a.reclaim a.wish) claim c

-- This range is asked for by one of these who wait, which has another owner and doesn't wait for the asker. What is asked for is a
-- range too that may not be held beside it, and nothing held blocks that for good.
pub record IsAhead (earlier : List Waiter) (s : CoreState) (claim c : Claim) : Type 0 where
  pub waiter : Waiter
  pub waits : IsIn waiter earlier
  pub asks : IsIn c waiter.asked
  pub range : is_range claim.what ≡ true
  pub against : is_against claim c ≡ true
  pub stays : waits_for_asker s.claims claim waiter ≡ false
  pub unbarred : is_barred s claim ≡ false

-- the claim is held, and blocks what is asked for; or it is such a range of one who waits
abbrev pub IsBarring : List Waiter → CoreState → Claim → Claim → Type 0
IsBarring earlier s claim c = (IsIn c s.claims × (blocks claim c ≡ true)) ⊎ IsAhead earlier s claim c

-- it meets a conflict with this claim: of what no break moves that blocks it, the least that is held, or else the first range of those
-- who wait, if it doesn't wait itself; of a reclaim the least of all that is held and blocks it
abbrev pub IsAgainst : Standing → CoreState → Ask → Claim → Claim → Type 0
IsAgainst Timely s a claim c = (a.blocking ≡ false) × (blocker s.waiters s claim ≡ Some c) × IsBarring s.waiters s claim c
IsAgainst Reclaims s a claim c = (reclaim_blocker (beside_of a.reclaim a.wish) claim s ≡ Some c) × IsIn c s.claims × (blocks_either a claim c ≡ true)
IsAgainst _ s a claim c = ⊥

-- the name that is to be recorded with its mark, if the ask is monitored and no reclaim, and its client may be recorded
abbrev pub wanted : CoreState → Ask → Option Recorded
wanted s a = unrecorded (stores_name a) (asker_as a) s.stable

-- Why a share or a lock is, if n stores of the step succeed. What grace lets in and nothing held blocks, nor a range that is asked
-- for in front of it, is granted, if no limit is passed, and its client is recorded or can be. While grace runs a request of SMB waits,
-- and all else but a reclaim is told its end; a reclaim is told that the record lacks its client, or that no grace runs. What
-- something blocks waits, if it may and no limit is passed; else of what blocks it for good the least that is held is answered, or
-- if none is the first range that is waited for, or if nothing does a cache in its way; of a reclaim anything held that blocks it.
abbrev pub IsClaimDue : ℕ → Rooms → CoreState → Ask → Claim → Answer → Type 0
IsClaimDue n left s a claim (Granted c) =
    (c ≡ claim) × (enters (stands s a) ≡ true) × IsFree s a claim × IsRoom (limits_of_grant left s a claim) × (may_record n s (wanted s a) ≡ true)
IsClaimDue n left s a claim (Conflict c) = IsAgainst (stands s a) s a claim c
IsClaimDue n left s a claim (Recall c) =
    (stands s a ≡ Timely) × (a.awaits ≡ false) × (is_stopped s.waiters s claim ≡ false) × (cache_against s.claims claim ≡ Some c) × IsIn c s.claims × (is_obstacle claim s.claims c ≡ true)
IsClaimDue n left s a claim (Queued number) = (number ≡ s.counter + 1) × IsWaiting (stands s a) s.waiters s a claim × IsRoom (limits_of_wait left s a)
IsClaimDue n left s a claim (Grace until) = stands s a ≡ Early until
IsClaimDue n left s a claim (NoGrace clock) = (clock ≡ s.clock) × (s.grace ≡ None) × (a.reclaim ≡ true)
IsClaimDue n left s a claim NotRecorded = stands s a ≡ Unrecorded
IsClaimDue n left s a claim (Full limit) =
    ((enters (stands s a) ≡ true) × IsFree s a claim × IsLeastPassed (limits_of_grant left s a claim) limit)
    ⊎ (IsWaiting (stands s a) s.waiters s a claim × IsLeastPassed (limits_of_wait left s a) limit)
IsClaimDue n left s a claim StoreFailed = (enters (stands s a) ≡ true) × IsFree s a claim × IsRoom (limits_of_grant left s a claim) × (may_record n s (wanted s a) ≡ false)
IsClaimDue n left s a claim NotHeld = ⊥

-- a held range blocks a test of this range
abbrev pub stands_against : Claim → Claim → Bool
stands_against claim held = is_range held.what && blocks claim held

-- Why a wish by itself is: as a lock would be in grace, except that it never waits; behind that it is granted if it passes no
-- limit.
abbrev pub IsWishBy : CoreState → Ask → List (ℕ × Bool) → Claim → Answer → Type 0
IsWishBy s a limits claim (Granted c) = (c ≡ claim) × (enters (stands_alone s a) ≡ true) × IsRoom limits
IsWishBy s a limits claim (Full limit) = (enters (stands_alone s a) ≡ true) × IsLeastPassed limits limit
IsWishBy s a limits claim (Grace until) = stands_alone s a ≡ Early until
IsWishBy s a limits claim (NoGrace clock) = (clock ≡ s.clock) × (s.grace ≡ None) × (a.reclaim ≡ true)
IsWishBy s a limits claim NotRecorded = stands_alone s a ≡ Unrecorded
IsWishBy s a limits claim _ = ⊥

-- a wish for nothing is owed nothing
abbrev pub IsWishDue : Rooms → CoreState → Ask → List CacheKind → Answer → Type 0
IsWishDue left s a [] answer = Unit {0}
IsWishDue left s a (kind ∷ kinds) answer = IsWishBy s a (wish_limits left a.rows (length (both_entered a s.names))) (asked_claim a (Cache kind None) s.names) answer

-- Why a test is: as a lock would be in grace, and behind that the least of the held ranges that block it is answered, if there is
-- one (CORE-4).
abbrev pub IsTestDue : CoreState → Ask → Claim → Answer → Type 0
IsTestDue s a claim (Granted c) = (c ≡ claim) × (enters (stands_alone s a) ≡ true) × (list_any (stands_against claim) s.claims ≡ false)
IsTestDue s a claim (Grace until) = stands_alone s a ≡ Early until
IsTestDue s a claim NotRecorded = stands_alone s a ≡ Unrecorded
IsTestDue s a claim (Conflict c) = (enters (stands_alone s a) ≡ true) × (least s.names (test_blockers s claim) ≡ Some c) × IsIn c s.claims × (stands_against claim c ≡ true)
IsTestDue s a claim (NoGrace clock) = (clock ≡ s.clock) × (s.grace ≡ None) × (a.reclaim ≡ true)
IsTestDue s a claim _ = ⊥

-- the owner has no byte of the range
abbrev pub HasNoByte : CoreState → ℕ → Owner → ℕ → ℕ → Type 0
HasNoByte s file owner first last = (byte : ℕ) → within first last byte ≡ true → mode_at (spans_of file owner s.claims) byte ≡ None

-- the owner has a byte of the range
abbrev pub HasByte : CoreState → ℕ → Owner → ℕ → ℕ → Type 0
HasByte s file owner first last = (byte : ℕ) × (within first last byte ≡ true) × (mode_at (spans_of file owner s.claims) byte ≡ None → ⊥)

-- how many claims there are after the owner's unlock
abbrev pub left_by_unlock : CoreState → Claim → ℕ → ℕ → ℕ
left_by_unlock s claim first last = length (relocked_in claim.file claim.owner claim.party first last None s.claims)

-- Why an unlock is. One that cuts a range in two adds a claim, for which there may be no room (TABLE-9).
abbrev pub IsUnlockDue : CoreState → Claim → ℕ → ℕ → Answer → Type 0
IsUnlockDue s claim first last (Granted c) = (c ≡ claim) × HasByte s claim.file claim.owner first last × (left_by_unlock s claim first last ≤ most_claims)
IsUnlockDue s claim first last (Full limit) = (limit ≡ most_claims) × HasByte s claim.file claim.owner first last × (most_claims < left_by_unlock s claim first last)
IsUnlockDue s claim first last NotHeld = HasNoByte s claim.file claim.owner first last
IsUnlockDue s claim first last _ = ⊥

-- Why an unlock by an SMB open is: it has an element of just this range, or none (EXACT-2).
abbrev pub IsElementDue : CoreState → Claim → Extent → Answer → Type 0
IsElementDue s claim extent (Granted c) = (c ≡ claim) × (is_some (element_held claim extent s.claims) ≡ true)
IsElementDue s claim extent NotHeld = element_held claim extent s.claims ≡ None
IsElementDue s claim extent _ = ⊥

-- Why several claims of which none waits are answered so, behind these waiters: each is judged once those before it are held. The
-- first that something blocks for good is answered with the least that is held and does, or else the first range of those who wait;
-- the first that a cache keeps off, with that; the first that passes a limit, with the least limit. If there is no such the answer
-- is the last one. So many names are kept then, and so many bytes are in the record that is stored first (CORE-14).
abbrev pub IsEachBehind : List Waiter → Rooms → Rooms → ℕ → ℕ → Answer → List Claim → CoreState → Answer → Type 0
IsEachBehind earlier left rows bytes kept last [] s answer = answer ≡ last
IsEachBehind earlier left rows bytes kept last (c ∷ cs) s answer =
    ((d : Claim) → blocker earlier s c ≡ Some d → answer ≡ Conflict d)
    × ((d : Claim) → is_stopped earlier s c ≡ false → cache_against s.claims c ≡ Some d → answer ≡ Recall d)
    × ((limit : ℕ) → is_in_line earlier s c ≡ false → IsLeastPassed (grant_limits left rows (length (granted_claims c s.claims)) bytes kept) limit → answer ≡ Full limit)
    × (is_in_line earlier s c ≡ false → IsRoom (grant_limits left rows (length (granted_claims c s.claims)) bytes kept) → IsEachBehind earlier left rows 0 kept last cs (held_with (c ∷ []) s) answer)

-- why an ask for several ranges of which none waits is: behind all who wait, unless it is a reclaim; all are granted, or none
abbrev pub IsEachDue : Rooms → CoreState → Ask → Claim → List Claim → Answer → Type 0
IsEachDue left s a first asked answer = IsEachBehind (those_before (stands s a) s.waiters) left a.rows (bytes_with (wanted s a) s.stable) (length (both_entered a s.names)) (Granted first) asked s answer

-- ---- what an ask leaves of the record

-- it asks for claims
abbrev pub asks_claims : Act → Bool
asks_claims (Share access deny) = true
asks_claims (Ranges ranges) = true
asks_claims _ = false

-- its client has reclaimed something, if that is granted
abbrev pub back_by : Ask → Answer → CoreState → CoreState
back_by a (Granted c) s = if asks_claims a.act then is_back a s else s
back_by a answer s = s

-- what is to be recorded before it is granted what it asks for
abbrev pub name_asked : CoreState → Ask → Option Recorded
name_asked s a = to_record (wanted s a) (asked_claims a (asked_whats a.act) s.names)

-- the record, the stores of the step and the grace once an ask is answered so: one that is granted has its client recorded, and
-- back in grace if it reclaims (CORE-16, RECORD-9)
abbrev pub noted_by : CoreState → Ask → Answer → CoreState
noted_by s a answer = back_by a answer (record_left (name_asked s a) answer s)

-- ---- what a turn is

-- what is held once one who waits for these is answered so
abbrev pub held_once : List Claim → Answer → List Claim → List Claim
held_once asked (Granted c) held = all_granted asked held
held_once asked answer held = held

-- what is to be recorded before a waiter is granted what it waits for: the name of one who is monitored, if the record lacks it
abbrev pub name_waiting : CoreState → Waiter → Option Recorded
name_waiting s w = unrecorded w.monitored (waiter_as s.names w) s.stable

-- what is told of claims that nothing stops, of which this is the first: they are granted, or the store failed that was wanted
-- first
abbrev pub last_answer : Bool → Claim → Answer
last_answer true first = Granted first
last_answer false first = StoreFailed

-- the state once one who waits is answered so, before its wish is granted
abbrev pub once_told : CoreState → Waiter → Answer → CoreState
once_told s w answer = record (record_left (to_record (name_waiting s w) w.asked) answer s) { claims = held_once w.asked answer s.claims; waiters = cancelled w.id s.waiters }

-- What becomes of a waiter for these, of which this is the first, behind earlier waiters, once its breaks run: if the
-- first is held up by them it waits on, and has no answer; else each is judged beside those before it, the name of one who is
-- monitored is recorded, if n stores of the step succeed, and it is answered so and waits no more.
pub data IsServed (n : ℕ) (left : Rooms) (earlier : List Waiter) (s : CoreState) (w : Waiter) (claim : Claim) (told : List Effect) (new : CoreState) : Type 0 where
  Answered : (answer : Answer) → told ≡ Served w.party w.id answer ∷ [] → ((c : Claim) → answer ≡ Granted c → c ≡ claim)
      → IsEachBehind earlier left w.rows (bytes_with (name_waiting s w) s.stable) (length s.names) (last_answer (may_record n s (to_record (name_waiting s w) w.asked)) claim) w.asked s answer
      → new ≡ wish_for w.wish answer (once_told s w answer) → is_held_up earlier s w claim ≡ false → IsServed n left earlier s w claim told new
  WaitsOn : told ≡ [] → is_held_up earlier s w claim ≡ true → new ≡ s → IsServed n left earlier s w claim told new

-- The first waiter that isn't held up has its turn: its breaks begin, with their effects, and then it is judged. Its
-- names are kept already. No grace runs. What it is granted it has then, and the cache that its wish gets. Beside caches only what the
-- owners of what it asks for have on its file changes, and beside those whose breaks began no cache except its party's
-- there (CORE-11).
pub record IsTurn (n : ℕ) (left : Rooms) (s : CoreState) (effects : List Effect) (new : CoreState) : Type 0 where
  pub before : List Waiter
  pub waiter : Waiter
  pub behind : List Waiter
  pub claim : Claim
  pub claims : List Claim
  pub told : List Effect
  pub stood : s.waiters ≡ before ++ waiter ∷ behind
  pub blocked : AllBehind (IsUp s) [] before
  pub asked : waiter.asked ≡ claim ∷ claims
  pub calm : s.grace ≡ None
  pub free : is_held_up before s waiter claim ≡ false
  pub effects_are : effects ≡ (way_again before s waiter).0 ++ told
  pub served : IsServed n left before (way_again before s waiter).1 waiter claim told new
  pub names : new.names ≡ s.names
  pub spans : (file : ℕ) (owner : Owner) → AllByRecursion (λ c. (file ≡ c.file) × (owner ≡ c.owner) × (is_share c.what ≡ false) → ⊥) waiter.asked → spans_of file owner new.claims ≡ spans_of file owner s.claims
  pub shares : (file : ℕ) (owner : Owner) → AllByRecursion (λ c. (file ≡ c.file) × (owner ≡ c.owner) × (is_share c.what ≡ true) → ⊥) waiter.asked → shares_of file owner new.claims ≡ shares_of file owner s.claims
  pub caches : caches_beside claim.file claim.party new.claims ≡ caches_beside claim.file claim.party (way_again before s waiter).1.claims
  pub unwished : waiter.wish ≡ [] → caches_of new.claims ≡ caches_of (way_again before s waiter).1.claims

-- ---- what an ask may change

-- a share is asked for
abbrev pub asks_share : Act → Bool
asks_share (Share access deny) = true
asks_share _ = false

-- An ask that is neither granted nor let wait changes nothing, except that a store may have failed. One that is granted changes
-- only what its owner has on its file: a share for a share, ranges for a range, and its party's cache there if it wishes for one.
-- One that waits changes no claim. No other cache changes, no waiter goes, and each name keeps its number.
pub record IsOwn (s : CoreState) (a : Ask) (answer : Answer) (new : CoreState) : Type 0 where
  pub claims : ((claim : Claim) → answer ≡ Granted claim → ⊥) → new.claims ≡ s.claims
  pub waiters : ((number : ℕ) → answer ≡ Queued number → ⊥) → new.waiters ≡ s.waiters
  pub refused : ((claim : Claim) → answer ≡ Granted claim → ⊥) → ((number : ℕ) → answer ≡ Queued number → ⊥) → new ≡ noted_by s a answer
  pub noted : aside_of new ≡ aside_of (noted_by s a answer)
  pub spans : (file : ℕ) (owner : Owner) → ((file ≡ a.file) × (owner ≡ asker a s.names) × (asks_share a.act ≡ false) → ⊥) → spans_of file owner new.claims ≡ spans_of file owner s.claims
  pub shares : (file : ℕ) (owner : Owner) → ((file ≡ a.file) × (owner ≡ asker a s.names) × (asks_share a.act ≡ true) → ⊥) → shares_of file owner new.claims ≡ shares_of file owner s.claims
  pub caches : caches_beside a.file (asking_party a s.names) new.claims ≡ caches_beside a.file (asking_party a s.names) s.claims
  pub unwished : a.wish ≡ [] → caches_of new.claims ≡ caches_of s.claims
  pub stay : (w : Waiter) → IsIn w s.waiters → IsIn w new.waiters
  pub names : (number : ℕ) (name : Name) → slice_get s.names number ≡ Some name → slice_get new.names number ≡ Some name

-- ---- a test and the lock that it foretells

-- both are asked by the same owner of the same client on the same file, and are reclaims or not
pub record IsSameAsker (a b : Ask) : Type 0 where
  pub file : a.file ≡ b.file
  pub owner : a.owner ≡ b.owner
  pub party : a.party ≡ b.party
  pub reclaim : a.reclaim ≡ b.reclaim

-- something held is answered
abbrev pub IsConflict : Answer → Type 0
IsConflict answer = (c : Claim) × (answer ≡ Conflict c)

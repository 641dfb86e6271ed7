-- What an ask is answered, and what it changes.
use Rattle.std.specs.Prelude.{ℕ, ◌+◌, Bool, true, false, not, if◌then◌else◌, nat_le, List, [], ◌∷◌, ◌++◌, length, Option, Some, None}
use Rattle.xl_base.specs.declared.name.Party.{Party}
use Rattle.xl_matrix.specs.declared.claim.CacheKind.{CacheKind}
use Rattle.xl_matrix.specs.declared.claim.Claim.{Claim}
use Rattle.xl_matrix.specs.declared.claim.Extent.{Extent}
use Rattle.xl_matrix.specs.declared.claim.Extent.TheVariants.{Bytes, Empty}
use Rattle.xl_matrix.specs.declared.claim.What.TheVariants.{Cache}
use Rattle.xl_wait.specs.declared.waiter.Rooms.{Rooms}
use Rattle.xl_wait.specs.declared.waiter.Waiter.{Waiter}
use Rattle.xl_core.specs.State.{CoreState}
use Rattle.xl_core.specs.Askers.{asking_party, both_entered, asked_whats, asked_claim, asked_claims, known_claim}
use Rattle.xl_table.specs.Least.{least}
use Rattle.xl_core.specs.Blockers.{test_blockers}
use Rattle.xl_core.specs.Judge.{judged}
use Rattle.xl_core.specs.Standings.{recorded_as, asker_as, stores_name, stands, stands_alone, refusal}
use Rattle.xl_core.specs.Stores.{unrecorded}
use Rattle.xl_grace.specs.Grace.{reclaimed}
use Rattle.xl_core.specs.Ways.{made_way}
use Rattle.xl_core.specs.Wishes.{wish_for}
use Rattle.xl_core.specs.Limits.{wait_limits, wish_limits, first_passed}
use Rattle.xl_matrix.specs.Owners.{posix}
use Rattle.xl_table.specs.Elements.{element_held}
use Rattle.xl_table.specs.Flat.{removed}
use Rattle.xl_table.specs.Relock.{most_claims, relocked_in, holds_byte}
use Rattle.xl_core.specs.declared.ask.Act.{Act}
use Rattle.xl_core.specs.declared.ask.Act.TheVariants.{Share, Ranges, Test, Unlock, Wish}
use Rattle.xl_core.specs.declared.ask.Answer.{Answer}
use Rattle.xl_core.specs.declared.ask.Answer.TheVariants.{Granted, Conflict, Queued, Full, NotHeld}
use Rattle.xl_core.specs.declared.ask.Ask.{Ask}
use Rattle.xl_core.specs.declared.ask.Effect.{Effect}
use Rattle.xl_core.specs.declared.judge.Plea.{Plea}
use Rattle.xl_core.specs.declared.judge.Ruling.{Ruling}
use Rattle.xl_core.specs.declared.judge.Ruling.TheVariants.{Gets, Waits, Told}

-- the answer, the effects besides, and the state that is left
abbrev pub Answered : Type 0
Answered = Answer × List Effect × CoreState

-- ---- a share or a lock

-- the cache that is reclaimed with what is asked for
abbrev pub beside_of : Bool → List CacheKind → Option CacheKind
beside_of true (kind ∷ kinds) = Some kind
beside_of _ _ = None

-- what the ask pleads: with the names that are kept once it is granted, and the limit that its wait would pass
unfoldable pub plea_of : Rooms → CoreState → Ask → Plea
plea_of left s a =
    let kept = length (both_entered a s.names) in
    record { blocking = a.blocking; awaits = a.awaits; standing = stands s a; beside = beside_of a.reclaim a.wish; unrecorded = unrecorded (stores_name a) (asker_as a) s.stable; rows = a.rows; kept = kept; crowded = first_passed (wait_limits left a.rows (length s.waiters) kept) }

-- one who waits counts among the hosts from then on (CORE-6)
abbrev pub waiting_rows : Rooms → Rooms
waiting_rows rows = record { hosts = 0; owners = rows.owners; opens = rows.opens }

-- this party waits under this number for these claims
abbrev pub waiter_of : ℕ → Ask → Party → List Claim → Waiter
waiter_of id a party claims = record { id = id; party = party; conn = a.conn; asked = claims; wish = a.wish; blocking = a.blocking; monitored = stores_name a; mark = a.mark; rows = waiting_rows a.rows }

-- the names of the ask are kept
abbrev pub named : Ask → CoreState → CoreState
named a s = record s { names = both_entered a s.names }

-- the asker waits, under the next number
abbrev pub waiting : Ask → List Claim → CoreState → CoreState
waiting a claims s = record s { waiters = s.waiters ++ waiter_of (s.counter + 1) a (asking_party a s.names) claims ∷ []; names = both_entered a s.names; counter = s.counter + 1 }

-- the client has reclaimed something in the grace that runs
abbrev pub is_back : Ask → CoreState → CoreState
is_back a s = if a.reclaim then record s { grace = reclaimed (recorded_as a.party) s.grace } else s

-- what an ask is answered by the ruling on its claims: the first of them granted, a refusal, or the number under which it waits
abbrev pub answered : Ask → List Claim → Claim → Ruling → List Effect → CoreState → Answered
answered a claims first Gets told s = (Granted first, told, named a (is_back a s))
answered a claims first Waits told s = (Queued (s.counter + 1), told, waiting a claims s)
answered a claims first (Told answer) told s = (answer, told, s)

-- an ask for no range at all asks for nothing that is held (CORE-13)
unfoldable pub claims_asked : ℕ → Rooms → CoreState → Ask → List Claim → Answered
claims_asked n left s a [] = (NotHeld, [], s)
claims_asked n left s a (c ∷ cs) = let r = judged n s.waiters left (plea_of left s a) (c ∷ cs) s in answered a (c ∷ cs) c r.0 r.1 r.2

-- ---- a test

-- granted if nothing is in the way
abbrev pub test_answered : Claim → Option Claim → Answer
test_answered claim None = Granted claim
test_answered claim (Some c) = Conflict c

-- a test that grace refuses, or that goes on
abbrev pub tested_by : Option Answer → CoreState → Claim → Answer
tested_by (Some answer) s claim = answer
tested_by None s claim = test_answered claim (least s.names (test_blockers s claim))

-- a test is answered with what a lock of this claim would meet, and changes nothing (CORE-4)
unfoldable pub tested : CoreState → Ask → Claim → Answer
tested s a claim = tested_by (refusal (stands_alone s a)) s claim

-- ---- an unlock

-- the claims once it is done
abbrev pub unlocked_claims : Claim → ℕ → ℕ → List Claim → List Claim
unlocked_claims c first last held = relocked_in c.file c.owner c.party first last None held

-- the owner's bytes of the range are given up: not held if it has none, full if there is no room to cut a range in two
-- (TABLE-9)
abbrev pub unlocked_bytes : CoreState → Claim → ℕ → ℕ → Answered
unlocked_bytes s claim first last =
    if not (holds_byte claim.file claim.owner first last s.claims) then (NotHeld, [], s)
    else if not (nat_le (length (unlocked_claims claim first last s.claims)) most_claims) then (Full most_claims, [], s)
    else (Granted claim, [], record s { claims = unlocked_claims claim first last s.claims })

-- the held claim is taken out, or there is none
abbrev pub freed : CoreState → Claim → Option Claim → Answered
freed s claim None = (NotHeld, [], s)
freed s claim (Some c) = (Granted claim, [], record s { claims = removed c s.claims })

-- one element of an SMB open of just this range is given up, exclusive before shared (MS-FSA 2.1.5.9) (EXACT-2)
abbrev pub unlocked_one : CoreState → Claim → Extent → Answered
unlocked_one s claim extent = freed s claim (element_held claim extent s.claims)

-- an unlock of a range, by its owner
unfoldable pub unlocked : CoreState → Claim → Extent → Answered
unlocked s claim (Bytes first last) = if posix claim.owner then unlocked_bytes s claim first last else unlocked_one s claim (Bytes first last)
unlocked s claim (Empty offset) = unlocked_one s claim (Empty offset)

-- ---- a wish by itself

abbrev pub wish_by : CoreState → Ask → Claim → Option ℕ → Answered
wish_by s a claim None = (Granted claim, [], named a s)
wish_by s a claim (Some limit) = (Full limit, [], s)

-- a wish by itself that grace refuses, or that goes on
abbrev pub wish_graced : Rooms → CoreState → Ask → Claim → Option Answer → Answered
wish_graced left s a claim (Some answer) = (answer, [], s)
wish_graced left s a claim None = wish_by s a claim (first_passed (wish_limits left a.rows (length (both_entered a s.names))))

-- a wish by itself is granted, with its first choice, if no grace runs and it passes no limit: which cache it gets, if any, is
-- seen then. It never waits, and breaks nothing (CACHE-10).
unfoldable pub wish_asked : Rooms → CoreState → Ask → List CacheKind → Answered
wish_asked left s a [] = (NotHeld, [], s)
wish_asked left s a (kind ∷ kinds) = wish_graced left s a (asked_claim a (Cache kind None) s.names) (refusal (stands_alone s a))

-- ---- an ask

-- the ask by what it asks for
abbrev pub acted : ℕ → Rooms → CoreState → Ask → Act → Answered
acted n left s a (Share access deny) = claims_asked n left s a (asked_claims a (asked_whats (Share access deny)) s.names)
acted n left s a (Ranges ranges) = claims_asked n left s a (asked_claims a (asked_whats (Ranges ranges)) s.names)
acted n left s a (Test extent exclusive) = (tested s a (known_claim a extent exclusive s.names), [], s)
acted n left s a (Unlock extent) = unlocked s (known_claim a extent false s.names) extent
acted n left s a Wish = wish_asked left s a a.wish

-- what an ask is answered once its breaks run
unfoldable pub decided : ℕ → Rooms → CoreState → Ask → Answered
decided n left s a = acted n left s a a.act

-- the way that is made for it, if it asks for something that is held then
abbrev pub way : Rooms → CoreState → Ask → List Effect × CoreState
way left s a = made_way s.waiters (plea_of left s a) (asked_claims a (asked_whats a.act) s.names) s

-- an answer behind the effects before it
abbrev pub behind_way : List Effect → Answered → Answered
behind_way told r = (r.0, told ++ r.1, r.2)

-- what an ask is answered before its wish is granted: its breaks begin, and then it is judged
unfoldable pub before_wish : ℕ → Rooms → CoreState → Ask → Answered
before_wish n left s a = behind_way (way left s a).0 (decided n left (way left s a).1 a)

-- a wish comes with a share, or by itself (CACHE-10)
abbrev pub does_wish : Act → Bool
does_wish (Share access deny) = true
does_wish (Ranges ranges) = false
does_wish (Test extent exclusive) = false
does_wish (Unlock extent) = false
does_wish Wish = true

-- the state once the wish is granted of an ask that is answered so (CACHE-10)
abbrev pub wish_after : Ask → Answer → CoreState → CoreState
wish_after a answer s = if does_wish a.act then wish_for a.wish answer s else s

abbrev pub with_wish : Ask → Answered → Answered
with_wish a r = (r.0, r.1, wish_after a r.0 r.2)

-- What an ask is answered, its effects, and what it leaves, if this room is left in the fronts' tables and n
-- stores succeed in the step: its breaks begin, then it is judged, and if it is granted its wish is.
unfoldable pub ask : ℕ → Rooms → CoreState → Ask → Answered
ask n left s a = with_wish a (before_wish n left s a)

-- What stands against an ask: held shares and ranges, ranges that others wait for who came earlier, and caches, whose breaks may make
-- way.
use Rattle.std.specs.Prelude.{ℕ, Bool, not, ◌&&◌, ◌||◌, ◌==◌, if◌then◌else◌, List, [], ◌∷◌, ◌++◌, Option, Some, None, is_some}
use Rattle.std.specs.List.{filter, list_any}
use Rattle.xl_cache.specs.BreakPlans.{is_final, planned}
use Rattle.xl_cache.specs.declared.break_plan.BreakPlan.{BreakPlan}
use Rattle.xl_matrix.specs.Equal.{same_owners}
use Rattle.xl_matrix.specs.Matrix.{compat}
use Rattle.xl_matrix.specs.declared.claim.CacheKind.{CacheKind}
use Rattle.xl_matrix.specs.declared.claim.Claim.{Claim}
use Rattle.xl_table.specs.Flat.{blocks, is_blocked}
use Rattle.xl_table.specs.Held.{is_range}
use Rattle.xl_table.specs.Least.{least}
use Rattle.xl_table.specs.Relock.{is_range_by}
use Rattle.xl_wait.specs.Waiting.{waiting_on}
use Rattle.xl_wait.specs.declared.waiter.Waiter.{Waiter}
use Rattle.xl_core.specs.State.{CoreState}
use Rattle.xl_core.specs.declared.blockers.Passage.{Passage}
use Rattle.xl_core.specs.declared.blockers.Passage.TheVariants.{Barred, Open}

-- ---- what is held

-- what is held and blocks the ask for good: shares and ranges that no break moves
unfoldable pub held_blockers : CoreState → Claim → List Claim
held_blockers s ask = filter (is_final ask s.claims) s.claims

-- something held does
abbrev pub is_barred : CoreState → Claim → Bool
is_barred s ask = list_any (is_final ask s.claims) s.claims

-- ---- who waits in front

-- a range that the asker holds on its file blocks what is asked for there
abbrev pub is_blocked_by : List Claim → Claim → Claim → Bool
is_blocked_by held ask asked = (asked.file == ask.file) && list_any (λ d. is_range_by ask.owner d && blocks asked d) held

-- the waiter waits for the asker, which holds such a range: the asker goes ahead of it
abbrev pub waits_for_asker : List Claim → Claim → Waiter → Bool
waits_for_asker held ask w = list_any (is_blocked_by held ask) w.asked

-- the claim that a waiter asks for is a range of another owner, and the ask's range may not be held beside it
abbrev pub is_against : Claim → Claim → Bool
is_against ask asked = is_range asked.what && (not (same_owners asked.owner ask.owner) && not (compat ask asked))

-- the ranges that the waiter asks for and that block the ask of who comes later, unless the waiter waits for that one
abbrev pub ranges_of : List Claim → Claim → Waiter → List Claim
ranges_of held ask w = if waits_for_asker held ask w then [] else filter (is_against ask) w.asked

-- the same of several who wait, in their order
abbrev pub ranges_of_all : List Claim → Claim → List Waiter → List Claim
ranges_of_all held ask [] = []
ranges_of_all held ask (w ∷ ws) = ranges_of held ask w ++ ranges_of_all held ask ws

-- Ranges are granted in the order in which they were asked for: the ranges that block the ask for a range of those who wait on its
-- file and came earlier. Nothing else waits for who waits (CORE-10).
unfoldable pub ranges_ahead : List Waiter → CoreState → Claim → List Claim
ranges_ahead earlier s ask = if is_range ask.what then ranges_of_all s.claims ask (waiting_on ask.file earlier) else []

abbrev pub first_claim : List Claim → Option Claim
first_claim [] = None
first_claim (c ∷ cs) = Some c

-- the first of these ranges
unfoldable pub range_ahead : List Waiter → CoreState → Claim → Option Claim
range_ahead earlier s ask = first_claim (ranges_ahead earlier s ask)

-- ---- both

-- what blocks for good an ask behind these waiters: what is held, and the ranges that they ask for
abbrev pub blockers : List Waiter → CoreState → Claim → List Claim
blockers earlier s ask = held_blockers s ask ++ ranges_ahead earlier s ask

-- something does
abbrev pub is_stopped : List Waiter → CoreState → Claim → Bool
is_stopped earlier s ask = is_barred s ask || is_some (range_ahead earlier s ask)

-- the first of two, if there is one
abbrev pub first_of : Option Claim → Option Claim → Option Claim
first_of (Some c) later = Some c
first_of None later = later

-- the one of them that a refusal names: the least that is held, or else the first range that is waited for (CORE-2)
unfoldable pub blocker : List Waiter → CoreState → Claim → Option Claim
blocker earlier s ask = first_of (least s.names (held_blockers s ask)) (range_ahead earlier s ask)

-- an ask that stands so waits for what is in its way: what is held blocks it, or the range of one who waits in front
abbrev pub is_in_line : List Waiter → CoreState → Claim → Bool
is_in_line earlier s ask = is_blocked s.claims ask || is_some (range_ahead earlier s ask)

-- ---- caches

abbrev pub first_broken : List (Claim × Option CacheKind) → Option Claim
first_broken [] = None
first_broken (begun ∷ breaks) = Some begun.0

-- the cache that a plan waits for, or else the first that it breaks (CACHE-3)
abbrev pub cache_by : Option Claim → List (Claim × Option CacheKind) → Option Claim
cache_by (Some c) breaks = Some c
cache_by None breaks = first_broken breaks

-- no break is left to begin for the ask: of each cache in its way one runs
abbrev pub all_run : List Claim → Claim → Bool
all_run held ask = not (is_some (first_broken (planned ask held).breaks))

abbrev pub cache_in : BreakPlan → Option Claim
cache_in p = cache_by p.awaited p.breaks

-- a cache that blocks the ask, or covers a share that does; one whose break runs, if there is one
unfoldable pub cache_against : List Claim → Claim → Option Claim
cache_against held ask = cache_in (planned ask held)

-- how the way of a claim stands, of which the steps of the judgement are read: barred by what blocks it for good, of which this is
-- named, or open once this plan is carried out and answered
abbrev pub passage_by : Option Claim → BreakPlan → Passage
passage_by (Some c) plan = Barred c
passage_by None plan = Open plan

unfoldable pub passage_of : List Waiter → CoreState → Claim → Passage
passage_of earlier s ask = passage_by (blocker earlier s ask) (planned ask s.claims)

-- those of these before the first of this number
abbrev pub before_number : ℕ → List Waiter → List Waiter
before_number id [] = []
before_number id (w ∷ ws) = if w.id == id then [] else w ∷ before_number id ws

-- what the answer to a test names: ranges that are held alone (CORE-4)
unfoldable pub test_blockers : CoreState → Claim → List Claim
test_blockers s ask = filter (λ held. is_range held.what) (filter (λ held. blocks ask held) s.claims)

-- What the claims are once the breaks of an ask begin, and the effects of these.
use Rattle.std.specs.Prelude.{ℕ, ◌+◌, ◌==◌, Bool, true, false, not, ◌&&◌, option_map, if◌then◌else◌, List, [], ◌∷◌, length, Option, Some, None}
use Rattle.std.specs.List.{filter, filter_map, find}
use Rattle.xl_base.specs.Lists.{sorted}
use Rattle.xl_base.specs.declared.event.Moment.{Moment}
use Rattle.xl_base.specs.declared.name.Party.{Party}
use Rattle.xl_base.specs.declared.name.Party.TheVariants as parties
use Rattle.xl_base.specs.declared.name.Protocol.TheVariants.{Nfs}
use Rattle.xl_cache.specs.BreakPlans.{is_running, blocking_shares, break_of, planned, is_slow}
use Rattle.xl_cache.specs.declared.break_plan.BreakPlan.{BreakPlan}
use Rattle.xl_matrix.specs.Equal.{same_parties}
use Rattle.xl_matrix.specs.declared.claim.CacheKind.{CacheKind}
use Rattle.xl_matrix.specs.declared.claim.Claim.{Claim}
use Rattle.xl_matrix.specs.declared.claim.What.{What}
use Rattle.xl_matrix.specs.declared.claim.What.TheVariants.{Cache}
use Rattle.xl_names.specs.Texts.{party_text}
use Rattle.xl_names.specs.declared.name.Name.{Name}
use Rattle.xl_table.specs.Flat.{with_what}
use Rattle.xl_table.specs.Held.{is_cache}
use Rattle.xl_core.specs.Leases.{moment_after, comes_before}
use Rattle.xl_core.specs.State.{CoreState}
use Rattle.xl_core.specs.declared.ask.Effect.{Effect}
use Rattle.xl_core.specs.declared.ask.Effect.TheVariants as effects

-- the cache while a break of it runs, which is to leave this much, and whose answer is due then
abbrev pub with_break : Claim → What → Option CacheKind → Moment → Claim
with_break c (Cache kind running) to deadline = with_what c (Cache kind (Some (record { target = to; deadline = deadline })))
with_break c w to deadline = c

-- what becomes of a claim: it stays if no break of it begins; a cache is held at its full kind until the break is
-- answered, and is gone if the break needs no answer
abbrev pub once_begun : Moment → Claim → Option (Claim × Option CacheKind) → Option Claim
once_begun deadline c None = Some c
once_begun deadline c (Some begun) = if is_slow begun then Some (with_break c c.what begun.1 deadline) else None

-- the claims once the breaks of the ask begin, with their answers due then (MS-SMB2 3.3.4.6, 3.3.4.7; RFC 7530
-- 10.4.4) (CACHE-2)
unfoldable pub once_broken : Moment → Claim → List Claim → List Claim
once_broken deadline ask held = filter_map (λ c. once_begun deadline c (break_of ask (blocking_shares ask held) c)) held

-- the cache of this break while it runs
abbrev pub as_broken : Moment → Claim × Option CacheKind → Claim
as_broken deadline begun = with_break begun.0 begun.0.what begun.1 deadline

-- the first cache of the plan that is held once its breaks have begun, as it is held then
abbrev pub left_of : Moment → Option Claim → List (Claim × Option CacheKind) → Option Claim
left_of deadline None breaks = None
left_of deadline (Some c) breaks = if is_running c.what then Some c else option_map (as_broken deadline) (find is_slow breaks)

abbrev pub left_then : Moment → BreakPlan → Option Claim
left_then deadline p = left_of deadline p.left p.breaks

-- what is left of the plan once its breaks have begun: none begins, and what is left is awaited
abbrev pub plan_then : Moment → BreakPlan → BreakPlan
plan_then deadline p = record { breaks = []; awaited = left_then deadline p; left = left_then deadline p }

-- a cache of which no break runs
abbrev pub is_idle : Claim → Bool
is_idle c = is_cache c.what && not (is_running c.what)

-- how many breaks may begin at most
abbrev pub idle_caches : List Claim → ℕ
idle_caches held = length (filter is_idle held)

-- all except the caches
abbrev pub others_of : List Claim → List Claim
others_of held = filter (λ c. not (is_cache c.what)) held

-- ---- the effects

-- of two breaks on a file the first comes first: by the text of the party (CACHE-6)
abbrev pub told_before : List Name → Claim × Option CacheKind → Claim × Option CacheKind → Bool
told_before names a b = comes_before (party_text names a.0.party) (party_text names b.0.party)

-- the break has a call of the server's own, a recall: the cache is the delegation of an NFSv4 client (RFC 7530
-- 10.4.1)
abbrev pub is_recalled : Party → Bool
is_recalled (parties.Name Nfs number) = true
is_recalled _ = false

abbrev pub is_recall : Claim × Option CacheKind → Bool
is_recall begun = is_recalled begun.0.party

-- how many of the breaks have such a call
abbrev pub recalls : List (Claim × Option CacheKind) → ℕ
recalls breaks = length (filter is_recall breaks)

-- how many breaks may have such a call at most
abbrev pub idle_delegations : List Claim → ℕ
idle_delegations held = length (filter (λ c. is_idle c && is_recalled c.party) held)

-- the number of the break's call, if the last number that was given out is this one; and the last one then
abbrev pub call_of : ℕ → Claim × Option CacheKind → Option ℕ
call_of last begun = if is_recall begun then Some (last + 1) else None

abbrev pub last_of : ℕ → Option ℕ → ℕ
last_of last None = last
last_of last (Some number) = number

-- the effects of these breaks in their order, if the last number that was given out is this one
abbrev pub begun_told : ℕ → List (Claim × Option CacheKind) → List Effect
begun_told last [] = []
begun_told last (b ∷ bs) = effects.Begun b.0 b.1 (call_of last b) ∷ begun_told (last_of last (call_of last b)) bs

-- the breaks that the ask begins, in the order of their effects (CACHE-6)
abbrev pub breaks_in_order : Claim → CoreState → List (Claim × Option CacheKind)
breaks_in_order ask s = sorted (told_before s.names) (planned ask s.claims).breaks

-- The breaks of the ask begin, each with its effect; the answer to each is due within the break time, and each recall
-- has drawn a number (CACHE-6).
unfoldable pub breaks_begun : Claim → CoreState → List Effect × CoreState
breaks_begun ask s = (
  begun_told s.counter (breaks_in_order ask s),
  record s { claims = once_broken (moment_after s.clock s.times.break_time) ask s.claims; counter = s.counter + recalls (planned ask s.claims).breaks },
)

-- ---- what the tellings say

-- the breaks that these tell of, in order
abbrev pub breaks_told : List Effect → List (Claim × Option CacheKind)
breaks_told [] = []
breaks_told (effects.Begun c to call ∷ told) = (c, to) ∷ breaks_told told
breaks_told (effect ∷ told) = breaks_told told

-- what is held of a cache once its break begins: the cache at its full kind, with the break that runs, or nothing
abbrev pub left_held : Moment → Claim × Option CacheKind → List What
left_held deadline begun = if is_slow begun then (with_break begun.0 begun.0.what begun.1 deadline).what ∷ [] else []

-- the break is that of the party's cache on the file
abbrev pub is_break_on : ℕ → Party → Claim × Option CacheKind → Bool
is_break_on file party begun = is_cache begun.0.what && ((begun.0.file == file) && same_parties begun.0.party party)

-- what is held of the party's cache on the file, if these tell of its break
abbrev pub begun_at : Moment → ℕ → Party → List Effect → Option (List What)
begun_at deadline file party told = option_map (left_held deadline) (find (is_break_on file party) (breaks_told told))

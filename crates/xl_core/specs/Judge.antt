-- The order of decisions: one judgement of those who ask and of those who wait, as a row of steps.
use Rattle.std.specs.Prelude.{◌≡◌, ℕ, ◌+◌, ◌≤◌, Bool, true, false, not, ◌&&◌, if◌then◌else◌, List, [], ◌∷◌, ◌++◌, length, Option, Some, None, option_map}
use Rattle.std.specs.List.{AllByRecursion, filter, list_any}
use Rattle.xl_base.specs.Lists.{Pairwise}
use Rattle.xl_matrix.specs.Equal.{same_parties}
use Rattle.xl_matrix.specs.Owners.{posix}
use Rattle.xl_base.specs.declared.stable.Recorded.{Recorded}
use Rattle.xl_matrix.specs.declared.claim.CacheKind.{CacheKind}
use Rattle.xl_matrix.specs.declared.claim.Claim.{Claim}
use Rattle.xl_matrix.specs.declared.claim.What.TheVariants.{Cache}
use Rattle.xl_names.specs.Names.{most_names}
use Rattle.xl_table.specs.Flat.{blocks, with_what}
use Rattle.xl_table.specs.Held.{is_range, IsGrantable}
use Rattle.xl_wait.specs.declared.waiter.Rooms.{Rooms}
use Rattle.xl_wait.specs.declared.waiter.Waiter.{Waiter}
use Rattle.xl_core.specs.State.{CoreState}
use Rattle.xl_table.specs.Least.{least}
pub use Rattle.xl_core.specs.Blockers.{first_of}
use Rattle.xl_core.specs.Blockers.{blocker, is_stopped, is_in_line, cache_in, cache_against}
use Rattle.xl_core.specs.declared.blockers.Passage.{Passage}
use Rattle.xl_core.specs.declared.blockers.Passage.TheVariants.{Barred, Open}
use Rattle.xl_core.specs.Limits.{grant_limits, first_passed}
use Rattle.xl_table.specs.Relock.{granted_claims}
use Rattle.xl_cache.specs.Wishing.{is_its_cache}
use Rattle.xl_core.specs.Wishes.{wish_of}
use Rattle.xl_core.specs.Stores.{may_record, recorded, unstored, bytes_with}
use Rattle.xl_core.specs.declared.ask.Answer.TheVariants.{Conflict, Recall, Grace, NoGrace, NotRecorded, Full, StoreFailed}
use Rattle.xl_core.specs.declared.ask.Effect.{Effect}
use Rattle.xl_core.specs.declared.judge.Plea.{Plea}
use Rattle.xl_core.specs.declared.judge.Ruling.{Ruling}
use Rattle.xl_core.specs.declared.judge.Ruling.TheVariants.{Gets, Waits, Told}
use Rattle.xl_core.specs.declared.standings.Standing.{Standing}
use Rattle.xl_core.specs.declared.standings.Standing.TheVariants.{Timely, Reclaims, Stays, Early, Late, Unrecorded}

-- ---- a row of steps

-- a ruling, the effects besides, and the state that is left
abbrev pub Ruled : Type 0
Ruled = Ruling × List Effect × CoreState

-- a step ends with a ruling, or goes on at None
abbrev pub Step : Type 0
Step = CoreState → Option Ruling × List Effect × CoreState

-- a step that ended the row, or one behind which the rest goes on
abbrev pub followed : Option Ruling → List Effect → CoreState → (CoreState → Ruled) → Ruled
followed (Some ruling) told s rest = (ruling, told, s)
followed None told s rest = ((rest s).0, told ++ (rest s).1, (rest s).2)

-- the step, and the rest of the row if it goes on
abbrev pub after : Step → (CoreState → Ruled) → CoreState → Ruled
after step rest s = followed (step s).0 (step s).1 (step s).2 rest

-- ---- claims that are held besides

-- the claims once these are granted, one after another
abbrev pub all_granted : List Claim → List Claim → List Claim
all_granted [] held = held
all_granted (c ∷ cs) held = all_granted cs (granted_claims c held)

-- the state in which these claims are held too
unfoldable pub held_with : List Claim → CoreState → CoreState
held_with claims s = record s { claims = all_granted claims s.claims }

-- ---- what stops a claim

abbrev pub full : ℕ → Ruling
full limit = Told (Full limit)

-- who is stopped waits, if it may and its wait passes no limit (CORE-3)
abbrev pub waits : Option ℕ → Ruling
waits None = Waits
waits (Some limit) = full limit

-- what comes of a claim that something blocks for good: a wait, if it may wait, else a refusal that names this claim
abbrev pub stopped : Plea → Claim → Ruling
stopped p c = if p.blocking then waits p.crowded else Told (Conflict c)

-- what stands against the claim behind these waiters, and no break moves it (CORE-1)
unfoldable pub check_held : List Waiter → Plea → Claim → CoreState → Option Ruling
check_held earlier p c s = option_map (stopped p) (blocker earlier s c)

-- what comes of a claim that a cache keeps off: a wait for the answer to its break, if it awaits that, else a refusal
-- that names it (CORE-3)
abbrev pub kept_off : Plea → Claim → Ruling
kept_off p c = if p.awaits then waits p.crowded else Told (Recall c)

-- the caches in the way of the claim
unfoldable pub check_caches : Plea → Claim → CoreState → Option Ruling
check_caches p c s = option_map (kept_off p) (cache_against s.claims c)

-- what stops a claim whose way stands so, unless a limit does
abbrev pub stop_by : Plea → Passage → Option Ruling
stop_by p (Barred c) = Some (stopped p c)
stop_by p (Open plan) = option_map (kept_off p) (cache_in plan)

-- how many claims are held once the claim is granted, and a cache of this kind beside it: that comes with it, or in the place of
-- the one that its party has on the file
abbrev pub held_then : Option CacheKind → Claim → List Claim → ℕ
held_then None c held = length (granted_claims c held)
held_then (Some kind) c held = length (granted_claims c held) + (if list_any (is_its_cache (wish_of [] c)) held then 0 else 1)

-- the least limit that the claim passes (CORE-5)
unfoldable pub check_room : Rooms → Plea → Claim → CoreState → Option Ruling
check_room left p c s = option_map full (first_passed (grant_limits left p.rows (held_then p.beside c s.claims) (bytes_with p.unrecorded s.stable) p.kept))

-- the first of two stops, if there is one
abbrev pub or_else : Option Ruling → Option Ruling → Option Ruling
or_else (Some ruling) later = Some ruling
or_else None later = later

-- what stops a claim behind these waiters, if anything: what is held, a cache, or a limit
abbrev pub stop_of : List Waiter → Rooms → Plea → Claim → CoreState → Option Ruling
stop_of earlier left p c s = or_else (check_held earlier p c s) (or_else (check_caches p c s) (check_room left p c s))

-- of several claims the first alone may wait (MS-SMB2 3.3.5.14.2) (CORE-14)
abbrev pub at_once : Plea → Plea
at_once p = record p { blocking = false; awaits = false; beside = None; unrecorded = None }

-- what stops the first of these that is stopped, each once those before it are held (CORE-14)
abbrev pub first_stop : List Waiter → Rooms → Plea → List Claim → CoreState → Option Ruling
first_stop earlier left p [] s = None
first_stop earlier left p (c ∷ cs) s = or_else (stop_of earlier left p c s) (first_stop earlier left (at_once p) cs (held_with (c ∷ []) s))

-- ---- the steps

-- what grace rules of one who stands so to it: it goes on, waits for the end, or is refused
abbrev pub graced : Plea → Standing → Option Ruling
graced p Timely = None
graced p Reclaims = None
graced p Stays = Some (waits p.crowded)
graced p (Early until) = Some (Told (Grace until))
graced p (Late clock) = Some (Told (NoGrace clock))
graced p Unrecorded = Some (Told NotRecorded)

-- grace lets nobody in but those who reclaim (CORE-1)
unfoldable pub check_grace : Plea → Step
check_grace p s = (graced p p.standing, [], s)

abbrev pub conflicts : Claim → Ruling
conflicts c = Told (Conflict c)

-- the cache beside the claim
abbrev pub cache_beside : CacheKind → Claim → Claim
cache_beside kind c = with_what c (Cache kind None)

-- the held claim blocks a cache of this kind beside the claim, if it isn't the one in whose place that comes
abbrev pub blocks_beside : CacheKind → Claim → Claim → Bool
blocks_beside kind c held = not (is_its_cache (wish_of [] c) held) && blocks (cache_beside kind c) held

-- the held claim blocks the cache that is reclaimed with the claim, if one is
abbrev pub blocks_its_cache : Option CacheKind → Claim → Claim → Bool
blocks_its_cache None c held = false
blocks_its_cache (Some kind) c held = blocks_beside kind c held

-- the least of what blocks the cache
abbrev pub least_beside : Option CacheKind → Claim → CoreState → Option Claim
least_beside None c s = None
least_beside (Some kind) c s = least s.names (filter (λ held. blocks_beside kind c held) s.claims)

-- what stands against a reclaim: the least of what blocks the claim, caches too, or else the cache with it
abbrev pub reclaim_blocker : Option CacheKind → Claim → CoreState → Option Claim
reclaim_blocker beside c s = first_of (least s.names (filter (λ held. blocks c held) s.claims)) (least_beside beside c s)

-- What comes of the claim of one who reclaims. It lies within what was held before, so nothing that others reclaimed may be in its
-- way; and a delegation that is reclaimed with a share is there with it, or neither is (RFC 7530 10.2.1) (CORE-18).
abbrev pub reclaim_by : Standing → Option CacheKind → Claim → CoreState → Option Ruling
reclaim_by Reclaims beside c s = option_map conflicts (reclaim_blocker beside c s)
reclaim_by _ beside c s = None

abbrev pub reclaim_stop : Standing → Option CacheKind → List Claim → CoreState → Option Ruling
reclaim_stop standing beside [] s = None
reclaim_stop standing beside (c ∷ cs) s = reclaim_by standing beside c s

unfoldable pub check_reclaim : Plea → List Claim → Step
check_reclaim p asked s = (reclaim_stop p.standing p.beside asked s, [], s)

-- ends if a claim is stopped
unfoldable pub check_row : List Waiter → Rooms → Plea → List Claim → Step
check_row earlier left p asked s = (first_stop earlier left p asked s, [], s)

-- the name is recorded before anything is granted, or nothing is granted
abbrev pub recorded_or : Bool → Option Recorded → CoreState → Option Ruling × List Effect × CoreState
recorded_or true name s = (None, [], recorded name s)
recorded_or false name s = (Some (Told StoreFailed), [], unstored name s)

abbrev pub recorded_by : ℕ → Option Recorded → CoreState → Option Ruling × List Effect × CoreState
recorded_by n name s = recorded_or (may_record n s name) name s

-- several claims are those of an SMB open, which no record names
abbrev pub to_record : Option Recorded → List Claim → Option Recorded
to_record name (c ∷ []) = name
to_record name _ = None

-- the name that the record lacks is stored in it, behind the others (CORE-16, RECORD-11)
unfoldable pub record_name : ℕ → Plea → List Claim → Step
record_name n p asked s = recorded_by n (to_record p.unrecorded asked) s

-- who stands before one who pleads so: nobody before one who reclaims, which had what it asks for before all who wait (CORE-18)
abbrev pub those_before : Standing → List Waiter → List Waiter
those_before Reclaims earlier = []
those_before _ earlier = earlier

-- all claims are held, and only now
unfoldable pub enter_all : List Claim → CoreState → Ruled
enter_all asked s = (Gets, [], held_with asked s)

-- ---- the judgement

-- What comes of a plea for these claims, behind these waiters, if this room is left in the fronts' tables and n stores
-- succeed in the step: all of them are granted, or none (CORE-1).
unfoldable pub judged : ℕ → List Waiter → Rooms → Plea → List Claim → CoreState → Ruled
judged n earlier left p asked =
    after (check_grace p) (after (check_reclaim p asked) (after (check_row (those_before p.standing earlier) left p asked) (after (record_name n p asked) (enter_all asked))))

-- something is in the way of the claim of one who pleads so behind these waiters, and it waits for that
abbrev pub does_wait : List Waiter → Plea → CoreState → Claim → Bool
does_wait earlier p s c = is_in_line earlier s c && (if is_stopped earlier s c then p.blocking else p.awaits)

-- ---- several claims

-- the state behind what stopped these: all of them are held, or none
abbrev pub stop_left : Option Ruling → List Claim → CoreState → CoreState
stop_left None asked s = held_with asked s
stop_left (Some ruling) asked s = s

-- one claim that may be granted, or several ranges of an SMB open, each of which may
abbrev pub AreElements : List Claim → Type 0
AreElements cs = AllByRecursion (λ c. IsGrantable c × (is_range c.what ≡ true) × (posix c.owner ≡ false)) cs

-- the two are of one party
abbrev pub are_of_one_party : Claim → Claim → Bool
are_of_one_party a b = same_parties a.party b.party

abbrev pub IsRow : List Claim → Type 0
IsRow [] = Unit {0}
IsRow (c ∷ []) = IsGrantable c
IsRow (c ∷ d ∷ cs) = AreElements (c ∷ d ∷ cs) × Pairwise are_of_one_party (c ∷ d ∷ cs)

-- there is room for the names that are kept then, if something is asked for
abbrev pub IsFew : Plea → List Claim → Type 0
IsFew p [] = Unit {0}
IsFew p (c ∷ cs) = p.kept ≤ most_names

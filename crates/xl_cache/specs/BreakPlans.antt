-- Which caches an ask breaks, and which it waits for.
use Rattle.std.specs.Prelude.{◌≡◌, map, IsSome, IfSome, Bool, true, false, not, ◌&&◌, ◌||◌, ◌==◌, Option, Some, None, is_some, if◌then◌else◌, List}
use Rattle.std.specs.List.{filter, filter_map, find, list_any}
use Rattle.xl_base.specs.Lists.{IsIn}
use Rattle.xl_base.specs.declared.name.Party.{Party}
use Rattle.xl_base.specs.declared.name.Party.TheVariants as party
use Rattle.xl_matrix.specs.declared.claim.CacheKind.{CacheKind}
use Rattle.xl_matrix.specs.declared.claim.What.{What}
use Rattle.xl_matrix.specs.declared.claim.What.TheVariants.{Cache}
use Rattle.xl_matrix.specs.declared.claim.Claim.{Claim}
use Rattle.xl_matrix.specs.Kinds.{keeps_handle, kind_lies_within}
use Rattle.xl_matrix.specs.Equal.{same_parties, same_claims}
use Rattle.xl_matrix.specs.Matrix.{compat}
use Rattle.xl_matrix.specs.Blocks.{is_share, is_range, is_cache, blocks}
use Rattle.xl_cache.specs.declared.need.Need.{Need}
use Rattle.xl_cache.specs.declared.break_plan.BreakPlan.{BreakPlan}
use Rattle.xl_cache.specs.Targets.{target_of, needs_answer}

-- ---- caches

-- a cache that keeps the handle
abbrev pub keeps_handle_by : What → Bool
keeps_handle_by (Cache kind running) = keeps_handle kind
keeps_handle_by _ = false

-- a cache whose break runs
abbrev pub is_running : What → Bool
is_running (Cache kind running) = is_some running
is_running _ = false

-- the party of an oplock is the open; that of a lease is the client's key, and that of a delegation the client
abbrev pub is_oplock : Party → Bool
is_oplock (party.Open number) = true
is_oplock (party.Name protocol number) = false

-- the claim with a cache of this kind, of which no break runs
abbrev pub with_kind : Claim → CacheKind → Claim
with_kind c kind = record { file = c.file; owner = c.owner; party = c.party; what = Cache kind None }

-- ---- shares that are covered

-- the cache keeps the handle of its party's opens on the file, of which this share is one
abbrev pub keeps_open : Claim → Claim → Bool
keeps_open share cache = keeps_handle_by cache.what && ((share.file == cache.file) && same_parties share.party cache.party)

-- A share that blocks the ask is covered if its party, which isn't the asker's, has a cache that keeps the handle:
-- told of the break, the party may close the file that it has open only for later use.
unfoldable pub is_covered : Claim → List Claim → Claim → Bool
is_covered ask held share = is_share share.what && (not (same_parties share.party ask.party) && list_any (keeps_open share) held)

-- a share or a range that blocks the ask, and is not covered: no break makes way
abbrev pub is_final : Claim → List Claim → Claim → Bool
is_final ask held c = blocks ask c && (not (is_cache c.what) && not (is_covered ask held c))

-- ---- which caches an ask breaks

-- the shares that block the ask
abbrev pub blocking_shares : Claim → List Claim → List Claim
blocking_shares ask held = filter (λ c. is_share c.what && blocks ask c) held

-- the cache covers one of these shares, which block the ask
abbrev pub covers : Claim → List Claim → Claim → Bool
covers ask shares cache = not (same_parties cache.party ask.party) && list_any (λ share. keeps_open share cache) shares

-- a cache that blocks the ask, or covers one of the shares that do
unfoldable pub is_in_the_way : Claim → List Claim → Claim → Bool
is_in_the_way ask shares c = (is_cache c.what && blocks ask c) || covers ask shares c

-- why the cache is broken
abbrev pub need_of : Claim → List Claim → Claim → Need
need_of ask shares c = record { range = is_range ask.what; covered = covers ask shares c; oplock = is_oplock c.party }

-- the cache and what its break leaves; one whose break runs gets no second one
abbrev pub break_by : Claim → Need → What → Option (Claim × Option CacheKind)
break_by c need (Cache kind None) = Some (c, target_of kind need)
break_by c need _ = None

unfoldable pub break_of : Claim → List Claim → Claim → Option (Claim × Option CacheKind)
break_of ask shares c = if is_in_the_way ask shares c then break_by c (need_of ask shares c) c.what else None

-- the ask has to wait for the answer to a break that runs already
abbrev pub is_awaited : Claim → List Claim → Claim → Bool
is_awaited ask shares c = is_in_the_way ask shares c && is_running c.what

-- a cache of this kind is held once the breaks have begun: its break runs already, or begins and needs an answer
abbrev pub is_left_by : Need → What → Bool
is_left_by need (Cache kind None) = needs_answer kind (target_of kind need)
is_left_by need (Cache kind (Some running)) = true
is_left_by need _ = false

-- so is this one, which is in the way
abbrev pub is_left : Claim → List Claim → Claim → Bool
is_left ask shares c = is_in_the_way ask shares c && is_left_by (need_of ask shares c) c.what

abbrev pub plan_with : Claim → List Claim → List Claim → BreakPlan
plan_with ask shares held =
    record { breaks = filter_map (break_of ask shares) held; awaited = find (is_awaited ask shares) held; left = find (is_left ask shares) held }

-- the breaks that the ask begins, in the order of what is held, the first cache there whose break it waits for, and the
-- first that is left once they have begun; it is computed whatever is held (CACHE-7)
unfoldable pub planned : Claim → List Claim → BreakPlan
planned ask held = plan_with ask (blocking_shares ask held) held

-- ---- what a plan comes to

abbrev pub needs_answer_by : What → Option CacheKind → Bool
needs_answer_by (Cache kind running) left = needs_answer kind left
needs_answer_by _ left = false

-- the break takes effect only once it is answered
abbrev pub is_slow : Claim × Option CacheKind → Bool
is_slow begun = needs_answer_by begun.0.what begun.1

abbrev pub broken_claim : Claim × Option CacheKind → Claim
broken_claim begun = begun.0

abbrev pub recalled_from : Option Claim → Option (Claim × Option CacheKind) → Option Claim
recalled_from (Some c) slow = Some c
recalled_from None (Some begun) = Some begun.0
recalled_from None None = None

-- the cache whose answer the ask has to wait for: one whose break runs already, else the first that needs an answer;
-- None if the ask need not wait
unfoldable pub recalled_by : BreakPlan → Option Claim
recalled_by p = recalled_from p.awaited (find is_slow p.breaks)

-- the claim is a cache whose break ends it at once
abbrev pub is_ended : List (Claim × Option CacheKind) → Claim → Bool
is_ended breaks c = list_any (λ begun. same_claims begun.0 c && not (is_slow begun)) breaks

-- what stays of the held claims when the breaks begin: all except the caches that end at once
unfoldable pub left_by : BreakPlan → List Claim → List Claim
left_by p held = filter (λ c. not (is_ended p.breaks c)) held

-- ---- what a plan says

-- the claim is a cache that blocks the ask, or covers a share that does
abbrev pub is_obstacle : Claim → List Claim → Claim → Bool
is_obstacle ask held c = is_in_the_way ask (blocking_shares ask held) c

-- each such cache is in the plan: its break begins, or if one runs already the ask waits
pub record NamesAll (ask : Claim) (held : List Claim) (p : BreakPlan) : Type 0 where
  pub begun : (c : Claim) → IsIn c held → is_obstacle ask held c ≡ true → is_running c.what ≡ false → IsIn c (map broken_claim p.breaks)
  pub awaited : (c : Claim) → IsIn c held → is_obstacle ask held c ≡ true → is_running c.what ≡ true → IsSome p.awaited

-- a break that begins is that of such a cache, of which none runs; and what the ask waits for is such a cache
pub record NamesOnly (ask : Claim) (held : List Claim) (p : BreakPlan) : Type 0 where
  pub begun : (b : Claim × Option CacheKind) → IsIn b p.breaks → IsIn b.0 held × (is_obstacle ask held b.0 ≡ true) × (is_running b.0.what ≡ false)
  pub awaited : IfSome p.awaited (λ c. IsIn c held × (is_obstacle ask held c ≡ true) × (is_running c.what ≡ true))
  pub recalled : IfSome (recalled_by p) (λ c. IsIn c held × (is_obstacle ask held c ≡ true))

-- what the break leaves of the cache may stand beside what is asked
abbrev pub FitsWhenBroken : Claim → Claim × Option CacheKind → Type 0
FitsWhenBroken ask b = IfSome b.1 (λ left. compat ask (with_kind b.0 left) ≡ true)

-- the break leaves less than there was
abbrev pub is_less : What → Option CacheKind → Bool
is_less (Cache kind running) (Some left) = kind_lies_within left kind && not (kind_lies_within kind left)
is_less (Cache kind running) None = true
is_less _ left = false

-- Each break of a plan leaves less than there was, and nothing that the ask can't stand beside. A cache wish is no such
-- ask: it breaks nothing.
abbrev pub MakesWay : Claim → BreakPlan → Type 0
MakesWay ask p = is_cache ask.what ≡ false → (b : Claim × Option CacheKind) → IsIn b p.breaks → FitsWhenBroken ask b × (is_less b.0.what b.1 ≡ true)

-- an ask that need not wait is blocked by nothing that is left, unless by what no break moves
abbrev pub IsFreeUnlessRecalled : Claim → List Claim → BreakPlan → Type 0
IsFreeUnlessRecalled ask held p = recalled_by p ≡ None → list_any (is_final ask held) held ≡ false → list_any (blocks ask) (left_by p held) ≡ false

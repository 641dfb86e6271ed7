-- How breaks begin: for their cause, to their target, and what each leaves at once (MS-SMB2 3.3.4.6, 3.3.4.7; RFC 7530 10.4.4).
use Rattle.std.specs.Prelude.{◌≡◌, ℕ, true, false, Bool, if◌then◌else◌, List, [], ◌∷◌, Option, Some, None, IfSome}
use Rattle.std.specs.List.{slice_get}
use Rattle.xl_base.specs.Lists.{IsIn}
use Rattle.xl_base.specs.declared.event.Moment.{Moment}
use Rattle.xl_cache.specs.BreakPlans.{is_running, is_obstacle, is_less, keeps_handle_by, planned, with_kind}
use Rattle.xl_matrix.specs.Matrix.{compat}
use Rattle.xl_matrix.specs.declared.claim.CacheKind.{CacheKind}
use Rattle.xl_matrix.specs.declared.claim.CacheKind.TheVariants.{R}
use Rattle.xl_matrix.specs.declared.claim.Claim.{Claim}
use Rattle.xl_matrix.specs.declared.claim.What.{What}
use Rattle.xl_matrix.specs.declared.claim.What.TheVariants.{Cache}
use Rattle.xl_table.specs.Flat.{blocks}
use Rattle.xl_table.specs.Held.{is_cache, is_share}
use Rattle.xl_wait.specs.declared.waiter.Rooms.{Rooms}
use Rattle.xl_wait.specs.declared.waiter.Waiter.{Waiter}
use Rattle.xl_core.specs.Askers.{asked_whats, asked_what, asked_claims}
use Rattle.xl_core.specs.Blockers.{is_stopped}
use Rattle.xl_core.specs.BreaksBegun.{breaks_told}
use Rattle.xl_core.specs.Decide.{way, ask}
use Rattle.xl_core.specs.Deeds.{Deed, Asks, Serves, given}
use Rattle.xl_core.specs.Leases.{moment_after}
use Rattle.xl_core.specs.Places.{CacheOf, held_at}
use Rattle.xl_core.specs.Settle.{next_way}
use Rattle.xl_core.specs.State.{CoreState}
use Rattle.xl_core.specs.declared.ask.Answer.TheVariants.{Recall}
use Rattle.xl_core.specs.declared.ask.Ask.{Ask}
use Rattle.xl_core.specs.declared.ask.Effect.{Effect}
use Rattle.xl_core.specs.declared.ask.Effect.TheVariants.{Begun}

-- ---- one break

-- a cache for reading alone, of which nothing is left: its party has nothing to answer
abbrev pub is_given_up : What → Option CacheKind → Bool
is_given_up (Cache R running) None = true
is_given_up what to = false

-- what is held of a cache once its break began, whose answer is due then: nothing, if it is given up, and else the cache at
-- its full kind, with the break that runs
abbrev pub kept_by : Moment → What → Option CacheKind → List What
kept_by deadline (Cache kind running) to = if is_given_up (Cache kind running) to then [] else Cache kind (Some (record { target = to; deadline = deadline })) ∷ []
kept_by deadline what to = what ∷ []

-- Why a cache is broken for what is asked: the two may not be held together; or a share may not be held together with
-- it whose party has the cache, which keeps the handle that it may close.
pub data IsInTheWay (claims : List Claim) (asked cache : Claim) : Type 0 where
  Blocks : blocks asked cache ≡ true → IsInTheWay claims asked cache
  Covers : (share : Claim) → IsIn share claims → is_share share.what ≡ true → blocks asked share ≡ true → keeps_handle_by cache.what ≡ true → share.file ≡ cache.file → share.party ≡ cache.party → IsInTheWay claims asked cache

-- The break of this cache, which is to leave this much, began for what is asked: the cache was held, no break of it ran, and
-- it is in the way. What is to be left is what the plan has for it: less than there was, and nothing that may not be held
-- beside what is asked. At once it is gone only if it is given up; else it is kept until its break is answered.
pub record IsBroken (s t : CoreState) (asked cache : Claim) (to : Option CacheKind) : Type 0 where
  pub held : IsIn cache s.claims
  pub is : is_cache cache.what ≡ true
  pub idle : is_running cache.what ≡ false
  pub cause : IsInTheWay s.claims asked cache
  pub plan : IsIn (cache, to) (planned asked s.claims).breaks
  pub less : is_less cache.what to ≡ true
  pub fits : IfSome to (λ left. compat asked (with_kind cache left) ≡ true)
  pub left : held_at t (CacheOf cache.file cache.party) ≡ kept_by (moment_after s.clock s.times.break_time) cache.what to

-- each break that these tell of began for what someone asks for first
abbrev pub AreBroken : CoreState → CoreState → (Claim → Type 0) → List Effect → Type 0
AreBroken s t IsAsked told = (cache : Claim) (to : Option CacheKind) (call : Option ℕ) → IsIn (Begun cache to call) told → (asked : Claim) × IsAsked asked × IsBroken s t asked cache to

-- ---- a deed

-- what is asked for first
abbrev pub IsFirstOf : List Claim → Claim → Type 0
IsFirstOf asked c = slice_get asked 0 ≡ Some c

-- No cache in the way of any of the ask's claims is left without a break that runs, if nothing stops the first of these for good,
-- no grace runs, the ask is no reclaim, and it doesn't wait for the answers.
abbrev pub HasBegun : Rooms → CoreState → Ask → Type 0
HasBegun left s a = (first c cache : Claim) → IsFirstOf (asked_claims a (asked_whats a.act) s.names) first → s.grace ≡ None → a.reclaim ≡ false → a.awaits ≡ false → is_stopped s.waiters s first ≡ false
    → IsIn c (asked_claims a (asked_whats a.act) s.names) → IsIn cache (way left s a).1.claims → is_obstacle c (way left s a).1.claims cache ≡ true → is_running cache.what ≡ true

-- an ask for one share or one range that is answered with a cache is so while the break of that runs
abbrev pub IsRecalled : ℕ → Rooms → CoreState → Ask → Type 0
IsRecalled n left s a = (what : What) (cache : Claim) → asked_what a.act ≡ Some what → (ask n left s a).0 ≡ Recall cache → is_running cache.what ≡ true

-- Breaks begin for what an ask asks for first, or a waiter whose turn it is; no other deed tells of one.
abbrev pub IsBrokenBy : ℕ → CoreState → Deed → Type 0
IsBrokenBy n s (Asks left a) = AreBroken s (way left s a).1 (IsFirstOf (asked_claims a (asked_whats a.act) s.names)) (ask n left s a).1 × HasBegun left s a × IsRecalled n left s a
IsBrokenBy n s (Serves left) = AreBroken s (next_way s).1 (λ c. (w : Waiter) × IsIn w s.waiters × IsFirstOf w.asked c) (given n s (Serves left)).1
IsBrokenBy n s deed = breaks_told (given n s deed).1 ≡ []

-- What the way that is made for an ask changes, and where none is made.
use Rattle.std.proofs.Common.{◌≡◌, ℕ, ◌+◌, ◌≤◌, Bool, true, false, not, ◌&&◌, ◌⊎◌, if◌then◌else◌, List, [], ◌∷◌, length, Option, None, is_some, inl, inr, refl, sym, ap, subst, ◌∙◌, arith}
use Rattle.std.specs.List.{AllByRecursion}
use Rattle.std.proofs.lemmas.Bool.{cases_Bool, both_ways}
use Rattle.xl_base.specs.Lists.{IsIn, sorted}
use Rattle.xl_cache.specs.BreakPlans.{is_obstacle, is_running, planned, recalled_by}
use Rattle.xl_cache.proofs.BreakPlanLaws.{names_only}
use Rattle.xl_matrix.specs.declared.claim.CacheKind.{CacheKind}
use Rattle.xl_matrix.specs.declared.claim.Claim.{Claim}
use Rattle.xl_matrix.specs.declared.claim.What.{What}
use Rattle.xl_matrix.specs.declared.claim.What.TheVariants.{Share, Range, Cache}
use Rattle.xl_names.specs.declared.name.Name.{Name}
use Rattle.xl_table.specs.Flat.{is_blocked}
use Rattle.xl_table.specs.Held.{is_cache, IsShareOrLock}
use Rattle.xl_wait.specs.declared.waiter.Waiter.{Waiter}
use Rattle.xl_core.specs.State.{CoreState}
use Rattle.xl_core.specs.BreaksBegun.{once_broken, idle_caches, told_before, begun_told, breaks_begun}
use Rattle.xl_core.specs.Leases.{moment_after}
use Rattle.xl_core.specs.Blockers.{is_stopped, first_broken, all_run}
use Rattle.xl_core.specs.Frames.{serves_none}
use Rattle.xl_core.specs.Good.{IsGood, IsKnown}
use Rattle.xl_core.specs.Ways.{begins, made_way}
use Rattle.xl_core.specs.Standings.{is_timely}
use Rattle.xl_core.specs.declared.standings.Standing.TheVariants.{Timely}
use Rattle.xl_core.specs.declared.ask.Effect.{Effect}
use Rattle.xl_core.specs.declared.judge.Plea.{Plea}
use Rattle.xl_core.proofs.AskBreaksLaws.{none_begins_again, fewer_idle}
use Rattle.xl_core.proofs.BreaksBegunLaws.{none_begun, breaks_good, begun_serve}
use Rattle.xl_core.proofs.BreaksInOrderLaws.{length_sorted}
use Rattle.xl_core.proofs.DecideLaws.{obstacle_blocks}

-- ---- no break, or those of the first claim

abbrev pub Told : Type 0
Told = List Effect × CoreState

-- the breaks of the first claim begin, or nothing does
pub data IsWay (earlier : List Waiter) (p : Plea) (asked : List Claim) (s : CoreState) (way : Told) : Type 0 where
  NoWay : way ≡ ([], s) → IsWay earlier p asked s way
  Begins : (c : Claim) (cs : List Claim) → asked ≡ c ∷ cs → begins earlier p c s ≡ true → way ≡ breaks_begun c s → IsWay earlier p asked s way

pub way_is : (earlier : List Waiter) (p : Plea) (asked : List Claim) (s : CoreState) → IsWay earlier p asked s (made_way earlier p asked s)
unfolding made_way
way_is earlier p [] s = NoWay refl
way_is earlier p (c ∷ cs) s =
    elim (cases_Bool (begins earlier p c s)) [
      | inl does ↦ Begins c cs refl does (ap (λ (b : Bool). if b then breaks_begun c s else ([], s)) does)
      | inr doesnt ↦ NoWay (ap (λ (b : Bool). if b then breaks_begun c s else ([], s)) doesnt)
    ]

-- where no break is left to begin nothing begins
pub unbroken : (held : List Claim) (c : Claim) → all_run held c ≡ true → (planned c held).breaks ≡ []
unbroken held c run = by (planned c held).breaks run where
  by : (bs : List (Claim × Option CacheKind)) → not (is_some (first_broken bs)) ≡ true → bs ≡ []
  by [] e = refl
  by (b ∷ bs) e = absurd (both_ways false refl e)

pub runs : (held : List Claim) (c : Claim) → (planned c held).breaks ≡ [] → all_run held c ≡ true
runs held c none = ap (λ (bs : List (Claim × Option CacheKind)). not (is_some (first_broken bs))) none

-- nor where nothing blocks
pub free_unbroken : (held : List Claim) (c : Claim) → is_blocked held c ≡ false → (planned c held).breaks ≡ []
free_unbroken held c free = by (planned c held).breaks (λ b i. (names_only c held).begun b i) where
  by : (bs : List (Claim × Option CacheKind)) → ((b : Claim × Option CacheKind) → IsIn b bs → IsIn b.0 held × (is_obstacle c held b.0 ≡ true) × (is_running b.0.what ≡ false)) → bs ≡ []
  by [] named = refl
  by (b ∷ bs) named = let one = named b (inl refl) in absurd (both_ways (is_blocked held c) free (obstacle_blocks c held b.0 one.0 one.1))

-- a way that is made by no break is none
pub way_unbroken : (earlier : List Waiter) (p : Plea) (c : Claim) (cs : List Claim) (s : CoreState) → (planned c s.claims).breaks ≡ [] → made_way earlier p (c ∷ cs) s ≡ ([], s)
unfolding made_way
way_unbroken earlier p c cs s none = ap (λ (r : Told). if begins earlier p c s then r else ([], s)) (none_begun s c none) ∙ same (begins earlier p c s) where
  same : (b : Bool) → (let r : Told = ([], s) in (if b then r else r) ≡ r)
  same true = refl
  same false = refl

pub way_stopped : (earlier : List Waiter) (p : Plea) (c : Claim) (cs : List Claim) (s : CoreState) → is_stopped earlier s c ≡ true → made_way earlier p (c ∷ cs) s ≡ ([], s)
unfolding made_way
way_stopped earlier p c cs s stops = by (is_timely p.standing) where
  by : (b : Bool) → (if b && (not (is_stopped earlier s c) && not (p.awaits && (is_some p.crowded && is_some (recalled_by (planned c s.claims))))) then breaks_begun c s else ([], s)) ≡ ([], s)
  by false = refl
  by true = rw stops refl

-- nor is one made where grace runs, or for a reclaim
pub way_graced : (earlier : List Waiter) (p : Plea) (asked : List Claim) (s : CoreState) → is_timely p.standing ≡ false → made_way earlier p asked s ≡ ([], s)
unfolding made_way
way_graced earlier p [] s out = refl
way_graced earlier p (c ∷ cs) s out = ap (λ (b : Bool). if b && (not (is_stopped earlier s c) && not (p.awaits && (is_some p.crowded && is_some (recalled_by (planned c s.claims))))) then breaks_begun c s else ([], s)) out

pub way_free : (earlier : List Waiter) (p : Plea) (c : Claim) (cs : List Claim) (s : CoreState) → is_blocked s.claims c ≡ false → made_way earlier p (c ∷ cs) s ≡ ([], s)
way_free earlier p c cs s free = way_unbroken earlier p c cs s (free_unbroken s.claims c free)

-- where breaks began something is told
told_none : (last : ℕ) (bs : List (Claim × Option CacheKind)) → begun_told last bs ≡ [] → bs ≡ []
told_none last [] e = refl
told_none last (b ∷ bs) e = absurd cc

sorted_none : (below : Claim × Option CacheKind → Claim × Option CacheKind → Bool) (bs : List (Claim × Option CacheKind)) → sorted below bs ≡ [] → bs ≡ []
sorted_none below [] e = refl
sorted_none below (b ∷ bs) e = absurd (omega (arith, sym (length_sorted below (b ∷ bs)), ap (λ (xs : List (Claim × Option CacheKind)). length xs) e))

pub begun_quiet : (c : Claim) (s : CoreState) → (breaks_begun c s).0 ≡ [] → (planned c s.claims).breaks ≡ []
unfolding breaks_begun
begun_quiet c s e = sorted_none (told_before s.names) (planned c s.claims).breaks (told_none s.counter (sorted (told_before s.names) (planned c s.claims).breaks) e)

pub way_quiet : (earlier : List Waiter) (p : Plea) (asked : List Claim) (s : CoreState) → (made_way earlier p asked s).0 ≡ [] → made_way earlier p asked s ≡ ([], s)
way_quiet earlier p asked s quiet =
    elim (way_is earlier p asked s) [
      | NoWay e ↦ e
      | Begins c cs is does e ↦ e ∙ none_begun s c (begun_quiet c s (sym (ap (λ (w : Told). w.0) e) ∙ quiet))
    ]

-- ---- what it keeps

-- nobody is served by it
pub way_serves : (earlier : List Waiter) (p : Plea) (asked : List Claim) (s : CoreState) → serves_none (made_way earlier p asked s).0 ≡ true
way_serves earlier p asked s =
    elim (way_is earlier p asked s) [
      | NoWay e ↦ ap (λ (w : Told). serves_none w.0) e
      | Begins c cs is does e ↦ ap (λ (w : Told). serves_none w.0) e ∙ begun_serve s c
    ]

-- what no break that begins changes the way leaves
pub way_keeps : {A : Type 0} (f : CoreState → A) (earlier : List Waiter) (p : Plea) (asked : List Claim) (s : CoreState) → ((c : Claim) → f (breaks_begun c s).1 ≡ f s) → f (made_way earlier p asked s).1 ≡ f s
way_keeps f earlier p asked s keeps =
    elim (way_is earlier p asked s) [
      | NoWay e ↦ ap (λ (w : Told). f w.1) e
      | Begins c cs is does e ↦ ap (λ (w : Told). f w.1) e ∙ keeps c
    ]

pub begun_names : (c : Claim) (s : CoreState) → (breaks_begun c s).1.names ≡ s.names
unfolding breaks_begun
begun_names c s = refl

pub begun_waiters : (c : Claim) (s : CoreState) → (breaks_begun c s).1.waiters ≡ s.waiters
unfolding breaks_begun
begun_waiters c s = refl

pub way_names : (earlier : List Waiter) (p : Plea) (asked : List Claim) (s : CoreState) → (made_way earlier p asked s).1.names ≡ s.names
way_names earlier p asked s = way_keeps (λ t. t.names) earlier p asked s (λ c. begun_names c s)

pub way_waiters : (earlier : List Waiter) (p : Plea) (asked : List Claim) (s : CoreState) → (made_way earlier p asked s).1.waiters ≡ s.waiters
way_waiters earlier p asked s = way_keeps (λ t. t.waiters) earlier p asked s (λ c. begun_waiters c s)

grantable_no_cache : (w : What) → IsShareOrLock w → is_cache w ≡ false
grantable_no_cache (Share access deny) h = refl
grantable_no_cache (Range extent exclusive) h = refl
grantable_no_cache (Cache kind running) h = absurd h

-- what is asked for is no cache
abbrev pub AsksNoCache : List Claim → Type 0
AsksNoCache asked = AllByRecursion (λ c. is_cache c.what ≡ false) asked

pub known_no_cache : (names : List Name) (asked : List Claim) → AllByRecursion (IsKnown names) asked → AsksNoCache asked
known_no_cache names [] known = tt
known_no_cache names (c ∷ cs) known = (grantable_no_cache c.what known.0.0.0, known_no_cache names cs known.1)

-- the state stays good
pub way_good : (earlier : List Waiter) (p : Plea) (asked : List Claim) (s : CoreState) → IsGood s → AsksNoCache asked → IsGood (made_way earlier p asked s).1
way_good earlier p asked s good none =
    elim (way_is earlier p asked s) [
      | NoWay e ↦ subst (λ (w : Told). IsGood w.1) (sym e) good
      | Begins c cs is does e ↦ subst (λ (w : Told). IsGood w.1) (sym e) (breaks_good s c good (subst AsksNoCache is none).0)
    ]

-- it falls in caches that may be broken where it changes anything
begun_idle : (c : Claim) (s : CoreState) → idle_caches (breaks_begun c s).1.claims + length (planned c s.claims).breaks ≡ idle_caches s.claims
unfolding breaks_begun
begun_idle c s = fewer_idle (moment_after s.clock s.times.break_time) c s.claims

pub way_idle : (earlier : List Waiter) (p : Plea) (asked : List Claim) (s : CoreState) → (made_way earlier p asked s ≡ ([], s)) ⊎ (idle_caches (made_way earlier p asked s).1.claims + 1 ≤ idle_caches s.claims)
way_idle earlier p asked s =
    elim (way_is earlier p asked s) [
      | NoWay e ↦ inl e
      | Begins c cs is does e ↦ by c (planned c s.claims).breaks refl e
    ]
  where
    by : (c : Claim) (bs : List (Claim × Option CacheKind)) → (planned c s.claims).breaks ≡ bs → made_way earlier p asked s ≡ breaks_begun c s → (made_way earlier p asked s ≡ ([], s)) ⊎ (idle_caches (made_way earlier p asked s).1.claims + 1 ≤ idle_caches s.claims)
    by c [] none e = inl (e ∙ none_begun s c none)
    by c (b ∷ bs) some e = inr (subst (λ (w : Told). idle_caches w.1.claims + 1 ≤ idle_caches s.claims) (sym e) (omega (arith, begun_idle c s, ap (λ (xs : List (Claim × Option CacheKind)). length xs) some)))

-- once it is made none is left to begin
begun_runs : (c : Claim) (s : CoreState) → all_run (breaks_begun c s).1.claims c ≡ true
unfolding breaks_begun
begun_runs c s = runs (once_broken (moment_after s.clock s.times.break_time) c s.claims) c (none_begins_again (moment_after s.clock s.times.break_time) c s.claims)

-- so it is for one whose wait passes no limit, and who doesn't come too late, where nothing blocks it for good
pub way_runs : (earlier : List Waiter) (p : Plea) (c : Claim) (cs : List Claim) (s : CoreState) → p.standing ≡ Timely → p.crowded ≡ None → is_stopped earlier s c ≡ false → all_run (made_way earlier p (c ∷ cs) s).1.claims c ≡ true
unfolding made_way
way_runs earlier p c cs s timely room moves =
    let does : begins earlier p c s ≡ true = ap (λ (b : Bool). b && (not (is_stopped earlier s c) && not (p.awaits && (is_some p.crowded && is_some (recalled_by (planned c s.claims)))))) (ap is_timely timely) ∙ rw (moves, room) (both p.awaits) in
    ap (λ (b : Bool). all_run (if b then breaks_begun c s else ([], s)).1.claims c) does ∙ begun_runs c s
  where
    both : (b : Bool) → (true && (not false && not (b && (false && is_some (recalled_by (planned c s.claims)))))) ≡ true
    both true = refl
    both false = refl

-- and those of one that waits for no answer
pub way_runs_at_once : (earlier : List Waiter) (p : Plea) (c : Claim) (cs : List Claim) (s : CoreState) → p.standing ≡ Timely → p.awaits ≡ false → is_stopped earlier s c ≡ false → all_run (made_way earlier p (c ∷ cs) s).1.claims c ≡ true
unfolding made_way
way_runs_at_once earlier p c cs s timely hurries moves =
    let does : begins earlier p c s ≡ true = ap (λ (b : Bool). b && (not (is_stopped earlier s c) && not (p.awaits && (is_some p.crowded && is_some (recalled_by (planned c s.claims)))))) (ap is_timely timely) ∙ rw (moves, hurries) refl in
    ap (λ (b : Bool). all_run (if b then breaks_begun c s else ([], s)).1.claims c) does ∙ begun_runs c s

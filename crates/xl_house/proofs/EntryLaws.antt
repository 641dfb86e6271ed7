-- What wishes of each entry get, how its breaks begin, and which caches it keeps.
use Rattle.std.proofs.Common.{◌≡◌, ℕ, false, List, [], ◌∷◌, ◌++◌, Option, None, refl, sym, ap, subst, ◌∙◌}
use Rattle.std.specs.List.{list_any}
use Rattle.xl_base.specs.declared.event.Event.{Event}
use Rattle.xl_base.specs.declared.event.Event.TheVariants.{Message, Restart}
use Rattle.xl_base.specs.declared.event.Out.{Out}
use Rattle.xl_base.specs.declared.journal.Entry.{Entry}
use Rattle.xl_base.specs.declared.journal.Head.{Head}
use Rattle.xl_base.specs.declared.name.Party.{Party}
use Rattle.xl_matrix.specs.declared.claim.Break.{Break}
use Rattle.xl_matrix.specs.declared.claim.CacheKind.{CacheKind}
use Rattle.xl_matrix.specs.declared.claim.CacheKind.TheVariants.{RWH}
use Rattle.xl_matrix.specs.declared.claim.Claim.{Claim}
use Rattle.xl_matrix.specs.declared.claim.What.TheVariants.{Cache}
use Rattle.xl_wait.specs.declared.waiter.Rooms.{Rooms}
use Rattle.xl_core.specs.State.{CoreState, step_begun}
use Rattle.xl_core.specs.Decide.{ask}
use Rattle.xl_core.specs.Deeds.{Deed, Asks, all_done, all_told_of, done, IsFitDeed, AreFit}
use Rattle.xl_core.specs.Good.{IsGood}
use Rattle.xl_core.specs.Places.{CacheOf, held_at, held_in}
use Rattle.xl_core.specs.declared.ask.Ask.{Ask}
use Rattle.xl_core.specs.declared.ask.Effect.{Effect}
use Rattle.xl_core.proofs.DeedLaws.{deed_good}
use Rattle.xl_core.proofs.GoodLaws.{begun_good}
use Rattle.xl_plan.specs.Plans.{AllAt}
use Rattle.xl_house.specs.Breaking.{IsBrokenBy}
use Rattle.xl_house.specs.Done.{deeds}
use Rattle.xl_house.specs.Entries.{IsWishing, IsBreaking, IsPartied, IsKeepingBy, IsKeeping}
use Rattle.xl_house.specs.Free.{IsFree}
use Rattle.xl_house.specs.Journals.{is_restart}
use Rattle.xl_house.specs.Keeping.{any_ends_cache, tells_gone, IsHeldOf}
use Rattle.xl_house.specs.Lawful.{Always, found}
use Rattle.xl_house.specs.Machine.{step}
use Rattle.xl_house.specs.Parties.{AreHeldFor}
use Rattle.xl_house.specs.State.{Whole, start_of}
use Rattle.xl_house.specs.Wished.{IsWishedBy}
use Rattle.xl_house.proofs.BreakingLaws.{deed_broken}
use Rattle.xl_house.proofs.DoneLaws.{deeds_taken}
use Rattle.xl_house.proofs.EachEntry.{always}
use Rattle.xl_house.proofs.FittingLaws.{fit_by}
use Rattle.xl_house.proofs.KeepingLaws.{deeds_keep_cache, held_itself}
use Rattle.xl_house.proofs.LawfulLaws.{begun_held, next_core}
use Rattle.xl_house.proofs.PartiesLaws.{deed_parties}
use Rattle.xl_house.proofs.WishedLaws.{deed_wished}

-- what holds of each deed that the core takes holds of each of these
all_at : (P : CoreState → Deed → Type 0) (n : ℕ) (s : CoreState) (ds : List Deed) → ((u : CoreState) (d : Deed) → IsGood u → IsFitDeed u d → P u d) → IsGood s → AreFit n s ds → AllAt P n s ds
all_at P n s [] each good fit = tt
all_at P n s (d ∷ ds) each good fit = (each s d good fit.0, all_at P n (done n s d) ds each (deed_good n s d good fit.0) fit.1)

pub each_deed : (P : CoreState → Deed → Type 0) (n : ℕ) (s : Whole) (event : Event) → ((u : CoreState) (d : Deed) → IsGood u → IsFitDeed u d → P u d) → IsFree s → AllAt P n (found s) (deeds n s event)
each_deed P n s event each free = all_at P n (step_begun s.core) (deeds n s event) each (begun_good s.core free.good) (fit_by n s event free)

-- ---- caches

keeping : (n : ℕ) (s : Whole) (event : Event) → is_restart event ≡ false → IsFree s → (file : ℕ) (party : Party) (kind : CacheKind) (running : Option Break) → held_at s.core (CacheOf file party) ≡ Cache kind running ∷ []
    → any_ends_cache n (step_begun s.core) file party (deeds n s event) ≡ false → list_any (tells_gone file party) (all_told_of n (step_begun s.core) (deeds n s event)) ≡ false
    → IsHeldOf kind (held_at (step n s event).next.core (CacheOf file party))
keeping n s event other free file party kind running had lasts quiet =
    let found = step_begun s.core in
    let ds = deeds n s event in
    let good = begun_good s.core free.good in
    let p = CacheOf file party in
    let kept = deeds_keep_cache n found ds file party kind good (deeds_taken n s event other good) lasts quiet (held_itself kind running (held_at found p) (begun_held s.core p ∙ had)) in
    subst (λ (t : CoreState). IsHeldOf kind (held_at t p)) (sym (next_core n s event other))
    (record { now = kept.now; running = kept.running; is = begun_held (all_done n found ds) p ∙ kept.is; within = kept.within })

keeping_by : (n : ℕ) (s : Whole) (event : Event) → IsFree s → IsKeepingBy n s event (step n s event).next
keeping_by n s Restart free = tt
keeping_by n s event free = keeping n s event refl free

-- ---- each journal

pub always_wishing : (head : Head) (es : List Entry) → Always IsWishing (start_of head) es
always_wishing head es = always IsWishing (λ n s e free. each_deed (λ u d. IsWishedBy n u d) n s e.event (λ u d good fit. deed_wished n u d good fit) free) head es

pub always_breaking : (head : Head) (es : List Entry) → Always IsBreaking (start_of head) es
always_breaking head es = always IsBreaking (λ n s e free. each_deed (λ u d. IsBrokenBy n u d) n s e.event (λ u d good fit. deed_broken n u d good fit) free) head es

pub always_partied : (head : Head) (es : List Entry) → Always IsPartied (start_of head) es
always_partied head es = always IsPartied (λ n s e free. each_deed (λ u d. AreHeldFor n u d) n s e.event (λ u d good fit. deed_parties n u d good fit) free) head es

pub always_keeping : (head : Head) (es : List Entry) → Always IsKeeping (start_of head) es
always_keeping head es = always IsKeeping (λ n s e free. keeping_by n s e.event free) head es

-- ---- a machine that doesn't

-- one drops a cache at another's ask, and tells nobody
pub cache_dropped_in : (n stores number : ℕ) (bytes : List ℕ) (outs : List Out) (s t : Whole) (left : Rooms) (a : Ask) (file : ℕ) (party : Party) → deeds n s (Message number bytes) ≡ Asks left a ∷ [] → (ask n left (found s) a).1 ≡ []
    → held_at s.core (CacheOf file party) ≡ Cache RWH None ∷ [] → t.core.claims ≡ [] → IsKeeping n s (record { event = Message number bytes; stores = stores; outs = outs }) t → ⊥
cache_dropped_in n stores number bytes outs s t left a file party does quiet had none keeping =
    let kept = keeping file party RWH None had (ap (λ (ds : List Deed). any_ends_cache n (found s) file party ds) does)
    (ap (λ (ds : List Deed). list_any (tells_gone file party) (all_told_of n (found s) ds)) does ∙ ap (λ (told : List Effect). list_any (tells_gone file party) (told ++ [])) quiet) in
    let e : [] ≡ (Cache kept.now kept.running ∷ []) = sym (ap (λ (cs : List Claim). held_in cs (CacheOf file party)) none) ∙ kept.is in
    absurd cc

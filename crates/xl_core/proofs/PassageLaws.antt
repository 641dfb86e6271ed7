-- How the way of a claim stands: what is looked at for it, what is read of it, and how it stands once its breaks have begun.
use Rattle.std.proofs.Common.{◌≡◌, Bool, true, false, not, ◌&&◌, if◌then◌else◌, List, [], ◌∷◌, Option, Some, None, option_map, is_some, inl, inr, refl, sym, ap, subst, ◌∙◌}
use Rattle.std.specs.Prelude.{IfSome}
use Rattle.std.specs.List.{filter, list_any}
use Rattle.std.proofs.lemmas.Bool.{cases_Bool, both_ways, false_from_ne_true, or_parts}
use Rattle.xl_base.specs.declared.event.Moment.{Moment}
use Rattle.xl_cache.specs.BreakPlans.{is_final, is_obstacle, planned, recalled_by}
use Rattle.xl_cache.specs.declared.break_plan.BreakPlan.{BreakPlan}
use Rattle.xl_matrix.specs.declared.claim.Claim.{Claim}
use Rattle.xl_table.specs.Flat.{blocks, may_obstruct, is_blocked}
use Rattle.xl_table.specs.Least.{least}
use Rattle.xl_wait.specs.declared.waiter.Waiter.{Waiter}
use Rattle.xl_core.specs.State.{CoreState}
use Rattle.xl_core.specs.BreaksBegun.{once_broken, plan_then, breaks_begun}
use Rattle.xl_core.specs.Blockers.{held_blockers, is_barred, range_ahead, first_of, blocker, is_in_line, is_stopped, first_broken, cache_in, cache_against, passage_by, passage_of}
use Rattle.xl_core.specs.InFront.{IsKnown}
use Rattle.xl_core.specs.Good.{holds_back, is_held_up}
use Rattle.xl_core.specs.Judge.{stopped, kept_off, check_held, check_caches, stop_by, or_else}
use Rattle.xl_core.specs.Leases.{moment_after}
use Rattle.xl_core.specs.Ways.{begins, begins_some, made_way}
use Rattle.xl_core.specs.declared.ask.Effect.{Effect}
use Rattle.xl_core.specs.declared.blockers.Passage.{Passage}
use Rattle.xl_core.specs.declared.blockers.Passage.TheVariants.{Barred, Open}
use Rattle.xl_core.specs.Standings.{is_timely}
use Rattle.xl_core.specs.declared.judge.Plea.{Plea}
use Rattle.xl_core.specs.declared.judge.Ruling.{Ruling}
use Rattle.xl_core.proofs.BreaksInOrderLaws.{unplanned, planned_against, final_against}
use Rattle.xl_core.proofs.BreaksThenLaws.{planned_then, moves_then}
use Rattle.xl_core.proofs.DecideLaws.{none_held, barred_blocked, blocker_by, blockers_none, none_blockers, some_stops, obstacle_blocks, free_moves, free_from, free_clear}
use Rattle.xl_core.proofs.LineLaws.{begun_line}
use Rattle.xl_table.proofs.LeastLaws.{least_none, none_passes}
use Rattle.xl_core.proofs.WayLaws.{unbroken, way_unbroken, way_stopped}

unbarred : (s : CoreState) (ask : Claim) → is_blocked s.claims ask ≡ false → is_barred s ask ≡ false
unbarred s ask free = false_from_ne_true (is_barred s ask) (λ (h : is_barred s ask ≡ true). both_ways (is_blocked s.claims ask) free (barred_blocked s ask h))

-- ---- what is looked at

pub final_so : (ask : Claim) (cs held finals : List Claim) → finals ≡ filter (is_final ask held) held → held ≡ filter (may_obstruct ask) cs → finals ≡ filter (is_final ask cs) cs
final_so ask cs held finals e is = e ∙ ap (λ (ds : List Claim). filter (is_final ask ds) ds) is ∙ final_against ask cs

-- barred by what is held, or else by the range of one who waits in front
named_held : (earlier : List Waiter) (s : CoreState) (ask : Claim) (finals : List Claim) (o : Option Claim) → finals ≡ filter (is_final ask s.claims) s.claims → o ≡ least s.names finals → blocker earlier s ask ≡ first_of o (range_ahead earlier s ask)
unfolding held_blockers
named_held earlier s ask finals o is e = blocker_by earlier s ask o (ap (least s.names) (sym is) ∙ sym e)

barred_by : (earlier : List Waiter) (s : CoreState) (ask d : Claim) → blocker earlier s ask ≡ Some d → Barred d ≡ passage_of earlier s ask
unfolding passage_of
barred_by earlier s ask d e = ap (λ (o : Option Claim). passage_by o (planned ask s.claims)) (sym e)

pub barred_so : (earlier : List Waiter) (s : CoreState) (ask d : Claim) (finals : List Claim) → finals ≡ filter (is_final ask s.claims) s.claims → Some d ≡ least s.names finals → Barred d ≡ passage_of earlier s ask
barred_so earlier s ask d finals is e = barred_by earlier s ask d (named_held earlier s ask finals (Some d) is e)

pub behind_so : (earlier : List Waiter) (s : CoreState) (ask d : Claim) (finals : List Claim) → finals ≡ filter (is_final ask s.claims) s.claims → None ≡ least s.names finals → Some d ≡ range_ahead earlier s ask → Barred d ≡ passage_of earlier s ask
behind_so earlier s ask d finals is none e = barred_by earlier s ask d (named_held earlier s ask finals None is none ∙ sym e)

pub open_so : (earlier : List Waiter) (s : CoreState) (ask : Claim) (plan : BreakPlan) → blocker earlier s ask ≡ None → plan ≡ planned ask s.claims → Open plan ≡ passage_of earlier s ask
unfolding passage_of
open_so earlier s ask plan none is = ap (λ (p : BreakPlan). Open p) is ∙ ap (λ (o : Option Claim). passage_by o (planned ask s.claims)) (sym none)

pub looked_open : (earlier : List Waiter) (s : CoreState) (ask : Claim) (plan : BreakPlan) (held finals : List Claim) → finals ≡ filter (is_final ask s.claims) s.claims → None ≡ least s.names finals → None ≡ range_ahead earlier s ask → plan ≡ planned ask held → held ≡ filter (may_obstruct ask) s.claims → Open plan ≡ passage_of earlier s ask
looked_open earlier s ask plan held finals is none free made looked =
    open_so earlier s ask plan (named_held earlier s ask finals None is none ∙ sym free) (made ∙ ap (planned ask) looked ∙ planned_against ask s.claims)

-- where nothing that is held blocks a claim
pub free_barred : (earlier : List Waiter) (s : CoreState) (ask d : Claim) → is_blocked s.claims ask ≡ false → Some d ≡ range_ahead earlier s ask → Barred d ≡ passage_of earlier s ask
free_barred earlier s ask d free e = barred_by earlier s ask d (blocker_by earlier s ask None (none_held s ask (unbarred s ask free)) ∙ sym e)

-- nothing is in the way of a claim that nothing blocks
pub free_open : (earlier : List Waiter) (s : CoreState) (ask : Claim) (plan : BreakPlan) → is_blocked s.claims ask ≡ false → None ≡ range_ahead earlier s ask → plan ≡ record { breaks = []; awaited = None; left = None } → Open plan ≡ passage_of earlier s ask
free_open earlier s ask plan free none is =
    open_so earlier s ask plan (none_blockers earlier s ask (free_moves earlier s ask (free_from earlier s ask free (sym none))))
    (is ∙ sym (unplanned ask s.claims (λ c there. false_from_ne_true (is_obstacle ask s.claims c) (λ (h : is_obstacle ask s.claims c ≡ true). both_ways (is_blocked s.claims ask) free (obstacle_blocks ask s.claims c there h)))))

-- ---- what is read of it

-- of an open one nothing blocks for good, and its plan is the ask's
pub opens : (earlier : List Waiter) (s : CoreState) (ask : Claim) (plan : BreakPlan) → Open plan ≡ passage_of earlier s ask → (blocker earlier s ask ≡ None) × (plan ≡ planned ask s.claims)
unfolding passage_of
opens earlier s ask plan e = by (blocker earlier s ask) e where
  same : (p q : BreakPlan) → Open p ≡ Open q → p ≡ q
  same p q k = cc

  by : (o : Option Claim) → Open plan ≡ passage_by o (planned ask s.claims) → (o ≡ None) × (plan ≡ planned ask s.claims)
  by (Some d) k = absurd cc
  by None k = (refl, same plan (planned ask s.claims) k)

bars : (earlier : List Waiter) (s : CoreState) (ask d : Claim) → Barred d ≡ passage_of earlier s ask → is_stopped earlier s ask ≡ true
unfolding passage_of
bars earlier s ask d e = by (blocker earlier s ask) refl e where
  by : (o : Option Claim) → blocker earlier s ask ≡ o → Barred d ≡ passage_by o (planned ask s.claims) → is_stopped earlier s ask ≡ true
  by (Some c) is k = some_stops earlier s ask c is
  by None is k = absurd cc

-- what stops a claim is read of how its way stands
pub stopped_so : (earlier : List Waiter) (p : Plea) (c : Claim) (s : CoreState) (passage : Passage) (r later : Option Ruling) → passage ≡ passage_of earlier s c → r ≡ stop_by p passage → or_else (check_held earlier p c s) (or_else (check_caches p c s) later) ≡ or_else r later
unfolding check_held check_caches cache_against passage_of
stopped_so earlier p c s passage r later is e = by (blocker earlier s c) ∙ ap (λ (o : Option Ruling). or_else o later) (ap (stop_by p) (sym is) ∙ sym e) where
  by : (o : Option Claim) → or_else (option_map (stopped p) o) (or_else (option_map (kept_off p) (cache_in (planned c s.claims))) later) ≡ or_else (stop_by p (passage_by o (planned c s.claims))) later
  by (Some d) = refl
  by None = refl

-- where nothing held blocks the claim it is read of who waits in front alone
pub stopped_behind : (earlier : List Waiter) (p : Plea) (c : Claim) (s : CoreState) (later : Option Ruling) → least s.names (filter (λ held. blocks c held) s.claims) ≡ None → or_else (check_held earlier p c s) (or_else (check_caches p c s) later) ≡ or_else (option_map (stopped p) (range_ahead earlier s c)) later
unfolding check_held check_caches
stopped_behind earlier p c s later e =
    let free : is_blocked s.claims c ≡ false = none_passes (λ d. blocks c d) s.claims (least_none s.names (filter (λ held. blocks c held) s.claims) e) in
    rw (blocker_by earlier s c None (none_held s c (unbarred s c free)), free_clear s.claims c free) refl

-- and so is whether one who waits for it waits on
pub held_back : (earlier : List Waiter) (s : CoreState) (w : Waiter) (c : Claim) (passage : Passage) → passage ≡ passage_of earlier s c → is_in_line earlier s c ≡ true → holds_back w passage ≡ is_held_up earlier s w c
held_back earlier s w c (Barred d) e line = let stops = bars earlier s c d e in rw (line, stops) refl
held_back earlier s w c (Open plan) e line = let is = opens earlier s c plan e in let moves = blockers_none earlier s c is.0 in rw (line, moves) (ap (λ (p : BreakPlan). not (is_some (first_broken p.breaks))) is.1)

-- of one who waits for the range of another in front, or for nothing
pub held_behind : (earlier : List Waiter) (s : CoreState) (w : Waiter) (c d : Claim) → is_blocked s.claims c ≡ false → Some d ≡ range_ahead earlier s c → w.blocking ≡ is_held_up earlier s w c
held_behind earlier s w c d free e = let some : range_ahead earlier s c ≡ Some d = sym e in rw (unbarred s c free, free, some) refl

pub held_by_none : (earlier : List Waiter) (s : CoreState) (w : Waiter) (c : Claim) → is_blocked s.claims c ≡ false → None ≡ range_ahead earlier s c → false ≡ is_held_up earlier s w c
held_by_none earlier s w c free e = let none = free_from earlier s c free (sym e) in rw none refl

-- the first of these, if it is known how its way stands
pub known_first : (earlier : List Waiter) (known : Option Passage) (s : CoreState) (cs : List Claim) (c : Claim) (rest : List Claim) → cs ≡ c ∷ rest → IsKnown earlier known s cs → IfSome known (λ passage. passage ≡ passage_of earlier s c)
known_first earlier None s cs c rest is h = tt
known_first earlier (Some passage) s cs c rest is h = subst (λ (ds : List Claim). IsKnown earlier (Some passage) s ds) is h

pub known_now : (earlier : List Waiter) (passage : Passage) (s : CoreState) (cs : List Claim) (c : Claim) (rest : List Claim) → cs ≡ c ∷ rest → passage ≡ passage_of earlier s c → IsKnown earlier (Some passage) s cs
known_now earlier passage s cs c rest is e = subst (λ (ds : List Claim). IsKnown earlier (Some passage) s ds) (sym is) e

-- ---- the way that is made

abbrev pub Told : Type 0
Told = List Effect × CoreState

pub quiet_so : (way : Told) (s : CoreState) (told : List Effect) → way ≡ ([], s) → told ≡ [] → way ≡ (told, s)
quiet_so way s told e quiet = e ∙ (λ i. (sym quiet i, s))

pub way_barred : (earlier : List Waiter) (p : Plea) (c d : Claim) (cs : List Claim) (s : CoreState) → Barred d ≡ passage_of earlier s c → made_way earlier p (c ∷ cs) s ≡ ([], s)
way_barred earlier p c d cs s e = way_stopped earlier p c cs s (bars earlier s c d e)

begins_by : (earlier : List Waiter) (p : Plea) (c : Claim) (s : CoreState) (plan : BreakPlan) → Open plan ≡ passage_of earlier s c → begins earlier p c s ≡ (is_timely p.standing && not (p.awaits && (is_some p.crowded && is_some (recalled_by plan))))
begins_by earlier p c s plan e =
    let is = opens earlier s c plan e in
    let moves = blockers_none earlier s c is.0 in
    rw moves (ap (λ (q : BreakPlan). is_timely p.standing && not (p.awaits && (is_some p.crowded && is_some (recalled_by q)))) (sym is.1))

pub way_begun : (earlier : List Waiter) (p : Plea) (c : Claim) (cs : List Claim) (s : CoreState) (plan : BreakPlan) → Open plan ≡ passage_of earlier s c → begins_some p plan ≡ true → made_way earlier p (c ∷ cs) s ≡ breaks_begun c s
unfolding made_way
way_begun earlier p c cs s plan e some =
    ap (λ (b : Bool). if b then breaks_begun c s else ([], s)) (begins_by earlier p c s plan e ∙ second (is_some (first_broken plan.breaks)) _ some)
  where
    second : (x y : Bool) → (x && y) ≡ true → y ≡ true
    second true y h = h
    second false y h = absurd (both_ways false refl h)

pub way_rests : (earlier : List Waiter) (p : Plea) (c : Claim) (cs : List Claim) (s : CoreState) (plan : BreakPlan) → Open plan ≡ passage_of earlier s c → begins_some p plan ≡ false → made_way earlier p (c ∷ cs) s ≡ ([], s)
unfolding made_way
way_rests earlier p c cs s plan e none =
    elim (cases_Bool (is_some (first_broken plan.breaks))) [
      | inl some ↦
          let rests : (is_timely p.standing && not (p.awaits && (is_some p.crowded && is_some (recalled_by plan)))) ≡ false = rw some at none in
          ap (λ (b : Bool). if b then breaks_begun c s else ([], s)) (begins_by earlier p c s plan e ∙ rests)
      | inr quiet ↦
          way_unbroken earlier p c cs s (unbroken s.claims c (ap (λ (q : BreakPlan). not (is_some (first_broken q.breaks))) (sym (opens earlier s c plan e).1) ∙ ap not quiet))
    ]

begun_claims : (c : Claim) (s : CoreState) → once_broken (moment_after s.clock s.times.break_time) c s.claims ≡ (breaks_begun c s).1.claims
unfolding breaks_begun
begun_claims c s = refl

-- once its breaks have begun it is open, and what is left of its plan is awaited
pub passage_then : (earlier : List Waiter) (s t : CoreState) (c : Claim) (plan left : BreakPlan) (deadline : Moment) (told : List Effect) → Open plan ≡ passage_of earlier s c → breaks_begun c s ≡ (told, t) → deadline ≡ moment_after s.clock s.times.break_time → left ≡ plan_then deadline plan
    → Open left ≡ passage_of earlier t c
passage_then earlier s t c plan left deadline told e begun due then_left =
    let is = opens earlier s c plan e in
    let due_then : Moment = moment_after s.clock s.times.break_time in
    let claims : once_broken due_then c s.claims ≡ t.claims = begun_claims c s ∙ ap (λ (w : List Effect × CoreState). w.1.claims) begun in
    let parts = or_parts (is_barred s c) (is_some (range_ahead earlier s c)) (blockers_none earlier s c is.0) in
    let moves : is_barred t c ≡ false = subst (λ (ds : List Claim). list_any (is_final c ds) ds ≡ false) claims (moves_then due_then c s.claims parts.0) in
    let free : is_some (range_ahead earlier t c) ≡ false = ap is_some (ap (λ (w : List Effect × CoreState). range_ahead earlier w.1 c) (sym begun) ∙ begun_line earlier s c c) ∙ parts.1 in
    open_so earlier t c left (none_blockers earlier t c (rw moves free))
    (then_left ∙ (λ i. plan_then (due i) (is.1 i)) ∙ sym (planned_then due_then c s.claims) ∙ ap (planned c) claims)

-- How one who asks stands where no grace runs.
use Rattle.std.proofs.Common.{◌≡◌, ◌⊎◌, inl, inr, Bool, true, false, if◌then◌else◌, Option, Some, None, is_some, refl, ap}
use Rattle.std.proofs.lemmas.Bool.{both_ways}
use Rattle.xl_base.specs.declared.stable.Recorded.{Recorded}
use Rattle.xl_base.specs.declared.event.Moment.{Moment}
use Rattle.xl_grace.specs.Grace.{Running, admission, may_reclaim}
use Rattle.xl_grace.specs.declared.grace.Admission.{Admission}
use Rattle.xl_grace.specs.declared.grace.Admission.TheVariants.{Enters, Grace, NoGrace, NotRecorded}
use Rattle.xl_core.specs.State.{CoreState}
use Rattle.xl_core.specs.Standings.{standing, standing_by, enters}
use Rattle.xl_core.specs.declared.standings.Standing.{Standing}
use Rattle.xl_core.specs.declared.standings.Standing.TheVariants.{Timely, Reclaims, Stays, Early, Late, Unrecorded}

-- no grace runs
pub no_grace : (g : Option Running) → is_some g ≡ false → g ≡ None
no_grace None e = refl
no_grace (Some g) e = absurd (both_ways true e refl)

-- what is no reclaim is in nobody's way then
pub timely : (s : CoreState) (name : Recorded) (stays : Bool) → s.grace ≡ None → standing s name stays false ≡ Timely
unfolding standing
timely s name stays none = rw none refl

pub timely_so : (s : CoreState) (name : Recorded) (stays : Bool) → is_some s.grace ≡ false → standing s name stays false ≡ Timely
timely_so s name stays none = timely s name stays (no_grace s.grace none)

-- and a reclaim comes too late
pub late : (s : CoreState) (name : Recorded) (stays : Bool) → s.grace ≡ None → standing s name stays true ≡ Late s.clock
unfolding standing
late s name stays none = rw none refl

-- ---- what a standing tells

-- who may go on stands in one of two ways
pub enters_cases : (standing : Standing) → enters standing ≡ true → (standing ≡ Timely) ⊎ (standing ≡ Reclaims)
enters_cases Timely e = inl refl
enters_cases Reclaims e = inr refl
enters_cases Stays e = absurd (both_ways false refl e)
enters_cases (Early until) e = absurd (both_ways false refl e)
enters_cases (Late clock) e = absurd (both_ways false refl e)
enters_cases Unrecorded e = absurd (both_ways false refl e)

-- no reclaim is timely
pub timely_asks : (s : CoreState) (name : Recorded) (stays reclaim : Bool) → standing s name stays reclaim ≡ Timely → reclaim ≡ false
unfolding standing
timely_asks s name stays false e = refl
timely_asks s name stays true e = absurd (by (admission s.grace name true) stays e) where
  by : (admitted : Admission) (b : Bool) → standing_by b true s.clock admitted ≡ Timely → ⊥
  by Enters b e = cc
  by (Grace until) true e = cc
  by (Grace until) false e = cc
  by NoGrace b e = cc
  by NotRecorded b e = cc

-- only a reclaim is
pub reclaims_asks : (s : CoreState) (name : Recorded) (stays reclaim : Bool) → standing s name stays reclaim ≡ Reclaims → reclaim ≡ true
unfolding standing
reclaims_asks s name stays true e = refl
reclaims_asks s name stays false e = absurd (by (admission s.grace name false) stays e) where
  by : (admitted : Admission) (b : Bool) → standing_by b false s.clock admitted ≡ Reclaims → ⊥
  by Enters b e = cc
  by (Grace until) true e = cc
  by (Grace until) false e = cc
  by NoGrace b e = cc
  by NotRecorded b e = cc

-- one that comes too late reclaims where no grace runs
pub late_asks : (s : CoreState) (name : Recorded) (stays reclaim : Bool) (clock : Moment) → standing s name stays reclaim ≡ Late clock → (clock ≡ s.clock) × (s.grace ≡ None) × (reclaim ≡ true)
unfolding standing
late_asks s name stays reclaim clock e = by s.grace reclaim refl e where
  none_late : (admitted : Admission) (b r : Bool) → admitted ≡ NoGrace ⊎ (standing_by b r s.clock admitted ≡ Late clock → ⊥)
  none_late Enters b true = inr (λ e. cc)
  none_late Enters b false = inr (λ e. cc)
  none_late (Grace until) true r = inr (λ e. cc)
  none_late (Grace until) false r = inr (λ e. cc)
  none_late NoGrace b r = inl refl
  none_late NotRecorded b r = inr (λ e. cc)

  runs : (b : Bool) → (if b then Enters else NotRecorded) ≡ NoGrace → ⊥
  runs true e = cc
  runs false e = cc

  by : (g : Option Running) (r : Bool) → s.grace ≡ g → standing_by stays r s.clock (admission g name r) ≡ Late clock → (clock ≡ s.clock) × (s.grace ≡ None) × (r ≡ true)
  by None true none e = (cc, none, refl)
  by None false none e = absurd cc
  by (Some g) true some e = elim (none_late (admission (Some g) name true) stays true) [ inl is ↦ absurd (runs (may_reclaim name g.reclaimants) is) | inr never ↦ absurd (never e) ]
  by (Some g) false some e = elim (none_late (admission (Some g) name false) stays false) [ inl is ↦ absurd cc | inr never ↦ absurd (never e) ]

-- one that never waits for the end of grace doesn't stay
pub alone_goes : (s : CoreState) (name : Recorded) (reclaim : Bool) → standing s name false reclaim ≡ Stays → ⊥
unfolding standing
alone_goes s name reclaim e = by (admission s.grace name reclaim) reclaim e where
  by : (admitted : Admission) (b : Bool) → standing_by false b s.clock admitted ≡ Stays → ⊥
  by Enters true e = cc
  by Enters false e = cc
  by (Grace until) b e = cc
  by NoGrace b e = cc
  by NotRecorded b e = cc

-- who stays asks to
pub stays_asks : (s : CoreState) (name : Recorded) (stays reclaim : Bool) → standing s name stays reclaim ≡ Stays → stays ≡ true
unfolding standing
stays_asks s name true reclaim e = refl
stays_asks s name false reclaim e = absurd (by (admission s.grace name reclaim) reclaim e) where
  by : (admitted : Admission) (b : Bool) → standing_by false b s.clock admitted ≡ Stays → ⊥
  by Enters true e = cc
  by Enters false e = cc
  by (Grace until) b e = cc
  by NoGrace b e = cc
  by NotRecorded b e = cc

-- what is timely comes where no grace runs
pub timely_calm : (s : CoreState) (name : Recorded) (stays reclaim : Bool) → standing s name stays reclaim ≡ Timely → s.grace ≡ None
unfolding standing
timely_calm s name stays reclaim e = by s.grace reclaim refl e where
  never : (admitted : Admission) (b : Bool) → standing_by b true s.clock admitted ≡ Timely → ⊥
  never Enters b e = cc
  never (Grace until) true e = cc
  never (Grace until) false e = cc
  never NoGrace b e = cc
  never NotRecorded b e = cc

  early : (until : Moment) (b : Bool) → standing_by b false s.clock (Grace until) ≡ Timely → ⊥
  early until true e = cc
  early until false e = cc

  by : (g : Option Running) (r : Bool) → s.grace ≡ g → standing_by stays r s.clock (admission g name r) ≡ Timely → s.grace ≡ None
  by None r none e = none
  by (Some g) true some e = absurd (never (admission (Some g) name true) stays e)
  by (Some g) false some e = absurd (early g.end stays e)

-- who stays waits while grace runs
pub stays_runs : (s : CoreState) (name : Recorded) (stays reclaim : Bool) → standing s name stays reclaim ≡ Stays → is_some s.grace ≡ true
unfolding standing
stays_runs s name stays reclaim e = by s.grace reclaim refl e where
  by : (g : Option Running) (r : Bool) → s.grace ≡ g → standing_by stays r s.clock (admission g name r) ≡ Stays → is_some s.grace ≡ true
  by (Some g) r some e = ap is_some some
  by None true none e = absurd cc
  by None false none e = absurd cc

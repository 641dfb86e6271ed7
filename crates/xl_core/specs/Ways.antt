-- The way that is made for an ask before it is judged: the breaks that it begins.
use Rattle.std.specs.Prelude.{Bool, not, ◌&&◌, if◌then◌else◌, List, [], ◌∷◌, is_some}
use Rattle.xl_cache.specs.declared.break_plan.BreakPlan.{BreakPlan}
use Rattle.xl_cache.specs.BreakPlans.{recalled_by, planned}
use Rattle.xl_matrix.specs.declared.claim.Claim.{Claim}
use Rattle.xl_wait.specs.declared.waiter.Waiter.{Waiter}
use Rattle.xl_core.specs.State.{CoreState}
use Rattle.xl_core.specs.BreaksBegun.{breaks_begun}
use Rattle.xl_core.specs.Blockers.{is_stopped, first_broken}
use Rattle.xl_core.specs.Standings.{is_timely}
use Rattle.xl_core.specs.declared.ask.Effect.{Effect}
use Rattle.xl_core.specs.declared.judge.Plea.{Plea}

-- one that pleads so for this claim, behind these waiters, begins breaks: no grace runs and it is no reclaim, nothing blocks the
-- claim for good, and it doesn't wait for an answer if that would pass a limit
abbrev pub begins : List Waiter → Plea → Claim → CoreState → Bool
begins earlier p c s = is_timely p.standing && (not (is_stopped earlier s c) && not (p.awaits && (is_some p.crowded && is_some (recalled_by (planned c s.claims)))))

-- so does one whose way is open by this plan, which breaks something
abbrev pub begins_some : Plea → BreakPlan → Bool
begins_some p plan = is_some (first_broken plan.breaks) && (is_timely p.standing && not (p.awaits && (is_some p.crowded && is_some (recalled_by plan))))

-- the effects, and the state then, once the breaks of a plea for these claims begin: those of the first, as the ranges
-- of one open meet the same caches (MS-SMB2 3.3.4.6, 3.3.4.7; RFC 7530 10.4.4)
unfoldable pub made_way : List Waiter → Plea → List Claim → CoreState → List Effect × CoreState
made_way earlier p [] s = ([], s)
made_way earlier p (c ∷ cs) s = if begins earlier p c s then breaks_begun c s else ([], s)

use Rattle.std.proofs.Common.{sym, ◌∙◌}
use Rattle.xl_core.specs.InFront.{in_front_of}
use Rattle.xl_core.specs.Whole.{state_of}
use Rattle.xl_core.proofs.PassageLaws.{final_so, barred_so, behind_so, looked_open}
use Rattle.xl_core.proofs.blockers.look.Goals as goal

pub returns-in-Some : goal.returns-in-Some
returns-in-Some c =
    let s = state_of c.args.parts.now in
    let ask = c.args.claim.now in
    barred_so (in_front_of c.args.front c.args.parts.now.queue) s ask c.in-Some.blocker c.deref-2.result.now (final_so ask s.claims c.deref.result.now c.deref-2.result.now (c.deref-2.ensures.value ∙ c.in_ok-finals.ensures) (c.deref.ensures.value ∙ c.in_ok-held.ensures))
    (sym c.in-Some.is ∙ c.in_ok-blocker.ensures)

pub returns-in-Some-2 : goal.returns-in-Some-2
returns-in-Some-2 c =
    let s = state_of c.args.parts.now in
    let ask = c.args.claim.now in
    behind_so (in_front_of c.args.front c.args.parts.now.queue) s ask c.in-Some-2.range c.deref-2.result.now (final_so ask s.claims c.deref.result.now c.deref-2.result.now (c.deref-2.ensures.value ∙ c.in_ok-finals.ensures) (c.deref.ensures.value ∙ c.in_ok-held.ensures))
    (sym c.in_default.is ∙ c.in_ok-blocker.ensures) (sym c.in-Some-2.is ∙ c.in_ok-range.ensures)

pub returns : goal.returns
returns c =
    let s = state_of c.args.parts.now in
    let ask = c.args.claim.now in
    looked_open (in_front_of c.args.front c.args.parts.now.queue) s ask c.in_ok-plan.plan c.deref-3.result.now c.deref-2.result.now
    (final_so ask s.claims c.deref.result.now c.deref-2.result.now (c.deref-2.ensures.value ∙ c.in_ok-finals.ensures) (c.deref.ensures.value ∙ c.in_ok-held.ensures))
    (sym c.in_default.is ∙ c.in_ok-blocker.ensures) (sym c.in_default-2.is ∙ c.in_ok-range.ensures) c.in_ok-plan.ensures.is (c.deref-3.ensures.value ∙ c.in_ok-held.ensures)

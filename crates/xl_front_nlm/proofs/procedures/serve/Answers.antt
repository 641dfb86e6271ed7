use Rattle.std.proofs.Common.{ℕ, List, Option, sym, ap, subst, ◌∙◌}
use Rattle.xl_core.proofs.FrameLaws.{may_be_made}
use Rattle.xl_core.specs.Decide.{Answered as AskAnswered}
use Rattle.xl_nlm.specs.Items.{shown_call}
use Rattle.xl_core.specs.State.{CoreState}
use Rattle.xl_core.specs.declared.ask.Effect.{Effect}
use Rattle.xl_front_nlm.proofs.PlanLaws.{plan_fits, plan_asks, served_told, served_asked, served_done}
use Rattle.xl_front_nlm.proofs.StatusLaws.{outcome_of}
use Rattle.xl_front_nlm.specs.Hosts.{HasHostRoom}
use Rattle.xl_front_nlm.specs.Plans.{shown_deed, shown_plan}
use Rattle.xl_front_nlm.specs.Results.{IsOutcomeOf}
use Rattle.xl_front_nlm.specs.Serving.{host_of, hosted}
use Rattle.xl_front_nlm.specs.State.{FrontState}
use Rattle.xl_front_nlm.specs.declared.outcome.Outcome.{Outcome}
use Rattle.xl_plan.proofs.KeeperLaws.{hands_quiet}
use Rattle.xl_front_nlm.proofs.procedures.serve.Goals as goal

abbrev CallServed : Type 0
CallServed = Outcome × List Effect × FrontState × CoreState

pub returns-in-Tells-clause-done : goal.returns-in-Tells-clause-done
returns-in-Tells-clause-done g c = λ n may.
    let front = c.args.layers.front.now in
    let call = shown_call c.args.call.now in
    served_told n c.args.count front c.args.layers.core.now call c.in-Tells.outcome c.new.result (c.in_ok-plan.ensures ∙ ap (shown_plan (host_of call) front) c.in-Tells.is) c.new.ensures

pub returns-in-Tells-clause-outcome : goal.returns-in-Tells-clause-outcome
returns-in-Tells-clause-outcome g c =
    let front = c.args.layers.front.now in
    let call = shown_call c.args.call.now in
    subst (λ (r : CallServed). IsOutcomeOf call r.0)
    (served_told 0 c.args.count front c.args.layers.core.now call c.in-Tells.outcome c.new.result (c.in_ok-plan.ensures ∙ ap (shown_plan (host_of call) front) c.in-Tells.is) c.new.ensures)
    (outcome_of 0 c.args.count front c.args.layers.core.now call)

pub asked-requires-clause-fit : goal.asked-requires-clause-fit
asked-requires-clause-fit g c =
    let front = c.args.layers.front.now in
    let call = shown_call c.args.call.now in
    (plan_fits c.args.count front c.args.layers.core.now call _ (c.in_ok-plan.ensures ∙ ap (shown_plan (host_of call) front) c.in-Asks.is)).0

pub asked-requires-clause-small : goal.asked-requires-clause-small
asked-requires-clause-small g c =
    let front = c.args.layers.front.now in
    let call = shown_call c.args.call.now in
    (plan_asks 0 c.args.count front c.args.layers.core.now call _ c.requires.fits (c.in_ok-plan.ensures ∙ ap (shown_plan (host_of call) front) c.in-Asks.is)).0

pub note_host-requires : goal.note_host-requires
note_host-requires g c =
    let front = c.args.layers.front.now in
    let call = shown_call c.args.call.now in
    let made = c.asked.new.core.made in
    record {
      room = subst (λ (host : Option (List ℕ)). HasHostRoom host c.in_ok-answer.answer front.hosts) (sym c.host_of.ensures)
          (subst (λ (r : AskAnswered). HasHostRoom (host_of call) r.0 front.hosts) (c.in_ok-answer.ensures.state made (may_be_made c.asked.new.core))
          (plan_asks made c.args.count front c.args.layers.core.now call _ c.requires.fits (c.in_ok-plan.ensures ∙ ap (shown_plan (host_of call) front) c.in-Asks.is)).1);
    }

pub returns-clause-done : goal.returns-clause-done
returns-clause-done g c = λ n may.
    let front = c.args.layers.front.now in
    let call = shown_call c.args.call.now in
    served_asked n c.args.count front c.note_host.new.front c.args.layers.core.now c.asked.new.core call c.in-Asks.left c.in-Asks.request c.in_ok-answer.answer c.in_ok-answer.effects
    (c.in_ok-plan.ensures ∙ ap (shown_plan (host_of call) front) c.in-Asks.is) (c.in_ok-answer.ensures.state n may)
    (c.in_ok-note_host.ensures ∙ ap (λ (host : Option (List ℕ)). hosted host c.in_ok-answer.answer front) c.host_of.ensures)

pub returns-clause-outcome : goal.returns-clause-outcome
returns-clause-outcome g c =
    let front = c.args.layers.front.now in
    let call = shown_call c.args.call.now in
    let made = c.asked.new.core.made in
    subst (λ (r : CallServed). IsOutcomeOf call r.0)
    (served_asked made c.args.count front c.note_host.new.front c.args.layers.core.now c.asked.new.core call c.in-Asks.left c.in-Asks.request c.in_ok-answer.answer c.in_ok-answer.effects
    (c.in_ok-plan.ensures ∙ ap (shown_plan (host_of call) front) c.in-Asks.is) (c.in_ok-answer.ensures.state made (may_be_made c.asked.new.core))
    (c.in_ok-note_host.ensures ∙ ap (λ (host : Option (List ℕ)). hosted host c.in_ok-answer.answer front) c.host_of.ensures))
    (outcome_of made c.args.count front c.args.layers.core.now call)

pub carry_out-requires-clause-fit : goal.carry_out-requires-clause-fit
carry_out-requires-clause-fit g c =
    let front = c.args.layers.front.now in
    let call = shown_call c.args.call.now in
    (plan_fits c.args.count front c.args.layers.core.now call _ (c.in_ok-plan.ensures ∙ ap (shown_plan (host_of call) front) c.in-Does.is)).0

pub returns-in-Does-clause-done : goal.returns-in-Does-clause-done
returns-in-Does-clause-done g c = λ n may.
    let front = c.args.layers.front.now in
    let call = shown_call c.args.call.now in
    served_done n c.args.count front c.args.layers.core.now c.carry_out.new.core call (shown_deed c.in-Does.deed) c.in_ok-effects-in-Does.effects (c.in_ok-plan.ensures ∙ ap (shown_plan (host_of call) front) c.in-Does.is) (c.in_ok-effects-in-Does.ensures.done n)

pub returns-in-Does-clause-outcome : goal.returns-in-Does-clause-outcome
returns-in-Does-clause-outcome g c =
    let front = c.args.layers.front.now in
    let call = shown_call c.args.call.now in
    subst (λ (r : CallServed). IsOutcomeOf call r.0)
    (served_done 0 c.args.count front c.args.layers.core.now c.carry_out.new.core call (shown_deed c.in-Does.deed) c.in_ok-effects-in-Does.effects (c.in_ok-plan.ensures ∙ ap (shown_plan (host_of call) front) c.in-Does.is) (c.in_ok-effects-in-Does.ensures.done 0))
    (outcome_of 0 c.args.count front c.args.layers.core.now call)

pub returns-in-Does-clause-keeper : goal.returns-in-Does-clause-keeper
returns-in-Does-clause-keeper g c = hands_quiet g.K.Keeper.held g.K.Keeper.given g.K.Keeper.faults g.K.Keeper.left c.args.layers.core.now c.carry_out.new.core c.args.keeper.now c.in_ok-effects-in-Does.ensures.quiet

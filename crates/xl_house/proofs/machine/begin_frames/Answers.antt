use Rattle.std.proofs.Common.{ap, sym, subst, ◌∙◌}
use Rattle.xl_base.specs.Limits.{most_numbers}
use Rattle.xl_core.proofs.StoreLaws.{may_be_made}
use Rattle.xl_core.specs.State.{CoreState, MayBe}
use Rattle.xl_front_nlm.specs.Short.{IsReady, Leaves}
use Rattle.xl_plan.proofs.BudgetLaws.{leaves_then, may_before}
use Rattle.xl_house.specs.Machine.{frame_in, paused_after}
use Rattle.xl_house.specs.Sifting.{brings_frame}
use Rattle.xl_house.specs.State.{as_found}
use Rattle.xl_house.specs.Whole.{whole_of}
use Rattle.xl_house.specs.declared.machine.Machine.{Machine}
use Rattle.xl_house.proofs.HearLaws.{ok_with, on_ok, settle_ready}
use Rattle.xl_house.proofs.RunLaws.{brought_owed, heard_begun, heard_owed}
use Rattle.xl_house.proofs.machine.begin_frames.Goals as goal

pub returns-then-brings_frame-clause-owed : goal.returns-then-brings_frame-clause-owed
returns-then-brings_frame-clause-owed g c =
    brought_owed _ _ c.args.machine.now.paused c.args.event.now c.in_ok-open_frame.field-0 (ap (λ (m : Machine). m.layers.core) c.take_paused-paused.ensures.rest ∙ c.begin_step.ensures.state)
    (c.in_ok-open_frame.ensures ∙ ap (λ ps. frame_in ps c.args.event.now) c.take_paused-paused.ensures.taken)

pub settle_frames-requires : goal.settle_frames-requires
settle_frames-requires g c =
    record { ready = subst (λ (t : CoreState). IsReady 0 t) (sym (ap (λ (m : Machine). m.layers.core) c.take_paused.ensures.rest)) (settle_ready _ _ c.requires.ready c.in_ok-heard.ensures.leaves) }

pub returns-clause-begun : goal.returns-clause-begun
returns-clause-begun g c = λ n. ok_with c.settle_frames.result _ _ _
    (λ leaves last is may.
    let core = ap (λ (m : Machine). m.layers.core) c.take_paused.ensures.rest in
    heard_begun n (as_found (whole_of c.args.exports.now c.args.machine.now)) c.args.event.now c.end_paused-paused.result c.in_ok-heard.heard c.in_ok-going.going last c.hear_event.new.machine.layers.front c.take_paused.new.machine.layers.front _ c.hear_event.new.machine.layers.core c.take_paused.new.machine.layers.core _
    (ap (λ cs. brings_frame cs c.args.event.now) (sym c.deref.ensures.value) ∙ sym c.brings_frame.ensures ∙ c.if-brings_frame.false)
    (c.in_ok-heard.ensures.heard n (subst (λ (t : CoreState). MayBe n t) core (may_before n 0 _ _ leaves may)))
    (ap (λ (m : Machine). m.layers.front) c.take_paused.ensures.rest) core
    (c.end_paused-paused.ensures ∙ ap (λ ps. paused_after ps c.args.event.now) (c.take_paused.ensures.taken ∙ c.hear_event.ensures.paused))
    c.in_ok-going.ensures (is may))
    c.settle_frames.ensures.leaves (c.settle_frames.ensures.state n)

pub returns-clause-leaves : goal.returns-clause-leaves
returns-clause-leaves g c = on_ok c.settle_frames.result _ _
    (λ leaves. leaves_then _ _ _ most_numbers 0 c.in_ok-heard.ensures.leaves (subst (λ (t : CoreState). Leaves 0 t c.settle_frames.new.layers.core) (ap (λ (m : Machine). m.layers.core) c.take_paused.ensures.rest) leaves))
    c.settle_frames.ensures.leaves

pub returns-clause-owed : goal.returns-clause-owed
returns-clause-owed g c = ok_with c.settle_frames.result _ _ _
    (λ leaves last is. heard_owed c.settle_frames.new.layers.core.made c.args.exports.now c.args.machine.now.layers.core c.hear_event.new.machine.layers.core c.take_paused.new.machine.layers.core c.settle_frames.new.layers.core c.args.machine.now.paused c.end_paused-paused.result c.args.event.now c.in_ok-heard.heard c.in_ok-going.going last _ _
    c.in_ok-heard.ensures.leaves (ap (λ (m : Machine). m.layers.core) c.take_paused.ensures.rest) leaves
    (c.end_paused-paused.ensures ∙ ap (λ ps. paused_after ps c.args.event.now) (c.take_paused.ensures.taken ∙ c.hear_event.ensures.paused))
    c.in_ok-going.ensures (is (may_be_made c.settle_frames.new.layers.core)))
    c.settle_frames.ensures.leaves (c.settle_frames.ensures.state c.settle_frames.new.layers.core.made)

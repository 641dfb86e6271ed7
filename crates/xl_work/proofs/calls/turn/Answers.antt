use Rattle.std.proofs.Common.{ℕ, List, Option, sym, subst, ◌∙◌}
use Rattle.xl_base.specs.declared.event.Event.TheVariants.{Called}
use Rattle.xl_desk.specs.declared.view.View.{View}
use Rattle.xl_desk.specs.Passes.{IsCalled}
use Rattle.xl_work.specs.Calls.{IsGoing}
use Rattle.xl_work.proofs.CallLaws.{going_looked, going_idle, going_called, going_done, going_left, goes_self, none_made, refused_none, tells_call}
use Rattle.xl_work.proofs.calls.turn.Goals as goal

pub returns-in_default-clause-made : goal.returns-in_default-clause-made
returns-in_default-clause-made g c told before going = going_done c.args.post told before _ _ _ _ (going_looked c.args.post told before _ _ _ _ _ going c.next_call.ensures.looked)

pub returns-in_default-call-clause-going : goal.returns-in_default-call-clause-going
returns-in_default-call-clause-going g c told before going =
    subst (λ (z : View _). IsGoing c.args.post told before (g.C.Caller.told c.idle.new.self) z c.in-Ok.found.end c.args.calling.now.last) (sym c.in_default-check.ensures.same)
    (going_idle c.args.post told before _ _ _ _ _ _ (going_looked c.args.post told before _ _ _ _ _ going c.next_call.ensures.looked) (sym c.in-Ok.ensures.found.call ∙ c.in_default-call.is) c.in-Ok.ensures.found.end c.idle.ensures.told)

pub returns-in_default-answered-clause-made : goal.returns-in_default-answered-clause-made
returns-in_default-answered-clause-made g c told before going =
    going_left c.args.post told before _ _ _ _ _ _ c.in-Some.call _ (going_looked c.args.post told before _ _ _ _ _ going c.next_call.ensures.looked) (sym c.in-Ok.ensures.found.call ∙ c.in-Some.is) (tells_call _ _ c.in-Some.call _ _ _ c.as_slice.ensures c.as_slice-2.ensures c.call-outcome.ensures.told) (goes_self _) (none_made _)

pub returns-in-Ok-call-clause-going : goal.returns-in-Ok-call-clause-going
returns-in-Ok-call-clause-going g c told before going =
    subst (λ (n : ℕ). IsGoing c.args.post told before (g.C.Caller.told c.call-outcome.new.self) c.call.new.pass.view c.args.calling.now.from n) (sym c.number_of-number.ensures)
    (going_called c.args.post told before _ _ _ _ _ _ c.in-Ok-call.field-0.place c.in-Some.call _ (going_looked c.args.post told before _ _ _ _ _ going c.next_call.ensures.looked) (sym c.in-Ok.ensures.found.call ∙ c.in-Some.is) (tells_call _ _ c.in-Some.call _ _ _ c.as_slice.ensures c.as_slice-2.ensures c.call-outcome.ensures.told)
    (subst (λ (z : ℕ × Option (List ℕ)). IsCalled c.next_call.new.pass.view c.call.new.pass.view c.in-Ok-call.field-0.place (Called z.0 z.1)) (λ i. (c.number_of-number.ensures i, c.in-Some-answered.ensures i)) c.in-Ok-call.ensures.called))

pub returns-in-Err-clause-made : goal.returns-in-Err-clause-made
returns-in-Err-clause-made g c told before going =
    let none_more = refused_none _ _ _ _ c.in-Err.ensures.refused in
    going_done c.args.post told before _ _ _ _ (going_looked c.args.post told before _ _ _ _ _ (going_looked c.args.post told before _ _ _ _ _ going c.next_call.ensures.looked) record { goes = none_more.0; none = none_more.1 })

pub returns-clause-made : goal.returns-clause-made
returns-clause-made g c told before going =
    let none_more = refused_none _ _ _ _ c.in-Err-call.ensures.refused in
    going_left c.args.post told before _ _ _ _ _ _ c.in-Some.call _ (going_looked c.args.post told before _ _ _ _ _ going c.next_call.ensures.looked) (sym c.in-Ok.ensures.found.call ∙ c.in-Some.is) (tells_call _ _ c.in-Some.call _ _ _ c.as_slice.ensures c.as_slice-2.ensures c.call-outcome.ensures.told) none_more.0 none_more.1

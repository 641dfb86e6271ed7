use Rattle.std.proofs.Common.{◌≡◌, List, true, false, sym, subst, ◌∙◌}
use Rattle.xl_core.specs.Unsettled.{may_change, Notes}
use Rattle.xl_core.specs.Whole.{state_of}
use Rattle.xl_core.specs.declared.ask.Effect.{Effect}
use Rattle.xl_core.specs.declared.unsettled.Unsettled.{Unsettled}
use Rattle.xl_core.proofs.UnsettledLaws.{asked_noted}
use Rattle.xl_core.proofs.HeldUpLaws.{ask_up}
use Rattle.xl_core.proofs.calls.answer.Goals as goal

pub returns-clause-held_up : goal.returns-clause-held_up
returns-clause-held_up g c =
    let request = c.args.request.now in
    let answer = c.in_ok-answer.answer in
    let told : List Effect = c.in_ok-answer.told in
    let before = c.args.unsettled.now in
    let after = c.note_asked.new.unsettled in
    asked_noted before after request answer told (state_of c.answer.new.parts)
    (ask_up before c.args.left.now (state_of c.args.parts.now) (state_of c.answer.new.parts) request answer told c.in_ok-answer.ensures.answer c.requires.good c.requires.fit c.requires.held_up)
    (λ e. subst (λ (u : Unsettled). Notes u after request.file c.answer.new.parts.queue) c.replace-before.ensures.value (c.note_asked.ensures.changed (subst (λ (xs : List Effect). may_change request answer xs ≡ true) (sym c.as_slice.ensures) e)))
    (λ e. c.note_asked.ensures.same (subst (λ (xs : List Effect). may_change request answer xs ≡ false) (sym c.as_slice.ensures) e) ∙ c.replace-before.ensures.value)

use Rattle.std.proofs.Common.{sym, ◌∙◌, Some}
use Rattle.std.proofs.lemmas.Result.{IfOk-weaker}
use Rattle.xl_front_nlm.proofs.AnswerLaws.{called_given_up}
use Rattle.xl_front_nlm.proofs.answers.nlm_called.Goals as goal

pub returns-clause-state : goal.returns-clause-state
returns-clause-state g c = λ n. IfOk-weaker c.give_up.result _ _
    (λ effects is may. called_given_up n c.args.layers.front.now c.take.new.self c.args.layers.core.now c.give_up.new.core c.args.number _ c.in-Some.call c.refuses-refused.result (Some c.in-Some-2.grant) effects
    c.refuses-refused.ensures c.in-Some.ensures.call c.in-Some.ensures.taken (sym c.in-Some-2.is ∙ c.in_ok-grant.ensures.value) (is may))
    (c.give_up.ensures.done n c.take.new.self.hosts c.rooms.ensures)

use Rattle.std.proofs.Common.{ap, ◌∙◌}
use Rattle.std.proofs.lemmas.Result.{IfOk-weaker}
use Rattle.xl_house.specs.Sifting.{brings_frame}
use Rattle.xl_house.specs.State.{as_found}
use Rattle.xl_house.specs.Whole.{whole_of}
use Rattle.xl_house.proofs.RunLaws.{gone_plainly, is_plain_so}
use Rattle.xl_house.proofs.machine.hear_all.Goals as goal

pub returns-then-not-brings_frame-clause-gone : goal.returns-then-not-brings_frame-clause-gone
returns-then-not-brings_frame-clause-gone g c = λ n. IfOk-weaker c.hear_plain.result _ _
    (λ last is may.
    gone_plainly n (as_found (whole_of c.args.exports.now c.args.machine.now)) c.args.event.now
    (is_plain_so (as_found (whole_of c.args.exports.now c.args.machine.now)) c.args.event.now c.is_empty.result c.brings_frame.result c.is_empty.ensures (c.brings_frame.ensures ∙ ap (λ cs. brings_frame cs c.args.event.now) c.deref.ensures.value) c.if-is_empty.true c.if-not-brings_frame.true)
    ∙ is may)
    (c.hear_plain.ensures.gone n)

use Rattle.std.proofs.lemmas.Result.{IfOk-weaker}
use Rattle.xl_house.proofs.HearLaws.{asked_is_heard}
use Rattle.xl_programs.specs.Programs.{shown_request}
use Rattle.xl_programs.specs.declared.program.Program.TheVariants.{Nlm, Nfs}
use Rattle.xl_house.proofs.machine.hear_record.Goals as goal

pub returns-in-Nlm-clause-heard : goal.returns-in-Nlm-clause-heard
returns-in-Nlm-clause-heard g c = λ n. IfOk-weaker c.hear_nlm.result _ _
    (λ outs is may. asked_is_heard n c.args.exports.now c.args.layers.now.front c.args.layers.now.core c.args.number (shown_request c.in-Asked.request) Nlm _ (outs, c.hear_nlm.new.layers.front, c.hear_nlm.new.layers.core) c.in-Asked.ensures.value (c.in-Nlm.is) (is may))
    (c.hear_nlm.ensures.heard n)

pub returns-in-Nfs-clause-heard : goal.returns-in-Nfs-clause-heard
returns-in-Nfs-clause-heard g c = λ n. IfOk-weaker c.hear_nfs.result _ _
    (λ outs is may. asked_is_heard n c.args.exports.now c.args.layers.now.front c.args.layers.now.core c.args.number (shown_request c.in-Asked.request) Nfs _ (outs, c.hear_nfs.new.layers.front, c.hear_nfs.new.layers.core) c.in-Asked.ensures.value (c.in-Nfs.is) (is may))
    (c.hear_nfs.ensures.heard n)

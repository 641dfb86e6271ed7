use Rattle.xl_replay.proofs.EnterLaws.{has_entered, still_alone}
use Rattle.std.proofs.Common.{sym, subst}
use Rattle.xl_replay.specs.Enter.{HasEntered}
use Rattle.xl_replay.proofs.step.call_one.Goals as goal

pub returns-clause-alone : goal.returns-clause-alone
returns-clause-alone g c =
    (still_alone c.args.pass.now.view c.call-called.new.pass.view c.see.new.pass.view c.args.event c.call-called.result c.call-called.ensures.called c.call-called.ensures.refused c.see.ensures.looked c.requires.alone c.see.ensures.whole).0

pub returns-clause-origin : goal.returns-clause-origin
returns-clause-origin g c =
    (still_alone c.args.pass.now.view c.call-called.new.pass.view c.see.new.pass.view c.args.event c.call-called.result c.call-called.ensures.called c.call-called.ensures.refused c.see.ensures.looked c.requires.alone c.see.ensures.whole).1

pub returns-clause-entered : goal.returns-clause-entered
returns-clause-entered g c =
    let alone = (still_alone c.args.pass.now.view c.call-called.new.pass.view c.see.new.pass.view c.args.event c.call-called.result c.call-called.ensures.called c.call-called.ensures.refused c.see.ensures.looked c.requires.alone c.see.ensures.whole).0 in
    subst (λ r. HasEntered c.args.pass.now.view c.see.new.pass.view c.args.event r) (sym c.entered_as.ensures)
    (has_entered c.args.pass.now.view c.call-called.new.pass.view c.see.new.pass.view c.args.event c.call-called.result c.call-called.ensures.called c.call-called.ensures.refused c.see.ensures.looked c.requires.alone alone.whole)

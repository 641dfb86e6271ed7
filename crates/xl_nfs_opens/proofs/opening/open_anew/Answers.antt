use Rattle.std.proofs.Common.{◌∙◌}
use Rattle.xl_nfs.specs.Opens.{shown_open_args}
use Rattle.std.specs.Prelude.{Some}
use Rattle.xl_nfs_opens.proofs.BehindLaws.{anew_done}
use Rattle.xl_nfs_opens.proofs.opening.open_anew.Goals as goal

pub returns-clause-done : goal.returns-clause-done
returns-clause-done g c = λ n may.
    anew_done n c.args.opening.now.exported.files.now c.args.opening.now.exported.others c.args.core.now c.give_all.new.core c.args.state.now c.forget_owner.new.self (Some c.args.opening.now.at) c.args.opening.now.at c.args.opening.now.opener.now (shown_open_args c.args.opening.now.args.now) c.args.number c.as_slice.result.now _
    (c.as_slice.ensures.value ∙ c.in-Ok.ensures) (c.in_ok-give_all.ensures.done n) (c.in_ok-give_all.ensures.told n) c.forget_owner.ensures (c.in_ok-done.ensures.done n may)

pub returns-clause-keeper : goal.returns-clause-keeper
returns-clause-keeper g c = λ before told. c.in_ok-done.ensures.keeper before (c.in_ok-give_all.ensures.quiet before _ told)

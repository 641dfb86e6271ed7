use Rattle.std.proofs.Common.{◌∙◌, Some, sym}
use Rattle.xl_nfs.specs.Opens.{shown_open_args}
use Rattle.xl_nfs_opens.proofs.BehindLaws.{room_done}
use Rattle.xl_plan.proofs.BudgetLaws.{may_before}
use Rattle.xl_nfs_opens.proofs.LeaveLaws.{asked_leaves}
use Rattle.xl_nfs_opens.proofs.opening.open_on.Goals as goal

pub returns-clause-done : goal.returns-clause-done
returns-clause-done g c = λ n may.
    room_done n c.args.opening.now.exported.others c.args.core.now c.asked.new.core c.answer.new.core c.args.state.now c.answer.new.state (Some c.args.opening.now.at) c.in_ok-told.handle c.args.opening.now.opener.now (shown_open_args c.args.opening.now.args.now) c.args.confirmed c.args.file c.in_ok-wish.wish c.in_ok-request.request c.in_ok-said.said c.in_ok-told.told c.in_ok-said.effects
    (sym c.has_room.ensures ∙ c.if-not-has_room.false) c.in_ok-wish.ensures c.in_ok-request.ensures.value (c.in_ok-said.ensures.state n (may_before n 2 c.asked.new.core c.answer.new.core c.in_ok-told.ensures.leaves may)) (c.in_ok-told.ensures.done n)

pub returns-clause-leaves : goal.returns-clause-leaves
returns-clause-leaves g c = asked_leaves c.args.core.now c.asked.new.core c.answer.new.core c.in_ok-said.ensures.leaves c.in_ok-told.ensures.leaves

pub returns-clause-keeper : goal.returns-clause-keeper
returns-clause-keeper g c = λ before told. c.in_ok-told.ensures.quiet before _ (c.in_ok-said.ensures.keeper before told)

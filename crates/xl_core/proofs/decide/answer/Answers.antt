use Rattle.xl_core.specs.Whole.{state_of}
use Rattle.xl_core.proofs.WayCode.{way_leaves_good}
use Rattle.xl_core.proofs.AskCode.{parts_stores, hands_between}
use Rattle.xl_core.proofs.decide.answer.Goals as goal

pub decided-requires-clause-good : goal.decided-requires-clause-good
decided-requires-clause-good g c = way_leaves_good c.args.left.now (state_of c.args.parts.now) (state_of c.make_way_for.new.parts) c.args.request.now c.in_ok-told.told c.requires.good c.in_ok-told.ensures.way

pub returns-clause-keeper : goal.returns-clause-keeper
returns-clause-keeper g c =
    hands_between (state_of c.args.parts.now) (state_of c.make_way_for.new.parts) (state_of c.decided.new.parts) (state_of c.wish_after.new.parts) _ _
    (parts_stores c.args.parts.now c.make_way_for.new.parts c.make_way_for.ensures.stable c.make_way_for.ensures.failed c.make_way_for.ensures.given)
    c.in_ok-answer.ensures.on c.in_ok-answer.ensures.keeper
    (parts_stores c.decided.new.parts c.wish_after.new.parts c.wish_after.ensures.stable c.wish_after.ensures.failed c.wish_after.ensures.given)

use Rattle.xl_house.proofs.SiftingLaws.{last_is}
use Rattle.xl_house.proofs.frames.take_last.Goals as goal

pub returns : goal.returns
returns c = last_is c.args.outs _ _ _ _ _ c.pop-last.result c.from_vec.ensures c.into_vec-outs.ensures c.pop-last.ensures.items c.pop-last.ensures.rest c.pop-last.ensures.cases

use Rattle.xl_house.proofs.PartedLaws.{skipped_is}
use Rattle.xl_house.proofs.compounds.machines_that_skip_parts_are_refused.Goals as goal

pub returns : goal.returns
returns c = record { skipped = λ n conn bytes s t p outs brings few is speaks does none by. skipped_is n conn bytes s t p outs brings few is speaks does none by }

use Rattle.std.proofs.Common.{rules}
use Rattle.std.proofs.lemmas.Fn.{filter_same}
use Rattle.xl_house.specs.State.{without}
use Rattle.xl_house.proofs.connections.end.Goals as goal

pub returns : goal.returns
unfolding without
returns c = filter_same _ _ _ (λ x b f' k. search rules) _ _ c.retain.ensures.filtered

use Rattle.std.proofs.Common.{rules}
use Rattle.std.proofs.lemmas.Fn.{filter_same}
use Rattle.xl_front_nlm.proofs.CallLaws.{calls_left}
use Rattle.xl_front_nlm.specs.State.{without}
use Rattle.xl_front_nlm.proofs.front.drop_call.Goals as goal

pub returns-clause-rest : goal.returns-clause-rest
unfolding without
returns-clause-rest c = filter_same _ _ _ (λ x b f' k. search rules) _ _ c.retain.ensures.filtered

pub returns-clause-sound : goal.returns-clause-sound
returns-clause-sound c = calls_left _ _ _ (returns-clause-rest c) c.requires.sound

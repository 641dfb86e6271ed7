use Rattle.xl_cache.proofs.LevelLaws.{kind_of_state-state_of, state_of-kind_of_state}
use Rattle.xl_cache.proofs.law.lease_kinds_have_states.Goals as goal

pub returns-clause-read : goal.returns-clause-read
returns-clause-read c = λ kind other. kind_of_state-state_of kind other

pub returns-clause-shown : goal.returns-clause-shown
returns-clause-shown c = λ state kind is. state_of-kind_of_state state kind is

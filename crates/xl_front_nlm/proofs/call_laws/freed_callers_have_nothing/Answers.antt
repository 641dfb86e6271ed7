use Rattle.xl_front_nlm.proofs.LeftLaws.{freed_have_nothing, unknown_have_nothing}
use Rattle.xl_front_nlm.proofs.call_laws.freed_callers_have_nothing.Goals as goal

pub returns-clause-freed : goal.returns-clause-freed
returns-clause-freed c = freed_have_nothing

pub returns-clause-unknown : goal.returns-clause-unknown
returns-clause-unknown c = unknown_have_nothing

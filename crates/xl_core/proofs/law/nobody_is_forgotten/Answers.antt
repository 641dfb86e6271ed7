use Rattle.xl_core.proofs.WayAsks.{ask_waits}
use Rattle.xl_core.proofs.SettleLaws.{first_blocked, settle_rests, settled_is, turn_is, turn_fewer}
use Rattle.xl_core.proofs.law.nobody_is_forgotten.Goals as goal

pub returns-clause-waits : goal.returns-clause-waits
returns-clause-waits c = λ n left s a number good fit at. ask_waits n left s a number good fit.party at

pub returns-clause-settled : goal.returns-clause-settled
returns-clause-settled c = settle_rests

pub returns-clause-first : goal.returns-clause-first
returns-clause-first c = first_blocked

pub returns-clause-blocked : goal.returns-clause-blocked
returns-clause-blocked c = settled_is

pub returns-clause-turns : goal.returns-clause-turns
returns-clause-turns c = turn_is

pub returns-clause-fewer : goal.returns-clause-fewer
returns-clause-fewer c = turn_fewer

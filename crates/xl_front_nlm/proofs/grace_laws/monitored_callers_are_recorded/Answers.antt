use Rattle.xl_front_nlm.proofs.StoreStatuses.{call_failed, call_gains, call_known, call_reclaims, call_recorded, call_unmonitored}
use Rattle.xl_front_nlm.proofs.grace_laws.monitored_callers_are_recorded.Goals as goal

pub returns-clause-failed : goal.returns-clause-failed
returns-clause-failed c = call_failed

pub returns-clause-recorded : goal.returns-clause-recorded
returns-clause-recorded c = call_recorded

pub returns-clause-known : goal.returns-clause-known
returns-clause-known c = call_known

pub returns-clause-gains : goal.returns-clause-gains
returns-clause-gains c = call_gains

pub returns-clause-unmonitored : goal.returns-clause-unmonitored
returns-clause-unmonitored c = call_unmonitored

pub returns-clause-reclaims : goal.returns-clause-reclaims
returns-clause-reclaims c = call_reclaims

use Rattle.xl_house.proofs.RecoveringLaws.{unrecorded_let_in, mark_missed_in, reclaim_stores_in, mark_dropped_in}
use Rattle.xl_house.proofs.law.machines_that_recover_wrongly_are_refused.Goals as goal

pub returns-clause-unrecorded : goal.returns-clause-unrecorded
returns-clause-unrecorded c = unrecorded_let_in

pub returns-clause-mark_missed : goal.returns-clause-mark_missed
returns-clause-mark_missed c = mark_missed_in

pub returns-clause-reclaim_stores : goal.returns-clause-reclaim_stores
returns-clause-reclaim_stores c = reclaim_stores_in

pub returns-clause-mark_dropped : goal.returns-clause-mark_dropped
returns-clause-mark_dropped c = mark_dropped_in

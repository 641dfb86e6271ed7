use Rattle.xl_house.proofs.HollowLaws.{lease_runs_on_in, nothing_kept_in, last_unmade_in, open_shareless_in, open_unmade_in, request_forgotten_in, record_changed_in, let_in_in}
use Rattle.xl_house.proofs.law.hollow_machines_are_refused.Goals as goal

pub returns-clause-kept : goal.returns-clause-kept
returns-clause-kept c = nothing_kept_in

pub returns-clause-forgotten : goal.returns-clause-forgotten
returns-clause-forgotten c = request_forgotten_in

pub returns-clause-unmade : goal.returns-clause-unmade
returns-clause-unmade c = open_unmade_in

pub returns-clause-last_unmade : goal.returns-clause-last_unmade
returns-clause-last_unmade c = last_unmade_in

pub returns-clause-recorded : goal.returns-clause-recorded
returns-clause-recorded c = record_changed_in

pub returns-clause-let_in : goal.returns-clause-let_in
returns-clause-let_in c = let_in_in

pub returns-clause-ended : goal.returns-clause-ended
returns-clause-ended c = lease_runs_on_in

pub returns-clause-shareless : goal.returns-clause-shareless
returns-clause-shareless c = open_shareless_in

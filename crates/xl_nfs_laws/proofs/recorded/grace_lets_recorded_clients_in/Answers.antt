use Rattle.xl_nfs_laws.proofs.RecordedClientLaws.{first_let_in, known_let_in, open_let_in}
use Rattle.xl_nfs_laws.proofs.recorded.grace_lets_recorded_clients_in.Goals as goal

pub returns-clause-opens : goal.returns-clause-opens
returns-clause-opens c = open_let_in

pub returns-clause-known : goal.returns-clause-known
returns-clause-known c = known_let_in

pub returns-clause-first : goal.returns-clause-first
returns-clause-first c = first_let_in

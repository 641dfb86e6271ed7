use Rattle.xl_front_smb.proofs.GoneLaws.{end_without, end_opens, end_sessions, end_trees, end_connections}
use Rattle.xl_smb_laws.proofs.KeptWaiterLaws.{end_left, end_leased, end_others}
use Rattle.xl_smb_laws.proofs.requests.an_ended_connection_leaves_nothing.Goals as goal

pub returns-clause-core : goal.returns-clause-core
returns-clause-core c = λ f s conn. end_without f s conn

pub returns-clause-opens : goal.returns-clause-opens
returns-clause-opens c = λ f s conn distinct. end_opens f s conn distinct

pub returns-clause-sessions : goal.returns-clause-sessions
returns-clause-sessions c = λ f s conn distinct. end_sessions f s conn distinct

pub returns-clause-trees : goal.returns-clause-trees
returns-clause-trees c = λ f s conn sound distinct. end_trees f s conn sound distinct

pub returns-clause-connections : goal.returns-clause-connections
returns-clause-connections c = λ f s conn distinct. end_connections f s conn distinct

pub returns-clause-waiting : goal.returns-clause-waiting
returns-clause-waiting c = end_left

pub returns-clause-requests : goal.returns-clause-requests
returns-clause-requests c = end_others

pub returns-clause-leases : goal.returns-clause-leases
returns-clause-leases c = end_leased

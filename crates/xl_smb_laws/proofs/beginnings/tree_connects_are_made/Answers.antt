use Rattle.xl_smb_laws.proofs.BeginningLaws.{connect_elsewhere, connect_full, connect_lost, connects}
use Rattle.xl_smb_laws.proofs.beginnings.tree_connects_are_made.Goals as goal

pub returns-clause-begins : goal.returns-clause-begins
returns-clause-begins c = connects

pub returns-clause-full : goal.returns-clause-full
returns-clause-full c = connect_full

pub returns-clause-elsewhere : goal.returns-clause-elsewhere
returns-clause-elsewhere c = connect_elsewhere

pub returns-clause-lost : goal.returns-clause-lost
returns-clause-lost c = connect_lost

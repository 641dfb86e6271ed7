use Rattle.xl_smb_laws.proofs.GivenNumberLaws.{begun_numbered, end_numbered, later_numbered, named_there, no_open, no_session, no_tree, open_room, session_room, shown_numbered, start_numbered, step_numbered, tree_room}
use Rattle.xl_smb_laws.proofs.beginnings.numbers_are_given_once.Goals as goal

pub returns-clause-start : goal.returns-clause-start
returns-clause-start c = start_numbered

pub returns-clause-begins : goal.returns-clause-begins
returns-clause-begins c = begun_numbered

pub returns-clause-messages : goal.returns-clause-messages
returns-clause-messages c = step_numbered

pub returns-clause-shown : goal.returns-clause-shown
returns-clause-shown c = shown_numbered

pub returns-clause-ends : goal.returns-clause-ends
returns-clause-ends c = end_numbered

pub returns-clause-later : goal.returns-clause-later
returns-clause-later c = later_numbered

pub returns-clause-unused : goal.returns-clause-unused
returns-clause-unused c = λ s l numbered. (no_session s l numbered, no_tree s l numbered, no_open s l numbered)

pub returns-clause-sessions : goal.returns-clause-sessions
returns-clause-sessions c = session_room

pub returns-clause-trees : goal.returns-clause-trees
returns-clause-trees c = tree_room

pub returns-clause-opens : goal.returns-clause-opens
returns-clause-opens c = open_room

pub returns-clause-named : goal.returns-clause-named
returns-clause-named c = named_there

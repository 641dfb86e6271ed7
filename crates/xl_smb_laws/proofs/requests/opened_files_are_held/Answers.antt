use Rattle.xl_smb_laws.proofs.CreateLaws.{open_numbered, open_cache, open_stands, open_leased, open_shares, refused_keeps}
use Rattle.xl_smb_laws.proofs.requests.opened_files_are_held.Goals as goal

pub returns-clause-number : goal.returns-clause-number
returns-clause-number c = λ n s files others l conn h client call session file id cache place named at e. open_numbered n s files others l conn h client call session file id cache place named at e

pub returns-clause-cache : goal.returns-clause-cache
returns-clause-cache c = λ n s files others l conn h client call session file id cache place named at e. open_cache n s files others l conn h client call session file id cache place named at e

pub returns-clause-row : goal.returns-clause-row
returns-clause-row c = λ n s files others l conn h client call session file id cache place named at e. open_stands n s files others l conn h client call session file id cache place named at e

pub returns-clause-leased : goal.returns-clause-leased
returns-clause-leased c = λ n s files others l conn h client call session file id cache place named at e. open_leased n s files others l conn h client call session file id cache place named at e

pub returns-clause-share : goal.returns-clause-share
returns-clause-share c = λ n s files others l conn h client call session file id cache place named at e good. open_shares n s files others l conn h client call session file id cache place named at e good

pub returns-clause-refused : goal.returns-clause-refused
returns-clause-refused c = λ n s files others l conn h call status good e. refused_keeps n s files others l conn h call status good e

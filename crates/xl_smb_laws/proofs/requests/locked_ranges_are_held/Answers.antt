use Rattle.xl_smb_laws.proofs.RangeLaws.{locked_holds, locks_wait}
use Rattle.xl_smb_laws.proofs.requests.locked_ranges_are_held.Goals as goal

pub returns-clause-held : goal.returns-clause-held
returns-clause-held c = λ n s files others l conn h client call session place number row of first good. (locked_holds n s files others l conn h client call session place number row of first good).0

pub returns-clause-refused : goal.returns-clause-refused
returns-clause-refused c = λ n s files others l conn h client call session place number row of first good. (locked_holds n s files others l conn h client call session place number row of first good).1

pub returns-clause-waits : goal.returns-clause-waits
returns-clause-waits c = λ n s files others l conn h client call session place number row of first good id e. locks_wait n s files others l conn h client call session place number row of first good id e

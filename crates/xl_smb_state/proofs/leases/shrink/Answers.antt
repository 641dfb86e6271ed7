use Rattle.std.proofs.Common.{false, refl}
use Rattle.xl_smb_state.proofs.LeaseLaws.{shrunk_there, unchanged_there}
use Rattle.xl_smb_state.proofs.leases.shrink.Goals as goal

pub returns-in-Some-clause-found : goal.returns-in-Some-clause-found
returns-in-Some-clause-found c = shrunk_there c.args.key.now c.args.number c.in-Some.lease c.blank.result c.args.leases.now c.change.new.self c.put_back.new.leases c.put_back.result c.in-Some.ensures.row c.change.ensures.rest c.put_back.ensures.rows c.put_back.ensures.emptied

pub returns-in-None-clause-none : goal.returns-in-None-clause-none
returns-in-None-clause-none c = unchanged_there c.args.key.now c.blank.result c.args.leases.now c.change.new.self false c.in-None.ensures.row c.change.ensures.rest refl

use Rattle.std.specs.Result.{is_ok}
use Rattle.xl_smb_state.proofs.LeaseLaws.{grown_there, ungrown_there}
use Rattle.xl_smb_state.proofs.leases.grow.Goals as goal

pub returns-in-Some-clause-found : goal.returns-in-Some-clause-found
returns-in-Some-clause-found c = grown_there c.args.key.now c.args.number c.in-Some.lease c.blank.result c.args.leases.now c.change.new.self c.put_grown.new.leases (is_ok c.put_grown.result) c.in-Some.ensures.row c.change.ensures.rest c.put_grown.ensures

pub returns-in-None-clause-none : goal.returns-in-None-clause-none
returns-in-None-clause-none c = ungrown_there c.args.key.now c.blank.result c.args.leases.now c.change.new.self c.in-None.ensures.row c.change.ensures.rest

use Rattle.xl_smb_state.proofs.LeaseLaws.{grown_ok, grown_err}
use Rattle.xl_smb_state.proofs.leases.join.Goals as goal

pub returns-clause-ok : goal.returns-clause-ok
returns-clause-ok c = grown_ok c.args.key.now c.args.number c.args.leases.now c.grow.new.leases c.grow.result c.grow.ensures.found c.grow.ensures.none

pub returns-clause-err : goal.returns-clause-err
returns-clause-err c = grown_err c.args.key.now c.args.number c.args.leases.now c.grow.new.leases c.grow.result c.grow.ensures.found c.grow.ensures.none

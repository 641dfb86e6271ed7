use Rattle.std.proofs.Common.{ap, ◌∙◌}
use Rattle.xl_smb_state.specs.State.{Lists, is_listed}
use Rattle.xl_smb_state.specs.contracts.state.SmbState.{the_view}
use Rattle.xl_smb_state.proofs.LeaseLaws.{unlisted}
use Rattle.xl_smb_state.proofs.LinkLaws.{lease_left_sound}
use Rattle.xl_smb_state.proofs.state.SmbState.leave_lease.Goals as goal

pub invariant_of-self : goal.invariant_of-self
invariant_of-self c = rw c.leave_any.ensures (lease_left_sound c.args.number (the_view c.self.inside) c.self.invariant)

pub returns-clause-unlisted : goal.returns-clause-unlisted
returns-clause-unlisted c =
    let w : Lists = the_view c.self.inside in
    ap (λ es. is_listed c.args.number (record w { leases = es })) c.leave_any.ensures ∙ unlisted c.args.number w

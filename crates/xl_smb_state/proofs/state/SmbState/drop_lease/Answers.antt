use Rattle.xl_smb_state.specs.State.{Lists}
use Rattle.xl_smb_state.specs.contracts.state.SmbState.{the_view}
use Rattle.xl_smb_state.proofs.LinkLaws.{lease_dropped_sound}
use Rattle.xl_smb_state.proofs.state.SmbState.drop_lease.Goals as goal

pub invariant_of-self : goal.invariant_of-self
invariant_of-self c =
    let w : Lists = the_view c.self.inside in
    rw c.take.ensures.rest (lease_dropped_sound c.args.key.now w c.self.invariant)

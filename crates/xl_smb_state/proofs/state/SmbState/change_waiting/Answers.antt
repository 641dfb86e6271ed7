use Rattle.xl_smb_state.specs.State.{Lists}
use Rattle.xl_smb_state.specs.contracts.state.SmbState.{the_view}
use Rattle.xl_smb_state.proofs.LinkLaws.{waiting_changed_sound}
use Rattle.xl_smb_state.proofs.state.SmbState.change_waiting.Goals as goal

pub invariant_of-self : goal.invariant_of-self
invariant_of-self c =
    let w : Lists = the_view c.self.inside in
    rw c.change.ensures (waiting_changed_sound c.args.number c.args.row w c.self.invariant)

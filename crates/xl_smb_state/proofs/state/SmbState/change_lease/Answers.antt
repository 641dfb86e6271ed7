use Rattle.std.proofs.Common.{sym, subst}
use Rattle.xl_smb_state.specs.State.{Lists}
use Rattle.xl_smb_state.specs.Links.{IsLeaseLinked}
use Rattle.xl_smb_state.specs.contracts.state.SmbState.{the_view}
use Rattle.xl_smb_state.proofs.LinkLaws.{lease_changed_sound}
use Rattle.xl_smb_state.proofs.state.SmbState.change_lease.Goals as goal

pub invariant_of-self : goal.invariant_of-self
invariant_of-self c =
    let w : Lists = the_view c.self.inside in
    let fact0 = subst (λ (w : Lists). IsLeaseLinked w c.args.key.now c.args.row) (sym c.self.view_is) c.requires.link in
    rw c.change.ensures.rest (lease_changed_sound c.args.key.now c.args.row w fact0 c.self.invariant)

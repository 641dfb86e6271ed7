use Rattle.std.proofs.Common.{◌≡◌, None, sym, subst}
use Rattle.xl_smb_state.specs.State.{Lists, client_of}
use Rattle.xl_smb_state.specs.contracts.state.SmbState.{the_view}
use Rattle.xl_smb_state.proofs.LinkLaws.{connection_changed_sound}
use Rattle.xl_smb_state.proofs.state.SmbState.change_connection.Goals as goal

pub invariant_of-self : goal.invariant_of-self
invariant_of-self c =
    let w : Lists = the_view c.self.inside in
    let fact0 = subst (λ (w : Lists). client_of c.args.number w ≡ None) (sym c.self.view_is) c.requires.fresh in
    rw c.change.ensures (connection_changed_sound c.args.number c.args.row w fact0 c.self.invariant)

use Rattle.std.proofs.Common.{◌≡◌, [], sym, subst}
use Rattle.xl_smb_state.specs.State.{Lists, sessions_on}
use Rattle.xl_smb_state.specs.contracts.state.SmbState.{the_view}
use Rattle.xl_smb_state.proofs.LinkLaws.{connection_dropped_sound}
use Rattle.xl_smb_state.proofs.state.SmbState.drop_connection.Goals as goal

pub invariant_of-self : goal.invariant_of-self
invariant_of-self c =
    let w : Lists = the_view c.self.inside in
    let fact0 = subst (λ (w : Lists). sessions_on c.args.number w ≡ []) (sym c.self.view_is) c.requires.free in
    rw c.remove.ensures (connection_dropped_sound c.args.number w fact0 c.self.invariant)

use Rattle.std.proofs.Common.{◌≡◌, [], sym, subst}
use Rattle.xl_smb_state.specs.State.{Lists, trees_of}
use Rattle.xl_smb_state.specs.contracts.state.SmbState.{the_view}
use Rattle.xl_smb_state.proofs.LinkLaws.{session_dropped_sound}
use Rattle.xl_smb_state.proofs.state.SmbState.drop_session.Goals as goal

pub invariant_of-self : goal.invariant_of-self
invariant_of-self c =
    let w : Lists = the_view c.self.inside in
    let fact0 = subst (λ (w : Lists). trees_of c.args.number w ≡ []) (sym c.self.view_is) c.requires.free in
    rw c.remove.ensures (session_dropped_sound c.args.number w fact0 c.self.invariant)

use Rattle.std.proofs.Common.{◌≡◌, ◌<◌, [], length, sym, subst}
use Rattle.xl_smb_state.specs.State.{Lists, session_dropped, sessions_on, trees_of}
use Rattle.xl_smb_state.specs.Links.{IsSessionLinked, most_sessions}
use Rattle.xl_smb_state.specs.contracts.state.SmbState.{the_view}
use Rattle.xl_smb_state.proofs.LinkLaws.{session_changed_sound}
use Rattle.xl_smb_state.proofs.state.SmbState.change_session.Goals as goal

pub invariant_of-self : goal.invariant_of-self
invariant_of-self c =
    let w : Lists = the_view c.self.inside in
    let fact0 = subst (λ (w : Lists). trees_of c.args.number w ≡ []) (sym c.self.view_is) c.requires.free in
    let fact1 = subst (λ (w : Lists). IsSessionLinked w c.args.row) (sym c.self.view_is) c.requires.link in
    let fact2 = subst (λ (w : Lists). length (sessions_on c.args.row.connection (session_dropped c.args.number w)) < most_sessions) (sym c.self.view_is) c.requires.room in
    rw c.change.ensures (session_changed_sound c.args.number c.args.row w fact0 fact1 fact2 c.self.invariant)

use Rattle.std.proofs.Common.{sym, subst}
use Rattle.xl_smb_state.specs.State.{Lists, open_of}
use Rattle.xl_smb_state.specs.Links.{IsOpenLinked, KeepsLease}
use Rattle.xl_smb_state.specs.contracts.state.SmbState.{the_view}
use Rattle.xl_smb_state.proofs.LinkLaws.{open_changed_sound}
use Rattle.xl_smb_state.proofs.state.SmbState.change_open.Goals as goal

pub invariant_of-self : goal.invariant_of-self
invariant_of-self c =
    let w : Lists = the_view c.self.inside in
    let fact0 = subst (λ (w : Lists). KeepsLease (open_of c.args.number w) c.args.row) (sym c.self.view_is) c.requires.same in
    let fact1 = subst (λ (w : Lists). IsOpenLinked w c.args.row) (sym c.self.view_is) c.requires.link in
    rw c.change.ensures (open_changed_sound c.args.number c.args.row w fact0 fact1 c.self.invariant)

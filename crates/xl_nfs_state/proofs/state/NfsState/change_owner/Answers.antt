use Rattle.std.proofs.Common.{sym, subst}
use Rattle.xl_nfs_state.specs.State.{NfsLists, IsSound, is_owner, with_owners}
use Rattle.xl_nfs_state.proofs.SoundLaws.{owner_changed}
use Rattle.xl_nfs_state.proofs.state.NfsState.change_owner.Goals as goal

pub invariant_of-self : goal.invariant_of-self
invariant_of-self c =
    let old = c.self.inside in
    let l : NfsLists = record { clients = old.clients; owners = old.owners; stateids = old.stateids; kept = old.kept } in
    (subst (λ owners. IsSound (with_owners l owners)) (sym c.change.ensures) (owner_changed l (is_owner c.args.number) c.args.seqids c.self.invariant.0), c.self.invariant.1)

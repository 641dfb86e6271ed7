use Rattle.std.proofs.Common.{sym, subst}
use Rattle.xl_nfs_state.specs.State.{NfsLists, IsSound, IsIdleOwner, with_owners}
use Rattle.xl_nfs_state.proofs.SoundLaws.{owner_dropped}
use Rattle.xl_nfs_state.proofs.state.NfsState.drop_owner.Goals as goal

pub invariant_of-self : goal.invariant_of-self
invariant_of-self c =
    let old = c.self.inside in
    let l : NfsLists = record { clients = old.clients; owners = old.owners; stateids = old.stateids; kept = old.kept } in
    (subst (λ owners. IsSound (with_owners l owners)) (sym c.drop_picked.ensures) (owner_dropped l c.args.number c.self.invariant.0 (subst (IsIdleOwner c.args.number) (sym c.self.view_is) c.requires.idle)), c.self.invariant.1)

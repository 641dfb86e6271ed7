use Rattle.std.proofs.Common.{sym, subst}
use Rattle.xl_nfs_state.specs.State.{NfsLists, IsSound, is_client, with_clients}
use Rattle.xl_nfs_state.proofs.SoundLaws.{client_changed}
use Rattle.xl_nfs_state.proofs.state.NfsState.change_client.Goals as goal

pub invariant_of-self : goal.invariant_of-self
invariant_of-self c =
    let old = c.self.inside in
    let l : NfsLists = record { clients = old.clients; owners = old.owners; stateids = old.stateids; kept = old.kept } in
    (subst (λ clients. IsSound (with_clients l clients)) (sym c.change.ensures) (client_changed l (is_client c.args.number c.args.confirmed) c.args.details c.self.invariant.0), c.self.invariant.1)

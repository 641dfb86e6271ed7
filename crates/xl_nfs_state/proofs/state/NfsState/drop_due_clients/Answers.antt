use Rattle.std.proofs.Common.{sym, subst}
use Rattle.xl_nfs_state.specs.State.{NfsLists, IsSound, with_clients}
use Rattle.xl_nfs_state.proofs.SoundLaws.{clients_due}
use Rattle.xl_nfs_state.proofs.state.NfsState.drop_due_clients.Goals as goal

pub invariant_of-self : goal.invariant_of-self
invariant_of-self c =
    let old = c.self.inside in
    let l : NfsLists = record { clients = old.clients; owners = old.owners; stateids = old.stateids; kept = old.kept } in
    (subst (λ clients. IsSound (with_clients l clients)) (sym c.drop_picked.ensures) (clients_due l c.args.now c.self.invariant.0), c.self.invariant.1)

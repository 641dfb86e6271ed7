use Rattle.std.proofs.Common.{sym, subst}
use Rattle.xl_nfs_state.specs.State.{NfsLists, IsSound, with_clients}
use Rattle.xl_nfs_state.proofs.SoundLaws.{client_added}
use Rattle.xl_nfs_state.proofs.state.NfsState.add_client.Goals as goal

pub invariant_of-self-2 : goal.invariant_of-self-2
invariant_of-self-2 c =
    let old = c.self.inside in
    let l : NfsLists = record { clients = old.clients; owners = old.owners; stateids = old.stateids; kept = old.kept } in
    (subst (λ clients. IsSound (with_clients l clients)) (sym c.in_ok-add.ensures.ok) (client_added l c.args.row c.self.invariant.0 (rw (sym c.self.view_is) at c.requires.room)), c.self.invariant.1)

use Rattle.std.proofs.Common.{◌≡◌, true, sym, subst}
use Rattle.xl_nfs_state.specs.State.{NfsLists, IsSound, IsIdleClient, with_clients}
use Rattle.xl_nfs_state.proofs.SoundLaws.{client_dropped}
use Rattle.xl_nfs_state.proofs.state.NfsState.drop_client.Goals as goal

pub invariant_of-self : goal.invariant_of-self
invariant_of-self c =
    let old = c.self.inside in
    let l : NfsLists = record { clients = old.clients; owners = old.owners; stateids = old.stateids; kept = old.kept } in
    (subst (λ clients. IsSound (with_clients l clients)) (sym c.drop_picked.ensures) (client_dropped l c.args.number c.args.confirmed c.self.invariant.0 (subst (λ lists. c.args.confirmed ≡ true → IsIdleClient c.args.number lists) (sym c.self.view_is) c.requires.idle)), c.self.invariant.1)

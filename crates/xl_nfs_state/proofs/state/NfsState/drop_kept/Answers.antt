use Rattle.std.proofs.Common.{sym, subst}
use Rattle.xl_nfs_state.specs.State.{NfsLists, IsSound, is_kept, with_kept}
use Rattle.xl_nfs_state.proofs.SoundLaws.{kept_dropped}
use Rattle.xl_nfs_state.proofs.state.NfsState.drop_kept.Goals as goal

pub invariant_of-self : goal.invariant_of-self
invariant_of-self c =
    let old = c.self.inside in
    let l : NfsLists = record { clients = old.clients; owners = old.owners; stateids = old.stateids; kept = old.kept } in
    (subst (λ kept. IsSound (with_kept l kept)) (sym c.drop.ensures) (kept_dropped l (is_kept c.args.owner) c.self.invariant.0), c.self.invariant.1)

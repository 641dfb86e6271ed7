use Rattle.std.proofs.Common.{sym, subst}
use Rattle.xl_nfs_state.specs.State.{NfsLists, IsSound, IsIdleStateid, with_stateids}
use Rattle.xl_nfs_state.proofs.SoundLaws.{stateid_dropped}
use Rattle.xl_nfs_state.proofs.state.NfsState.drop_stateid.Goals as goal

pub invariant_of-self : goal.invariant_of-self
invariant_of-self c =
    let old = c.self.inside in
    let l : NfsLists = record { clients = old.clients; owners = old.owners; stateids = old.stateids; kept = old.kept } in
    (subst (λ stateids. IsSound (with_stateids l stateids)) (sym c.drop.ensures.dropped) (stateid_dropped l c.args.number c.self.invariant.0 (subst (IsIdleStateid c.args.number) (sym c.self.view_is) c.requires.idle)), c.drop.ensures.count)

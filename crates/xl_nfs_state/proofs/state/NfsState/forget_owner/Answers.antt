use Rattle.std.proofs.Common.{◌≡◌, sym, subst}
use Rattle.xl_nfs_state.specs.State.{NfsLists, IsSound, without_owner}
use Rattle.xl_nfs_state.proofs.SoundLaws.{owner_forgotten}
use Rattle.xl_nfs_state.proofs.state.NfsState.forget_owner.Goals as goal

pub invariant_of-self : goal.invariant_of-self
invariant_of-self c =
    let old = c.self.inside in
    let l : NfsLists = record { clients = old.clients; owners = old.owners; stateids = old.stateids; kept = old.kept } in
    let made : without_owner c.args.number l ≡ record { clients = old.clients; owners = c.drop_picked.new.self; stateids = c.drop.new.stateids; kept = c.drop-2.new.self } =
    λ i. record { clients = old.clients; owners = sym c.drop_picked.ensures i; stateids = sym c.drop.ensures.dropped i; kept = sym c.drop-2.ensures i } in
    (subst IsSound made (owner_forgotten l c.args.number c.self.invariant.0), c.drop.ensures.count)

use Rattle.std.proofs.Common.{◌≡◌, List, ap, sym, subst, ◌∙◌}
use Rattle.std.specs.List.{filter, list_any}
use Rattle.xl_nfs_state.specs.State.{NfsLists, IsSound, is_owner, without_client}
use Rattle.xl_nfs_state.specs.declared.owner.OwnerRow.{OwnerRow}
use Rattle.xl_nfs_state.proofs.SoundLaws.{client_forgotten}
use Rattle.xl_nfs_state.proofs.state.NfsState.forget_client.Goals as goal

pub invariant_of-self : goal.invariant_of-self
invariant_of-self c =
    let old = c.self.inside in
    let l : NfsLists = record { clients = old.clients; owners = old.owners; stateids = old.stateids; kept = old.kept } in
    let kept = c.keep_owners.ensures ∙ ap (λ (owners : List OwnerRow). filter (λ k. list_any (is_owner k.owner) owners) old.kept) c.drop_picked.ensures in
    let made : without_client c.args.number l ≡ record { clients = c.drop_picked-2.new.self; owners = c.drop_picked.new.self; stateids = c.drop.new.stateids; kept = c.keep_owners.new.self } =
    λ i. record { clients = sym c.drop_picked-2.ensures i; owners = sym c.drop_picked.ensures i; stateids = sym c.drop.ensures.dropped i; kept = sym kept i } in
    (subst IsSound made (client_forgotten l c.args.number c.self.invariant.0), c.drop.ensures.count)

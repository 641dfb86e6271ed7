use Rattle.std.proofs.Common.{true, is_some, ap, sym, subst, ◌∙◌}
use Rattle.std.specs.List.{find}
use Rattle.xl_nfs_state.specs.State.{NfsLists, IsSound, is_client, next_owner, with_owners}
use Rattle.xl_nfs_state.proofs.ResultMapLaws.{some_found}
use Rattle.xl_nfs_state.proofs.SoundLaws.{fresh_number, owner_added}
use Rattle.xl_nfs_state.proofs.state.NfsState.add_owner.Goals as goal

pub add-requires-clause-number : goal.add-requires-clause-number
add-requires-clause-number c =
    let old = c.self.inside in
    fresh_number old.owners c.args.row.number c.self.invariant.0.rising (ap (λ (l : NfsLists). next_owner l.owners) c.self.view_is ∙ c.requires.room)

pub invariant_of-self-2 : goal.invariant_of-self-2
invariant_of-self-2 c =
    let old = c.self.inside in
    let l : NfsLists = record { clients = old.clients; owners = old.owners; stateids = old.stateids; kept = old.kept } in
    let there = ap (λ (l : NfsLists). is_some (find (is_client c.args.row.name.client true) l.clients)) c.self.view_is ∙ c.requires.client in
    (subst (λ owners. IsSound (with_owners l owners)) (sym c.in_ok-add.ensures.ok) (owner_added l c.args.row c.self.invariant.0 (ap (λ (l : NfsLists). next_owner l.owners) c.self.view_is ∙ c.requires.room) (sym (some_found (is_client c.args.row.name.client true) l.clients) ∙ there)), c.self.invariant.1)

use Rattle.std.proofs.Common.{◌≡◌, true, Some, is_some, sym, subst}
use Rattle.std.specs.List.{find}
use Rattle.xl_nfs_state.specs.State.{NfsLists, IsSound, is_stateid, with_stateids}
use Rattle.xl_nfs_state.specs.declared.stateid.StateidRow.{StateidRow}
use Rattle.xl_nfs_state.proofs.SoundLaws.{stateid_changed_there}
use Rattle.xl_nfs_state.proofs.state.NfsState.change_stateid.Goals as goal

pub invariant_of-self : goal.invariant_of-self
invariant_of-self c =
    let old = c.self.inside in
    let l : NfsLists = record { clients = old.clients; owners = old.owners; stateids = old.stateids; kept = old.kept } in
    let there = subst (λ (lists : NfsLists). is_some (find (is_stateid c.args.number) lists.stateids) ≡ true) (sym c.self.view_is) c.requires.there in
    let closing = subst (λ (lists : NfsLists). (row : StateidRow) → find (is_stateid c.args.number) lists.stateids ≡ Some row → row.standing.closed ≡ true → c.args.standing.closed ≡ true) (sym c.self.view_is) c.requires.closing in
    (subst (λ stateids. IsSound (with_stateids l stateids)) (sym c.change.ensures.changed) (stateid_changed_there l c.args.number c.args.standing c.self.invariant.0 there closing), c.change.ensures.count)

use Rattle.std.proofs.Common.{is_some, ap, sym, subst, ◌∙◌}
use Rattle.std.specs.List.{find}
use Rattle.xl_nfs_state.specs.State.{NfsLists, IsSound, is_owner, with_kept}
use Rattle.xl_nfs_state.proofs.ResultMapLaws.{some_found}
use Rattle.xl_nfs_state.proofs.SoundLaws.{kept_added}
use Rattle.xl_nfs_state.proofs.state.NfsState.add_kept.Goals as goal

pub invariant_of-self-2 : goal.invariant_of-self-2
invariant_of-self-2 c =
    let old = c.self.inside in
    let l : NfsLists = record { clients = old.clients; owners = old.owners; stateids = old.stateids; kept = old.kept } in
    let there = ap (λ (l : NfsLists). is_some (find (is_owner c.args.row.owner) l.owners)) c.self.view_is ∙ c.requires.owner in
    (subst (λ kept. IsSound (with_kept l kept)) (sym c.in_ok-add.ensures.ok) (kept_added l c.args.row c.self.invariant.0 (sym (some_found (is_owner c.args.row.owner) l.owners) ∙ there)), c.self.invariant.1)

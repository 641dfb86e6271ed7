use Rattle.std.proofs.Common.{◌≡◌, ◌<◌, true, ap, sym, subst, ◌∙◌}
use Rattle.xl_nfs_state.specs.State.{NfsLists, IsSound, can_hang, is_live, most_opens, opens, with_stateids}
use Rattle.xl_nfs_state.proofs.SoundLaws.{found_hangs, stateid_added}
use Rattle.xl_nfs_state.proofs.state.NfsState.add_stateid.Goals as goal

pub invariant_of-self-2 : goal.invariant_of-self-2
invariant_of-self-2 c =
    let old = c.self.inside in
    let l : NfsLists = record { clients = old.clients; owners = old.owners; stateids = old.stateids; kept = old.kept } in
    let room = subst (λ (lists : NfsLists). is_live c.args.row ≡ true → opens lists.stateids < most_opens) (sym c.self.view_is) c.requires.room in
    let hung = found_hangs l c.args.row (ap (λ lists. can_hang lists c.args.row) c.self.view_is ∙ c.requires.hanging) in
    (subst (λ stateids. IsSound (with_stateids l stateids)) (sym c.in_ok-enter.ensures.ok) (stateid_added l c.args.row c.self.invariant.0 hung room), c.enter.ensures.count)

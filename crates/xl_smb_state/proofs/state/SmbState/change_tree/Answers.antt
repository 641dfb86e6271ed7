use Rattle.std.proofs.Common.{◌≡◌, ◌<◌, [], length, sym, subst}
use Rattle.xl_smb_state.specs.declared.row.Scope.TheVariants as scope
use Rattle.xl_smb_state.specs.State.{Lists, tree_dropped, trees_on, opens_under}
use Rattle.xl_smb_state.specs.Links.{IsTreeLinked, most_trees}
use Rattle.xl_smb_state.specs.contracts.state.SmbState.{the_view}
use Rattle.xl_smb_state.proofs.LinkLaws.{tree_changed_sound}
use Rattle.xl_smb_state.proofs.state.SmbState.change_tree.Goals as goal

pub invariant_of-self : goal.invariant_of-self
invariant_of-self c =
    let w : Lists = the_view c.self.inside in
    let fact0 = subst (λ (w : Lists). opens_under (scope.Tree c.args.number) w ≡ []) (sym c.self.view_is) c.requires.free in
    let fact1 = subst (λ (w : Lists). IsTreeLinked w c.args.row) (sym c.self.view_is) c.requires.link in
    let fact2 = subst (λ (w : Lists). length (trees_on c.args.row.connection (tree_dropped c.args.number w)) < most_trees) (sym c.self.view_is) c.requires.room in
    rw c.change.ensures (tree_changed_sound c.args.number c.args.row w fact0 fact1 fact2 c.self.invariant)

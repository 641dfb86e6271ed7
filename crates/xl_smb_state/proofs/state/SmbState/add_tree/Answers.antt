use Rattle.std.proofs.Common.{◌<◌, [], ◌∷◌, ◌++◌, length, sym, subst}
use Rattle.xl_smb_state.specs.State.{Lists, trees_on}
use Rattle.xl_smb_state.specs.Links.{IsSound, IsTreeLinked, most_trees}
use Rattle.xl_smb_state.specs.contracts.state.SmbState.{the_view}
use Rattle.xl_smb_state.proofs.RowLaws.{on_result}
use Rattle.xl_smb_state.proofs.LinkLaws.{tree_added_sound}
use Rattle.xl_smb_state.proofs.state.SmbState.add_tree.Goals as goal

pub invariant_of-self : goal.invariant_of-self
invariant_of-self c =
    let w : Lists = the_view c.self.inside in
    let fact0 = subst (λ (w : Lists). IsTreeLinked w c.args.row) (sym c.self.view_is) c.requires.link in
    let fact1 = subst (λ (w : Lists). length (trees_on c.args.row.connection w) < most_trees) (sym c.self.view_is) c.requires.room in
    on_result c.add.result (λ es. IsSound (record w { trees = es })) c.add.new.rows.entries w.trees (w.trees ++ (c.args.number, c.args.row) ∷ []) c.add.ensures.ok c.add.ensures.err (tree_added_sound c.args.number c.args.row w fact0 fact1 c.self.invariant) c.self.invariant

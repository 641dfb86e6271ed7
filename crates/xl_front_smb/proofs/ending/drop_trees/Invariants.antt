use Rattle.std.proofs.Common.{◌≡◌, drop, []}
use Rattle.xl_smb_state.specs.State.{trees_of, opens_under}
use Rattle.xl_smb_state.specs.declared.row.Scope.TheVariants as scope
use Rattle.xl_front_smb.specs.Ending.{trees_dropped}
use Rattle.xl_front_smb.proofs.ending.drop_trees.Given as goal

abbrev pub invariant-trees : goal.invariant-trees
invariant-trees l = (trees_dropped (drop l.number-index l.numbers) l.state ≡ trees_dropped l.numbers l.initial.state) × (trees_of l.session l.state ≡ drop l.number-index l.numbers) × (opens_under (scope.Session l.session) l.state ≡ [])

use Rattle.std.proofs.Common.{arith}
use Rattle.xl_front_smb.proofs.EndLaws.{tree_free}
use Rattle.xl_front_smb.proofs.ending.drop_trees.Goals as goal

pub drop_tree-requires-clause-free : goal.drop_tree-requires-clause-free
drop_tree-requires-clause-free c =
    tree_free c.args.session c.trees.state c.args.numbers.now c.trees.number-index 0 c.links.ensures.sound c.links.ensures.distinct (omega (arith, c.trees-test.true)) c.trees.invariant.1 c.trees.invariant.2

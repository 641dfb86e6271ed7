use Rattle.xl_house.proofs.ShownLaws.{all_aside, all_leaves}
use Rattle.xl_house.proofs.outs.show_all.Goals as goal

pub returns-clause-leaves : goal.returns-clause-leaves
returns-clause-leaves c = all_leaves c.args.exports.now c.args.layers.now.front c.show_each.new.layers.front c.args.layers.now.core c.show_each.new.layers.core c.args.effects.now c.args.outs.now c.show_each.new.outs c.in_ok-show_each.ensures c.requires.ready

pub returns-clause-aside : goal.returns-clause-aside
returns-clause-aside c = all_aside c.args.exports.now c.args.layers.now.front c.show_each.new.layers.front c.args.layers.now.core c.show_each.new.layers.core c.args.effects.now c.args.outs.now c.show_each.new.outs c.in_ok-show_each.ensures

use Rattle.std.proofs.Common.{◌≡◌, ◌+◌, ◌≤◌, drop}
use Rattle.xl_core.specs.Good.{IsGood}
use Rattle.xl_core.specs.Numbers.{numbers_of}
use Rattle.xl_front_nlm.specs.Short.{AreShort}
use Rattle.xl_house.specs.Telling.{grants, behind, all_shown}
use Rattle.xl_house.proofs.outs.show_each.Given as goal

abbrev pub invariant-loop-effect : goal.invariant-loop-effect
invariant-loop-effect l = (behind l.outs (all_shown l.exports l.layers.front l.layers.core (drop l.effect-index l.effects)) ≡ behind l.fn.outs (all_shown l.exports l.fn.layers.front l.fn.layers.core l.effects))
    × (IsGood l.layers.core × (AreShort l.layers.core.names × (numbers_of l.layers.core + grants (drop l.effect-index l.effects) ≤ numbers_of l.fn.layers.core + grants l.effects)))

use Rattle.std.proofs.Common.{◌≡◌, drop}
use Rattle.xl_table.specs.Held.{IsSound}
use Rattle.xl_core.specs.BreaksInOrder.{all_begun, AreHeldThen}
use Rattle.xl_core.proofs.breaks.begin_all.Given as goal

abbrev pub invariant-loop-begun : goal.invariant-loop-begun
invariant-loop-begun l = record {
  claims : all_begun l.deadline (drop l.begun-index l.breaks) l.table ≡ all_begun l.deadline l.breaks l.initial.table;
  held : AreHeldThen l.deadline (drop l.begun-index l.breaks) l.table;
  sound : IsSound l.table;
}

use Rattle.std.proofs.Common.{◌≡◌, ◌+◌, ◌<◌, ◌^◌, ◌++◌, map, drop, length}
use Rattle.xl_core.specs.BreaksBegun.{recalls, begun_told}
use Rattle.xl_core.specs.BreaksInOrder.{begun_of}
use Rattle.xl_core.proofs.breaks.tell.Given as goal

abbrev pub invariant-loop-row : goal.invariant-loop-row
invariant-loop-row l = record {
  told : l.effects ++ begun_told l.number (map begun_of (drop l.row-index l.rows)) ≡ begun_told l.last (map begun_of l.rows);
  last : l.number + recalls (map begun_of (drop l.row-index l.rows)) ≡ l.last + recalls (map begun_of l.rows);
  room : l.number + length (drop l.row-index l.rows) < 2 ^ 32;
}

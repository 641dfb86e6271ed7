use Rattle.std.proofs.Common.{◌≡◌, ◌+◌, ◌-◌, ◌≤◌, length}
use Rattle.xl_base.specs.Outside.{Took}
use Rattle.xl_capture.specs.Capture.{most_bytes}
use Rattle.xl_top.proofs.top.read_all.Given as goal

abbrev pub invariant-reads : goal.invariant-reads
invariant-reads g l = let left = g.I.Source.left in let faults = g.I.Source.faults in record {
  took : Took (left l.fn.input) l.text.items (left l.input);
  most : length l.text.items ≤ most_bytes + 1;
  chunk : length l.buffer.items ≡ 65536;
  still : faults l.input ≡ faults l.fn.input;
}

abbrev pub decreases-reads : goal.decreases-reads
decreases-reads g l = most_bytes + 1 - length l.text.items

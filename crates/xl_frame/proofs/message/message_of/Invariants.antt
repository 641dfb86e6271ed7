use Rattle.std.proofs.Common.{◌≡◌, ◌≤◌, length, drop}
use Rattle.xl_frame.specs.Frames.{joined, message_at, front_of}
use Rattle.xl_frame.proofs.message.message_of.Given as goal

abbrev pub invariant-fragments : goal.invariant-fragments
invariant-fragments l = record {
  within : l.at ≤ length l.bytes;
  sum : l.sum ≤ 65536;
  message : joined l.message.items (message_at l.kind l.left l.sum (drop l.at l.bytes)) ≡ front_of l.kind l.bytes;
}

abbrev pub decreases-fragments : goal.decreases-fragments
decreases-fragments l = l.left

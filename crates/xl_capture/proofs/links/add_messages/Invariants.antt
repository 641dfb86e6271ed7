use Rattle.std.proofs.Common.{◌≡◌, ◌++◌, length, map}
use Rattle.xl_base.specs.declared.event.Event.TheVariants.{Message}
use Rattle.xl_capture.specs.Capture.{steps_of}
use Rattle.xl_capture.proofs.links.add_messages.Given as goal

abbrev pub invariant-frames : goal.invariant-frames
invariant-frames l = record {
  steps : l.steps ++ steps_of l.stores (map (Message l.conn) l.cutter.ready) ≡ l.fn.steps ++ steps_of l.stores (map (Message l.conn) l.fn.cutter.ready);
  kind : l.cutter.kind ≡ l.fn.cutter.kind;
  rest : l.cutter.rest ≡ l.fn.cutter.rest;
  bad : l.cutter.bad ≡ l.fn.cutter.bad;
}

abbrev pub decreases-frames : goal.decreases-frames
decreases-frames l = length l.cutter.ready

use Rattle.std.proofs.Common.{◌≡◌, drop}
use Rattle.xl_wait.specs.Waiting.{waiting_on}
use Rattle.xl_core.specs.InFront.{in_front_of}
use Rattle.xl_core.proofs.LineLaws.{first_range}
use Rattle.xl_core.proofs.blockers.first_in_front.Given as goal

abbrev pub invariant-waiters : goal.invariant-waiters
invariant-waiters l = first_range l.parts.table l.ask (in_front_of l.front (drop l.count (waiting_on l.ask.file l.parts.queue))) ≡ first_range l.parts.table l.ask (in_front_of l.front (waiting_on l.ask.file l.parts.queue))

use Rattle.std.proofs.Common.{◌≡◌, ◌<◌, ◌≤◌, ◌+◌, true, None, length}
use Rattle.xl_work.specs.Calls.{IsGoing, RoseAtMost, RoseBy}
use Rattle.xl_work.proofs.calls.serve_calls.Given as goal

abbrev pub invariant-turns : goal.invariant-turns
invariant-turns g l = record {
  desk : l.pass.desk ≡ l.desk;
  low : l.pass.view.first ≤ l.calling.from;
  high : l.calling.from ≤ l.pass.view.first + length l.pass.view.seen;
  going : IsGoing l.post (g.C.Caller.told l.fn.caller) l.fn.pass.view (g.C.Caller.told l.calling.caller) l.pass.view l.calling.from l.calling.last;
  most : RoseAtMost l.done (g.C.Caller.asked l.fn.caller) (g.C.Caller.asked l.calling.caller);
  runs : g.G.Gate.is_open l.gate ≡ true → 0 < l.done → l.pass.view.halt ≡ None;
  asked : g.G.Gate.is_open l.gate ≡ true → RoseBy l.done (g.C.Caller.asked l.fn.caller) (g.C.Caller.asked l.calling.caller);
}

use Rattle.std.proofs.Common.{◌≡◌, ◌<◌, ◌≤◌, ◌-◌, true, List, None, Option, vec_len, vec_capacity}
use Rattle.xl_base.specs.declared.lane.Link.{Link}
use Rattle.xl_desk.specs.declared.view.View.{View}
use Rattle.xl_work.specs.Calls.{RoseAtMost, RoseBy}
use Rattle.xl_work.specs.Lives.{Nothing, HasPlace, IsCaught, IsServing, IsSettled}
use Rattle.xl_work.specs.Ticks.{IsTicking}
use Rattle.xl_work.proofs.first.serve_timed.Given as goal

abbrev pub invariant-turns : goal.invariant-turns
invariant-turns g l = record {
  desk : l.timed.worker.pass.desk ≡ l.fn.timed.worker.pass.desk;
  own : l.timed.pass.desk ≡ l.fn.timed.pass.desk;
  place : HasPlace l.timed.worker.pass.view l.timed.worker.live;
  room : vec_len l.timed.worker.conns < vec_capacity l.timed.worker.conns;
  settled : IsSettled l.timed.worker.live;
  caught : IsCaught l.timed.worker.pass.view l.timed.worker.live;
  done : l.timed.worker.done ≤ l.post.turns;
  serving : (told : Option (List Link)) (before : View _) → IsServing told before (g.L.Lane.told l.fn.timed.worker.lane) l.fn.timed.worker.pass.view l.fn.timed.worker.conns.items l.fn.timed.worker.live Nothing → IsServing told before (g.L.Lane.told l.timed.worker.lane) l.timed.worker.pass.view l.timed.worker.conns.items l.timed.worker.live Nothing;
  asked : g.G.Gate.is_open l.gate ≡ true → RoseBy l.timed.worker.done (g.L.Lane.asked l.fn.timed.worker.lane) (g.L.Lane.asked l.timed.worker.lane);
  most : RoseAtMost l.timed.worker.done (g.L.Lane.asked l.fn.timed.worker.lane) (g.L.Lane.asked l.timed.worker.lane);
  lost : g.L.Lane.lost l.timed.worker.lane ≡ g.L.Lane.lost l.fn.timed.worker.lane;
  runs : 0 < l.timed.worker.done → l.timed.worker.pass.view.halt ≡ None;
  later : g.L.Lane.faults l.fn.timed.worker.lane ≤ g.L.Lane.faults l.timed.worker.lane;
  ticking : IsTicking (g.G.Gate.is_open l.gate) l.timed.ticks l.timed.worker.done (g.T.Clock.told l.fn.clock) l.fn.timed.pass.view (g.T.Clock.told l.clock) l.timed.pass.view;
}

abbrev pub decreases-turns : goal.decreases-turns
decreases-turns g l = l.post.turns - l.timed.worker.done

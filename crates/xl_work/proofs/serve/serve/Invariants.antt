use Rattle.std.proofs.Common.{◌≡◌, ◌<◌, ◌≤◌, ◌-◌, true, List, None, Option, vec_len, vec_capacity}
use Rattle.xl_base.specs.declared.lane.Link.{Link}
use Rattle.xl_desk.specs.declared.view.View.{View}
use Rattle.xl_work.specs.Calls.{RoseAtMost, RoseBy}
use Rattle.xl_work.specs.Lives.{Nothing, HasPlace, IsCaught, IsServing, IsSettled}
use Rattle.xl_work.proofs.serve.serve.Given as goal

abbrev pub invariant-turns : goal.invariant-turns
invariant-turns g l = record {
  desk : l.worker.pass.desk ≡ l.fn.worker.pass.desk;
  place : HasPlace l.worker.pass.view l.worker.live;
  room : vec_len l.worker.conns < vec_capacity l.worker.conns;
  settled : IsSettled l.worker.live;
  caught : IsCaught l.worker.pass.view l.worker.live;
  done : l.worker.done ≤ l.post.turns;
  serving : (told : Option (List Link)) (before : View _) → IsServing told before (g.L.Lane.told l.fn.worker.lane) l.fn.worker.pass.view l.fn.worker.conns.items l.fn.worker.live Nothing → IsServing told before (g.L.Lane.told l.worker.lane) l.worker.pass.view l.worker.conns.items l.worker.live Nothing;
  asked : g.G.Gate.is_open l.gate ≡ true → RoseBy l.worker.done (g.L.Lane.asked l.fn.worker.lane) (g.L.Lane.asked l.worker.lane);
  most : RoseAtMost l.worker.done (g.L.Lane.asked l.fn.worker.lane) (g.L.Lane.asked l.worker.lane);
  lost : g.L.Lane.lost l.worker.lane ≡ g.L.Lane.lost l.fn.worker.lane;
  runs : 0 < l.worker.done → l.worker.pass.view.halt ≡ None;
  later : g.L.Lane.faults l.fn.worker.lane ≤ g.L.Lane.faults l.worker.lane;
}

abbrev pub decreases-turns : goal.decreases-turns
decreases-turns g l = l.post.turns - l.worker.done

use Rattle.std.proofs.Common.{◌≡◌, ◌<◌, ◌≤◌, true, List, Option, option_map}
use Rattle.xl_base.specs.declared.lane.Link.{Link}
use Rattle.xl_desk.specs.declared.view.View.{View}
use Rattle.xl_work.specs.Lives.{Nothing, HasPlace, IsQuiet, IsServing, ready_in, steady, tally}
use Rattle.xl_work.proofs.lane.enter_messages.Given as goal

abbrev pub invariant-messages : goal.invariant-messages
invariant-messages g l = record {
  desk : l.worker.pass.desk ≡ l.fn.worker.pass.desk;
  place : HasPlace l.worker.pass.view l.worker.live;
  serving : (told : Option (List Link)) (before : View _) → IsServing told before (g.L.Lane.told l.fn.worker.lane) l.fn.worker.pass.view l.fn.worker.conns.items l.fn.worker.live Nothing → IsServing told before (g.L.Lane.told l.worker.lane) l.worker.pass.view l.worker.conns.items l.worker.live Nothing;
  steady : option_map steady l.worker.live ≡ option_map steady l.fn.worker.live;
  conns : l.worker.conns ≡ l.fn.worker.conns;
  low : l.fn.worker.done ≤ l.worker.done;
  high : l.worker.done < l.post.turns;
  passes : g.G.Gate.is_open l.gate ≡ true → l.worker.done ≡ l.fn.worker.done;
  quiet : IsQuiet (tally g.L.Lane.asked g.L.Lane.lost g.L.Lane.faults g.L.Lane.ended l.fn.worker.lane) (tally g.L.Lane.asked g.L.Lane.lost g.L.Lane.faults g.L.Lane.ended l.worker.lane);
}

abbrev pub decreases-messages : goal.decreases-messages
decreases-messages g l = ready_in l.worker.live

use Rattle.std.proofs.Common.{◌≡◌, ◌<◌, true, List, Option, option_map}
use Rattle.xl_base.specs.declared.lane.Link.{Link}
use Rattle.xl_desk.specs.declared.view.View.{View}
use Rattle.xl_work.specs.Lives.{Hand, HasPlace, IsCaught, IsQuiet, IsServing, is_over, still, tally}
use Rattle.xl_work.proofs.lane.ask.Given as goal

abbrev pub invariant-asks : goal.invariant-asks
invariant-asks g l = record {
  desk : l.worker.pass.desk ≡ l.fn.worker.pass.desk;
  place : HasPlace l.worker.pass.view l.worker.live;
  serving : (told : Option (List Link)) (before : View _) (hand : Hand) → IsServing told before (g.L.Lane.told l.fn.worker.lane) l.fn.worker.pass.view l.fn.worker.conns.items l.fn.worker.live hand → IsServing told before (g.L.Lane.told l.worker.lane) l.worker.pass.view l.worker.conns.items l.worker.live hand;
  caught : l.fn.worker.done < l.done → IsCaught l.worker.pass.view l.worker.live;
  still : option_map still l.worker.live ≡ option_map still l.fn.worker.live;
  over : is_over l.fn.worker.live ≡ true → is_over l.worker.live ≡ true;
  conns : l.worker.conns ≡ l.fn.worker.conns;
  passes : g.G.Gate.is_open l.gate ≡ true → l.done ≡ l.fn.worker.done;
  quiet : IsQuiet (tally g.L.Lane.asked g.L.Lane.lost g.L.Lane.faults g.L.Lane.ended l.fn.worker.lane) (tally g.L.Lane.asked g.L.Lane.lost g.L.Lane.faults g.L.Lane.ended l.worker.lane);
}

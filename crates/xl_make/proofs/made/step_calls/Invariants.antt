use Rattle.std.proofs.Common.{◌≡◌, ◌+◌, ◌<◌, ◌^◌, ◌++◌, length, None}
use Rattle.xl_house.specs.Journals.{replay, entries_of}
use Rattle.xl_house.specs.State.{start_of}
use Rattle.xl_make.specs.Made.{calls_from, surely}
use Rattle.xl_make.proofs.made.step_calls.Given as goal

abbrev pub invariant-calls : goal.invariant-calls
invariant-calls l = record {
  goes : l.house.halt ≡ None;
  head : l.house.head ≡ l.fn.house.head;
  seed : l.x < 2 ^ 31;
  at : length l.house.entries ≡ l.number;
  left : l.number + l.left ≡ l.count + 1;
  entries : l.house.entries ++ entries_of (replay (start_of l.fn.house.head) l.house.entries) (surely (calls_from l.x l.number l.left))
      ≡ l.fn.house.entries ++ entries_of (replay (start_of l.fn.house.head) l.fn.house.entries) (surely (calls_from l.fn.x 1 l.count));
}

abbrev pub decreases-calls : goal.decreases-calls
decreases-calls l = l.left

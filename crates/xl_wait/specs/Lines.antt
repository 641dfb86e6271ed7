-- The line of those who wait, in which some at the front went.
use Rattle.std.specs.Prelude.{ℕ, ◌≤◌, ◌^◌, List, drop, length}
use Rattle.xl_wait.specs.Waiting.{files_of, AreQueued}
use Rattle.xl_wait.specs.declared.line.Line.{Line}
use Rattle.xl_wait.specs.declared.waiter.Waiter.{Waiter}

-- those who wait
abbrev pub standing : Line → List Waiter
standing l = drop l.gone l.all.items

-- the last place that the first of them has, before places are counted from it on
abbrev pub last_first : ℕ
last_first = 2 ^ 32

-- those who went stand in front, no more than those who wait, and each file has its queue
pub record IsLine (l : Line) : Type 0 where
  pub within : l.gone ≤ length l.all.items
  pub few : l.gone ≤ length (standing l)
  pub early : l.first ≤ last_first
  pub queues : AreQueued l.first l.queues (files_of (standing l))

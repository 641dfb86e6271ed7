use Rattle.std.proofs.Common.{◌≡◌, ◌+◌, drop}
use Rattle.xl_desk.specs.Due.{due_in, ahead_of}
use Rattle.xl_desk.proofs.outs.due_in.Given as goal

abbrev pub invariant-entries : goal.invariant-entries
invariant-entries l = (due_in l.due (drop l.entry-index l.entries) ≡ due_in l.due l.entries) × (l.ahead ≡ l.entry-index) × (l.ahead + ahead_of l.due (drop l.entry-index l.entries) ≡ ahead_of l.due l.entries)

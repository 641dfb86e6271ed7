use Rattle.std.proofs.Common.{◌≡◌, ◌++◌, map}
use Rattle.std.specs.List.{AllByRecursion}
use Rattle.xl_programs.specs.Sent.{FitsFrame}
use Rattle.xl_house.specs.Telling.{framed}
use Rattle.xl_house.proofs.outs.send_all.Given as goal

abbrev pub invariant-loop-out : goal.invariant-loop-out
invariant-loop-out l = (l.outs ++ map (framed l.kind) l.out-iterator.rest.items ≡ l.fn.outs ++ map (framed l.kind) l.fn.sent) × AllByRecursion FitsFrame l.out-iterator.rest.items

use Rattle.std.proofs.Common.{◌≡◌}
use Rattle.xl_house.specs.Sifting.{sift_all, sifted}
use Rattle.xl_house.proofs.frames.sift.Given as goal

abbrev pub invariant-loop-out : goal.invariant-loop-out
invariant-loop-out l = sift_all l.row l.sifted l.out-iterator.rest.items ≡ sifted l.row l.fn.paused l.fn.sent

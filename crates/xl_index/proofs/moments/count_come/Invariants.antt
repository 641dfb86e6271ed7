use Rattle.std.proofs.Common.{◌≡◌, ◌+◌, nat_le, drop}
use Rattle.xl_index.specs.Moments.{passing, AreRising}
use Rattle.xl_index.proofs.moments.count_come.Given as goal

abbrev pub invariant-loop-moment : goal.invariant-loop-moment
invariant-loop-moment g l =
    AreRising (drop l.moment-index l.moments)
    × (l.count + passing (λ m. nat_le m l.now.0) (drop l.moment-index l.moments) ≡ passing (λ m. nat_le m l.now.0) l.moments)
    × (l.count ≡ l.moment-index)
    × (l.steps ≡ l.fn.steps + l.moment-index)

use Rattle.std.proofs.Common.{ℕ, nat_le, List, ◌+◌, sym, ap, subst, ◌∙◌, drop, get_or, arith}
use Rattle.std.proofs.Math.ListN.{drop_of_length-le}
use Rattle.xl_index.specs.Moments.{passing, AreRising}
use Rattle.xl_index.proofs.MomentLaws.{come_on, come_stop, row_read}
use Rattle.xl_index.proofs.moments.count_come.Goals as goal

pub returns-then-not-look-clause-count : goal.returns-then-not-look-clause-count
returns-then-not-look-clause-count g c =
    let ms = c.args.moments.now in
    let i = c.loop-moment.moment-index in
    let n = c.args.now.0 in
    let row = row_read ms i c.loop-moment-test.true in
    come_stop n (get_or ms i 0) (drop (i + 1) ms) c.look.result c.loop-moment.count (passing (λ m. nat_le m n) ms) (subst AreRising row c.loop-moment.invariant.0) c.look.ensures.test c.if-not-look.true
    (ap (λ (rs : List ℕ). c.loop-moment.count + passing (λ m. nat_le m n) rs) (sym row) ∙ c.loop-moment.invariant.1)

pub loop-moment-preserved : goal.loop-moment-preserved
loop-moment-preserved g c =
    let ms = c.args.moments.now in
    let i = c.loop-moment.moment-index in
    let n = c.args.now.0 in
    let row = row_read ms i c.loop-moment-test.true in (
      (subst AreRising row c.loop-moment.invariant.0).1,
      come_on n (get_or ms i 0) (drop (i + 1) ms) c.look.result c.loop-moment.count (passing (λ m. nat_le m n) ms) c.look.ensures.test c.if-not-look.false
          (ap (λ (rs : List ℕ). c.loop-moment.count + passing (λ m. nat_le m n) rs) (sym row) ∙ c.loop-moment.invariant.1),
      omega (arith, c.loop-moment.invariant.2),
      omega (arith, c.loop-moment.invariant.3, c.look.ensures.step),
    )

pub returns-clause-count : goal.returns-clause-count
returns-clause-count g c =
    let ms = c.args.moments.now in
    let n = c.args.now.0 in
    omega (arith, c.loop-moment.invariant.1, ap (λ (rs : List ℕ). passing (λ m. nat_le m n) rs) (drop_of_length-le ms c.loop-moment-test.false))

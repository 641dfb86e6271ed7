use Rattle.std.proofs.Common.{List, length, ap, ◌∙◌, arith}
use Rattle.xl_base.specs.declared.journal.Entry.{Entry}
use Rattle.xl_core.specs.State.{started}
use Rattle.xl_house.proofs.JournalLaws.{begun_stands, holds_started}
use Rattle.xl_house.proofs.house.House.begin.Goals as goal

pub invariant_of-result : goal.invariant_of-result
invariant_of-result g c =
    let state = c.new-core.ensures.state in
    record {
      stands = λ _.
          rw (c.new.ensures.items)
          (begun_stands c.args.head _
          (λ i. record { exports = c.args.head.exports; place = 0; connections = c.new-2.ensures.items i; paused = c.new-3.ensures i; front = c.new-4.ensures i; core = (state ∙ (λ j. started (c.requires.raised j) c.args.head.start (c.times_of.ensures j))) i }));
      holds = λ _. holds_started _ _ _ _ _ state c.requires.holds;
      few = omega (arith, ap (λ (es : List Entry). length es) c.new.ensures.items);
      legal = rw (c.new.ensures.items) tt;
      served = rw (c.new.ensures.items) tt;
      halts = tt;
    }

use Rattle.std.proofs.Common.{◌≡◌, ◌+◌, ◌-◌, ℕ, drop, length, rules, arith}
use Rattle.xl_wait.specs.Lines.{standing}
use Rattle.xl_wait.proofs.FileLaws.{queued_in}
use Rattle.xl_wait.proofs.LineLaws.{comes, standing_count}
use Rattle.xl_wait.proofs.line.enter.Goals as goal

pub returns-clause-line : goal.returns-clause-line
returns-clause-line c =
    let l = c.args.line.now in
    let place : ℕ = l.first + (c.len.result - l.gone) in
    let at : place ≡ l.first + length (standing l) = (let count = standing_count l.gone l.all.items in let len : c.len.result ≡ length l.all.items = search rules in omega (arith, count, len)) in
    let longer : length c.push_reserved.new.self.items ≡ length l.all.items + 1 = search rules in
    record {
      within = (let within = c.requires.line.within in omega (arith, longer));
      few = (let few = c.requires.line.few in let before = standing_count l.gone l.all.items in let after = standing_count l.gone c.push_reserved.new.self.items in omega (arith, longer, few, before, after));
      early = c.requires.line.early;
      queues = queued_in l.first l.queues c.enter_place.new.queues (standing l) (drop l.gone c.push_reserved.new.self.items) c.args.waiter place c.requires.line.queues at (search rules) (search rules)
          (comes l.gone l.all.items c.reserve.new.self.items c.push_reserved.new.self.items c.args.waiter c.requires.line.within c.reserve.ensures.items c.push_reserved.ensures.items);
    }

use Rattle.std.proofs.Common.{◌≡◌, ◌+◌, ℕ, List, drop, length, rules, arith, ap, subst, sym, ◌∙◌}
use Rattle.std.specs.BTreeMap.{BTreeMap}
use Rattle.xl_wait.specs.Lines.{standing}
use Rattle.xl_wait.specs.Waiting.{files_of, AreQueued}
use Rattle.xl_wait.specs.declared.waiter.Waiter.{Waiter}
use Rattle.xl_wait.proofs.FileLaws.{queued_out}
use Rattle.xl_wait.proofs.LineLaws.{left_at, standing_count, stands_at}
use Rattle.xl_wait.proofs.line.leave_at.Goals as goal

pub close_gap-requires : goal.close_gap-requires
close_gap-requires c =
    let l = c.args.line.now in
    let shorter : length c.remove-waiter.new.self.items + 1 ≡ length l.all.items = search rules in
    (let count = standing_count l.gone l.all.items in let some = c.requires.count in omega (arith, shorter, count, some))

pub returns-clause-standing : goal.returns-clause-standing
returns-clause-standing c =
    let l = c.args.line.now in
    c.close_gap.ensures.standing ∙ ap (λ (ws : List Waiter). drop l.gone ws) c.remove-waiter.ensures.items ∙ left_at l.gone c.args.count l.all.items c.requires.count

pub returns-clause-line : goal.returns-clause-line
returns-clause-line c =
    let l = c.args.line.now in
    let same = c.close_gap.ensures in
    let queued = queued_out l.first l.queues c.leave_place.new.queues (standing l) (drop l.gone c.remove-waiter.new.self.items) c.remove-waiter.result c.args.count c.requires.line.queues c.requires.count
    (c.remove-waiter.ensures.value ∙ stands_at l.gone c.args.count l.all.items c.remove-waiter.result) c.leave_place.ensures.places (search rules)
    (ap (λ (ws : List Waiter). drop l.gone ws) c.remove-waiter.ensures.items ∙ left_at l.gone c.args.count l.all.items c.requires.count) in
    record {
      within = same.within;
      few = same.few;
      early = (let early = c.requires.line.early in let first = same.rest.0 in omega (arith, early, first));
      queues = subst (λ (z : ℕ × BTreeMap ℕ (List ℕ) × List Waiter). AreQueued z.0 z.1 (files_of z.2)) (λ i. (sym same.rest.0 i, sym same.rest.1 i, sym same.standing i)) queued;
    }

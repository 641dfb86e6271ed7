use Rattle.std.proofs.Common.{◌+◌, ap, ◌∙◌}
use Rattle.xl_desk.proofs.Walks.{due_here, none_ahead, due_later, one_ahead, none_due, all_ahead, one_more_ahead, no_more_ahead}
use Rattle.xl_desk.proofs.outs.due_in.Goals as goal

pub returns-in-Some-clause-call : goal.returns-in-Some-clause-call
returns-in-Some-clause-call g = due_here g.args.due g.args.entries.now g.entries.entry-index g.entry-item.result _ g.in-Some.call.now g.entries-test.true g.entry-item.is g.as_slice.ensures g.in-Some.ensures ∙ g.entries.invariant.0

pub entries-preserved : goal.entries-preserved
entries-preserved g = let v = g.entries.invariant in (due_later g.args.due g.args.entries.now g.entries.entry-index g.entry-item.result _ g.entries-test.true g.entry-item.is g.as_slice.ensures g.in_default.ensures ∙ v.0, ap (λ n. n + 1) v.1, one_more_ahead g.entries.ahead _ _ _ (one_ahead g.args.due g.args.entries.now g.entries.entry-index g.entry-item.result _ g.entries-test.true g.entry-item.is g.as_slice.ensures g.in_default.ensures) v.2)

pub returns-clause-call : goal.returns-clause-call
returns-clause-call g = none_due g.args.due g.args.entries.now g.entries.entry-index g.entries-test.false ∙ g.entries.invariant.0

pub returns-in-Some-clause-ahead : goal.returns-in-Some-clause-ahead
returns-in-Some-clause-ahead g = no_more_ahead g.entries.ahead _ _ (none_ahead g.args.due g.args.entries.now g.entries.entry-index g.entry-item.result _ g.in-Some.call.now g.entries-test.true g.entry-item.is g.as_slice.ensures g.in-Some.ensures) g.entries.invariant.2

pub returns-clause-ahead : goal.returns-clause-ahead
returns-clause-ahead g = no_more_ahead g.entries.ahead _ _ (all_ahead g.args.due g.args.entries.now g.entries.entry-index g.entries-test.false) g.entries.invariant.2

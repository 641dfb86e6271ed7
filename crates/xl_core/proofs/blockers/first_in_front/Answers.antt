use Rattle.std.proofs.Common.{sym, ◌∙◌, arith}
use Rattle.xl_wait.specs.Waiting.{waiting_on}
use Rattle.xl_core.proofs.LineLaws.{range_none, range_end, range_here, range_past, range_over}
use Rattle.xl_core.proofs.blockers.first_in_front.Goals as goal

pub returns-in_default : goal.returns-in_default
returns-in_default c = range_none c.args.parts.now.table c.args.ask.now c.args.front (waiting_on c.args.ask.now.file c.args.parts.now.queue) c.waiters.count (sym c.in_default.ensures) c.waiters.invariant

pub returns-then-ends_at : goal.returns-then-ends_at
returns-then-ends_at c = range_end c.args.parts.now.table c.args.ask.now c.args.front (waiting_on c.args.ask.now.file c.args.parts.now.queue) c.waiters.count c.in-Some.waiter.now (sym c.in-Some.ensures) (sym c.ends_at.ensures ∙ c.if-ends_at.true) c.waiters.invariant

pub returns-in-Some-2 : goal.returns-in-Some-2
returns-in-Some-2 c = range_here c.args.parts.now.table c.args.ask.now c.args.front (waiting_on c.args.ask.now.file c.args.parts.now.queue) c.waiters.count c.in-Some.waiter.now c.in-Some-2.range (sym c.in-Some.ensures) (sym c.ends_at.ensures ∙ c.if-ends_at.false) (sym c.in-Some-2.is ∙ c.in_ok-range.ensures) c.waiters.invariant

pub waiters-preserved : goal.waiters-preserved
waiters-preserved c = range_past c.args.parts.now.table c.args.ask.now c.args.front (waiting_on c.args.ask.now.file c.args.parts.now.queue) c.waiters.count c.in-Some.waiter.now (sym c.in-Some.ensures) (sym c.ends_at.ensures ∙ c.if-ends_at.false) (sym c.in_default-2.is ∙ c.in_ok-range.ensures) c.waiters.invariant

pub returns : goal.returns
returns c = range_over c.args.parts.now.table c.args.ask.now c.args.front c.args.ask.now.file c.waiters.count c.args.parts.now.queue (omega (arith, c.len-count-end.ensures, c.waiters-test.false)) c.waiters.invariant

use Rattle.std.proofs.Common.{◌≡◌, ◌+◌, ◌≤◌, ℕ, true, Some, ap, arith, subst, sym, take, ◌∙◌}
use Rattle.std.specs.List.{AllByRecursion}
use Rattle.xl_wait.specs.Waiting.{waiting_on}
use Rattle.xl_core.specs.Passed.{is_shut_out, StandBefore}
use Rattle.xl_core.specs.Settle.{is_up}
use Rattle.xl_core.specs.Whole.{state_of}
use Rattle.xl_core.specs.declared.settling.Called.{Called}
use Rattle.xl_core.proofs.PassedLaws.{known_first, shut_more, shut_within, stand_before}
use Rattle.xl_core.proofs.UnsettledLaws.{nth_waits, on_end, on_free, on_none, on_past, waiter_line}
use Rattle.xl_core.proofs.settling.first_on.Goals as goal

pub waiters-init : goal.waiters-init
waiters-init c = (known_first (state_of c.args.parts.now) c.args.known (waiting_on c.args.file c.args.parts.now.queue) c.requires.up, c.requires.shut, omega arith)

pub is_up-requires-clause-line : goal.is_up-requires-clause-line
is_up-requires-clause-line c = waiter_line (state_of c.args.parts.now) c.in-Some.waiter.now c.requires.good (nth_waits c.args.file c.waiters.count c.args.parts.now.queue c.in-Some.waiter.now (sym c.in-Some.ensures))

pub returns-in_default-clause-called : goal.returns-in_default-clause-called
returns-in_default-clause-called c = on_none (state_of c.args.parts.now) (waiting_on c.args.file c.args.parts.now.queue) c.waiters.count (sym c.in_default.ensures) c.waiters.invariant.0

pub returns-then-not-branch-clause-called : goal.returns-then-not-branch-clause-called
returns-then-not-branch-clause-called c =
    ap (λ called. Some called) c.in_ok-called.ensures
    ∙ on_free (state_of c.args.parts.now) (waiting_on c.args.file c.args.parts.now.queue) c.waiters.count c.in-Some.waiter.now (sym c.in-Some.ensures) (sym c.in_ok-is_up.ensures ∙ c.if-not-branch.true) c.waiters.invariant.0

pub returns-then-not-branch-clause-before : goal.returns-then-not-branch-clause-before
returns-then-not-branch-clause-before c =
    let s = state_of c.args.parts.now in
    subst (λ (called : Called). StandBefore called (record { file = c.args.file; count = c.waiters.shut }) s) (sym c.in_ok-called.ensures) (stand_before s c.args.file c.waiters.shut c.waiters.count c.in-Some.waiter.now c.requires.good (sym c.in-Some.ensures) c.waiters.invariant.2 c.waiters.invariant.1)

pub waiters-preserved : goal.waiters-preserved
waiters-preserved c =
    let s = state_of c.args.parts.now in
    let on = waiting_on c.args.file c.args.parts.now.queue in
    let w = c.in-Some.waiter.now in
    let up : is_up s w ≡ true = sym c.in_ok-is_up.ensures ∙ c.if-not-branch.false in (
      on_past s on c.waiters.count w (sym c.in-Some.ensures) up c.waiters.invariant.0,
      subst (λ (n : ℕ). AllByRecursion (λ v. is_shut_out s v ≡ true) (take n on)) (sym c.shut_then-shut.ensures) (shut_more s on c.waiters.shut c.waiters.count w (sym c.in-Some.ensures) c.waiters.invariant.1),
      subst (λ (n : ℕ). n ≤ c.waiters.count + 1) (sym c.shut_then-shut.ensures) (shut_within c.waiters.shut c.waiters.count (is_shut_out s w) c.waiters.invariant.2),
    )

pub returns-clause-called : goal.returns-clause-called
returns-clause-called c = on_end (state_of c.args.parts.now) c.args.file c.waiters.count c.args.parts.now.queue (omega (arith, c.len-count-end.ensures, c.waiters-test.false)) c.waiters.invariant.0

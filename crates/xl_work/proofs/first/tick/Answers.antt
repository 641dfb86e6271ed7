use Rattle.std.proofs.Common.{ap, sym, subst, ◌≡◌, ◌∙◌, ◌+◌, false, true}
use Rattle.xl_work.specs.Ticks.{IsTicking, is_due, moment_of}
use Rattle.xl_work.proofs.ServeLaws.{on_err}
use Rattle.xl_work.proofs.TickLaws.{ticking_cut, ticking_entered, ticking_read}
use Rattle.xl_work.proofs.first.tick.Goals as goal

pub returns-then-not-is_due-clause-ticking : goal.returns-then-not-is_due-clause-ticking
returns-then-not-is_due-clause-ticking g c open_gate done told told2 told3 before ticking tells =
    let t = c.args.timed.now.ticks in
    let off : is_due t (moment_of t c.args.reading) ≡ false = ap (is_due t) (sym c.moment_of-moment.ensures) ∙ sym c.is_due.ensures ∙ c.if-not-is_due.true in
    subst (λ u. IsTicking open_gate u (done + 1) told before told3 c.args.timed.now.pass.view) (sym c.read-read.ensures) (ticking_read told before open_gate t done told2 told3 c.args.timed.now.pass.view c.args.reading ticking tells off)

pub returns-in_err-enter_tick-clause-cut : goal.returns-in_err-enter_tick-clause-cut
returns-in_err-enter_tick-clause-cut g c open_gate done asked asked2 told told2 told3 before ticking tells =
    on_err c.from_residual.result _ (ticking_cut told before open_gate c.args.timed.now.ticks done asked asked2 told2 told3 c.args.timed.now.pass.view c.enter_tick.new.timed.pass.view c.args.reading ticking tells c.in_err-enter_tick.ensures.none.0 c.in_err-enter_tick.ensures.none.1)

pub returns-clause-ticking : goal.returns-clause-ticking
returns-clause-ticking g c open_gate done told told2 told3 before ticking tells =
    let t = c.args.timed.now.ticks in
    let on : is_due t (moment_of t c.args.reading) ≡ true = ap (is_due t) (sym c.moment_of-moment.ensures) ∙ sym c.is_due.ensures ∙ c.if-not-is_due.false in
    subst (λ u. IsTicking open_gate u (done + 1) told before told3 c.enter_tick.new.timed.pass.view) (sym c.read-read.ensures)
    (ticking_entered told before open_gate t done _ told2 told3 c.args.timed.now.pass.view c.enter_tick.new.timed.pass.view c.args.reading _ c.moment_of-moment.ensures ticking tells on c.in_ok-enter_tick.ensures.called)

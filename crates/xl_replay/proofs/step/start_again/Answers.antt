use Rattle.std.proofs.Common.{rules, ◌≤◌, ◌∙◌, List, Err, length, ap, sym, subst}
use Rattle.xl_base.specs.declared.journal.Entry.{Entry}
use Rattle.xl_base.specs.Memory.{BudgetStorage}
use Rattle.xl_house.specs.Housed.{Housed}
use Rattle.xl_house.specs.Journals.{most_entries}
use Rattle.xl_house.specs.State.{start_of}
use Rattle.xl_replay.specs.Replays.{AreMade, IsEnded, IsWhole, allowed_at, stores_of}
use Rattle.xl_replay.proofs.ReplayLaws.{barred_ended, barred_left, unstarted_ended}
use Rattle.xl_replay.proofs.step.start_again.Goals as goal

pub returns-in-Some-clause-ended : goal.returns-in-Some-clause-ended
returns-in-Some-clause-ended c = λ steps rest allowed front.
    let r = c.args.replayer in
    let made : AreMade (start_of r.house.head) r.house.entries (stores_of steps) = subst (λ ns. AreMade (start_of r.house.head) r.house.entries ns) allowed c.barred.ensures.made in
    subst (λ (es : List Entry). IsEnded (start_of r.house.head) steps es (Err c.in-Some.halt)) (sym (ap (λ (h : Housed BudgetStorage). h.entries) c.into_house.ensures))
    (barred_ended (start_of r.house.head) r.house.entries steps rest c.in-Some.halt made front (search rules))

pub returns-in-Err-clause-ended : goal.returns-in-Err-clause-ended
returns-in-Err-clause-ended c = λ steps rest allowed front.
    let r = c.args.replayer in
    let made : AreMade (start_of r.house.head) r.house.entries (stores_of steps) = subst (λ ns. AreMade (start_of r.house.head) r.house.entries ns) allowed c.barred.ensures.made in
    let same = c.in-Err.ensures.journal.1 in
    subst (λ (es : List Entry). IsEnded (start_of r.house.head) steps es (Err c.in-Err.ended.halt)) (sym same)
    (unstarted_ended (start_of r.house.head) r.house.entries steps rest c.in-Err.ended.halt made front (subst (λ (es : List Entry). length es ≤ most_entries) same c.in-Err.ensures.most) (c.barred.ensures.free (search rules)).1 c.in-Err.ensures.full (λ count is. ap (λ ns. allowed_at ns (length r.house.entries)) (sym allowed) ∙ c.in-Err.ensures.failed count is))

pub returns-in-Some-clause-left : goal.returns-in-Some-clause-left
returns-in-Some-clause-left c =
    let halt = c.in-Some.halt in
    subst (λ (h : Housed BudgetStorage). IsWhole h (Err halt)) (sym c.into_house.ensures) (barred_left c.args.replayer.house halt c.in-Some.ensures.may c.in-Some.ensures.halted)

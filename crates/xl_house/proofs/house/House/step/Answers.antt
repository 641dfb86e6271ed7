use Rattle.std.proofs.Common.{List, ap, sym, subst}
use Rattle.xl_base.specs.declared.journal.Entry.{Entry}
use Rattle.xl_house.specs.Awaited.{IsServedBy}
use Rattle.xl_house.specs.Housed.{Housed, is_spoiled}
use Rattle.xl_house.specs.Journals.{last_stores, replay}
use Rattle.xl_house.specs.State.{start_of}
use Rattle.xl_house.proofs.JournalLaws.{allowed_next, stands_next, legal_next, holds_next, holds_after, other_enters, served_after, served_next}
use Rattle.xl_house.proofs.PartedLaws.{next_parted}
use Rattle.xl_house.proofs.house.House.step.Goals as goal

pub invariant_of-self : goal.invariant_of-self
invariant_of-self g c =
    let stands = c.self.invariant.stands (ap is_spoiled c.in-None.is) in
    record {
      stands = λ _. rw c.in-Ok.ensures.entered (stands_next _ _ _ _ _ c.args.event stands (c.act_and_enter.ensures.sound, c.act_and_enter.ensures.distinct) c.in-Ok.ensures.made c.in-Ok.ensures.next c.in-Ok.ensures.numbers c.in-Ok.ensures.short);
      holds = λ _. holds_next _ _ _ c.in-Ok.ensures.next c.in-Ok.ensures.keeper.held;
      few = c.in-Ok.ensures.few;
      legal = rw c.in-Ok.ensures.entered (legal_next _ _ _ _ c.args.event stands c.in-Ok.ensures.made (other_enters _ c.args.event c.requires.goes_on) c.self.invariant.legal);
      served = rw c.in-Ok.ensures.entered (served_next _ _ _ _ c.args.event stands (c.act_and_enter.ensures.sound, c.act_and_enter.ensures.distinct) c.in-Ok.ensures.made c.self.invariant.served);
      halts = rw (c.in-None.is) tt;
    }

pub returns-in-Ok-clause-allowed : goal.returns-in-Ok-clause-allowed
returns-in-Ok-clause-allowed g c =
    rw (← c.self.view_is)
    (λ n left. allowed_next _ _ _ _ _ _ n c.args.event (c.self.invariant.stands (ap is_spoiled c.in-None.is)) c.in-Ok.ensures.entered c.in-Ok.ensures.made c.in-Ok.ensures.next (c.in-Ok.ensures.allowed n left))

pub returns-in-Ok-clause-holds : goal.returns-in-Ok-clause-holds
returns-in-Ok-clause-holds g c =
    rw c.in-Ok.ensures.entered
    (holds_after _ _ _ _ _ _ c.args.event (c.self.invariant.stands (ap is_spoiled c.in-None.is)) c.in-Ok.ensures.made c.in-Ok.ensures.next (holds_next _ _ _ c.in-Ok.ensures.next c.in-Ok.ensures.keeper.held))

pub returns-in-Err-clause-full : goal.returns-in-Err-clause-full
returns-in-Err-clause-full g c = λ count none. rw (ap (λ (h : Housed _). h.entries) c.self.view_is) at (c.in-Err.ensures.full count)

pub returns-in-Ok-clause-served : goal.returns-in-Ok-clause-served
returns-in-Ok-clause-served g c =
    rw (← c.self.view_is)
    (subst (λ (es : List Entry). IsServedBy (last_stores c.act_and_enter.new.entries.items) (replay (start_of c.self.inside.head) c.self.inside.entries.items) c.args.event (replay (start_of c.self.inside.head) es)) (sym c.in-Ok.ensures.entered)
    (served_after _ _ _ _ c.args.event (c.self.invariant.stands (ap is_spoiled c.in-None.is)) (c.act_and_enter.ensures.sound, c.act_and_enter.ensures.distinct) c.in-Ok.ensures.made))

pub returns-in-Ok-clause-parted : goal.returns-in-Ok-clause-parted
returns-in-Ok-clause-parted g c = rw (← c.self.view_is) (next_parted _ c.self.inside.head c.self.inside.entries.items c.args.event)

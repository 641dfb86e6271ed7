use Rattle.std.proofs.Common.{refl, subst, sym}
use Rattle.xl_base.specs.Links.{Receives}
use Rattle.xl_base.specs.declared.lane.ReceiveOutcome.TheVariants as receive
use Rattle.xl_work.specs.Lives.{Carries, Loses}
use Rattle.xl_work.proofs.ServeLaws.{feeds, loses, newest_follows, on_err, on_ok_as}
use Rattle.xl_work.proofs.begin.receive.Goals as goal

pub returns-in-Got-clause-carries : goal.returns-in-Got-clause-carries
returns-in-Got-clause-carries g c =
    on_ok_as c.take_in.result _ _
    (λ is. newest_follows _ _ (Receives (receive.Got c.in-Got.count) _) (Carries c.args.live.now c.take_in.new.live) c.in-Got.ensures.told (λ l m took. subst (λ w. Carries c.args.live.now w l m) (sym is) (feeds c.args.live.now c.in-Got.count _ _ l m c.requires.settled.0 c.requires.settled.1 took refl)))
    c.take_in.ensures.ok

pub returns-in-Got-clause-loses : goal.returns-in-Got-clause-loses
returns-in-Got-clause-loses g c = on_err c.take_in.result _ (newest_follows _ _ (Receives (receive.Got c.in-Got.count) _) (Loses c.args.live.now) c.in-Got.ensures.told (λ l m took. loses c.args.live.now c.in-Got.count _ l m c.requires.settled.1 took))

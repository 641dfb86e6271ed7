use Rattle.xl_core.specs.Whole.{state_of}
use Rattle.xl_core.proofs.StoreLaws.{may_be_before}
use Rattle.xl_core.specs.Ticks.{tick}
use Rattle.xl_core.proofs.GoodLaws.{tick_good}
use Rattle.xl_core.proofs.TickCode.{tried_good, tick_is, ticked_hands}
use Rattle.xl_core.proofs.ticking.tick.Goals as goal

pub lapse_all-requires-clause-held_up : goal.lapse_all-requires-clause-held_up
lapse_all-requires-clause-held_up g c = c.advance.ensures.held_up c.args.unsettled.now c.requires.held_up

pub returns-clause-state : goal.returns-clause-state
returns-clause-state g c = λ n may.
    let u = state_of c.lapse_all.new.parts in
    let v = state_of c.expire_all.new.parts in
    let w = state_of c.end_grace.new.parts in
    let at_v = may_be_before n v w c.in_ok-end_grace.ensures.on may in
    let at_u = may_be_before n u v c.in_ok-expire_all.ensures.on at_v in
    tick_is n (state_of c.args.parts.now) (state_of c.advance.new.parts) u v w c.args.now c.new-effects.result c.lapse_all.new.effects c.expire_all.new.effects c.new-effects.ensures c.advance.ensures.state
    (c.in_ok-lapse_all.ensures.state n at_u) (c.in_ok-expire_all.ensures.state n at_v) (c.in_ok-end_grace.ensures.state n may)

pub returns-clause-good : goal.returns-clause-good
returns-clause-good g c = tried_good (λ n s. tick n s c.args.now) (state_of c.args.parts.now) (state_of c.end_grace.new.parts) c.expire_all.new.effects (λ n. tick_good n (state_of c.args.parts.now) c.args.now c.requires.good) (returns-clause-state g c)

pub returns-clause-keeper : goal.returns-clause-keeper
returns-clause-keeper g c =
    ticked_hands (state_of c.args.parts.now) (state_of c.advance.new.parts) (state_of c.lapse_all.new.parts) (state_of c.expire_all.new.parts) (state_of c.end_grace.new.parts) c.args.now _ _ _ _ c.advance.ensures.state
    c.in_ok-lapse_all.ensures.on c.in_ok-lapse_all.ensures.keeper c.in_ok-expire_all.ensures.on c.in_ok-expire_all.ensures.keeper c.in_ok-end_grace.ensures.on c.in_ok-end_grace.ensures.keeper

use Rattle.xl_core.specs.Whole.{state_of}
use Rattle.xl_core.proofs.TickCode.{expires_here, gone_on, gone_hands}
use Rattle.xl_core.proofs.ticking.expire.Goals as goal

pub returns-clause-state : goal.returns-clause-state
returns-clause-state g c = λ n may.
    expires_here n (state_of c.args.parts.now) (state_of c.forget.new.parts) (state_of c.take_out.new.parts) c.args.client c.as_slice.result.now c.in_ok-effects.effects c.in_ok-forget.field-0 c.as_slice.ensures
    (c.in_ok-forget.ensures.may n) c.if-not-branch.false c.in_ok-forget.ensures.state c.in_ok-effects.ensures.state may

pub returns-clause-on : goal.returns-clause-on
returns-clause-on g c = gone_on (state_of c.args.parts.now) (state_of c.forget.new.parts) (state_of c.take_out.new.parts) c.args.client c.in_ok-effects.effects c.in_ok-forget.ensures.on c.in_ok-effects.ensures.state

pub returns-clause-keeper : goal.returns-clause-keeper
returns-clause-keeper g c =
    gone_hands (state_of c.args.parts.now) (state_of c.forget.new.parts) (state_of c.take_out.new.parts) c.args.client c.in_ok-effects.effects _ _ c.in_ok-forget.ensures.on c.in_ok-forget.ensures.keeper c.in_ok-effects.ensures.state

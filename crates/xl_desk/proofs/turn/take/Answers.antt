use Rattle.xl_desk.proofs.turn.take.Goals as goal

pub returns-then-attempt-clause-turn : goal.returns-then-attempt-clause-turn
returns-then-attempt-clause-turn g c = rw (← c.loop.invariant.3) (c.attempt.ensures.turn c.if-attempt.true)

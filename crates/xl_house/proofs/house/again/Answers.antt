use Rattle.xl_house.proofs.house.again.Goals as goal

pub returns-in-None-clause-full : goal.returns-in-None-clause-full
returns-in-None-clause-full g c = λ count none. c.start_again.ensures.full count

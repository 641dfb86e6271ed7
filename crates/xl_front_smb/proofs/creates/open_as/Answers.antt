use Rattle.xl_front_smb.proofs.creates.open_as.Goals as goal

pub returns-clause-keeper : goal.returns-clause-keeper
returns-clause-keeper g c = λ before told. c.in_ok-answer.ensures.keeper before (c.drawn-number.ensures.quiet before _ told)

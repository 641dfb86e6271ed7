use Rattle.xl_nfs_opens.proofs.opening.grant_new.Goals as goal

pub returns-clause-quiet : goal.returns-clause-quiet
returns-clause-quiet c = λ before now told. c.in_ok-delegation.ensures.quiet before now (c.drawn.ensures.quiet before now told)

use Rattle.xl_front_nfs.proofs.setting.draw_numbers.Goals as goal

pub returns-in-None-clause-quiet : goal.returns-in-None-clause-quiet
returns-in-None-clause-quiet c = λ before now told. c.drawn.ensures.quiet before now (c.drawn-first.ensures.quiet before now told)

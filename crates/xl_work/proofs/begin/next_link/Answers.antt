use Rattle.xl_work.proofs.ServeLaws.{serving_come, serving_gone}
use Rattle.xl_work.proofs.begin.next_link.Goals as goal

pub returns-in-Link-clause-serving : goal.returns-in-Link-clause-serving
returns-in-Link-clause-serving g c told before s = c.open.ensures.serving told before (serving_come told before _ _ _ _ _ c.in-Link.kind c.requires.idle s c.in-Link.ensures.told)

pub returns-in-Link-clause-left : goal.returns-in-Link-clause-left
returns-in-Link-clause-left g c told before s = c.open.ensures.left told before (serving_come told before _ _ _ _ _ c.in-Link.kind c.requires.idle s c.in-Link.ensures.told)

pub returns-in-End-clause-left : goal.returns-in-End-clause-left
returns-in-End-clause-left g c told before s = serving_gone told before _ _ _ _ _ _ _ c.requires.idle s c.in-End.ensures.told

pub returns-in-Failed-clause-left : goal.returns-in-Failed-clause-left
returns-in-Failed-clause-left g c told before s = serving_gone told before _ _ _ _ _ _ _ c.requires.idle s c.in-Failed.ensures.told

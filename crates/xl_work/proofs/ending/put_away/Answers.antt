use Rattle.std.proofs.Common.{◌∙◌, sym}
use Rattle.xl_work.proofs.ServeLaws.{serving_away}
use Rattle.xl_work.proofs.ending.put_away.Goals as goal

pub returns-in-Ok-clause-serving : goal.returns-in-Ok-clause-serving
returns-in-Ok-clause-serving g c told before s closing caught = serving_away told before _ _ _ _ _ _ c.in-Some.live (sym c.take.ensures.value ∙ c.in-Some.is) s c.shut.ensures.told (c.reserve.ensures.items ∙ c.push_reserved.ensures.items) closing caught

pub returns-clause-serving : goal.returns-clause-serving
returns-clause-serving g c told before s closing caught = serving_away told before _ _ _ _ _ _ c.in-Some.live (sym c.take.ensures.value ∙ c.in-Some.is) s c.shut.ensures.told (c.reserve.ensures.items ∙ c.push_reserved.ensures.items) closing caught

use Rattle.std.proofs.Common.{refl}
use Rattle.xl_house.proofs.JournalLaws.{extends_by, both_ok}
use Rattle.xl_house.proofs.house.HouseSerial.step.Goals as goal

pub returns-clause-ok : goal.returns-clause-ok
returns-clause-ok g c = both_ok c.step.result _ _ _ (λ place below ok. extends_by c.args.self.now c.step.new.self _ _ c.args.event place refl below ok) c.step.ensures.below c.step.ensures.ok

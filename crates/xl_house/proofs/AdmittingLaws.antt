-- While grace runs only those enter who reclaim and whom the record has.
use Rattle.std.proofs.Common.{ℕ, List, [], ◌∷◌}
use Rattle.xl_core.specs.Deeds.{Deed, Asks, Serves, done, AreFit}
use Rattle.xl_core.specs.Good.{IsGood}
use Rattle.xl_core.specs.Knowing.{KnowsRecord}
use Rattle.xl_core.specs.State.{CoreState}
use Rattle.xl_core.proofs.DeedLaws.{deed_good}
use Rattle.xl_core.proofs.KnowingLaws.{deeds_know, granted_in_grace, no_turn}
use Rattle.xl_plan.specs.Plans.{AllAt}
use Rattle.xl_house.specs.Recording.{IsAdmittedBy}

deed_admits : (n : ℕ) (s : CoreState) (d : Deed) → IsGood s → KnowsRecord s → IsAdmittedBy n s d
deed_admits n s (Asks left a) good knows = λ g c runs asks e. granted_in_grace n left s a c g knows runs asks e
deed_admits n s (Serves left) good knows = λ g runs. no_turn n left s g good runs
deed_admits n s d good knows = tt

pub deeds_admit : (n : ℕ) (s : CoreState) (ds : List Deed) → IsGood s → AreFit n s ds → KnowsRecord s → AllAt (λ u d. IsAdmittedBy n u d) n s ds
deeds_admit n s [] good fit knows = tt
deeds_admit n s (d ∷ ds) good fit knows =
    (deed_admits n s d good knows, deeds_admit n (done n s d) ds (deed_good n s d good fit.0) fit.1 (deeds_know n s (d ∷ []) good (fit.0, tt) knows))

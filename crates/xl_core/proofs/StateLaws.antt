-- A good state, part by part.
use Rattle.std.proofs.Common.{◌≤◌, length}
use Rattle.std.specs.List.{AllByRecursion}
use Rattle.xl_base.specs.Lists.{Pairwise}
use Rattle.xl_names.specs.Names.{AreDistinct, most_names}
use Rattle.xl_core.specs.Good.{are_apart, IsWaiter, IsGood}
use Rattle.xl_core.specs.Limits.{most_waiters}
use Rattle.xl_core.specs.State.{CoreState}
use Rattle.xl_core.proofs.ClaimLaws.{AreGood}

pub good_claims : (s : CoreState) → IsGood s → AreGood s.names s.claims
good_claims s good = record { kept = good.kept; compatible = good.compatible; single = good.single; known = good.known }

pub good_from : (t : CoreState) → AreGood t.names t.claims → AreDistinct t.names → length t.names ≤ most_names → AllByRecursion (IsWaiter t.names t.counter) t.waiters → Pairwise are_apart t.waiters → length t.waiters ≤ most_waiters → IsGood t
good_from t good distinct few waits apart crowd = record {
  kept = good.kept;
  compatible = good.compatible;
  single = good.single;
  known = good.known;
  waiters = waits;
  apart = apart;
  crowd = crowd;
  distinct = distinct;
  few = few;
}

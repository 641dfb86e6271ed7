use Rattle.std.proofs.Common.{ap, ◌∙◌}
use Rattle.xl_house.specs.Housed.{Housed, is_spoiled}
use Rattle.xl_house.proofs.FittingLaws.{always_fitting}
use Rattle.xl_house.proofs.SteadyLaws.{always_steady}
use Rattle.xl_house.proofs.EntryLaws.{always_wishing, always_breaking, always_keeping, always_partied}
use Rattle.xl_house.proofs.OwedLaws.{always_owed}
use Rattle.xl_house.proofs.ReplyingLaws.{always_replied}
use Rattle.xl_house.proofs.AskingLaws.{always_asking}
use Rattle.xl_house.proofs.JournalLaws.{holds_stands}
use Rattle.xl_house.proofs.LawfulLaws.{always_lawful, always_waiting, always_kept, always_complete, always_caused, always_told}
use Rattle.xl_house.proofs.MachineLaws.{begun_free}
use Rattle.xl_house.proofs.MeantLaws.{always_meant}
use Rattle.xl_house.proofs.NfsTiedLaws.{always_tied}
use Rattle.xl_house.proofs.NotifiedLaws.{always_notified}
use Rattle.xl_house.proofs.OrderLaws.{legal_orderly}
use Rattle.xl_house.proofs.PartedLaws.{always_parted}
use Rattle.xl_house.proofs.RecordLaws.{always_admitting, always_recording}
use Rattle.xl_house.proofs.CrashLaws.{always_cut}
use Rattle.xl_house.proofs.TruthfulLaws.{never_collide}
use Rattle.xl_house.proofs.house.House.end.Goals as goal

pub returns-clause-free : goal.returns-clause-free
returns-clause-free g c = begun_free _ _

pub returns-clause-lawful : goal.returns-clause-lawful
returns-clause-lawful g c = always_lawful _ _

pub returns-clause-steady : goal.returns-clause-steady
returns-clause-steady g c = always_steady _ _

pub returns-clause-recorded : goal.returns-clause-recorded
returns-clause-recorded g c = rw c.from_vec-entries.ensures (always_recording _ _ c.self.invariant.legal)

pub returns-clause-admitted : goal.returns-clause-admitted
returns-clause-admitted g c = always_admitting _ _

pub returns-clause-crashed : goal.returns-clause-crashed
returns-clause-crashed g c = always_cut _ _

pub returns-clause-truthful : goal.returns-clause-truthful
returns-clause-truthful g c = λ before more were. never_collide _ before _ were

pub returns-clause-parties : goal.returns-clause-parties
returns-clause-parties g c = always_partied _ _

pub returns-clause-waiting : goal.returns-clause-waiting
returns-clause-waiting g c = always_waiting _ _

pub returns-clause-kept_until_answered : goal.returns-clause-kept_until_answered
returns-clause-kept_until_answered g c = always_kept _ _

pub returns-clause-broken : goal.returns-clause-broken
returns-clause-broken g c = always_breaking _ _

pub returns-clause-caches_kept : goal.returns-clause-caches_kept
returns-clause-caches_kept g c = always_keeping _ _

pub returns-clause-complete : goal.returns-clause-complete
returns-clause-complete g c = always_complete _ _

pub returns-clause-fit : goal.returns-clause-fit
returns-clause-fit g c = always_fitting _ _

pub returns-clause-wished : goal.returns-clause-wished
returns-clause-wished g c = always_wishing _ _

pub returns-clause-asking : goal.returns-clause-asking
returns-clause-asking g c = always_asking _ _

pub returns-clause-owed : goal.returns-clause-owed
returns-clause-owed g c = always_owed _ _

pub returns-clause-meant : goal.returns-clause-meant
returns-clause-meant g c = always_meant _ _

pub returns-clause-caused : goal.returns-clause-caused
returns-clause-caused g c = always_caused _ _

pub returns-clause-replied : goal.returns-clause-replied
returns-clause-replied g c = always_replied _ _

pub returns-clause-told : goal.returns-clause-told
returns-clause-told g c = rw c.from_vec-entries.ensures (always_told _ _ c.self.invariant.legal)

pub returns-clause-notified : goal.returns-clause-notified
returns-clause-notified g c = rw c.from_vec-entries.ensures (always_notified _ _ c.self.invariant.legal)

pub returns-clause-parted : goal.returns-clause-parted
returns-clause-parted g c = rw c.from_vec-entries.ensures (always_parted _ _ c.self.invariant.legal)

pub returns-clause-tied : goal.returns-clause-tied
returns-clause-tied g c = always_tied _ _

pub returns-clause-orderly : goal.returns-clause-orderly
returns-clause-orderly g c = rw c.from_vec-entries.ensures (legal_orderly _ _ c.self.invariant.legal)

pub returns-clause-holds : goal.returns-clause-holds
returns-clause-holds g c = λ unspoiled.
    let sound = ap (λ (h : Housed _). is_spoiled h.halt) c.self.view_is ∙ unspoiled in
    rw c.from_vec-entries.ensures (holds_stands _ _ _ _ (c.self.invariant.stands sound) (c.self.invariant.holds sound))

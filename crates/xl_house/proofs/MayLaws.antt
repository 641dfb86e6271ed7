-- Which deeds the fronts' tables have: such as a message may do, or the end of a connection. None of them tells of a grant.
use Rattle.std.proofs.Common.{◌≡◌, ℕ, true, false, inl, inr, Option, Some, None, List, [], ◌∷◌, ◌++◌, refl, ap, ◌∙◌, arith}
use Rattle.std.proofs.lemmas.Bool.{cases_Bool, both_ways}
use Rattle.std.specs.List.{AllByRecursion}
use Rattle.xl_base.proofs.Members.{all_weaker}
use Rattle.xl_base.specs.declared.event.Event.TheVariants.{Message, End}
use Rattle.xl_base.specs.declared.journal.Exports.{Exports}
use Rattle.xl_names.specs.declared.name.Name.{Name}
use Rattle.xl_programs.specs.Programs.{RequestItem}
use Rattle.xl_wait.specs.declared.waiter.Rooms.{Rooms}
use Rattle.xl_core.specs.State.{CoreState}
use Rattle.xl_core.specs.Askers.{asked_whats, asked_claims, is_client}
use Rattle.xl_core.specs.BreakAnswers.{ack}
use Rattle.xl_core.specs.Clients.{IsOf, IsOfSome}
use Rattle.xl_plan.proofs.PlanLaws.{at_each}
use Rattle.xl_core.specs.Decide.{plea_of, way, ask}
use Rattle.xl_core.specs.Deeds.{Deed, Asks, GivesBack, Weakens, Acks, Cancels, Ends, Closes, Draws, Renews, given, done, all_told_of, IsFitDeed, AreFit}
use Rattle.xl_core.specs.Frames.{serves_none}
use Rattle.xl_core.specs.Good.{IsGood}
use Rattle.xl_core.specs.Settle.{cancel, close_open, give_back, weaken, end_party}
use Rattle.xl_core.specs.Ticks.{renew}
use Rattle.xl_core.specs.declared.ask.Ask.{Ask}
use Rattle.xl_core.specs.declared.ask.Effect.{Effect}
use Rattle.xl_core.specs.declared.ask.Effect.TheVariants.{Begun, Served, Cancelled, Expired}
use Rattle.xl_core.proofs.DeedLaws.{deed_good}
use Rattle.xl_core.proofs.FrameLaws.{ask_quiet, cancel_unserved, give_back_unserved, weaken_unserved, ack_unserved, close_open_unserved, end_party_unserved, renew_unserved}
use Rattle.xl_core.proofs.WayLaws.{way_serves}
use Rattle.xl_front_nfs.specs.FrontNfs.{nfs_deeds}
use Rattle.xl_nfs_opens.specs.Owners.{IsBy, AreBy}
use Rattle.xl_front_nfs.specs.State.{FrontNfs}
use Rattle.xl_nfs_laws.proofs.RequestOwn.{request_by}
use Rattle.xl_front_nlm.specs.FrontNlm.{nlm_client, nlm_deeds}
use Rattle.xl_front_nlm.specs.State.{FrontState}
use Rattle.xl_front_nlm.proofs.DoesLaws.{step_own}
use Rattle.xl_front_smb.specs.Ending.{smb_end_deeds}
use Rattle.xl_front_smb.specs.FrontSmb.{smb_deeds}
use Rattle.xl_front_smb.specs.Owners.{IsOwn, is_end}
use Rattle.xl_front_smb.specs.State.{FrontSmb}
use Rattle.xl_smb_laws.proofs.RequestOwn as smb
use Rattle.xl_smb_state.specs.State.{Lists}
use Rattle.xl_house.specs.Lawful.{may_do}
use Rattle.xl_house.specs.Telling.{is_grant, grants}

abbrev pub May : ℕ → List ℕ → List Deed → Type 0
May number bytes ds = AllByRecursion (λ d. may_do (Message number bytes) d ≡ true) ds

abbrev pub MayEnd : ℕ → List Deed → Type 0
MayEnd number ds = AllByRecursion (λ d. may_do (End number) d ≡ true) ds

-- ---- NLM

of_may : (s : CoreState) (client : Name) (number : ℕ) (bytes : List ℕ) (d : Deed) → IsOf s client d → may_do (Message number bytes) d ≡ true
of_may s client number bytes (Asks left a) own = refl
of_may s client number bytes (GivesBack claim) own = refl
of_may s client number bytes (Weakens share access deny) own = refl
of_may s client number bytes (Cancels id) own = refl
of_may s client number bytes (Ends party) own = refl
of_may s client number bytes (Renews id) own = refl
of_may s client number bytes d own = absurd own

some_may : (s : CoreState) (client : Option Name) (number : ℕ) (bytes : List ℕ) (d : Deed) → IsOfSome s client d → may_do (Message number bytes) d ≡ true
some_may s None number bytes d own = absurd own
some_may s (Some client) number bytes d own = of_may s client number bytes d own

pub nlm_may : (n number : ℕ) (bytes : List ℕ) (exports : Exports) (f : FrontState) (s : CoreState) (r : RequestItem) → IsGood s → May number bytes (nlm_deeds n exports f s r)
nlm_may n number bytes exports f s r good =
    at_each (λ t d. IsOfSome t (nlm_client r) d) (λ d. may_do (Message number bytes) d ≡ true) n s (nlm_deeds n exports f s r) (λ t d own. some_may t (nlm_client r) number bytes d own) (step_own n exports f s r good)

-- ---- NFSv4

one_may : (s : CoreState) (number : ℕ) (bytes : List ℕ) (d : Deed) → IsBy s (λ _. Unit {0}) d → may_do (Message number bytes) d ≡ true
one_may s number bytes Draws own = refl
one_may s number bytes (Asks left a) own = refl
one_may s number bytes (GivesBack claim) own = refl
one_may s number bytes (Weakens share access deny) own = refl
one_may s number bytes (Ends party) own = refl
one_may s number bytes (Renews id) own = refl
one_may s number bytes d own = absurd own

theirs_may : (n : ℕ) (s : CoreState) (number : ℕ) (bytes : List ℕ) (ds : List Deed) → AreBy n s (λ _. Unit {0}) ds → May number bytes ds
theirs_may n s number bytes [] own = tt
theirs_may n s number bytes (d ∷ ds) own = (one_may s number bytes d own.0, theirs_may n (done n s d) number bytes ds own.1)

pub nfs_may : (n number : ℕ) (bytes : List ℕ) (exports : Exports) (others : ℕ) (f : FrontNfs) (s : CoreState) (r : RequestItem) → IsGood s → May number bytes (nfs_deeds n exports others f s r)
nfs_may n number bytes exports others f s r good = theirs_may n s number bytes (nfs_deeds n exports others f s r) (request_by n exports others f s r good)

-- ---- SMB

open_may : (number : ℕ) (bytes : List ℕ) (names : List Name) (conn : ℕ) (l : Lists) (last : ℕ) (d : Deed) → IsOwn names conn l last d → may_do (Message number bytes) d ≡ true
open_may number bytes names conn l last Draws own = refl
open_may number bytes names conn l last (Closes opened party) own = refl
open_may number bytes names conn l last (Asks left a) own = refl
open_may number bytes names conn l last (Acks cache to) own = refl
open_may number bytes names conn l last (Cancels id) own = refl
open_may number bytes names conn l last d own = absurd own

pub smb_may : (n : ℕ) (exports : Exports) (others : ℕ) (f : FrontSmb) (s : CoreState) (number : ℕ) (bytes : List ℕ) → May number bytes (smb_deeds n exports others f s number bytes)
smb_may n exports others f s number bytes =
    all_weaker (IsOwn s.names number f.state s.counter) (λ d. may_do (Message number bytes) d ≡ true) (smb_deeds n exports others f s number bytes)
    (λ d own. open_may number bytes s.names number f.state s.counter d own) (smb.step_own n exports others f s number bytes)

last_one_may : (number : ℕ) (d : Deed) → is_end d ≡ true → may_do (End number) d ≡ true
last_one_may number (Closes opened party) is = refl
last_one_may number d is = absurd cc

pub last_may : (f : FrontSmb) (s : CoreState) (number : ℕ) → MayEnd number (smb_end_deeds f s number)
last_may f s number = all_weaker (λ d. is_end d ≡ true) (λ d. may_do (End number) d ≡ true) (smb_end_deeds f s number) (λ d is. last_one_may number d is) (smb.ends_alone f s number)

-- what the end of a connection may do, a message may too
may_of_end : (number : ℕ) (d : Deed) → may_do (End number) d ≡ true → may_do (Message number []) d ≡ true
may_of_end number (Closes opened party) may = refl
may_of_end number d may = absurd cc

-- ---- nobody is served by them

-- where nobody is served nothing is granted
pub unserved_quiet : (effects : List Effect) → serves_none effects ≡ true → grants effects ≡ 0
unserved_quiet [] none = refl
unserved_quiet (Served party id answer ∷ effects) none = absurd (both_ways false refl none)
unserved_quiet (Begun claim to number ∷ effects) none = unserved_quiet effects none
unserved_quiet (Cancelled party id ∷ effects) none = unserved_quiet effects none
unserved_quiet (Expired id ∷ effects) none = unserved_quiet effects none

pub both_quiet : (xs ys : List Effect) → grants xs ≡ 0 → grants ys ≡ 0 → grants (xs ++ ys) ≡ 0
both_quiet [] ys none rest = rest
both_quiet (x ∷ xs) ys none rest =
    elim (cases_Bool (is_grant x)) [
      | inl grant ↦ absurd (omega (arith, rw grant at none))
      | inr quiet ↦ rw quiet (both_quiet xs ys (rw quiet at none) rest)
    ]

-- an ask tells of the breaks that it begins alone
pub asked_quiet : (n : ℕ) (left : Rooms) (s : CoreState) (a : Ask) → IsGood s → is_client a.owner a.party ≡ true → grants (ask n left s a).1 ≡ 0
asked_quiet n left s a good client =
    ap (λ (effects : List Effect). grants effects) (ask_quiet n left s a good client) ∙ unserved_quiet (way left s a).0 (way_serves s.waiters (plea_of left s a) (asked_claims a (asked_whats a.act) s.names) s)

deed_quiet : (n : ℕ) (s : CoreState) (number : ℕ) (bytes : List ℕ) (d : Deed) → IsGood s → IsFitDeed s d → may_do (Message number bytes) d ≡ true → grants (given n s d).1 ≡ 0
deed_quiet n s number bytes (Asks left a) good fit may = asked_quiet n left s a good fit.party
deed_quiet n s number bytes (GivesBack claim) good fit may = unserved_quiet (give_back s claim).0 (give_back_unserved s claim)
deed_quiet n s number bytes (Weakens share access deny) good fit may = unserved_quiet (weaken s share access deny).0 (weaken_unserved s share access deny)
deed_quiet n s number bytes (Acks cache to) good fit may = unserved_quiet (ack s cache to).0 (ack_unserved s cache to)
deed_quiet n s number bytes (Cancels id) good fit may = unserved_quiet (cancel s id).0 (cancel_unserved s id)
deed_quiet n s number bytes (Ends party) good fit may = unserved_quiet (end_party s party).0 (end_party_unserved s party)
deed_quiet n s number bytes (Closes opened party) good fit may = unserved_quiet (close_open s opened party).0 (close_open_unserved s opened party)
deed_quiet n s number bytes (Renews id) good fit may = unserved_quiet (renew s id).0 (renew_unserved s id)
deed_quiet n s number bytes Draws good fit may = refl
deed_quiet n s number bytes d good fit may = absurd cc

-- no deed of a message tells of a grant
pub may_quiet : (n : ℕ) (s : CoreState) (number : ℕ) (bytes : List ℕ) (ds : List Deed) → IsGood s → AreFit n s ds → May number bytes ds → grants (all_told_of n s ds) ≡ 0
may_quiet n s number bytes [] good fit may = refl
may_quiet n s number bytes (d ∷ ds) good fit may =
    both_quiet (given n s d).1 (all_told_of n (done n s d) ds) (deed_quiet n s number bytes d good fit.0 may.0) (may_quiet n (done n s d) number bytes ds (deed_good n s d good fit.0) fit.1 may.1)

-- nor does one of a connection's end
pub end_quiet : (n : ℕ) (s : CoreState) (number : ℕ) (ds : List Deed) → IsGood s → AreFit n s ds → MayEnd number ds → grants (all_told_of n s ds) ≡ 0
end_quiet n s number ds good fit may =
    may_quiet n s number [] ds good fit (all_weaker (λ d. may_do (End number) d ≡ true) (λ d. may_do (Message number []) d ≡ true) ds (λ d can. may_of_end number d can) may)

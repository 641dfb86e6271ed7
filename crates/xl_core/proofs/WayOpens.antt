-- An SMB open's asks for ranges, behind their way.
use Rattle.std.proofs.Common.{◌≡◌, ℕ, Bool, false, List, ◌++◌, map, sym, ap, subst, ◌∙◌, ◌↔◌}
use Rattle.xl_base.specs.declared.name.Owner.TheVariants as owners
use Rattle.xl_matrix.specs.declared.claim.Claim.{Claim}
use Rattle.xl_matrix.specs.declared.claim.Extent.{Extent}
use Rattle.xl_matrix.specs.declared.claim.What.{What}
use Rattle.xl_table.specs.Elements.{elements_of, unlocked_elements}
use Rattle.xl_wait.specs.declared.waiter.Rooms.{Rooms}
use Rattle.xl_core.specs.Askers.{range_what, asked_whats, known_claim, IsFit}
use Rattle.xl_core.specs.Causes.{IsElementDue}
use Rattle.xl_core.specs.Decide.{Answered, decided, way, before_wish, does_wish, ask}
use Rattle.xl_core.specs.Good.{IsGood}
use Rattle.xl_core.specs.State.{CoreState}
use Rattle.xl_core.specs.declared.ask.Act.TheVariants as acts
use Rattle.xl_core.specs.declared.ask.Answer.{Answer}
use Rattle.xl_core.specs.declared.ask.Answer.TheVariants as answers
use Rattle.xl_core.specs.declared.ask.Ask.{Ask}
use Rattle.xl_core.specs.declared.ask.Who.TheVariants as who
use Rattle.xl_core.proofs.BreaksBegunLaws.{begun_elements}
use Rattle.xl_core.proofs.DeedCalls.{decided_keeps_claims}
use Rattle.xl_core.proofs.GoodLaws.{asked_way_good}
use Rattle.xl_core.proofs.OpenLaws.{ranges_locked, range_unlocked, range_due}
use Rattle.xl_core.proofs.WayAsks.{ask_way_keeps, ask_way_none, ask_there, no_wish_after}
use Rattle.xl_core.proofs.AskWishLaws.{ungranted_after}

pub ask_locked : (n : ℕ) (left : Rooms) (s : CoreState) (a : Ask) (ranges : List (Extent × Bool)) (number : ℕ) (c : Claim) → IsGood s → IsFit a → a.owner ≡ who.Open number → a.act ≡ acts.Ranges ranges → (ask n left s a).0 ≡ answers.Granted c
    → elements_of a.file (owners.Open number) (ask n left s a).2.claims ≡ elements_of a.file (owners.Open number) s.claims ++ map range_what ranges
unfolding ask before_wish
ask_locked n left s a ranges number c good fit owner act at =
    ap (λ (x : CoreState). elements_of a.file (owners.Open number) x.claims) (no_wish_after a (decided n left (way left s a).1 a).0 (decided n left (way left s a).1 a).2 (ap does_wish act))
    ∙ ranges_locked n left (way left s a).1 a ranges number c (asked_way_good left s a good) fit owner act at
    ∙ ap (λ (es : List What). es ++ map range_what ranges) (ask_way_keeps (λ x. elements_of a.file (owners.Open number) x.claims) left s a (λ d. begun_elements s d a.file (owners.Open number)))

pub ask_refused : (n : ℕ) (left : Rooms) (s : CoreState) (a : Ask) → IsGood s → IsFit a → ((c : Claim) → (ask n left s a).0 ≡ answers.Granted c → ⊥) → (ask n left s a).2.claims ≡ (way left s a).1.claims
unfolding ask before_wish
ask_refused n left s a good fit none = ap (λ (x : CoreState). x.claims) (ungranted_after a (decided n left (way left s a).1 a).0 (decided n left (way left s a).1 a).2 none) ∙ decided_keeps_claims n left (way left s a).1 a (asked_way_good left s a good) fit none

pub ask_unlocked : (n : ℕ) (left : Rooms) (s : CoreState) (a : Ask) (extent : Extent) (number : ℕ) (c : Claim) → IsGood s → IsFit a → a.owner ≡ who.Open number → a.act ≡ acts.Unlock extent → (ask n left s a).0 ≡ answers.Granted c
    → elements_of a.file (owners.Open number) (ask n left s a).2.claims ≡ unlocked_elements extent (elements_of a.file (owners.Open number) s.claims)
ask_unlocked n left s a extent number c good fit owner act at =
    let there = ask_there n left s a (ask_way_none left s a (ap asked_whats act)) in
    ap (λ (r : Answered). elements_of a.file (owners.Open number) r.2.claims) there
    ∙ ap (λ (x : CoreState). elements_of a.file (owners.Open number) x.claims) (no_wish_after a (decided n left s a).0 (decided n left s a).2 (ap does_wish act))
    ∙ range_unlocked n left s a extent number c good fit owner act (sym (ap (λ (r : Answered). r.0) there) ∙ at)

pub ask_element : (n : ℕ) (left : Rooms) (s : CoreState) (a : Ask) (extent : Extent) (number : ℕ) (answer : Answer) → a.owner ≡ who.Open number → a.act ≡ acts.Unlock extent → ((ask n left s a).0 ≡ answer) ↔ IsElementDue s (known_claim a extent false s.names) extent answer
ask_element n left s a extent number answer owner act =
    subst (λ (r : Answered). (r.0 ≡ answer) ↔ IsElementDue s (known_claim a extent false s.names) extent answer) (sym (ask_there n left s a (ask_way_none left s a (ap asked_whats act)))) (range_due n left s a extent number answer owner act)

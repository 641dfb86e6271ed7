-- What a LOCK and an unlock of an SMB open make of its ranges.
use Rattle.std.proofs.Common.{◌≡◌, ℕ, Bool, true, false, ◌&&◌, List, [], ◌∷◌, ◌++◌, map, refl, sym, ap, subst, ◌∙◌, append_assoc, ◌↔◌}
use Rattle.std.specs.List.{AllByRecursion}
use Rattle.std.proofs.lemmas.List.{append-nil}
use Rattle.xl_base.specs.declared.name.Owner.{Owner}
use Rattle.xl_matrix.specs.Owners.{posix}
use Rattle.xl_matrix.specs.declared.claim.Claim.{Claim}
use Rattle.xl_matrix.specs.declared.claim.Extent.{Extent}
use Rattle.xl_matrix.specs.declared.claim.What.{What}
use Rattle.xl_names.specs.declared.name.Name.{Name}
use Rattle.xl_table.specs.Elements.{elements_of, unlocked_elements}
use Rattle.xl_table.specs.Relock.{is_range_of, granted_claims}
use Rattle.xl_table.proofs.ShareLaws.{is_own}
use Rattle.xl_wait.specs.declared.waiter.Rooms.{Rooms}
use Rattle.xl_core.specs.State.{CoreState}
use Rattle.xl_core.specs.Askers.{range_what, asker, asked_claim, asked_claims, both_entered, known_claim, known_owner, IsFit, IsFitAct}
use Rattle.xl_core.specs.Causes.{IsElementDue}
use Rattle.xl_core.specs.Decide.{plea_of, decided}
use Rattle.xl_core.specs.Good.{IsKnown, IsGood}
use Rattle.xl_core.specs.Judge.{all_granted}
use Rattle.xl_core.specs.declared.ask.Act.{Act}
use Rattle.xl_core.specs.declared.ask.Act.TheVariants as acts
use Rattle.xl_core.specs.declared.ask.Answer.{Answer}
use Rattle.xl_core.specs.declared.ask.Answer.TheVariants as answers
use Rattle.xl_core.specs.declared.ask.Ask.{Ask}
use Rattle.xl_core.specs.declared.ask.Who.{Who}
use Rattle.xl_core.specs.declared.ask.Who.TheVariants as who
use Rattle.xl_core.specs.declared.judge.Plea.{Plea}
use Rattle.xl_core.proofs.CauseLaws.{element_due}
use Rattle.xl_core.proofs.ClaimLaws.{AreGood, granted_good}
use Rattle.xl_core.proofs.DeedCalls.{decided_releases, ranges_enter}
use Rattle.xl_core.proofs.ElementLaws.{open_of, with_element, elements_granted}
use Rattle.xl_core.proofs.RowLaws.{AllPass}
use Rattle.xl_names.specs.Names.{AreDistinct}

-- the open's claims of these ranges
abbrev opens_claims : ℕ → ℕ → List Claim → Type 0
opens_claims file number cs = AllByRecursion (λ c. is_range_of file (open_of number) c ≡ true) cs

abbrev whats_of : List Claim → List What
whats_of cs = map (λ c. c.what) cs

-- claims that pass, one behind another, come so behind the open's others
all_elements : (left : Rooms) (p : Plea) (names : List Name) (asked held : List Claim) (file number : ℕ) → AreDistinct names → AreGood names held → AllByRecursion (IsKnown names) asked → AllPass left p held asked → opens_claims file number asked
    → elements_of file (open_of number) (all_granted asked held) ≡ elements_of file (open_of number) held ++ whats_of asked
all_elements left p names [] held file number distinct good known pass mine = sym (append-nil (elements_of file (open_of number) held))
all_elements left p names (c ∷ cs) held file number distinct good known pass mine =
    all_elements left p names cs (granted_claims c held) file number distinct (granted_good names c held distinct good known.0 pass.0 pass.1.1) known.1 pass.2 mine.1
    ∙ ap (λ (es : List What). es ++ whats_of cs) (elements_granted c held file number good.kept known.0.0.0 ∙ ap (λ (b : Bool). with_element b c.what (elements_of file (open_of number) held)) mine.0)
    ∙ append_assoc (elements_of file (open_of number) held) (c.what ∷ []) (whats_of cs)

mine_all : (a : Ask) (names : List Name) (number : ℕ) (ranges : List (Extent × Bool)) → asker a names ≡ open_of number → opens_claims a.file number (asked_claims a (map range_what ranges) names)
mine_all a names number [] e = tt
mine_all a names number (range ∷ ranges) e =
    (subst (λ (o : Owner). is_range_of a.file o (asked_claim a (range_what range) names) ≡ true) e (ap (λ (b : Bool). b && true) (is_own (asked_claim a (range_what range) names))), mine_all a names number ranges e)

same_whats : (a : Ask) (names : List Name) (ranges : List (Extent × Bool)) → whats_of (asked_claims a (map range_what ranges) names) ≡ map range_what ranges
same_whats a names [] = refl
same_whats a names (range ∷ ranges) = ap (λ (ws : List What). range_what range ∷ ws) (same_whats a names ranges)

asker_open : (a : Ask) (names : List Name) (number : ℕ) → a.owner ≡ who.Open number → asker a names ≡ open_of number
asker_open a names number e = ap (λ (w : Who). asker_in w) e where
  asker_in : Who → Owner
  asker_in w = asker (record a { owner = w }) names

-- each of the ranges is held once more, behind the open's others
pub ranges_locked : (n : ℕ) (left : Rooms) (s : CoreState) (a : Ask) (ranges : List (Extent × Bool)) (number : ℕ) (c : Claim) → IsGood s → IsFit a → a.owner ≡ who.Open number → a.act ≡ acts.Ranges ranges → (decided n left s a).0 ≡ answers.Granted c
    → elements_of a.file (open_of number) (decided n left s a).2.claims ≡ elements_of a.file (open_of number) s.claims ++ map range_what ranges
ranges_locked n left s a [] number c good fit own act at = absurd (subst (λ (x : Act). IsFitAct a.owner a.blocking x) act fit.act)
ranges_locked n left s a (range ∷ ranges) number c good fit own act at =
    let is = ranges_enter n left s a range ranges c good fit act at in
    ap (λ (cs : List Claim). elements_of a.file (open_of number) cs) is.claims
    ∙ all_elements left (plea_of left s a) (both_entered a s.names) (asked_claims a (map range_what (range ∷ ranges)) s.names) s.claims a.file number is.distinct is.good is.known is.pass (mine_all a s.names number (range ∷ ranges) (asker_open a s.names number own))
    ∙ ap (λ (ws : List What). elements_of a.file (open_of number) s.claims ++ ws) (same_whats a s.names (range ∷ ranges))

unnamed_open : (a : Ask) (names : List Name) (number : ℕ) → a.owner ≡ who.Open number → posix (known_owner a.owner names) ≡ false
unnamed_open a names number e = ap (λ (w : Who). posix (known_owner w names)) e

-- one that is equal is taken out
pub range_unlocked : (n : ℕ) (left : Rooms) (s : CoreState) (a : Ask) (extent : Extent) (number : ℕ) (c : Claim) → IsGood s → IsFit a → a.owner ≡ who.Open number → a.act ≡ acts.Unlock extent → (decided n left s a).0 ≡ answers.Granted c
    → elements_of a.file (open_of number) (decided n left s a).2.claims ≡ unlocked_elements extent (elements_of a.file (open_of number) s.claims)
range_unlocked n left s a extent number c good fit own act at =
    let unnamed = unnamed_open a s.names number own in
    let is = decided_releases n left s a extent c good fit unnamed act at in
    let claim = known_claim a extent false s.names in
    let same : c ≡ claim = ((element_due n left s a extent (answers.Granted c) act unnamed).0 at).0 in
    let owner : c.owner ≡ open_of number = ap (λ (x : Claim). x.owner) same ∙ ap (λ (w : Who). known_owner w s.names) own in
    subst (λ (f : ℕ). elements_of f (open_of number) (decided n left s a).2.claims ≡ unlocked_elements extent (elements_of f (open_of number) s.claims)) (ap (λ (x : Claim). x.file) same)
    (subst (λ (o : Owner). elements_of c.file o (decided n left s a).2.claims ≡ unlocked_elements extent (elements_of c.file o s.claims)) owner is.mine)

pub range_due : (n : ℕ) (left : Rooms) (s : CoreState) (a : Ask) (extent : Extent) (number : ℕ) (answer : Answer) → a.owner ≡ who.Open number → a.act ≡ acts.Unlock extent → ((decided n left s a).0 ≡ answer) ↔ IsElementDue s (known_claim a extent false s.names) extent answer
range_due n left s a extent number answer own act = element_due n left s a extent answer act (unnamed_open a s.names number own)

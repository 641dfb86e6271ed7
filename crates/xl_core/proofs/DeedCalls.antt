-- What the deeds' laws need of one ask and of one turn.
use Rattle.std.proofs.Common.{◌≡◌, ℕ, ◌+◌, ◌≤◌, Bool, true, false, List, [], ◌∷◌, Option, Some, None, refl, sym, ap, subst, ◌∙◌, is_some, map, ◌&&◌, not, ◌==◌}
use Rattle.xl_core.proofs.AsideLaws.{with_aside, noted_for}
use Rattle.std.proofs.lemmas.Bool.{both_ways, le-leb, not-true}
use Rattle.xl_matrix.specs.Equal.{same_owners}
use Rattle.xl_base.proofs.Members.{all_in}
use Rattle.xl_base.specs.declared.name.Owner.{Owner}
use Rattle.xl_matrix.specs.Owners.{posix}
use Rattle.xl_matrix.specs.declared.claim.Claim.{Claim}
use Rattle.xl_matrix.specs.declared.claim.Extent.TheVariants.{Bytes, Empty}
use Rattle.xl_matrix.specs.declared.claim.What.{What}
use Rattle.xl_matrix.specs.declared.claim.What.TheVariants.{Share, Range}
use Rattle.xl_spans.specs.Spans.{relocked}
use Rattle.xl_table.specs.Held.{spans_of, is_of, is_range, may_own}
use Rattle.xl_wait.specs.declared.waiter.Rooms.{Rooms}
use Rattle.xl_core.specs.State.{CoreState, aside_of}
use Rattle.xl_core.specs.Askers.{asked_what, asked_claim, asked_claims, known_claim, IsFit, IsFitAct, is_named, range_what, known_owner, both_entered, may_hold_all, may_ask}
use Rattle.xl_core.specs.Causes.{left_by_unlock}
use Rattle.xl_core.specs.Deeds.{queue_with, KeepNames}
use Rattle.xl_core.specs.Decide.{Answered, unlocked_claims, decided, named, claims_asked, plea_of, freed, unlocked_one, unlocked}
use Rattle.xl_core.specs.Dues.{IsGrantDue, IsAnswerDue, IsBytesDue}
use Rattle.xl_table.specs.Held.{IsGrantable}
use Rattle.xl_core.specs.Good.{IsGood, IsKnown, IsHeld}
use Rattle.xl_core.specs.Frames.{asks_to_hold}
use Rattle.xl_table.specs.Relock.{most_claims, shares_of, granted_claims}
use Rattle.xl_core.specs.declared.ask.Act.{Act}
use Rattle.xl_core.specs.declared.ask.Act.TheVariants as acts
use Rattle.xl_core.specs.declared.ask.Answer.{Answer}
use Rattle.xl_core.specs.declared.ask.Answer.TheVariants as answers
use Rattle.xl_core.specs.declared.ask.Ask.{Ask}
use Rattle.xl_core.proofs.CauseLaws.{wish_is_due, unlock_by, unlock_is, is_holds, lock_due, lock_free, test_due, unlock_due, fit_what, fit_owned, first_due, each_due, real_unlock, element_due, element_is, empty_due, ranges_asked, own_ranges, fit_ranges, real_range, graced_due}
use Rattle.xl_core.proofs.ChangeLaws.{decided_way, granted_way, decided_own, decided_waits, element_is_held, spans_of-removed_apart, shares_removed}
use Rattle.xl_core.proofs.KnownLaws.{asked_known, known_posix, known_named, asked_all_known, both_distinct, both_go_on}
use Rattle.xl_table.proofs.ShareLaws.{shares_of-relocked}
use Rattle.xl_table.proofs.WriteBack.{spans_of-relocked, spans_of-relocked_apart}
use Rattle.xl_core.proofs.ElementLaws.{open_of, elements_relocked}
use Rattle.xl_core.proofs.GoodLaws.{AskCase, Goes, Queues as ToWait, Refuses, ask_case, claims_on, good_claims}
use Rattle.xl_core.proofs.ClaimLaws.{AreGood}
use Rattle.xl_core.proofs.CacheLaws.{range_no_cache, relocked_caches, removed_caches}
use Rattle.xl_core.specs.Good.{caches_of}
use Rattle.xl_core.proofs.RowLaws.{is_refusal, AllPass}
use Rattle.xl_core.specs.Judge.{all_granted, held_with}
use Rattle.xl_core.specs.Places.{claims_like}
use Rattle.xl_names.specs.Names.{AreDistinct}
use Rattle.xl_table.specs.Elements.{elements_of, unlocked_elements, element_held, taken_out}
use Rattle.xl_table.specs.Flat.{removed}
use Rattle.xl_table.proofs.ElementLaws.{elements_unlocked, elements_removed_apart}
use Rattle.std.specs.List.{AllByRecursion}
use Rattle.xl_matrix.specs.declared.claim.Extent.{Extent}

-- ---- what an ask leaves of the claims

what_holds : (act : Act) (what : What) → asked_what act ≡ Some what → asks_to_hold act ≡ true
what_holds (acts.Share access deny) what e = refl
what_holds (acts.Ranges ranges) what e = refl
what_holds (acts.Test extent exclusive) what e = absurd cc
what_holds (acts.Unlock extent) what e = absurd cc
what_holds acts.Wish what e = absurd cc

-- a granted share or lock is entered
pub decided_enters : (n : ℕ) (left : Rooms) (s : CoreState) (a : Ask) (what : What) (c : Claim) → IsGood s → IsFit a → asked_what a.act ≡ Some what → (decided n left s a).0 ≡ answers.Granted c → IsGrantable c × ((decided n left s a).2.claims ≡ granted_claims c s.claims)
decided_enters n left s a what c good fit act at =
    let claim = asked_claim a what s.names in
    let same : c ≡ claim = ((lock_due n left s a what (answers.Granted c) act).0 at).0 in
    let real : IsGrantable claim = (asked_known a what s.names fit.party (fit_owned a what fit act) (fit_what a what fit act)).0 in (
      subst (λ (x : Claim). IsGrantable x) (sym same) real,
      granted_way s a what c (decided n left s a) act (what_holds a.act what act) (decided_way n left s a good fit.party) at ∙ ap (λ (x : Claim). granted_claims x s.claims) (sym same),
    )

-- several granted ranges pass, each behind those before it, and are entered so
pub record AreEntered (left : Rooms) (s : CoreState) (a : Ask) (ranges : List (Extent × Bool)) (c : Claim) (new : List Claim) : Type 0 where
  pub claims : new ≡ all_granted (asked_claims a (map range_what ranges) s.names) s.claims
  pub distinct : AreDistinct (both_entered a s.names)
  pub good : AreGood (both_entered a s.names) s.claims
  pub known : AllByRecursion (IsKnown (both_entered a s.names)) (asked_claims a (map range_what ranges) s.names)
  pub pass : AllPass left (plea_of left s a) s.claims (asked_claims a (map range_what ranges) s.names)
  pub like : claims_like c ranges ≡ asked_claims a (map range_what ranges) s.names

pub ranges_enter : (n : ℕ) (left : Rooms) (s : CoreState) (a : Ask) (range : Extent × Bool) (ranges : List (Extent × Bool)) (c : Claim) → IsGood s → IsFit a → a.act ≡ acts.Ranges (range ∷ ranges) → (decided n left s a).0 ≡ answers.Granted c → AreEntered left s a (range ∷ ranges) c (decided n left s a).2.claims
unfolding held_with
ranges_enter n left s a range ranges c good fit act at = by (claims_asked n left s a (first ∷ rest)) (ask_case n left s a first rest) refl where
  first : Claim
  first = asked_claim a (range_what range) s.names

  rest : List Claim
  rest = asked_claims a (map range_what ranges) s.names

  is : decided n left s a ≡ claims_asked n left s a (first ∷ rest)
  is = ranges_asked n left s a (range ∷ ranges) act

  real : IsFitAct a.owner a.blocking (acts.Ranges (range ∷ ranges))
  real = subst (λ (x : Act). IsFitAct a.owner a.blocking x) act fit.act

  may : may_hold_all a.owner (range ∷ ranges) ≡ true
  may = subst (λ (x : Act). may_ask a.owner x ≡ true) act fit.own

  all_like : (rs : List (Extent × Bool)) → claims_like first rs ≡ asked_claims a (map range_what rs) s.names
  all_like [] = refl
  all_like (r ∷ rs) = ap (λ (cs : List Claim). asked_claim a (range_what r) s.names ∷ cs) (all_like rs)

  same_claim : (x y : Claim) → answers.Granted x ≡ answers.Granted y → x ≡ y
  same_claim x y e = cc

  by : (r : Answered) → AskCase n left s a (first ∷ rest) first r → claims_asked n left s a (first ∷ rest) ≡ r → AreEntered left s a (range ∷ ranges) c (decided n left s a).2.claims
  by r (Goes in_time may_store pass e) so =
      let whole : decided n left s a ≡ (answers.Granted first, [], with_aside (aside_of (noted_for s a (first ∷ rest) (answers.Granted first))) (named a (held_with (first ∷ rest) s))) = is ∙ so ∙ e in
      record {
        claims = ap (λ (x : Answered). x.2.claims) whole;
        distinct = both_distinct a s.names good.distinct;
        good = claims_on s.names (both_entered a s.names) s.claims (both_go_on a s.names) (good_claims s good);
        known = asked_all_known a (map range_what (range ∷ ranges)) s.names fit.party (own_ranges a.owner (range ∷ ranges) may) (real_range range.0 range.1 real.0, fit_ranges a.owner a.blocking ranges real.1);
        pass = pass;
        like = ap (λ (x : Claim). claims_like x (range ∷ ranges)) (same_claim c first (sym at ∙ ap (λ (x : Answered). x.0) whole)) ∙ all_like (range ∷ ranges);
      }
  by r (ToWait why room e) so = let two : answers.Queued (s.counter + 1) ≡ answers.Granted c = sym (ap (λ (x : Answered). x.0) (is ∙ so ∙ e)) ∙ at in absurd cc
  by r (Refuses answer refused e) so = absurd (both_ways (is_refusal answer) (ap is_refusal (sym (ap (λ (x : Answered). x.0) (is ∙ so ∙ e)) ∙ at)) refused)

-- one that isn't granted leaves all
pub decided_keeps_claims : (n : ℕ) (left : Rooms) (s : CoreState) (a : Ask) → IsGood s → IsFit a → ((c : Claim) → (decided n left s a).0 ≡ answers.Granted c → ⊥) → (decided n left s a).2.claims ≡ s.claims
decided_keeps_claims n left s a good fit none = (decided_own n left s a good fit.party).claims none

-- what an unlock of these bytes leaves
pub record Clears (c : Claim) (first last : ℕ) (old new : List Claim) : Type 0 where
  pub what : c.what ≡ Range (Bytes first last) false
  pub own : posix c.owner ≡ true
  pub ends : first ≤ last
  pub spans : spans_of c.file c.owner new ≡ relocked (spans_of c.file c.owner old) first last None
  pub apart : (file : ℕ) (owner : Owner) → ((file ≡ c.file) × (owner ≡ c.owner) → ⊥) → spans_of file owner new ≡ spans_of file owner old
  pub shares : (file : ℕ) (owner : Owner) → shares_of file owner new ≡ shares_of file owner old
  pub elements : (file number : ℕ) → elements_of file (open_of number) new ≡ elements_of file (open_of number) old
  pub caches : caches_of new ≡ caches_of old

pub decided_clears : (n : ℕ) (left : Rooms) (s : CoreState) (a : Ask) (first last : ℕ) (c : Claim) → IsGood s → IsFit a → is_named a.owner ≡ true → a.act ≡ acts.Unlock (Bytes first last) → (decided n left s a).0 ≡ answers.Granted c → Clears c first last s.claims (decided n left s a).2.claims
decided_clears n left s a first last c good fit named act at =
    let claim = known_claim a (Bytes first last) false s.names in
    let ends : first ≤ last = real_unlock a first last fit act in
    let own = known_posix a s.names fit.party named in
    let due = (unlock_due n left s a first last (answers.Granted c) act fit.party named ends good).0 at in
    let left_so : (decided n left s a).2.claims ≡ unlocked_claims claim first last s.claims =
    ap (λ (x : Answered). x.2.claims) (unlock_is n left s a first last act fit.party named ∙ unlock_by s claim first last true true (is_holds s claim first last due.1) (le-leb (left_by_unlock s claim first last) most_claims due.2)) in
    subst (λ (x : Claim). Clears x first last s.claims (decided n left s a).2.claims) (sym due.0)
    (subst (λ (cs : List Claim). Clears claim first last s.claims cs) (sym left_so)
    (record {
      what = refl;
      own = own;
      ends = ends;
      spans = spans_of-relocked claim.file claim.owner claim.party first last None s.claims good.kept own ends;
      apart = λ file owner apart. spans_of-relocked_apart claim.file claim.owner claim.party first last None s.claims file owner apart;
      shares = λ file owner. shares_of-relocked claim.file claim.owner claim.party first last None s.claims file owner;
      elements = λ file number. elements_relocked claim.file claim.owner claim.party first last None s.claims file number own;
      caches = relocked_caches claim.file claim.owner claim.party first last None s.claims;
    }))

-- what an unlock of an open's range leaves
pub record Releases (c : Claim) (extent : Extent) (old new : List Claim) : Type 0 where
  pub what : c.what ≡ Range extent false
  pub unnamed : posix c.owner ≡ false
  pub mine : elements_of c.file c.owner new ≡ unlocked_elements extent (elements_of c.file c.owner old)
  pub elements : (file : ℕ) (owner : Owner) → is_of file owner c ≡ false → elements_of file owner new ≡ elements_of file owner old
  pub spans : (file : ℕ) (owner : Owner) → is_of file owner c ≡ false → spans_of file owner new ≡ spans_of file owner old
  pub shares : (file : ℕ) (owner : Owner) → shares_of file owner new ≡ shares_of file owner old
  pub caches : caches_of new ≡ caches_of old

-- a POSIX owner holds no range without a byte
pub no_empty : (claim : Claim) (offset : ℕ) (s : CoreState) → IsGood s → posix claim.owner ≡ true → is_some (element_held claim (Empty offset) s.claims) ≡ true → ⊥
no_empty claim offset s good named some = by (element_held claim (Empty offset) s.claims) refl some where
  by : (o : Option Claim) → element_held claim (Empty offset) s.claims ≡ o → is_some o ≡ true → ⊥
  by None e h = both_ways false refl h
  by (Some d) e h =
      let found = element_is_held claim (Empty offset) s.claims d e in
      let own = (all_in (IsHeld s.names) d s.claims good.known found.0).0.1 in
      let unnamed : not (posix claim.owner) ≡ true = subst (λ (o : Owner). may_own o (Range (Empty offset) found.1) ≡ true) found.3 (subst (λ (w : What). may_own d.owner w ≡ true) found.4 own) in
      both_ways (posix claim.owner) (not-true (posix claim.owner) unnamed) named

-- so its unlock of one finds none
pub empty_unlocked : (claim : Claim) (offset : ℕ) (s : CoreState) → IsGood s → posix claim.owner ≡ true → unlocked s claim (Empty offset) ≡ (answers.NotHeld, [], s)
unfolding unlocked
empty_unlocked claim offset s good named = by (element_held claim (Empty offset) s.claims) refl where
  by : (o : Option Claim) → element_held claim (Empty offset) s.claims ≡ o → freed s claim (element_held claim (Empty offset) s.claims) ≡ (answers.NotHeld, [], s)
  by None e = ap (freed s claim) e
  by (Some d) e = absurd (no_empty claim offset s good named (ap is_some e))

pub decided_releases : (n : ℕ) (left : Rooms) (s : CoreState) (a : Ask) (extent : Extent) (c : Claim) → IsGood s → IsFit a → posix (known_owner a.owner s.names) ≡ false → a.act ≡ acts.Unlock extent → (decided n left s a).0 ≡ answers.Granted c → Releases c extent s.claims (decided n left s a).2.claims
decided_releases n left s a extent c good fit unnamed act at = by (element_held claim extent s.claims) refl where
  claim : Claim
  claim = known_claim a extent false s.names

  is : decided n left s a ≡ unlocked_one s claim extent
  is = element_is n left s a extent act unnamed

  same : c ≡ claim
  same = ((element_due n left s a extent (answers.Granted c) act unnamed).0 at).0

  by : (o : Option Claim) → element_held claim extent s.claims ≡ o → Releases c extent s.claims (decided n left s a).2.claims
  by None none = let two : answers.NotHeld ≡ answers.Granted c = sym (ap (λ (x : Option Claim). (freed s claim x).0) none) ∙ sym (ap (λ (x : Answered). x.0) is) ∙ at in absurd cc
  by (Some d) found =
      let left_so : (decided n left s a).2.claims ≡ removed d s.claims = ap (λ (x : Answered). x.2.claims) is ∙ ap (λ (x : Option Claim). (freed s claim x).2.claims) found in
      let one = element_is_held claim extent s.claims d found in
      let there : (file : ℕ) (owner : Owner) → is_of file owner claim ≡ false → is_of file owner d ≡ false = λ file owner other. ap (λ (n : ℕ). (n == file) && same_owners d.owner owner) one.2 ∙ ap (λ (o : Owner). (claim.file == file) && same_owners o owner) one.3 ∙ other in
      subst (λ (x : Claim). Releases x extent s.claims (decided n left s a).2.claims) (sym same)
      (subst (λ (cs : List Claim). Releases claim extent s.claims cs) (sym left_so)
      (record {
        what = refl;
        unnamed = unnamed;
        mine = ap (λ (x : Option Claim). elements_of claim.file claim.owner (taken_out x s.claims)) (sym found) ∙ elements_unlocked claim extent s.claims;
        elements = λ file owner other. elements_removed_apart file owner d s.claims (ap (λ (b : Bool). b && is_range d.what) (there file owner other));
        spans = λ file owner other. spans_of-removed_apart file owner d s.claims (there file owner other);
        shares = λ file owner. shares_removed file owner d s.claims (ap is_range one.4);
        caches = removed_caches d s.claims (range_no_cache d.what (ap is_range one.4));
      }))

-- ---- who waits, and the names

-- the answer queues, or lets the queue be
data Queues (s : CoreState) (a : Ask) (answer : Answer) : Type 0 where
  Does : (id : ℕ) → answer ≡ answers.Queued id → Queues s a answer
  Doesnt : ((id : ℕ) → answer ≡ answers.Queued id → ⊥) → queue_with s a answer s.waiters ≡ s.waiters → Queues s a answer

queues_or : (s : CoreState) (a : Ask) (answer : Answer) → Queues s a answer
queues_or s a (answers.Queued id) = Does id refl
queues_or s a (answers.Granted c) = Doesnt (λ d e. absurd cc) refl
queues_or s a (answers.Conflict c) = Doesnt (λ d e. absurd cc) refl
queues_or s a (answers.Recall c) = Doesnt (λ d e. absurd cc) refl
queues_or s a (answers.Grace until) = Doesnt (λ d e. absurd cc) refl
queues_or s a (answers.NoGrace clock) = Doesnt (λ d e. absurd cc) refl
queues_or s a answers.NotRecorded = Doesnt (λ d e. absurd cc) refl
queues_or s a (answers.Full limit) = Doesnt (λ d e. absurd cc) refl
queues_or s a answers.NotHeld = Doesnt (λ d e. absurd cc) refl
queues_or s a answers.StoreFailed = Doesnt (λ d e. absurd cc) refl

-- one who is told to wait comes last, and no other ask changes who waits
pub decided_queue : (n : ℕ) (left : Rooms) (s : CoreState) (a : Ask) → IsGood s → IsFit a → (decided n left s a).2.waiters ≡ queue_with s a (decided n left s a).0 s.waiters
decided_queue n left s a good fit =
    elim (queues_or s a (decided n left s a).0) [
      | Does id at ↦ decided_waits n left s a id good fit.party at ∙ ap (λ (answer : Answer). queue_with s a answer s.waiters) (sym at)
      | Doesnt none same ↦ (decided_own n left s a good fit.party).waiters none ∙ sym same
    ]

pub decided_names : (n : ℕ) (left : Rooms) (s : CoreState) (a : Ask) → IsGood s → IsFit a → KeepNames s.names (decided n left s a).2.names
decided_names n left s a good fit = (decided_own n left s a good fit.party).names

-- ---- what is due

what_due : (n : ℕ) (left : Rooms) (s : CoreState) (a : Ask) (what : What) → IsFit a → asked_what a.act ≡ Some what → IsGrantDue n left s a what (decided n left s a).0
what_due n left s a what fit act = record {
  free = λ in_time free room may. lock_free n left s a what act in_time free room may;
  cause = (lock_due n left s a what (decided n left s a).0 act).0 refl;
}

act_due : (n : ℕ) (left : Rooms) (s : CoreState) (a : Ask) (act : Act) → a.act ≡ act → IsFitAct a.owner a.blocking act → IsGood s → IsFit a → IsAnswerDue n left s a act (decided n left s a).0
act_due n left s a (acts.Share access deny) is real good fit = what_due n left s a (Share access deny) fit (ap asked_what is)
act_due n left s a (acts.Ranges []) is real good fit = absurd real
act_due n left s a (acts.Ranges (range ∷ [])) is real good fit = what_due n left s a (Range range.0 range.1) fit (ap asked_what is)
act_due n left s a (acts.Ranges (range ∷ more ∷ rest)) is real good fit =
    let first = asked_claim a (range_what range) s.names in
    let others = asked_claims a (map range_what (more ∷ rest)) s.names in
    let asked = ranges_asked n left s a (range ∷ more ∷ rest) is in
    let next = asked_claim a (range_what more) s.names in
    let behind = asked_claims a (map range_what rest) s.names in (
      λ out. graced_due n left s a first others (decided n left s a) out asked,
      λ blocked. first_due n left s a first others (decided n left s a) blocked asked,
      λ timely free. each_due n left s a first next behind (decided n left s a) timely free asked,
    )
act_due n left s a (acts.Test extent exclusive) is real good fit = (test_due n left s a extent exclusive (decided n left s a).0 is).0 refl
act_due n left s a (acts.Unlock (Bytes first last)) is real good fit = by (posix claim.owner) refl where
  claim : Claim
  claim = known_claim a (Bytes first last) false s.names

  by : (b : Bool) → posix claim.owner ≡ b → IsBytesDue s claim first last b (decided n left s a).0
  by true named = (unlock_due n left s a first last (decided n left s a).0 is fit.party (sym (known_named a s.names fit.party) ∙ named) real good).0 refl
  by false unnamed = (element_due n left s a (Bytes first last) (decided n left s a).0 is unnamed).0 refl
act_due n left s a acts.Wish is real good fit = wish_is_due n left s a is
act_due n left s a (acts.Unlock (Empty offset)) is real good fit = (empty_due n left s a offset (decided n left s a).0 is).0 refl

pub answer_is_due : (n : ℕ) (left : Rooms) (s : CoreState) (a : Ask) → IsGood s → IsFit a → IsAnswerDue n left s a a.act (decided n left s a).0
answer_is_due n left s a good fit = act_due n left s a a.act refl fit.act good fit

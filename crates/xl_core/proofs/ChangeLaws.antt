-- An ask changes only what its owner has on its file, and only where it is granted.
use Rattle.std.proofs.Common.{◌≡◌, ℕ, ◌+◌, ◌≤◌, Bool, true, false, length, if◌then◌else◌, List, [], ◌∷◌, ◌++◌, map, Option, Some, None, refl, sym, ap, subst, ◌∙◌, nat_le, inl, inr, find}
use Rattle.xl_core.proofs.AsideLaws.{with_aside, noted_is, none_noted, by_aside}
use Rattle.xl_core.specs.declared.standings.Standing.TheVariants.{Timely, Reclaims, Early, Late, Unrecorded}
use Rattle.xl_core.specs.declared.standings.Standing.TheVariants as standings
use Rattle.xl_core.specs.declared.standings.Standing.{Standing}
use Rattle.xl_core.specs.Standings.{stands, stands_alone, refusal}
use Rattle.std.specs.List.{AllByRecursion}
use Rattle.std.proofs.lemmas.Bool.{both_ways, cases_Bool, and_parts}
use Rattle.xl_base.proofs.Members.{in_append_left, all_in}
use Rattle.xl_base.specs.declared.name.Owner.{Owner}
use Rattle.xl_base.specs.declared.name.Party.{Party}
use Rattle.xl_matrix.specs.Owners.{posix}
use Rattle.xl_matrix.specs.declared.claim.CacheKind.{CacheKind}
use Rattle.xl_matrix.specs.declared.claim.Claim.{Claim}
use Rattle.xl_matrix.specs.declared.claim.Extent.{Extent}
use Rattle.xl_matrix.specs.declared.claim.Extent.TheVariants.{Bytes, Empty}
use Rattle.xl_matrix.specs.declared.claim.Rwd.{Rwd}
use Rattle.xl_matrix.specs.declared.claim.What.{What}
use Rattle.xl_matrix.specs.declared.claim.What.TheVariants.{Share, Range, Cache}
use Rattle.xl_spans.specs.Spans.{relocked}
use Rattle.xl_table.specs.Held.{mode_of, is_share, spans_of, IsKept, is_of, is_range, with_span}
use Rattle.xl_table.specs.Least.{least}
use Rattle.xl_table.specs.Relock.{most_claims, holds_byte, with_share, shares_of, old_shares, unites, united_by, granted_by, granted_claims, relocked_in}
use Rattle.xl_table.proofs.ShareLaws.{not_united, shares_of-shared, shares_of-shared_apart, spans_of-shared, shares_of-relocked}
use Rattle.xl_table.proofs.WriteBack.{spans_of-relocked, spans_of-relocked_apart, is_of-true}
use Rattle.xl_wait.specs.declared.waiter.Rooms.{Rooms}
use Rattle.xl_core.specs.State.{CoreState, aside_of}
use Rattle.xl_core.specs.Askers.{asker, asking_party, both_entered, range_what, asked_whats, asked_what, asked_claim, asked_claims, known_claim, is_client, is_named}
use Rattle.xl_core.specs.Blockers.{test_blockers}
use Rattle.xl_core.specs.Causes.{asks_share, left_by_unlock, IsOwn, IsWaiting, asks_claims, noted_by}
use Rattle.xl_core.specs.Decide.{Answered, waiter_of, waiting, named, claims_asked, test_answered, tested, unlocked_claims, unlocked, wish_by, wish_asked, acted, decided, unlocked_one, unlocked_bytes, freed, tested_by, wish_graced}
use Rattle.xl_core.specs.Frames.{asks_to_hold}
use Rattle.xl_core.specs.Good.{IsGood, are_kept, IsHeld, caches_of, caches_but, caches_beside}
use Rattle.xl_core.specs.Limits.{wish_limits, first_passed}
use Rattle.xl_core.specs.Judge.{all_granted, held_with}
use Rattle.xl_core.specs.declared.ask.Act.{Act}
use Rattle.xl_core.specs.declared.ask.Act.TheVariants.{Ranges, Test, Unlock}
use Rattle.xl_core.specs.declared.ask.Act.TheVariants as acts
use Rattle.xl_core.specs.declared.ask.Answer.{Answer}
use Rattle.xl_core.specs.declared.ask.Answer.TheVariants as answers
use Rattle.xl_core.specs.declared.ask.Ask.{Ask}
use Rattle.xl_core.proofs.CauseLaws.{same_list, left_so, unlock_by, unlock_is}
use Rattle.xl_core.proofs.GoodLaws.{AskCase, Goes, Queues, Refuses, ask_case, holder_of}
use Rattle.xl_core.proofs.CacheLaws.{relocked_caches, all_granted_caches, removed_caches, range_no_cache}
use Rattle.xl_core.proofs.KnownLaws.{both_go_on, known_owner_is, known_posix, asker_posix}
use Rattle.xl_core.proofs.RowLaws.{is_refusal}
use Rattle.xl_table.specs.Flat.{inserted, removed}
use Rattle.xl_table.specs.Order.{goes_first}
use Rattle.std.specs.Option.{option_or}
use Rattle.xl_table.specs.Elements.{is_element, element_held}
use Rattle.xl_table.proofs.ElementLaws.{element_is}
use Rattle.xl_table.proofs.InsertLaws.{spans_of-inserted_apart, spans_of-inserted_other}
use Rattle.xl_base.specs.Lists.{IsIn}
use Rattle.xl_matrix.specs.Equal.{same_claims}
use Rattle.xl_matrix.proofs.EqualLaws.{same_claims-true}
use Rattle.xl_spans.specs.declared.span.Span.{Span}

-- ---- what a grant leaves to each owner

-- the claim is one of this owner on this file, and a share or not
abbrev pub IsAt : Claim → Bool → ℕ → Owner → Type 0
IsAt c share file owner = (file ≡ c.file) × (owner ≡ c.owner) × (is_share c.what ≡ share)

-- the claim is of another owner, or on another file
other_of : (c : Claim) (file : ℕ) (owner : Owner) → ((file ≡ c.file) × (owner ≡ c.owner) → ⊥) → is_of file owner c ≡ false
other_of c file owner apart =
    elim (cases_Bool (is_of file owner c)) [
      | inl own ↦ let at = is_of-true file owner c own in absurd (apart (sym at.0, sym at.1))
      | inr other ↦ other
    ]

range_no_share : (w : What) (shares : List (Rwd × Rwd)) → is_share w ≡ false → with_share w shares ≡ shares
range_no_share (Share access deny) shares h = absurd (both_ways true h refl)
range_no_share (Range extent exclusive) shares h = refl
range_no_share (Cache kind running) shares h = refl

-- what is no share leaves the shares
shares_inserted : (c : Claim) (cs : List Claim) (file : ℕ) (owner : Owner) → is_share c.what ≡ false → shares_of file owner (inserted c cs) ≡ shares_of file owner cs
unfolding inserted
shares_inserted c [] file owner other =
    elim (cases_Bool (is_of file owner c)) [ inl own ↦ rw own (range_no_share c.what [] other) | inr apart ↦ rw apart refl ]
shares_inserted c (d ∷ ds) file owner other =
    elim (cases_Bool (goes_first d c)) [
      | inl early ↦ rw early (ap (λ (shares : List (Rwd × Rwd)). if is_of file owner d then with_share d.what shares else shares) (shares_inserted c ds file owner other))
      | inr late ↦ rw late (elim (cases_Bool (is_of file owner c)) [ inl own ↦ rw own (range_no_share c.what _ other) | inr apart ↦ rw apart refl ])
    ]

spans_by : (c : Claim) (w : What) (cs : List Claim) (file : ℕ) (owner : Owner) → c.what ≡ w → (IsAt c false file owner → ⊥) → spans_of file owner (granted_by c w cs) ≡ spans_of file owner cs
spans_by c (Range (Bytes first last) exclusive) cs file owner is apart =
    elim (cases_Bool (posix c.owner)) [
      | inl named ↦ rw named (spans_of-relocked_apart c.file c.owner c.party first last (Some (mode_of exclusive)) cs file owner (λ at. apart (at.0, at.1, ap is_share is)))
      | inr unnamed ↦ rw unnamed (spans_of-inserted_apart file owner c cs (other_of c file owner (λ at. apart (at.0, at.1, ap is_share is))))
    ]
spans_by c (Range (Empty offset) exclusive) cs file owner is apart = spans_of-inserted_apart file owner c cs (other_of c file owner (λ at. apart (at.0, at.1, ap is_share is)))
spans_by c (Share access deny) cs file owner is apart = spans_of-shared c cs file owner (ap is_share is)
spans_by c (Cache kind running) cs file owner is apart = refl

pub spans_apart : (c : Claim) (cs : List Claim) (file : ℕ) (owner : Owner) → (IsAt c false file owner → ⊥) → spans_of file owner (granted_claims c cs) ≡ spans_of file owner cs
unfolding granted_claims
spans_apart c cs file owner apart = spans_by c c.what cs file owner refl apart

shares_by : (c : Claim) (w : What) (cs : List Claim) (file : ℕ) (owner : Owner) → c.what ≡ w → (IsAt c true file owner → ⊥) → shares_of file owner (granted_by c w cs) ≡ shares_of file owner cs
shares_by c (Range (Bytes first last) exclusive) cs file owner is apart =
    elim (cases_Bool (posix c.owner)) [
      | inl named ↦ rw named (shares_of-relocked c.file c.owner c.party first last (Some (mode_of exclusive)) cs file owner)
      | inr unnamed ↦ rw unnamed (shares_inserted c cs file owner (ap is_share is))
    ]
shares_by c (Range (Empty offset) exclusive) cs file owner is apart = shares_inserted c cs file owner (ap is_share is)
shares_by c (Share access deny) cs file owner is apart = shares_of-shared_apart c cs file owner (λ at. apart (at.0, at.1, ap is_share is))
shares_by c (Cache kind running) cs file owner is apart = refl

pub shares_apart : (c : Claim) (cs : List Claim) (file : ℕ) (owner : Owner) → (IsAt c true file owner → ⊥) → shares_of file owner (granted_claims c cs) ≡ shares_of file owner cs
unfolding granted_claims
shares_apart c cs file owner apart = shares_by c c.what cs file owner refl apart

-- the owner has its share, or the one that it is united with
pub granted_share : (c : Claim) (access deny : Rwd) (cs : List Claim) → c.what ≡ Share access deny → shares_of c.file c.owner (granted_claims c cs) ≡ with_share (united_by c.owner c.what (old_shares c.file c.owner cs)) []
unfolding granted_claims
granted_share c access deny cs is = ap (λ (w : What). shares_of c.file c.owner (granted_by c w cs)) is ∙ shares_of-shared c cs (ap is_share is)

pub granted_spans : (c : Claim) (first last : ℕ) (exclusive : Bool) (cs : List Claim) → IsKept cs → c.what ≡ Range (Bytes first last) exclusive → posix c.owner ≡ true → first ≤ last → spans_of c.file c.owner (granted_claims c cs) ≡ relocked (spans_of c.file c.owner cs) first last (Some (mode_of exclusive))
unfolding granted_claims
granted_spans c first last exclusive cs kept is own ends =
    ap (λ (w : What). spans_of c.file c.owner (granted_by c w cs)) is
    ∙ ap (λ (b : Bool). spans_of c.file c.owner (if b then relocked_in c.file c.owner c.party first last (Some (mode_of exclusive)) cs else inserted c cs)) own
    ∙ spans_of-relocked c.file c.owner c.party first last (Some (mode_of exclusive)) cs kept own ends

-- one without bytes leaves the spans
pub empty_spans : (c : Claim) (offset : ℕ) (exclusive : Bool) (cs : List Claim) → c.what ≡ Range (Empty offset) exclusive → spans_of c.file c.owner (granted_claims c cs) ≡ spans_of c.file c.owner cs
unfolding granted_claims
empty_spans c offset exclusive cs is =
    ap (λ (w : What). spans_of c.file c.owner (granted_by c w cs)) is ∙ spans_of-inserted_other c.file c.owner c cs (λ spans. ap (λ (w : What). with_span w spans) is)

-- where each of these is apart nothing changes there
pub all_spans_left : (cs held : List Claim) (file : ℕ) (owner : Owner) → AllByRecursion (λ c. (file ≡ c.file) × (owner ≡ c.owner) × (is_share c.what ≡ false) → ⊥) cs → spans_of file owner (all_granted cs held) ≡ spans_of file owner held
all_spans_left [] held file owner apart = refl
all_spans_left (c ∷ cs) held file owner apart = all_spans_left cs (granted_claims c held) file owner apart.1 ∙ spans_apart c held file owner apart.0

pub all_shares_left : (cs held : List Claim) (file : ℕ) (owner : Owner) → AllByRecursion (λ c. (file ≡ c.file) × (owner ≡ c.owner) × (is_share c.what ≡ true) → ⊥) cs → shares_of file owner (all_granted cs held) ≡ shares_of file owner held
all_shares_left [] held file owner apart = refl
all_shares_left (c ∷ cs) held file owner apart = all_shares_left cs (granted_claims c held) file owner apart.1 ∙ shares_apart c held file owner apart.0

-- each of these is of this owner on this file, and a share or not
abbrev AreAt : ℕ → Owner → Bool → List Claim → Type 0
AreAt file owner share cs = AllByRecursion (λ c. (c.file ≡ file) × (c.owner ≡ owner) × (is_share c.what ≡ share)) cs

all_spans_apart : (file : ℕ) (owner : Owner) (share : Bool) (cs held : List Claim) (at : ℕ) (who : Owner) → AreAt file owner share cs → ((at ≡ file) × (who ≡ owner) × (share ≡ false) → ⊥) → spans_of at who (all_granted cs held) ≡ spans_of at who held
all_spans_apart file owner share [] held at who are apart = refl
all_spans_apart file owner share (c ∷ cs) held at who are apart =
    all_spans_apart file owner share cs (granted_claims c held) at who are.1 apart ∙ spans_apart c held at who (λ same. apart (same.0 ∙ are.0.0, same.1 ∙ are.0.1, sym are.0.2 ∙ same.2))

all_shares_apart : (file : ℕ) (owner : Owner) (share : Bool) (cs held : List Claim) (at : ℕ) (who : Owner) → AreAt file owner share cs → ((at ≡ file) × (who ≡ owner) × (share ≡ true) → ⊥) → shares_of at who (all_granted cs held) ≡ shares_of at who held
all_shares_apart file owner share [] held at who are apart = refl
all_shares_apart file owner share (c ∷ cs) held at who are apart =
    all_shares_apart file owner share cs (granted_claims c held) at who are.1 apart ∙ shares_apart c held at who (λ same. apart (same.0 ∙ are.0.0, same.1 ∙ are.0.1, sym are.0.2 ∙ same.2))

-- ---- the ways in which an ask goes

-- who holds a byte is the asker
holder_is : (s : CoreState) (a : Ask) (extent : Extent) (first last : ℕ) → IsGood s → is_client a.owner a.party ≡ true
    → (let claim = known_claim a extent false s.names in holds_byte claim.file claim.owner first last s.claims ≡ true → claim.owner ≡ asker a s.names)
holder_is s a extent first last good client holds =
    let claim = known_claim a extent false s.names in
    let found = holder_of s a extent false first last good holds in
    known_owner_is a s.names found.0 good.few client found.1

-- an ask is refused, finds a test free, has what it asks for, waits, or unlocks bytes or a range that its owner has
pub data AskWay (s : CoreState) (a : Ask) (r : Answered) : Type 0 where
  Stays : (answer : Answer) → is_refusal answer ≡ true → r ≡ (answer, [], with_aside (aside_of (noted_by s a answer)) s) → AskWay s a r
  Tests : (c : Claim) → asks_to_hold a.act ≡ false → r ≡ (answers.Granted c, [], s) → AskWay s a r
  Holds : (c : Claim) (claims : List Claim) → claims ≡ asked_claims a (asked_whats a.act) s.names → asks_to_hold a.act ≡ true → r ≡ (answers.Granted c, [], with_aside (aside_of (noted_by s a (answers.Granted c))) (named a (held_with claims s))) → AskWay s a r
  Waits : (c : Claim) (cs : List Claim) → IsWaiting (stands s a) s.waiters s a c → c ∷ cs ≡ asked_claims a (asked_whats a.act) s.names → asks_to_hold a.act ≡ true → r ≡ (answers.Queued (s.counter + 1), [], waiting a (c ∷ cs) s) → AskWay s a r
  Frees : (claim : Claim) (first last : ℕ) → asks_to_hold a.act ≡ false → asks_share a.act ≡ false → claim.file ≡ a.file → claim.owner ≡ asker a s.names → r ≡ (answers.Granted claim, [], record s { claims = unlocked_claims claim first last s.claims }) → AskWay s a r
  Gives : (claim d : Claim) → asks_to_hold a.act ≡ false → asks_share a.act ≡ false → d.file ≡ a.file → d.owner ≡ asker a s.names → is_range d.what ≡ true → r ≡ (answers.Granted claim, [], record s { claims = removed d s.claims }) → AskWay s a r

-- an ask for no claims, and one that holds nothing, leaves the record, the stores and the grace
unheld : (act : Act) → asks_to_hold act ≡ false → (asked_whats act ≡ []) × (asks_claims act ≡ false)
unheld (acts.Share access deny) h = absurd (both_ways true h refl)
unheld (Ranges ranges) h = absurd (both_ways true h refl)
unheld (Test extent exclusive) h = (refl, refl)
unheld (Unlock extent) h = (refl, refl)
unheld acts.Wish h = absurd (both_ways true h refl)

pub unheld_noted : (s : CoreState) (a : Ask) (answer : Answer) → asks_to_hold a.act ≡ false → noted_by s a answer ≡ s
unheld_noted s a answer h = let none = unheld a.act h in none_noted s a answer (ap (λ (ws : List What). asked_claims a ws s.names) none.0) none.1

-- one that is refused so stays
plainly : (s : CoreState) (a : Ask) (answer : Answer) → noted_by s a answer ≡ s → is_refusal answer ≡ true → AskWay s a (answer, [], s)
plainly s a answer noted refused = Stays answer refused (λ i. (answer, [], with_aside (aside_of (sym noted i)) s))

asked_way : (n : ℕ) (left : Rooms) (s : CoreState) (a : Ask) (claims : List Claim) → claims ≡ asked_claims a (asked_whats a.act) s.names → asks_to_hold a.act ≡ true → asks_claims a.act ≡ true → AskWay s a (claims_asked n left s a claims)
unfolding claims_asked
asked_way n left s a [] e holds asks = plainly s a answers.NotHeld refl refl
asked_way n left s a (c ∷ cs) e holds asks = by (claims_asked n left s a (c ∷ cs)) (ask_case n left s a c cs) where
  by : (r : Answered) → AskCase n left s a (c ∷ cs) c r → AskWay s a r
  by r (Goes in_time may pass is) = Holds c (c ∷ cs) e holds (is ∙ (λ i. (answers.Granted c, [], with_aside (aside_of (noted_is s a (c ∷ cs) (answers.Granted c) e asks i)) (named a (held_with (c ∷ cs) s)))))
  by r (Queues why room is) = Waits c cs why e holds is
  by r (Refuses answer refused is) = Stays answer refused (is ∙ (λ i. (answer, [], with_aside (aside_of (noted_is s a (c ∷ cs) answer e asks i)) s)))

refusal_refuses : (standing : Standing) (answer : Answer) → refusal standing ≡ Some answer → is_refusal answer ≡ true
refusal_refuses Timely answer e = absurd cc
refusal_refuses Reclaims answer e = absurd cc
refusal_refuses standings.Stays answer e = absurd cc
refusal_refuses (Early until) answer e = ap is_refusal (same (answers.Grace until) answer e) where
  same : (x y : Answer) → Some x ≡ Some y → y ≡ x
  same x y e = cc
refusal_refuses (Late clock) answer e = ap is_refusal (same (answers.NoGrace clock) answer e) where
  same : (x y : Answer) → Some x ≡ Some y → y ≡ x
  same x y e = cc
refusal_refuses Unrecorded answer e = ap is_refusal (same answers.NotRecorded answer e) where
  same : (x y : Answer) → Some x ≡ Some y → y ≡ x
  same x y e = cc

tested_way : (s : CoreState) (a : Ask) (claim : Claim) → asks_to_hold a.act ≡ false → AskWay s a (tested s a claim, [], s)
unfolding tested
tested_way s a claim holds = by (refusal (stands_alone s a)) (least s.names (test_blockers s claim)) (refusal_refuses (stands_alone s a)) where
  so : (o : Option Claim) → AskWay s a (test_answered claim o, [], s)
  so None = Tests claim holds refl
  so (Some c) = plainly s a (answers.Conflict c) refl refl

  by : (r : Option Answer) (o : Option Claim) → ((answer : Answer) → r ≡ Some answer → is_refusal answer ≡ true) → AskWay s a (tested_by r s claim, [], s)
  by (Some answer) o refused = plainly s a answer (unheld_noted s a answer holds) (refused answer refl)
  by None o refused = so (least s.names (test_blockers s claim))

-- an element that is held is one of the owner's on the file, of just this range
pub element_is_held : (claim : Claim) (extent : Extent) (cs : List Claim) (d : Claim) → element_held claim extent cs ≡ Some d → IsIn d cs × (exclusive : Bool) × (d.file ≡ claim.file) × (d.owner ≡ claim.owner) × (d.what ≡ Range extent exclusive)
unfolding element_held
element_is_held claim extent cs d e = first (find (is_element claim (Range extent true)) cs) refl e where
  there : (exclusive : Bool) → find (is_element claim (Range extent exclusive)) cs ≡ Some d → IsIn d cs × (exclusive : Bool) × (d.file ≡ claim.file) × (d.owner ≡ claim.owner) × (d.what ≡ Range extent exclusive)
  there exclusive found =
      let is = element_is claim (Range extent exclusive) cs d found in
      let of = is_of-true claim.file claim.owner d (and_parts (is_of claim.file claim.owner d) (is_range d.what) is.1).0 in
      (is.0, exclusive, of.0, of.1, is.2)

  first : (o : Option Claim) → find (is_element claim (Range extent true)) cs ≡ o → option_or o (find (is_element claim (Range extent false)) cs) ≡ Some d → IsIn d cs × (exclusive : Bool) × (d.file ≡ claim.file) × (d.owner ≡ claim.owner) × (d.what ≡ Range extent exclusive)
  first (Some c) found same = there true (found ∙ same)
  first None found same = there false same

freed_way : (s : CoreState) (a : Ask) (extent : Extent) → a.act ≡ Unlock extent → IsGood s → is_client a.owner a.party ≡ true → AskWay s a (unlocked_one s (known_claim a extent false s.names) extent)
freed_way s a extent act good client = by (element_held claim extent s.claims) refl where
  claim : Claim
  claim = known_claim a extent false s.names

  by : (o : Option Claim) → element_held claim extent s.claims ≡ o → AskWay s a (freed s claim o)
  by None none = plainly s a answers.NotHeld refl refl
  by (Some d) e =
      let found = element_is_held claim extent s.claims d e in
      let kept : are_kept s.names d.owner d.party ≡ true = (all_in (IsHeld s.names) d s.claims good.known found.0).1 in
      let owner : claim.owner ≡ asker a s.names = known_owner_is a s.names d.party good.few client (subst (λ (o : Owner). are_kept s.names o d.party ≡ true) found.3 kept) in
      Gives claim d (ap asks_to_hold act) (ap asks_share act) found.2 (found.3 ∙ owner) (ap is_range found.4) refl

unlocked_way : (s : CoreState) (a : Ask) (extent : Extent) → a.act ≡ Unlock extent → IsGood s → is_client a.owner a.party ≡ true → AskWay s a (unlocked s (known_claim a extent false s.names) extent)
unfolding unlocked
unlocked_way s a (Empty offset) act good client = freed_way s a (Empty offset) act good client
unlocked_way s a (Bytes first last) act good client =
    go (posix claim.owner)
  where
    claim : Claim
    claim = known_claim a (Bytes first last) false s.names

    by : (h f : Bool) → holds_byte claim.file claim.owner first last s.claims ≡ h → AskWay s a (left_so s claim first last h f)
    by false f none = plainly s a answers.NotHeld refl refl
    by true false holds = plainly s a (answers.Full most_claims) refl refl
    by true true holds = Frees claim first last (ap asks_to_hold act) (ap asks_share act) refl (holder_is s a (Bytes first last) first last good client holds) refl

    go : (b : Bool) → AskWay s a (if b then unlocked_bytes s claim first last else unlocked_one s claim (Bytes first last))
    go true = by (holds_byte claim.file claim.owner first last s.claims) (nat_le (left_by_unlock s claim first last) most_claims) refl
    go false = freed_way s a (Bytes first last) act good client

-- a wish by itself holds nothing before it is granted
held_none : (s : CoreState) → held_with [] s ≡ s
unfolding held_with
held_none s = refl

wish_way : (left : Rooms) (s : CoreState) (a : Ask) (kinds : List CacheKind) → [] ≡ asked_claims a (asked_whats a.act) s.names → asks_claims a.act ≡ false → asks_to_hold a.act ≡ true → AskWay s a (wish_asked left s a kinds)
unfolding wish_asked
wish_way left s a [] none asks holds = plainly s a answers.NotHeld refl refl
wish_way left s a (kind ∷ kinds) none asks holds = graced_so (refusal (stands_alone s a)) (refusal_refuses (stands_alone s a)) where
  claim : Claim
  claim = asked_claim a (Cache kind None) s.names

  noted : (answer : Answer) → noted_by s a answer ≡ s
  noted answer = none_noted s a answer (sym none) asks

  by : (o : Option ℕ) → AskWay s a (wish_by s a claim o)
  by None = Holds claim [] none holds (λ i. (answers.Granted claim, [], with_aside (aside_of (sym (noted (answers.Granted claim)) i)) (named a (sym (held_none s) i))))
  by (Some limit) = plainly s a (answers.Full limit) refl refl

  graced_so : (r : Option Answer) → ((answer : Answer) → r ≡ Some answer → is_refusal answer ≡ true) → AskWay s a (wish_graced left s a claim r)
  graced_so (Some answer) refused = plainly s a answer (noted answer) (refused answer refl)
  graced_so None refused = by (first_passed (wish_limits left a.rows (length (both_entered a s.names))))

acted_way : (n : ℕ) (left : Rooms) (s : CoreState) (a : Ask) (act : Act) → a.act ≡ act → IsGood s → is_client a.owner a.party ≡ true → AskWay s a (acted n left s a act)
acted_way n left s a (acts.Share access deny) is good client = asked_way n left s a _ (ap (λ (x : Act). asked_claims a (asked_whats x) s.names) (sym is)) (ap asks_to_hold is) (ap asks_claims is)
acted_way n left s a (Ranges ranges) is good client = asked_way n left s a _ (ap (λ (x : Act). asked_claims a (asked_whats x) s.names) (sym is)) (ap asks_to_hold is) (ap asks_claims is)
acted_way n left s a (Test extent exclusive) is good client = tested_way s a (known_claim a extent exclusive s.names) (ap asks_to_hold is)
acted_way n left s a (Unlock extent) is good client = unlocked_way s a extent is good client
acted_way n left s a acts.Wish is good client = wish_way left s a a.wish (ap (λ (x : Act). asked_claims a (asked_whats x) s.names) (sym is)) (ap asks_claims is) (ap asks_to_hold is)

pub decided_way : (n : ℕ) (left : Rooms) (s : CoreState) (a : Ask) → IsGood s → is_client a.owner a.party ≡ true → AskWay s a (decided n left s a)
unfolding decided
decided_way n left s a good client = acted_way n left s a a.act refl good client

-- ---- what an ask changes

not_queued : (n : ℕ) → ((number : ℕ) → answers.Queued n ≡ answers.Queued number → ⊥) → ⊥
not_queued n none = none n refl

not_granted : (c : Claim) → ((claim : Claim) → answers.Granted c ≡ answers.Granted claim → ⊥) → ⊥
not_granted c none = none c refl

pub spans_of-removed_apart : (file : ℕ) (owner : Owner) (d : Claim) (cs : List Claim) → is_of file owner d ≡ false → spans_of file owner (removed d cs) ≡ spans_of file owner cs
spans_of-removed_apart file owner d [] apart = refl
spans_of-removed_apart file owner d (c ∷ cs) apart =
    elim (cases_Bool (same_claims c d)) [
      | inl same ↦ let none : is_of file owner c ≡ false = ap (is_of file owner) (same_claims-true c d same) ∙ apart in rw (same, none) refl
      | inr other ↦ rw other (ap (λ (spans : List Span). if is_of file owner c then with_span c.what spans else spans) (spans_of-removed_apart file owner d cs apart))
    ]

pub shares_removed : (file : ℕ) (owner : Owner) (d : Claim) (cs : List Claim) → is_range d.what ≡ true → shares_of file owner (removed d cs) ≡ shares_of file owner cs
shares_removed file owner d [] range = refl
shares_removed file owner d (c ∷ cs) range =
    elim (cases_Bool (same_claims c d)) [
      | inl same ↦ rw same (sym (skipped (is_of file owner c) (range_no_share c.what (shares_of file owner cs) (range_is_no_share c.what (ap (λ (x : Claim). is_range x.what) (same_claims-true c d same) ∙ range)))))
      | inr other ↦ rw other (ap (λ (shares : List (Rwd × Rwd)). if is_of file owner c then with_share c.what shares else shares) (shares_removed file owner d cs range))
    ]
  where
    skipped : (b : Bool) {more rest : List (Rwd × Rwd)} → more ≡ rest → (if b then more else rest) ≡ rest
    skipped true e = e
    skipped false e = refl

    range_is_no_share : (w : What) → is_range w ≡ true → is_share w ≡ false
    range_is_no_share (Range extent exclusive) h = refl
    range_is_no_share (Share access deny) h = absurd (both_ways false refl h)
    range_is_no_share (Cache kind running) h = absurd (both_ways false refl h)

-- all that is asked for is of the asker on its file, and of one kind
asked_at : (a : Ask) (s : CoreState) (act : Act) → AreAt a.file (asker a s.names) (asks_share act) (asked_claims a (asked_whats act) s.names)
asked_at a s (acts.Share access deny) = ((refl, refl, refl), tt)
asked_at a s (Ranges ranges) = each ranges where
  each : (ranges : List (Extent × Bool)) → AreAt a.file (asker a s.names) false (asked_claims a (map range_what ranges) s.names)
  each [] = tt
  each (r ∷ rs) = ((refl, refl, refl), each rs)
asked_at a s (Test extent exclusive) = tt
asked_at a s (Unlock extent) = tt
asked_at a s acts.Wish = tt

beside_same : (file : ℕ) (party : Party) (old new : List Claim) → caches_of new ≡ caches_of old → caches_beside file party new ≡ caches_beside file party old
beside_same file party old new e = ap (caches_but file party) e

same_own : (s : CoreState) (a : Ask) (answer : Answer) → IsOwn s a answer (with_aside (aside_of (noted_by s a answer)) s)
same_own s a answer = record {
  claims = λ none. refl;
  waiters = λ none. refl;
  refused = λ none nobody. sym (by_aside s a answer);
  noted = refl;
  spans = λ file owner apart. refl;
  shares = λ file owner apart. refl;
  caches = refl;
  unwished = λ none. refl;
  stay = λ w h. h;
  names = λ number name h. h;
}

way_own : (s : CoreState) (a : Ask) (r : Answered) → AskWay s a r → IsOwn s a r.0 r.2
unfolding held_with
way_own s a r (Stays answer refused e) = subst (λ (x : Answered). IsOwn s a x.0 x.2) (sym e) (same_own s a answer)
way_own s a r (Tests c holds e) =
    subst (λ (x : Answered). IsOwn s a x.0 x.2) (sym e)
    (subst (λ (t : CoreState). IsOwn s a (answers.Granted c) t) (sym (by_aside s a (answers.Granted c)) ∙ unheld_noted s a (answers.Granted c) holds) (same_own s a (answers.Granted c)))
way_own s a r (Holds c claims is holds e) =
    let are : AreAt a.file (asker a s.names) (asks_share a.act) claims = subst (λ (cs : List Claim). AreAt a.file (asker a s.names) (asks_share a.act) cs) (sym is) (asked_at a s a.act) in
    subst (λ (x : Answered). IsOwn s a x.0 x.2) (sym e)
    (record {
      claims = λ none. absurd (not_granted c none);
      waiters = λ none. refl;
      refused = λ none nobody. absurd (not_granted c none);
      noted = refl;
      spans = λ at who apart. all_spans_apart a.file (asker a s.names) (asks_share a.act) claims s.claims at who are apart;
      shares = λ at who apart. all_shares_apart a.file (asker a s.names) (asks_share a.act) claims s.claims at who are apart;
      caches = beside_same a.file (asking_party a s.names) s.claims (all_granted claims s.claims) (all_granted_caches claims s.claims);
      unwished = λ none. all_granted_caches claims s.claims;
      stay = λ w h. h;
      names = both_go_on a s.names;
    })
way_own s a r (Waits c cs why is holds e) =
    subst (λ (x : Answered). IsOwn s a x.0 x.2) (sym e)
    (record {
      claims = λ none. refl;
      waiters = λ none. absurd (not_queued (s.counter + 1) none);
      refused = λ none nobody. absurd (not_queued (s.counter + 1) nobody);
      noted = refl;
      spans = λ at who apart. refl;
      shares = λ at who apart. refl;
      caches = refl;
      unwished = λ none. refl;
      stay = λ w h. in_append_left w s.waiters (waiter_of (s.counter + 1) a (asking_party a s.names) (c ∷ cs) ∷ []) h;
      names = both_go_on a s.names;
    })
way_own s a r (Frees claim first last holds act file owner e) =
    subst (λ (x : Answered). IsOwn s a x.0 x.2) (sym e)
    (record {
      claims = λ none. absurd (not_granted claim none);
      waiters = λ none. refl;
      refused = λ none nobody. absurd (not_granted claim none);
      noted = ap aside_of (sym (unheld_noted s a (answers.Granted claim) holds));
      spans = λ at who apart. spans_of-relocked_apart claim.file claim.owner claim.party first last None s.claims at who (λ same. apart (same.0 ∙ file, same.1 ∙ owner, act));
      shares = λ at who apart. shares_of-relocked claim.file claim.owner claim.party first last None s.claims at who;
      caches = beside_same a.file (asking_party a s.names) s.claims (unlocked_claims claim first last s.claims) (relocked_caches claim.file claim.owner claim.party first last None s.claims);
      unwished = λ none. relocked_caches claim.file claim.owner claim.party first last None s.claims;
      stay = λ w h. h;
      names = λ number name h. h;
    })
way_own s a r (Gives claim d holds act file owner range e) =
    subst (λ (x : Answered). IsOwn s a x.0 x.2) (sym e)
    (record {
      claims = λ none. absurd (not_granted claim none);
      waiters = λ none. refl;
      refused = λ none nobody. absurd (not_granted claim none);
      noted = ap aside_of (sym (unheld_noted s a (answers.Granted claim) holds));
      spans = λ at who apart. spans_of-removed_apart at who d s.claims (other_of d at who (λ same. apart (same.0 ∙ file, same.1 ∙ owner, act)));
      shares = λ at who apart. shares_removed at who d s.claims range;
      caches = beside_same a.file (asking_party a s.names) s.claims (removed d s.claims) (removed_caches d s.claims (range_no_cache d.what range));
      unwished = λ none. removed_caches d s.claims (range_no_cache d.what range);
      stay = λ w h. h;
      names = λ number name h. h;
    })

pub decided_own : (n : ℕ) (left : Rooms) (s : CoreState) (a : Ask) → IsGood s → is_client a.owner a.party ≡ true → IsOwn s a (decided n left s a).0 (decided n left s a).2
decided_own n left s a good client = way_own s a (decided n left s a) (decided_way n left s a good client)

-- before its wish is granted an ask changes no cache
caches_way : (s : CoreState) (a : Ask) (r : Answered) → AskWay s a r → caches_of r.2.claims ≡ caches_of s.claims
unfolding held_with
caches_way s a r (Stays answer refused e) = ap (λ (x : Answered). caches_of x.2.claims) e
caches_way s a r (Tests c holds e) = ap (λ (x : Answered). caches_of x.2.claims) e
caches_way s a r (Holds c claims is holds e) = ap (λ (x : Answered). caches_of x.2.claims) e ∙ all_granted_caches claims s.claims
caches_way s a r (Waits c cs why is holds e) = ap (λ (x : Answered). caches_of x.2.claims) e
caches_way s a r (Frees claim first last holds act file owner e) = ap (λ (x : Answered). caches_of x.2.claims) e ∙ relocked_caches claim.file claim.owner claim.party first last None s.claims
caches_way s a r (Gives claim d holds act file owner range e) = ap (λ (x : Answered). caches_of x.2.claims) e ∙ removed_caches d s.claims (range_no_cache d.what range)

pub decided_caches : (n : ℕ) (left : Rooms) (s : CoreState) (a : Ask) → IsGood s → is_client a.owner a.party ≡ true → caches_of (decided n left s a).2.claims ≡ caches_of s.claims
decided_caches n left s a good client = caches_way s a (decided n left s a) (decided_way n left s a good client)

-- ---- what is granted is held

-- what is refused isn't granted
refused_not : (answer : Answer) (c : Claim) → is_refusal answer ≡ true → answer ≡ answers.Granted c → ⊥
refused_not answer c refused e = both_ways (is_refusal answer) (ap is_refusal e) refused

-- an ask for one thing that is granted leaves it held
pub granted_way : (s : CoreState) (a : Ask) (what : What) (c : Claim) (r : Answered) → asked_what a.act ≡ Some what → asks_to_hold a.act ≡ true → AskWay s a r → r.0 ≡ answers.Granted c → r.2.claims ≡ granted_claims (asked_claim a what s.names) s.claims
unfolding held_with
granted_way s a what c r act holds (Stays answer refused e) at = absurd (refused_not answer c refused (sym (ap (λ (x : Answered). x.0) e) ∙ at))
granted_way s a what c r act holds (Tests d nothing e) at = absurd (both_ways (asks_to_hold a.act) nothing holds)
granted_way s a what c r act holds (Holds d claims is held e) at =
    ap (λ (x : Answered). x.2.claims) e ∙ ap (λ (cs : List Claim). all_granted cs s.claims) (is ∙ ap (λ (w : List What). asked_claims a w s.names) (same_list what (asked_whats a.act) act))
granted_way s a what c r act holds (Waits d ds why is held e) at = let two : answers.Queued (s.counter + 1) ≡ answers.Granted c = sym (ap (λ (x : Answered). x.0) e) ∙ at in absurd cc
granted_way s a what c r act holds (Frees claim first last nothing share file owner e) at = absurd (both_ways (asks_to_hold a.act) nothing holds)
granted_way s a what c r act holds (Gives claim d nothing share file owner range e) at = absurd (both_ways (asks_to_hold a.act) nothing holds)

-- the owner has what it was granted
pub decided_held : (n : ℕ) (left : Rooms) (s : CoreState) (a : Ask) (first last : ℕ) (exclusive : Bool) (c : Claim) → IsGood s → is_client a.owner a.party ≡ true → is_named a.owner ≡ true → first ≤ last → a.act ≡ Ranges ((Bytes first last, exclusive) ∷ []) → (decided n left s a).0 ≡ answers.Granted c
    → spans_of a.file (asker a s.names) (decided n left s a).2.claims ≡ relocked (spans_of a.file (asker a s.names) s.claims) first last (Some (mode_of exclusive))
decided_held n left s a first last exclusive c good client named ends act at =
    let what = Range (Bytes first last) exclusive in
    ap (λ (cs : List Claim). spans_of a.file (asker a s.names) cs) (granted_way s a what c (decided n left s a) (ap asked_what act) (ap asks_to_hold act) (decided_way n left s a good client) at)
    ∙ granted_spans (asked_claim a what s.names) first last exclusive s.claims good.kept refl (asker_posix a s.names client named) ends

-- and the share, united with the one that it had where it is NFSv4's
pub decided_shares : (n : ℕ) (left : Rooms) (s : CoreState) (a : Ask) (access deny : Rwd) (c : Claim) → IsGood s → is_client a.owner a.party ≡ true → a.act ≡ acts.Share access deny → (decided n left s a).0 ≡ answers.Granted c
    → shares_of a.file (asker a s.names) (decided n left s a).2.claims ≡ with_share (united_by (asker a s.names) (Share access deny) (old_shares a.file (asker a s.names) s.claims)) []
decided_shares n left s a access deny c good client act at =
    ap (λ (cs : List Claim). shares_of a.file (asker a s.names) cs) (granted_way s a (Share access deny) c (decided n left s a) (ap asked_what act) (ap asks_to_hold act) (decided_way n left s a good client) at)
    ∙ granted_share (asked_claim a (Share access deny) s.names) access deny s.claims refl

-- else in the place of the one that it had
pub decided_shared : (n : ℕ) (left : Rooms) (s : CoreState) (a : Ask) (access deny : Rwd) (c : Claim) → IsGood s → is_client a.owner a.party ≡ true → unites (asker a s.names) ≡ false → a.act ≡ acts.Share access deny → (decided n left s a).0 ≡ answers.Granted c
    → shares_of a.file (asker a s.names) (decided n left s a).2.claims ≡ (access, deny) ∷ []
decided_shared n left s a access deny c good client alone act at =
    decided_shares n left s a access deny c good client act at
    ∙ ap (λ (d : Claim). with_share d.what []) (not_united (asked_claim a (Share access deny) s.names) s.claims alone)

-- and no more what it gave up
pub decided_left : (n : ℕ) (left : Rooms) (s : CoreState) (a : Ask) (first last : ℕ) (c : Claim) → IsGood s → is_client a.owner a.party ≡ true → is_named a.owner ≡ true → first ≤ last → a.act ≡ Unlock (Bytes first last) → (decided n left s a).0 ≡ answers.Granted c
    → spans_of a.file (asker a s.names) (decided n left s a).2.claims ≡ relocked (spans_of a.file (asker a s.names) s.claims) first last None
decided_left n left s a first last c good client named ends act at = by (holds_byte claim.file claim.owner first last s.claims) (nat_le (left_by_unlock s claim first last) most_claims) refl refl where
  claim : Claim
  claim = known_claim a (Bytes first last) false s.names

  is : (h f : Bool) → holds_byte claim.file claim.owner first last s.claims ≡ h → nat_le (left_by_unlock s claim first last) most_claims ≡ f → decided n left s a ≡ left_so s claim first last h f
  is h f e k = unlock_is n left s a first last act client named ∙ unlock_by s claim first last h f e k

  by : (h f : Bool) → holds_byte claim.file claim.owner first last s.claims ≡ h → nat_le (left_by_unlock s claim first last) most_claims ≡ f
      → spans_of a.file (asker a s.names) (decided n left s a).2.claims ≡ relocked (spans_of a.file (asker a s.names) s.claims) first last None
  by false f e k = let two : answers.NotHeld ≡ answers.Granted c = sym (ap (λ (x : Answered). x.0) (is false f e k)) ∙ at in absurd cc
  by true false e k = let two : answers.Full most_claims ≡ answers.Granted c = sym (ap (λ (x : Answered). x.0) (is true false e k)) ∙ at in absurd cc
  by true true e k =
      ap (λ (x : Answered). spans_of a.file (asker a s.names) x.2.claims) (is true true e k)
      ∙ subst (λ (o : Owner). spans_of a.file o (unlocked_claims claim first last s.claims) ≡ relocked (spans_of a.file o s.claims) first last None) (holder_is s a (Bytes first last) first last good client e)
      (spans_of-relocked claim.file claim.owner claim.party first last None s.claims good.kept (known_posix a s.names client named) ends)

-- ---- who waits stands in the queue

waits_way : (s : CoreState) (a : Ask) (number : ℕ) (r : Answered) → AskWay s a r → r.0 ≡ answers.Queued number → r.2.waiters ≡ s.waiters ++ waiter_of number a (asking_party a s.names) (asked_claims a (asked_whats a.act) s.names) ∷ []
waits_way s a number r (Stays answer refused e) at = absurd (both_ways (is_refusal answer) (ap is_refusal (sym (ap (λ (x : Answered). x.0) e) ∙ at)) refused)
waits_way s a number r (Tests c holds e) at = let two : answers.Granted c ≡ answers.Queued number = sym (ap (λ (x : Answered). x.0) e) ∙ at in absurd cc
waits_way s a number r (Holds c claims is holds e) at = let two : answers.Granted c ≡ answers.Queued number = sym (ap (λ (x : Answered). x.0) e) ∙ at in absurd cc
waits_way s a number r (Frees c first last holds act file owner e) at = let two : answers.Granted c ≡ answers.Queued number = sym (ap (λ (x : Answered). x.0) e) ∙ at in absurd cc
waits_way s a number r (Gives c d holds act file owner range e) at = let two : answers.Granted c ≡ answers.Queued number = sym (ap (λ (x : Answered). x.0) e) ∙ at in absurd cc
waits_way s a number r (Waits c cs why is holds e) at =
    ap (λ (x : Answered). x.2.waiters) e ∙ (λ i. s.waiters ++ waiter_of (same_number (s.counter + 1) number (sym (ap (λ (x : Answered). x.0) e) ∙ at) i) a (asking_party a s.names) (is i) ∷ [])
  where
    same_number : (x y : ℕ) → answers.Queued x ≡ answers.Queued y → x ≡ y
    same_number x y e = cc

pub decided_waits : (n : ℕ) (left : Rooms) (s : CoreState) (a : Ask) (number : ℕ) → IsGood s → is_client a.owner a.party ≡ true → (decided n left s a).0 ≡ answers.Queued number
    → (decided n left s a).2.waiters ≡ s.waiters ++ waiter_of number a (asking_party a s.names) (asked_claims a (asked_whats a.act) s.names) ∷ []
decided_waits n left s a number good client at = waits_way s a number (decided n left s a) (decided_way n left s a good client) at

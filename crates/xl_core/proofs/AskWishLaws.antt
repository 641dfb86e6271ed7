-- What the wish of one who is answered so leaves.
use Rattle.std.proofs.Common.{length, ◌≡◌, ℕ, ◌+◌, ◌≤◌, Bool, true, false, not, ◌&&◌, ◌==◌, if◌then◌else◌, List, [], ◌∷◌, find, inl, inr, Option, Some, None, refl, sym, ap, subst, ◌∙◌, arith}
use Rattle.std.specs.List.{AllByRecursion, filter}
use Rattle.std.proofs.lemmas.Bool.{cases_Bool, both_ways, eqb-true}
use Rattle.xl_base.specs.Lists.{Pairwise}
use Rattle.xl_base.specs.declared.name.Party.{Party}
use Rattle.xl_base.specs.declared.name.Party.TheVariants as parties
use Rattle.xl_base.specs.declared.name.Protocol.{Protocol}
use Rattle.xl_base.specs.declared.name.Protocol.TheVariants.{Nlm, Nfs, Smb}
use Rattle.xl_cache.specs.Parties.{is_kind_of}
use Rattle.xl_cache.specs.Wishing.{wished_claim, is_its_cache}
use Rattle.xl_cache.specs.declared.wish.Wish.{Wish}
use Rattle.xl_matrix.specs.Equal.{same_parties}
use Rattle.xl_matrix.specs.declared.claim.CacheKind.{CacheKind}
use Rattle.xl_matrix.specs.declared.claim.Claim.{Claim}
use Rattle.xl_matrix.specs.declared.claim.What.TheVariants.{Cache}
use Rattle.xl_names.specs.declared.name.Name.{Name}
use Rattle.xl_table.specs.Flat.{with_what, inserted, removed, changed}
use Rattle.xl_table.specs.Held.{is_cache}
use Rattle.xl_table.specs.Order.{goes_first}
use Rattle.xl_names.specs.Names.{protocol_of, place_of}
use Rattle.xl_core.specs.Askers.{no_number, party_in, may_have}
use Rattle.xl_core.specs.BreaksBegun.{idle_caches}
use Rattle.xl_core.specs.Decide.{does_wish, wish_after}
use Rattle.xl_core.specs.Good.{are_kept, caches_of, caches_beside, IsGood}
use Rattle.xl_core.specs.Numbers.{may_be_recalled, delegations_left}
use Rattle.xl_core.specs.State.{CoreState}
use Rattle.xl_core.specs.Wishes.{wished_kind, cached, once_wished, wish_granted, wish_of, wish_for, caches_wished}
use Rattle.xl_core.specs.declared.ask.Answer.{Answer}
use Rattle.xl_core.specs.declared.ask.Answer.TheVariants as answers
use Rattle.xl_core.specs.declared.ask.Ask.{Ask}
use Rattle.xl_core.specs.declared.ask.Who.{Who}
use Rattle.xl_core.specs.declared.ask.Who.TheVariants.{Named, Open}
use Rattle.xl_core.proofs.CachePlaces.{caches_removed, caches_inserted}
use Rattle.xl_core.proofs.RowLaws.{is_refusal}
use Rattle.xl_core.proofs.WishLaws.{wish_good, wish_idle, wish_caches, no_wish}
use Rattle.xl_core.proofs.WishLaws.{count_wished}
use Rattle.xl_table.proofs.FlatLaws.{pairwise_removed}

-- ---- what no wish changes

-- what no wish that is granted changes
pub wish_keeps : {A : Type 0} (f : CoreState → A) (kinds : List CacheKind) (answer : Answer) (s : CoreState) → ((wanted : Wish) → f (wish_granted wanted s) ≡ f s) → f (wish_for kinds answer s) ≡ f s
wish_keeps f kinds (answers.Granted c) s keeps = keeps (wish_of kinds c)
wish_keeps f kinds (answers.Queued number) s keeps = refl
wish_keeps f kinds (answers.Conflict c) s keeps = refl
wish_keeps f kinds (answers.Recall c) s keeps = refl
wish_keeps f kinds (answers.Grace until) s keeps = refl
wish_keeps f kinds (answers.NoGrace clock) s keeps = refl
wish_keeps f kinds answers.NotRecorded s keeps = refl
wish_keeps f kinds (answers.Full limit) s keeps = refl
wish_keeps f kinds answers.NotHeld s keeps = refl
wish_keeps f kinds answers.StoreFailed s keeps = refl

pub after_keeps : {A : Type 0} (f : CoreState → A) (a : Ask) (answer : Answer) (s : CoreState) → ((wanted : Wish) → f (wish_granted wanted s) ≡ f s) → f (wish_after a answer s) ≡ f s
after_keeps f a answer s keeps = by (does_wish a.act) where
  by : (b : Bool) → f (if b then wish_for a.wish answer s else s) ≡ f s
  by true = wish_keeps f a.wish answer s keeps
  by false = refl

pub wished_waiters : (wanted : Wish) (s : CoreState) → (wish_granted wanted s).waiters ≡ s.waiters
unfolding wish_granted
wished_waiters wanted s = refl

-- only the claims change
granted_claims_only : (wanted : Wish) (s : CoreState) → wish_granted wanted s ≡ record s { claims = (wish_granted wanted s).claims }
unfolding wish_granted
granted_claims_only wanted s = refl

pub wish_claims : (kinds : List CacheKind) (answer : Answer) (s : CoreState) → wish_for kinds answer s ≡ record s { claims = (wish_for kinds answer s).claims }
wish_claims kinds (answers.Granted c) s = granted_claims_only (wish_of kinds c) s
wish_claims kinds (answers.Queued number) s = refl
wish_claims kinds (answers.Conflict c) s = refl
wish_claims kinds (answers.Recall c) s = refl
wish_claims kinds (answers.Grace until) s = refl
wish_claims kinds (answers.NoGrace clock) s = refl
wish_claims kinds answers.NotRecorded s = refl
wish_claims kinds (answers.Full limit) s = refl
wish_claims kinds answers.NotHeld s = refl
wish_claims kinds answers.StoreFailed s = refl

pub after_claims : (a : Ask) (answer : Answer) (s : CoreState) → wish_after a answer s ≡ record s { claims = (wish_after a answer s).claims }
after_claims a answer s = by (does_wish a.act) where
  by : (b : Bool) → (let t = (if b then wish_for a.wish answer s else s) in t ≡ record s { claims = t.claims })
  by true = wish_claims a.wish answer s
  by false = refl

-- who is refused gets no wish granted
pub refused_wish : (kinds : List CacheKind) (answer : Answer) (s : CoreState) → is_refusal answer ≡ true → wish_for kinds answer s ≡ s
refused_wish kinds (answers.Granted c) s h = absurd (both_ways false refl h)
refused_wish kinds (answers.Queued number) s h = refl
refused_wish kinds (answers.Conflict c) s h = refl
refused_wish kinds (answers.Recall c) s h = refl
refused_wish kinds (answers.Grace until) s h = refl
refused_wish kinds (answers.NoGrace clock) s h = refl
refused_wish kinds answers.NotRecorded s h = refl
refused_wish kinds (answers.Full limit) s h = refl
refused_wish kinds answers.NotHeld s h = refl
refused_wish kinds answers.StoreFailed s h = refl

-- nor who waits, or is told anything but that it is granted
pub ungranted_wish : (kinds : List CacheKind) (answer : Answer) (s : CoreState) → ((c : Claim) → answer ≡ answers.Granted c → ⊥) → wish_for kinds answer s ≡ s
ungranted_wish kinds (answers.Granted c) s none = absurd (none c refl)
ungranted_wish kinds (answers.Queued number) s none = refl
ungranted_wish kinds (answers.Conflict c) s none = refl
ungranted_wish kinds (answers.Recall c) s none = refl
ungranted_wish kinds (answers.Grace until) s none = refl
ungranted_wish kinds (answers.NoGrace clock) s none = refl
ungranted_wish kinds answers.NotRecorded s none = refl
ungranted_wish kinds (answers.Full limit) s none = refl
ungranted_wish kinds answers.NotHeld s none = refl
ungranted_wish kinds answers.StoreFailed s none = refl

pub ungranted_after : (a : Ask) (answer : Answer) (s : CoreState) → ((c : Claim) → answer ≡ answers.Granted c → ⊥) → wish_after a answer s ≡ s
ungranted_after a answer s none = by (does_wish a.act) where
  by : (b : Bool) → (if b then wish_for a.wish answer s else s) ≡ s
  by true = ungranted_wish a.wish answer s none
  by false = refl

-- a wish for nothing changes nothing
pub empty_wish : (kinds : List CacheKind) (answer : Answer) (s : CoreState) → kinds ≡ [] → wish_for kinds answer s ≡ s
empty_wish kinds (answers.Granted c) s none = no_wish kinds c s none
empty_wish kinds (answers.Queued number) s none = refl
empty_wish kinds (answers.Conflict c) s none = refl
empty_wish kinds (answers.Recall c) s none = refl
empty_wish kinds (answers.Grace until) s none = refl
empty_wish kinds (answers.NoGrace clock) s none = refl
empty_wish kinds answers.NotRecorded s none = refl
empty_wish kinds (answers.Full limit) s none = refl
empty_wish kinds answers.NotHeld s none = refl
empty_wish kinds answers.StoreFailed s none = refl

pub none_wished : (kinds : List CacheKind) (answer : Answer) (s : CoreState) → (length kinds == 0) ≡ true → s ≡ wish_for kinds answer s
none_wished [] answer s h = sym (empty_wish [] answer s refl)
none_wished (kind ∷ kinds) answer s h = absurd (omega (arith, eqb-true (length (kind ∷ kinds)) 0 h))

pub empty_after : (a : Ask) (answer : Answer) (s : CoreState) → a.wish ≡ [] → wish_after a answer s ≡ s
empty_after a answer s none = by (does_wish a.act) where
  by : (b : Bool) → (if b then wish_for a.wish answer s else s) ≡ s
  by true = empty_wish a.wish answer s none
  by false = refl

-- ---- the state stays good

-- who has the claim is known, and may have each of these kinds
abbrev pub MayWish : CoreState → List CacheKind → Answer → Type 0
MayWish s kinds answer = (c : Claim) → answer ≡ answers.Granted c → AllByRecursion (λ kind. is_kind_of c.party kind ≡ true) kinds × (are_kept s.names c.owner c.party ≡ true)

pub wish_for_good : (kinds : List CacheKind) (answer : Answer) (s : CoreState) → IsGood s → MayWish s kinds answer → IsGood (wish_for kinds answer s)
wish_for_good kinds (answers.Granted c) s good may = let is = may c refl in wish_good (wish_of kinds c) s good is.0 is.1
wish_for_good kinds (answers.Queued number) s good may = good
wish_for_good kinds (answers.Conflict c) s good may = good
wish_for_good kinds (answers.Recall c) s good may = good
wish_for_good kinds (answers.Grace until) s good may = good
wish_for_good kinds (answers.NoGrace clock) s good may = good
wish_for_good kinds answers.NotRecorded s good may = good
wish_for_good kinds (answers.Full limit) s good may = good
wish_for_good kinds answers.NotHeld s good may = good
wish_for_good kinds answers.StoreFailed s good may = good

pub after_good : (a : Ask) (answer : Answer) (s : CoreState) → IsGood s → (does_wish a.act ≡ true → MayWish s a.wish answer) → IsGood (wish_after a answer s)
after_good a answer s good may = by (does_wish a.act) refl where
  by : (b : Bool) → does_wish a.act ≡ b → IsGood (if b then wish_for a.wish answer s else s)
  by true does = wish_for_good a.wish answer s good (may does)
  by false doesnt = good

-- which kinds a party may have goes by its protocol
pub same_kinds : (who : Who) (names : List Name) (kind : CacheKind) → may_have who kind ≡ true → is_kind_of (party_in who names) kind ≡ true
unfolding is_kind_of
same_kinds (Open number) names kind h = h
same_kinds (Named name) names kind h = by (protocol_of name) no_number (place_of name names) h where
  by : (protocol : Protocol) (here there : ℕ) → is_kind_of (parties.Name protocol here) kind ≡ true → is_kind_of (parties.Name protocol there) kind ≡ true
  by Nlm here there h = h
  by Nfs here there h = h
  by Smb here there h = h

-- ---- how many caches there are

pub wish_for_idle : (kinds : List CacheKind) (answer : Answer) (s : CoreState) → idle_caches (wish_for kinds answer s).claims ≤ idle_caches s.claims + 1
wish_for_idle kinds (answers.Granted c) s = wish_idle (wish_of kinds c) s
wish_for_idle kinds (answers.Queued number) s = omega arith
wish_for_idle kinds (answers.Conflict c) s = omega arith
wish_for_idle kinds (answers.Recall c) s = omega arith
wish_for_idle kinds (answers.Grace until) s = omega arith
wish_for_idle kinds (answers.NoGrace clock) s = omega arith
wish_for_idle kinds answers.NotRecorded s = omega arith
wish_for_idle kinds (answers.Full limit) s = omega arith
wish_for_idle kinds answers.NotHeld s = omega arith
wish_for_idle kinds answers.StoreFailed s = omega arith

-- one delegation more at most may be recalled
granted_left : (wanted : Wish) (s : CoreState) → delegations_left (wish_granted wanted s).claims ≤ delegations_left s.claims + 1
unfolding wish_granted
granted_left wanted s = count_wished may_be_recalled wanted (wished_kind wanted s) s.claims

pub wish_for_left : (kinds : List CacheKind) (answer : Answer) (s : CoreState) → delegations_left (wish_for kinds answer s).claims ≤ delegations_left s.claims + 1
wish_for_left kinds (answers.Granted c) s = granted_left (wish_of kinds c) s
wish_for_left kinds (answers.Queued number) s = omega arith
wish_for_left kinds (answers.Conflict c) s = omega arith
wish_for_left kinds (answers.Recall c) s = omega arith
wish_for_left kinds (answers.Grace until) s = omega arith
wish_for_left kinds (answers.NoGrace clock) s = omega arith
wish_for_left kinds answers.NotRecorded s = omega arith
wish_for_left kinds (answers.Full limit) s = omega arith
wish_for_left kinds answers.NotHeld s = omega arith
wish_for_left kinds answers.StoreFailed s = omega arith

-- ---- which caches there are

filters_swap : (p q : Claim → Bool) (cs : List Claim) → filter p (filter q cs) ≡ filter q (filter p cs)
filters_swap p q [] = refl
filters_swap p q (c ∷ cs) =
    elim (cases_Bool (p c)) [
      | inl e ↦ elim (cases_Bool (q c)) [ inl f ↦ rw (e, f, e) (ap (λ (xs : List Claim). c ∷ xs) (filters_swap p q cs)) | inr f ↦ rw (f, e, f) (filters_swap p q cs) ]
      | inr e ↦ elim (cases_Bool (q c)) [ inl f ↦ rw (f, e) (filters_swap p q cs) | inr f ↦ rw (f, e) (filters_swap p q cs) ]
    ]

-- beside its party's cache on the file none changes
pub wish_beside_own : (wanted : Wish) (s : CoreState) → caches_beside wanted.file wanted.party (wish_granted wanted s).claims ≡ caches_beside wanted.file wanted.party s.claims
wish_beside_own wanted s =
    let apart : Claim → Bool = λ c. not (is_its_cache wanted c) in
    filters_swap apart (λ c. is_cache c.what) (wish_granted wanted s).claims ∙ ap (λ (cs : List Claim). filter (λ c. is_cache c.what) cs) (wish_caches wanted s) ∙ sym (filters_swap apart (λ c. is_cache c.what) s.claims)

-- nor of one whose claim is of this party, on this file
pub wish_beside_at : (kinds : List CacheKind) (answer : Answer) (s : CoreState) (file : ℕ) (party : Party) → ((d : Claim) → answer ≡ answers.Granted d → (d.file ≡ file) × (d.party ≡ party)) → caches_beside file party (wish_for kinds answer s).claims ≡ caches_beside file party s.claims
wish_beside_at kinds (answers.Granted c) s file party is =
    let at = is c refl in
    subst (λ (f : ℕ). caches_beside f party (wish_for kinds (answers.Granted c) s).claims ≡ caches_beside f party s.claims) at.0
    (subst (λ (p : Party). caches_beside c.file p (wish_for kinds (answers.Granted c) s).claims ≡ caches_beside c.file p s.claims) at.1 (wish_beside_own (wish_of kinds c) s))
wish_beside_at kinds (answers.Queued number) s file party is = refl
wish_beside_at kinds (answers.Conflict c) s file party is = refl
wish_beside_at kinds (answers.Recall c) s file party is = refl
wish_beside_at kinds (answers.Grace until) s file party is = refl
wish_beside_at kinds (answers.NoGrace clock) s file party is = refl
wish_beside_at kinds answers.NotRecorded s file party is = refl
wish_beside_at kinds (answers.Full limit) s file party is = refl
wish_beside_at kinds answers.NotHeld s file party is = refl
wish_beside_at kinds answers.StoreFailed s file party is = refl

-- the party's own is found among the caches
own_among : (wanted : Wish) (held : List Claim) → find (is_its_cache wanted) (caches_of held) ≡ find (is_its_cache wanted) held
own_among wanted [] = refl
own_among wanted (c ∷ cs) =
    elim (cases_Bool (is_cache c.what)) [
      | inl cache ↦ rw (cache, cache) (ap (λ (o : Option Claim). if (c.file == wanted.file) && same_parties c.party wanted.party then Some c else o) (own_among wanted cs))
      | inr other ↦ rw other (own_among wanted cs)
    ]

cached_among : (wanted : Wish) (kind : CacheKind) (o : Option Claim) (held : List Claim) → Pairwise goes_first held → caches_of (cached wanted kind o held) ≡ cached wanted kind o (caches_of held)
unfolding changed
cached_among wanted kind None held ordered = caches_inserted (wished_claim wanted kind) held ordered refl
cached_among wanted kind (Some own) held ordered =
    caches_inserted (with_what own (Cache kind None)) (removed own held) (pairwise_removed goes_first own held ordered) refl
    ∙ ap (λ (cs : List Claim). inserted (with_what own (Cache kind None)) cs) (caches_removed own held)

once_among : (wanted : Wish) (o : Option CacheKind) (held : List Claim) → Pairwise goes_first held → caches_of (once_wished wanted o held) ≡ once_wished wanted o (caches_of held)
once_among wanted None held ordered = refl
once_among wanted (Some kind) held ordered =
    cached_among wanted kind (find (is_its_cache wanted) held) held ordered ∙ ap (λ (o : Option Claim). cached wanted kind o (caches_of held)) (sym (own_among wanted held))

granted_among : (wanted : Wish) (s : CoreState) → IsGood s → caches_of (wish_granted wanted s).claims ≡ once_wished wanted (wished_kind wanted s) (caches_of s.claims)
unfolding wish_granted
granted_among wanted s good = once_among wanted (wished_kind wanted s) s.claims good.kept.ordered

-- the caches are those that the wish makes of those that were held
pub wish_for_caches : (kinds : List CacheKind) (answer : Answer) (s : CoreState) → IsGood s → caches_of (wish_for kinds answer s).claims ≡ caches_wished kinds answer s (caches_of s.claims)
wish_for_caches kinds (answers.Granted c) s good = granted_among (wish_of kinds c) s good
wish_for_caches kinds (answers.Queued number) s good = refl
wish_for_caches kinds (answers.Conflict c) s good = refl
wish_for_caches kinds (answers.Recall c) s good = refl
wish_for_caches kinds (answers.Grace until) s good = refl
wish_for_caches kinds (answers.NoGrace clock) s good = refl
wish_for_caches kinds answers.NotRecorded s good = refl
wish_for_caches kinds (answers.Full limit) s good = refl
wish_for_caches kinds answers.NotHeld s good = refl
wish_for_caches kinds answers.StoreFailed s good = refl

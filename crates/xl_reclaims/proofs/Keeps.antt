-- While grace runs each deed leaves what lies within what was held before, if each reclaim tells the truth.
use Rattle.std.proofs.Common.{◌≡◌, ℕ, ◌+◌, nat_le, Bool, true, false, not, ◌&&◌, ◌||◌, if◌then◌else◌, List, [], ◌∷◌, ◌++◌, length, Option, Some, None, refl, sym, ap, subst, ◌∙◌}
use Rattle.std.proofs.lemmas.Bool.{both_ways, and_parts, and_from}
use Rattle.xl_base.specs.Lists.{IsIn}
use Rattle.xl_base.specs.Stable.{Stable, is_recorded}
use Rattle.xl_base.specs.declared.event.Moment.{Moment}
use Rattle.xl_base.specs.declared.name.Party.{Party}
use Rattle.xl_base.proofs.Members.{all_in}
use Rattle.xl_base.proofs.Searches.{any_found, any_from}
use Rattle.xl_cache.specs.declared.wish.Wish.{Wish}
use Rattle.xl_grace.specs.Grace.{Running}
use Rattle.xl_matrix.specs.Kinds.{kind_lies_within}
use Rattle.xl_matrix.specs.Owners.{posix}
use Rattle.xl_matrix.specs.Rights.{implies, rights_lie_within}
use Rattle.xl_matrix.specs.declared.claim.CacheKind.{CacheKind}
use Rattle.xl_matrix.specs.declared.claim.CacheKind.TheVariants.{R, RH, RW, RWH, ReadDeleg, WriteDeleg}
use Rattle.xl_matrix.specs.declared.claim.Claim.{Claim}
use Rattle.xl_matrix.specs.declared.claim.Extent.{Extent}
use Rattle.xl_matrix.specs.declared.claim.Extent.TheVariants.{Bytes, Empty}
use Rattle.xl_matrix.specs.declared.claim.Rwd.{Rwd}
use Rattle.xl_matrix.specs.declared.claim.What.{What}
use Rattle.xl_matrix.specs.declared.claim.What.TheVariants.{Share, Range, Cache}
use Rattle.xl_names.specs.Names.{AreDistinct}
use Rattle.xl_names.specs.declared.name.Name.{Name}
use Rattle.xl_names.specs.declared.name.Name.TheVariants.{NfsParty}
use Rattle.xl_table.specs.Elements.{element_held}
use Rattle.xl_table.specs.Held.{IsShareOrLock}
use Rattle.xl_table.specs.Relock.{most_claims, holds_byte, granted_claims}
use Rattle.xl_wait.specs.declared.waiter.Rooms.{Rooms}
use Rattle.xl_core.specs.Askers.{party_named, both_entered, asked_what, asked_whats, asked_claim, asked_claims, known_claim, IsOrdered, IsFitAct, IsFitWish, IsFit}
use Rattle.xl_core.specs.BreakAnswers.{may_be_left, ack, client_of}
use Rattle.xl_core.specs.Causes.{asks_claims, IsWishDue}
use Rattle.xl_core.specs.Decide.{Answered, unlocked_claims, unlocked_bytes, freed, unlocked_one, unlocked, claims_asked, acted, decided, does_wish, wish_after, with_wish, ask}
use Rattle.xl_core.specs.Deeds.{Deed, Asks, GivesBack, Weakens, Acks, Cancels, Ends, Serves, Draws, Advances, Lapses, Renews, Expires, Closes, FailsStore, EndsGrace, turned, done, IsFitDeed}
use Rattle.xl_core.specs.Good.{are_kept, IsHeldBy, IsHeld, IsGood}
use Rattle.xl_core.specs.Judge.{held_with}
use Rattle.xl_core.specs.Knowing.{KnowsRecord}
use Rattle.xl_core.specs.Settle.{settle, cancel, give_back, share_has, weaken, end_party, close_open}
use Rattle.xl_core.specs.Standings.{stands_alone, enters, standing}
use Rattle.xl_core.specs.State.{CoreState, drawn}
use Rattle.xl_core.specs.Stores.{stored, store_failed, client_name, without_name}
use Rattle.xl_core.specs.Ticks.{advanced, renew, end_some, unleased, barred, gone_client, forgotten, expire, lapsed_by, lapse, end_grace}
use Rattle.xl_core.specs.Wishes.{wish_of, wish_for, wish_granted}
use Rattle.xl_core.specs.declared.ask.Act.{Act}
use Rattle.xl_core.specs.declared.ask.Act.TheVariants as acts
use Rattle.xl_core.specs.declared.ask.Answer.{Answer}
use Rattle.xl_core.specs.declared.ask.Answer.TheVariants as answers
use Rattle.xl_core.specs.declared.ask.Ask.{Ask}
use Rattle.xl_core.specs.declared.ask.Effect.{Effect}
use Rattle.xl_core.proofs.AskWishLaws.{ungranted_after}
use Rattle.xl_core.proofs.BreakAnswerLaws.{left_within}
use Rattle.xl_core.proofs.CauseLaws.{fit_what, same_list}
use Rattle.xl_core.proofs.DeedCalls.{decided_keeps_claims}
use Rattle.xl_core.proofs.DeedLaws.{Does, Doesnt, Grants, grants_or, ask_names}
use Rattle.xl_core.proofs.GoodLaws.{AskCase, Goes, Queues, Refuses, ask_case, decided_good}
use Rattle.xl_core.proofs.RowLaws.{is_refusal}
use Rattle.xl_core.proofs.KnownLaws.{GoOn, both_go_on, both_distinct, asker_kept}
use Rattle.xl_core.proofs.KnowingLaws.{granted_in_grace, no_turn}
use Rattle.xl_core.proofs.WayAsks.{ask_there, no_wish_after, ask_wish, test_stands}
use Rattle.xl_reclaims.specs.Truthful.{Before, WereHeld, is_by_owner, is_by_party, cache_has, had_share, had_cache, IsWithinBy, IsWithin, AreWithin, HoldsWithin, IsTruthful, TellsTruth, Reclaims, IsLetIn}
use Rattle.xl_reclaims.proofs.Together.{shared, a_byte}
use Rattle.xl_reclaims.proofs.ByNames.{mine_posix}
use Rattle.xl_reclaims.proofs.Within.{all_within_on, within_filter, within_removed, within_changed, within_relocked, within_granted, within_wished, HadKinds}
use Rattle.xl_reclaims.proofs.LetIn.{no_way, asked_order, one_what, what_within, let_in}

-- ---- what changes no claim, and what takes some out

-- so it is of this state
abbrev pub Lies : Before → CoreState → Type 0
Lies before s = AreWithin before s.names s.claims

same_lies : (before : Before) (s t : CoreState) → IsGood s → t.claims ≡ s.claims → GoOn s.names t.names → Lies before s → Lies before t
same_lies before s t good same on lies = subst (λ (cs : List Claim). AreWithin before t.names cs) (sym same) (all_within_on before s.names t.names s.claims on good.known lies)

-- ---- weaker

implies_on : (p q r : Bool) → implies p q ≡ true → implies q r ≡ true → implies p r ≡ true
implies_on false q r h k = refl
implies_on true true r h k = k
implies_on true false r h k = absurd (both_ways false refl h)

rights_on : (p q r : Rwd) → rights_lie_within p q ≡ true → rights_lie_within q r ≡ true → rights_lie_within p r ≡ true
rights_on p q r h k =
    let one = and_parts (implies p.r q.r) (implies p.w q.w && implies p.d q.d) h in
    let two = and_parts (implies q.r r.r) (implies q.w r.w && implies q.d r.d) k in
    let more = and_parts (implies p.w q.w) (implies p.d q.d) one.1 in
    let also = and_parts (implies q.w r.w) (implies q.d r.d) two.1 in
    and_from _ _ (implies_on p.r q.r r.r one.0 two.0) (and_from _ _ (implies_on p.w q.w r.w more.0 also.0) (implies_on p.d q.d r.d more.1 also.1))

share_on : (w : What) (access deny rights denied : Rwd) → share_has w rights denied ≡ true → rights_lie_within access rights ≡ true → rights_lie_within deny denied ≡ true → share_has w access deny ≡ true
share_on (Share x y) access deny rights denied has one two =
    let parts = and_parts (rights_lie_within rights x) (rights_lie_within denied y) has in
    and_from _ _ (rights_on access rights x one parts.0) (rights_on deny denied y two parts.1)
share_on (Range x y) access deny rights denied has one two = absurd (both_ways false refl has)
share_on (Cache x y) access deny rights denied has one two = absurd (both_ways false refl has)

weaker_share : (before : Before) (names : List Name) (c : Claim) (w : What) (access deny : Rwd) → share_has w access deny ≡ true → IsWithinBy before names c w → had_share before names c (Share access deny) ≡ true
weaker_share before names c (Share rights denied) access deny has within =
    let parts = and_parts (rights_lie_within access rights) (rights_lie_within deny denied) has in
    let found = any_found (λ held. is_by_owner before names c held && share_has held.what rights denied) before.claims within in
    let both = and_parts (is_by_owner before names c found.0) (share_has found.0.what rights denied) found.2 in
    any_from (λ held. is_by_owner before names c held && share_has held.what access deny) found.0 before.claims found.1 (and_from _ _ both.0 (share_on found.0.what access deny rights denied both.1 parts.0 parts.1))
weaker_share before names c (Range x y) access deny has within = absurd (both_ways false refl has)
weaker_share before names c (Cache x y) access deny has within = absurd (both_ways false refl has)

kinds_on : (a b c : CacheKind) → kind_lies_within a b ≡ true → kind_lies_within b c ≡ true → kind_lies_within a c ≡ true
kinds_on R b R h k = refl
kinds_on R b RH h k = refl
kinds_on R b RW h k = refl
kinds_on R b RWH h k = refl
kinds_on RH b RH h k = refl
kinds_on RH b RWH h k = refl
kinds_on RW b RW h k = refl
kinds_on RW b RWH h k = refl
kinds_on RWH b RWH h k = refl
kinds_on ReadDeleg b ReadDeleg h k = refl
kinds_on ReadDeleg b WriteDeleg h k = refl
kinds_on WriteDeleg b WriteDeleg h k = refl
kinds_on a R c h k = below a c h k where
  below : (a c : CacheKind) → kind_lies_within a R ≡ true → kind_lies_within R c ≡ true → kind_lies_within a c ≡ true
  below R c h k = k
  below _ c h k = cc
kinds_on RH RH c h k = k
kinds_on RW RW c h k = k
kinds_on _ _ _ h k = cc

cache_on : (w : What) (kind whole : CacheKind) → cache_has w whole ≡ true → kind_lies_within kind whole ≡ true → cache_has w kind ≡ true
cache_on (Cache upper running) kind whole has less = kinds_on kind whole upper less has
cache_on (Share x y) kind whole has less = absurd (both_ways false refl has)
cache_on (Range x y) kind whole has less = absurd (both_ways false refl has)

weaker_cache : (before : Before) (names : List Name) (c : Claim) (w : What) (kind : CacheKind) → IsHeldBy c.party w → may_be_left w (Some kind) ≡ true → IsWithinBy before names c w → had_cache before names c kind ≡ true
weaker_cache before names c (Cache whole running) kind held left within =
    let less = (left_within c.party whole running kind held left).1 in
    let found = any_found (λ x. is_by_party before names c x && cache_has x.what whole) before.claims within in
    let both = and_parts (is_by_party before names c found.0) (cache_has found.0.what whole) found.2 in
    any_from (λ x. is_by_party before names c x && cache_has x.what kind) found.0 before.claims found.1 (and_from _ _ both.0 (cache_on found.0.what kind whole both.1 less))
weaker_cache before names c (Share x y) kind held left within = absurd (both_ways false refl left)
weaker_cache before names c (Range x y) kind held left within = absurd (both_ways false refl left)

weakens_lies : (before : Before) (s : CoreState) (share : Claim) (access deny : Rwd) → IsIn share s.claims → share_has share.what access deny ≡ true → Lies before s → Lies before (weaken s share access deny).1
unfolding weaken
weakens_lies before s share access deny there has lies =
    within_changed before s.names share (Share access deny) s.claims (weaker_share before s.names share share.what access deny has (all_in (λ c. IsWithin before s.names c) share s.claims lies there)) lies

acks_lies : (before : Before) (s : CoreState) (cache : Claim) (to : Option CacheKind) → IsGood s → IsIn cache s.claims → may_be_left cache.what to ≡ true → Lies before s → Lies before (ack s cache to).1
unfolding ack
acks_lies before s cache None good there left lies = within_removed before s.names cache s.claims lies
acks_lies before s cache (Some kind) good there left lies =
    within_changed before s.names cache (Cache kind None) s.claims
    (weaker_cache before s.names cache cache.what kind (all_in (λ c. IsHeld s.names c) cache s.claims good.known there).0.0 left (all_in (λ c. IsWithin before s.names c) cache s.claims lies there)) lies

-- ---- who leaves

ends_lies : (before : Before) (s : CoreState) (party : Party) → Lies before s → Lies before (end_party s party).1
unfolding end_party
ends_lies before s party lies = within_filter before s.names _ s.claims lies

closes_lies : (before : Before) (s : CoreState) (number : ℕ) (party : Option Party) → Lies before s → Lies before (close_open s number party).1
unfolding close_open
closes_lies before s number party lies = within_filter before s.names _ s.claims lies

gives_lies : (before : Before) (s : CoreState) (claim : Claim) → Lies before s → Lies before (give_back s claim).1
unfolding give_back
gives_lies before s claim lies = within_removed before s.names claim s.claims lies

forgets_lies : (before : Before) (s : CoreState) (client : List ℕ) → Lies before s → Lies before (forgotten s client)
unfolding stored
forgets_lies before s client lies = by (is_recorded (client_name client) s.stable.names) where
  by : (b : Bool) → Lies before (if b then stored (without_name (client_name client) s.stable) s else s)
  by true = lies
  by false = lies

some_lies : (before : Before) (s : CoreState) (client : List ℕ) (party : Option Party) → Lies before s → Lies before (unleased client (end_some s party)).1
some_lies before s client None lies = lies
some_lies before s client (Some party) lies = ends_lies before s party lies

expires_lies : (before : Before) (s : CoreState) (client : List ℕ) → Lies before s → Lies before (expire s client).1
unfolding expire gone_client barred
expires_lies before s client lies = some_lies before (barred (forgotten s client) client) client (party_named (forgotten s client).names (NfsParty client)) (forgets_lies before s client lies)

lapses_lies : (before : Before) (s : CoreState) (cache : Claim) → Lies before s → Lies before (lapse s cache).1
unfolding lapse
lapses_lies before s cache lies = by (client_of s.names cache.party) where
  by : (o : Option (List ℕ)) → Lies before (lapsed_by s cache o).1
  by None = within_removed before s.names cache s.claims lies
  by (Some client) = expires_lies before s client lies

fails_lies : (before : Before) (s : CoreState) (stable : Stable) → Lies before s → Lies before (store_failed stable s)
unfolding store_failed
fails_lies before s stable lies = by s.failed where
  by : (b : Bool) → Lies before (if b then s else record s { failed = true; given = s.given ++ stable ∷ [] })
  by true = lies
  by false = lies

-- ---- an unlock

-- what an unlock of bytes gives, if some are held, and if there is room
abbrev unlock_by : CoreState → Claim → ℕ → ℕ → Bool → Bool → Answered
unlock_by s claim first last holds fits =
    if not holds then (answers.NotHeld, [], s)
    else if not fits then (answers.Full most_claims, [], s)
    else (answers.Granted claim, [], record s { claims = unlocked_claims claim first last s.claims })

unlocks_lies : (before : Before) (s : CoreState) (claim : Claim) (extent : Extent) → IsGood s → IsOrdered extent → Lies before s → Lies before (unlocked s claim extent).2
unfolding unlocked
unlocks_lies before s claim (Bytes first last) good order lies = by (posix claim.owner) refl where
  one : (o : Option Claim) → Lies before (freed s claim o).2
  one None = lies
  one (Some c) = within_removed before s.names c s.claims lies

  bytes : (holds fits : Bool) → posix claim.owner ≡ true → Lies before (unlock_by s claim first last holds fits).2
  bytes false fits own = lies
  bytes true false own = lies
  bytes true true own = within_relocked before s.names claim first last None s.claims good.kept own order (λ m e. absurd cc) lies

  by : (b : Bool) → posix claim.owner ≡ b → (let r : Answered = if b then unlocked_bytes s claim first last else unlocked_one s claim (Bytes first last) in Lies before r.2)
  by true own = bytes (holds_byte claim.file claim.owner first last s.claims) (nat_le (length (unlocked_claims claim first last s.claims)) most_claims) own
  by false own = one (element_held claim (Bytes first last) s.claims)
unlocks_lies before s claim (Empty offset) good order lies = one (element_held claim (Empty offset) s.claims) where
  one : (o : Option Claim) → Lies before (freed s claim o).2
  one None = lies
  one (Some c) = within_removed before s.names c s.claims lies

-- ---- a granted ask

some_granted : (c d : Claim) → answers.Granted c ≡ answers.Granted d → c ≡ d
some_granted c d e = cc

by_act : (n : ℕ) (left : Rooms) (s : CoreState) (a : Ask) (act : Act) (what : What) → asked_what act ≡ Some what → acted n left s a act ≡ claims_asked n left s a (asked_claims a (asked_whats act) s.names)
by_act n left s a (acts.Share access deny) what e = refl
by_act n left s a (acts.Ranges ranges) what e = refl
by_act n left s a (acts.Test extent exclusive) what e = absurd cc
by_act n left s a (acts.Unlock extent) what e = absurd cc
by_act n left s a acts.Wish what e = absurd cc

-- what one is granted that asks for one thing, and the names then
pub record IsEntered (s : CoreState) (a : Ask) (what : What) (r : Answered) : Type 0 where
  pub answer : r.0 ≡ answers.Granted (asked_claim a what s.names)
  pub claims : r.2.claims ≡ granted_claims (asked_claim a what s.names) s.claims
  pub names : r.2.names ≡ both_entered a s.names

entered : (n : ℕ) (left : Rooms) (s : CoreState) (a : Ask) (what : What) (c : Claim) → asked_what a.act ≡ Some what → (decided n left s a).0 ≡ answers.Granted c → IsEntered s a what (decided n left s a)
unfolding decided held_with
entered n left s a what c one e = by (claims_asked n left s a (claim ∷ [])) (ask_case n left s a claim []) refl where
  claim : Claim
  claim = asked_claim a what s.names

  is : decided n left s a ≡ claims_asked n left s a (claim ∷ [])
  is = by_act n left s a a.act what one ∙ ap (λ (asked : List What). claims_asked n left s a (asked_claims a asked s.names)) (same_list what (asked_whats a.act) one)

  by : (r : Answered) → AskCase n left s a (claim ∷ []) claim r → claims_asked n left s a (claim ∷ []) ≡ r → IsEntered s a what (decided n left s a)
  by r (Goes in_time may pass so) same =
      let whole = is ∙ same ∙ so in
      record { answer = ap (λ (x : Answered). x.0) whole; claims = ap (λ (x : Answered). x.2.claims) whole; names = ap (λ (x : Answered). x.2.names) whole }
  by r (Queues why room so) same = let two : answers.Queued (s.counter + 1) ≡ answers.Granted c = sym (ap (λ (x : Answered). x.0) (is ∙ same ∙ so)) ∙ e in absurd cc
  by r (Refuses answer refused so) same = absurd (both_ways (is_refusal answer) (ap is_refusal (sym (ap (λ (x : Answered). x.0) (is ∙ same ∙ so)) ∙ e)) refused)

claim_posix : (before : Before) (names : List Name) (c : Claim) (w : What) → c.what ≡ w → IsShareOrLock w → WereHeld before → are_kept names c.owner c.party ≡ true → IsWithinBy before names c w → posix c.owner ≡ true
claim_posix before names c (Share access deny) is lock were kept within = let found = shared before names c access deny were kept within in mine_posix before names c found.held found.own
claim_posix before names c (Range extent exclusive) is lock were kept within = let found = a_byte before names c (Range extent exclusive) is refl (asked_order (Range extent exclusive) lock) were kept within in mine_posix before names c found.2.held found.2.own
claim_posix before names c (Cache kind running) is lock were kept within = absurd lock

wish_lies : (before : Before) (wanted : Wish) (u : CoreState) → WereHeld before → IsGood u → Lies before u → HadKinds before u.names wanted → Lies before (wish_granted wanted u)
unfolding wish_granted
wish_lies before wanted u were ok has kinds = within_wished before u.names wanted u were ok.distinct ok.known kinds has

reclaim_lies : (n : ℕ) (before : Before) (left : Rooms) (s : CoreState) (a : Ask) (c : Claim) (g : Running) → WereHeld before → IsGood s → IsFit a → s.grace ≡ Some g → Lies before s → asks_claims a.act ≡ true → IsTruthful before s a → (decided n left s a).0 ≡ answers.Granted c
    → Lies before (wish_after a (decided n left s a).0 (decided n left s a).2)
reclaim_lies n before left s a c g were good fit runs lies asks truth e = by (does_wish a.act) where
  one : (what : What) × (asked_what a.act ≡ Some what)
  one = one_what before s a were fit asks truth

  names : List Name
  names = both_entered a s.names

  claim : Claim
  claim = asked_claim a one.0 s.names

  t : CoreState
  t = (decided n left s a).2

  is : IsEntered s a one.0 (decided n left s a)
  is = entered n left s a one.0 c one.1 e

  kept : are_kept names claim.owner claim.party ≡ true
  kept = asker_kept a s.names fit.party

  distinct : AreDistinct names
  distinct = both_distinct a s.names good.distinct

  lock : IsShareOrLock one.0
  lock = fit_what a one.0 fit one.1

  within : IsWithin before names claim
  within = what_within before s a one.0 one.1 truth

  first : AreWithin before names (granted_claims claim s.claims)
  first =
      within_granted before names claim s.claims were distinct kept (claim_posix before names claim one.0 refl lock were kept within) (asked_order one.0 lock) good.kept within
      (all_within_on before s.names names s.claims (both_go_on a s.names) good.known lies)

  entered_lies : Lies before t
  entered_lies = subst (λ (ns : List Name). AreWithin before ns t.claims) (sym is.names) (subst (λ (cs : List Claim). AreWithin before names cs) (sym is.claims) first)

  had : (ns : List Name) → ns ≡ names → HadKinds before ns (wish_of a.wish claim)
  had ns at = subst (λ (x : List Name). HadKinds before x (wish_of a.wish claim)) (sym at) truth.caches

  wished : Lies before (wish_granted (wish_of a.wish claim) t)
  wished = wish_lies before (wish_of a.wish claim) t were (decided_good n left s a good fit) entered_lies (had t.names is.names)

  by : (b : Bool) → Lies before (if b then wish_for a.wish (decided n left s a).0 t else t)
  by true = subst (λ (answer : Answer). Lies before (wish_for a.wish answer t)) (sym is.answer) wished
  by false = entered_lies

-- ---- any ask

never_wished : (n : ℕ) (left : Rooms) (s : CoreState) (a : Ask) (c : Claim) (g : Running) → IsFit a → s.grace ≡ Some g → a.act ≡ acts.Wish → (ask n left s a).0 ≡ answers.Granted c → ⊥
unfolding standing
never_wished n left s a c g fit runs act e = by a.wish refl (subst (λ (x : Act). IsFitWish a.party (a.blocking || a.awaits) a.reclaim x a.wish) act fit.wish) where
  early : a.reclaim ≡ false → enters (stands_alone s a) ≡ false
  early none = rw (runs, none) refl

  by : (kinds : List CacheKind) → a.wish ≡ kinds → IsFitWish a.party (a.blocking || a.awaits) a.reclaim acts.Wish kinds → ⊥
  by [] is h = h
  by (kind ∷ kinds) is h = both_ways (enters (stands_alone s a)) (early h.0) (subst (λ (ks : List CacheKind). IsWishDue left s a ks (answers.Granted c)) is ((ask_wish n left s a kind kinds (answers.Granted c) act is).0 e)).1

asks_lies : (n : ℕ) (before : Before) (left : Rooms) (s : CoreState) (a : Ask) (g : Running) → WereHeld before → IsGood s → KnowsRecord s → IsFit a → s.grace ≡ Some g → Lies before s → (Reclaims s a → IsTruthful before s a) → Lies before (ask n left s a).2
unfolding decided
asks_lies n before left s a g were good knows fit runs lies truth = by (grants_or (decided n left s a).0) where
  there : ask n left s a ≡ with_wish a (decided n left s a)
  there = ask_there n left s a (no_way left s a g runs)

  answer_is : (c : Claim) → (decided n left s a).0 ≡ answers.Granted c → (ask n left s a).0 ≡ answers.Granted c
  answer_is c e = ap (λ (r : Answered). r.0) there ∙ e

  refused : ((c : Claim) → (decided n left s a).0 ≡ answers.Granted c → ⊥) → Lies before (ask n left s a).2
  refused none =
      same_lies before s (ask n left s a).2 good
      (ap (λ (r : Answered). r.2.claims) there ∙ ap (λ (x : CoreState). x.claims) (ungranted_after a (decided n left s a).0 (decided n left s a).2 none) ∙ decided_keeps_claims n left s a good fit none)
      (ask_names n left s a good fit) lies

  reclaims : (c : Claim) → asks_claims a.act ≡ true → (decided n left s a).0 ≡ answers.Granted c → Lies before (ask n left s a).2
  reclaims c asks e =
      subst (λ (r : Answered). Lies before r.2) (sym there)
      (reclaim_lies n before left s a c g were good fit runs lies asks (truth (g, runs, asks, (granted_in_grace n left s a c g knows runs asks (answer_is c e)).0)) e)

  granted : (c : Claim) (act : Act) → a.act ≡ act → IsFitAct a.owner a.blocking act → (decided n left s a).0 ≡ answers.Granted c → Lies before (ask n left s a).2
  granted c (acts.Share access deny) is f e = reclaims c (ap asks_claims is) e
  granted c (acts.Ranges ranges) is f e = reclaims c (ap asks_claims is) e
  granted c (acts.Test extent exclusive) is f e = subst (λ (t : CoreState). Lies before t) (sym (test_stands n left s a extent exclusive is)) lies
  granted c (acts.Unlock extent) is f e =
      subst (λ (r : Answered). Lies before r.2) (sym there)
      (subst (λ (t : CoreState). Lies before t) (sym (no_wish_after a (decided n left s a).0 (decided n left s a).2 (ap does_wish is)))
      (subst (λ (r : Answered). Lies before r.2) (sym (ap (λ (x : Act). acted n left s a x) is)) (unlocks_lies before s (known_claim a extent false s.names) extent good f lies)))
  granted c acts.Wish is f e = absurd (never_wished n left s a c g fit runs is (answer_is c e))

  by : Grants (decided n left s a).0 → Lies before (ask n left s a).2
  by (Does c e) = granted c a.act refl fit.act e
  by (Doesnt none rest) = refused none

-- ---- any deed

turn_lies : (n : ℕ) (before : Before) (left : Rooms) (s : CoreState) (g : Running) → IsGood s → s.grace ≡ Some g → Lies before s → Lies before (turned s (settle n left s)).2
turn_lies n before left s g good runs lies = subst (λ (o : Option (List Effect × CoreState)). Lies before (turned s o).2) (sym (no_turn n left s g good runs)) lies

drawn_lies : (before : Before) (s : CoreState) → Lies before s → Lies before (drawn s)
unfolding drawn
drawn_lies before s lies = lies

advanced_lies : (before : Before) (s : CoreState) (now : Moment) → Lies before s → Lies before (advanced s now)
unfolding advanced
advanced_lies before s now lies = lies

renewed_lies : (before : Before) (s : CoreState) (client : List ℕ) → Lies before s → Lies before (renew s client).1
unfolding renew
renewed_lies before s client lies = lies

cancelled_lies : (before : Before) (s : CoreState) (id : ℕ) → Lies before s → Lies before (cancel s id).1
unfolding cancel
cancelled_lies before s id lies = lies

ended_lies : (before : Before) (s : CoreState) → Lies before s → Lies before (end_grace s)
unfolding end_grace stored
ended_lies before s lies = lies

pub deed_lies : (n : ℕ) (before : Before) (s : CoreState) (d : Deed) (g : Running) → WereHeld before → IsGood s → KnowsRecord s → IsFitDeed s d → s.grace ≡ Some g → Lies before s → TellsTruth before s d → Lies before (done n s d)
deed_lies n before s (Asks left a) g were good knows fit runs lies truth = asks_lies n before left s a g were good knows fit runs lies truth
deed_lies n before s (GivesBack claim) g were good knows fit runs lies truth = gives_lies before s claim lies
deed_lies n before s (Weakens share access deny) g were good knows fit runs lies truth = weakens_lies before s share access deny fit.0 fit.1 lies
deed_lies n before s (Acks cache to) g were good knows fit runs lies truth = acks_lies before s cache to good fit.0 fit.1 lies
deed_lies n before s (Cancels id) g were good knows fit runs lies truth = cancelled_lies before s id lies
deed_lies n before s (Ends party) g were good knows fit runs lies truth = ends_lies before s party lies
deed_lies n before s (Serves left) g were good knows fit runs lies truth = turn_lies n before left s g good runs lies
deed_lies n before s Draws g were good knows fit runs lies truth = drawn_lies before s lies
deed_lies n before s (Advances now) g were good knows fit runs lies truth = advanced_lies before s now lies
deed_lies n before s (Lapses cache) g were good knows fit runs lies truth = lapses_lies before s cache lies
deed_lies n before s (Renews client) g were good knows fit runs lies truth = renewed_lies before s client lies
deed_lies n before s (Expires client) g were good knows fit runs lies truth = expires_lies before s client lies
deed_lies n before s (Closes number party) g were good knows fit runs lies truth = closes_lies before s number party lies
deed_lies n before s (FailsStore stable) g were good knows fit runs lies truth = fails_lies before s stable lies
deed_lies n before s EndsGrace g were good knows fit runs lies truth = ended_lies before s lies

-- a truthful reclaim is let in
pub deed_lets_in : (n : ℕ) (before : Before) (s : CoreState) (d : Deed) → WereHeld before → IsGood s → KnowsRecord s → IsFitDeed s d → HoldsWithin before s → TellsTruth before s d → IsLetIn n s d
deed_lets_in n before s (Asks left a) were good knows fit holds truth = λ does. let_in n before left s a does.0 were good knows fit does.1 holds does.2 does.3 (truth does)
deed_lets_in n before s (GivesBack claim) were good knows fit holds truth = tt
deed_lets_in n before s (Weakens share access deny) were good knows fit holds truth = tt
deed_lets_in n before s (Acks cache to) were good knows fit holds truth = tt
deed_lets_in n before s (Cancels id) were good knows fit holds truth = tt
deed_lets_in n before s (Ends party) were good knows fit holds truth = tt
deed_lets_in n before s (Serves left) were good knows fit holds truth = tt
deed_lets_in n before s Draws were good knows fit holds truth = tt
deed_lets_in n before s (Advances now) were good knows fit holds truth = tt
deed_lets_in n before s (Lapses cache) were good knows fit holds truth = tt
deed_lets_in n before s (Renews client) were good knows fit holds truth = tt
deed_lets_in n before s (Expires client) were good knows fit holds truth = tt
deed_lets_in n before s (Closes number party) were good knows fit holds truth = tt
deed_lets_in n before s (FailsStore stable) were good knows fit holds truth = tt
deed_lets_in n before s EndsGrace were good knows fit holds truth = tt

-- A truthful reclaim is not turned away: nothing that is held stands against it.
use Rattle.std.proofs.Common.{◌≡◌, ℕ, Bool, true, false, not, ◌==◌, ◌&&◌, ◌||◌, if◌then◌else◌, List, [], ◌∷◌, Some, None, inl, inr, refl, sym, ap, subst, ◌∙◌}
use Rattle.std.specs.List.{AllByRecursion}
use Rattle.std.proofs.lemmas.Bool.{cases_Bool, both_ways, and_right}
use Rattle.xl_base.specs.Lists.{IsIn}
use Rattle.xl_base.proofs.Members.{all_in}
use Rattle.xl_base.specs.declared.name.Owner.{Owner}
use Rattle.xl_base.specs.declared.name.Owner.TheVariants as owners
use Rattle.xl_base.specs.declared.name.Protocol.{Protocol}
use Rattle.xl_cache.specs.Wishing.{is_its_cache}
use Rattle.xl_grace.specs.Grace.{Running, may_reclaim, is_known, admission}
use Rattle.xl_grace.specs.declared.grace.Admission.TheVariants.{Enters, NotRecorded}
use Rattle.xl_matrix.specs.Equal.{same_owners, same_parties}
use Rattle.xl_matrix.specs.Blocks.{is_replaced, is_own, is_met, blocks}
use Rattle.xl_matrix.specs.Matrix.{compat}
use Rattle.xl_matrix.specs.Owners.{posix}
use Rattle.xl_matrix.specs.declared.claim.CacheKind.{CacheKind}
use Rattle.xl_matrix.specs.declared.claim.Claim.{Claim}
use Rattle.xl_matrix.specs.declared.claim.Extent.{Extent}
use Rattle.xl_matrix.specs.declared.claim.Extent.TheVariants.{Bytes, Empty}
use Rattle.xl_matrix.specs.declared.claim.What.{What}
use Rattle.xl_matrix.specs.declared.claim.What.TheVariants.{Share, Range, Cache}
use Rattle.xl_matrix.proofs.EqualLaws.{same_parties-sym}
use Rattle.xl_names.specs.Names.{AreDistinct, protocol_of}
use Rattle.xl_names.specs.declared.name.Name.{Name}
use Rattle.xl_table.specs.Held.{is_share, is_range, is_cache, IsShareOrLock}
use Rattle.xl_table.proofs.SectionLaws.{blocks_there}
use Rattle.xl_wait.specs.declared.waiter.Rooms.{Rooms}
use Rattle.xl_core.specs.Askers.{asker, asking_party, owner_in, both_entered, asked_what, asked_whats, asked_claim, asked_claims, range_what, alone, is_named, IsFitAct, AreMore, IsFit}
use Rattle.xl_core.specs.Causes.{asks_claims, blocks_either, IsAgainst, IsClaimDue}
use Rattle.xl_core.specs.Decide.{beside_of, plea_of, way, ask}
use Rattle.xl_core.specs.Good.{are_kept, IsHeldBy, IsHeld, IsGood}
use Rattle.xl_core.specs.Judge.{cache_beside, blocks_beside, blocks_its_cache}
use Rattle.xl_core.specs.Knowing.{KnowsRecord}
use Rattle.xl_core.specs.Standings.{asker_as, is_smb, standing, standing_by, stands, is_timely}
use Rattle.xl_core.specs.State.{CoreState}
use Rattle.xl_core.specs.Wishes.{wish_of}
use Rattle.xl_core.specs.declared.ask.Act.{Act}
use Rattle.xl_core.specs.declared.ask.Act.TheVariants as acts
use Rattle.xl_core.specs.declared.ask.Answer.{Answer}
use Rattle.xl_core.specs.declared.ask.Answer.TheVariants as answers
use Rattle.xl_core.specs.declared.ask.Ask.{Ask}
use Rattle.xl_core.specs.declared.ask.Effect.{Effect}
use Rattle.xl_core.specs.declared.ask.Who.{Who}
use Rattle.xl_core.specs.declared.ask.Who.TheVariants as whos
use Rattle.xl_core.proofs.CauseLaws.{fit_what, same_list}
use Rattle.xl_core.proofs.KnownLaws.{both_go_on, both_distinct, kept_on, asker_kept}
use Rattle.xl_core.proofs.KnowingLaws.{unrecorded_is}
use Rattle.xl_core.proofs.WayAsks.{ask_due}
use Rattle.xl_core.proofs.WayLaws.{way_graced}
use Rattle.xl_reclaims.specs.Truthful.{Before, WereHeld, IsWithin, AreWithin, HoldsWithin, IsTruthful, turns_away, IsInOrder}
use Rattle.xl_reclaims.proofs.ByNames.{IsOfOwner, mine_posix}
use Rattle.xl_reclaims.proofs.Together.{AreApart, a_byte, within_fits}
use Rattle.xl_reclaims.proofs.Within.{within_on}

-- ---- in grace

none_runs : {A : Type 0} (g : Running) → None ≡ Some g → A
none_runs g e = absurd cc

pub not_timely : (s : CoreState) (a : Ask) (g : Running) → s.grace ≡ Some g → is_timely (stands s a) ≡ false
unfolding standing
not_timely s a g runs = rw runs (by a.reclaim (is_smb a.party) (may_reclaim (asker_as a) g.reclaimants) refl) where
  by : (reclaim stays may : Bool) → may_reclaim (asker_as a) g.reclaimants ≡ may → is_timely (standing_by stays reclaim s.clock (admission (Some g) (asker_as a) reclaim)) ≡ false
  by true stays true e = rw e refl
  by true stays false e = rw e refl
  by false true may e = refl
  by false false may e = refl

-- nothing begins in it
pub no_way : (left : Rooms) (s : CoreState) (a : Ask) (g : Running) → s.grace ≡ Some g → way left s a ≡ ([], s)
unfolding plea_of
no_way left s a g runs = way_graced s.waiters (plea_of left s a) (asked_claims a (asked_whats a.act) s.names) s (not_timely s a g runs)

-- ---- one claim

-- a claim that is held is in order
held_order : (names : List Name) (c : Claim) → IsHeld names c → IsInOrder c.what
held_order names c held = by c.what held.0.0 where
  by : (w : What) → IsHeldBy c.party w → IsInOrder w
  by (Share access deny) h = tt
  by (Range (Bytes first last) exclusive) h = h
  by (Range (Empty offset) exclusive) h = tt
  by (Cache kind running) h = tt

pub asked_order : (w : What) → IsShareOrLock w → IsInOrder w
asked_order (Share access deny) h = tt
asked_order (Range (Bytes first last) exclusive) h = h
asked_order (Range (Empty offset) exclusive) h = tt
asked_order (Cache kind running) h = tt

-- a range that lies within what was held before is a POSIX owner's
range_posix : (before : Before) (names : List Name) (c : Claim) → WereHeld before → are_kept names c.owner c.party ≡ true → is_range c.what ≡ true → IsInOrder c.what → IsWithin before names c → posix c.owner ≡ true
range_posix before names c were kept range order within = let found = a_byte before names c c.what refl range order were kept within in mine_posix before names c found.2.held found.2.own

replaced_range : (owner : Owner) (w : What) → is_range w ≡ true → is_replaced owner w ≡ posix owner
replaced_range owner (Range extent exclusive) e = refl
replaced_range owner (Share access deny) e = absurd (both_ways false refl e)
replaced_range owner (Cache kind running) e = absurd (both_ways false refl e)

replaced_share : (owner : Owner) (w : What) → is_share w ≡ true → is_replaced owner w ≡ true
replaced_share owner (Share access deny) e = refl
replaced_share owner (Range extent exclusive) e = absurd (both_ways false refl e)
replaced_share owner (Cache kind running) e = absurd (both_ways false refl e)

not_own : (p q : Bool) → (p && q) ≡ false → q ≡ true → p ≡ false
not_own false q e f = refl
not_own true q e f = absurd (both_ways q e f)

met_none : (p q : Owner) (w v : What) → (is_range w ≡ true → is_range v ≡ true → ⊥) → is_met p w q v ≡ false
met_none p q (Range extent true) (Range place alone) none = absurd (none refl refl)
met_none p q (Range extent true) (Share access deny) none = refl
met_none p q (Range extent true) (Cache kind running) none = refl
met_none p q (Range extent false) v none = refl
met_none p q (Share access deny) v none = refl
met_none p q (Cache kind running) v none = refl

blocks_none : (c h : Claim) → compat c h ≡ true → (same_owners c.owner h.owner && is_met c.owner c.what h.owner h.what) ≡ false → blocks c h ≡ false
unfolding blocks
blocks_none c h fits met = rw (fits, met) (ap (λ (b : Bool). not (is_own c h) && b) (and_right (c.file == h.file) false refl) ∙ and_right (not (is_own c h)) false refl)

blocks_own : (c h : Claim) → is_own c h ≡ true → blocks c h ≡ false
unfolding blocks
blocks_own c h own = rw own refl

-- What lies within what was held before blocks nothing that does, except a cache of its own party.
pub blocks_nothing : (before : Before) (names : List Name) (c h : Claim) → WereHeld before → AreDistinct names → are_kept names c.owner c.party ≡ true → are_kept names h.owner h.party ≡ true → IsInOrder c.what → IsInOrder h.what
    → IsWithin before names c → IsWithin before names h → (is_cache c.what ≡ true → is_cache h.what ≡ true → same_parties c.party h.party ≡ false) → blocks c h ≡ false
blocks_nothing before names c h were distinct kept there order also one two caches = elim (cases_Bool (is_own c h)) [ inl own ↦ blocks_own c h own | inr other ↦ by other ] where
  ranges : is_own c h ≡ false → is_range h.what ≡ true → same_owners c.owner h.owner ≡ false
  ranges other q = not_own (same_owners c.owner h.owner) (is_replaced h.owner h.what) other (replaced_range h.owner h.what q ∙ range_posix before names h were there q also two)

  apart : is_own c h ≡ false → AreApart c h
  apart other = record {
    shares = λ p q. not_own (same_owners c.owner h.owner) (is_replaced h.owner h.what) other (replaced_share h.owner h.what q);
    ranges = λ p q. ranges other q;
    caches = caches;
  }

  met : is_own c h ≡ false → (b : Bool) → is_range h.what ≡ b → (same_owners c.owner h.owner && is_met c.owner c.what h.owner h.what) ≡ false
  met other true q = ap (λ (x : Bool). x && is_met c.owner c.what h.owner h.what) (ranges other q)
  met other false q = and_right (same_owners c.owner h.owner) (is_met c.owner c.what h.owner h.what) (met_none c.owner h.owner c.what h.what (λ p r. both_ways (is_range h.what) q r))

  by : is_own c h ≡ false → blocks c h ≡ false
  by other = blocks_none c h (within_fits before names c h were distinct kept there (apart other) order also one two) (met other (is_range h.what) refl)

-- ---- a reclaim

-- one who asks for what was held before has a name
none_named : {A : Type 0} (number : ℕ) (p : Protocol) (at : ℕ) → owners.Open number ≡ owners.Name p at → A
none_named number p at e = absurd cc

owner_named : (before : Before) (more names : List Name) (a : Ask) (held : Claim) (w : What) → IsOfOwner before more (asked_claim a w names) held → is_named a.owner ≡ true
owner_named before more names a held w of = by a.owner refl where
  by : (who : Who) → a.owner ≡ who → is_named who ≡ true
  by (whos.Named name) e = refl
  by (whos.Open number) e = none_named number (protocol_of of.name) of.mine.number (sym (ap (λ (x : Who). owner_in x names) e) ∙ of.mine.is)

within_named : (before : Before) (more names : List Name) (a : Ask) (w : What) → WereHeld before → are_kept more (asker a names) (asking_party a names) ≡ true → IsInOrder w → is_range w ≡ true → IsWithin before more (asked_claim a w names) → is_named a.owner ≡ true
within_named before more names a w were kept order range within =
    let found = a_byte before more (asked_claim a w names) w refl range order were kept within in
    owner_named before more names a found.2.held w found.2.own

-- what it asks for is one thing
pub one_what : (before : Before) (s : CoreState) (a : Ask) → WereHeld before → IsFit a → asks_claims a.act ≡ true → IsTruthful before s a → (what : What) × (asked_what a.act ≡ Some what)
one_what before s a were fit asks truth = by a.act refl asks fit.act truth.claims where
  kept : are_kept (both_entered a s.names) (asker a s.names) (asking_party a s.names) ≡ true
  kept = asker_kept a s.names fit.party

  ordered : (e : Extent) (exclusive : Bool) → IsFitAct a.owner a.blocking (acts.Ranges ((e, exclusive) ∷ [])) → IsInOrder (Range e exclusive)
  ordered (Bytes first last) exclusive h = h.0
  ordered (Empty offset) exclusive h = tt

  alone_in : (range : Extent × Bool) (ranges : List (Extent × Bool)) → AreMore a.owner a.blocking ranges → is_named a.owner ≡ true → asked_what (acts.Ranges (range ∷ ranges)) ≡ Some (range_what range)
  alone_in range [] more named = refl
  alone_in range (r ∷ rs) more named = absurd (both_ways (is_named a.owner) more.0 named)

  by : (act : Act) → a.act ≡ act → asks_claims act ≡ true → IsFitAct a.owner a.blocking act → AreWithin before (both_entered a s.names) (asked_claims a (asked_whats act) s.names) → (what : What) × (asked_what act ≡ Some what)
  by (acts.Share access deny) e h f within = (Share access deny, refl)
  by (acts.Ranges []) e h f within = absurd f
  by (acts.Ranges (range ∷ ranges)) e h f within = (range_what range, alone_in range ranges f.1 (within_named before (both_entered a s.names) s.names a (range_what range) were kept (ordered range.0 range.1 (f.0, tt)) refl within.0))
  by (acts.Test extent exclusive) e h f within = absurd (both_ways false refl h)
  by (acts.Unlock extent) e h f within = absurd (both_ways false refl h)
  by acts.Wish e h f within = absurd (both_ways false refl h)

pub what_within : (before : Before) (s : CoreState) (a : Ask) (what : What) → asked_what a.act ≡ Some what → IsTruthful before s a → IsWithin before (both_entered a s.names) (asked_claim a what s.names)
what_within before s a what e truth = (subst (λ (ws : List What). AreWithin before (both_entered a s.names) (asked_claims a ws s.names)) (same_list what (asked_whats a.act) e) truth.claims).0

no_cache : (w : What) → IsShareOrLock w → is_cache w ≡ true → ⊥
no_cache (Share access deny) h e = both_ways false refl e
no_cache (Range (Bytes first last) exclusive) h e = both_ways false refl e
no_cache (Range (Empty offset) exclusive) h e = both_ways false refl e
no_cache (Cache kind running) h e = h

either_none : (p q : Bool) → p ≡ false → q ≡ false → (p || q) ≡ true → ⊥
either_none p q e f h = both_ways (p || q) (λ i. e i || f i) h

-- nothing that is held stands against it
pub none_against : (before : Before) (s : CoreState) (a : Ask) (what : What) (d : Claim) (g : Running) → WereHeld before → IsGood s → IsFit a → s.grace ≡ Some g → HoldsWithin before s → IsTruthful before s a → a.reclaim ≡ true → asked_what a.act ≡ Some what
    → IsIn d s.claims → blocks_either a (asked_claim a what s.names) d ≡ true → ⊥
none_against before s a what d g were good fit runs holds truth reclaims act there blocked = either_none (blocks claim d) (blocks_its_cache (beside_of a.reclaim a.wish) claim d) free (by a.reclaim a.wish truth.caches) blocked where
  names : List Name
  names = both_entered a s.names

  claim : Claim
  claim = asked_claim a what s.names

  held : IsHeld s.names d
  held = all_in (λ c. IsHeld s.names c) d s.claims good.known there

  distinct : AreDistinct names
  distinct = both_distinct a s.names good.distinct

  kept : are_kept names claim.owner claim.party ≡ true
  kept = asker_kept a s.names fit.party

  its : are_kept names d.owner d.party ≡ true
  its = kept_on s.names names d.owner d.party (both_go_on a s.names) held.1

  within : IsWithin before names d
  within = within_on before s.names names d (both_go_on a s.names) held.1 (all_in (λ c. IsWithin before s.names c) d s.claims (holds g runs) there)

  order : IsInOrder d.what
  order = held_order s.names d held

  lock : IsShareOrLock what
  lock = fit_what a what fit act

  free : blocks claim d ≡ false
  free = blocks_nothing before names claim d were distinct kept its (asked_order what lock) order (what_within before s a what act truth) within (λ p q. absurd (no_cache what lock p))

  beside : (kind : CacheKind) → IsWithin before names (asked_claim a (Cache kind None) s.names) → blocks_beside kind claim d ≡ false
  beside kind one =
      elim (cases_Bool (is_its_cache (wish_of [] claim) d)) [
        | inl its_cache ↦ ap (λ (x : Bool). not x && blocks (cache_beside kind claim) d) its_cache
        | inr other ↦ ap (λ (x : Bool). not (is_its_cache (wish_of [] claim) d) && x) (off kind one other) ∙ and_right (not (is_its_cache (wish_of [] claim) d)) false refl
      ]
    where
      parted : (x y z : Bool) → (x && (y && z)) ≡ false → x ≡ true → y ≡ true → z ≡ false
      parted true true z e p q = e
      parted true false z e p q = absurd (both_ways false refl q)
      parted false y z e p q = absurd (both_ways false refl p)

      off : (kind : CacheKind) → IsWithin before names (asked_claim a (Cache kind None) s.names) → is_its_cache (wish_of [] claim) d ≡ false → blocks (cache_beside kind claim) d ≡ false
      off kind one other =
          elim (cases_Bool (d.file == claim.file)) [
            | inl on ↦ blocks_nothing before names (cache_beside kind claim) d were distinct kept its tt order one within
                (λ p q. same_parties-sym claim.party d.party ∙ parted (is_cache d.what) (d.file == claim.file) (same_parties d.party claim.party) other q on)
            | inr off_it ↦ blocks_there (cache_beside kind claim) d off_it
          ]

  by : (b : Bool) (kinds : List CacheKind) → AllByRecursion (λ kind. IsWithin before names (asked_claim a (Cache kind None) s.names)) kinds → blocks_its_cache (beside_of b kinds) claim d ≡ false
  by true [] all = refl
  by true (kind ∷ kinds) all = beside kind all.0
  by false kinds all = refl

-- Why it isn't turned away.
pub let_in : (n : ℕ) (before : Before) (left : Rooms) (s : CoreState) (a : Ask) (g : Running) → WereHeld before → IsGood s → KnowsRecord s → IsFit a → s.grace ≡ Some g → HoldsWithin before s → asks_claims a.act ≡ true → a.reclaim ≡ true → IsTruthful before s a
    → turns_away (ask n left s a).0 ≡ false
unfolding standing
let_in n before left s a g were good knows fit runs holds asks reclaims truth = by (ask n left s a).0 refl where
  one : (what : What) × (asked_what a.act ≡ Some what)
  one = one_what before s a were fit asks truth

  claim : Claim
  claim = asked_claim a one.0 s.names

  due : (answer : Answer) → (ask n left s a).0 ≡ answer → IsClaimDue n left s a claim answer
  due answer e = subst (λ (w : List Effect × CoreState). IsClaimDue n left w.1 a claim answer) (no_way left s a g runs) ((ask_due n left s a one.0 answer one.1).0 e)

  stands_so : (b : Bool) → may_reclaim (asker_as a) g.reclaimants ≡ b → stands s a ≡ standing_by (is_smb a.party) true s.clock (if b then Enters else NotRecorded)
  stands_so b e = rw (runs, reclaims, e) refl

  against : (c : Claim) (b : Bool) → may_reclaim (asker_as a) g.reclaimants ≡ b → IsAgainst (stands s a) s a claim c → ⊥
  against c true e h = (let so = subst (λ now. IsAgainst now s a claim c) (stands_so true e) h in none_against before s a one.0 c g were good fit runs holds truth reclaims one.1 so.1 so.2)
  against c false e h = subst (λ now. IsAgainst now s a claim c) (stands_so false e) h

  by : (answer : Answer) → (ask n left s a).0 ≡ answer → turns_away answer ≡ false
  by (answers.Conflict c) e = absurd (against c (may_reclaim (asker_as a) g.reclaimants) refl (due (answers.Conflict c) e))
  by answers.NotRecorded e = absurd (both_ways (is_known (asker_as a) s.stable.names) ((unrecorded_is s a g knows runs).0 (due answers.NotRecorded e)).1 truth.recorded)
  by (answers.NoGrace clock) e = none_runs g (sym (due (answers.NoGrace clock) e).1 ∙ runs)
  by (answers.Granted c) e = refl
  by (answers.Queued number) e = refl
  by (answers.Recall c) e = refl
  by (answers.Grace until) e = refl
  by (answers.Full limit) e = refl
  by answers.NotHeld e = refl
  by answers.StoreFailed e = refl

-- Claims that lie within what was held together may be held together: the matrix is closed under weakening.
use Rattle.std.proofs.Common.{◌≡◌, ◌⊎◌, ℕ, ◌≤◌, leb, Bool, true, false, not, ◌==◌, ◌&&◌, ◌||◌, if◌then◌else◌, List, [], ◌∷◌, Option, Some, None, inl, inr, refl, sym, ap, subst, ◌∙◌, arith}
use Rattle.std.proofs.lemmas.Bool.{cases_Bool, both_ways, and_parts, and_from, eqb-true, eq-eqb, leb-true}
use Rattle.xl_base.specs.Lists.{IsIn, Pairwise}
use Rattle.xl_base.proofs.Members.{all_in}
use Rattle.xl_base.proofs.Searches.{any_found}
use Rattle.xl_base.specs.declared.name.Owner.{Owner}
use Rattle.xl_matrix.specs.Equal.{same_owners, same_parties}
use Rattle.xl_matrix.specs.Extents.{has_byte}
use Rattle.xl_matrix.specs.Kinds.{writes, guarding}
use Rattle.xl_matrix.specs.Matrix.{fit_by, compat, lock_by, lock_on, locks_agree, modes_fit, is_as_strong}
use Rattle.xl_matrix.specs.Owners.{posix}
use Rattle.xl_matrix.specs.Rights.{implies}
use Rattle.xl_matrix.specs.Weaker.{weaker_by, weaker}
use Rattle.xl_matrix.specs.declared.claim.Break.{Break}
use Rattle.xl_matrix.specs.declared.claim.CacheKind.{CacheKind}
use Rattle.xl_matrix.specs.declared.claim.Claim.{Claim}
use Rattle.xl_matrix.specs.declared.claim.Extent.{Extent}
use Rattle.xl_matrix.specs.declared.claim.Extent.TheVariants.{Bytes, Empty}
use Rattle.xl_matrix.specs.declared.claim.Rwd.{Rwd}
use Rattle.xl_matrix.specs.declared.claim.What.{What}
use Rattle.xl_matrix.specs.declared.claim.What.TheVariants.{Share, Range, Cache}
use Rattle.xl_matrix.proofs.EqualLaws.{same_owners-self, same_parties-self, same_owners-sym, same_parties-sym}
use Rattle.xl_matrix.proofs.PartLaws.{compat_bytes}
use Rattle.xl_matrix.proofs.SideLaws.{compat-sym}
use Rattle.xl_matrix.proofs.WeakerLaws.{compat_later}
use Rattle.xl_names.specs.Names.{AreDistinct}
use Rattle.xl_names.specs.declared.name.Name.{Name}
use Rattle.xl_table.specs.Held.{is_share, is_range, is_cache}
use Rattle.xl_core.specs.Good.{are_kept, IsHeld}
use Rattle.xl_core.specs.Settle.{share_has}
use Rattle.xl_reclaims.specs.Truthful.{Before, WereHeld, is_by_owner, is_by_party, cache_has, had_share, had_byte, had_cache, IsWithinBy, IsWithin, IsInOrder}
use Rattle.xl_reclaims.proofs.ByNames.{IsOfParty, IsOfOwner, of_party, of_owner, parties_alike, owners_alike, mine_posix, theirs_posix}

-- ---- two of those that were held

pub two_held : {A : Type 0} (test : A → A → Bool) → ((x y : A) → test x y ≡ test y x) → (xs : List A) (x y : A) → Pairwise test xs → IsIn x xs → IsIn y xs → (x ≡ y) ⊎ (test x y ≡ true)
two_held test sides [] x y pairs p q = absurd p
two_held test sides (z ∷ zs) x y pairs (inl e) (inl f) = inl (sym e ∙ f)
two_held test sides (z ∷ zs) x y pairs (inl e) (inr q) = inr (ap (λ u. test u y) (sym e) ∙ all_in (λ u. test z u ≡ true) y zs pairs.0 q)
two_held test sides (z ∷ zs) x y pairs (inr p) (inl f) = inr (sides x y ∙ ap (λ u. test u x) (sym f) ∙ all_in (λ u. test z u ≡ true) x zs pairs.0 p)
two_held test sides (z ∷ zs) x y pairs (inr p) (inr q) = two_held test sides zs x y pairs.1 p q

pub kept_before : (before : Before) → WereHeld before → (b : Claim) → IsIn b before.claims → are_kept before.names b.owner b.party ≡ true
kept_before before were b there = (all_in (λ c. IsHeld before.names c) b before.claims were.known there).1

-- ---- what a claim lies within

-- one of those that were held, of the claim's owner
pub record Owned (before : Before) (names : List Name) (c : Claim) (P : Claim → Type 0) : Type 0 where
  pub held : Claim
  pub there : IsIn held before.claims
  pub own : IsOfOwner before names c held
  pub has : P held

pub shared : (before : Before) (names : List Name) (c : Claim) (access deny : Rwd) → WereHeld before → are_kept names c.owner c.party ≡ true → had_share before names c (Share access deny) ≡ true → Owned before names c (λ b. share_has b.what access deny ≡ true)
shared before names c access deny were kept had =
    let found = any_found (λ held. is_by_owner before names c held && share_has held.what access deny) before.claims had in
    let parts = and_parts (is_by_owner before names c found.0) (share_has found.0.what access deny) found.2 in
    record { held = found.0; there = found.1; own = of_owner before names c found.0 kept (kept_before before were found.0 found.1) parts.0; has = parts.1 }

pub locked : (before : Before) (names : List Name) (c : Claim) (exclusive : Bool) (byte : ℕ) → WereHeld before → are_kept names c.owner c.party ≡ true → had_byte before names c exclusive byte ≡ true → Owned before names c (λ b. is_as_strong exclusive (lock_on b byte) ≡ true)
locked before names c exclusive byte were kept had =
    let found = any_found (λ held. is_by_owner before names c held && is_as_strong exclusive (lock_on held byte)) before.claims had in
    let parts = and_parts (is_by_owner before names c found.0) (is_as_strong exclusive (lock_on found.0 byte)) found.2 in
    record { held = found.0; there = found.1; own = of_owner before names c found.0 kept (kept_before before were found.0 found.1) parts.0; has = parts.1 }

-- and of its party
pub record Cached (before : Before) (names : List Name) (c : Claim) (kind : CacheKind) : Type 0 where
  pub held : Claim
  pub there : IsIn held before.claims
  pub own : IsOfParty before names c held
  pub has : cache_has held.what kind ≡ true

pub cached : (before : Before) (names : List Name) (c : Claim) (kind : CacheKind) → WereHeld before → are_kept names c.owner c.party ≡ true → had_cache before names c kind ≡ true → Cached before names c kind
cached before names c kind were kept had =
    let found = any_found (λ held. is_by_party before names c held && cache_has held.what kind) before.claims had in
    let parts = and_parts (is_by_party before names c found.0) (cache_has found.0.what kind) found.2 in
    record { held = found.0; there = found.1; own = of_party before names c found.0 kept (kept_before before were found.0 found.1) parts.0; has = parts.1 }

-- ---- a claim in the place of one that was held

abbrev in_place : Claim → Claim → Claim
in_place c held = record { file = c.file; owner = c.owner; party = c.party; what = held.what }

-- which fits which is a matter of parties, but for two ranges
fit_alike : (a b c d : Claim) (w v : What) → same_parties a.party b.party ≡ same_parties c.party d.party → is_range w ≡ false → fit_by a b w v ≡ fit_by c d w v
unfolding fit_by
fit_alike a b c d (Share access deny) (Share rights denied) alike out = refl
fit_alike a b c d (Share access deny) (Range extent exclusive) alike out = refl
fit_alike a b c d (Share access deny) (Cache kind running) alike out = ap (λ (x : Bool). x || not (guarding kind access deny)) alike
fit_alike a b c d (Cache kind running) (Share access deny) alike out = ap (λ (x : Bool). x || not (guarding kind access deny)) alike
fit_alike a b c d (Cache kind running) (Range extent exclusive) alike out = alike
fit_alike a b c d (Cache kind running) (Cache other due) alike out = ap (λ (x : Bool). not x && (not (writes kind) && not (writes other))) alike
fit_alike a b c d (Range extent exclusive) v alike out = absurd (both_ways true out refl)

compat_alike : (a b c d : Claim) → a.file ≡ b.file → c.file ≡ d.file → a.what ≡ c.what → b.what ≡ d.what → same_parties a.party b.party ≡ same_parties c.party d.party → is_range a.what ≡ false → compat a b ≡ compat c d
unfolding compat
compat_alike a b c d one other what which alike out =
    ap (λ (x : Bool). not x || fit_by a b a.what b.what) (eq-eqb a.file b.file one)
    ∙ fit_alike a b c d a.what b.what alike out
    ∙ (λ i. fit_by c d (what i) (which i))
    ∙ sym (ap (λ (x : Bool). not x || fit_by c d c.what d.what) (eq-eqb c.file d.file other))

-- a share within its owner's, a cache within its party's, is no more than that
share_less : (c held : Claim) (access deny : Rwd) (w : What) → c.what ≡ Share access deny → held.what ≡ w → share_has w access deny ≡ true → weaker c (in_place c held) ≡ true
unfolding weaker weaker_by
share_less c held access deny (Share rights denied) is was has =
    and_from (c.file == c.file) _ (eq-eqb c.file c.file refl)
    (and_from (same_parties c.party c.party) _ (same_parties-self c.party)
    ((λ i. weaker_by c (in_place c held) (is i) (was i)) ∙ and_from (same_owners c.owner c.owner) _ (same_owners-self c.owner) has))
share_less c held access deny (Range extent exclusive) is was has = absurd (both_ways false refl has)
share_less c held access deny (Cache kind running) is was has = absurd (both_ways false refl has)

cache_less : (c held : Claim) (kind : CacheKind) (running : Option Break) (w : What) → c.what ≡ Cache kind running → held.what ≡ w → cache_has w kind ≡ true → weaker c (in_place c held) ≡ true
unfolding weaker weaker_by
cache_less c held kind running (Cache other due) is was has =
    and_from (c.file == c.file) _ (eq-eqb c.file c.file refl)
    (and_from (same_parties c.party c.party) _ (same_parties-self c.party)
    ((λ i. weaker_by c (in_place c held) (is i) (was i)) ∙ has))
cache_less c held kind running (Share access deny) is was has = absurd (both_ways false refl has)
cache_less c held kind running (Range extent exclusive) is was has = absurd (both_ways false refl has)

no_range_share : (w : What) (access deny : Rwd) → share_has w access deny ≡ true → is_range w ≡ false
no_range_share (Share rights denied) access deny e = refl
no_range_share (Range extent exclusive) access deny e = absurd (both_ways false refl e)
no_range_share (Cache kind running) access deny e = refl

no_range_cache : (w : What) (kind : CacheKind) → cache_has w kind ≡ true → is_range w ≡ false
no_range_cache (Share rights denied) kind e = refl
no_range_cache (Range extent exclusive) kind e = absurd (both_ways false refl e)
no_range_cache (Cache other running) kind e = refl

-- ---- what a claim is no more than

-- a share or a cache is no more than one that was held, in its own place
record Less (before : Before) (names : List Name) (c : Claim) : Type 0 where
  held : Claim
  there : IsIn held before.claims
  party : IsOfParty before names c held
  less : weaker c (in_place c held) ≡ true
  one : is_range held.what ≡ false
  own : is_share c.what ≡ true → IsOfOwner before names c held

less_of : (before : Before) (names : List Name) (c : Claim) (w : What) → c.what ≡ w → is_range w ≡ false → WereHeld before → are_kept names c.owner c.party ≡ true → IsWithinBy before names c w → Less before names c
less_of before names c (Share access deny) is out were kept within =
    let found = shared before names c access deny were kept within in
    record { held = found.held; there = found.there; party = found.own.party; less = share_less c found.held access deny found.held.what is refl found.has; one = no_range_share found.held.what access deny found.has; own = λ i. found.own }
less_of before names c (Cache kind running) is out were kept within =
    let found = cached before names c kind were kept within in
    record { held = found.held; there = found.there; party = found.own; less = cache_less c found.held kind running found.held.what is refl found.has; one = no_range_cache found.held.what kind found.has; own = λ share. absurd (both_ways false refl (sym (ap is_share is) ∙ share)) }
less_of before names c (Range extent exclusive) is out were kept within = absurd (both_ways true out refl)

-- ---- shares and caches

-- two claims that don't replace each other: no two shares of one owner, nor two caches of one party
pub record AreApart (c h : Claim) : Type 0 where
  pub shares : is_share c.what ≡ true → is_share h.what ≡ true → same_owners c.owner h.owner ≡ false
  pub ranges : is_range c.what ≡ true → is_range h.what ≡ true → same_owners c.owner h.owner ≡ false
  pub caches : is_cache c.what ≡ true → is_cache h.what ≡ true → same_parties c.party h.party ≡ false

-- two claims of one party, which don't replace each other, fit
one_party_fits : (c h : Claim) (w v : What) → is_range w ≡ false → same_parties c.party h.party ≡ true → (is_share w ≡ true → is_share v ≡ true → ⊥) → (is_cache w ≡ true → is_cache v ≡ true → ⊥) → fit_by c h w v ≡ true
unfolding fit_by
one_party_fits c h (Share access deny) (Share rights denied) out one shares caches = absurd (shares refl refl)
one_party_fits c h (Share access deny) (Range extent exclusive) out one shares caches = refl
one_party_fits c h (Share access deny) (Cache kind running) out one shares caches = ap (λ (x : Bool). x || not (guarding kind access deny)) one
one_party_fits c h (Cache kind running) (Share access deny) out one shares caches = ap (λ (x : Bool). x || not (guarding kind access deny)) one
one_party_fits c h (Cache kind running) (Range extent exclusive) out one shares caches = one
one_party_fits c h (Cache kind running) (Cache other due) out one shares caches = absurd (caches refl refl)
one_party_fits c h (Range extent exclusive) v out one shares caches = absurd (both_ways true out refl)

compat_there : (c h : Claim) → c.file ≡ h.file → fit_by c h c.what h.what ≡ true → compat c h ≡ true
unfolding compat
compat_there c h file fits = ap (λ (x : Bool). not x || fit_by c h c.what h.what) (eq-eqb c.file h.file file) ∙ fits

there_compat : (c h : Claim) → c.file ≡ h.file → compat c h ≡ true → fit_by c h c.what h.what ≡ true
unfolding compat
there_compat c h file fits = sym (ap (λ (x : Bool). not x || fit_by c h c.what h.what) (eq-eqb c.file h.file file)) ∙ fits

self_owners : (b d : Claim) → b ≡ d → same_owners b.owner d.owner ≡ true
self_owners b d e = ap (λ (x : Claim). same_owners b.owner x.owner) (sym e) ∙ same_owners-self b.owner

self_parties : (b d : Claim) → b ≡ d → same_parties b.party d.party ≡ true
self_parties b d e = ap (λ (x : Claim). same_parties b.party x.party) (sym e) ∙ same_parties-self b.party

less_fits : (before : Before) (names : List Name) (c h : Claim) → WereHeld before → AreDistinct names → c.file ≡ h.file → is_range c.what ≡ false → AreApart c h → Less before names c → Less before names h → compat c h ≡ true
less_fits before names c h were distinct file out apart one two = by (two_held compat compat-sym before.claims one.held two.held were.compatible one.there two.there) where
  alike : same_parties c.party h.party ≡ same_parties one.held.party two.held.party
  alike = parties_alike before names c h one.held two.held were.distinct distinct one.party two.party

  there : one.held.file ≡ two.held.file
  there = one.party.file ∙ file ∙ sym two.party.file

  no_shares : one.held ≡ two.held → is_share c.what ≡ true → is_share h.what ≡ true → ⊥
  no_shares e p q =
      both_ways (same_owners c.owner h.owner) (apart.shares p q)
      (owners_alike before names c h one.held two.held were.distinct distinct (one.own p) (two.own q) ∙ self_owners one.held two.held e)

  no_caches : one.held ≡ two.held → is_cache c.what ≡ true → is_cache h.what ≡ true → ⊥
  no_caches e p q = both_ways (same_parties c.party h.party) (apart.caches p q) (alike ∙ self_parties one.held two.held e)

  by : (one.held ≡ two.held) ⊎ (compat one.held two.held ≡ true) → compat c h ≡ true
  by (inl e) = compat_there c h file (one_party_fits c h c.what h.what out (alike ∙ self_parties one.held two.held e) (no_shares e) (no_caches e))
  by (inr fits) =
      let placed : compat (in_place c one.held) (in_place h two.held) ≡ true = compat_alike (in_place c one.held) (in_place h two.held) one.held two.held file there refl refl alike one.one ∙ fits in
      let first : compat c (in_place h two.held) ≡ true = compat_later c (in_place c one.held) (in_place h two.held) one.less placed in
      compat-sym c h ∙ compat_later h (in_place h two.held) c two.less (compat-sym (in_place h two.held) c ∙ first)

-- ---- two ranges

has_ends : (first last byte : ℕ) → has_byte (Bytes first last) byte ≡ true → (first ≤ byte) × (byte ≤ last)
has_ends first last byte h = let parts = and_parts (leb first byte) (leb byte last) h in (leb-true first byte parts.0, leb-true byte last parts.1)

-- the range locks the byte in this mode
locked_in : (w : What) (byte : ℕ) (mode : Bool) → lock_by w byte ≡ Some mode → (extent : Extent) × (w ≡ Range extent mode) × (has_byte extent byte ≡ true)
locked_in (Range extent exclusive) byte mode e = by (has_byte extent byte) refl e where
  some_is : (b : Bool) → Some exclusive ≡ Some b → exclusive ≡ b
  some_is b e = cc

  by : (b : Bool) → has_byte extent byte ≡ b → (if b then Some exclusive else None) ≡ Some mode → (x : Extent) × (Range extent exclusive ≡ Range x mode) × (has_byte x byte ≡ true)
  by true has e = (extent, ap (λ (m : Bool). Range extent m) (some_is mode e), has)
  by false has e = absurd cc
locked_in (Share access deny) byte mode e = absurd cc
locked_in (Cache kind running) byte mode e = absurd cc

strong : (exclusive : Bool) (o : Option Bool) → is_as_strong exclusive o ≡ true → (mode : Bool) × (o ≡ Some mode) × (implies exclusive mode ≡ true)
strong exclusive None e = absurd (both_ways false refl e)
strong exclusive (Some mode) e = (mode, refl, e)

-- the modes of two owners that may stand on one byte may once they are weaker
weaker_modes : (a b x y : Bool) → implies a x ≡ true → implies b y ≡ true → (not x && not y) ≡ true → (not a && not b) ≡ true
weaker_modes false false x y p q fit = refl
weaker_modes true b true y p q fit = absurd (both_ways false refl fit)
weaker_modes true b false y p q fit = absurd (both_ways false refl p)
weaker_modes false true x false p q fit = absurd (both_ways false refl q)
weaker_modes false true true true p q fit = absurd (both_ways false refl fit)
weaker_modes false true false true p q fit = absurd (both_ways false refl fit)

-- what the claim locks lies within a range of its owner's
lock_within : (before : Before) (names : List Name) (c : Claim) (extent : Extent) (mode : Bool) (byte : ℕ) → WereHeld before → are_kept names c.owner c.party ≡ true → c.what ≡ Range extent mode → has_byte extent byte ≡ true → IsWithin before names c → Owned before names c (λ b. is_as_strong mode (lock_on b byte) ≡ true)
lock_within before names c (Bytes first last) mode byte were kept is has within =
    let ends = has_ends first last byte has in
    locked before names c mode byte were kept (subst (λ (w : What). IsWithinBy before names c w) is within byte ends.0 ends.1)
lock_within before names c (Empty offset) mode byte were kept is has within = absurd (both_ways false refl has)

apart_modes : (p q : Owner) (a b : Bool) → same_owners p q ≡ false → modes_fit p a q b ≡ (not a && not b)
apart_modes p q a b other = ap (λ (x : Bool). if x then not (posix p) && not (a && b) else not a && not b) other

ranges_agree : (before : Before) (names : List Name) (c h : Claim) (byte : ℕ) (a b : Option Bool) → WereHeld before → AreDistinct names → are_kept names c.owner c.party ≡ true → are_kept names h.owner h.party ≡ true → c.file ≡ h.file → same_owners c.owner h.owner ≡ false
    → IsWithin before names c → IsWithin before names h → lock_on c byte ≡ a → lock_on h byte ≡ b → locks_agree c.owner a h.owner b ≡ true
ranges_agree before names c h byte None b were distinct kept there file other one two is was = refl
ranges_agree before names c h byte (Some mode) None were distinct kept there file other one two is was = refl
ranges_agree before names c h byte (Some x) (Some y) were distinct kept there file other one two is was = by (two_held compat compat-sym before.claims p.held q.held were.compatible p.there q.there) where
  cs : (extent : Extent) × (c.what ≡ Range extent x) × (has_byte extent byte ≡ true)
  cs = locked_in c.what byte x is

  hs : (extent : Extent) × (h.what ≡ Range extent y) × (has_byte extent byte ≡ true)
  hs = locked_in h.what byte y was

  p : Owned before names c (λ b. is_as_strong x (lock_on b byte) ≡ true)
  p = lock_within before names c cs.0 x byte were kept cs.1 cs.2 one

  q : Owned before names h (λ b. is_as_strong y (lock_on b byte) ≡ true)
  q = lock_within before names h hs.0 y byte were there hs.1 hs.2 two

  alike : same_owners c.owner h.owner ≡ same_owners p.held.owner q.held.owner
  alike = owners_alike before names c h p.held q.held were.distinct distinct p.own q.own

  pm : (mode : Bool) × (lock_on p.held byte ≡ Some mode) × (implies x mode ≡ true)
  pm = strong x (lock_on p.held byte) p.has

  qm : (mode : Bool) × (lock_on q.held byte ≡ Some mode) × (implies y mode ≡ true)
  qm = strong y (lock_on q.held byte) q.has

  pr : (extent : Extent) × (p.held.what ≡ Range extent pm.0) × (has_byte extent byte ≡ true)
  pr = locked_in p.held.what byte pm.0 pm.1

  qr : (extent : Extent) × (q.held.what ≡ Range extent qm.0) × (has_byte extent byte ≡ true)
  qr = locked_in q.held.what byte qm.0 qm.1

  by : (p.held ≡ q.held) ⊎ (compat p.held q.held ≡ true) → modes_fit c.owner x h.owner y ≡ true
  by (inl e) = absurd (both_ways (same_owners c.owner h.owner) other (alike ∙ self_owners p.held q.held e))
  by (inr fits) =
      let agrees = (compat_bytes p.held q.held pr.0 qr.0 pm.0 qm.0 pr.1 qr.1 (p.own.party.file ∙ file ∙ sym q.own.party.file) (theirs_posix before names c p.held p.own)).0 fits byte in
      let modes : modes_fit p.held.owner pm.0 q.held.owner qm.0 ≡ true = sym (λ i. locks_agree p.held.owner (pm.1 i) q.held.owner (qm.1 i)) ∙ agrees in
      apart_modes c.owner h.owner x y other ∙ weaker_modes x y pm.0 qm.0 pm.2 qm.2 (sym (apart_modes p.held.owner q.held.owner pm.0 qm.0 (sym alike ∙ other)) ∙ modes)

-- ---- a range and a cache

pub a_byte : (before : Before) (names : List Name) (c : Claim) (w : What) → c.what ≡ w → is_range w ≡ true → IsInOrder w → WereHeld before → are_kept names c.owner c.party ≡ true → IsWithinBy before names c w → (byte : ℕ) × (mode : Bool) × Owned before names c (λ b. is_as_strong mode (lock_on b byte) ≡ true)
a_byte before names c (Range (Bytes first last) exclusive) is range order were kept within = (first, exclusive, locked before names c exclusive first were kept (within first (omega arith) order))
a_byte before names c (Range (Empty offset) exclusive) is range order were kept within = absurd within
a_byte before names c (Share access deny) is range order were kept within = absurd (both_ways false refl range)
a_byte before names c (Cache kind running) is range order were kept within = absurd (both_ways false refl range)

cache_what : (w : What) (kind : CacheKind) → cache_has w kind ≡ true → is_cache w ≡ true
cache_what (Share rights denied) kind e = absurd (both_ways false refl e)
cache_what (Range extent exclusive) kind e = absurd (both_ways false refl e)
cache_what (Cache other running) kind e = refl

is_cache_what : (w : What) → is_cache w ≡ true → (kind : CacheKind) × (running : Option Break) × (w ≡ Cache kind running)
is_cache_what (Cache kind running) e = (kind, running, refl)
is_cache_what (Share access deny) e = absurd (both_ways false refl e)
is_cache_what (Range extent exclusive) e = absurd (both_ways false refl e)

-- a range fits a cache just if they are of one party
range_cache : (c h : Claim) (w v : What) → is_range w ≡ true → is_cache v ≡ true → fit_by c h w v ≡ same_parties c.party h.party
unfolding fit_by
range_cache c h (Range extent exclusive) (Cache kind running) p q = refl
range_cache c h (Range extent exclusive) (Share access deny) p q = absurd (both_ways false refl q)
range_cache c h (Range extent exclusive) (Range other alone) p q = absurd (both_ways false refl q)
range_cache c h (Share access deny) v p q = absurd (both_ways false refl p)
range_cache c h (Cache kind running) v p q = absurd (both_ways false refl p)

cache_fits : (before : Before) (names : List Name) (c h : Claim) → WereHeld before → AreDistinct names → are_kept names c.owner c.party ≡ true → are_kept names h.owner h.party ≡ true → c.file ≡ h.file → is_range c.what ≡ true → is_cache h.what ≡ true → IsInOrder c.what
    → IsWithin before names c → IsWithin before names h → compat c h ≡ true
cache_fits before names c h were distinct kept there file range cache order one two = by (two_held compat compat-sym before.claims p.held q.held were.compatible p.there q.there) where
  found : (byte : ℕ) × (mode : Bool) × Owned before names c (λ b. is_as_strong mode (lock_on b byte) ≡ true)
  found = a_byte before names c c.what refl range order were kept one

  p : Owned before names c (λ b. is_as_strong found.1 (lock_on b found.0) ≡ true)
  p = found.2

  kind : (kind : CacheKind) × (running : Option Break) × (h.what ≡ Cache kind running)
  kind = is_cache_what h.what cache

  q : Cached before names h kind.0
  q = cached before names h kind.0 were there (subst (λ (w : What). IsWithinBy before names h w) kind.2 two)

  pm : (mode : Bool) × (lock_on p.held found.0 ≡ Some mode) × (implies found.1 mode ≡ true)
  pm = strong found.1 (lock_on p.held found.0) p.has

  pr : (extent : Extent) × (p.held.what ≡ Range extent pm.0) × (has_byte extent found.0 ≡ true)
  pr = locked_in p.held.what found.0 pm.0 pm.1

  alike : same_parties c.party h.party ≡ same_parties p.held.party q.held.party
  alike = parties_alike before names c h p.held q.held were.distinct distinct p.own.party q.own

  by : (p.held ≡ q.held) ⊎ (compat p.held q.held ≡ true) → compat c h ≡ true
  by (inl e) = compat_there c h file (range_cache c h c.what h.what range cache ∙ alike ∙ self_parties p.held q.held e)
  by (inr fits) =
      compat_there c h file
      (range_cache c h c.what h.what range cache ∙ alike ∙ sym (range_cache p.held q.held p.held.what q.held.what (ap is_range pr.1) (cache_what q.held.what kind.0 q.has)) ∙ there_compat p.held q.held (p.own.party.file ∙ file ∙ sym q.own.file) fits)

range_share : (c h : Claim) (w v : What) → is_range w ≡ true → is_share v ≡ true → fit_by c h w v ≡ true
unfolding fit_by
range_share c h (Range extent exclusive) (Share access deny) p q = refl
range_share c h (Range extent exclusive) (Cache kind running) p q = absurd (both_ways false refl q)
range_share c h (Range extent exclusive) (Range other alone) p q = absurd (both_ways false refl q)
range_share c h (Share access deny) v p q = absurd (both_ways false refl p)
range_share c h (Cache kind running) v p q = absurd (both_ways false refl p)

-- ---- any two

two_ranges : (before : Before) (names : List Name) (c h : Claim) → WereHeld before → AreDistinct names → are_kept names c.owner c.party ≡ true → are_kept names h.owner h.party ≡ true → c.file ≡ h.file → is_range c.what ≡ true → is_range h.what ≡ true → AreApart c h → IsInOrder c.what
    → IsWithin before names c → IsWithin before names h → compat c h ≡ true
two_ranges before names c h were distinct kept there file range other apart order one two = by c.what h.what refl refl range other where
  a_posix : posix c.owner ≡ true
  a_posix = let found = a_byte before names c c.what refl range order were kept one in mine_posix before names c found.2.held found.2.own

  by : (w v : What) → c.what ≡ w → h.what ≡ v → is_range w ≡ true → is_range v ≡ true → compat c h ≡ true
  by (Range extent exclusive) (Range place alone) is was p q =
      (compat_bytes c h extent place exclusive alone is was file a_posix).1
      (λ byte. ranges_agree before names c h byte (lock_on c byte) (lock_on h byte) were distinct kept there file (apart.ranges range other) one two refl refl)
  by (Share access deny) v is was p q = absurd (both_ways false refl p)
  by (Cache kind running) v is was p q = absurd (both_ways false refl p)
  by (Range extent exclusive) (Share access deny) is was p q = absurd (both_ways false refl q)
  by (Range extent exclusive) (Cache kind running) is was p q = absurd (both_ways false refl q)

swapped : (c h : Claim) → AreApart c h → AreApart h c
swapped c h apart = record {
  shares = λ p q. same_owners-sym h.owner c.owner ∙ apart.shares q p;
  ranges = λ p q. same_owners-sym h.owner c.owner ∙ apart.ranges q p;
  caches = λ p q. same_parties-sym h.party c.party ∙ apart.caches q p;
}

other_than_range : (w : What) → is_range w ≡ false → is_cache w ≡ false → is_share w ≡ true
other_than_range (Share access deny) p q = refl
other_than_range (Range extent exclusive) p q = absurd (both_ways true p refl)
other_than_range (Cache kind running) p q = absurd (both_ways true q refl)

range_first : (before : Before) (names : List Name) (c h : Claim) → WereHeld before → AreDistinct names → are_kept names c.owner c.party ≡ true → are_kept names h.owner h.party ≡ true → c.file ≡ h.file → is_range c.what ≡ true → AreApart c h → IsInOrder c.what → IsInOrder h.what
    → IsWithin before names c → IsWithin before names h → compat c h ≡ true
range_first before names c h were distinct kept there file range apart order also one two =
    elim (cases_Bool (is_range h.what)) [
      | inl second ↦ two_ranges before names c h were distinct kept there file range second apart order one two
      | inr out ↦ (elim (cases_Bool (is_cache h.what)) [
        | inl cache ↦ cache_fits before names c h were distinct kept there file range cache order one two
        | inr other ↦ compat_there c h file (range_share c h c.what h.what range (other_than_range h.what out other))
      ])
    ]

-- Two claims that lie within what was held together, and don't replace each other, may be held together.
pub within_fits : (before : Before) (names : List Name) (c h : Claim) → WereHeld before → AreDistinct names → are_kept names c.owner c.party ≡ true → are_kept names h.owner h.party ≡ true → AreApart c h → IsInOrder c.what → IsInOrder h.what
    → IsWithin before names c → IsWithin before names h → compat c h ≡ true
unfolding compat
within_fits before names c h were distinct kept there apart order also one two = elim (cases_Bool (c.file == h.file)) [ inl same ↦ on_one (eqb-true c.file h.file same) | inr other ↦ ap (λ (x : Bool). not x || fit_by c h c.what h.what) other ] where
  on_one : c.file ≡ h.file → compat c h ≡ true
  on_one file =
      elim (cases_Bool (is_range c.what)) [
        | inl range ↦ range_first before names c h were distinct kept there file range apart order also one two
        | inr out ↦ (elim (cases_Bool (is_range h.what)) [
          | inl second ↦ compat-sym c h ∙ range_first before names h c were distinct there kept (sym file) second (swapped c h apart) also order two one
          | inr also_out ↦ less_fits before names c h were distinct file out apart (less_of before names c c.what refl out were kept one) (less_of before names h h.what refl also_out were there two)
        ])
      ]

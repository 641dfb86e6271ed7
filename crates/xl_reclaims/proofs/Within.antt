-- What is made of claims that lie within what was held before, and does so too.
use Rattle.std.proofs.Common.{◌≡◌, ◌⊎◌, ℕ, ◌+◌, ◌≤◌, leb, cond, Bool, true, false, not, ◌==◌, ◌&&◌, ◌||◌, if◌then◌else◌, List, [], ◌∷◌, map, Option, Some, None, IfSome, IsSomeAnd, find, inl, inr, refl, sym, ap, subst, ◌∙◌, arith}
use Rattle.std.specs.List.{AllByRecursion, list_any, filter, filter_map}
use Rattle.std.proofs.lemmas.Bool.{cases_Bool, both_ways, and_parts, and_from, and_right, eqb-true, eq-eqb, leb-true, lt-leb, le-leb}
use Rattle.std.proofs.lemmas.Option.{same_Some}
use Rattle.xl_base.specs.Lists.{IsIn}
use Rattle.xl_base.proofs.Members.{all_in, all_from, in_filter_from, in_map_from}
use Rattle.xl_base.proofs.Searches.{any_from, find_in, in_filter_map_from}
use Rattle.xl_base.specs.declared.name.Owner.{Owner}
use Rattle.xl_cache.specs.Wishing.{wished_claim, is_its_cache, joined, best_of, best_join_of, raised_by, granted_beside, granted_kind, may_stand, may_replace}
use Rattle.xl_cache.specs.declared.wish.Wish.{Wish}
use Rattle.xl_cache.proofs.WishLaws.{best_is_chosen, joined_least}
use Rattle.xl_matrix.specs.Equal.{same_owners, same_parties}
use Rattle.xl_matrix.specs.Kinds.{kind_lies_within}
use Rattle.xl_matrix.specs.Matrix.{lock_by, lock_on, is_as_strong}
use Rattle.xl_matrix.specs.Owners.{posix}
use Rattle.xl_matrix.specs.Rights.{implies, rights_lie_within}
use Rattle.xl_matrix.specs.declared.claim.CacheKind.{CacheKind}
use Rattle.xl_matrix.specs.declared.claim.Claim.{Claim}
use Rattle.xl_matrix.specs.declared.claim.Extent.TheVariants.{Bytes, Empty}
use Rattle.xl_matrix.specs.declared.claim.Rwd.{Rwd}
use Rattle.xl_matrix.specs.declared.claim.What.{What}
use Rattle.xl_matrix.specs.declared.claim.What.TheVariants.{Share, Range, Cache}
use Rattle.xl_matrix.proofs.EqualLaws.{same_owners-true, same_owners-self, same_parties-self}
use Rattle.xl_names.specs.Names.{AreDistinct}
use Rattle.xl_names.specs.declared.name.Name.{Name}
use Rattle.xl_names.proofs.NameLaws.{same_name_self}
use Rattle.xl_spans.specs.Spans.{within, mode_at, IsCanonical, relocked}
use Rattle.xl_spans.specs.declared.span.Mode.{Mode}
use Rattle.xl_spans.specs.declared.span.Span.{Span}
use Rattle.xl_spans.proofs.Bytes.{relocked_mode}
use Rattle.xl_spans.proofs.Chains.{canonical_ranges, canonical_rest, relocked_canonical, IsChain}
use Rattle.xl_table.specs.Flat.{inserted, removed, changed, with_what}
use Rattle.xl_table.specs.Held.{is_share, is_of, mode_of, with_span, spans_of, IsKept}
use Rattle.xl_table.specs.Relock.{all_inserted, is_exclusive, range_claim, is_range_of, unranged, relocked_in, is_share_of, unshared, old_shares, either_right, united_what, united_with, united_by, united, unites, shared_in, granted_by, granted_claims}
use Rattle.xl_table.proofs.FlatLaws.{all_inserted as all_put, all_removed}
use Rattle.xl_core.specs.Good.{are_kept, IsHeld, is_single_by, is_single}
use Rattle.xl_core.specs.Settle.{share_has}
use Rattle.xl_core.specs.State.{CoreState}
use Rattle.xl_core.specs.Wishes.{is_waited_for, has_room, wished_kind, cached as cached_in, once_wished}
use Rattle.xl_core.proofs.ClaimLaws.{is_single-sym}
use Rattle.xl_core.proofs.KnownLaws.{GoOn}
use Rattle.xl_core.proofs.WishLaws.{found_own, own_parts}
use Rattle.xl_reclaims.specs.Truthful.{Before, WereHeld, owner_name, party_name, is_one_name, is_by_owner, is_by_party, cache_has, had_share, had_byte, had_cache, IsWithinBy, IsWithin, AreWithin, IsInOrder}
use Rattle.xl_reclaims.proofs.ByNames.{IsOfParty, IsOfOwner, owners_by_name, parties_by_name, owner_goes_on, party_goes_on}
use Rattle.xl_reclaims.proofs.Together.{two_held, shared, cached}

-- ---- the same file and holder

same_share : (before : Before) (names : List Name) (c d : Claim) (w : What) → c.file ≡ d.file → c.owner ≡ d.owner → had_share before names c w ≡ had_share before names d w
same_share before names c d (Share access deny) file owner = λ i. list_any (λ held. ((held.file == file i) && is_one_name (owner_name before.names held.owner) (owner_name names (owner i))) && share_has held.what access deny) before.claims
same_share before names c d (Range extent exclusive) file owner = refl
same_share before names c d (Cache kind running) file owner = refl

same_byte : (before : Before) (names : List Name) (c d : Claim) (exclusive : Bool) (byte : ℕ) → c.file ≡ d.file → c.owner ≡ d.owner → had_byte before names c exclusive byte ≡ had_byte before names d exclusive byte
same_byte before names c d exclusive byte file owner = λ i. list_any (λ held. ((held.file == file i) && is_one_name (owner_name before.names held.owner) (owner_name names (owner i))) && is_as_strong exclusive (lock_on held byte)) before.claims

same_cache : (before : Before) (names : List Name) (c d : Claim) (kind : CacheKind) → c.file ≡ d.file → c.party ≡ d.party → had_cache before names c kind ≡ had_cache before names d kind
same_cache before names c d kind file party = λ i. list_any (λ held. ((held.file == file i) && is_one_name (party_name before.names held.party) (party_name names (party i))) && cache_has held.what kind) before.claims

-- ---- names that come

within_by_on : (before : Before) (names more : List Name) (c : Claim) (w : What) → owner_name more c.owner ≡ owner_name names c.owner → party_name more c.party ≡ party_name names c.party → IsWithinBy before names c w → IsWithinBy before more c w
within_by_on before names more c (Share access deny) owner party within =
    (λ i. list_any (λ held. ((held.file == c.file) && is_one_name (owner_name before.names held.owner) (owner i)) && share_has held.what access deny) before.claims) ∙ within
within_by_on before names more c (Range (Bytes first last) exclusive) owner party within = λ byte low high.
    (λ i. list_any (λ held. ((held.file == c.file) && is_one_name (owner_name before.names held.owner) (owner i)) && is_as_strong exclusive (lock_on held byte)) before.claims) ∙ within byte low high
within_by_on before names more c (Range (Empty offset) exclusive) owner party within = within
within_by_on before names more c (Cache kind running) owner party within =
    (λ i. list_any (λ held. ((held.file == c.file) && is_one_name (party_name before.names held.party) (party i)) && cache_has held.what kind) before.claims) ∙ within

pub within_on : (before : Before) (names more : List Name) (c : Claim) → GoOn names more → are_kept names c.owner c.party ≡ true → IsWithin before names c → IsWithin before more c
within_on before names more c on kept within =
    within_by_on before names more c c.what (owner_goes_on names more c.owner c.party on kept) (party_goes_on names more c.owner c.party on kept) within

pub all_within_on : (before : Before) (names more : List Name) (cs : List Claim) → GoOn names more → AllByRecursion (IsHeld names) cs → AreWithin before names cs → AreWithin before more cs
all_within_on before names more [] on known within = tt
all_within_on before names more (c ∷ cs) on known within = (within_on before names more c on known.0.1 within.0, all_within_on before names more cs on known.1 within.1)

-- ---- fewer claims

pub within_filter : (before : Before) (names : List Name) (p : Claim → Bool) (cs : List Claim) → AreWithin before names cs → AreWithin before names (filter p cs)
within_filter before names p cs within = all_from (λ c. IsWithin before names c) (filter p cs) (λ c there. all_in (λ d. IsWithin before names d) c cs within (in_filter_from p c cs there).0)

pub within_removed : (before : Before) (names : List Name) (claim : Claim) (cs : List Claim) → AreWithin before names cs → AreWithin before names (removed claim cs)
within_removed before names claim cs within = all_removed (λ c. IsWithin before names c) claim cs within

pub within_inserted : (before : Before) (names : List Name) (claim : Claim) (cs : List Claim) → IsWithin before names claim → AreWithin before names cs → AreWithin before names (inserted claim cs)
within_inserted before names claim cs one within = all_put (λ c. IsWithin before names c) claim cs one within

pub within_changed : (before : Before) (names : List Name) (claim : Claim) (to : What) (cs : List Claim) → IsWithin before names (with_what claim to) → AreWithin before names cs → AreWithin before names (changed claim to cs)
unfolding changed
within_changed before names claim to cs one within = within_inserted before names (with_what claim to) (removed claim cs) one (within_removed before names claim cs within)

all_within_inserted : (before : Before) (names : List Name) (more cs : List Claim) → AreWithin before names more → AreWithin before names cs → AreWithin before names (all_inserted more cs)
all_within_inserted before names [] cs new within = within
all_within_inserted before names (c ∷ more) cs new within = all_within_inserted before names more (inserted c cs) new.1 (within_inserted before names c cs new.0 within)

-- ---- ranges relocked

exclusive_mode : (exclusive : Bool) → is_exclusive (mode_of exclusive) ≡ exclusive
exclusive_mode true = refl
exclusive_mode false = refl

same_mode : (a b : Mode) → Some a ≡ Some b → a ≡ b
same_mode a b e = cc

some_flag : (a b : Bool) → a ≡ b → Some a ≡ Some b
some_flag a b e = ap Some e

by_what : (w : What) (rest : List Span) (x : ℕ) (m : Mode) → mode_at (with_span w rest) x ≡ Some m → (lock_by w x ≡ Some (is_exclusive m)) ⊎ (mode_at rest x ≡ Some m)
by_what (Range (Bytes first last) exclusive) rest x m e =
    elim (cases_Bool (within first last x)) [
      | inl inside ↦ inl (rw inside (some_flag exclusive (is_exclusive m) (sym (exclusive_mode exclusive) ∙ ap is_exclusive (same_mode (mode_of exclusive) m (rw inside at e)))))
      | inr outside ↦ inr (rw outside at e)
    ]
by_what (Range (Empty offset) exclusive) rest x m e = inr e
by_what (Share access deny) rest x m e = inr e
by_what (Cache kind running) rest x m e = inr e

-- a byte that the owner's spans have is locked by one of its claims
locked_by : (file : ℕ) (owner : Owner) (cs : List Claim) (x : ℕ) (m : Mode) → mode_at (spans_of file owner cs) x ≡ Some m → (c : Claim) × IsIn c cs × (is_of file owner c ≡ true) × (lock_on c x ≡ Some (is_exclusive m))
locked_by file owner [] x m e = absurd cc
locked_by file owner (c ∷ cs) x m e =
    elim (cases_Bool (is_of file owner c)) [
      | inl own ↦ elim (by_what c.what (spans_of file owner cs) x m (rw own at e)) [
        | inl locks ↦ (c, inl refl, own, locks)
        | inr rest ↦ (let found = locked_by file owner cs x m rest in (found.0, inr found.1, found.2, found.3))
      ]
      | inr other ↦ (let found = locked_by file owner cs x m (rw other at e) in (found.0, inr found.1, found.2, found.3))
    ]

chain_in : (lo : ℕ) (s : Span) (ss : List Span) → IsChain lo ss → IsIn s ss → lo ≤ s.first
chain_in lo s [] chain h = absurd h
chain_in lo s (t ∷ ts) chain h =
    elim h [
      | inl e ↦ subst (λ (u : Span). lo ≤ u.first) e chain.0
      | inr more ↦ omega (arith, chain.0, chain.1, chain_in (t.last + 1) s ts chain.2 more)
    ]

-- each byte of a span has its mode
mode_of_span : (s : Span) (ss : List Span) (x : ℕ) → IsCanonical ss → IsIn s ss → within s.first s.last x ≡ true → mode_at ss x ≡ Some s.mode
mode_of_span s [] x canonical h inside = absurd h
mode_of_span s (t ∷ ts) x canonical h inside =
    elim h [
      | inl e ↦ rw e (rw inside refl)
      | inr more ↦
          let past : t.last + 1 ≤ s.first = chain_in (t.last + 1) s ts (canonical_rest t ts canonical) more in
          let low : s.first ≤ x = leb-true s.first x (and_parts (leb s.first x) (leb x s.last) inside).0 in
          let far : leb x t.last ≡ false = lt-leb x t.last (omega (arith, past, low)) in
          rw (and_right (leb t.first x) (leb x t.last) far) (mode_of_span s ts x canonical.2 more inside)
    ]

of_parts : (file : ℕ) (owner : Owner) (c : Claim) → is_of file owner c ≡ true → (c.file ≡ file) × (c.owner ≡ owner)
of_parts file owner c e = let parts = and_parts (c.file == file) (same_owners c.owner owner) e in (eqb-true c.file file parts.0, same_owners-true c.owner owner parts.1)

-- a byte that a claim locks was held, in no weaker mode
lock_had : (before : Before) (names : List Name) (c : Claim) (w : What) (mode : Bool) (byte : ℕ) → lock_by w byte ≡ Some mode → IsWithinBy before names c w → had_byte before names c mode byte ≡ true
lock_had before names c (Range (Bytes first last) exclusive) mode byte e within = by (leb first byte && leb byte last) refl e where
  flag_is : Some exclusive ≡ Some mode → exclusive ≡ mode
  flag_is e = cc

  by : (b : Bool) → (leb first byte && leb byte last) ≡ b → (if b then Some exclusive else None) ≡ Some mode → had_byte before names c mode byte ≡ true
  by true inside e =
      let parts = and_parts (leb first byte) (leb byte last) inside in
      ap (λ (m : Bool). had_byte before names c m byte) (sym (flag_is e)) ∙ within byte (leb-true first byte parts.0) (leb-true byte last parts.1)
  by false inside e = absurd cc
lock_had before names c (Range (Empty offset) exclusive) mode byte e within = absurd within
lock_had before names c (Share access deny) mode byte e within = absurd cc
lock_had before names c (Cache kind running) mode byte e within = absurd cc

-- what is asked of the bytes of a range was held before
abbrev pub HadBytes : Before → List Name → Claim → ℕ → ℕ → Option Mode → Type 0
HadBytes before names c first last mode = (m : Mode) → mode ≡ Some m → (byte : ℕ) → within first last byte ≡ true → had_byte before names c (is_exclusive m) byte ≡ true

run_had : (before : Before) (names : List Name) (c : Claim) (first last : ℕ) (mode : Option Mode) (cs : List Claim) (m : Mode) (byte : ℕ) (inside : Bool) → HadBytes before names c first last mode → AreWithin before names cs → within first last byte ≡ inside
    → (cond inside mode (mode_at (spans_of c.file c.owner cs) byte)) ≡ Some m → had_byte before names c (is_exclusive m) byte ≡ true
run_had before names c first last mode cs m byte true had within is e = had m e byte is
run_had before names c first last mode cs m byte false had within is e =
    let found = locked_by c.file c.owner cs byte m e in
    let parts = of_parts c.file c.owner found.0 found.2 in
    same_byte before names c found.0 (is_exclusive m) byte (sym parts.0) (sym parts.1)
    ∙ lock_had before names found.0 found.0.what (is_exclusive m) byte found.3 (all_in (λ d. IsWithin before names d) found.0 cs within found.1)

inside_by : (first last byte : ℕ) → first ≤ byte → byte ≤ last → within first last byte ≡ true
inside_by first last byte low high = and_from (leb first byte) (leb byte last) (le-leb first byte low) (le-leb byte last high)

pub within_relocked : (before : Before) (names : List Name) (c : Claim) (first last : ℕ) (mode : Option Mode) (cs : List Claim) → IsKept cs → posix c.owner ≡ true → first ≤ last → HadBytes before names c first last mode → AreWithin before names cs → AreWithin before names (relocked_in c.file c.owner c.party first last mode cs)
unfolding relocked_in unranged
within_relocked before names c first last mode cs kept own order had lies =
    all_within_inserted before names (map (range_claim c.file c.owner c.party) runs) (filter (λ d. not (is_range_of c.file c.owner d)) cs)
    (all_from (λ d. IsWithin before names d) (map (range_claim c.file c.owner c.party) runs) each) (within_filter before names (λ d. not (is_range_of c.file c.owner d)) cs lies)
  where
    spans : List Span
    spans = spans_of c.file c.owner cs

    runs : List Span
    runs = relocked spans first last mode

    canonical : IsCanonical spans
    canonical = kept.sound.canonical c.file c.owner own

    run_within : (r : Span) → IsIn r runs → IsWithin before names (range_claim c.file c.owner c.party r)
    run_within r there byte low high =
        let at : mode_at runs byte ≡ Some r.mode = mode_of_span r runs byte (relocked_canonical spans first last mode order canonical) there (inside_by r.first r.last byte low high) in
        same_byte before names (range_claim c.file c.owner c.party r) c (is_exclusive r.mode) byte refl refl
        ∙ run_had before names c first last mode cs r.mode byte (within first last byte) had lies refl (sym (relocked_mode spans first last mode byte order (canonical_ranges spans canonical)) ∙ at)

    each : (d : Claim) → IsIn d (map (range_claim c.file c.owner c.party) runs) → IsWithin before names d
    each d there = let from = in_map_from (range_claim c.file c.owner c.party) d runs there in subst (λ (x : Claim). IsWithin before names x) from.2 (run_within from.0 from.1)

-- ---- shares

-- of one owner's shares on a file there is one
one_share : (before : Before) (names : List Name) (c b d : Claim) (access deny rights denied : Rwd) → WereHeld before → IsIn b before.claims → IsIn d before.claims → IsOfOwner before names c b → IsOfOwner before names c d
    → AreDistinct names → share_has b.what access deny ≡ true → share_has d.what rights denied ≡ true → b ≡ d
one_share before names c b d access deny rights denied were p q one two distinct has also = by (two_held is_single is_single-sym before.claims b d were.single p q) where
  shares : (w v : What) → share_has w access deny ≡ true → share_has v rights denied ≡ true → is_single_by b d w v ≡ not (same_owners b.owner d.owner)
  shares (Share x y) (Share u v) e f = refl
  shares (Range x y) v e f = absurd (both_ways false refl e)
  shares (Cache x y) v e f = absurd (both_ways false refl e)
  shares (Share x y) (Range u v) e f = absurd (both_ways false refl f)
  shares (Share x y) (Cache u v) e f = absurd (both_ways false refl f)

  owners_are : same_owners b.owner d.owner ≡ true
  owners_are =
      owners_by_name before.names b.owner d.owner one.name two.name were.distinct one.theirs two.theirs
      ∙ sym (owners_by_name names c.owner c.owner one.name two.name distinct one.mine two.mine)
      ∙ same_owners-self c.owner

  double : is_single b d ≡ false
  double =
      ap (λ (x : Bool). not (x && not (is_single_by b d b.what d.what))) (eq-eqb b.file d.file (one.party.file ∙ sym two.party.file))
      ∙ ap (λ (x : Bool). not (not x)) (shares b.what d.what has also)
      ∙ ap (λ (x : Bool). not (not (not x))) owners_are

  by : (b ≡ d) ⊎ (is_single b d ≡ true) → b ≡ d
  by (inl e) = e
  by (inr alone) = absurd (both_ways (is_single b d) double alone)

either_within : (p q r : Bool) → implies p r ≡ true → implies q r ≡ true → implies (p || q) r ≡ true
either_within true q true h k = refl
either_within true q false h k = absurd (both_ways false refl h)
either_within false q r h k = k

rights_either : (p q r : Rwd) → rights_lie_within p r ≡ true → rights_lie_within q r ≡ true → rights_lie_within (either_right p q) r ≡ true
rights_either p q r h k =
    let one = and_parts (implies p.r r.r) (implies p.w r.w && implies p.d r.d) h in
    let two = and_parts (implies q.r r.r) (implies q.w r.w && implies q.d r.d) k in
    let more = and_parts (implies p.w r.w) (implies p.d r.d) one.1 in
    let also = and_parts (implies q.w r.w) (implies q.d r.d) two.1 in
    and_from _ _ (either_within p.r q.r r.r one.0 two.0) (and_from _ _ (either_within p.w q.w r.w more.0 also.0) (either_within p.d q.d r.d more.1 also.1))

has_either : (w : What) (access deny rights denied : Rwd) → share_has w access deny ≡ true → share_has w rights denied ≡ true → share_has w (either_right access rights) (either_right deny denied) ≡ true
has_either (Share x y) access deny rights denied h k =
    let one = and_parts (rights_lie_within access x) (rights_lie_within deny y) h in
    let two = and_parts (rights_lie_within rights x) (rights_lie_within denied y) k in
    and_from _ _ (rights_either access rights x one.0 two.0) (rights_either deny denied y one.1 two.1)
has_either (Range x y) access deny rights denied h k = absurd (both_ways false refl h)
has_either (Cache x y) access deny rights denied h k = absurd (both_ways false refl h)

self_name : (before : Before) (names : List Name) (c held : Claim) → IsOfOwner before names c held → is_by_owner before names c held ≡ true
self_name before names c held of = by of where
  by : IsOfOwner before names c held → is_by_owner before names c held ≡ true
  by one =
      and_from (held.file == c.file) _ (eq-eqb held.file c.file one.party.file)
      ((λ i. is_one_name (owner_name before.names (one.theirs.is i)) (owner_name names (one.mine.is i)))
      ∙ (λ i. is_one_name (one.theirs.at i) (one.mine.at i))
      ∙ same_name_self one.name)

united_had : (before : Before) (names : List Name) (c : Claim) (w v : What) → WereHeld before → AreDistinct names → are_kept names c.owner c.party ≡ true → is_share w ≡ true → had_share before names c w ≡ true → had_share before names c v ≡ true → had_share before names c (united_what w v) ≡ true
united_had before names c (Share access deny) (Share rights denied) were distinct kept share one two =
    let p = shared before names c access deny were kept one in
    let q = shared before names c rights denied were kept two in
    let same : p.held ≡ q.held = one_share before names c p.held q.held access deny rights denied were p.there q.there p.own q.own distinct p.has q.has in
    any_from (λ held. is_by_owner before names c held && share_has held.what (either_right access rights) (either_right deny denied)) p.held before.claims p.there
    (and_from (is_by_owner before names c p.held) _ (self_name before names c p.held p.own)
    (has_either p.held.what access deny rights denied p.has (ap (λ (x : Claim). share_has x.what rights denied) same ∙ q.has)))
united_had before names c (Share access deny) (Range extent exclusive) were distinct kept share one two = one
united_had before names c (Share access deny) (Cache kind running) were distinct kept share one two = one
united_had before names c (Range extent exclusive) v were distinct kept share one two = absurd (both_ways false refl share)
united_had before names c (Cache kind running) v were distinct kept share one two = absurd (both_ways false refl share)

united_is_share : (w v : What) → is_share w ≡ true → is_share (united_what w v) ≡ true
united_is_share (Share access deny) (Share rights denied) e = refl
united_is_share (Share access deny) (Range extent exclusive) e = refl
united_is_share (Share access deny) (Cache kind running) e = refl
united_is_share (Range extent exclusive) v e = absurd (both_ways false refl e)
united_is_share (Cache kind running) v e = absurd (both_ways false refl e)

all_united_had : (before : Before) (names : List Name) (c : Claim) (w : What) (old : List Claim) → WereHeld before → AreDistinct names → are_kept names c.owner c.party ≡ true → is_share w ≡ true → had_share before names c w ≡ true
    → AllByRecursion (λ d. had_share before names c d.what ≡ true) old → (is_share (united_with w old) ≡ true) × (had_share before names c (united_with w old) ≡ true)
all_united_had before names c w [] were distinct kept share had olds = (share, had)
all_united_had before names c w (d ∷ old) were distinct kept share had olds =
    all_united_had before names c (united_what w d.what) old were distinct kept (united_is_share w d.what share) (united_had before names c w d.what were distinct kept share had olds.0) olds.1

share_within : (before : Before) (names : List Name) (c : Claim) (w : What) → is_share w ≡ true → had_share before names c w ≡ true → IsWithinBy before names c w
share_within before names c (Share access deny) share had = had
share_within before names c (Range extent exclusive) share had = absurd (both_ways false refl share)
share_within before names c (Cache kind running) share had = absurd (both_ways false refl share)

within_share : (before : Before) (names : List Name) (c : Claim) (w : What) → is_share w ≡ true → IsWithinBy before names c w → had_share before names c w ≡ true
within_share before names c (Share access deny) share had = had
within_share before names c (Range extent exclusive) share had = absurd (both_ways false refl share)
within_share before names c (Cache kind running) share had = absurd (both_ways false refl share)

within_shared : (before : Before) (names : List Name) (c : Claim) (cs : List Claim) → WereHeld before → AreDistinct names → are_kept names c.owner c.party ≡ true → is_share c.what ≡ true → IsWithin before names c → AreWithin before names cs → AreWithin before names (shared_in c cs)
unfolding shared_in unshared united_by old_shares
within_shared before names c cs were distinct kept share one lies =
    within_inserted before names (united c cs) (filter (λ d. not (is_share_of c.file c.owner d)) cs) (by (unites c.owner)) (within_filter before names (λ d. not (is_share_of c.file c.owner d)) cs lies)
  where
    old : List Claim
    old = filter (is_share_of c.file c.owner) cs

    each : (d : Claim) → IsIn d old → had_share before names c d.what ≡ true
    each d there =
        let from = in_filter_from (is_share_of c.file c.owner) d cs there in
        let parts = and_parts (is_of c.file c.owner d) (is_share d.what) from.1 in
        let same = of_parts c.file c.owner d parts.0 in
        same_share before names c d d.what (sym same.0) (sym same.1) ∙ within_share before names d d.what parts.1 (all_in (λ x. IsWithin before names x) d cs lies from.0)

    joined_had : (is_share (united_with c.what old) ≡ true) × (had_share before names c (united_with c.what old) ≡ true)
    joined_had = all_united_had before names c c.what old were distinct kept share (within_share before names c c.what share one) (all_from (λ d. had_share before names c d.what ≡ true) old each)

    moved : (w : What) → is_share w ≡ true → had_share before names c w ≡ true → IsWithinBy before names (with_what c w) w
    moved w is had = share_within before names (with_what c w) w is (same_share before names (with_what c w) c w refl refl ∙ had)

    by : (b : Bool) → (let w = if b then united_with c.what old else c.what in IsWithinBy before names (with_what c w) w)
    by true = moved (united_with c.what old) joined_had.0 joined_had.1
    by false = moved c.what share (within_share before names c c.what share one)

-- ---- what is granted

pub within_granted : (before : Before) (names : List Name) (c : Claim) (cs : List Claim) → WereHeld before → AreDistinct names → are_kept names c.owner c.party ≡ true → posix c.owner ≡ true → IsInOrder c.what → IsKept cs → IsWithin before names c → AreWithin before names cs → AreWithin before names (granted_claims c cs)
unfolding granted_claims
within_granted before names c cs were distinct kept own order table one lies = by c.what refl order one where
  mode_had : (first last : ℕ) (exclusive : Bool) → IsWithinBy before names c (Range (Bytes first last) exclusive) → HadBytes before names c first last (Some (mode_of exclusive))
  mode_had first last exclusive had m is byte inside =
      let parts = and_parts (leb first byte) (leb byte last) inside in
      ap (λ (e : Bool). had_byte before names c e byte) (sym (sym (exclusive_mode exclusive) ∙ ap is_exclusive (same_mode (mode_of exclusive) m is))) ∙ had byte (leb-true first byte parts.0) (leb-true byte last parts.1)

  by : (w : What) → c.what ≡ w → IsInOrder w → IsWithinBy before names c w → AreWithin before names (granted_by c w cs)
  by (Share access deny) is order had = within_shared before names c cs were distinct kept (ap is_share is) one lies
  by (Range (Bytes first last) exclusive) is order had = rw own (within_relocked before names c first last (Some (mode_of exclusive)) cs table own order (mode_had first last exclusive had) lies)
  by (Range (Empty offset) exclusive) is order had = absurd had
  by (Cache kind running) is order had = lies

-- ---- a cache that is wished for

one_cache : (before : Before) (names : List Name) (c b d : Claim) (kind other : CacheKind) → WereHeld before → IsIn b before.claims → IsIn d before.claims → IsOfParty before names c b → IsOfParty before names c d
    → AreDistinct names → cache_has b.what kind ≡ true → cache_has d.what other ≡ true → b ≡ d
one_cache before names c b d kind other were p q one two distinct has also = by (two_held is_single is_single-sym before.claims b d were.single p q) where
  caches : (w v : What) → cache_has w kind ≡ true → cache_has v other ≡ true → is_single_by b d w v ≡ not (same_parties b.party d.party)
  caches (Cache x y) (Cache u v) e f = refl
  caches (Range x y) v e f = absurd (both_ways false refl e)
  caches (Share x y) v e f = absurd (both_ways false refl e)
  caches (Cache x y) (Range u v) e f = absurd (both_ways false refl f)
  caches (Cache x y) (Share u v) e f = absurd (both_ways false refl f)

  parties_are : same_parties b.party d.party ≡ true
  parties_are =
      parties_by_name before.names b.party d.party one.name two.name were.distinct one.theirs two.theirs
      ∙ sym (parties_by_name names c.party c.party one.name two.name distinct one.mine two.mine)
      ∙ same_parties-self c.party

  double : is_single b d ≡ false
  double =
      ap (λ (x : Bool). not (x && not (is_single_by b d b.what d.what))) (eq-eqb b.file d.file (one.file ∙ sym two.file))
      ∙ ap (λ (x : Bool). not (not x)) (caches b.what d.what has also)
      ∙ ap (λ (x : Bool). not (not (not x))) parties_are

  by : (b ≡ d) ⊎ (is_single b d ≡ true) → b ≡ d
  by (inl e) = e
  by (inr alone) = absurd (both_ways (is_single b d) double alone)

has_joined : (w : What) (kind other least : CacheKind) → joined kind other ≡ Some least → cache_has w kind ≡ true → cache_has w other ≡ true → cache_has w least ≡ true
has_joined (Cache upper running) kind other least e h k = by (joined kind other) (joined_least kind other upper h k) e where
  by : (o : Option CacheKind) → IsSomeAnd o (λ l. kind_lies_within l upper ≡ true) → o ≡ Some least → kind_lies_within least upper ≡ true
  by None h e = absurd h
  by (Some l) h e = ap (λ (x : CacheKind). kind_lies_within x upper) (sym (same_Some l least e)) ∙ h
has_joined (Share x y) kind other least e h k = absurd (both_ways false refl h)
has_joined (Range x y) kind other least e h k = absurd (both_ways false refl h)

self_party : (before : Before) (names : List Name) (c held : Claim) → IsOfParty before names c held → is_by_party before names c held ≡ true
self_party before names c held one =
    and_from (held.file == c.file) _ (eq-eqb held.file c.file one.file)
    ((λ i. is_one_name (party_name before.names (one.theirs.is i)) (party_name names (one.mine.is i)))
    ∙ (λ i. is_one_name (one.theirs.at i) (one.mine.at i))
    ∙ same_name_self one.name)

joined_had : (before : Before) (names : List Name) (c : Claim) (kind other least : CacheKind) → WereHeld before → AreDistinct names → are_kept names c.owner c.party ≡ true → joined kind other ≡ Some least → had_cache before names c kind ≡ true → had_cache before names c other ≡ true → had_cache before names c least ≡ true
joined_had before names c kind other least were distinct kept e one two =
    let p = cached before names c kind were kept one in
    let q = cached before names c other were kept two in
    let same : p.held ≡ q.held = one_cache before names c p.held q.held kind other were p.there q.there p.own q.own distinct p.has q.has in
    any_from (λ held. is_by_party before names c held && cache_has held.what least) p.held before.claims p.there
    (and_from (is_by_party before names c p.held) _ (self_party before names c p.held p.own)
    (has_joined p.held.what kind other least e p.has (ap (λ (x : Claim). cache_has x.what other) same ∙ q.has)))

-- each kind of the wish was held before
abbrev pub HadKinds : Before → List Name → Wish → Type 0
HadKinds before names wanted = AllByRecursion (λ kind. had_cache before names (wished_claim wanted kind) kind ≡ true) wanted.kinds

best_had : (before : Before) (names : List Name) (wanted : Wish) (held : List Claim) (kind : CacheKind) → HadKinds before names wanted → best_of wanted held ≡ Some kind → had_cache before names (wished_claim wanted kind) kind ≡ true
best_had before names wanted held kind had e =
    let chosen = subst (λ (o : Option CacheKind). IfSome o (λ k. IsIn k wanted.kinds × (may_stand wanted held k ≡ true))) e (best_is_chosen wanted held) in
    all_in (λ k. had_cache before names (wished_claim wanted k) k ≡ true) kind wanted.kinds had chosen.0

raised_had : (before : Before) (names : List Name) (wanted : Wish) (own : Claim) (w : What) (held : List Claim) (kind : CacheKind) → WereHeld before → AreDistinct names → are_kept names own.owner own.party ≡ true → own.file ≡ wanted.file → own.party ≡ wanted.party
    → HadKinds before names wanted → IsWithinBy before names own w → raised_by wanted held w ≡ Some kind → had_cache before names own kind ≡ true
unfolding best_join_of
raised_had before names wanted own (Cache first None) held kind were distinct kept file party had one e =
    let found = subst (λ (o : Option CacheKind). IfSome o (λ k. IsIn k (filter_map (joined first) wanted.kinds) × (may_replace wanted held k ≡ true))) e (find_in (may_replace wanted held) (filter_map (joined first) wanted.kinds)) in
    let from = in_filter_map_from (joined first) kind wanted.kinds found.0 in
    joined_had before names own first from.0 kind were distinct kept from.2 one
    (same_cache before names own (wished_claim wanted from.0) from.0 file party ∙ all_in (λ k. had_cache before names (wished_claim wanted k) k ≡ true) from.0 wanted.kinds had from.1)
raised_had before names wanted own (Cache first (Some running)) held kind were distinct kept file party had one e = absurd cc
raised_had before names wanted own (Share access deny) held kind were distinct kept file party had one e = absurd cc
raised_had before names wanted own (Range extent exclusive) held kind were distinct kept file party had one e = absurd cc

-- the claims once a wish for what was held before is granted
pub within_wished : (before : Before) (names : List Name) (wanted : Wish) (s : CoreState) → WereHeld before → AreDistinct names → AllByRecursion (IsHeld names) s.claims → HadKinds before names wanted → AreWithin before names s.claims → AreWithin before names (once_wished wanted (wished_kind wanted s) s.claims)
unfolding wished_kind granted_kind
within_wished before names wanted s were distinct known had lies = by (wished_kind wanted s) (find (is_its_cache wanted) s.claims) refl refl where
  kind_is : (kind : CacheKind) (a b : Bool) (o : Option CacheKind) → (if a then None else if b then o else None) ≡ Some kind → o ≡ Some kind
  kind_is kind true b o e = absurd cc
  kind_is kind false true o e = e
  kind_is kind false false o e = absurd cc

  granted : (kind : CacheKind) → wished_kind wanted s ≡ Some kind → granted_beside wanted s.claims (find (is_its_cache wanted) s.claims) ≡ Some kind
  granted kind e = kind_is kind (is_waited_for wanted.file s) (has_room (find (is_its_cache wanted) s.claims) s.claims) _ e

  by : (o : Option CacheKind) (own : Option Claim) → wished_kind wanted s ≡ o → find (is_its_cache wanted) s.claims ≡ own → AreWithin before names (once_wished wanted o s.claims)
  by None own e f = lies
  by (Some kind) None e f =
      subst (λ (x : Option Claim). AreWithin before names (cached_in wanted kind x s.claims)) (sym f)
      (within_inserted before names (wished_claim wanted kind) s.claims (best_had before names wanted s.claims kind had (ap (λ (x : Option Claim). granted_beside wanted s.claims x) (sym f) ∙ granted kind e)) lies)
  by (Some kind) (Some own) e f =
      let found = found_own wanted s.claims own f in
      let parts = own_parts wanted own found.1 in
      let one = all_in (λ c. IsWithin before names c) own s.claims lies found.0 in
      let kept = (all_in (λ c. IsHeld names c) own s.claims known found.0).1 in
      subst (λ (x : Option Claim). AreWithin before names (cached_in wanted kind x s.claims)) (sym f)
      (within_changed before names own (Cache kind None) s.claims
      (same_cache before names (with_what own (Cache kind None)) own kind refl refl
      ∙ raised_had before names wanted own own.what s.claims kind were distinct kept parts.1 parts.2 had one (ap (λ (x : Option Claim). granted_beside wanted s.claims x) (sym f) ∙ granted kind e)) lies)

-- Claims of known clients stay so, and stay compatible, when a claim that nothing blocks is granted, and when a range is
-- unlocked.
use Rattle.std.proofs.Common.{◌≡◌, ℕ, ◌+◌, ◌<◌, ◌≤◌, Bool, true, false, not, cond, eqb, leb, ◌&&◌, ◌||◌, ◌⊎◌, inl, inr, List, [], ◌∷◌, length, map, Option, Some, None, refl, sym, ap, subst, ◌∙◌, arith, if◌then◌else◌}
use Rattle.std.specs.List.{AllByRecursion, list_any}
use Rattle.std.proofs.lemmas.Bool.{cases_Bool, and_parts, and_from, and_left, and_right, and_cases, or_left, or_right, or_parts, not-true, not-false, not_from_false, or_cases, eqb-true, eq-eqb, leb-true, lt-leb, le-leb, both_ways}
use Rattle.xl_base.specs.Lists.{IsIn, Pairwise}
use Rattle.xl_base.proofs.Members.{all_in, all_from, in_map_from, in_filter_from, pairwise_filter}
use Rattle.xl_base.specs.declared.name.Owner.{Owner}
use Rattle.xl_base.specs.declared.name.Owner.TheVariants as owners
use Rattle.xl_base.specs.declared.name.Party.{Party}
use Rattle.xl_base.specs.declared.name.Protocol.TheVariants.{Nlm, Nfs, Smb}
use Rattle.xl_matrix.specs.Equal.{same_owners, same_parties}
use Rattle.xl_matrix.specs.Kinds.{guarding}
use Rattle.xl_matrix.specs.declared.claim.Break.{Break}
use Rattle.xl_matrix.specs.declared.claim.CacheKind.{CacheKind}
use Rattle.xl_matrix.specs.Matrix.{compat, fit_by, lock_by, lock_on, locks_agree}
use Rattle.xl_matrix.specs.Owners.{posix}
use Rattle.xl_matrix.specs.declared.claim.Claim.{Claim}
use Rattle.xl_matrix.specs.declared.claim.Extent.{Extent}
use Rattle.xl_matrix.specs.declared.claim.Extent.TheVariants.{Bytes, Empty}
use Rattle.xl_matrix.specs.declared.claim.What.{What}
use Rattle.xl_matrix.specs.declared.claim.What.TheVariants.{Share, Range, Cache}
use Rattle.xl_matrix.proofs.EqualLaws.{eqb-sym, same_owners-sym, same_owners-true, same_parties-sym, same_parties-self}
use Rattle.xl_matrix.specs.declared.claim.Rwd.{Rwd}
use Rattle.xl_matrix.proofs.PartLaws.{compat_bytes}
use Rattle.xl_matrix.proofs.SideLaws.{compat-sym}
use Rattle.xl_names.specs.Names.{AreDistinct}
use Rattle.xl_names.specs.declared.name.Name.{Name}
use Rattle.xl_spans.specs.Spans.{within, mode_at, IsCanonical, relocked}
use Rattle.xl_spans.specs.declared.span.Mode.{Mode}
use Rattle.xl_spans.specs.declared.span.Span.{Span}
use Rattle.xl_spans.proofs.Bytes.{relocked_mode, AreRanges}
use Rattle.xl_spans.proofs.Chains.{canonical_ranges, canonical_rest, relocked_canonical, IsChain}
use Rattle.xl_table.specs.Flat.{inserted, blocks, is_blocked, is_own, is_replaced, is_met_by_own}
use Rattle.xl_table.specs.Held.{IsShareOrLock, may_own, is_share, is_cache, mode_of, is_range, has_one_party, with_span, is_of, spans_of, IsKept}
use Rattle.xl_table.proofs.FlatLaws.{all_inserted as all_put, pairwise_into}
use Rattle.xl_core.specs.Good.{IsRangeBy, IsRange, are_kept, IsKnown, IsHeldBy, IsHeld, is_single_by, is_single}
use Rattle.xl_table.specs.Relock.{most_claims, all_inserted, is_exclusive, range_claim, is_range_of, unranged, relocked_in, is_share_of, unshared, old_shares, united, shared_in, unites, united_by, granted_by, granted_claims}
use Rattle.xl_core.proofs.KnownLaws.{one_party}
use Rattle.xl_table.proofs.ElementLaws.{real_element, sound_element}
use Rattle.xl_table.proofs.OrderLaws.{inserted_ordered}
use Rattle.xl_table.proofs.UnionLaws.{united_fits}
use Rattle.xl_table.proofs.ShareLaws.{united_share, sound_shared, ordered_shared}
use Rattle.xl_table.proofs.WriteBack.{is_of-true, IsOfParty, relocked_is, left_all, left_pairwise, all_all_inserted, pairwise_all_inserted, kept_relocked, one_party_open}

-- ---- what the claims of an owner do to a byte

exclusive_mode : (exclusive : Bool) → is_exclusive (mode_of exclusive) ≡ exclusive
exclusive_mode true = refl
exclusive_mode false = refl

abbrev some_mode : Mode → Option Mode
some_mode m = Some m

abbrev some_flag : Bool → Option Bool
some_flag b = Some b

same_some : (a b : Mode) → some_mode a ≡ some_mode b → a ≡ b
same_some a b e = cc

by_what : (w : What) (rest : List Span) (x : ℕ) (m : Mode) → mode_at (with_span w rest) x ≡ Some m → (lock_by w x ≡ Some (is_exclusive m)) ⊎ (mode_at rest x ≡ Some m)
by_what (Range (Bytes first last) exclusive) rest x m e =
    elim (cases_Bool (within first last x)) [
      | inl inside ↦
          let same : mode_of exclusive ≡ m = same_some (mode_of exclusive) m (rw inside at e) in
          inl (rw inside (ap (λ (b : Bool). some_flag b) (sym (exclusive_mode exclusive) ∙ ap is_exclusive same)))
      | inr outside ↦ inr (rw outside at e)
    ]
by_what (Range (Empty offset) exclusive) rest x m e = inr e
by_what (Share access deny) rest x m e = inr e
by_what (Cache kind running) rest x m e = inr e

-- a claim of the owner locks the byte in this mode
abbrev Locks : ℕ → Owner → List Claim → ℕ → Mode → Type 0
Locks file owner cs x m = (c : Claim) × IsIn c cs × (is_of file owner c ≡ true) × (lock_on c x ≡ Some (is_exclusive m))

later : (file : ℕ) (owner : Owner) (c : Claim) (cs : List Claim) (x : ℕ) (m : Mode) → Locks file owner cs x m → Locks file owner (c ∷ cs) x m
later file owner c cs x m found = (found.0, inr found.1, found.2, found.3)

-- a byte that the owner's spans have is locked by one of the owner's claims
locked_by : (file : ℕ) (owner : Owner) (cs : List Claim) (x : ℕ) (m : Mode) → mode_at (spans_of file owner cs) x ≡ Some m → Locks file owner cs x m
locked_by file owner [] x m e = absurd cc
locked_by file owner (c ∷ cs) x m e =
    elim (cases_Bool (is_of file owner c)) [
      | inl own ↦ elim (by_what c.what (spans_of file owner cs) x m (rw own at e)) [
        | inl locks ↦ (c, inl refl, own, locks)
        | inr rest ↦ later file owner c cs x m (locked_by file owner cs x m rest)
      ]
      | inr other ↦ later file owner c cs x m (locked_by file owner cs x m (rw other at e))
    ]

-- ---- spans in order

chain_in : (lo : ℕ) (s : Span) (ss : List Span) → IsChain lo ss → IsIn s ss → lo ≤ s.first
chain_in lo s [] chain h = absurd h
chain_in lo s (t ∷ ts) chain h =
    elim h [
      | inl e ↦ subst (λ (u : Span). lo ≤ u.first) e chain.0
      | inr more ↦ omega (arith, chain.0, chain.1, chain_in (t.last + 1) s ts chain.2 more)
    ]

inside_ends : (s : Span) (x : ℕ) → within s.first s.last x ≡ true → (s.first ≤ x) × (x ≤ s.last)
inside_ends s x h = let parts = and_parts (leb s.first x) (leb x s.last) h in (leb-true s.first x parts.0, leb-true x s.last parts.1)

-- each byte of a span has its mode
mode_of_span : (s : Span) (ss : List Span) (x : ℕ) → IsCanonical ss → IsIn s ss → within s.first s.last x ≡ true → mode_at ss x ≡ Some s.mode
mode_of_span s [] x canonical h inside = absurd h
mode_of_span s (t ∷ ts) x canonical h inside =
    elim h [
      | inl e ↦ rw e (rw inside refl)
      | inr more ↦
          let past : t.last + 1 ≤ s.first = chain_in (t.last + 1) s ts (canonical_rest t ts canonical) more in
          let far : leb x t.last ≡ false = lt-leb x t.last (omega (arith, past, (inside_ends s x inside).0)) in
          rw (and_right (leb t.first x) (leb x t.last) far) (mode_of_span s ts x canonical.2 more inside)
    ]

-- ---- two claims of ranges, by their bytes

-- where the two do not agree on a byte, both lock it
abbrev Agrees : Claim → Claim → Type 0
Agrees a b = (x : ℕ) → locks_agree a.owner (lock_on a x) b.owner (lock_on b x) ≡ true

is_range_what : (w : What) → is_range w ≡ true → (extent : Extent) × (exclusive : Bool) × (w ≡ Range extent exclusive)
is_range_what (Range extent exclusive) h = (extent, exclusive, refl)
is_range_what (Share access deny) h = absurd (both_ways false refl h)
is_range_what (Cache kind running) h = absurd (both_ways false refl h)

ranged : (w : What) → IsRangeBy w → is_range w ≡ true
ranged (Range extent exclusive) h = refl
ranged (Share access deny) h = absurd h
ranged (Cache kind running) h = absurd h

agree_from : (a b : Claim) → IsRange a → is_range b.what ≡ true → a.file ≡ b.file → compat a b ≡ true → Agrees a b
agree_from a b range other one fits =
    let p = is_range_what a.what (ranged a.what range.0) in
    let q = is_range_what b.what other in
    (compat_bytes a b p.0 q.0 p.1 q.1 p.2 q.2 one range.1).0 fits

other_file : (a b : Claim) → eqb a.file b.file ≡ false → compat a b ≡ true
unfolding compat
other_file a b two = or_left (not (eqb a.file b.file)) (fit_by a b a.what b.what) (not_from_false (eqb a.file b.file) two)

-- a claim that locks a byte is a range
locks_range : (party : Party) (w : What) (x : ℕ) (b : Bool) → IsHeldBy party w → lock_by w x ≡ Some b → IsRangeBy w
locks_range party (Range (Bytes first last) exclusive) x b h e = h
locks_range party (Range (Empty offset) exclusive) x b h e = cc
locks_range party (Share access deny) x b h e = cc
locks_range party (Cache kind running) x b h e = cc

fits_from : (a b : Claim) → IsRange a → is_range b.what ≡ true → (a.file ≡ b.file → Agrees a b) → compat a b ≡ true
fits_from a b range other agrees =
    elim (cases_Bool (eqb a.file b.file)) [
      | inl one ↦
          let p = is_range_what a.what (ranged a.what range.0) in
          let q = is_range_what b.what other in
          let same = eqb-true a.file b.file one in
          (compat_bytes a b p.0 q.0 p.1 q.1 p.2 q.2 same range.1).1 (agrees same)
      | inr two ↦ other_file a b two
    ]

beside_share : (a b : Claim) (w : What) (access deny : Rwd) → IsRangeBy w → fit_by a b w (Share access deny) ≡ true
unfolding fit_by
beside_share a b (Range extent exclusive) access deny h = refl
beside_share a b (Share rights denied) access deny h = absurd h
beside_share a b (Cache kind running) access deny h = absurd h

beside_cache : (a b : Claim) (w : What) (kind : CacheKind) (running : Option Break) → IsRangeBy w → fit_by a b w (Cache kind running) ≡ same_parties a.party b.party
unfolding fit_by
beside_cache a b (Range extent exclusive) kind running h = refl
beside_cache a b (Share rights denied) kind running h = absurd h
beside_cache a b (Cache other due) kind running h = absurd h

fits_share : (a b : Claim) (access deny : Rwd) → IsRange a → b.what ≡ Share access deny → compat a b ≡ true
unfolding compat
fits_share a b access deny range share =
    or_right (not (eqb a.file b.file)) (fit_by a b a.what b.what) (ap (λ (w : What). fit_by a b a.what w) share ∙ beside_share a b a.what access deny range.0)

fits_of : (a b : Claim) → fit_by a b a.what b.what ≡ true → compat a b ≡ true
unfolding compat
fits_of a b fit = or_right (not (eqb a.file b.file)) (fit_by a b a.what b.what) fit

pub fit_of : (a b : Claim) → a.file ≡ b.file → compat a b ≡ true → fit_by a b a.what b.what ≡ true
unfolding compat
fit_of a b one fits =
    elim (or_cases (not (eqb a.file b.file)) (fit_by a b a.what b.what) fits) [
      | inr fit ↦ fit
      | inl two ↦ absurd (both_ways (eqb a.file b.file) (not-true (eqb a.file b.file) two) (eq-eqb a.file b.file one))
    ]

-- a range and a cache on one file go together where they are of one party
cache_party : (a b : Claim) (kind : CacheKind) (running : Option Break) → IsRange a → b.what ≡ Cache kind running → fit_by a b a.what b.what ≡ same_parties a.party b.party
cache_party a b kind running range is = ap (λ (w : What). fit_by a b a.what w) is ∙ beside_cache a b a.what kind running range.0

-- the claim's party is that of each cache on its file
abbrev IsCachesParty : Claim → Claim → Type 0
IsCachesParty a b = is_cache b.what ≡ true → a.file ≡ b.file → same_parties a.party b.party ≡ true

-- a range stands beside each share, beside a range that it agrees with, and beside its party's cache
fits_known : (a b : Claim) (w : What) → b.what ≡ w → IsRange a → IsCachesParty a b → (is_range b.what ≡ true → a.file ≡ b.file → Agrees a b) → compat a b ≡ true
fits_known a b (Share access deny) is range caches agrees = fits_share a b access deny range is
fits_known a b (Range extent exclusive) is range caches agrees = fits_from a b range (ap is_range is) (agrees (ap is_range is))
fits_known a b (Cache kind running) is range caches agrees =
    elim (cases_Bool (eqb a.file b.file)) [
      | inr two ↦ other_file a b two
      | inl one ↦ fits_of a b (cache_party a b kind running range is ∙ caches (ap is_cache is) (eqb-true a.file b.file one))
    ]

-- of two held claims at different places
pairwise_two : (cs : List Claim) (a b : Claim) → Pairwise compat cs → IsIn a cs → IsIn b cs → (a ≡ b → ⊥) → compat a b ≡ true
pairwise_two [] a b all h k apart = absurd h
pairwise_two (c ∷ cs) a b all h k apart =
    elim h [
      | inl e ↦ elim k [
        | inl f ↦ absurd (apart (sym e ∙ f))
        | inr more ↦ subst (λ d. compat d b ≡ true) e (all_in (λ d. compat c d ≡ true) b cs all.0 more)
      ]
      | inr here ↦ elim k [
        | inl f ↦ compat-sym a b ∙ subst (λ d. compat d a ≡ true) f (all_in (λ d. compat c d ≡ true) a cs all.0 here)
        | inr more ↦ pairwise_two cs a b all.1 here more apart
      ]
    ]

-- ---- the claims that are held

-- kept in a table's order and form, pairwise compatible, and what clients known by name may hold
pub record AreGood (names : List Name) (cs : List Claim) : Type 0 where
  pub kept : IsKept cs
  pub compatible : Pairwise compat cs
  pub single : Pairwise is_single cs
  pub known : AllByRecursion (IsHeld names) cs

-- ---- one share of an owner on a file

single_by : (a b : Claim) (w v : What) → is_range w ≡ true → is_single_by a b w v ≡ true
single_by a b (Range extent exclusive) v h = refl
single_by a b (Share access deny) v h = absurd (both_ways false refl h)
single_by a b (Cache kind running) v h = absurd (both_ways false refl h)

single_range : (a b : Claim) → is_range a.what ≡ true → is_single a b ≡ true
single_range a b range = rw (single_by a b a.what b.what range) (not_from_false (eqb a.file b.file && false) (and_right (eqb a.file b.file) false refl))

all_single : (cs : List Claim) → AllByRecursion IsRange cs → Pairwise is_single cs
all_single [] all = tt
all_single (c ∷ cs) all = (all_from (λ d. is_single c d ≡ true) cs (λ d h. single_range c d (ranged c.what all.0.0)), all_single cs all.1)

single_by-sym : (a b : Claim) (w v : What) → is_single_by a b w v ≡ is_single_by b a v w
single_by-sym a b (Share access deny) (Share rights denied) = ap not (same_owners-sym a.owner b.owner)
single_by-sym a b (Share access deny) (Range extent exclusive) = refl
single_by-sym a b (Share access deny) (Cache kind running) = refl
single_by-sym a b (Range extent exclusive) (Share rights denied) = refl
single_by-sym a b (Range extent exclusive) (Range place alone) = refl
single_by-sym a b (Range extent exclusive) (Cache kind running) = refl
single_by-sym a b (Cache kind running) (Share rights denied) = refl
single_by-sym a b (Cache kind running) (Range extent exclusive) = refl
single_by-sym a b (Cache kind running) (Cache other due) = ap not (same_parties-sym a.party b.party)

pub is_single-sym : (a b : Claim) → is_single a b ≡ is_single b a
is_single-sym a b = λ i. not (eqb-sym a.file b.file i && not (single_by-sym a b a.what b.what i))

-- ---- the relock

abbrev pub lock_claim : ℕ → Owner → Party → ℕ → ℕ → Bool → Claim
lock_claim file owner party first last exclusive = record { file = file; owner = owner; party = party; what = Range (Bytes first last) exclusive }

-- an ask that nothing held stands against: a lock whose claim is compatible with each of the others, or an unlock
abbrev pub IsFree : ℕ → Owner → Party → ℕ → ℕ → Option Bool → List Claim → Type 0
IsFree file owner party first last None cs = Unit {0}
IsFree file owner party first last (Some exclusive) cs = (c : Claim) → IsIn c cs → is_of file owner c ≡ false → compat (lock_claim file owner party first last exclusive) c ≡ true

abbrev pub mode_asked : Option Bool → Option Mode
mode_asked None = None
mode_asked (Some exclusive) = Some (mode_of exclusive)

-- a relock, and what it is asked of
record IsRelock (names : List Name) (file : ℕ) (owner : Owner) (party : Party) (first last : ℕ) (asked : Option Bool) (cs : List Claim) : Type 0 where
  distinct : AreDistinct names
  good : AreGood names cs
  ends : first ≤ last
  own : posix owner ≡ true
  client : are_kept names owner party ≡ true
  free : IsFree file owner party first last asked cs

abbrev new_spans : ℕ → Owner → ℕ → ℕ → Option Bool → List Claim → List Span
new_spans file owner first last asked cs = relocked (spans_of file owner cs) first last (mode_asked asked)

-- a POSIX owner's claims are of this party
party_of : (names : List Name) (file : ℕ) (owner : Owner) (party : Party) (cs : List Claim) (c : Claim) → posix owner ≡ true → AreDistinct names → AllByRecursion (IsHeld names) cs → are_kept names owner party ≡ true → IsIn c cs → is_of file owner c ≡ true → c.party ≡ party
party_of names file owner party cs c named distinct known kept h own =
    let is = all_in (IsHeld names) c cs known h in
    one_party names owner c.party party named distinct (subst (λ (o : Owner). are_kept names o c.party ≡ true) (is_of-true file owner c own).1 is.1) kept

-- what a byte of a new span was: asked for, or the owner's
new_mode : (names : List Name) (file : ℕ) (owner : Owner) (party : Party) (first last : ℕ) (asked : Option Bool) (cs : List Claim) (x : ℕ) (m : Mode)
    → IsRelock names file owner party first last asked cs → mode_at (new_spans file owner first last asked cs) x ≡ Some m
    → (cond (within first last x) (mode_asked asked) (mode_at (spans_of file owner cs) x)) ≡ Some m
new_mode names file owner party first last asked cs x m is e =
    sym (relocked_mode (spans_of file owner cs) first last (mode_asked asked) x is.ends (canonical_ranges (spans_of file owner cs) (is.good.kept.sound.canonical file owner is.own))) ∙ e

-- a byte of a new span agrees with another's claim: it was asked for, or the owner had it
new_agrees : (names : List Name) (file : ℕ) (owner : Owner) (party : Party) (first last : ℕ) (asked : Option Bool) (cs : List Claim) (c : Claim) (x : ℕ) (m : Mode)
    → IsRelock names file owner party first last asked cs → IsIn c cs → is_range c.what ≡ true → is_of file owner c ≡ false → file ≡ c.file
    → mode_at (new_spans file owner first last asked cs) x ≡ Some m → locks_agree owner (Some (is_exclusive m)) c.owner (lock_on c x) ≡ true
new_agrees names file owner party first last asked cs c x m is there range other one e =
    elim (cases_Bool (within first last x)) [
      | inl inside ↦ asked_agrees asked is.free inside (rw inside at modes)
      | inr outside ↦ held_agrees (locked_by file owner cs x m (rw outside at modes))
    ]
  where
    modes : (cond (within first last x) (mode_asked asked) (mode_at (spans_of file owner cs) x)) ≡ Some m
    modes = new_mode names file owner party first last asked cs x m is e

    held_agrees : Locks file owner cs x m → locks_agree owner (Some (is_exclusive m)) c.owner (lock_on c x) ≡ true
    held_agrees found =
        let parts = is_of-true file owner found.0 found.2 in
        let apart : found.0 ≡ c → ⊥ = λ same. both_ways (is_of file owner c) other (ap (is_of file owner) (sym same) ∙ found.2) in
        let fits = pairwise_two cs found.0 c is.good.compatible found.1 there apart in
        let known = (all_in (IsHeld names) found.0 cs is.good.known found.1).0 in
        let agrees = agree_from found.0 c (locks_range found.0.party found.0.what x (is_exclusive m) known.0 found.3, ap (λ (o : Owner). posix o) parts.1 ∙ is.own) range (parts.0 ∙ one) fits x in
        subst (λ (o : Owner). locks_agree o (Some (is_exclusive m)) c.owner (lock_on c x) ≡ true) parts.1
        (subst (λ (l : Option Bool). locks_agree found.0.owner l c.owner (lock_on c x) ≡ true) found.3 agrees)

    asked_agrees : (a : Option Bool) → IsFree file owner party first last a cs → within first last x ≡ true → mode_asked a ≡ Some m → locks_agree owner (Some (is_exclusive m)) c.owner (lock_on c x) ≡ true
    asked_agrees None f inside at = absurd cc
    asked_agrees (Some exclusive) f inside at =
        let ask = lock_claim file owner party first last exclusive in
        let agrees : locks_agree owner (lock_on ask x) c.owner (lock_on c x) ≡ true = agree_from ask c (is.ends, is.own) range one (f c there other) x in
        let locked : locks_agree owner (Some exclusive) c.owner (lock_on c x) ≡ true = rw inside at agrees in
        let same : exclusive ≡ is_exclusive m = sym (exclusive_mode exclusive) ∙ ap is_exclusive (same_some (mode_of exclusive) m at) in
        subst (λ (b : Bool). locks_agree owner (Some b) c.owner (lock_on c x) ≡ true) same locked

-- what is left is held, and is no range of the owner on the file
left_of : (file : ℕ) (owner : Owner) (cs : List Claim) (c : Claim) → IsIn c (unranged file owner cs) → IsIn c cs × (is_range_of file owner c ≡ false)
unfolding unranged
left_of file owner cs c h = let found = in_filter_from (λ (d : Claim). not (is_range_of file owner d)) c cs h in (found.0, not-true (is_range_of file owner c) found.1)

is_cache_what : (w : What) → is_cache w ≡ true → (kind : CacheKind) × (running : Option Break) × (w ≡ Cache kind running)
is_cache_what (Cache kind running) h = (kind, running, refl)
is_cache_what (Share access deny) h = absurd (both_ways false refl h)
is_cache_what (Range extent exclusive) h = absurd (both_ways false refl h)

first_inside : (s : Span) → s.first ≤ s.last → within s.first s.last s.first ≡ true
first_inside s ends = and_from (leb s.first s.first) (leb s.first s.last) (le-leb s.first s.first (omega arith)) (le-leb s.first s.last ends)

-- a cache on a new span's file is of the owner's party: it did not stand against the lock, or not against what the owner had
new_caches : (names : List Name) (file : ℕ) (owner : Owner) (party : Party) (first last : ℕ) (asked : Option Bool) (cs : List Claim) (s : Span) (c : Claim)
    → IsRelock names file owner party first last asked cs → IsIn s (new_spans file owner first last asked cs) → s.first ≤ s.last → IsIn c cs → IsCachesParty (range_claim file owner party s) c
new_caches names file owner party first last asked cs s c is new ends there cache one =
    elim (cases_Bool (is_of file owner c)) [
      | inl own ↦ subst (λ (p : Party). same_parties party p ≡ true) (sym (own_party c there own)) (same_parties-self party)
      | inr other ↦ elim (cases_Bool (within first last s.first)) [
        | inl inside ↦ by_ask other asked is.free (rw inside at modes)
        | inr outside ↦ by_old other (locked_by file owner cs s.first s.mode (rw outside at modes))
      ]
    ]
  where
    what : (kind : CacheKind) × (running : Option Break) × (c.what ≡ Cache kind running)
    what = is_cache_what c.what cache

    modes : (cond (within first last s.first) (mode_asked asked) (mode_at (spans_of file owner cs) s.first)) ≡ Some s.mode
    modes =
        new_mode names file owner party first last asked cs s.first s.mode is
        (mode_of_span s (new_spans file owner first last asked cs) s.first (relocked_canonical (spans_of file owner cs) first last (mode_asked asked) is.ends (is.good.kept.sound.canonical file owner is.own)) new (first_inside s ends))

    own_party : (d : Claim) → IsIn d cs → is_of file owner d ≡ true → d.party ≡ party
    own_party d h own = party_of names file owner party cs d is.own is.distinct is.good.known is.client h own

    by_ask : is_of file owner c ≡ false → (a : Option Bool) → IsFree file owner party first last a cs → mode_asked a ≡ Some s.mode → same_parties party c.party ≡ true
    by_ask other None free e = absurd cc
    by_ask other (Some exclusive) free e =
        let ask = lock_claim file owner party first last exclusive in
        sym (cache_party ask c what.0 what.1 (is.ends, is.own) what.2) ∙ fit_of ask c one (free c there other)

    by_old : is_of file owner c ≡ false → Locks file owner cs s.first s.mode → same_parties party c.party ≡ true
    by_old other found =
        let parts = is_of-true file owner found.0 found.2 in
        let known = (all_in (IsHeld names) found.0 cs is.good.known found.1).0 in
        let range : IsRange found.0 = (locks_range found.0.party found.0.what s.first (is_exclusive s.mode) known.0 found.3, ap (λ (o : Owner). posix o) parts.1 ∙ is.own) in
        let fits = pairwise_two cs found.0 c is.good.compatible found.1 there (λ same. both_ways (is_of file owner c) other (ap (is_of file owner) (sym same) ∙ found.2)) in
        subst (λ (p : Party). same_parties p c.party ≡ true) (own_party found.0 found.1 found.2)
        (sym (cache_party found.0 c what.0 what.1 range what.2) ∙ fit_of found.0 c (parts.0 ∙ one) fits)

-- a new span stands beside each claim that is left
new_fits : (names : List Name) (file : ℕ) (owner : Owner) (party : Party) (first last : ℕ) (asked : Option Bool) (cs : List Claim) (s : Span) (c : Claim)
    → IsRelock names file owner party first last asked cs → IsIn s (new_spans file owner first last asked cs) → IsRange (range_claim file owner party s) → IsIn c (unranged file owner cs) → compat (range_claim file owner party s) c ≡ true
new_fits names file owner party first last asked cs s c is new real there =
    fits_known (range_claim file owner party s) c c.what refl real (new_caches names file owner party first last asked cs s c is new real.0 held.0) (λ range one x. at x range one (cases_Bool (within s.first s.last x)))
  where
    held : IsIn c cs × (is_range_of file owner c ≡ false)
    held = left_of file owner cs c there

    canonical : IsCanonical (new_spans file owner first last asked cs)
    canonical = relocked_canonical (spans_of file owner cs) first last (mode_asked asked) is.ends (is.good.kept.sound.canonical file owner is.own)

    at : (x : ℕ) → is_range c.what ≡ true → file ≡ c.file → (within s.first s.last x ≡ true) ⊎ (within s.first s.last x ≡ false) → locks_agree owner (lock_on (range_claim file owner party s) x) c.owner (lock_on c x) ≡ true
    at x range one (inr outside) = rw outside refl
    at x range one (inl inside) =
        elim (cases_Bool (is_of file owner c)) [
          | inl own ↦ absurd (both_ways (is_range_of file owner c) held.1 (and_from (is_of file owner c) (is_range c.what) own range))
          | inr other ↦ rw inside (new_agrees names file owner party first last asked cs c x s.mode is held.0 range other one (mode_of_span s (new_spans file owner first last asked cs) x canonical new inside))
        ]

-- two spans of one owner do not meet
apart_fit : (file : ℕ) (owner : Owner) (party : Party) (s t : Span) → IsRange (range_claim file owner party s) → IsRange (range_claim file owner party t) → s.last < t.first → compat (range_claim file owner party s) (range_claim file owner party t) ≡ true
apart_fit file owner party s t real other apart =
    fits_from (range_claim file owner party s) (range_claim file owner party t) real refl (λ one x. elim (cases_Bool (within s.first s.last x)) [
      | inl inside ↦
          let before : leb t.first x ≡ false = lt-leb t.first x (omega (arith, apart, (inside_ends s x inside).1)) in
          rw (inside, and_left (leb t.first x) (leb x t.last) before) refl
      | inr outside ↦ rw outside refl
    ])

new_pairwise : (file : ℕ) (owner : Owner) (party : Party) (ss : List Span) → IsCanonical ss → AllByRecursion IsRange (map (range_claim file owner party) ss) → Pairwise compat (map (range_claim file owner party) ss)
new_pairwise file owner party [] canonical real = tt
new_pairwise file owner party (s ∷ ss) canonical real = (
  all_from (λ c. compat (range_claim file owner party s) c ≡ true) (map (range_claim file owner party) ss) (λ c h. fit c (in_map_from (range_claim file owner party) c ss h) (all_in IsRange c (map (range_claim file owner party) ss) real.1 h)),
  new_pairwise file owner party ss canonical.2 real.1,
)
  where
    fit : (c : Claim) → (t : Span) × IsIn t ss × (range_claim file owner party t ≡ c) → IsRange c → compat (range_claim file owner party s) c ≡ true
    fit c found range =
        let after : s.last + 1 ≤ found.0.first = chain_in (s.last + 1) found.0 ss (canonical_rest s ss canonical) found.1 in
        subst (λ d. compat (range_claim file owner party s) d ≡ true) found.2
        (apart_fit file owner party s found.0 real.0 (subst IsRange (sym found.2) range) (omega (arith, after)))

new_known : (names : List Name) (file : ℕ) (owner : Owner) (party : Party) (ss : List Span) → posix owner ≡ true → are_kept names owner party ≡ true → AreRanges ss → AllByRecursion (IsHeld names) (map (range_claim file owner party) ss)
new_known names file owner party [] own kept ranges = tt
new_known names file owner party (s ∷ ss) own kept ranges = (((ranges.0, or_left (posix owner) _ own), kept), new_known names file owner party ss own kept ranges.1)

new_ranges : (file : ℕ) (owner : Owner) (party : Party) (ss : List Span) → posix owner ≡ true → AreRanges ss → AllByRecursion IsRange (map (range_claim file owner party) ss)
new_ranges file owner party [] own ranges = tt
new_ranges file owner party (s ∷ ss) own ranges = ((ranges.0, own), new_ranges file owner party ss own ranges.1)

of_one_party : (names : List Name) (file : ℕ) (owner : Owner) (party : Party) (cs : List Claim) → posix owner ≡ true → AreDistinct names → AllByRecursion (IsHeld names) cs → are_kept names owner party ≡ true → IsOfParty file owner party cs
of_one_party names file owner party cs named distinct known kept c h own range = party_of names file owner party cs c named distinct known kept h own

-- the claims stay so where nothing stands against the lock, or where it is an unlock
pub relocked_good : (names : List Name) (file : ℕ) (owner : Owner) (party : Party) (first last : ℕ) (asked : Option Bool) (cs : List Claim)
    → AreDistinct names → AreGood names cs → first ≤ last → posix owner ≡ true → are_kept names owner party ≡ true → IsFree file owner party first last asked cs
    → length (relocked_in file owner party first last (mode_asked asked) cs) ≤ most_claims → AreGood names (relocked_in file owner party first last (mode_asked asked) cs)
relocked_good names file owner party first last asked cs distinct good ends own kept free fits = record {
  kept = kept_relocked file owner party first last (mode_asked asked) cs good.kept own ends (of_one_party names file owner party cs own distinct good.known kept) fits;
  compatible = subst (λ (ds : List Claim). Pairwise compat ds) same
      (pairwise_all_inserted compat compat-sym new left (new_pairwise file owner party spans canonical ranges) (left_pairwise compat file owner cs good.compatible) across);
  single = subst (λ (ds : List Claim). Pairwise is_single ds) same
      (pairwise_all_inserted is_single is_single-sym new left (all_single new ranges) (left_pairwise is_single file owner cs good.single) (λ c d h k. single_range c d (ranged c.what (all_in IsRange c new ranges h).0)));
  known = subst (λ (ds : List Claim). AllByRecursion (IsHeld names) ds) same
      (all_all_inserted (IsHeld names) new left known (left_all (IsHeld names) file owner cs good.known));
} where
  spans : List Span
  spans = new_spans file owner first last asked cs

  new : List Claim
  new = map (range_claim file owner party) spans

  left : List Claim
  left = unranged file owner cs

  same : all_inserted new left ≡ relocked_in file owner party first last (mode_asked asked) cs
  same = sym (relocked_is file owner party first last (mode_asked asked) cs)

  is : IsRelock names file owner party first last asked cs
  is = record { distinct = distinct; good = good; ends = ends; own = own; client = kept; free = free }

  canonical : IsCanonical spans
  canonical = relocked_canonical (spans_of file owner cs) first last (mode_asked asked) ends (good.kept.sound.canonical file owner own)

  known : AllByRecursion (IsHeld names) new
  known = new_known names file owner party spans own kept (canonical_ranges spans canonical)

  ranges : AllByRecursion IsRange new
  ranges = new_ranges file owner party spans own (canonical_ranges spans canonical)

  across : (c d : Claim) → IsIn c new → IsIn d left → compat c d ≡ true
  across c d h k =
      let from = in_map_from (range_claim file owner party) c spans h in
      subst (λ (e : Claim). compat e d ≡ true) from.2
      (new_fits names file owner party first last asked cs from.0 d is from.1 (subst IsRange (sym from.2) (all_in IsRange c new ranges h)) k)

-- ---- a grant

-- what does not block an ask fits it, if it is no range of its owner on its file
unblocked : (ask c : Claim) → blocks ask c ≡ false → is_of ask.file ask.owner c ≡ false → compat ask c ≡ true
unfolding blocks
unblocked ask c free other =
    elim (cases_Bool (eqb ask.file c.file)) [
      | inr two ↦ other_file ask c two
      | inl one ↦
          elim (and_cases (not (is_own ask c)) (not (compat ask c) || is_met_by_own ask c) free) [
            | inr e ↦ not-false (compat ask c) (or_parts (not (compat ask c)) (is_met_by_own ask c) e).0
            | inl e ↦
                let mine : is_own ask c ≡ true = not-false (is_own ask c) e in
                let same = (and_parts (same_owners ask.owner c.owner) _ mine).0 in
                absurd (both_ways (is_of ask.file ask.owner c) other
                (and_from (eqb c.file ask.file) (same_owners c.owner ask.owner) (eq-eqb c.file ask.file (sym (eqb-true ask.file c.file one))) (same_owners-sym c.owner ask.owner ∙ same)))
          ]
    ]

pub free_from : (ask : Claim) (cs : List Claim) → list_any (λ c. blocks ask c) cs ≡ false → (c : Claim) → IsIn c cs → is_of ask.file ask.owner c ≡ false → compat ask c ≡ true
free_from ask [] free c h other = absurd h
free_from ask (d ∷ ds) free c h other =
    let parts = or_parts (blocks ask d) (list_any (λ c. blocks ask c) ds) free in
    elim h [
      | inl e ↦ unblocked ask c (ap (blocks ask) (sym e) ∙ parts.0) other
      | inr there ↦ free_from ask ds parts.1 c there other
    ]

-- ---- a share

share_beside : (a b : Claim) (w v : What) → is_share w ≡ true → is_share v ≡ false → same_parties a.party b.party ≡ true → fit_by a b w v ≡ true
unfolding fit_by
share_beside a b (Share access deny) (Range extent exclusive) h other same = refl
share_beside a b (Share access deny) (Share rights denied) h other same = absurd (both_ways true other refl)
share_beside a b (Share access deny) (Cache kind running) h other same = or_left (same_parties a.party b.party) (not (guarding kind access deny)) same
share_beside a b (Range extent exclusive) v h other same = absurd (both_ways false refl h)
share_beside a b (Cache kind running) v h other same = absurd (both_ways false refl h)

-- a share that nothing blocks fits each claim that isn't its owner's share, where its owner's claims are of its party
share_fits_held : (c : Claim) (cs : List Claim) (d : Claim) → is_share c.what ≡ true → list_any (λ e. blocks c e) cs ≡ false → IsIn d cs → (is_of c.file c.owner d ≡ true → d.party ≡ c.party) → is_share_of c.file c.owner d ≡ false → compat c d ≡ true
share_fits_held c cs d share free there mine other =
    elim (cases_Bool (is_of c.file c.owner d)) [
      | inr apart ↦ free_from c cs free d there apart
      | inl own ↦
          fits_of c d
          (share_beside c d c.what d.what share (rw own at other) (subst (λ (p : Party). same_parties c.party p ≡ true) (sym (mine own)) (same_parties-self c.party)))
    ]

single_share : (c d : Claim) (w v : What) → is_share_of c.file c.owner d ≡ false → c.file ≡ d.file → d.what ≡ v → is_share w ≡ true → is_single_by c d w v ≡ true
single_share c d (Share access deny) (Share rights denied) other one is h =
    not_from_false (same_owners c.owner d.owner) (same_owners-sym c.owner d.owner ∙ apart)
  where
    apart : same_owners d.owner c.owner ≡ false
    apart =
        elim (cases_Bool (same_owners d.owner c.owner)) [
          | inr e ↦ e
          | inl same ↦ absurd (both_ways (is_share_of c.file c.owner d) other
              (and_from (is_of c.file c.owner d) (is_share d.what) (and_from (eqb d.file c.file) (same_owners d.owner c.owner) (eq-eqb d.file c.file (sym one)) same) (ap is_share is)))
        ]
single_share c d (Share access deny) (Range extent exclusive) other one is h = refl
single_share c d (Share access deny) (Cache kind running) other one is h = refl
single_share c d (Range extent exclusive) v other one is h = absurd (both_ways false refl h)
single_share c d (Cache kind running) v other one is h = absurd (both_ways false refl h)

share_single : (c d : Claim) → is_share c.what ≡ true → is_share_of c.file c.owner d ≡ false → is_single c d ≡ true
share_single c d share other =
    elim (cases_Bool (eqb c.file d.file)) [
      | inr two ↦ rw two refl
      | inl one ↦ rw (single_share c d c.what d.what other (eqb-true c.file d.file one) refl share) (not_from_false (eqb c.file d.file && false) (and_right (eqb c.file d.file) false refl))
    ]

-- a claim that is left is one that is held, and isn't the owner's share
unshared_of : (file : ℕ) (owner : Owner) (cs : List Claim) (d : Claim) → IsIn d (unshared file owner cs) → IsIn d cs × (is_share_of file owner d ≡ false)
unfolding unshared
unshared_of file owner cs d h = let found = in_filter_from (λ (e : Claim). not (is_share_of file owner e)) d cs h in (found.0, not-true (is_share_of file owner d) found.1)

left_two : (test : Claim → Claim → Bool) (file : ℕ) (owner : Owner) (cs : List Claim) → Pairwise test cs → Pairwise test (unshared file owner cs)
unfolding unshared
left_two test file owner cs all = pairwise_filter test (λ c. not (is_share_of file owner c)) cs all

share_owned : (owner : Owner) (w : What) → is_share w ≡ true → may_own owner w ≡ true
share_owned owner (Share access deny) h = refl
share_owned owner (Range extent exclusive) h = absurd (both_ways false refl h)
share_owned owner (Cache kind running) h = refl

held_share : (party : Party) (w : What) → is_share w ≡ true → IsHeldBy party w
held_share party (Share access deny) h = tt
held_share party (Range extent exclusive) h = absurd (both_ways false refl h)
held_share party (Cache kind running) h = absurd (both_ways false refl h)

-- what doesn't block an ask, and isn't the asker's own that it replaces, fits it
unblocked_other : (ask c : Claim) → blocks ask c ≡ false → is_own ask c ≡ false → compat ask c ≡ true
unfolding blocks
unblocked_other ask c free other =
    elim (and_cases (not (is_own ask c)) (not (compat ask c) || is_met_by_own ask c) free) [
      | inr e ↦ not-false (compat ask c) (or_parts (not (compat ask c)) (is_met_by_own ask c) e).0
      | inl e ↦ absurd (both_ways (is_own ask c) other (not-false (is_own ask c) e))
    ]

-- an open's own that an ask replaces is a share
not_replaced : (owner : Owner) (w : What) → posix owner ≡ false → is_share w ≡ false → is_replaced owner w ≡ false
not_replaced owner (Share access deny) e h = absurd (both_ways true h refl)
not_replaced owner (Range extent exclusive) e h = e
not_replaced owner (Cache kind running) e h = refl

free_of : (ask : Claim) (ds : List Claim) (e : Claim) → list_any (λ x. blocks ask x) ds ≡ false → IsIn e ds → blocks ask e ≡ false
free_of ask [] e none h = absurd h
free_of ask (x ∷ xs) e none h =
    let parts = or_parts (blocks ask x) (list_any (λ y. blocks ask y) xs) none in
    elim h [
      | inl same ↦ ap (blocks ask) (sym same) ∙ parts.0
      | inr more ↦ free_of ask xs e parts.1 more
    ]

-- an open's ask that nothing blocks fits each claim but the open's own share on its file
open_share_fits : (c : Claim) (cs : List Claim) (d : Claim) → posix c.owner ≡ false → list_any (λ e. blocks c e) cs ≡ false → IsIn d cs → is_share_of c.file c.owner d ≡ false → compat c d ≡ true
open_share_fits c cs d unnamed free there other =
    elim (cases_Bool (eqb c.file d.file)) [
      | inr two ↦ other_file c d two
      | inl one ↦ elim (cases_Bool (same_owners c.owner d.owner)) [
        | inr apart ↦ unblocked_other c d (free_of c cs d free there) (and_left (same_owners c.owner d.owner) (is_replaced d.owner d.what) apart)
        | inl same ↦ elim (cases_Bool (is_share d.what)) [
          | inr differs ↦ unblocked_other c d (free_of c cs d free there) (and_right (same_owners c.owner d.owner) (is_replaced d.owner d.what) (not_replaced d.owner d.what (ap (λ (o : Owner). posix o) (sym (same_owners-true c.owner d.owner same)) ∙ unnamed) differs))
          | inl share ↦ absurd (both_ways (is_share_of c.file c.owner d) other
              (and_from (is_of c.file c.owner d) (is_share d.what) (and_from (eqb d.file c.file) (same_owners d.owner c.owner) (eq-eqb d.file c.file (sym (eqb-true c.file d.file one))) (same_owners-sym d.owner c.owner ∙ same)) share))
        ]
      ]
    ]

-- an open's share stands alone
open_unites : (owner : Owner) → posix owner ≡ false → unites owner ≡ false
open_unites (owners.Open number) h = refl
open_unites (owners.Name Nlm number) h = refl
open_unites (owners.Name Nfs number) h = absurd (both_ways true h refl)
open_unites (owners.Name Smb number) h = refl

open_whole : (c : Claim) (cs : List Claim) (d : Claim) → posix c.owner ≡ false → compat c d ≡ true → compat (united c cs) d ≡ true
unfolding united_by
open_whole c cs d unnamed fits = rw (open_unites c.owner unnamed) fits

shared_good : (names : List Name) (c : Claim) (cs : List Claim) → is_share c.what ≡ true → are_kept names c.owner c.party ≡ true
    → AreDistinct names → AreGood names cs → list_any (λ d. blocks c d) cs ≡ false → length (shared_in c cs) ≤ most_claims → AreGood names (shared_in c cs)
unfolding shared_in
shared_good names c cs share kept distinct good free fits = record {
  kept = record { sound = sound_shared c cs good.kept share; ordered = ordered_shared c cs good.kept; room = fits };
  compatible = pairwise_into compat compat-sym whole left (all_from (λ d. compat whole d ≡ true) left beside) (left_two compat c.file c.owner cs good.compatible);
  single = pairwise_into is_single is_single-sym whole left (all_from (λ d. is_single whole d ≡ true) left (λ d h. share_single whole d one (unshared_of c.file c.owner cs d h).1)) (left_two is_single c.file c.owner cs good.single);
  known = all_put (IsHeld names) whole left ((held_share whole.party whole.what one, share_owned whole.owner whole.what one), kept) (all_from (IsHeld names) left (λ d h. all_in (IsHeld names) d cs good.known (unshared_of c.file c.owner cs d h).0));
} where
  whole : Claim
  whole = united c cs

  left : List Claim
  left = unshared c.file c.owner cs

  one : is_share whole.what ≡ true
  one = united_share c.owner c.what (old_shares c.file c.owner cs) share

  mine : posix c.owner ≡ true → (d : Claim) → IsIn d cs → is_of c.file c.owner d ≡ true → d.party ≡ c.party
  mine named d h is = party_of names c.file c.owner c.party cs d named distinct good.known kept h is

  -- the old share of a POSIX owner is of the party, and fits each claim that is left
  before : posix c.owner ≡ true → (d : Claim) → IsIn d cs → is_share_of c.file c.owner d ≡ false → (o : Claim) → IsIn o cs → is_share_of c.file c.owner o ≡ true → (o.party ≡ c.party) × (compat o d ≡ true)
  before named d there other o h old = (
    mine named o h (and_parts (is_of c.file c.owner o) (is_share o.what) old).0,
    pairwise_two cs o d good.compatible h there (λ e. both_ways (is_share_of c.file c.owner d) other (ap (is_share_of c.file c.owner) (sym e) ∙ old)),
  )

  beside : (d : Claim) → IsIn d left → compat whole d ≡ true
  beside d h =
      let found = unshared_of c.file c.owner cs d h in
      elim (cases_Bool (posix c.owner)) [
        | inr unnamed ↦ open_whole c cs d unnamed (open_share_fits c cs d unnamed free found.0 found.1)
        | inl named ↦
            united_fits c d cs share (share_fits_held c cs d share free found.0 (mine named d found.0) found.1)
            (all_from (λ o. is_share_of c.file c.owner o ≡ true → (o.party ≡ c.party) × (compat o d ≡ true)) cs (λ o k. before named d found.0 found.1 o k))
      ]

-- ---- a range of an open

range_share : (a b : Claim) (w v : What) → is_range w ≡ true → is_share v ≡ true → fit_by a b w v ≡ true
unfolding fit_by
range_share a b (Range extent exclusive) (Share access deny) h k = refl
range_share a b (Range extent exclusive) (Range place alone) h k = absurd (both_ways false refl k)
range_share a b (Range extent exclusive) (Cache kind running) h k = absurd (both_ways false refl k)
range_share a b (Share access deny) v h k = absurd (both_ways false refl h)
range_share a b (Cache kind running) v h k = absurd (both_ways false refl h)

element_fits : (c : Claim) (cs : List Claim) (d : Claim) → is_range c.what ≡ true → posix c.owner ≡ false → list_any (λ e. blocks c e) cs ≡ false → IsIn d cs → compat c d ≡ true
element_fits c cs d range unnamed free there =
    elim (cases_Bool (is_share d.what)) [
      | inl share ↦ fits_of c d (range_share c d c.what d.what range share)
      | inr other ↦ elim (cases_Bool (same_owners c.owner d.owner)) [
        | inl same ↦ unblocked_other c d (free_of c cs d free there) (and_right (same_owners c.owner d.owner) (is_replaced d.owner d.what) (not_replaced d.owner d.what (ap (λ (o : Owner). posix o) (sym (same_owners-true c.owner d.owner same)) ∙ unnamed) other))
        | inr apart ↦ unblocked_other c d (free_of c cs d free there) (and_left (same_owners c.owner d.owner) (is_replaced d.owner d.what) apart)
      ]
    ]

element_good : (names : List Name) (c : Claim) (cs : List Claim) → is_range c.what ≡ true → posix c.owner ≡ false → IsShareOrLock c.what → may_own c.owner c.what ≡ true → are_kept names c.owner c.party ≡ true
    → AreDistinct names → AreGood names cs → list_any (λ d. blocks c d) cs ≡ false → length (inserted c cs) ≤ most_claims → AreGood names (inserted c cs)
element_good names c cs range unnamed order own kept distinct good free fits = record {
  kept = record {
    sound = sound_element c cs good.kept.sound unnamed (real_element c c.what refl order own) (all_from (λ d. has_one_party c d ≡ true) cs (λ d h. one_party_open c d unnamed));
    ordered = inserted_ordered c cs good.kept.ordered;
    room = fits;
  };
  compatible = pairwise_into compat compat-sym c cs (all_from (λ d. compat c d ≡ true) cs (λ d h. element_fits c cs d range unnamed free h)) good.compatible;
  single = pairwise_into is_single is_single-sym c cs (all_from (λ d. is_single c d ≡ true) cs (λ d h. single_range c d range)) good.single;
  known = all_put (IsHeld names) c cs ((held_range c.party c.what range order, own), kept) good.known;
} where
  held_range : (party : Party) (w : What) → is_range w ≡ true → IsShareOrLock w → IsHeldBy party w
  held_range party (Range extent exclusive) h o = o
  held_range party (Share access deny) h o = tt
  held_range party (Cache kind running) h o = absurd (both_ways false refl h)

granted_by_good : (names : List Name) (c : Claim) (w : What) (cs : List Claim) → c.what ≡ w → IsShareOrLock w → may_own c.owner w ≡ true → are_kept names c.owner c.party ≡ true
    → AreDistinct names → AreGood names cs → list_any (λ d. blocks c d) cs ≡ false → length (granted_by c w cs) ≤ most_claims → AreGood names (granted_by c w cs)
granted_by_good names c (Range (Bytes first last) exclusive) cs is ends own kept distinct good free fits = by (posix c.owner) refl fits where
  is_lock : (c : Claim) (first last : ℕ) (exclusive : Bool) → c.what ≡ Range (Bytes first last) exclusive → c ≡ lock_claim c.file c.owner c.party first last exclusive
  is_lock c first last exclusive is = λ i. record { file = c.file; owner = c.owner; party = c.party; what = is i }

  by : (b : Bool) → posix c.owner ≡ b → length (if b then relocked_in c.file c.owner c.party first last (Some (mode_of exclusive)) cs else inserted c cs) ≤ most_claims → AreGood names (if b then relocked_in c.file c.owner c.party first last (Some (mode_of exclusive)) cs else inserted c cs)
  by true named room =
      relocked_good names c.file c.owner c.party first last (Some exclusive) cs distinct good ends named kept
      (λ d h other. subst (λ (e : Claim). compat e d ≡ true) (is_lock c first last exclusive is) (free_from c cs free d h other)) room
  by false unnamed room = element_good names c cs (ap is_range is) unnamed (subst IsShareOrLock (sym is) ends) (ap (may_own c.owner) is ∙ own) kept distinct good free room
granted_by_good names c (Range (Empty offset) exclusive) cs is none own kept distinct good free fits =
    element_good names c cs (ap is_range is) (not-true (posix c.owner) own) (subst IsShareOrLock (sym is) none) (ap (may_own c.owner) is ∙ own) kept distinct good free fits
granted_by_good names c (Share access deny) cs is none own kept distinct good free fits = shared_good names c cs (ap is_share is) kept distinct good free fits
granted_by_good names c (Cache kind running) cs is none own kept distinct good free fits = absurd none

-- the claims stay so where one is granted that nothing blocks
pub granted_good : (names : List Name) (c : Claim) (cs : List Claim) → AreDistinct names → AreGood names cs → IsKnown names c → is_blocked cs c ≡ false → length (granted_claims c cs) ≤ most_claims → AreGood names (granted_claims c cs)
unfolding granted_claims
granted_good names c cs distinct good known free fits = granted_by_good names c c.what cs refl known.0.0 known.0.1 known.1 distinct good free fits

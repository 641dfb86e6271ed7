-- What is compatible stays so when it is made weaker.
use Rattle.std.proofs.Common.{◌≡◌, ℕ, Bool, true, false, not, ◌&&◌, ◌||◌, ◌==◌, inl, inr, refl, sym, subst, ◌∙◌, arith}
use Rattle.std.proofs.lemmas.Bool.{cases_Bool, and_parts, and_from, or_cases, or_left, or_right, or_parts, or_from, eqb-true, not-true, not-false, not_from_false, not_from_true, both_ways}
use Rattle.std.proofs.lemmas.Bool.Decides.{nat_tests}
use Rattle.xl_base.specs.declared.name.Owner.{Owner}
use Rattle.xl_base.specs.declared.name.Party.{Party}
use Rattle.xl_matrix.specs.declared.claim.Rwd.{Rwd}
use Rattle.xl_matrix.specs.declared.claim.Extent.{Extent}
use Rattle.xl_matrix.specs.declared.claim.Extent.TheVariants.{Bytes, Empty}
use Rattle.xl_matrix.specs.declared.claim.CacheKind.{CacheKind}
use Rattle.xl_matrix.specs.declared.claim.CacheKind.TheVariants.{R, RH, RW, RWH, ReadDeleg, WriteDeleg}
use Rattle.xl_matrix.specs.declared.claim.What.{What}
use Rattle.xl_matrix.specs.declared.claim.What.TheVariants.{Share, Range, Cache}
use Rattle.xl_matrix.specs.declared.claim.Claim.{Claim}
use Rattle.xl_matrix.specs.Owners.{posix}
use Rattle.xl_matrix.specs.Rights.{implies, common, empty, rights_lie_within}
use Rattle.xl_matrix.specs.Extents.{meeting, has_both_sides, lies_in}
use Rattle.xl_matrix.specs.Kinds.{writes, guarding, kind_lies_within}
use Rattle.xl_matrix.specs.Equal.{same_owners, same_parties}
use Rattle.xl_matrix.specs.Matrix.{shares_fit, ranges_meet, modes_fit, ranges_fit, fit_by, compat}
use Rattle.xl_matrix.specs.Weaker.{weaker_by, weaker}
use Rattle.xl_matrix.proofs.EqualLaws.{same_owners-true, same_parties-true}

or_later : (x y z : Bool) → (y ≡ true → z ≡ true) → (x || y) ≡ true → (x || z) ≡ true
or_later x y z step h = elim (or_cases x y h) [ inl e ↦ or_left x z e | inr e ↦ or_right x z (step e) ]

-- a right that the second has not in common with a third, the first has not either
right_falls : (x y z : Bool) → implies x y ≡ true → (y && z) ≡ false → (x && z) ≡ false
right_falls false y z h k = refl
right_falls true y z h k = rw h at k

common_falls : (p q r : Rwd) → rights_lie_within p q ≡ true → common q r ≡ false → common p r ≡ false
common_falls p q r h k =
    let first = and_parts (implies p.r q.r) (implies p.w q.w && implies p.d q.d) h in
    let rest = and_parts (implies p.w q.w) (implies p.d q.d) first.1 in
    let none = or_parts (q.r && r.r) ((q.w && r.w) || (q.d && r.d)) k in
    let others = or_parts (q.w && r.w) (q.d && r.d) none.1 in
    or_from (p.r && r.r) ((p.w && r.w) || (p.d && r.d)) (right_falls p.r q.r r.r first.0 none.0)
    (or_from (p.w && r.w) (p.d && r.d) (right_falls p.w q.w r.w rest.0 others.0) (right_falls p.d q.d r.d rest.1 others.1))

common_falls_right : (p q r : Rwd) → rights_lie_within p q ≡ true → common r q ≡ false → common r p ≡ false
common_falls_right p q r h k = common-sym r p ∙ common_falls p q r h (common-sym q r ∙ k) where
  flip : (x y : Bool) → (x && y) ≡ (y && x)
  flip true true = refl
  flip true false = refl
  flip false true = refl
  flip false false = refl

  common-sym : (p q : Rwd) → common p q ≡ common q p
  common-sym p q = rw (flip p.r q.r, flip p.w q.w, flip p.d q.d) refl

shares_later : (access deny rights denied have ban : Rwd) → rights_lie_within access rights ≡ true → rights_lie_within deny denied ≡ true → shares_fit rights denied have ban ≡ true → shares_fit access deny have ban ≡ true
shares_later access deny rights denied have ban a d h =
    let both = and_parts (not (common rights ban)) (not (common have denied)) h in
    and_from (not (common access ban)) (not (common have deny))
    (not_from_false (common access ban) (common_falls access rights ban a (not-true (common rights ban) both.0)))
    (not_from_false (common have deny) (common_falls_right deny denied have d (not-true (common have denied) both.1)))

right_ends : (x y : Bool) → implies x y ≡ true → not y ≡ true → not x ≡ true
right_ends false y h k = refl
right_ends true y h k = rw h at k

right_gone : (x y : Bool) → implies x y ≡ true → y ≡ false → x ≡ false
right_gone false y h k = refl
right_gone true y h k = sym h ∙ k

empty_later : (p q : Rwd) → rights_lie_within p q ≡ true → empty q ≡ true → empty p ≡ true
empty_later p q h k =
    let first = and_parts (implies p.r q.r) (implies p.w q.w && implies p.d q.d) h in
    let rest = and_parts (implies p.w q.w) (implies p.d q.d) first.1 in
    let none = and_parts (not q.r) (not q.w && not q.d) k in
    let others = and_parts (not q.w) (not q.d) none.1 in
    and_from (not p.r) (not p.w && not p.d) (right_ends p.r q.r first.0 none.0)
    (and_from (not p.w) (not p.d) (right_ends p.w q.w rest.0 others.0) (right_ends p.d q.d rest.1 others.1))

nothing_later : (access deny rights denied : Rwd) → rights_lie_within access rights ≡ true → rights_lie_within deny denied ≡ true → not (empty rights && empty denied) ≡ false → not (empty access && empty deny) ≡ false
nothing_later access deny rights denied a d h =
    let both = and_parts (empty rights) (empty denied) (not-false (empty rights && empty denied) h) in
    not_from_true (empty access && empty deny) (and_from (empty access) (empty deny) (empty_later access rights a both.0) (empty_later deny denied d both.1))

-- a cache that does not stand against a share does not stand against less
guarding_falls : (kind : CacheKind) (access deny rights denied : Rwd) → rights_lie_within access rights ≡ true → rights_lie_within deny denied ≡ true → guarding kind rights denied ≡ false → guarding kind access deny ≡ false
guarding_falls R access deny rights denied a d h = refl
guarding_falls RH access deny rights denied a d h = refl
guarding_falls RW access deny rights denied a d h = nothing_later access deny rights denied a d h
guarding_falls RWH access deny rights denied a d h = nothing_later access deny rights denied a d h
guarding_falls ReadDeleg access deny rights denied a d h =
    let first = and_parts (implies access.r rights.r) (implies access.w rights.w && implies access.d rights.d) a in
    let w = and_parts (implies access.w rights.w) (implies access.d rights.d) first.1 in
    let r = and_parts (implies deny.r denied.r) (implies deny.w denied.w && implies deny.d denied.d) d in
    let none = or_parts rights.w denied.r h in
    or_from access.w deny.r (right_gone access.w rights.w w.0 none.0) (right_gone deny.r denied.r r.0 none.1)
guarding_falls WriteDeleg access deny rights denied a d h = nothing_later access deny rights denied a d h

-- what denies nothing and has no access neither writes nor denies reading
no_right_left : (access deny : Rwd) → not (empty access && empty deny) ≡ false → (access.w || deny.r) ≡ false
no_right_left access deny h =
    let both = and_parts (empty access) (empty deny) (not-false (empty access && empty deny) h) in
    let first = and_parts (not access.r) (not access.w && not access.d) both.0 in
    let writing = and_parts (not access.w) (not access.d) first.1 in
    let reading = and_parts (not deny.r) (not deny.w && not deny.d) both.1 in
    or_from access.w deny.r (not-true access.w writing.0) (not-true deny.r reading.0)

-- a kind within one that does not stand against a share does not either
guarding_less : (kind other : CacheKind) (access deny : Rwd) → kind_lies_within kind other ≡ true → guarding other access deny ≡ false → guarding kind access deny ≡ false
guarding_less R other access deny k h = refl
guarding_less RH other access deny k h = refl
guarding_less RW RW access deny k h = h
guarding_less RW RWH access deny k h = h
guarding_less RWH RWH access deny k h = h
guarding_less ReadDeleg ReadDeleg access deny k h = h
guarding_less ReadDeleg WriteDeleg access deny k h = no_right_left access deny h
guarding_less WriteDeleg WriteDeleg access deny k h = h
guarding_less _ _ access deny k h = absurd (both_ways false refl k)

writes_less : (kind other : CacheKind) → kind_lies_within kind other ≡ true → not (writes other) ≡ true → not (writes kind) ≡ true
writes_less R other k h = refl
writes_less RH other k h = refl
writes_less ReadDeleg other k h = refl
writes_less RW RW k h = h
writes_less RW RWH k h = h
writes_less RWH RWH k h = h
writes_less WriteDeleg WriteDeleg k h = h
writes_less _ _ k h = absurd (both_ways false refl k)

-- a range that lies in another meets only what the other meets
pub meeting_less : (smb : Bool) (a c b : Extent) → lies_in a c ≡ true → meeting smb a b ≡ true → meeting smb c b ≡ true
meeting_less smb (Bytes first last) (Bytes start end) (Bytes low high) h k = grind (arith, nat_tests)
meeting_less smb (Bytes first last) (Bytes start end) (Empty offset) h k =
    let both = and_parts smb (has_both_sides (Bytes first last) offset) k in
    and_from smb (has_both_sides (Bytes start end) offset) both.0 (sides_less first last start end offset h both.1)
  where
    sides_less : (first last start end offset : ℕ) → lies_in (Bytes first last) (Bytes start end) ≡ true → has_both_sides (Bytes first last) offset ≡ true → has_both_sides (Bytes start end) offset ≡ true
    sides_less first last start end offset h k = grind (arith, nat_tests)
meeting_less smb (Empty offset) (Empty at) b h k = subst (λ (n : ℕ). meeting smb (Empty n) b ≡ true) (eqb-true offset at h) k
meeting_less smb (Bytes first last) (Empty at) b h k = absurd (both_ways false refl h)
meeting_less smb (Empty offset) (Bytes start end) b h k = absurd (both_ways false refl h)

pub modes_less : (owner : Owner) (exclusive alone : Bool) (other : Owner) (mode : Bool) → implies exclusive alone ≡ true → modes_fit owner alone other mode ≡ true → modes_fit owner exclusive other mode ≡ true
modes_less owner false true other mode i h =
    elim (cases_Bool (same_owners owner other)) [
      | inl same ↦ rw same (and_from (not (posix owner)) true (and_parts (not (posix owner)) (not mode) (rw same at h)).0 refl)
      | inr apart ↦ absurd (both_ways false refl (rw apart at h))
    ]
modes_less owner false false other mode i h = h
modes_less owner true true other mode i h = h
modes_less owner true false other mode i h = absurd (both_ways false refl i)

ranges_later : (owner : Owner) (extent : Extent) (exclusive : Bool) (place : Extent) (alone : Bool) (other : Owner) (at : Extent) (mode : Bool) → lies_in extent place ≡ true → implies exclusive alone ≡ true → ranges_fit owner place alone other at mode ≡ true → ranges_fit owner extent exclusive other at mode ≡ true
ranges_later owner extent exclusive place alone other at mode l i h =
    elim (or_cases (not (ranges_meet owner place other at)) (modes_fit owner alone other mode) h) [
      | inl apart ↦ elim (cases_Bool (ranges_meet owner extent other at)) [
        | inl met ↦ absurd (both_ways (ranges_meet owner place other at) (not-true (ranges_meet owner place other at) apart) (meeting_less _ extent place at l met))
        | inr none ↦ or_left (not (ranges_meet owner extent other at)) (modes_fit owner exclusive other mode) (not_from_false (ranges_meet owner extent other at) none)
      ]
      | inr agree ↦ or_right (not (ranges_meet owner extent other at)) (modes_fit owner exclusive other mode) (modes_less owner exclusive alone other mode i agree)
    ]

fit_later : (a c b : Claim) (p q r : What) → a.party ≡ c.party → weaker_by a c p q ≡ true → fit_by c b q r ≡ true → fit_by a b p r ≡ true
unfolding fit_by weaker_by
fit_later a c b (Share access deny) (Share rights denied) (Share have ban) same w h =
    let owners = and_parts (same_owners a.owner c.owner) (rights_lie_within access rights && rights_lie_within deny denied) w in
    let within = and_parts (rights_lie_within access rights) (rights_lie_within deny denied) owners.1 in
    shares_later access deny rights denied have ban within.0 within.1 h
fit_later a c b (Share access deny) (Share rights denied) (Range extent exclusive) same w h = refl
fit_later a c b (Share access deny) (Share rights denied) (Cache kind running) same w h =
    let owners = and_parts (same_owners a.owner c.owner) (rights_lie_within access rights && rights_lie_within deny denied) w in
    let within = and_parts (rights_lie_within access rights) (rights_lie_within deny denied) owners.1 in
    subst (λ (p : Party). (same_parties p b.party || not (guarding kind access deny)) ≡ true) (sym same)
    (or_later (same_parties c.party b.party) (not (guarding kind rights denied)) (not (guarding kind access deny))
    (λ (free : not (guarding kind rights denied) ≡ true). not_from_false (guarding kind access deny) (guarding_falls kind access deny rights denied within.0 within.1 (not-true (guarding kind rights denied) free)))
    h)
fit_later a c b (Range extent exclusive) (Range place alone) (Share have ban) same w h = refl
fit_later a c b (Range extent exclusive) (Range place alone) (Range at mode) same w h =
    let owners = and_parts (same_owners a.owner c.owner) (lies_in extent place && implies exclusive alone) w in
    let within = and_parts (lies_in extent place) (implies exclusive alone) owners.1 in
    let one : a.owner ≡ c.owner = same_owners-true a.owner c.owner owners.0 in
    subst (λ (o : Owner). ranges_fit o extent exclusive b.owner at mode ≡ true) (sym one)
    (ranges_later c.owner extent exclusive place alone b.owner at mode within.0 within.1 h)
fit_later a c b (Range extent exclusive) (Range place alone) (Cache kind running) same w h =
    subst (λ (p : Party). same_parties p b.party ≡ true) (sym same) h
fit_later a c b (Cache kind running) (Cache other due) (Share have ban) same w h =
    subst (λ (p : Party). (same_parties p b.party || not (guarding kind have ban)) ≡ true) (sym same)
    (or_later (same_parties c.party b.party) (not (guarding other have ban)) (not (guarding kind have ban))
    (λ (free : not (guarding other have ban) ≡ true). not_from_false (guarding kind have ban) (guarding_less kind other have ban w (not-true (guarding other have ban) free)))
    h)
fit_later a c b (Cache kind running) (Cache other due) (Range at mode) same w h =
    subst (λ (p : Party). same_parties p b.party ≡ true) (sym same) h
fit_later a c b (Cache kind running) (Cache other due) (Cache third late) same w h =
    let apart = and_parts (not (same_parties c.party b.party)) (not (writes other) && not (writes third)) h in
    let quiet = and_parts (not (writes other)) (not (writes third)) apart.1 in
    subst (λ (p : Party). (not (same_parties p b.party) && (not (writes kind) && not (writes third))) ≡ true) (sym same)
    (and_from (not (same_parties c.party b.party)) (not (writes kind) && not (writes third)) apart.0
    (and_from (not (writes kind)) (not (writes third)) (writes_less kind other w quiet.0) quiet.1))
fit_later a c b _ _ r same w h = absurd (both_ways false refl w)

pub compat_later : (a c b : Claim) → weaker a c ≡ true → compat c b ≡ true → compat a b ≡ true
unfolding weaker compat
compat_later a c b w h =
    let first = and_parts (a.file == c.file) (same_parties a.party c.party && weaker_by a c a.what c.what) w in
    let rest = and_parts (same_parties a.party c.party) (weaker_by a c a.what c.what) first.1 in
    let file : a.file ≡ c.file = eqb-true a.file c.file first.0 in
    subst (λ (n : ℕ). (not (n == b.file) || fit_by a b a.what b.what) ≡ true) (sym file)
    (or_later (not (c.file == b.file)) (fit_by c b c.what b.what) (fit_by a b a.what b.what)
    (λ (fits : fit_by c b c.what b.what ≡ true). fit_later a c b a.what c.what b.what (same_parties-true a.party c.party rest.0) rest.1 fits)
    h)

-- Being no more than another is an order.
use Rattle.std.proofs.Common.{◌≡◌, Bool, true, false, ◌&&◌, ◌==◌, refl, ap, ◌∙◌, arith}
use Rattle.std.proofs.lemmas.Bool.{and_parts, and_from, eqb-true, eq-eqb}
use Rattle.std.proofs.lemmas.Bool.Decides.{nat_tests}
use Rattle.xl_base.specs.declared.name.Owner.{Owner}
use Rattle.xl_base.specs.declared.name.Party.{Party}
use Rattle.xl_matrix.specs.declared.claim.Rwd.{Rwd}
use Rattle.xl_matrix.specs.declared.claim.Extent.{Extent}
use Rattle.xl_matrix.specs.declared.claim.Extent.TheVariants.{Bytes, Empty}
use Rattle.xl_matrix.specs.declared.claim.CacheKind.{CacheKind}
use Rattle.xl_matrix.specs.declared.claim.CacheKind.TheVariants.{R, RH, RW, RWH, ReadDeleg, WriteDeleg}
use Rattle.xl_matrix.specs.declared.claim.What.{What}
use Rattle.xl_matrix.specs.declared.claim.What.TheVariants.{Share, Range, Cache}
use Rattle.xl_matrix.specs.declared.claim.Claim.{Claim}
use Rattle.xl_matrix.specs.Rights.{implies, rights_lie_within}
use Rattle.xl_matrix.specs.Extents.{lies_in}
use Rattle.xl_matrix.specs.Kinds.{kind_lies_within}
use Rattle.xl_matrix.specs.Equal.{same_owners, same_parties}
use Rattle.xl_matrix.specs.Weaker.{weaker_by, weaker}
use Rattle.xl_matrix.proofs.EqualLaws.{same_owners-true, same_owners-self, same_parties-true, same_parties-self}

implies-self : (p : Bool) → implies p p ≡ true
implies-self true = refl
implies-self false = refl

implies-on : (p q r : Bool) → implies p q ≡ true → implies q r ≡ true → implies p r ≡ true
implies-on false q r h k = refl
implies-on true true r h k = k
implies-on true false r h k = cc

rights-self : (p : Rwd) → rights_lie_within p p ≡ true
rights-self p = and_from (implies p.r p.r) (implies p.w p.w && implies p.d p.d) (implies-self p.r) (and_from (implies p.w p.w) (implies p.d p.d) (implies-self p.w) (implies-self p.d))

rights-on : (p q r : Rwd) → rights_lie_within p q ≡ true → rights_lie_within q r ≡ true → rights_lie_within p r ≡ true
rights-on p q r h k =
    let a = and_parts (implies p.r q.r) (implies p.w q.w && implies p.d q.d) h in
    let b = and_parts (implies p.w q.w) (implies p.d q.d) a.1 in
    let c = and_parts (implies q.r r.r) (implies q.w r.w && implies q.d r.d) k in
    let d = and_parts (implies q.w r.w) (implies q.d r.d) c.1 in
    and_from (implies p.r r.r) (implies p.w r.w && implies p.d r.d) (implies-on p.r q.r r.r a.0 c.0)
    (and_from (implies p.w r.w) (implies p.d r.d) (implies-on p.w q.w r.w b.0 d.0) (implies-on p.d q.d r.d b.1 d.1))

lies-self : (a : Extent) → lies_in a a ≡ true
lies-self (Bytes first last) = grind (arith, nat_tests)
lies-self (Empty offset) = eq-eqb offset offset refl

lies-on : (a b c : Extent) → lies_in a b ≡ true → lies_in b c ≡ true → lies_in a c ≡ true
lies-on (Bytes first last) (Bytes start end) (Bytes low high) h k = grind (arith, nat_tests)
lies-on (Empty offset) (Empty at) (Empty place) h k = eq-eqb offset place (eqb-true offset at h ∙ eqb-true at place k)
lies-on _ _ _ h k = cc

kinds-self : (a : CacheKind) → kind_lies_within a a ≡ true
kinds-self R = refl
kinds-self RH = refl
kinds-self RW = refl
kinds-self RWH = refl
kinds-self ReadDeleg = refl
kinds-self WriteDeleg = refl

kinds-on : (a b c : CacheKind) → kind_lies_within a b ≡ true → kind_lies_within b c ≡ true → kind_lies_within a c ≡ true
kinds-on R b R h k = refl
kinds-on R b RH h k = refl
kinds-on R b RW h k = refl
kinds-on R b RWH h k = refl
kinds-on RH b RH h k = refl
kinds-on RH b RWH h k = refl
kinds-on RW b RW h k = refl
kinds-on RW b RWH h k = refl
kinds-on RWH b RWH h k = refl
kinds-on ReadDeleg b ReadDeleg h k = refl
kinds-on ReadDeleg b WriteDeleg h k = refl
kinds-on WriteDeleg b WriteDeleg h k = refl
kinds-on a R c h k = below a c h k where
  below : (a c : CacheKind) → kind_lies_within a R ≡ true → kind_lies_within R c ≡ true → kind_lies_within a c ≡ true
  below R c h k = k
  below _ c h k = cc
kinds-on RH RH c h k = k
kinds-on RW RW c h k = k
kinds-on _ _ _ h k = cc

what-self : (a : Claim) (w : What) → weaker_by a a w w ≡ true
unfolding weaker_by
what-self a (Share access deny) = and_from (same_owners a.owner a.owner) (rights_lie_within access access && rights_lie_within deny deny) (same_owners-self a.owner) (and_from (rights_lie_within access access) (rights_lie_within deny deny) (rights-self access) (rights-self deny))
what-self a (Range extent exclusive) = and_from (same_owners a.owner a.owner) (lies_in extent extent && implies exclusive exclusive) (same_owners-self a.owner) (and_from (lies_in extent extent) (implies exclusive exclusive) (lies-self extent) (implies-self exclusive))
what-self a (Cache kind running) = kinds-self kind

pub weaker-self : (a : Claim) → weaker a a ≡ true
unfolding weaker
weaker-self a = and_from (a.file == a.file) (same_parties a.party a.party && weaker_by a a a.what a.what) (eq-eqb a.file a.file refl) (and_from (same_parties a.party a.party) (weaker_by a a a.what a.what) (same_parties-self a.party) (what-self a a.what))

owners-on : (a b c : Claim) → same_owners a.owner b.owner ≡ true → same_owners b.owner c.owner ≡ true → same_owners a.owner c.owner ≡ true
owners-on a b c h k = ap (λ (o : Owner). same_owners o c.owner) (same_owners-true a.owner b.owner h) ∙ k

what-on : (a b c : Claim) (p q r : What) → weaker_by a b p q ≡ true → weaker_by b c q r ≡ true → weaker_by a c p r ≡ true
unfolding weaker_by
what-on a b c (Share access deny) (Share rights denied) (Share have ban) h k =
    let one = and_parts (same_owners a.owner b.owner) (rights_lie_within access rights && rights_lie_within deny denied) h in
    let two = and_parts (same_owners b.owner c.owner) (rights_lie_within rights have && rights_lie_within denied ban) k in
    let first = and_parts (rights_lie_within access rights) (rights_lie_within deny denied) one.1 in
    let second = and_parts (rights_lie_within rights have) (rights_lie_within denied ban) two.1 in
    and_from (same_owners a.owner c.owner) (rights_lie_within access have && rights_lie_within deny ban) (owners-on a b c one.0 two.0)
    (and_from (rights_lie_within access have) (rights_lie_within deny ban) (rights-on access rights have first.0 second.0) (rights-on deny denied ban first.1 second.1))
what-on a b c (Range extent exclusive) (Range place alone) (Range at mode) h k =
    let one = and_parts (same_owners a.owner b.owner) (lies_in extent place && implies exclusive alone) h in
    let two = and_parts (same_owners b.owner c.owner) (lies_in place at && implies alone mode) k in
    let first = and_parts (lies_in extent place) (implies exclusive alone) one.1 in
    let second = and_parts (lies_in place at) (implies alone mode) two.1 in
    and_from (same_owners a.owner c.owner) (lies_in extent at && implies exclusive mode) (owners-on a b c one.0 two.0)
    (and_from (lies_in extent at) (implies exclusive mode) (lies-on extent place at first.0 second.0) (implies-on exclusive alone mode first.1 second.1))
what-on a b c (Cache kind running) (Cache other due) (Cache third late) h k = kinds-on kind other third h k
what-on a b c _ _ _ h k = cc

pub weaker-on : (a b c : Claim) → weaker a b ≡ true → weaker b c ≡ true → weaker a c ≡ true
unfolding weaker
weaker-on a b c h k =
    let one = and_parts (a.file == b.file) (same_parties a.party b.party && weaker_by a b a.what b.what) h in
    let two = and_parts (same_parties a.party b.party) (weaker_by a b a.what b.what) one.1 in
    let three = and_parts (b.file == c.file) (same_parties b.party c.party && weaker_by b c b.what c.what) k in
    let four = and_parts (same_parties b.party c.party) (weaker_by b c b.what c.what) three.1 in
    and_from (a.file == c.file) (same_parties a.party c.party && weaker_by a c a.what c.what)
    (eq-eqb a.file c.file (eqb-true a.file b.file one.0 ∙ eqb-true b.file c.file three.0))
    (and_from (same_parties a.party c.party) (weaker_by a c a.what c.what)
    (ap (λ (p : Party). same_parties p c.party) (same_parties-true a.party b.party two.0) ∙ four.0)
    (what-on a b c a.what b.what c.what two.1 four.1))

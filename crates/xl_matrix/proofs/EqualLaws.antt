-- Each test of equality says that the two are equal, and has no sides.
use Rattle.std.proofs.Common.{◌≡◌, ℕ, Bool, true, false, ◌&&◌, ◌==◌, Option, Some, None, refl, sym, ap, subst, ◌∙◌, arith, IsTrue, ◌↔◌}
use Rattle.std.proofs.lemmas.Bool.{and_parts, and_from, eqb-true, eq-eqb}
use Rattle.std.proofs.lemmas.Bool.Decides.{nat_tests}
use Rattle.xl_base.specs.declared.name.Protocol.{Protocol}
use Rattle.xl_base.specs.declared.name.Protocol.TheVariants.{Nlm, Nfs, Smb}
use Rattle.xl_base.specs.declared.name.Owner.{Owner}
use Rattle.xl_base.specs.declared.name.Owner.TheVariants as owner
use Rattle.xl_base.specs.declared.name.Party.{Party}
use Rattle.xl_base.specs.declared.name.Party.TheVariants as party
use Rattle.xl_base.specs.Stable.{same_protocol}
use Rattle.xl_matrix.specs.declared.claim.Rwd.{Rwd}
use Rattle.xl_matrix.specs.declared.claim.Extent.{Extent}
use Rattle.xl_matrix.specs.declared.claim.Extent.TheVariants.{Bytes, Empty}
use Rattle.xl_matrix.specs.declared.claim.CacheKind.{CacheKind}
use Rattle.xl_matrix.specs.declared.claim.CacheKind.TheVariants.{R, RH, RW, RWH, ReadDeleg, WriteDeleg}
use Rattle.xl_matrix.specs.declared.claim.Break.{Break}
use Rattle.xl_matrix.specs.declared.claim.What.{What}
use Rattle.xl_matrix.specs.declared.claim.What.TheVariants.{Share, Range, Cache}
use Rattle.xl_matrix.specs.declared.claim.Claim.{Claim}
use Rattle.xl_matrix.specs.Equal.{same_owners, same_parties, same_flag, same_rights, same_extent, same_kind, same_target, same_break, same_what, same_claims}

same_protocol-true : (a b : Protocol) → same_protocol a b ≡ true → a ≡ b
same_protocol-true Nlm Nlm h = refl
same_protocol-true Nfs Nfs h = refl
same_protocol-true Smb Smb h = refl
same_protocol-true _ _ h = cc

same_protocol-self : (a : Protocol) → same_protocol a a ≡ true
same_protocol-self Nlm = refl
same_protocol-self Nfs = refl
same_protocol-self Smb = refl

pub same_owners-true : (a b : Owner) → same_owners a b ≡ true → a ≡ b
same_owners-true (owner.Name p n) (owner.Name q m) h =
    let both = and_parts (same_protocol p q) (n == m) h in
    let e : p ≡ q = same_protocol-true p q both.0 in
    let f : n ≡ m = eqb-true n m both.1 in
    cc
same_owners-true (owner.Open n) (owner.Open m) h = ap (λ (k : ℕ). owner.Open k) (eqb-true n m h)
same_owners-true _ _ h = cc

pub same_owners-self : (a : Owner) → same_owners a a ≡ true
same_owners-self (owner.Name p n) = and_from _ _ (same_protocol-self p) (eq-eqb n n refl)
same_owners-self (owner.Open n) = eq-eqb n n refl

pub same_parties-true : (a b : Party) → same_parties a b ≡ true → a ≡ b
same_parties-true (party.Name p n) (party.Name q m) h =
    let both = and_parts (same_protocol p q) (n == m) h in
    let e : p ≡ q = same_protocol-true p q both.0 in
    let f : n ≡ m = eqb-true n m both.1 in
    cc
same_parties-true (party.Open n) (party.Open m) h = ap (λ (k : ℕ). party.Open k) (eqb-true n m h)
same_parties-true _ _ h = cc

pub same_parties-self : (a : Party) → same_parties a a ≡ true
same_parties-self (party.Name p n) = and_from _ _ (same_protocol-self p) (eq-eqb n n refl)
same_parties-self (party.Open n) = eq-eqb n n refl

same_flag-true : (a b : Bool) → same_flag a b ≡ true → a ≡ b
same_flag-true true true h = refl
same_flag-true false false h = refl
same_flag-true _ _ h = cc

same_flag-self : (a : Bool) → same_flag a a ≡ true
same_flag-self true = refl
same_flag-self false = refl

same_rights-true : (p q : Rwd) → same_rights p q ≡ true → p ≡ q
same_rights-true p q h =
    let first = and_parts (same_flag p.r q.r) (same_flag p.w q.w && same_flag p.d q.d) h in
    let rest = and_parts (same_flag p.w q.w) (same_flag p.d q.d) first.1 in
    let made : Bool → Bool → Bool → Rwd = λ r w d. record { r = r; w = w; d = d } in
    ap (λ (r : Bool). made r p.w p.d) (same_flag-true p.r q.r first.0)
    ∙ ap (λ (w : Bool). made q.r w p.d) (same_flag-true p.w q.w rest.0)
    ∙ ap (λ (d : Bool). made q.r q.w d) (same_flag-true p.d q.d rest.1)

same_rights-self : (p : Rwd) → same_rights p p ≡ true
same_rights-self p = and_from _ _ (same_flag-self p.r) (and_from _ _ (same_flag-self p.w) (same_flag-self p.d))

same_extent-true : (a b : Extent) → same_extent a b ≡ true → a ≡ b
same_extent-true (Bytes first last) (Bytes start end) h =
    let both = and_parts (first == start) (last == end) h in
    let e : first ≡ start = eqb-true first start both.0 in
    let f : last ≡ end = eqb-true last end both.1 in
    cc
same_extent-true (Empty n) (Empty m) h = ap (λ (k : ℕ). Empty k) (eqb-true n m h)
same_extent-true _ _ h = cc

same_extent-self : (a : Extent) → same_extent a a ≡ true
same_extent-self (Bytes first last) = and_from _ _ (eq-eqb first first refl) (eq-eqb last last refl)
same_extent-self (Empty n) = eq-eqb n n refl

same_kind-true : (a b : CacheKind) → same_kind a b ≡ true → a ≡ b
same_kind-true R R h = refl
same_kind-true RH RH h = refl
same_kind-true RW RW h = refl
same_kind-true RWH RWH h = refl
same_kind-true ReadDeleg ReadDeleg h = refl
same_kind-true WriteDeleg WriteDeleg h = refl
same_kind-true _ _ h = cc

same_kind-self : (a : CacheKind) → same_kind a a ≡ true
same_kind-self R = refl
same_kind-self RH = refl
same_kind-self RW = refl
same_kind-self RWH = refl
same_kind-self ReadDeleg = refl
same_kind-self WriteDeleg = refl

same_target-true : (a b : Option CacheKind) → same_target a b ≡ true → a ≡ b
same_target-true None None h = refl
same_target-true (Some kind) (Some other) h = ap (λ (k : CacheKind). Some k) (same_kind-true kind other h)
same_target-true _ _ h = cc

same_target-self : (a : Option CacheKind) → same_target a a ≡ true
same_target-self None = refl
same_target-self (Some kind) = same_kind-self kind

same_break-true : (a b : Option Break) → same_break a b ≡ true → a ≡ b
same_break-true None None h = refl
same_break-true (Some p) (Some q) h =
    let both = and_parts (same_target p.target q.target) (p.deadline.0 == q.deadline.0) h in
    let made : Option CacheKind → ℕ → Option Break = λ t n. Some (record { target = t; deadline = record { 0 = n } }) in
    ap (λ (t : Option CacheKind). made t p.deadline.0) (same_target-true p.target q.target both.0)
    ∙ ap (λ (n : ℕ). made q.target n) (eqb-true p.deadline.0 q.deadline.0 both.1)
same_break-true _ _ h = cc

same_break-self : (a : Option Break) → same_break a a ≡ true
same_break-self None = refl
same_break-self (Some p) = and_from _ _ (same_target-self p.target) (eq-eqb p.deadline.0 p.deadline.0 refl)

same_what-true : (a b : What) → same_what a b ≡ true → a ≡ b
unfolding same_what
same_what-true (Share access deny) (Share rights denied) h =
    let both = and_parts (same_rights access rights) (same_rights deny denied) h in
    let e : access ≡ rights = same_rights-true access rights both.0 in
    let f : deny ≡ denied = same_rights-true deny denied both.1 in
    cc
same_what-true (Range extent exclusive) (Range place alone) h =
    let both = and_parts (same_extent extent place) (same_flag exclusive alone) h in
    let e : extent ≡ place = same_extent-true extent place both.0 in
    let f : exclusive ≡ alone = same_flag-true exclusive alone both.1 in
    cc
same_what-true (Cache kind running) (Cache other due) h =
    let both = and_parts (same_kind kind other) (same_break running due) h in
    let e : kind ≡ other = same_kind-true kind other both.0 in
    let f : running ≡ due = same_break-true running due both.1 in
    cc
same_what-true _ _ h = cc

same_what-self : (a : What) → same_what a a ≡ true
unfolding same_what
same_what-self (Share access deny) = and_from _ _ (same_rights-self access) (same_rights-self deny)
same_what-self (Range extent exclusive) = and_from _ _ (same_extent-self extent) (same_flag-self exclusive)
same_what-self (Cache kind running) = and_from _ _ (same_kind-self kind) (same_break-self running)

pub same_claims-true : (a b : Claim) → same_claims a b ≡ true → a ≡ b
unfolding same_claims
same_claims-true a b h =
    let first = and_parts (a.file == b.file) (same_owners a.owner b.owner && (same_parties a.party b.party && same_what a.what b.what)) h in
    let second = and_parts (same_owners a.owner b.owner) (same_parties a.party b.party && same_what a.what b.what) first.1 in
    let third = and_parts (same_parties a.party b.party) (same_what a.what b.what) second.1 in
    let made : ℕ → Owner → Party → What → Claim = λ f o p w. record { file = f; owner = o; party = p; what = w } in
    ap (λ (f : ℕ). made f a.owner a.party a.what) (eqb-true a.file b.file first.0)
    ∙ ap (λ (o : Owner). made b.file o a.party a.what) (same_owners-true a.owner b.owner second.0)
    ∙ ap (λ (p : Party). made b.file b.owner p a.what) (same_parties-true a.party b.party third.0)
    ∙ ap (λ (w : What). made b.file b.owner b.party w) (same_what-true a.what b.what third.1)

pub same_claims-self : (a : Claim) → same_claims a a ≡ true
unfolding same_claims
same_claims-self a =
    and_from _ _ (eq-eqb a.file a.file refl)
    (and_from _ _ (same_owners-self a.owner) (and_from _ _ (same_parties-self a.party) (same_what-self a.what)))

pub same_claims_iff : (test : Bool) (a b : Claim) → test ≡ same_claims a b → IsTrue test ↔ (a ≡ b)
same_claims_iff test a b h =
    ((λ t. same_claims-true a b (sym h ∙ t)), (λ e. h ∙ subst (λ (c : Claim). same_claims a c ≡ true) e (same_claims-self a)))

-- one test of two equal things gives one answer on both sides
pub eqb-sym : (n m : ℕ) → (n == m) ≡ (m == n)
eqb-sym n m = grind (arith, nat_tests)

same_protocol-sym : (a b : Protocol) → same_protocol a b ≡ same_protocol b a
same_protocol-sym Nlm Nlm = refl
same_protocol-sym Nfs Nfs = refl
same_protocol-sym Smb Smb = refl
same_protocol-sym Nlm Nfs = refl
same_protocol-sym Nlm Smb = refl
same_protocol-sym Nfs Nlm = refl
same_protocol-sym Nfs Smb = refl
same_protocol-sym Smb Nlm = refl
same_protocol-sym Smb Nfs = refl

pub same_owners-sym : (a b : Owner) → same_owners a b ≡ same_owners b a
same_owners-sym (owner.Name p n) (owner.Name q m) = rw (same_protocol-sym p q, eqb-sym n m) refl
same_owners-sym (owner.Name p n) (owner.Open m) = refl
same_owners-sym (owner.Open n) (owner.Name q m) = refl
same_owners-sym (owner.Open n) (owner.Open m) = eqb-sym n m

pub same_parties-sym : (a b : Party) → same_parties a b ≡ same_parties b a
same_parties-sym (party.Name p n) (party.Name q m) = rw (same_protocol-sym p q, eqb-sym n m) refl
same_parties-sym (party.Name p n) (party.Open m) = refl
same_parties-sym (party.Open n) (party.Name q m) = refl
same_parties-sym (party.Open n) (party.Open m) = eqb-sym n m
